-- The plain trees of terms: functions, predicates and constants of the algebra after KOLA.
use Rattle.std.specs.Prelude.{ℕ, ℤ, Bool, List}
use Rattle.kola_values.specs.Values.{ValueTree}

pub data ConstTree : Type 0 where
  CInt : (n : ℤ) → ConstTree
  CBool : (b : Bool) → ConstTree
  CStr : (text : List ℕ) → ConstTree
  CSet : (members : List ValueTree) → ConstTree
  CExtent : (name : List ℕ) → ConstTree
  CMeta : (name : List ℕ) → ConstTree

mutual
  pub data FunTree : Type 0 where
    FId FFst FSnd FFlat FUnion FIsect FMinus : FunTree
    FAttr : (name : List ℕ) → FunTree
    FComp : (f g : FunTree) → FunTree
    FPair : (f g : FunTree) → FunTree
    FTimes : (f g : FunTree) → FunTree
    FK : (c : ConstTree) → FunTree
    FC : (f : FunTree) (c : ConstTree) → FunTree
    FIf : (p : PredTree) (f g : FunTree) → FunTree
    FIterate : (p : PredTree) (f : FunTree) → FunTree
    FIter : (p : PredTree) (f : FunTree) → FunTree
    FJoin : (p : PredTree) (f : FunTree) → FunTree
    FNest : (f g : FunTree) → FunTree
    FUnnest : (f g : FunTree) → FunTree
    FMeta : (name : List ℕ) → FunTree

  pub data PredTree : Type 0 where
    PEq PLt PLe PMember : PredTree
    PAt : (p : PredTree) (f : FunTree) → PredTree
    PAnd : (p q : PredTree) → PredTree
    POr : (p q : PredTree) → PredTree
    PNot : (p : PredTree) → PredTree
    PInv : (p : PredTree) → PredTree
    PKP : (b : Bool) → PredTree
    PCP : (p : PredTree) (c : ConstTree) → PredTree
    PEx : (p : PredTree) → PredTree
    PFa : (p : PredTree) → PredTree
    PMeta : (name : List ℕ) → PredTree

pub data TermTree : Type 0 where
  TermF : (f : FunTree) → TermTree
  TermP : (p : PredTree) → TermTree
  TermC : (c : ConstTree) → TermTree
