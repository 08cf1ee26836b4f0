-- The entries of a plan, numbered from 0, each over entries before it; and the statement that each stands for.
use Rattle.std.specs.Prelude.{◌<◌, ℕ, zero, suc, Bool, List, [], ◌∷◌, ◌++◌}
use Rattle.kola_term.specs.Terms.{TermTree}
use Rattle.coko_plan.specs.Wholes.{WholeTree, WFire, WSkip, WFail, WSeq, WThen, WElse, WBu, WTd, WRepeat, WGiven, WholeArms, NoWholes, MoreWholes}

-- a statement whose parts are the entries of the numbers
pub data EntryTree : Type 0 where
  EFire : (rule : ℕ) (rev : Bool) → EntryTree
  ESkip EFail : EntryTree
  ESeq : (i j : ℕ) → EntryTree
  EThen : (i j : ℕ) → EntryTree
  EElse : (i j : ℕ) → EntryTree
  EBu : (i : ℕ) → EntryTree
  ETd : (i : ℕ) → EntryTree
  ERepeat : (i : ℕ) → EntryTree
  EGiven : (pattern : TermTree) (arms : List (List ℕ × ℕ)) → EntryTree

-- ---- what entries stand for

-- the statement at a place; past the end it is `SKIP`
abbrev pub pick : List WholeTree → ℕ → WholeTree
pick [] n = WSkip
pick (a ∷ t) zero = a
pick (a ∷ t) (suc n) = pick t n

abbrev pub made_arms : List WholeTree → List (List ℕ × ℕ) → WholeArms
made_arms t [] = NoWholes
made_arms t (a ∷ as') = MoreWholes a.0 (pick t a.1) (made_arms t as')

-- an entry, where those before it stand for these statements
abbrev pub made : List WholeTree → EntryTree → WholeTree
made t (EFire r v) = WFire r v
made t ESkip = WSkip
made t EFail = WFail
made t (ESeq i j) = WSeq (pick t i) (pick t j)
made t (EThen i j) = WThen (pick t i) (pick t j)
made t (EElse i j) = WElse (pick t i) (pick t j)
made t (EBu i) = WBu (pick t i)
made t (ETd i) = WTd (pick t i)
made t (ERepeat i) = WRepeat (pick t i)
made t (EGiven p as') = WGiven p (made_arms t as')

abbrev pub made_all : List WholeTree → List EntryTree → List WholeTree
made_all t [] = t
made_all t (e ∷ es) = made_all (t ++ made t e ∷ []) es

-- what the entries stand for, in their order
abbrev pub table : List EntryTree → List WholeTree
table es = made_all [] es

-- the statement that entry i stands for
abbrev pub stands_for : List EntryTree → ℕ → WholeTree
stands_for es i = pick (table es) i

-- ---- parts before wholes

abbrev pub LowerArms : ℕ → List (List ℕ × ℕ) → Type 0
LowerArms n [] = Unit {0}
LowerArms n (a ∷ as') = (a.1 < n) × LowerArms n as'

-- the parts of an entry have numbers below n
abbrev pub Lower : ℕ → EntryTree → Type 0
Lower n (ESeq i j) = (i < n) × (j < n)
Lower n (EThen i j) = (i < n) × (j < n)
Lower n (EElse i j) = (i < n) × (j < n)
Lower n (EBu i) = i < n
Lower n (ETd i) = i < n
Lower n (ERepeat i) = i < n
Lower n (EGiven p as') = LowerArms n as'
Lower n _ = Unit {0}

-- the parts of each entry have lower numbers than it has itself, where the first one's number is n
abbrev pub AllLower : ℕ → List EntryTree → Type 0
AllLower n [] = Unit {0}
AllLower n (e ∷ es) = Lower n e × AllLower (suc n) es
