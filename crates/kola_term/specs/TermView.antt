-- The plain trees of the program's terms.
use Rattle.kola_term.specs.Terms.{ConstTree, CInt, CBool, CStr, CSet, CExtent, CMeta, FunTree, FId, FFst, FSnd, FFlat, FUnion, FIsect, FMinus, FAttr, FComp, FPair, FTimes, FK, FC, FIf, FIterate, FIter, FJoin, FNest, FUnnest, FMeta, PredTree, PEq, PLt, PLe, PMember, PAt, PAnd, POr, PNot, PInv, PKP, PCP, PEx, PFa, PMeta, TermTree, TermF, TermP, TermC}
use Rattle.kola_term.specs.declared.constant.Const.{Const}
use Rattle.kola_term.specs.declared.constant.Const.TheVariants as c
use Rattle.kola_term.specs.declared.term.Fun.{Fun}
use Rattle.kola_term.specs.declared.term.Fun.TheVariants as f
use Rattle.kola_term.specs.declared.term.Pred.{Pred}
use Rattle.kola_term.specs.declared.term.Pred.TheVariants as p
use Rattle.kola_term.specs.declared.term.Term.{Term}
use Rattle.kola_term.specs.declared.term.Term.TheVariants as t

abbrev pub const_tree : Const → ConstTree
const_tree (c.Int n) = CInt n
const_tree (c.Bool b) = CBool b
const_tree (c.Str s) = CStr s
const_tree (c.Literals vs) = CSet vs
const_tree (c.Extent n) = CExtent n
const_tree (c.Meta n) = CMeta n

abbrev mutual
  pub fun_tree : Fun → FunTree
  fun_tree f.Id = FId
  fun_tree f.Fst = FFst
  fun_tree f.Snd = FSnd
  fun_tree f.Flat = FFlat
  fun_tree f.Union = FUnion
  fun_tree f.Isect = FIsect
  fun_tree f.Minus = FMinus
  fun_tree (f.Attr n) = FAttr n
  fun_tree (f.Comp' p0 a p1 b) = FComp (fun_tree a) (fun_tree b)
  fun_tree (f.Pair' p0 a p1 b) = FPair (fun_tree a) (fun_tree b)
  fun_tree (f.Times' p0 a p1 b) = FTimes (fun_tree a) (fun_tree b)
  fun_tree (f.K c) = FK (const_tree c)
  fun_tree (f.C' p0 a c) = FC (fun_tree a) (const_tree c)
  fun_tree (f.If' p0 a p1 b p2 c) = FIf (pred_tree a) (fun_tree b) (fun_tree c)
  fun_tree (f.Iterate' p0 a p1 b) = FIterate (pred_tree a) (fun_tree b)
  fun_tree (f.Iter' p0 a p1 b) = FIter (pred_tree a) (fun_tree b)
  fun_tree (f.Join' p0 a p1 b) = FJoin (pred_tree a) (fun_tree b)
  fun_tree (f.Nest' p0 a p1 b) = FNest (fun_tree a) (fun_tree b)
  fun_tree (f.Unnest' p0 a p1 b) = FUnnest (fun_tree a) (fun_tree b)
  fun_tree (f.Meta n) = FMeta n

  pub pred_tree : Pred → PredTree
  pred_tree p.Eq = PEq
  pred_tree p.Lt = PLt
  pred_tree p.Le = PLe
  pred_tree p.Member = PMember
  pred_tree (p.At' p0 a p1 b) = PAt (pred_tree a) (fun_tree b)
  pred_tree (p.And' p0 a p1 b) = PAnd (pred_tree a) (pred_tree b)
  pred_tree (p.Or' p0 a p1 b) = POr (pred_tree a) (pred_tree b)
  pred_tree (p.Not' p0 a) = PNot (pred_tree a)
  pred_tree (p.Inv' p0 a) = PInv (pred_tree a)
  pred_tree (p.KP b) = PKP b
  pred_tree (p.CP' p0 a c) = PCP (pred_tree a) (const_tree c)
  pred_tree (p.Ex' p0 a) = PEx (pred_tree a)
  pred_tree (p.Fa' p0 a) = PFa (pred_tree a)
  pred_tree (p.Meta n) = PMeta n

abbrev pub term_tree : Term → TermTree
term_tree (t.F f) = TermF (fun_tree f)
term_tree (t.P p) = TermP (pred_tree p)
term_tree (t.C c) = TermC (const_tree c)
