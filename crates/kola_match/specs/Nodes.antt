-- When two nodes are alike but for their children, and which nodes are variables.
use Rattle.std.specs.Prelude.{Bool, true, false, cond}
use Rattle.std.specs.Str.{bytes_eq}
use Rattle.std.specs.Ordering.{is_eq, int_cmp}
use Rattle.kola_values.specs.Values.{VSet, of_items}
use Rattle.kola_values.specs.Order.{same}
use Rattle.kola_term.specs.Terms.{ConstTree, CInt, CBool, CStr, CSet, CExtent, CMeta, FunTree, FId, FFst, FSnd, FFlat, FUnion, FIsect, FMinus, FAttr, FComp, FPair, FTimes, FK, FC, FIf, FIterate, FIter, FJoin, FNest, FUnnest, FMeta, PredTree, PEq, PLt, PLe, PMember, PAt, PAnd, POr, PNot, PInv, PKP, PCP, PEx, PFa, PMeta, TermTree, TermF, TermP, TermC}

abbrev pub same_bool : Bool → Bool → Bool
same_bool true b = b
same_bool false b = cond b false true

abbrev pub same_const : ConstTree → ConstTree → Bool
same_const (CInt z) (CInt w) = is_eq (int_cmp z w)
same_const (CBool a) (CBool b) = same_bool a b
same_const (CStr s) (CStr r) = bytes_eq s r
same_const (CSet vs) (CSet ws) = same (VSet (of_items vs)) (VSet (of_items ws))
same_const (CExtent s) (CExtent r) = bytes_eq s r
same_const (CMeta s) (CMeta r) = bytes_eq s r
same_const _ _ = false

-- one constructor, with the same name or truth value where it has one
abbrev pub alike_funs : FunTree → FunTree → Bool
alike_funs FId FId = true
alike_funs FFst FFst = true
alike_funs FSnd FSnd = true
alike_funs FFlat FFlat = true
alike_funs FUnion FUnion = true
alike_funs FIsect FIsect = true
alike_funs FMinus FMinus = true
alike_funs (FAttr n) (FAttr m) = bytes_eq n m
alike_funs (FComp _ _) (FComp _ _) = true
alike_funs (FPair _ _) (FPair _ _) = true
alike_funs (FTimes _ _) (FTimes _ _) = true
alike_funs (FK _) (FK _) = true
alike_funs (FC _ _) (FC _ _) = true
alike_funs (FIf _ _ _) (FIf _ _ _) = true
alike_funs (FIterate _ _) (FIterate _ _) = true
alike_funs (FIter _ _) (FIter _ _) = true
alike_funs (FJoin _ _) (FJoin _ _) = true
alike_funs (FNest _ _) (FNest _ _) = true
alike_funs (FUnnest _ _) (FUnnest _ _) = true
alike_funs (FMeta n) (FMeta m) = bytes_eq n m
alike_funs _ _ = false

-- one constructor, with the same name or truth value where it has one
abbrev pub alike_preds : PredTree → PredTree → Bool
alike_preds PEq PEq = true
alike_preds PLt PLt = true
alike_preds PLe PLe = true
alike_preds PMember PMember = true
alike_preds (PAt _ _) (PAt _ _) = true
alike_preds (PAnd _ _) (PAnd _ _) = true
alike_preds (POr _ _) (POr _ _) = true
alike_preds (PNot _) (PNot _) = true
alike_preds (PInv _) (PInv _) = true
alike_preds (PKP a) (PKP b) = same_bool a b
alike_preds (PCP _ _) (PCP _ _) = true
alike_preds (PEx _) (PEx _) = true
alike_preds (PFa _) (PFa _) = true
alike_preds (PMeta n) (PMeta m) = bytes_eq n m
alike_preds _ _ = false

-- the same node, whatever its children
abbrev pub same_node : TermTree → TermTree → Bool
same_node (TermF f) (TermF g) = alike_funs f g
same_node (TermP p) (TermP q) = alike_preds p q
same_node (TermC c) (TermC d) = same_const c d
same_node _ _ = false

abbrev pub is_variable : TermTree → Bool
is_variable (TermF (FMeta n)) = true
is_variable (TermP (PMeta n)) = true
is_variable (TermC (CMeta n)) = true
is_variable _ = false
