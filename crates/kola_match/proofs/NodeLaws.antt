-- Nodes are the same where they are alike and have the same children; and what an instance does to a node.
use Rattle.std.proofs.Common.{◌≡◌, ℤ, Bool, true, false, refl, sym, ap, ◌∙◌, List, [], map}
use Rattle.std.specs.Ordering.{is_eq, int_cmp}
use Rattle.std.specs.declared.cmp.Ordering.{Ordering}
use Rattle.std.specs.declared.cmp.Ordering.TheVariants.{Less, Equal, Greater}
use Rattle.std.proofs.lemmas.Cmp.{tied_itself, int_cmp_total}
use Rattle.std.proofs.lemmas.Map.Lookups.{exact_signed}
use Rattle.kola_values.specs.Values.{ValueTree, VSet, items, of_items}
use Rattle.kola_values.proofs.Anys.{equal, same_itself, items-of_items}
use Rattle.kola_term.specs.Terms.{ConstTree, CInt, CBool, CStr, CSet, CExtent, CMeta, FunTree, FId, FFst, FSnd, FFlat, FUnion, FIsect, FMinus, FAttr, FComp, FPair, FTimes, FK, FC, FIf, FIterate, FIter, FJoin, FNest, FUnnest, FMeta, PredTree, PEq, PLt, PLe, PMember, PAt, PAnd, POr, PNot, PInv, PKP, PCP, PEx, PFa, PMeta, TermTree, TermF, TermP, TermC}
use Rattle.kola_term.specs.Places.{children}
use Rattle.kola_term.proofs.Inversions.{same_name-equal}
use Rattle.kola_term.proofs.Introductions.{same_name_itself}
use Rattle.kola_match.specs.Nodes.{same_bool, same_const, alike_funs, alike_preds, same_node, is_variable}
use Rattle.kola_match.specs.Substitutions.{Substitution, inst_fun, inst_pred, inst_const, inst}

pub same_bool-equal : (a b : Bool) → same_bool a b ≡ true → a ≡ b
same_bool-equal true b e = sym e
same_bool-equal false true e = absurd (cc)
same_bool-equal false false e = refl

pub same_bool_itself : (a : Bool) → same_bool a a ≡ true
same_bool_itself true = refl
same_bool_itself false = refl

int_at : (a b : ℤ) (o : Ordering) → int_cmp a b ≡ o → is_eq o ≡ true → a ≡ b
int_at a b Less e h = absurd (cc)
int_at a b Equal e h = exact_signed a b e
int_at a b Greater e h = absurd (cc)

abbrev listed : ValueTree → List ValueTree
listed (VSet vs) = items vs
listed _ = []

same_lists : (vs ws : List ValueTree) → VSet (of_items vs) ≡ VSet (of_items ws) → vs ≡ ws
same_lists vs ws e = sym (items-of_items vs) ∙ (ap listed e ∙ items-of_items ws)

pub same_const-equal : (a b : ConstTree) → same_const a b ≡ true → a ≡ b
same_const-equal (CInt z) (CInt w) e = ap CInt (int_at z w (int_cmp z w) refl e)
same_const-equal (CBool z) (CBool w) e = ap CBool (same_bool-equal z w e)
same_const-equal (CStr z) (CStr w) e = ap CStr (same_name-equal z w e)
same_const-equal (CSet z) (CSet w) e = ap CSet (same_lists z w (equal (VSet (of_items z)) (VSet (of_items w)) e))
same_const-equal (CExtent z) (CExtent w) e = ap CExtent (same_name-equal z w e)
same_const-equal (CMeta z) (CMeta w) e = ap CMeta (same_name-equal z w e)
same_const-equal _ _ e = absurd (cc)

pub same_const_itself : (a : ConstTree) → same_const a a ≡ true
same_const_itself (CInt z) = ap is_eq (tied_itself int_cmp_total z)
same_const_itself (CBool z) = same_bool_itself z
same_const_itself (CStr z) = same_name_itself z
same_const_itself (CSet z) = same_itself (VSet (of_items z))
same_const_itself (CExtent z) = same_name_itself z
same_const_itself (CMeta z) = same_name_itself z

funs_equal : (x y : FunTree) → alike_funs x y ≡ true → children (TermF x) ≡ children (TermF y) → x ≡ y
funs_equal FId FId e h = refl
funs_equal FFst FFst e h = refl
funs_equal FSnd FSnd e h = refl
funs_equal FFlat FFlat e h = refl
funs_equal FUnion FUnion e h = refl
funs_equal FIsect FIsect e h = refl
funs_equal FMinus FMinus e h = refl
funs_equal (FAttr n) (FAttr m) e h = ap FAttr (same_name-equal n m e)
funs_equal (FComp a0 a1) (FComp b0 b1) e h = cc
funs_equal (FPair a0 a1) (FPair b0 b1) e h = cc
funs_equal (FTimes a0 a1) (FTimes b0 b1) e h = cc
funs_equal (FK a0) (FK b0) e h = cc
funs_equal (FC a0 a1) (FC b0 b1) e h = cc
funs_equal (FIf a0 a1 a2) (FIf b0 b1 b2) e h = cc
funs_equal (FIterate a0 a1) (FIterate b0 b1) e h = cc
funs_equal (FIter a0 a1) (FIter b0 b1) e h = cc
funs_equal (FJoin a0 a1) (FJoin b0 b1) e h = cc
funs_equal (FNest a0 a1) (FNest b0 b1) e h = cc
funs_equal (FUnnest a0 a1) (FUnnest b0 b1) e h = cc
funs_equal (FMeta n) (FMeta m) e h = ap FMeta (same_name-equal n m e)
funs_equal _ _ e h = absurd (cc)

preds_equal : (x y : PredTree) → alike_preds x y ≡ true → children (TermP x) ≡ children (TermP y) → x ≡ y
preds_equal PEq PEq e h = refl
preds_equal PLt PLt e h = refl
preds_equal PLe PLe e h = refl
preds_equal PMember PMember e h = refl
preds_equal (PAt a0 a1) (PAt b0 b1) e h = cc
preds_equal (PAnd a0 a1) (PAnd b0 b1) e h = cc
preds_equal (POr a0 a1) (POr b0 b1) e h = cc
preds_equal (PNot a0) (PNot b0) e h = cc
preds_equal (PInv a0) (PInv b0) e h = cc
preds_equal (PKP a) (PKP b) e h = ap PKP (same_bool-equal a b e)
preds_equal (PCP a0 a1) (PCP b0 b1) e h = cc
preds_equal (PEx a0) (PEx b0) e h = cc
preds_equal (PFa a0) (PFa b0) e h = cc
preds_equal (PMeta n) (PMeta m) e h = ap PMeta (same_name-equal n m e)
preds_equal _ _ e h = absurd (cc)

-- nodes that are alike and have the same children are the same
pub nodes_equal : (x y : TermTree) → same_node x y ≡ true → children x ≡ children y → x ≡ y
nodes_equal (TermF f) (TermF g) e h = ap TermF (funs_equal f g e h)
nodes_equal (TermP p) (TermP q) e h = ap TermP (preds_equal p q e h)
nodes_equal (TermC c) (TermC d) e h = ap TermC (same_const-equal c d e)
nodes_equal _ _ e h = absurd (cc)

fun_itself : (x : FunTree) → alike_funs x x ≡ true
fun_itself (FAttr n) = same_name_itself n
fun_itself (FMeta n) = same_name_itself n
fun_itself _ = refl

pred_itself : (x : PredTree) → alike_preds x x ≡ true
pred_itself (PKP b) = same_bool_itself b
pred_itself (PMeta n) = same_name_itself n
pred_itself _ = refl

pub node_itself : (x : TermTree) → same_node x x ≡ true
node_itself (TermF f) = fun_itself f
node_itself (TermP p) = pred_itself p
node_itself (TermC c) = same_const_itself c

fun_node : (s : Substitution) (x y : FunTree) → is_variable (TermF x) ≡ false → alike_funs (inst_fun s x) y ≡ alike_funs x y
fun_node s (FMeta n) y e = absurd (cc)
fun_node s _ _ e = refl

pred_node : (s : Substitution) (x y : PredTree) → is_variable (TermP x) ≡ false → alike_preds (inst_pred s x) y ≡ alike_preds x y
pred_node s (PMeta n) y e = absurd (cc)
pred_node s _ _ e = refl

const_node : (s : Substitution) (x y : ConstTree) → is_variable (TermC x) ≡ false → same_const (inst_const s x) y ≡ same_const x y
const_node s (CMeta n) y e = absurd (cc)
const_node s _ y e = refl

-- an instance keeps a node that is no variable
pub instance_node : (s : Substitution) (x y : TermTree) → is_variable x ≡ false → same_node (inst s x) y ≡ same_node x y
instance_node s (TermF f) (TermF g) e = fun_node s f g e
instance_node s (TermP p) (TermP q) e = pred_node s p q e
instance_node s (TermC c) (TermC d) e = const_node s c d e
instance_node s _ _ e = refl

fun_parts : (s : Substitution) (x : FunTree) → is_variable (TermF x) ≡ false → children (TermF (inst_fun s x)) ≡ map (inst s) (children (TermF x))
fun_parts s (FMeta n) e = absurd (cc)
fun_parts s _ e = refl

pred_parts : (s : Substitution) (x : PredTree) → is_variable (TermP x) ≡ false → children (TermP (inst_pred s x)) ≡ map (inst s) (children (TermP x))
pred_parts s (PMeta n) e = absurd (cc)
pred_parts s _ e = refl

-- its children are the instances of the children
pub instance_children : (s : Substitution) (x : TermTree) → is_variable x ≡ false → children (inst s x) ≡ map (inst s) (children x)
instance_children s (TermF f) e = fun_parts s f e
instance_children s (TermP p) e = pred_parts s p e
instance_children s (TermC c) e = refl
