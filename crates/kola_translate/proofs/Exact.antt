-- The program's way to a translation makes the translation, where it is within the limits on nodes and depth, and is refused where it is not.
use Rattle.std.proofs.Common.{◌≡◌, ℕ, zero, suc, ◌+◌, ◌*◌, ◌≤◌, max, nat_le, Bool, true, false, cond, List, [], ◌∷◌, Option, Some, None, refl, sym, ap, ◌∙◌, arith}
use Rattle.std.specs.Str.{bytes_eq}
use Rattle.kola_values.specs.Values.{ValueTree}
use Rattle.kola_values.specs.Types.{TypeTree, TClass, TStruct, FieldTypes, TEnd, TField}
use Rattle.kola_values.specs.Sets.{canon}
use Rattle.kola_values.specs.Databases.{Classes}
use Rattle.kola_term.specs.Limits.{depth_limit}
use Rattle.kola_term.specs.Literals.{set_type}
use Rattle.kola_term.specs.Counts.{fun_nodes, pred_nodes, fun_depth, pred_depth}
use Rattle.kola_term.specs.Terms.{CInt, CBool, CStr, CSet, CExtent, FunTree, FId, FFst, FSnd, FFlat, FUnion, FIsect, FMinus, FAttr, FComp, FPair, FK, FIf, FIter, PredTree, PEq, PAt, PAnd, POr, PNot, PKP, PEx, PFa}
use Rattle.oql_tree.specs.QueryTrees.{LitTree, LitInt, LitStr, LitBool, QueryTree, QName, QLiteral, QSetOf, QPath, QStruct, QFlatten, QSomeMember, QNot, QIntersect, QAnd, QOr, QUnionExcept, QCompare, QExists, QForAll, QSelect, QueryLinks, NoLinks, Link, SetLinks, NoSets, SetLink, QueryFields, NoFields, QField, QueryRanges, NoRanges, QRange, QueryWhere, NoWhere, Where}
use Rattle.oql_tree.specs.declared.query.Sign.{Sign}
use Rattle.oql_tree.specs.declared.query.Sign.TheVariants as sign
use Rattle.oql_check.specs.QueryTypes.{Scope}
use Rattle.kola_translate.specs.Translation.{type_of_members, type_of_step, type_of, scope_behind, distance, variable, Translated, Function, Test, Truth, as_function, as_predicate, name_term, literal_term, literal_values, set_term, after, field_selector, step_term, path_term, intersect_term, union_except_term, and_term, or_term, compare_term, over, term_of, links_term, set_links_term, fields_term, ranges_term, where_term, tr, pr}
use Rattle.kola_translate.specs.Building.{Building, and_then, node, as_function_part, as_test_part, function_of, predicate_of, name_built, literal_built, set_built, leaf_built, comp_built, pair_built, op_built, compare_nodes, compare_levels, compare_built, quantified_built, last_built, more_built, behind, later_built, selector_built, step_built, path_built, and_built, or_built, set_link_op, range_count, few_ranges, build, sets_built, tests_built, set_links_built, fields_built, ranges_built, where_built}
use Rattle.kola_translate.proofs.Limited.{within, limited, limited_part, limited_fun, limited_pred, behind_test, in_turn, and_nothing, then_limited, as_limited, counted, node_is, function_part, test_part, too_deep}

-- ---- what a part stands for

pub function_exact : (x : Translated) (n : ℕ) → and_then (limited_part x n) (λ y m. function_of y.0 y.1 m) ≡ limited_fun (as_function x) n
function_exact (Function f) n = behind_test (within (n + fun_nodes f) (fun_depth f)) ((Function f, fun_depth f), n + fun_nodes f) (λ y m. function_of y.0 y.1 m)
function_exact (Test p) n =
    let w = FIf p (FK (CBool true)) (FK (CBool false)) in
    as_limited (Test p) (pred_nodes p) (pred_depth p) n (λ y m. function_of y.0 y.1 m) w 5 (1 + max (pred_depth p) 2) (fun_nodes w) (fun_depth w)
    (λ m. node_is w 5 1 (max (pred_depth p) 2) m) (omega arith) (omega arith) (omega arith)
function_exact (Truth b) n =
    let w = FK (CBool b) in
    as_limited (Truth b) 0 0 n (λ y m. function_of y.0 y.1 m) w 2 2 (fun_nodes w) (fun_depth w) (λ m. node_is w 2 2 0 m) (omega arith) (omega arith) (omega arith)

pub predicate_exact : (x : Translated) (n : ℕ) → and_then (limited_part x n) (λ y m. predicate_of y.0 y.1 m) ≡ limited_pred (as_predicate x) n
predicate_exact (Function f) n =
    let w = PAt PEq (FPair f (FK (CBool true))) in
    as_limited (Function f) (fun_nodes f) (fun_depth f) n (λ y m. predicate_of y.0 y.1 m) w 5 (2 + max (fun_depth f) 2) (pred_nodes w) (pred_depth w)
    (λ m. node_is w 5 2 (max (fun_depth f) 2) m) (omega arith) (omega arith) (omega arith)
predicate_exact (Test p) n = behind_test (within (n + pred_nodes p) (pred_depth p)) ((Test p, pred_depth p), n + pred_nodes p) (λ y m. predicate_of y.0 y.1 m)
predicate_exact (Truth b) n =
    let w = PKP b in
    as_limited (Truth b) 0 0 n (λ y m. predicate_of y.0 y.1 m) w 1 1 (pred_nodes w) (pred_depth w) (λ m. node_is w 1 1 0 m) (omega arith) (omega arith) (omega arith)

-- ---- leaves

variable_nodes : (k : ℕ) → fun_nodes (variable k) ≡ 1 + 2 * k
variable_nodes zero = refl
variable_nodes (suc k) = let h = variable_nodes k in omega (arith, h)

variable_depth : (k : ℕ) → fun_depth (variable k) ≡ 1 + k
variable_depth zero = refl
variable_depth (suc k) = let h = variable_depth k in omega (arith, h)

name_exact : (x : List ℕ) (o : Option ℕ) (n : ℕ) → as_function_part (name_built x o n) ≡ limited_part (name_term x o) n
name_exact x (Some k) n =
    ap as_function_part (node_is (variable k) (1 + 2 * k) (1 + k) 0 n)
    ∙ (function_part (variable k) (1 + 2 * k) (1 + k + 0) n
    ∙ counted (Function (variable k)) (1 + 2 * k) (fun_nodes (variable k)) (1 + k + 0) (fun_depth (variable k)) n (sym (variable_nodes k)) (let h = variable_depth k in omega (arith, h)))
name_exact x None n = ap as_function_part (node_is (FK (CExtent x)) 2 2 0 n) ∙ function_part (FK (CExtent x)) 2 2 n

literal_exact : (l : LitTree) (n : ℕ) → literal_built l n ≡ limited_part (literal_term l) n
literal_exact (LitInt z) n = ap as_function_part (node_is (FK (CInt z)) 2 2 0 n) ∙ function_part (FK (CInt z)) 2 2 n
literal_exact (LitStr s) n = ap as_function_part (node_is (FK (CStr s)) 2 2 0 n) ∙ function_part (FK (CStr s)) 2 2 n
literal_exact (LitBool b) n = node_is (Truth b) 0 0 0 n

set_exact : (o : Option TypeTree) (vs : List ValueTree) (n : ℕ) → as_function_part (set_built o vs n) ≡ limited_part (set_term o vs) n
set_exact (Some t) vs n = ap as_function_part (node_is (FK (CSet vs)) 2 2 0 n) ∙ function_part (FK (CSet vs)) 2 2 n
set_exact None vs n = ap as_function_part (node_is FId 1 1 0 n) ∙ function_part FId 1 1 n

-- ---- fields and paths

selected : Option FunTree → ℕ → Building (Option (FunTree × ℕ))
selected None n = Some (None, n)
selected (Some s) n = and_then (limited_fun s n) (λ f m. Some (Some f, m))

later_exact : (o : Option FunTree) (n : ℕ) → and_then (selected o n) later_built ≡ selected (Some (after o FSnd)) n
unfolding selected
later_exact None n = ap (λ r. and_then r (λ f m. Some (Some f, m))) (node_is FSnd 1 1 0 n)
later_exact (Some s) n =
    let w = FComp s FSnd in
    in_turn (limited_fun s n) (λ f m. Some (Some f, m)) later_built
    ∙ (sym (in_turn (limited_fun s n) (λ f m. node (FComp f.0 FSnd) 2 1 (max f.1 1) m) (λ f m. Some (Some f, m)))
    ∙ ap (λ r. and_then r (λ f m. Some (Some f, m)))
    (as_limited s (fun_nodes s) (fun_depth s) n (λ f m. node (FComp f.0 FSnd) 2 1 (max f.1 1) m) w 2 (1 + max (fun_depth s) 1) (fun_nodes w) (fun_depth w)
    (λ m. node_is w 2 1 (max (fun_depth s) 1) m) (omega arith) (omega arith) (omega arith)))

selector_exact : (l : List ℕ) (fs : FieldTypes) (n : ℕ) → selector_built l fs n ≡ selected (field_selector l fs) n
unfolding selected
selector_exact l TEnd n = refl
selector_exact l (TField m t TEnd) n = refl
selector_exact l (TField m t (TField k u fs)) n = at (bytes_eq l m) (selector_exact l (TField k u fs) n)
  where
    at : (b : Bool) → selector_built l (TField k u fs) n ≡ selected (field_selector l (TField k u fs)) n → cond b (and_then (node FFst 1 1 0 n) (λ f j. Some (Some f, j))) (and_then (selector_built l (TField k u fs) n) later_built)
        ≡ selected (cond b (Some FFst) (Some (after (field_selector l (TField k u fs)) FSnd))) n
    at true h = ap (λ r. and_then r (λ f m. Some (Some f, m))) (node_is FFst 1 1 0 n)
    at false h = ap (λ r. and_then r later_built) h ∙ later_exact (field_selector l (TField k u fs)) n

behind_exact : (o : Option FunTree) (f : FunTree) (n : ℕ) → and_then (limited_fun f n) (λ g m. and_then (selected o m) (λ s k. behind s g k)) ≡ limited_fun (after o f) n
unfolding selected
behind_exact None f n = and_nothing (limited_fun f n)
behind_exact (Some s) f n =
    let w = FComp s f in
    (λ i. and_then (limited_fun f n) (λ g m. in_turn (limited_fun s m) (λ h k. Some (Some h, k)) (λ h k. behind h g k) i))
    ∙ as_limited f (fun_nodes f) (fun_depth f) n (λ g m. and_then (limited_fun s m) (λ h k. comp_built h g k)) w (fun_nodes s + 1) (1 + max (fun_depth s) (fun_depth f)) (fun_nodes w) (fun_depth w)
    (λ m. then_limited s (fun_nodes s) (fun_depth s) m (λ h k. comp_built h (f, fun_depth f) k) w 1 (1 + max (fun_depth s) (fun_depth f)) (λ k. node_is w 1 1 (max (fun_depth s) (fun_depth f)) k) (omega arith))
    (omega arith) (omega arith) (omega arith)

step_exact : (t : TypeTree) (l : List ℕ) (f : FunTree) (n : ℕ) → and_then (limited_fun f n) (λ g m. step_built t l g m) ≡ limited_fun (step_term t l f) n
step_exact (TClass c) a f n =
    let w = FComp (FAttr a) f in
    as_limited f (fun_nodes f) (fun_depth f) n (λ g m. leaf_built (FAttr a) g m) w 2 (1 + max 1 (fun_depth f)) (fun_nodes w) (fun_depth w) (λ m. node_is w 2 1 (max 1 (fun_depth f)) m) (omega arith) (omega arith) (omega arith)
step_exact (TStruct fs) l f n =
    (λ i. and_then (limited_fun f n) (λ g m. and_then (selector_exact l fs m i) (λ s k. behind s g k)))
    ∙ behind_exact (field_selector l fs) f n
step_exact _ l f n = and_nothing (limited_fun f n)

path_exact : (S : Classes) (t : TypeTree) (f : FunTree) (ls : List (List ℕ × ℕ)) (n : ℕ) → and_then (limited_fun f n) (λ g m. path_built S t g ls m) ≡ limited_fun (path_term S t f ls) n
path_exact S t f [] n = and_nothing (limited_fun f n)
path_exact S t f (l ∷ ls) n =
    sym (in_turn (limited_fun f n) (λ g m. step_built t l.0 g m) (λ g m. path_built S (type_of_step S t l.0) g ls m))
    ∙ (ap (λ r. and_then r (λ g m. path_built S (type_of_step S t l.0) g ls m)) (step_exact t l.0 f n)
    ∙ path_exact S (type_of_step S t l.0) (step_term t l.0 f) ls n)

-- a function of a function
leaf_exact : (l : FunTree) (f : FunTree) (n : ℕ) → fun_nodes l ≡ 1 → fun_depth l ≡ 1 → and_then (limited_fun f n) (λ g m. leaf_built l g m) ≡ limited_fun (FComp l f) n
leaf_exact l f n h i =
    let w = FComp l f in
    as_limited f (fun_nodes f) (fun_depth f) n (λ g m. leaf_built l g m) w 2 (1 + max 1 (fun_depth f)) (fun_nodes w) (fun_depth w) (λ m. node_is w 2 1 (max 1 (fun_depth f)) m) (omega arith) (omega (arith, h)) (omega (arith, i))

-- as a part
part_exact : {A : Type 0} (r : Building A) (k : A → ℕ → Building (FunTree × ℕ)) (w : FunTree) (n : ℕ) → and_then r k ≡ limited_fun w n → and_then r (λ a m. as_function_part (k a m)) ≡ limited_part (Function w) n
part_exact r k w n h = sym (in_turn r k (λ f m. Some ((Function f.0, f.1), m))) ∙ (ap as_function_part h ∙ function_part w (fun_nodes w) (fun_depth w) n)

as_test : {r : Building (PredTree × ℕ)} (w : PredTree) (n : ℕ) → r ≡ limited_pred w n → as_test_part r ≡ limited_part (Test w) n
as_test w n h = ap as_test_part h ∙ test_part w (pred_nodes w) (pred_depth w) n

-- ---- two parts

pairs_exact : {B : Type 0} (f g : FunTree) (n : ℕ) (k : FunTree × ℕ → FunTree × ℕ → ℕ → Building (B × ℕ)) (w : B) (j e nodes depth : ℕ) → ((m : ℕ) → k (f, fun_depth f) (g, fun_depth g) m ≡ limited w j e m) → fun_depth f ≤ e → fun_depth g ≤ e
    → nodes ≡ fun_nodes f + (fun_nodes g + j) → depth ≡ e
    → and_then (limited_fun f n) (λ x m. and_then (limited_fun g m) (λ y i. k x y i)) ≡ limited w nodes depth n
pairs_exact f g n k w j e nodes depth h p q a b =
    as_limited f (fun_nodes f) (fun_depth f) n (λ x m. and_then (limited_fun g m) (λ y i. k x y i)) w (fun_nodes g + j) e nodes depth
    (λ m. then_limited g (fun_nodes g) (fun_depth g) m (λ y i. k (f, fun_depth f) y i) w j e h q) p a b

preds_exact : {B : Type 0} (p q : PredTree) (n : ℕ) (k : PredTree × ℕ → PredTree × ℕ → ℕ → Building (B × ℕ)) (w : B) (j e nodes depth : ℕ) → ((m : ℕ) → k (p, pred_depth p) (q, pred_depth q) m ≡ limited w j e m) → pred_depth p ≤ e → pred_depth q ≤ e
    → nodes ≡ pred_nodes p + (pred_nodes q + j) → depth ≡ e
    → and_then (limited_pred p n) (λ x m. and_then (limited_pred q m) (λ y i. k x y i)) ≡ limited w nodes depth n
preds_exact p q n k w j e nodes depth h a b c f =
    as_limited p (pred_nodes p) (pred_depth p) n (λ x m. and_then (limited_pred q m) (λ y i. k x y i)) w (pred_nodes q + j) e nodes depth
    (λ m. then_limited q (pred_nodes q) (pred_depth q) m (λ y i. k (p, pred_depth p) y i) w j e h b) a c f

op_exact : (op f g : FunTree) (n : ℕ) → fun_nodes op ≡ 1 → fun_depth op ≡ 1 → and_then (limited_fun f n) (λ x m. and_then (limited_fun g m) (λ y k. op_built op x y k)) ≡ limited_fun (FComp op (FPair f g)) n
op_exact op f g n h i =
    let w = FComp op (FPair f g) in
    pairs_exact f g n (λ x y m. op_built op x y m) w 3 (2 + max (fun_depth f) (fun_depth g)) (fun_nodes w) (fun_depth w) (λ m. node_is w 3 2 (max (fun_depth f) (fun_depth g)) m)
    (omega arith) (omega arith) (omega (arith, h)) (omega (arith, i))

compare_exact : (s : Sign) (f g : FunTree) (n : ℕ) → and_then (limited_fun f n) (λ x m. and_then (limited_fun g m) (λ y k. compare_built s x y k)) ≡ limited_pred (compare_term s f g) n
compare_exact s f g n =
    let w = compare_term s f g in
    pairs_exact f g n (λ x y m. compare_built s x y m) w (compare_nodes s) (compare_levels s + max (fun_depth f) (fun_depth g)) (pred_nodes w) (pred_depth w)
    (λ m. node_is w (compare_nodes s) (compare_levels s) (max (fun_depth f) (fun_depth g)) m) (omega arith) (omega arith) (nodes_of s) (depth_of s)
  where
    nodes_of : (s : Sign) → pred_nodes (compare_term s f g) ≡ fun_nodes f + (fun_nodes g + compare_nodes s)
    nodes_of sign.Eq = omega arith
    nodes_of sign.Ne = omega arith
    nodes_of sign.Lt = omega arith
    nodes_of sign.Le = omega arith
    nodes_of sign.Gt = omega arith
    nodes_of sign.Ge = omega arith
    nodes_of sign.Member = omega arith

    depth_of : (s : Sign) → pred_depth (compare_term s f g) ≡ compare_levels s + max (fun_depth f) (fun_depth g)
    depth_of sign.Eq = omega arith
    depth_of sign.Ne = omega arith
    depth_of sign.Lt = omega arith
    depth_of sign.Le = omega arith
    depth_of sign.Gt = omega arith
    depth_of sign.Ge = omega arith
    depth_of sign.Member = omega arith

and_exact : (p q : PredTree) (n : ℕ) → and_then (limited_pred p n) (λ x m. and_then (limited_pred q m) (λ y k. and_built x y k)) ≡ limited_pred (PAnd p q) n
and_exact p q n =
    let w = PAnd p q in
    preds_exact p q n (λ x y m. and_built x y m) w 1 (1 + max (pred_depth p) (pred_depth q)) (pred_nodes w) (pred_depth w) (λ m. node_is w 1 1 (max (pred_depth p) (pred_depth q)) m) (omega arith) (omega arith) (omega arith) (omega arith)

or_exact : (p q : PredTree) (n : ℕ) → and_then (limited_pred p n) (λ x m. and_then (limited_pred q m) (λ y k. or_built x y k)) ≡ limited_pred (POr p q) n
or_exact p q n =
    let w = POr p q in
    preds_exact p q n (λ x y m. or_built x y m) w 1 (1 + max (pred_depth p) (pred_depth q)) (pred_nodes w) (pred_depth w) (λ m. node_is w 1 1 (max (pred_depth p) (pred_depth q)) m) (omega arith) (omega arith) (omega arith) (omega arith)

not_exact : (p : PredTree) (n : ℕ) → and_then (limited_pred p n) (λ x m. node (PNot x.0) 1 1 x.1 m) ≡ limited_pred (PNot p) n
not_exact p n =
    let w = PNot p in
    as_limited p (pred_nodes p) (pred_depth p) n (λ x m. node (PNot x.0) 1 1 x.1 m) w 1 (1 + pred_depth p) (pred_nodes w) (pred_depth w) (λ m. node_is w 1 1 (pred_depth p) m) (omega arith) (omega arith) (omega arith)

pair_exact : (f g : FunTree) (n : ℕ) → and_then (limited_fun f n) (λ x m. and_then (limited_fun g m) (λ y k. pair_built x y k)) ≡ limited_fun (FPair f g) n
pair_exact f g n =
    let w = FPair f g in
    pairs_exact f g n (λ x y m. pair_built x y m) w 1 (1 + max (fun_depth f) (fun_depth g)) (fun_nodes w) (fun_depth w) (λ m. node_is w 1 1 (max (fun_depth f) (fun_depth g)) m) (omega arith) (omega arith) (omega arith) (omega arith)

-- a range, and a predicate for its members
quantified_exact : (q : PredTree → PredTree) (p : PredTree) (r : FunTree) (n : ℕ) → pred_nodes (q p) ≡ 1 + pred_nodes p → pred_depth (q p) ≡ 1 + pred_depth p
    → and_then (limited_fun r n) (λ x m. and_then (limited_pred p m) (λ y k. quantified_built q y x k)) ≡ limited_pred (PAt (q p) (FPair FId r)) n
quantified_exact q p r n h i =
    let w = PAt (q p) (FPair FId r) in
    let e = 2 + max (pred_depth p) (max 1 (fun_depth r)) in
    as_limited r (fun_nodes r) (fun_depth r) n (λ x m. and_then (limited_pred p m) (λ y k. quantified_built q y x k)) w (pred_nodes p + 4) e (pred_nodes w) (pred_depth w)
    (λ m. then_limited p (pred_nodes p) (pred_depth p) m (λ y k. quantified_built q y (r, fun_depth r) k) w 4 e (λ k. node_is w 4 2 (max (pred_depth p) (max 1 (fun_depth r))) k) (omega arith))
    (omega arith) (omega (arith, h)) (omega (arith, i))

last_exact : (p : PredTree) (h r : FunTree) (n : ℕ) → and_then (limited_fun r n) (λ x m. and_then (limited_pred p m) (λ y k. and_then (limited_fun h k) (λ z j. last_built y z x j))) ≡ limited_fun (over (FIter p h) r) n
last_exact p h r n =
    let w = over (FIter p h) r in
    let b = max (max (pred_depth p) (fun_depth h)) (max 1 (fun_depth r)) in
    as_limited r (fun_nodes r) (fun_depth r) n (λ x m. and_then (limited_pred p m) (λ y k. and_then (limited_fun h k) (λ z j. last_built y z x j))) w (pred_nodes p + (fun_nodes h + 4)) (2 + b) (fun_nodes w) (fun_depth w)
    (λ m. then_limited p (pred_nodes p) (pred_depth p) m (λ y k. and_then (limited_fun h k) (λ z j. last_built y z (r, fun_depth r) j)) w (fun_nodes h + 4) (2 + b)
    (λ k. then_limited h (fun_nodes h) (fun_depth h) k (λ z j. last_built (p, pred_depth p) z (r, fun_depth r) j) w 4 (2 + b) (λ j. node_is w 4 2 b j) (omega arith)) (omega arith))
    (omega arith) (omega arith) (omega arith)

more_exact : (g r : FunTree) (n : ℕ) → and_then (limited_fun r n) (λ x m. and_then (node (tt {0}) 7 0 0 m) (λ _ i. and_then (limited_fun g i) (λ y k. more_built y x k))) ≡ limited_fun (FComp FFlat (over (FIter (PKP true) g) r)) n
more_exact g r n =
    let w = FComp FFlat (over (FIter (PKP true) g) r) in
    let b = max (max 1 (fun_depth g)) (max 1 (fun_depth r)) in
    let next = λ (x : FunTree × ℕ) (i : ℕ). and_then (limited_fun g i) (λ y k. more_built y x k) in
    as_limited r (fun_nodes r) (fun_depth r) n (λ x m. and_then (node (tt {0}) 7 0 0 m) (λ _ i. next x i)) w (7 + (fun_nodes g + 0)) (3 + b) (fun_nodes w) (fun_depth w)
    (λ m. ap (λ z. and_then z (λ _ i. next (r, fun_depth r) i)) (node_is (tt {0}) 7 0 0 m)
    ∙ then_limited (tt {0}) 7 0 m (λ _ i. next (r, fun_depth r) i) w (fun_nodes g + 0) (3 + b)
    (λ i. then_limited g (fun_nodes g) (fun_depth g) i (λ y k. more_built y (r, fun_depth r) k) w 0 (3 + b) (λ k. node_is w 0 3 b k) (omega arith)) (omega arith))
    (omega arith) (omega arith) (omega arith)

-- ---- all forms

-- what is joined to what stands before, and then the rest
turn : {A B C D : Type 0} (a : Building A) (b : ℕ → Building B) (c : A → B → ℕ → Building C) (r : C → ℕ → Building D)
    → and_then a (λ x m. and_then (b m) (λ y k. and_then (c x y k) r)) ≡ and_then (and_then a (λ x m. and_then (b m) (λ y k. c x y k))) r
turn a b c r = (λ i. and_then a (λ x m. sym (in_turn (b m) (λ y k. c x y k) r) i)) ∙ sym (in_turn a (λ x m. and_then (b m) (λ y k. c x y k)) r)

parts_exact : (f g w : FunTree) (k : FunTree × ℕ → FunTree × ℕ → ℕ → Building (FunTree × ℕ)) (n : ℕ) → and_then (limited_fun f n) (λ x m. and_then (limited_fun g m) (λ y i. k x y i)) ≡ limited_fun w n
    → and_then (limited_fun f n) (λ x m. and_then (limited_fun g m) (λ y i. as_function_part (k x y i))) ≡ limited_part (Function w) n
parts_exact f g w k n h =
    turn (limited_fun f n) (λ m. limited_fun g m) k (λ z m. Some ((Function z.0, z.1), m)) ∙ (ap as_function_part h ∙ function_part w (fun_nodes w) (fun_depth w) n)

tested_exact : {A B : Type 0} (a : Building A) (b : ℕ → Building B) (w : PredTree) (k : A → B → ℕ → Building (PredTree × ℕ)) (n : ℕ) → and_then a (λ x m. and_then (b m) (λ y i. k x y i)) ≡ limited_pred w n
    → and_then a (λ x m. and_then (b m) (λ y i. as_test_part (k x y i))) ≡ limited_part (Test w) n
tested_exact a b w k n h = turn a b k (λ z m. Some ((Test z.0, z.1), m)) ∙ (ap as_test_part h ∙ test_part w (pred_nodes w) (pred_depth w) n)

counted_ranges : (S : Classes) (ns : Scope) (rs : QueryRanges) (p : PredTree) (h : FunTree) → range_count rs ≤ fun_depth (ranges_term S ns rs p h)
counted_ranges S ns NoRanges p h = omega arith
counted_ranges S ns (QRange x at r NoRanges) p h = omega arith
counted_ranges S ns (QRange x at r (QRange y b e rs)) p h = let k = counted_ranges S ((x, type_of_members (type_of S ns r)) ∷ ns) (QRange y b e rs) p h in omega (arith, k)

few_exact : (rs : QueryRanges) (w : FunTree) (n : ℕ) (r : Building (FunTree × ℕ)) → range_count rs ≤ fun_depth w → r ≡ limited_fun w n → few_ranges rs r ≡ limited_fun w n
few_exact rs w n r h e = at (nat_le (range_count rs) depth_limit) refl
  where
    at : (b : Bool) → nat_le (range_count rs) depth_limit ≡ b → cond b r None ≡ limited_fun w n
    at true k = e
    at false k = sym (too_deep w (fun_nodes w) (fun_depth w) n (range_count rs) h k)

union_exact : (b : Bool) (x y : Translated) (n : ℕ) → and_then (limited_fun (as_function x) n) (λ f m. and_then (limited_fun (as_function y) m) (λ g k. as_function_part (op_built (set_link_op b) f g k)))
    ≡ limited_part (union_except_term b x y) n
union_exact true x y n = parts_exact (as_function x) (as_function y) (FComp FMinus (FPair (as_function x) (as_function y))) (λ f g k. op_built FMinus f g k) n (op_exact FMinus (as_function x) (as_function y) n refl refl)
union_exact false x y n = parts_exact (as_function x) (as_function y) (FComp FUnion (FPair (as_function x) (as_function y))) (λ f g k. op_built FUnion f g k) n (op_exact FUnion (as_function x) (as_function y) n refl refl)

module _ (S : Classes) where
  abbrev fun_of : Scope → QueryTree → ℕ → Building (FunTree × ℕ)
  fun_of ns e n = and_then (build S ns e n) (λ x m. function_of x.0 x.1 m)

  abbrev pred_of : Scope → QueryTree → ℕ → Building (PredTree × ℕ)
  pred_of ns e n = and_then (build S ns e n) (λ x m. predicate_of x.0 x.1 m)

  pub as_fun : (ns : Scope) (e : QueryTree) (n : ℕ) → build S ns e n ≡ limited_part (term_of S ns e) n → fun_of ns e n ≡ limited_fun (tr S ns e) n
  as_fun ns e n h = ap (λ r. and_then r (λ x m. function_of x.0 x.1 m)) h ∙ function_exact (term_of S ns e) n

  as_pred : (ns : Scope) (e : QueryTree) (n : ℕ) → build S ns e n ≡ limited_part (term_of S ns e) n → pred_of ns e n ≡ limited_pred (pr S ns e) n
  as_pred ns e n h = ap (λ r. and_then r (λ x m. predicate_of x.0 x.1 m)) h ∙ predicate_exact (term_of S ns e) n

  mutual
    pub exact : (ns : Scope) (e : QueryTree) (n : ℕ) → build S ns e n ≡ limited_part (term_of S ns e) n
    exact ns (QName at x) n = name_exact x (distance x ns) n
    exact ns (QLiteral at l) n = literal_exact l n
    exact ns (QSetOf at ls) n = set_exact (set_type (canon (literal_values ls))) (canon (literal_values ls)) n
    exact ns (QPath at e ls) n =
        ap (λ r. and_then r (λ f m. as_function_part (path_built S (type_of S ns e) f ls m))) (as_fun ns e n (exact ns e n))
        ∙ part_exact (limited_fun (tr S ns e) n) (λ f m. path_built S (type_of S ns e) f ls m) (path_term S (type_of S ns e) (tr S ns e) ls) n (path_exact S (type_of S ns e) (tr S ns e) ls n)
    exact ns (QStruct at fs) n = ap as_function_part (fields_exact ns fs n) ∙ function_part (fields_term S ns fs) (fun_nodes (fields_term S ns fs)) (fun_depth (fields_term S ns fs)) n
    exact ns (QFlatten at e) n =
        ap (λ r. and_then r (λ f m. as_function_part (leaf_built FFlat f m))) (as_fun ns e n (exact ns e n))
        ∙ part_exact (limited_fun (tr S ns e) n) (λ f m. leaf_built FFlat f m) (FComp FFlat (tr S ns e)) n (leaf_exact FFlat (tr S ns e) n refl refl)
    exact ns (QSomeMember at e) n =
        as_test (PAt (PEx (PKP true)) (FPair FId (tr S ns e))) n
        (ap (λ r. and_then r (λ f m. and_then (node (PKP true) 1 1 0 m) (λ p k. quantified_built PEx p f k))) (as_fun ns e n (exact ns e n))
        ∙ ((λ i. and_then (limited_fun (tr S ns e) n) (λ f m. and_then (node_is (PKP true) 1 1 0 m i) (λ p k. quantified_built PEx p f k)))
        ∙ quantified_exact PEx (PKP true) (tr S ns e) n refl refl))
    exact ns (QNot at e) n =
        as_test (PNot (pr S ns e)) n (ap (λ r. and_then r (λ p m. node (PNot p.0) 1 1 p.1 m)) (as_pred ns e n (exact ns e n)) ∙ not_exact (pr S ns e) n)
    exact ns (QIntersect at e ls) n = ap (λ r. and_then r (λ x m. sets_built S ns x ls m)) (exact ns e n) ∙ sets_exact ns (term_of S ns e) ls n
    exact ns (QAnd at e ls) n = ap (λ r. and_then r (λ x m. tests_built S ns and_built x ls m)) (exact ns e n) ∙ ands_exact ns (term_of S ns e) ls n
    exact ns (QOr at e ls) n = ap (λ r. and_then r (λ x m. tests_built S ns or_built x ls m)) (exact ns e n) ∙ ors_exact ns (term_of S ns e) ls n
    exact ns (QUnionExcept at e ls) n = ap (λ r. and_then r (λ x m. set_links_built S ns x ls m)) (exact ns e n) ∙ unions_exact ns (term_of S ns e) ls n
    exact ns (QCompare at s a b) n =
        as_test (compare_term s (tr S ns a) (tr S ns b)) n
        (ap (λ r. and_then r (λ f m. and_then (fun_of ns b m) (λ g k. compare_built s f g k))) (as_fun ns a n (exact ns a n))
        ∙ ((λ i. and_then (limited_fun (tr S ns a) n) (λ f m. and_then (as_fun ns b m (exact ns b m) i) (λ g k. compare_built s f g k)))
        ∙ compare_exact s (tr S ns a) (tr S ns b) n))
    exact ns (QExists at x r b) n =
        let ms = (x, type_of_members (type_of S ns r)) ∷ ns in
        as_test (PAt (PEx (pr S ms b)) (FPair FId (tr S ns r))) n
        (ap (λ z. and_then z (λ f m. and_then (pred_of ms b m) (λ p k. quantified_built PEx p f k))) (as_fun ns r n (exact ns r n))
        ∙ ((λ i. and_then (limited_fun (tr S ns r) n) (λ f m. and_then (as_pred ms b m (exact ms b m) i) (λ p k. quantified_built PEx p f k)))
        ∙ quantified_exact PEx (pr S ms b) (tr S ns r) n refl refl))
    exact ns (QForAll at x r b) n =
        let ms = (x, type_of_members (type_of S ns r)) ∷ ns in
        as_test (PAt (PFa (pr S ms b)) (FPair FId (tr S ns r))) n
        (ap (λ z. and_then z (λ f m. and_then (pred_of ms b m) (λ p k. quantified_built PFa p f k))) (as_fun ns r n (exact ns r n))
        ∙ ((λ i. and_then (limited_fun (tr S ns r) n) (λ f m. and_then (as_pred ms b m (exact ms b m) i) (λ p k. quantified_built PFa p f k)))
        ∙ quantified_exact PFa (pr S ms b) (tr S ns r) n refl refl))
    exact ns (QSelect at h rs w) n =
        let ms = scope_behind S ns rs in
        let t = ranges_term S ns rs (where_term S ms w) (tr S ms h) in
        ap as_function_part
        (few_exact rs t n (ranges_built S ns rs (λ ls m. where_built S ls w m) (λ ls m. fun_of ls h m) n) (counted_ranges S ns rs (where_term S ms w) (tr S ms h))
        (ranges_exact ns rs (λ ls m. where_built S ls w m) (λ ls m. fun_of ls h m) (where_term S ms w) (tr S ms h) (λ m. where_exact ms w m) (λ m. as_fun ms h m (exact ms h m)) n))
        ∙ function_part t (fun_nodes t) (fun_depth t) n

    sets_exact : (ns : Scope) (x : Translated) (ls : QueryLinks) (n : ℕ) → and_then (limited_part x n) (λ y m. sets_built S ns y ls m) ≡ limited_part (links_term S ns intersect_term x ls) n
    sets_exact ns x NoLinks n = and_nothing (limited_part x n)
    sets_exact ns x (Link at e ls) n =
        let next = λ (f : FunTree × ℕ) (m : ℕ). and_then (fun_of ns e m) (λ g k. and_then (as_function_part (op_built FIsect f g k)) (λ z j. sets_built S ns z ls j)) in
        sym (in_turn (limited_part x n) (λ y m. function_of y.0 y.1 m) next)
        ∙ (ap (λ r. and_then r next) (function_exact x n)
        ∙ ((λ i. and_then (limited_fun (as_function x) n) (λ f m. and_then (as_fun ns e m (exact ns e m) i) (λ g k. and_then (as_function_part (op_built FIsect f g k)) (λ z j. sets_built S ns z ls j))))
        ∙ (turn (limited_fun (as_function x) n) (λ m. limited_fun (tr S ns e) m) (λ f g k. as_function_part (op_built FIsect f g k)) (λ z j. sets_built S ns z ls j)
        ∙ (ap (λ r. and_then r (λ z j. sets_built S ns z ls j)) (parts_exact (as_function x) (tr S ns e) (FComp FIsect (FPair (as_function x) (tr S ns e))) (λ f g k. op_built FIsect f g k) n (op_exact FIsect (as_function x) (tr S ns e) n refl refl))
        ∙ sets_exact ns (intersect_term x (term_of S ns e)) ls n))))

    unions_exact : (ns : Scope) (x : Translated) (ls : SetLinks) (n : ℕ) → and_then (limited_part x n) (λ y m. set_links_built S ns y ls m) ≡ limited_part (set_links_term S ns x ls) n
    unions_exact ns x NoSets n = and_nothing (limited_part x n)
    unions_exact ns x (SetLink at b e ls) n =
        let next = λ (f : FunTree × ℕ) (m : ℕ). and_then (fun_of ns e m) (λ g k. and_then (as_function_part (op_built (set_link_op b) f g k)) (λ z j. set_links_built S ns z ls j)) in
        sym (in_turn (limited_part x n) (λ y m. function_of y.0 y.1 m) next)
        ∙ (ap (λ r. and_then r next) (function_exact x n)
        ∙ ((λ i. and_then (limited_fun (as_function x) n) (λ f m. and_then (as_fun ns e m (exact ns e m) i) (λ g k. and_then (as_function_part (op_built (set_link_op b) f g k)) (λ z j. set_links_built S ns z ls j))))
        ∙ (turn (limited_fun (as_function x) n) (λ m. limited_fun (tr S ns e) m) (λ f g k. as_function_part (op_built (set_link_op b) f g k)) (λ z j. set_links_built S ns z ls j)
        ∙ (ap (λ r. and_then r (λ z j. set_links_built S ns z ls j)) (union_exact b x (term_of S ns e) n)
        ∙ unions_exact ns (union_except_term b x (term_of S ns e)) ls n))))

    ands_exact : (ns : Scope) (x : Translated) (ls : QueryLinks) (n : ℕ) → and_then (limited_part x n) (λ y m. tests_built S ns and_built y ls m) ≡ limited_part (links_term S ns and_term x ls) n
    ands_exact ns x NoLinks n = and_nothing (limited_part x n)
    ands_exact ns x (Link at e ls) n =
        let next = λ (p : PredTree × ℕ) (m : ℕ). and_then (pred_of ns e m) (λ q k. and_then (as_test_part (and_built p q k)) (λ z j. tests_built S ns and_built z ls j)) in
        sym (in_turn (limited_part x n) (λ y m. predicate_of y.0 y.1 m) next)
        ∙ (ap (λ r. and_then r next) (predicate_exact x n)
        ∙ ((λ i. and_then (limited_pred (as_predicate x) n) (λ p m. and_then (as_pred ns e m (exact ns e m) i) (λ q k. and_then (as_test_part (and_built p q k)) (λ z j. tests_built S ns and_built z ls j))))
        ∙ (turn (limited_pred (as_predicate x) n) (λ m. limited_pred (pr S ns e) m) (λ p q k. as_test_part (and_built p q k)) (λ z j. tests_built S ns and_built z ls j)
        ∙ (ap (λ r. and_then r (λ z j. tests_built S ns and_built z ls j)) (tested_exact (limited_pred (as_predicate x) n) (λ m. limited_pred (pr S ns e) m) (PAnd (as_predicate x) (pr S ns e)) (λ p q k. and_built p q k) n (and_exact (as_predicate x) (pr S ns e) n))
        ∙ ands_exact ns (and_term x (term_of S ns e)) ls n))))

    ors_exact : (ns : Scope) (x : Translated) (ls : QueryLinks) (n : ℕ) → and_then (limited_part x n) (λ y m. tests_built S ns or_built y ls m) ≡ limited_part (links_term S ns or_term x ls) n
    ors_exact ns x NoLinks n = and_nothing (limited_part x n)
    ors_exact ns x (Link at e ls) n =
        let next = λ (p : PredTree × ℕ) (m : ℕ). and_then (pred_of ns e m) (λ q k. and_then (as_test_part (or_built p q k)) (λ z j. tests_built S ns or_built z ls j)) in
        sym (in_turn (limited_part x n) (λ y m. predicate_of y.0 y.1 m) next)
        ∙ (ap (λ r. and_then r next) (predicate_exact x n)
        ∙ ((λ i. and_then (limited_pred (as_predicate x) n) (λ p m. and_then (as_pred ns e m (exact ns e m) i) (λ q k. and_then (as_test_part (or_built p q k)) (λ z j. tests_built S ns or_built z ls j))))
        ∙ (turn (limited_pred (as_predicate x) n) (λ m. limited_pred (pr S ns e) m) (λ p q k. as_test_part (or_built p q k)) (λ z j. tests_built S ns or_built z ls j)
        ∙ (ap (λ r. and_then r (λ z j. tests_built S ns or_built z ls j)) (tested_exact (limited_pred (as_predicate x) n) (λ m. limited_pred (pr S ns e) m) (POr (as_predicate x) (pr S ns e)) (λ p q k. or_built p q k) n (or_exact (as_predicate x) (pr S ns e) n))
        ∙ ors_exact ns (or_term x (term_of S ns e)) ls n))))

    fields_exact : (ns : Scope) (fs : QueryFields) (n : ℕ) → fields_built S ns fs n ≡ limited_fun (fields_term S ns fs) n
    fields_exact ns NoFields n = node_is FId 1 1 0 n
    fields_exact ns (QField l at e NoFields) n =
        ap (λ r. and_then r (λ f m. Some (f, m))) (as_fun ns e n (exact ns e n)) ∙ and_nothing (limited_fun (tr S ns e) n)
    fields_exact ns (QField l at e (QField k b f fs)) n =
        ap (λ r. and_then r (λ x m. and_then (fields_built S ns (QField k b f fs) m) (λ y j. pair_built x y j))) (as_fun ns e n (exact ns e n))
        ∙ ((λ i. and_then (limited_fun (tr S ns e) n) (λ x m. and_then (fields_exact ns (QField k b f fs) m i) (λ y j. pair_built x y j)))
        ∙ pair_exact (tr S ns e) (fields_term S ns (QField k b f fs)) n)

    where_exact : (ns : Scope) (w : QueryWhere) (n : ℕ) → where_built S ns w n ≡ limited_pred (where_term S ns w) n
    where_exact ns NoWhere n = node_is (PKP true) 1 1 0 n
    where_exact ns (Where at e) n = as_pred ns e n (exact ns e n)

    ranges_exact : (ns : Scope) (rs : QueryRanges) (condition : Scope → ℕ → Building (PredTree × ℕ)) (head : Scope → ℕ → Building (FunTree × ℕ)) (p : PredTree) (h : FunTree)
        → ((m : ℕ) → condition (scope_behind S ns rs) m ≡ limited_pred p m) → ((m : ℕ) → head (scope_behind S ns rs) m ≡ limited_fun h m)
        → (n : ℕ) → ranges_built S ns rs condition head n ≡ limited_fun (ranges_term S ns rs p h) n
    ranges_exact ns NoRanges condition head p h i j n = j n
    ranges_exact ns (QRange x at r NoRanges) condition head p h i j n =
        let ms = (x, type_of_members (type_of S ns r)) ∷ ns in
        ap (λ z. and_then z (λ f m. and_then (condition ms m) (λ q k. and_then (head ms k) (λ g l. last_built q g f l)))) (as_fun ns r n (exact ns r n))
        ∙ ((λ o. and_then (limited_fun (tr S ns r) n) (λ f m. and_then (i m o) (λ q k. and_then (j k o) (λ g l. last_built q g f l))))
        ∙ last_exact p h (tr S ns r) n)
    ranges_exact ns (QRange x at r (QRange y b e rs)) condition head p h i j n =
        let ms = (x, type_of_members (type_of S ns r)) ∷ ns in
        ap (λ z. and_then z (λ f m. and_then (node (tt {0}) 7 0 0 m) (λ _ l. and_then (ranges_built S ms (QRange y b e rs) condition head l) (λ g k. more_built g f k)))) (as_fun ns r n (exact ns r n))
        ∙ ((λ o. and_then (limited_fun (tr S ns r) n) (λ f m. and_then (node (tt {0}) 7 0 0 m) (λ _ l. and_then (ranges_exact ms (QRange y b e rs) condition head p h i j l o) (λ g k. more_built g f k))))
        ∙ more_exact (ranges_term S ms (QRange y b e rs) p h) (tr S ns r) n)
