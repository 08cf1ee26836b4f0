-- A rule that passes the test is well typed.
use Rattle.std.proofs.Common.{◌≡◌, ◌≤◌, ℕ, Bool, true, false, ◌&&◌, ◌||◌, List, [], ◌∷◌, Option, Some, None, Ok, Err, refl, ap, subst, ◌⊎◌, inl, inr, arith}
use Rattle.std.specs.Prelude.{nat_le}
use Rattle.std.specs.List.{list_all}
use Rattle.std.proofs.lemmas.Bool.Decides.{nat_tests}
use Rattle.kola_values.specs.Types.{TypeTree, TBool}
use Rattle.kola_values.specs.Databases.{Classes, look_up}
use Rattle.kola_values.specs.Sets.{Each}
use Rattle.kola_schema.specs.Schemas.{are_distinct, names_of, class_names}
use Rattle.kola_term.specs.Terms.{PredTree, TermTree, TermF, TermP, TermC}
use Rattle.kola_term.specs.Typing.{MetaTree, MFun, MPred, MConst, Context, is_some_type}
use Rattle.kola_term.specs.Counts.{nodes, depth}
use Rattle.kola_term.specs.Limits.{node_limit, depth_limit}
use Rattle.kola_term.specs.Faults.{Fine, Fits}
use Rattle.kola_term.specs.Judging.{Checked, Says, judged}
use Rattle.kola_term.proofs.Inversions.{and_true, same_ty-equal, some_same}
use Rattle.kola_term.proofs.Introductions.{some_ty}
use Rattle.kola_term.proofs.Unique.{judged_says}
use Rattle.kola_rule.specs.Rules.{RuleTree}
use Rattle.kola_match.specs.Occurring.{Occurs}
use Rattle.kola_match.specs.RuleOk.{knows_meta, knows_type, IsFunction, SidesFit, RuleOk}
use Rattle.kola_match.proofs.Occurring.{stands}
use Rattle.kola_match.proofs.RuleTests.{Variable, has_variable, is_used, is_function, checked_type, is_within, same_output, sides_fit, declares_well, uses_well, rule_test}

each_from : {A : Type 0} (p : A → Bool) (P : A → Type 0) → ((a : A) → p a ≡ true → P a) → (xs : List A) → list_all p xs ≡ true → Each P xs
each_from p P f [] e = tt
each_from p P f (x ∷ xs) e = let k = and_true (p x) (list_all p xs) e in (f x k.0, each_from p P f xs k.1)

either : (a b : Bool) → (a || b) ≡ true → (a ≡ true) ⊎ (b ≡ true)
either true b e = inl refl
either false b e = inr e

used : (r : RuleTree) (v : Variable) → is_used r v ≡ true → Occurs r.left v ⊎ Occurs r.right v
used r v e = elim (either (has_variable v r.left) (has_variable v r.right) e) [ inl k ↦ inl (stands v r.left k) | inr k ↦ inr (stands v r.right k) ]

function : (o : Option MetaTree) → is_function o ≡ true → IsFunction o
function (Some (MFun t u)) e = tt
function (Some (MPred t)) e = absurd (cc)
function (Some (MConst t)) e = absurd (cc)
function None e = absurd (cc)

at_most : (n k : ℕ) → nat_le n k ≡ true → n ≤ k
at_most n k e = grind (arith, nat_tests)

typed_by : (S : Classes) (x : Context) (t : TermTree) (T u : TypeTree) (r : Checked) → Says S x t T r → checked_type r ≡ Some u → Fine S x t T u
typed_by S x t T u (Ok w) h e = subst (Fine S x t T) (some_same w u e) h
typed_by S x t T u (Err k) h e = absurd (cc)

fits : (S : Classes) (x : Context) (t : TermTree) (T u : TypeTree) → is_within t ≡ true → checked_type (judged S x t T) ≡ Some u → Fits S x t T u
fits S x t T u e h =
    let k = and_true (nat_le (nodes t) node_limit) (nat_le (depth t) depth_limit) e in
    record { few = at_most (nodes t) node_limit k.0; shallow = at_most (depth t) depth_limit k.1; fine = typed_by S x t T u (judged S x t T) (judged_says S x t T) h }

outputs_same : (o p : Option TypeTree) → same_output o p ≡ true → (u : TypeTree) × (o ≡ Some u) × (p ≡ Some u)
outputs_same (Some t) (Some u) e = (u, ap Some (same_ty-equal t u e), refl)
outputs_same (Some t) None e = absurd (cc)
outputs_same None p e = absurd (cc)

pred_fits : (S : Classes) (x : Context) (p : PredTree) (T : TypeTree) → is_within (TermP p) ≡ true → is_some_type (checked_type (judged S x (TermP p) T)) ≡ true → Fits S x (TermP p) T TBool
pred_fits S x p T e h =
    let u = some_ty (checked_type (judged S x (TermP p) T)) h in
    let f = fits S x (TermP p) T u.0 e u.1 in
    record { few = f.few; shallow = f.shallow; fine = f.fine }

fitting : (S : Classes) (x : Context) (T : TypeTree) (l r : TermTree) → sides_fit S x T l r ≡ true → SidesFit S x T l r
fitting S x T (TermF f) (TermF g) e =
    let k = and_true (is_within (TermF f)) (is_within (TermF g) && same_output (checked_type (judged S x (TermF f) T)) (checked_type (judged S x (TermF g) T))) e in
    let m = and_true (is_within (TermF g)) (same_output (checked_type (judged S x (TermF f) T)) (checked_type (judged S x (TermF g) T))) k.1 in
    let o = outputs_same (checked_type (judged S x (TermF f) T)) (checked_type (judged S x (TermF g) T)) m.1 in
    (o.0, fits S x (TermF f) T o.0 k.0 o.1, fits S x (TermF g) T o.0 m.0 o.2)
fitting S x T (TermP p) (TermP q) e =
    let P = is_some_type (checked_type (judged S x (TermP p) T)) in
    let Q = is_some_type (checked_type (judged S x (TermP q) T)) in
    let k = and_true (is_within (TermP p)) (is_within (TermP q) && (P && Q)) e in
    let m = and_true (is_within (TermP q)) (P && Q) k.1 in
    let o = and_true P Q m.1 in
    (pred_fits S x p T k.0 o.0, pred_fits S x q T m.0 o.1)
fitting S x T (TermF f) (TermP q) e = absurd (cc)
fitting S x T (TermF f) (TermC c) e = absurd (cc)
fitting S x T (TermP p) (TermF g) e = absurd (cc)
fitting S x T (TermP p) (TermC c) e = absurd (cc)
fitting S x T (TermC c) r e = absurd (cc)

pub tested : (S : Classes) (r : RuleTree) → rule_test S r ≡ true → RuleOk S r
tested S r e =
    let known = list_all (λ (v : Variable). knows_meta (class_names S) v.1) r.vars in
    let a = and_true (declares_well S r) (uses_well r && sides_fit S r.vars r.input r.left r.right) e in
    let b = and_true (uses_well r) (sides_fit S r.vars r.input r.left r.right) a.1 in
    let d = and_true (are_distinct (names_of r.vars)) (known && knows_type (class_names S) r.input) a.0 in
    let k = and_true known (knows_type (class_names S) r.input) d.1 in
    let u = and_true (list_all (is_used r) r.vars) (list_all (λ n. is_function (look_up n r.vars)) r.when) b.0 in
    record {
      distinct = d.0;
      occur = each_from (is_used r) (λ v. Occurs r.left v ⊎ Occurs r.right v) (used r) r.vars u.0;
      conditions = each_from (λ n. is_function (look_up n r.vars)) (λ n. IsFunction (look_up n r.vars)) (λ n h. function (look_up n r.vars) h) r.when u.1;
      known = k.0;
      input_known = k.1;
      sides = fitting S r.vars r.input r.left r.right b.1;
    }
