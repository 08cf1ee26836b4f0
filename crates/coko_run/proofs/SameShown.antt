-- Two instances of a rule at one place, whose variables stand on the pattern side, have the same conditions to show.
use Rattle.std.proofs.Common.{◌≡◌, ℕ, Bool, true, false, cond, Option, Some, None, refl, sym, ap, ◌∙◌, subst, List, [], ◌∷◌}
use Rattle.std.specs.Str.{bytes_eq}
use Rattle.kola_values.specs.Types.{TypeTree}
use Rattle.kola_values.specs.Databases.{Classes, look_up}
use Rattle.kola_values.specs.Sets.{Each}
use Rattle.kola_term.specs.Terms.{FMeta, TermTree, TermF}
use Rattle.kola_term.specs.Typing.{Context, MetaTree, MFun, MPred, MConst}
use Rattle.kola_term.specs.Places.{sub_at, place, Typed}
use Rattle.kola_term.proofs.Inversions.{some_same, same_name-equal}
use Rattle.kola_term.proofs.Introductions.{fun_some}
use Rattle.kola_term.proofs.Paths.{typed_at}
use Rattle.kola_rule.specs.Rules.{RuleTree}
use Rattle.kola_match.specs.Substitutions.{Substitution, sub_type, inst, IsTyped}
use Rattle.kola_match.specs.Occurring.{Occurs}
use Rattle.kola_match.specs.RuleOk.{RuleOk}
use Rattle.kola_match.specs.Instances.{pattern_side}
use Rattle.kola_match.proofs.Closed.{AttributesClosed}
use Rattle.kola_match.proofs.Commute.{sub_inst, place_inst}
use Rattle.kola_match.proofs.InstanceConditions.{pattern_typed}
use Rattle.kola_injective.specs.Derived.{Derived}
use Rattle.kola_proof.specs.Steps.{ShownAt, AllShown}

-- what holds of each entry holds of the one that is found
first_found : (P : List ℕ × MetaTree → Type 0) (n : List ℕ) (v : List ℕ × MetaTree) (m : MetaTree) (o : Option MetaTree) (b : Bool) → bytes_eq n v.0 ≡ b → P v → (o ≡ Some m → P (n, m)) → cond b (Some v.1) o ≡ Some m → P (n, m)
first_found P n v m o true e h k c = subst (λ z. P (n, z)) (some_same v.1 m c) (subst (λ z. P (z, v.1)) (sym (same_name-equal n v.0 e)) h)
first_found P n v m o false e h k c = k c

each_found : (P : List ℕ × MetaTree → Type 0) (vs : Context) (n : List ℕ) (m : MetaTree) → Each P vs → look_up n vs ≡ Some m → P (n, m)
each_found P [] n m h e = absurd (cc)
each_found P (v ∷ vs) n m h e = first_found P n v m (look_up n vs) (bytes_eq n v.0) refl h.0 (λ c. each_found P vs n m h.1 c) e

module _ (S : Classes) (closed : AttributesClosed S) (x vars : Context) (input : TypeTree) (side : TermTree) (typed : Typed S vars side input) where
  -- a function variable that stands in a side stands there at its declared input type
  stands_at : (q n : List ℕ) (t u : TypeTree) → sub_at side q ≡ Some (TermF (FMeta n)) → look_up n vars ≡ Some (MFun t u) → place S vars side input q ≡ Some t
  stands_at q n t u i e =
      let p = typed_at S vars q side (TermF (FMeta n)) input typed i in
      let m = fun_some (look_up n vars) p.0 p.2.0 p.2.1 in
      let d : Some (MFun t u) ≡ Some (MFun p.0 p.2.0) = sym e ∙ m in
      let k : p.0 ≡ t = cc in
      p.1 ∙ ap Some k

  module _ (s o : Substitution) (is : IsTyped S x s vars) (io : IsTyped S x o vars) (one : inst s side ≡ inst o side) (at : sub_type s.types input ≡ sub_type o.types input) where
    same_fun : (q n : List ℕ) → sub_at side q ≡ Some (TermF (FMeta n)) → s.funs n ≡ o.funs n
    same_fun q n i =
        let e : Some (TermF (s.funs n)) ≡ Some (TermF (o.funs n)) = sym (sub_inst s q side (TermF (FMeta n)) i) ∙ (ap (λ z. sub_at z q) one ∙ sub_inst o q side (TermF (FMeta n)) i) in cc

    same_input : (q n : List ℕ) (t u : TypeTree) → sub_at side q ≡ Some (TermF (FMeta n)) → look_up n vars ≡ Some (MFun t u) → sub_type s.types t ≡ sub_type o.types t
    same_input q n t u i e =
        let k = stands_at q n t u i e in
        some_same (sub_type s.types t) (sub_type o.types t)
        (sym (place_inst S closed vars x s is q side input t k) ∙ ((λ j. place S x (one j) (at j) q) ∙ place_inst S closed vars x o io q side input t k))

    same_at : (hyps : List (List ℕ)) (q n : List ℕ) (t u : TypeTree) → sub_at side q ≡ Some (TermF (FMeta n)) → look_up n vars ≡ Some (MFun t u) → Derived S x hyps (s.funs n) (sub_type s.types t) → Derived S x hyps (o.funs n) (sub_type o.types t)
    same_at hyps q n t u i e d = subst (λ z. Derived S x hyps z (sub_type o.types t)) (same_fun q n i) (subst (λ z. Derived S x hyps (s.funs n) z) (same_input q n t u i e) d)

module _ (S : Classes) (closed : AttributesClosed S) (x : Context) (law : RuleTree) (ok : RuleOk S law) (rev : Bool) (occur : Each (λ (v : List ℕ × MetaTree). Occurs (pattern_side law rev) v) law.vars) (s o : Substitution) (is : IsTyped S x s law.vars) (io : IsTyped S x o law.vars) (one : inst s (pattern_side law rev) ≡ inst o (pattern_side law rev)) (at : sub_type s.types law.input ≡ sub_type o.types law.input) where
  shown_at : (hyps : List (List ℕ)) (n : List ℕ) (m : Option MetaTree) → look_up n law.vars ≡ m → ShownAt S x hyps s n m → ShownAt S x hyps o n m
  shown_at hyps n (Some (MFun t u)) e d =
      let h = each_found (λ v. Occurs (pattern_side law rev) v) law.vars n (MFun t u) occur e in
      same_at S closed x law.vars law.input (pattern_side law rev) (pattern_typed S law rev ok) s o is io one at hyps h.0 n t u h.1 e d
  shown_at hyps n (Some (MPred t)) e d = tt
  shown_at hyps n (Some (MConst t)) e d = tt
  shown_at hyps n None e d = tt

  each_shown : (hyps ns : List (List ℕ)) → Each (λ n. ShownAt S x hyps s n (look_up n law.vars)) ns → Each (λ n. ShownAt S x hyps o n (look_up n law.vars)) ns
  each_shown hyps [] h = tt
  each_shown hyps (n ∷ ns) h = (shown_at hyps n (look_up n law.vars) refl h.0, each_shown hyps ns h.1)

  pub same_shown : (hyps : List (List ℕ)) → AllShown S x hyps law s → AllShown S x hyps law o
  same_shown hyps h = each_shown hyps law.when h
