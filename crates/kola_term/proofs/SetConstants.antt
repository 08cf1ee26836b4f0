-- When a set is a set constant: what its first member and the test of all members say.
use Rattle.std.proofs.Common.{◌≡◌, Bool, true, false, cond, ◌&&◌, List, [], ◌∷◌, Option, Some, None, refl, sym, ap, ◌∙◌, is_some, slice_get}
use Rattle.std.specs.Ordering.{is_lt}
use Rattle.kola_values.specs.Values.{ValueTree}
use Rattle.kola_values.specs.Types.{TypeTree, TSet}
use Rattle.kola_values.specs.Sets.{Rising}
use Rattle.kola_term.specs.Literals.{literal_type, each_literal, rises_from, set_type_of, set_type}

pub rising_from : (v : ValueTree) (vs : List ValueTree) → Rising (v ∷ vs) → rises_from v vs ≡ true
rising_from v [] r = refl
rising_from v (w ∷ ws) r = ap (λ o. is_lt o && rises_from w ws) r.0 ∙ rising_from w ws r.1

typed_by : Option TypeTree → List ValueTree → Bool
typed_by None vs = false
typed_by (Some t) vs = each_literal t vs

kept : (t : TypeTree) (a b : Bool) → b ≡ true → is_some (cond (a && b) (Some (TSet t)) None) ≡ a
kept t true true e = refl
kept t false b e = refl
kept t true false e = cc

by_type : (o : Option TypeTree) (v : ValueTree) (vs : List ValueTree) → rises_from v vs ≡ true → is_some (set_type_of o v vs) ≡ typed_by o (v ∷ vs)
unfolding typed_by
by_type None v vs r = refl
by_type (Some t) v vs r = kept t (each_literal t (v ∷ vs)) (rises_from v vs) r

pub without_first : (us : List ValueTree) → None ≡ slice_get us 0 → false ≡ is_some (set_type us)
without_first [] e = refl
without_first (u ∷ us) e = cc

by_first : (us : List ValueTree) (u : ValueTree) → Rising us → Some u ≡ slice_get us 0 → is_some (set_type us) ≡ typed_by (literal_type u) us
by_first [] u r e = cc
by_first (v ∷ vs) u r e =
    by_type (literal_type v) v vs (rising_from v vs r)
    ∙ ap (λ w. typed_by (literal_type w) (v ∷ vs)) (some_same v u (sym e))
  where
    some_same : (a b : ValueTree) → Some a ≡ Some b → a ≡ b
    some_same a b p = cc

pub first_of_no_type : (us : List ValueTree) (u : ValueTree) → Rising us → Some u ≡ slice_get us 0 → None ≡ literal_type u → false ≡ is_some (set_type us)
unfolding typed_by
first_of_no_type us u r e h = sym (by_first us u r e ∙ ap (λ o. typed_by o us) (sym h))

pub first_of_type : (us : List ValueTree) (u : ValueTree) (t : TypeTree) → Rising us → Some u ≡ slice_get us 0 → Some t ≡ literal_type u → each_literal t us ≡ is_some (set_type us)
unfolding typed_by
first_of_type us u t r e h = sym (by_first us u r e ∙ ap (λ o. typed_by o us) (sym h))
