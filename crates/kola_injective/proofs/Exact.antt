-- The test answers true exactly where a function is shown to be injective.
use Rattle.std.proofs.Common.{◌≡◌, ℕ, Bool, true, false, cond, ◌&&◌, ◌||◌, ◌⊎◌, inl, inr, Some, None, refl, ap, ap₂, ◌∙◌, subst, List, [], ◌∷◌, option_map}
use mathlib.Core.Bool.{or-true}
use Rattle.kola_core.specs.NameLists.{is_listed}
use Rattle.kola_values.specs.Types.{TypeTree, TClass, TSet, TPair}
use Rattle.kola_values.specs.Databases.{Classes, look_up}
use Rattle.kola_term.specs.Terms.{FunTree, FId, FAttr, FComp, FPair, FTimes, FC, FIterate, FMeta, PKP}
use Rattle.kola_term.specs.Typing.{Context, out, const_type, when, fun_of, is_some_type}
use Rattle.kola_term.proofs.Inversions.{and_true, when_true, map_some}
use Rattle.kola_term.proofs.Introductions.{when_is, some_ty, fun_some, same_ty_itself}
use Rattle.kola_injective.specs.Derived.{paired, Derived, of_id, of_key, of_comp, of_first, of_second, of_times, of_curry, of_iterate, of_variable}
use Rattle.kola_injective.specs.Inferring.{is_key, after_constant, infer}
use Rattle.kola_injective.proofs.KeyLaws.{key_derived, key_is}

or_true : (a b : Bool) → (a || b) ≡ true → (a ≡ true) ⊎ (b ≡ true)
or_true true b e = inl refl
or_true false b e = inr e

module _ (S : Classes) (x : Context) (hyps : List (List ℕ)) where
  pub infer_sound : (f : FunTree) (t : TypeTree) → infer S x hyps f t ≡ true → Derived S x hyps f t
  infer_sound FId t e = of_id
  infer_sound (FAttr a) t e = key_derived S x hyps (FAttr a) t e
  infer_sound (FComp f g) t e =
      let q = and_true (infer S x hyps g t) (when (out S x g t) (λ u. infer S x hyps f u)) e in
      let p = when_true (out S x g t) (λ u. infer S x hyps f u) q.1 in
      of_comp (infer_sound g t q.0) p.1 (infer_sound f p.0 p.2)
  infer_sound (FPair f g) t e = elim (or_true (is_key S (FPair f g) t) (infer S x hyps f t || infer S x hyps g t) e) [
    | inl p ↦ key_derived S x hyps (FPair f g) t p
    | inr p ↦ elim (or_true (infer S x hyps f t) (infer S x hyps g t) p) [ inl q ↦ of_first (infer_sound f t q) | inr q ↦ of_second (infer_sound g t q) ]
  ]
  infer_sound (FTimes f g) (TPair a b) e = let q = and_true (infer S x hyps f a) (infer S x hyps g b) e in of_times (infer_sound f a q.0) (infer_sound g b q.1)
  infer_sound (FC f c) t e =
      let p = when_true (after_constant S x c t) (λ u. infer S x hyps f u) e in
      let k = map_some (λ u. TPair u t) (const_type S x c) p.0 p.1 in
      of_curry k.1 (subst (λ z. Derived S x hyps f z) k.2 (infer_sound f p.0 p.2))
  infer_sound (FIterate (PKP true) f) (TSet m) e = of_iterate (infer_sound f m e)
  infer_sound (FMeta n) t e =
      let q = and_true (is_listed n hyps) (is_some_type (fun_of (look_up n x) t)) e in
      let u = some_ty (fun_of (look_up n x) t) q.1 in
      of_variable q.0 (fun_some (look_up n x) t u.0 u.1)
  infer_sound _ _ e = absurd (cc)

  key_complete : (c a : List ℕ) (bs : List (List ℕ)) → is_key S (paired a bs) (TClass c) ≡ true → infer S x hyps (paired a bs) (TClass c) ≡ true
  key_complete c a [] e = e
  key_complete c a (b ∷ bs) e = ap (λ z. z || (is_key S (FAttr a) (TClass c) || infer S x hyps (paired b bs) (TClass c))) e

  pub infer_complete : (f : FunTree) (t : TypeTree) → Derived S x hyps f t → infer S x hyps f t ≡ true
  infer_complete _ _ of_id = refl
  infer_complete _ _ (of_key {c = c} {f = f} n a bs e p) = subst (λ z. infer S x hyps z (TClass c) ≡ true) p (key_complete c a bs (key_is S c n a bs e))
  infer_complete _ _ (of_comp {f = f} {g = g} {t = t} {u = u} i e j) = ap₂ (λ a b. a && b) (infer_complete g t i) (when_is (out S x g t) (λ z. infer S x hyps f z) u e (infer_complete f u j))
  infer_complete _ _ (of_first {f = f} {g = g} {t = t} i) = ap (λ b. is_key S (FPair f g) t || (b || infer S x hyps g t)) (infer_complete f t i) ∙ or-true (is_key S (FPair f g) t)
  infer_complete _ _ (of_second {f = f} {g = g} {t = t} i) = ap (λ b. is_key S (FPair f g) t || b) (ap (λ b. infer S x hyps f t || b) (infer_complete g t i) ∙ or-true (infer S x hyps f t)) ∙ or-true (is_key S (FPair f g) t)
  infer_complete _ _ (of_times {f = f} {g = g} {t = t} {u = u} i j) = ap₂ (λ a b. a && b) (infer_complete f t i) (infer_complete g u j)
  infer_complete _ _ (of_curry {f = f} {c = c} {t = t} {u = u} e i) = when_is (after_constant S x c t) (λ z. infer S x hyps f z) (TPair u t) (ap (option_map (λ z. TPair z t)) e) (infer_complete f (TPair u t) i)
  infer_complete _ _ (of_iterate {f = f} {t = t} i) = infer_complete f t i
  infer_complete _ _ (of_variable {n = n} {t = t} {u = u} l e) = ap₂ (λ a b. a && b) l (ap (λ o. is_some_type (fun_of o t)) e ∙ ap (λ b. is_some_type (cond b (Some u) None)) (same_ty_itself t))
