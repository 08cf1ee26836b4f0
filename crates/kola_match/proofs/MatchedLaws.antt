-- What has been found of the sides, of the input type and of each variable is an instance, and each instance has it.
use Rattle.std.proofs.Common.{◌≡◌, ℕ, zero, suc, true, false, sym, ap, ◌∙◌, subst, List, [], ◌∷◌, take, Some, None, inl, inr}
use Rattle.kola_values.specs.Types.{TypeTree}
use Rattle.kola_values.specs.Databases.{Classes, look_up}
use Rattle.kola_term.specs.Terms.{TermTree}
use Rattle.kola_term.specs.Typing.{Context, MetaTree}
use Rattle.kola_term.specs.Places.{Typed, sub_at}
use Rattle.kola_match.specs.Substitutions.{Substitution, sub_type, inst, IsTyped}
use Rattle.kola_match.specs.Binds.{Binds, binds, Extends, substitution_of}
use Rattle.kola_match.specs.Finding.{Finds}
use Rattle.kola_match.specs.Pairs.{Sides, AllGive}
use Rattle.kola_match.specs.Occurring.{variable}
use Rattle.kola_match.specs.Instances.{Instance, Decided}
use Rattle.kola_match.proofs.InstanceLaws.{AllFound}
use Rattle.kola_match.specs.Spotting.{AllDeclared, Spots}
use Rattle.kola_match.specs.Spotting.{IsOn, Spotted, AllTyped, AllPatternsTyped, FindsAll}
use Rattle.kola_match.proofs.Closed.{AttributesClosed}
use Rattle.kola_match.proofs.BindLaws.{found_extends}
use Rattle.kola_match.proofs.InstanceLaws.{all_meet, all_typed}

module _ (S : Classes) (k : AttributesClosed S) (x vars : Context) (input T : TypeTree) (sides : Sides) (typed : AllTyped S x T sides) (patterns : AllPatternsTyped S vars input sides) (declared : AllDeclared vars vars) where
  term_typed : (as' : Sides) (p t : TermTree) → AllTyped S x T as' → IsOn as' p t → Typed S x t T
  term_typed [] p t h e = absurd e
  term_typed (a ∷ as') p t h e = elim e [ inl i ↦ subst (λ z. Typed S x z T) i.1 h.0 | inr i ↦ term_typed as' p t h.1 i ]

  pattern_typed : (as' : Sides) (p t : TermTree) → AllPatternsTyped S vars input as' → IsOn as' p t → Typed S vars p input
  pattern_typed [] p t h e = absurd e
  pattern_typed (a ∷ as') p t h e = elim e [ inl i ↦ subst (λ z. Typed S vars z input) i.0 h.0 | inr i ↦ pattern_typed as' p t h.1 i ]

  gives_on : (as' : Sides) (p t : TermTree) (s : Substitution) → AllGive s as' → IsOn as' p t → inst s p ≡ t
  gives_on [] p t s h e = absurd e
  gives_on (a ∷ as') p t s h e = elim e [ inl i ↦ ap (inst s) (sym i.0) ∙ (h.0 ∙ i.1) | inr i ↦ gives_on as' p t s h.1 i ]

  found : (vs : Context) (es : Spots) → AllDeclared vars vs → Spotted sides vs es → AllFound S x vars input T sides vs es
  found [] [] d h = tt
  found (v ∷ vs) (e ∷ es) d h = (
    h.0,
    (pattern_typed sides e.1.0 e.1.1 patterns h.1.0, term_typed sides e.1.0 e.1.1 typed h.1.0, subst (λ (z : List ℕ × MetaTree). look_up z.0 vars ≡ Some z.1) (sym h.0) d.0, subst (λ (z : List ℕ × MetaTree). sub_at e.1.0 e.1.2 ≡ Some (variable z.0 z.1)) (sym h.0) h.1.1, λ s g. gives_on sides e.1.0 e.1.1 s g h.1.0),
    found vs es d.1 h.2,
  )
  found [] (e ∷ es) d h = absurd h
  found (v ∷ vs) [] d h = absurd h

  take_declared : (n : ℕ) (vs : Context) → AllDeclared vars vs → AllDeclared vars (take n vs)
  take_declared zero vs h = tt
  take_declared (suc n) [] h = tt
  take_declared (suc n) (v ∷ vs) h = (h.0, take_declared n vs h.1)

  take_typed : (n : ℕ) (s : Substitution) (vs : Context) → IsTyped S x s vs → IsTyped S x s (take n vs)
  take_typed zero s vs h = tt
  take_typed (suc n) s [] h = tt
  take_typed (suc n) s (v ∷ vs) h = (h.0, take_typed n s vs h.1)

  nothing_extends : (s : Substitution) → Extends s (binds [] [])
  nothing_extends s = (λ n a e. absurd (cc), λ n a e. absurd (cc), λ n a e. absurd (cc), λ n a e. absurd (cc))

  pub no_sides : (b c : Binds) → b ≡ binds [] [] → Finds false b c (λ s. AllGive s sides) → Decided S x vars input T sides None
  no_sides b c e f = λ s (i : Instance S x vars input T sides s). f s (subst (Extends s) (sym e) (nothing_extends s)) i.gives

  pub no_input : (b c d : Binds) → b ≡ binds [] [] → Finds true b c (λ s. AllGive s sides) → Finds false c d (λ s. sub_type s.types input ≡ T) → Decided S x vars input T sides None
  no_input b c d e f g = λ s (i : Instance S x vars input T sides s). g s ((f s).1 (subst (Extends s) (sym e) (nothing_extends s), i.gives)) i.input_is

  pub no_variables : (b c d n : Binds) → b ≡ binds [] [] → Finds true b c (λ s. AllGive s sides) → Finds true c d (λ s. sub_type s.types input ≡ T) → FindsAll S x T sides vars false d n → Decided S x vars input T sides None
  no_variables b c d n e f g h = λ s (i : Instance S x vars input T sides s).
      let y = (g s).1 ((f s).1 (subst (Extends s) (sym e) (nothing_extends s), i.gives), i.input_is) in
      h.3 s y (all_meet S k x vars input T s sides (take h.0 vars) h.1 (found (take h.0 vars) h.1 (take_declared h.0 vars declared) h.2) i.gives i.typed i.input_is (take_typed h.0 s vars i.typed))

  pub all_found : (b c d n : Binds) → b ≡ binds [] [] → Finds true b c (λ s. AllGive s sides) → Finds true c d (λ s. sub_type s.types input ≡ T) → FindsAll S x T sides vars true d n → Decided S x vars input T sides (Some n)
  all_found b c d n e f g h =
      let l = found vars h.0 declared h.1 in
      let s = substitution_of n in
      let p = (h.2 s).0 (found_extends n) in
      let q = (g s).0 p.0 in
      let r = (f s).0 q.0 in (
        record { typed = all_typed S k x vars input T s sides vars h.0 l r.1 p.1; input_is = q.1; gives = r.1 },
        λ o (i : Instance S x vars input T sides o). (h.2 o).1 ((g o).1 ((f o).1 (subst (Extends o) (sym e) (nothing_extends o), i.gives), i.input_is), all_meet S k x vars input T o sides vars h.0 l i.gives i.typed i.input_is i.typed),
      )
