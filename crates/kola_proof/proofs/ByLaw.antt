-- From what the matcher answers to what a step says.
use Rattle.std.proofs.Common.{◌≡◌, ℕ, Bool, Option, Some, None, sym, ap, ◌∙◌, subst, List, [], ◌∷◌}
use Rattle.kola_values.specs.Types.{TypeTree}
use Rattle.kola_values.specs.Databases.{Classes}
use Rattle.kola_term.specs.Terms.{TermTree, TermF, TermP, TermC}
use Rattle.kola_term.specs.Typing.{Context}
use Rattle.kola_term.specs.Places.{put_in, place, Typed}
use Rattle.kola_term.specs.Faults.{Fits}
use Rattle.kola_term.proofs.Inversions.{some_same}
use Rattle.kola_term.proofs.Paths.{typed_at}
use Rattle.kola_rule.specs.Rules.{RuleTree}
use Rattle.kola_match.specs.Substitutions.{Substitution, inst}
use Rattle.kola_match.specs.RuleOk.{RuleOk, SidesFit}
use Rattle.kola_match.specs.Binds.{Binds, substitution_of}
use Rattle.kola_match.specs.Instances.{pattern_side, other_side, Instance, Decided}
use Rattle.kola_match.proofs.Closed.{AttributesClosed}
use Rattle.kola_proof.specs.Outside.{AreParts}
use Rattle.kola_proof.specs.Steps.{ByInstance, AllShown}
use Rattle.kola_proof.proofs.SameOutside.{place_kept}
use Rattle.kola_proof.proofs.SameShown.{same_shown}

-- ---- terms that fit

pub first_typed : (S : Classes) (x : Context) (T : TypeTree) (l b : TermTree) → SidesFit S x T l b → Typed S x l T
first_typed S x T (TermF f) (TermF g) h = (h.0, h.1.fine.0)
first_typed S x T (TermP p) (TermP q) h = h.0.fine.0
first_typed S x T _ _ h = absurd h

pub second_typed : (S : Classes) (x : Context) (T : TypeTree) (l b : TermTree) → SidesFit S x T l b → Typed S x b T
second_typed S x T (TermF f) (TermF g) h = (h.0, h.2.fine.0)
second_typed S x T (TermP p) (TermP q) h = h.1.fine.0
second_typed S x T _ _ h = absurd h

pub left_fits : (S : Classes) (x : Context) (T : TypeTree) (l r : TermTree) → SidesFit S x T l r → SidesFit S x T l l
left_fits S x T (TermF f) (TermF g) h = (h.0, h.1, h.1)
left_fits S x T (TermP p) (TermP q) h = (h.0, h.0)
left_fits S x T _ _ h = absurd h

-- what fits beside the term before fits beside the left side
pub fits_on : (S : Classes) (x : Context) (T : TypeTree) (l b c : TermTree) → SidesFit S x T l b → SidesFit S x T b c → SidesFit S x T l c
fits_on S x T (TermF f) (TermF g) (TermF h) p q =
    let e : q.0 ≡ p.0 = some_same q.0 p.0 (sym q.1.fine.0 ∙ p.2.fine.0) in
    (q.0, subst (λ u. Fits S x (TermF f) T u) (sym e) p.1, q.2)
fits_on S x T (TermP f) (TermP g) (TermP h) p q = (p.0, q.1)
fits_on S x T (TermF f) (TermF g) (TermP h) p q = absurd q
fits_on S x T (TermF f) (TermF g) (TermC h) p q = absurd q
fits_on S x T (TermP f) (TermP g) (TermF h) p q = absurd q
fits_on S x T (TermP f) (TermP g) (TermC h) p q = absurd q
fits_on S x T _ _ c p q = absurd p

-- and the other way
pub fits_back : (S : Classes) (x : Context) (T : TypeTree) (l b c : TermTree) → SidesFit S x T l b → SidesFit S x T l c → SidesFit S x T b c
fits_back S x T (TermF f) (TermF g) (TermF h) p q =
    let e : p.0 ≡ q.0 = some_same p.0 q.0 (sym p.1.fine.0 ∙ q.1.fine.0) in
    (q.0, subst (λ u. Fits S x (TermF g) T u) e p.2, q.2)
fits_back S x T (TermP f) (TermP g) (TermP h) p q = (p.1, q.1)
fits_back S x T (TermF f) (TermF g) (TermP h) p q = absurd q
fits_back S x T (TermF f) (TermF g) (TermC h) p q = absurd q
fits_back S x T (TermP f) (TermP g) (TermF h) p q = absurd q
fits_back S x T (TermP f) (TermP g) (TermC h) p q = absurd q
fits_back S x T _ _ c p q = absurd p

-- ---- instances

pub moved_parts : (b u c v : TermTree) (q p : List ℕ) (o : Option (TermTree × TermTree)) → b ≡ u → c ≡ v → q ≡ p → AreParts b c q o → AreParts u v p o
moved_parts b u c v q p o e f g h = subst (λ z. AreParts z v p o) e (subst (λ z. AreParts b z p o) f (subst (λ z. AreParts b c z o) g h))

module _ (S : Classes) (x : Context) (T w : TypeTree) (law : RuleTree) (rev : Bool) (q : List ℕ) (b c l r : TermTree) (at : place S x b T q ≡ Some w) (parts : AreParts b c q (Some (l, r))) where
  pub part_before : Typed S x b T → Typed S x l w
  part_before h = let p = typed_at S x q b l T h parts.0 in subst (λ z. Typed S x l z) (some_same p.0 w (sym p.1 ∙ at)) p.2

  pub part_after : Typed S x c T → Typed S x r w
  part_after h =
      let k = place_kept S x q b c r T w at parts.1 in
      let p = typed_at S x q c r T h k.1 in
      subst (λ z. Typed S x r z) (some_same p.0 w (sym p.1 ∙ k.0)) p.2

  by_instance : (s : Substitution) → Instance S x law.vars law.input w ((pattern_side law rev, l) ∷ (other_side law rev, r) ∷ []) s → ByInstance S x T law rev q b c s
  by_instance s i = record {
    typed = i.typed;
    at = at ∙ ap Some (sym i.input_is);
    from = parts.0 ∙ ap Some (sym i.gives.0);
    to = ap (put_in b q) i.gives.1.0 ∙ parts.1;
  }

  instance_by : (s : Substitution) → ByInstance S x T law rev q b c s → Instance S x law.vars law.input w ((pattern_side law rev, l) ∷ (other_side law rev, r) ∷ []) s
  instance_by s h = record {
    typed = h.typed;
    input_is = some_same _ _ (sym h.at ∙ at);
    gives = (some_same _ _ (sym h.from ∙ parts.0), (some_same _ _ (sym (place_kept S x q b c (inst s (other_side law rev)) T w at h.to).1 ∙ (place_kept S x q b c r T w at parts.1).1), tt));
  }

  pub none_by : Decided S x law.vars law.input w ((pattern_side law rev, l) ∷ (other_side law rev, r) ∷ []) None → (s : Substitution) → ByInstance S x T law rev q b c s → ⊥
  none_by d = λ s h. d s (instance_by s h)

  module _ (found : Binds) (d : Decided S x law.vars law.input w ((pattern_side law rev, l) ∷ (other_side law rev, r) ∷ []) (Some found)) where
    pub found_by : ByInstance S x T law rev q b c (substitution_of found)
    found_by = by_instance (substitution_of found) d.0

    pub not_shown_by : AttributesClosed S → RuleOk S law → (hyps : List (List ℕ)) → (AllShown S x hyps law (substitution_of found) → ⊥) → (t : Substitution) → ByInstance S x T law rev q b c t → AllShown S x hyps law t → ⊥
    not_shown_by closed ok hyps h = λ t k sh. h (same_shown S closed x T law ok rev q b c t (substitution_of found) k found_by hyps sh)

-- without parts there is no instance
pub no_parts_by : (S : Classes) (x : Context) (T : TypeTree) (law : RuleTree) (rev : Bool) (q : List ℕ) (b c : TermTree) → AreParts b c q None → (s : Substitution) → ByInstance S x T law rev q b c s → ⊥
no_parts_by S x T law rev q b c h = λ s k. h (inst s (other_side law rev)) k.to
