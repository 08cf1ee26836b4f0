-- The form of a pattern, by the children of both nodes.
use Rattle.std.proofs.Common.{◌≡◌, ◌↔◌, Bool, true, false, refl, sym, ◌∙◌, subst, List, [], ◌∷◌}
use Rattle.kola_term.specs.Terms.{TermTree}
use Rattle.kola_term.specs.Places.{children}
use Rattle.kola_match.specs.Alike.{same_kind}
use Rattle.kola_match.specs.Nodes.{is_variable, same_node}
use Rattle.coko_run.specs.Forms.{HasForm, of_variable, of_node, HaveForms, no_forms, more_forms}

clash : (b : Bool) → b ≡ true → b ≡ false → ⊥
clash true e f = absurd (cc)
clash false e f = absurd (cc)

pub variable_form : (p t : TermTree) (v b : Bool) → v ≡ is_variable p → v ≡ true → b ≡ same_kind p t → ((b ≡ true) ↔ HasForm p t)
variable_form p t v b e i k = (λ h. of_variable (sym e ∙ i) (sym k ∙ h), λ h. k ∙ back h)
  where
    back : HasForm p t → same_kind p t ≡ true
    back (of_variable u j) = j
    back (of_node u j l) = absurd (clash (is_variable p) (sym e ∙ i) u)

forms_in : {p t : TermTree} → is_variable p ≡ false → HasForm p t → HaveForms (children p) (children t)
forms_in {p = p} e (of_variable u j) = absurd (clash (is_variable p) u e)
forms_in e (of_node u j l) = l

moved : (ps qs ts us : List TermTree) → ps ≡ qs → ts ≡ us → HaveForms ps ts → HaveForms qs us
moved ps qs ts us e f h = subst (λ z. HaveForms z us) e (subst (HaveForms ps) f h)

pub node_form : (p t : TermTree) (ps ts : List TermTree) (v n : Bool) → v ≡ is_variable p → v ≡ false → n ≡ same_node p t → n ≡ true → ps ≡ children p → ts ≡ children t → (HaveForms ps ts ↔ HasForm p t)
node_form p t ps ts v n e i f j a b = (λ h. of_node (sym e ∙ i) (sym f ∙ j) (moved ps (children p) ts (children t) a b h), λ h. moved (children p) ps (children t) ts (sym a) (sym b) (forms_in (sym e ∙ i) h))

first_in : {a b : TermTree} {ps ts : List TermTree} → HaveForms (a ∷ ps) (b ∷ ts) → HasForm a b
first_in (more_forms x y) = x

rest_in : {a b : TermTree} {ps ts : List TermTree} → HaveForms (a ∷ ps) (b ∷ ts) → HaveForms ps ts
rest_in (more_forms x y) = y

-- of one, two and three children
pub leaf_form : (X : Type 0) → (HaveForms [] [] ↔ X) → ((true ≡ true) ↔ X)
leaf_form X h = (λ _. h.0 no_forms, λ _. refl)

pub one_form : (X : Type 0) (a b : TermTree) (r : Bool) → (HaveForms (a ∷ []) (b ∷ []) ↔ X) → ((r ≡ true) ↔ HasForm a b) → ((r ≡ true) ↔ X)
one_form X a b r h k = (λ e. h.0 (more_forms (k.0 e) no_forms), λ x. k.1 (first_in (h.1 x)))

pub two_form : (X : Type 0) (a b c d : TermTree) (r : Bool) → (HaveForms (a ∷ c ∷ []) (b ∷ d ∷ []) ↔ X) → HasForm a b → ((r ≡ true) ↔ HasForm c d) → ((r ≡ true) ↔ X)
two_form X a b c d r h f k = (λ e. h.0 (more_forms f (more_forms (k.0 e) no_forms)), λ x. k.1 (first_in (rest_in (h.1 x))))

pub three_form : (X : Type 0) (a b c d e f : TermTree) (r : Bool) → (HaveForms (a ∷ c ∷ e ∷ []) (b ∷ d ∷ f ∷ []) ↔ X) → HasForm a b → HasForm c d → ((r ≡ true) ↔ HasForm e f) → ((r ≡ true) ↔ X)
three_form X a b c d e f r h x y k = (λ i. h.0 (more_forms x (more_forms y (more_forms (k.0 i) no_forms))), λ z. k.1 (first_in (rest_in (rest_in (h.1 z)))))

-- an earlier child has another form
pub not_first : (X : Type 0) (a b : TermTree) (ps ts : List TermTree) (r : Bool) → (HaveForms (a ∷ ps) (b ∷ ts) ↔ X) → ((r ≡ true) ↔ HasForm a b) → r ≡ false → ((false ≡ true) ↔ X)
not_first X a b ps ts r h k e = (λ i. absurd (cc), λ x. sym e ∙ k.1 (first_in (h.1 x)))

pub not_second : (X : Type 0) (a b c d : TermTree) (ps ts : List TermTree) (r : Bool) → (HaveForms (a ∷ c ∷ ps) (b ∷ d ∷ ts) ↔ X) → ((r ≡ true) ↔ HasForm c d) → r ≡ false → ((false ≡ true) ↔ X)
not_second X a b c d ps ts r h k e = (λ i. absurd (cc), λ x. sym e ∙ k.1 (first_in (rest_in (h.1 x))))
