use Rattle.std.proofs.Common.{◌≡◌, ◌≤◌, refl, sym, ap, ◌∙◌, subst}
use Rattle.std.proofs.lemmas.List.Sorted.{IsPermutation-refl}
use Rattle.kola_values.specs.Values.{VUnit}
use Rattle.kola_values.specs.Shapes.{Shaped}
use Rattle.kola_values.specs.Views.{value_tree}
use Rattle.kola_canon.specs.Encoding.{enc_type}
use Rattle.kola_term.specs.Terms.{FunTree, TermF}
use Rattle.kola_term.specs.TermView.{fun_tree, term_tree}
use Rattle.kola_term.specs.Meaning.{den}
use Rattle.kola_term.specs.Visits.{visits}
use Rattle.kola_translate.specs.Translation.{translation}
use Rattle.kola_top.specs.Stages.{visit_limit}
use Rattle.kola_top.specs.Valued.{IsText}
use Rattle.kola_top.proofs.ValueLaws.{value_shaped, text_is}
use Rattle.kola_top.proofs.valued.evaluated.Goals as goal

function_is : (f g : FunTree) → TermF f ≡ TermF g → f ≡ g
function_is f g e = cc

pub text_of-requires : goal.text_of-requires
text_of-requires c =
    let S = c.args.schema.now in
    let d = c.args.db.now.objects in
    let asked = c.args.asked.now in
    let q = asked.typed.value.0 in
    let t = asked.typed.value.1 in
    let f : fun_tree c.function_of.result.now ≡ translation S q = function_is (fun_tree c.function_of.result.now) (translation S q) (c.function_of.ensures ∙ (ap term_tree c.term.ensures ∙ c.requires.asked.term)) in
    let v = value_tree c.in_ok-value.value.value.value in
    let h : Shaped v (enc_type t) = value_shaped S d d q t c.well_formed-2.ensures c.requires.under.meets c.requires.asked.typed (IsPermutation-refl d) v (c.in_ok-value.ensures.value ∙ ap (λ g. den S d g VUnit) f) refl in
    subst (λ y. Shaped (value_tree c.deref.result.now.value) (enc_type y)) (sym (ap (λ p. p.1) c.typed.ensures))
    (subst (λ y. Shaped (value_tree y.value) (enc_type t)) (sym c.deref.ensures) h)

pub returns : goal.returns
returns c = λ os order.
    let S = c.args.schema.now in
    let d = c.args.db.now.objects in
    let asked = c.args.asked.now in
    let q = asked.typed.value.0 in
    let t = asked.typed.value.1 in
    let f : fun_tree c.function_of.result.now ≡ translation S q = function_is (fun_tree c.function_of.result.now) (translation S q) (c.function_of.ensures ∙ (ap term_tree c.term.ensures ∙ c.requires.asked.term)) in
    let v = value_tree c.in_ok-value.value.value.value in
    let law = c.the_order_of_objects_does_not_matter.ensures in
    let kept : visits S d (translation S q) VUnit ≡ visits S os (translation S q) VUnit = sym (law.visits S os d order c.requires.under.meets (translation S q) VUnit) in
    let told : IsText t v c.in_ok-text.text.items = subst (λ y. IsText y v c.in_ok-text.text.items) (ap (λ p. p.1) c.typed.ensures) (subst (λ y. IsText c.typed.result.now.1 (value_tree y.value) c.in_ok-text.text.items) c.deref.ensures c.in_ok-text.ensures) in
    record {
      text = text_is S os d q t c.well_formed-2.ensures c.requires.under.meets c.requires.asked.typed order v (c.in_ok-value.ensures.value ∙ ap (λ g. den S d g VUnit) f) (sym (law.value S os d order c.requires.under.meets (translation S q) VUnit)) c.in_ok-text.text.items told;
      visited = ap (λ e. e.visits) c.deref-2.ensures ∙ (c.in_ok-value.ensures.visits ∙ (ap (λ g. visits S d g VUnit) f ∙ kept));
      within = subst (λ n. n ≤ visit_limit) kept (subst (λ g. visits S d g VUnit ≤ visit_limit) f c.in_ok-value.ensures.stage);
    }
