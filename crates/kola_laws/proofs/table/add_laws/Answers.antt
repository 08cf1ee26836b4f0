use Rattle.std.proofs.Common.{◌∙◌, ap, ◌++◌}
use Rattle.kola_laws.specs.Composition.{composition}
use Rattle.kola_laws.specs.Choice.{choice}
use Rattle.kola_laws.specs.Restriction.{restriction}
use Rattle.kola_laws.specs.Truth.{truth}
use Rattle.kola_laws.specs.Comparison.{comparison}
use Rattle.kola_laws.specs.Iteration.{iteration}
use Rattle.kola_laws.specs.Joining.{joining}
use Rattle.kola_laws.specs.Nesting.{nesting}
use Rattle.kola_laws.specs.Quantifiers.{quantifiers}
use Rattle.kola_laws.specs.SetOperations.{set_operations}
use Rattle.kola_laws.specs.Injectivity.{injectivity}
use Rattle.kola_laws.proofs.table.add_laws.Goals as goal

pub returns : goal.returns
returns c = λ start.
    let e1 = c.in_ok-composition.ensures ∙ ap (λ rs. rs ++ composition) start in
    let e2 = c.in_ok-choice.ensures ∙ ap (λ rs. rs ++ choice) e1 in
    let e3 = c.in_ok-restriction.ensures ∙ ap (λ rs. rs ++ restriction) e2 in
    let e4 = c.in_ok-truth.ensures ∙ ap (λ rs. rs ++ truth) e3 in
    let e5 = c.in_ok-comparison.ensures ∙ ap (λ rs. rs ++ comparison) e4 in
    let e6 = c.in_ok-iteration.ensures ∙ ap (λ rs. rs ++ iteration) e5 in
    let e7 = c.in_ok-joining.ensures ∙ ap (λ rs. rs ++ joining) e6 in
    let e8 = c.in_ok-nesting.ensures ∙ ap (λ rs. rs ++ nesting) e7 in
    let e9 = c.in_ok-quantifiers.ensures ∙ ap (λ rs. rs ++ quantifiers) e8 in
    let e10 = c.in_ok-set_operations.ensures ∙ ap (λ rs. rs ++ set_operations) e9 in
    c.in_ok-injectivity.ensures ∙ ap (λ rs. rs ++ injectivity) e10
