-- Each law holds.
use Rattle.std.proofs.Common.{List, ◌++◌}
use Rattle.kola_values.specs.Sets.{Each}
use Rattle.kola_values.specs.Databases.{Classes}
use Rattle.kola_values.proofs.Each.{each_append}
use Rattle.kola_rule.specs.Rules.{RuleTree}
use Rattle.kola_match.specs.Holding.{Holds}
use Rattle.kola_laws.specs.Laws.{laws}
use Rattle.kola_laws.specs.Composition.{composition}
use Rattle.kola_laws.specs.Choice.{choice}
use Rattle.kola_laws.specs.Restriction.{restriction}
use Rattle.kola_laws.specs.Truth.{truth}
use Rattle.kola_laws.specs.Comparison.{comparison}
use Rattle.kola_laws.specs.Iteration.{iteration}
use Rattle.kola_laws.specs.Joining.{joining}
use Rattle.kola_laws.specs.Nesting.{nesting}
use Rattle.kola_laws.specs.Quantifiers.{quantifiers}
use Rattle.kola_laws.specs.SetOperations.{set_operations}
use Rattle.kola_laws.specs.Injectivity.{injectivity}
use Rattle.kola_laws.proofs.CompositionHold.{composition_hold}
use Rattle.kola_laws.proofs.ChoiceHold.{choice_hold}
use Rattle.kola_laws.proofs.RestrictionHold.{restriction_hold}
use Rattle.kola_laws.proofs.TruthHold.{truth_hold}
use Rattle.kola_laws.proofs.ComparisonHold.{comparison_hold}
use Rattle.kola_laws.proofs.IterationHold.{iteration_hold}
use Rattle.kola_laws.proofs.JoiningHold.{joining_hold}
use Rattle.kola_laws.proofs.NestingHold.{nesting_hold}
use Rattle.kola_laws.proofs.QuantifiersHold.{quantifiers_hold}
use Rattle.kola_laws.proofs.SetOperationsHold.{set_operations_hold}
use Rattle.kola_laws.proofs.InjectivityHold.{injectivity_hold}

before : (S : Classes) (rs more : List RuleTree) → Each (Holds S) rs → Each (Holds S) more → Each (Holds S) (rs ++ more)
before S rs more h k = each_append (Holds S) rs more h k

pub every_law_holds : (S : Classes) → Each (Holds S) laws
every_law_holds S =
    let r10 = injectivity_hold S in
    let r9 = before S set_operations injectivity (set_operations_hold S) r10 in
    let r8 = before S quantifiers (set_operations ++ injectivity) (quantifiers_hold S) r9 in
    let r7 = before S nesting (quantifiers ++ set_operations ++ injectivity) (nesting_hold S) r8 in
    let r6 = before S joining (nesting ++ quantifiers ++ set_operations ++ injectivity) (joining_hold S) r7 in
    let r5 = before S iteration (joining ++ nesting ++ quantifiers ++ set_operations ++ injectivity) (iteration_hold S) r6 in
    let r4 = before S comparison (iteration ++ joining ++ nesting ++ quantifiers ++ set_operations ++ injectivity) (comparison_hold S) r5 in
    let r3 = before S truth (comparison ++ iteration ++ joining ++ nesting ++ quantifiers ++ set_operations ++ injectivity) (truth_hold S) r4 in
    let r2 = before S restriction (truth ++ comparison ++ iteration ++ joining ++ nesting ++ quantifiers ++ set_operations ++ injectivity) (restriction_hold S) r3 in
    let r1 = before S choice (restriction ++ truth ++ comparison ++ iteration ++ joining ++ nesting ++ quantifiers ++ set_operations ++ injectivity) (choice_hold S) r2 in
    before S composition (choice ++ restriction ++ truth ++ comparison ++ iteration ++ joining ++ nesting ++ quantifiers ++ set_operations ++ injectivity) (composition_hold S) r1
