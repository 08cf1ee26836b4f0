-- The laws of the algebra, in their order.
use Rattle.std.specs.Prelude.{List, ◌++◌}
use Rattle.kola_rule.specs.Rules.{RuleTree}
use Rattle.kola_laws.specs.Composition.{composition}
use Rattle.kola_laws.specs.Choice.{choice}
use Rattle.kola_laws.specs.Restriction.{restriction}
use Rattle.kola_laws.specs.Truth.{truth}
use Rattle.kola_laws.specs.Comparison.{comparison}
use Rattle.kola_laws.specs.Iteration.{iteration}
use Rattle.kola_laws.specs.Joining.{joining}
use Rattle.kola_laws.specs.Nesting.{nesting}
use Rattle.kola_laws.specs.Quantifiers.{quantifiers}
use Rattle.kola_laws.specs.SetOperations.{set_operations}
use Rattle.kola_laws.specs.Injectivity.{injectivity}

abbrev pub laws : List RuleTree
laws = composition ++ choice ++ restriction ++ truth ++ comparison ++ iteration ++ joining ++ nesting ++ quantifiers ++ set_operations ++ injectivity
