-- Each law is well typed under every schema.
use Rattle.std.proofs.Common.{◌≡◌, true, List, [], ◌∷◌, refl}
use Rattle.std.specs.List.{list_all}
use Rattle.kola_values.specs.Databases.{Classes}
use Rattle.kola_values.specs.Sets.{Each}
use Rattle.kola_term.specs.Faults.{small}
use Rattle.kola_term.proofs.Inversions.{and_true}
use Rattle.kola_rule.specs.Rules.{RuleTree}
use Rattle.kola_match.specs.RuleOk.{RuleOk}
use Rattle.kola_match.proofs.RuleTests.{rule_test}
use Rattle.kola_match.proofs.RuleTested.{tested}
use Rattle.kola_laws.specs.Laws.{laws}

all_tested : (S : Classes) (rs : List RuleTree) → list_all (rule_test S) rs ≡ true → Each (RuleOk S) rs
all_tested S [] e = tt
all_tested S (r ∷ rs) e = let k = and_true (rule_test S r) (list_all (rule_test S) rs) e in (tested S r k.0, all_tested S rs k.1)

laws_pass : (S : Classes) → list_all (rule_test S) laws ≡ true
unfolding small
laws_pass S = refl

pub every_law_is_well_typed : (S : Classes) → Each (RuleOk S) laws
every_law_is_well_typed S = all_tested S laws (laws_pass S)
