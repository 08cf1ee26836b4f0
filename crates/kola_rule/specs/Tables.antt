-- Lists of rules by their names.
use Rattle.std.specs.Prelude.{ℕ, List, map}
use Rattle.kola_rule.specs.declared.rule.Rule.{Rule}

abbrev pub rule_names : List Rule → List (List ℕ)
rule_names rs = map (λ (r : Rule). r.name) rs
