-- The rules of a job, as the program keeps them.
use Rattle.std.specs.Prelude.{ℕ, List, [], map, drop}
use Rattle.kola_values.specs.Databases.{Classes}
use Rattle.kola_rule.specs.declared.rule.Rule.{Rule}
use Rattle.kola_top.specs.declared.rules.Rulebook.{Rulebook}
use Rattle.kola_top.specs.declared.rules.Rulebook.TheVariants.{Empty, Rules}

-- the names of the rules behind the first n
abbrev pub names_behind : ℕ → List Rule → List (List ℕ)
names_behind n rs = map (λ (r : Rule). r.name) (drop n rs)

abbrev pub book_schema : Rulebook → Classes
book_schema (Empty schema) = schema.value
book_schema (Rules accepted laws) = accepted.value.schema

-- the names of the rules, without those of the laws
abbrev pub book_names : Rulebook → List (List ℕ)
book_names (Empty schema) = []
book_names (Rules accepted laws) = names_behind laws accepted.value.rules
