-- The laws have distinct names.
use Rattle.std.proofs.Common.{◌≡◌, true, List, [], ◌∷◌, map, refl, ap, ◌∙◌}
use Rattle.kola_schema.specs.Schemas.{are_distinct}
use Rattle.kola_rule.specs.Rules.{RuleTree}
use Rattle.kola_rule.specs.RuleViews.{rule_tree}
use Rattle.kola_rule.specs.Tables.{rule_names}
use Rattle.kola_rule.specs.declared.rule.Rule.{Rule}
use Rattle.kola_laws.specs.Laws.{laws}

names_seen : (rs : List Rule) → rule_names rs ≡ map (λ (r : RuleTree). r.name) (map rule_tree rs)
names_seen [] = refl
names_seen (r ∷ rs) = ap (λ ns. r.name ∷ ns) (names_seen rs)

laws_distinct : are_distinct (map (λ (r : RuleTree). r.name) laws) ≡ true
laws_distinct = refl

pub names_apart : (rs : List Rule) → map rule_tree rs ≡ laws → are_distinct (rule_names rs) ≡ true
names_apart rs e = ap are_distinct (names_seen rs) ∙ ap (λ ts. are_distinct (map (λ (r : RuleTree). r.name) ts)) e ∙ laws_distinct
