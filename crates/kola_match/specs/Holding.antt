-- When a rule holds under a schema: in every database that meets it, and under every typed substitution without variables whose functions in the conditions are injective there, both sides have one value, or one truth.
use Rattle.std.specs.Prelude.{ℕ, List, [], ◌∷◌, Option, Some, ◌≡◌}
use Rattle.kola_values.specs.Values.{ValueTree}
use Rattle.kola_values.specs.Types.{TypeTree}
use Rattle.kola_values.specs.Databases.{Classes, Objects, HasType, look_up}
use Rattle.kola_schema.specs.Meets.{Meets}
use Rattle.kola_term.specs.Terms.{FunTree}
use Rattle.kola_term.specs.Typing.{MetaTree, MFun, Context}
use Rattle.kola_term.specs.Meaning.{den}
use Rattle.kola_term.specs.Agreement.{Agree}
use Rattle.kola_rule.specs.Rules.{RuleTree}
use Rattle.kola_match.specs.Substitutions.{Substitution, sub_type, inst, IsTyped}

-- the function takes no two values of the type to one
abbrev pub Injective : Classes → Objects → FunTree → TypeTree → Type 0
Injective S d f t = (v w : ValueTree) → HasType d v t → HasType d w t → den S d f v ≡ den S d f w → v ≡ w

-- the term of the variable is injective at its input type, where it is declared as a function
abbrev pub InjectiveAt : Classes → Objects → Substitution → List ℕ → Option MetaTree → Type 0
InjectiveAt S d s n (Some (MFun t u)) = Injective S d (s.funs n) (sub_type s.types t)
InjectiveAt S d s n _ = Unit {0}

-- so is that of each name of the conditions
abbrev pub AllInjective : Classes → Objects → Substitution → Context → List (List ℕ) → Type 0
AllInjective S d s vars [] = Unit {0}
AllInjective S d s vars (n ∷ ns) = InjectiveAt S d s n (look_up n vars) × AllInjective S d s vars ns

abbrev pub Holds : Classes → RuleTree → Type 0
Holds S r = (d : Objects) → Meets S d → (s : Substitution) → IsTyped S [] s r.vars → AllInjective S d s r.vars r.when
    → Agree S d (sub_type s.types r.input) (inst s r.left) (inst s r.right)
