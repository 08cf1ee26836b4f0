-- Instances of a rule: the substitutions under which sides of the rule are given terms, at a type in a context.
use Rattle.std.specs.Prelude.{◌≡◌, ℕ, Bool, cond, List, Option, Some, None, option_map}
use Rattle.kola_values.specs.Types.{TypeTree}
use Rattle.kola_values.specs.Databases.{Classes, look_up}
use Rattle.kola_term.specs.Terms.{TermTree}
use Rattle.kola_term.specs.Typing.{Context, MetaTree, MFun, MPred, MConst}
use Rattle.kola_rule.specs.Rules.{RuleTree}
use Rattle.kola_match.specs.Occurring.{variable}
use Rattle.kola_match.specs.Substitutions.{Substitution, sub_type, inst, IsTyped}
use Rattle.kola_match.specs.Binds.{Found, Binds, Extends, substitution_of}
use Rattle.kola_match.specs.Pairs.{Sides, AllGive}

-- the side that is matched, and the one that is put in: the left and the right one, or the other way where it is reversed
abbrev pub pattern_side : RuleTree → Bool → TermTree
pattern_side r rev = cond rev r.right r.left

abbrev pub other_side : RuleTree → Bool → TermTree
other_side r rev = cond rev r.left r.right

-- s is typed in the context x, gives the input type T, and gives each side's term
pub record Instance (S : Classes) (x : Context) (vars : Context) (input T : TypeTree) (sides : Sides) (s : Substitution) : Type 0 where
  pub typed : IsTyped S x s vars
  pub input_is : sub_type s.types input ≡ T
  pub gives : AllGive s sides

-- what is found is an instance, and every instance has it; nothing is found only where there is no instance
abbrev pub Decided : Classes → Context → Context → TypeTree → TypeTree → Sides → Option Binds → Type 0
Decided S x vars input T sides (Some b) = Instance S x vars input T sides (substitution_of b) × ((s : Substitution) → Instance S x vars input T sides s → Extends s b)
Decided S x vars input T sides None = (s : Substitution) → Instance S x vars input T sides s → ⊥

-- ---- what an instance gives for the declared variables

-- the input type of a function or predicate under s; a constant has none
abbrev pub input_under : Substitution → MetaTree → Option TypeTree
input_under s (MFun t u) = Some (sub_type s.types t)
input_under s (MPred t) = Some (sub_type s.types t)
input_under s (MConst t) = None

-- the term of a variable under s, and its input type where it has one
abbrev pub given_by : Substitution → List ℕ → MetaTree → TermTree × Option TypeTree
given_by s n m = (inst s (variable n m), input_under s m)

-- what stands in the list for each name is what s gives for the variable that is declared so; nothing stands there for any other name
abbrev pub HasVariables : Context → Substitution → Found (TermTree × Option TypeTree) → Type 0
HasVariables vars s b = (n : List ℕ) → look_up n b ≡ option_map (given_by s n) (look_up n vars)
