-- The plain trees of rules, and of rules with their proofs.
use Rattle.std.specs.Prelude.{ℕ, Bool, List}
use Rattle.kola_values.specs.Types.{TypeTree}
use Rattle.kola_term.specs.Terms.{TermTree}
use Rattle.kola_term.specs.Typing.{Context}

-- a rule: at the input type, and where each function that `when` names is injective, the left side equals the right side
pub record RuleTree : Type 0 where
  pub name : List ℕ
  pub vars : Context
  pub input : TypeTree
  pub when : List (List ℕ)
  pub left : TermTree
  pub right : TermTree

-- a step of a proof: the term that it comes to, by the rule of the name at the path, from right to left where it is reversed
pub record StepTree : Type 0 where
  pub term : TermTree
  pub law : List ℕ
  pub rev : Bool
  pub path : List ℕ

-- a rule with its proof: the first term and the steps
pub record DraftTree : Type 0 where
  pub rule : RuleTree
  pub first : TermTree
  pub steps : List StepTree
