-- When a step of a rule's proof is right, and what is wrong with it first.
use Rattle.std.specs.Prelude.{ℕ, Bool, List, Option, Some, None, ◌≡◌}
use Rattle.std.specs.List.{find}
use Rattle.std.specs.Str.{bytes_eq}
use Rattle.kola_values.specs.Types.{TypeTree}
use Rattle.kola_values.specs.Databases.{Classes, look_up}
use Rattle.kola_values.specs.Sets.{Each}
use Rattle.kola_term.specs.Terms.{TermTree, TermF, TermP}
use Rattle.kola_term.specs.Typing.{Context, MetaTree, MFun}
use Rattle.kola_term.specs.Places.{sub_at, put_in, place}
use Rattle.kola_rule.specs.Rules.{RuleTree, StepTree}
use Rattle.kola_match.specs.Substitutions.{Substitution, sub_type, inst, IsTyped}
use Rattle.kola_match.specs.RuleOk.{SidesFit}
use Rattle.kola_match.specs.Instances.{pattern_side, other_side}
use Rattle.kola_injective.specs.Derived.{Derived}
use Rattle.kola_proof.specs.declared.fault.StepWhy.{StepWhy}
use Rattle.kola_proof.specs.declared.fault.StepWhy.TheVariants as why

-- the first rule of the name
abbrev pub rule_named : List RuleTree → List ℕ → Option RuleTree
rule_named rs n = find (λ (r : RuleTree). bytes_eq n r.name) rs

-- a function or a predicate stands there
abbrev pub IsPlace : Option TermTree → Type 0
IsPlace (Some (TermF f)) = Unit {0}
IsPlace (Some (TermP p)) = Unit {0}
IsPlace _ = ⊥

-- by the instance s of the rule, at its input type, c is b with the other side in the place of the side that is matched
pub record ByInstance (S : Classes) (x : Context) (input : TypeTree) (r : RuleTree) (rev : Bool) (q : List ℕ) (b c : TermTree) (s : Substitution) : Type 0 where
  pub typed : IsTyped S x s r.vars
  pub at : place S x b input q ≡ Some (sub_type s.types r.input)
  pub from : sub_at b q ≡ Some (inst s (pattern_side r rev))
  pub to : put_in b q (inst s (other_side r rev)) ≡ Some c

-- the term of the variable is shown to be injective at its input type, where it is declared as a function
abbrev pub ShownAt : Classes → Context → List (List ℕ) → Substitution → List ℕ → Option MetaTree → Type 0
ShownAt S x hyps s n (Some (MFun t u)) = Derived S x hyps (s.funs n) (sub_type s.types t)
ShownAt S x hyps s n _ = Unit {0}

-- so is that of each name in the conditions of the rule
abbrev pub AllShown : Classes → Context → List (List ℕ) → RuleTree → Substitution → Type 0
AllShown S x hyps r s = Each (λ n. ShownAt S x hyps s n (look_up n r.vars)) r.when

-- in the proof of the rule o, by rules that stand, the step k goes on from b
pub record StepOk (S : Classes) (rules : List RuleTree) (o : RuleTree) (b : TermTree) (k : StepTree) : Type 0 where
  pub law : RuleTree
  pub named : rule_named rules k.law ≡ Some law
  pub part : IsPlace (sub_at b k.path)
  pub fits : SidesFit S o.vars o.input o.left k.term
  pub s : Substitution
  pub by : ByInstance S o.vars o.input law k.rev k.path b k.term s
  pub shown : AllShown S o.vars o.when law s

-- the first thing that is wrong with it
pub data StepBad (S : Classes) (rules : List RuleTree) (o : RuleTree) (b : TermTree) (k : StepTree) : StepWhy → Type 0 where
  unknown_law : rule_named rules k.law ≡ None → StepBad S rules o b k why.UnknownLaw
  no_such_path : (law : RuleTree) → rule_named rules k.law ≡ Some law → (IsPlace (sub_at b k.path) → ⊥) → StepBad S rules o b k why.NoSuchPath
  step_ill_typed : (law : RuleTree) → rule_named rules k.law ≡ Some law → IsPlace (sub_at b k.path) → (SidesFit S o.vars o.input o.left k.term → ⊥) → StepBad S rules o b k why.StepIllTyped
  no_instance : (law : RuleTree) → rule_named rules k.law ≡ Some law → IsPlace (sub_at b k.path) → SidesFit S o.vars o.input o.left k.term
      → ((s : Substitution) → ByInstance S o.vars o.input law k.rev k.path b k.term s → ⊥) → StepBad S rules o b k why.NoInstance
  condition_not_shown : (law : RuleTree) (s : Substitution) → rule_named rules k.law ≡ Some law → IsPlace (sub_at b k.path) → SidesFit S o.vars o.input o.left k.term
      → ByInstance S o.vars o.input law k.rev k.path b k.term s → ((t : Substitution) → ByInstance S o.vars o.input law k.rev k.path b k.term t → AllShown S o.vars o.when law t → ⊥)
      → StepBad S rules o b k why.ConditionNotShown
