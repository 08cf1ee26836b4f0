-- What a part of a law is that the program makes: where memory was found, its plain tree is the given one.
use Rattle.std.specs.Prelude.{◌≡◌, ℕ, List, Result, IfOk}
use Rattle.std.specs.declared.boxed.Box.{Box}
use Rattle.kola_values.specs.Types.{TypeTree}
use Rattle.kola_term.specs.Terms.{ConstTree, FunTree, PredTree}
use Rattle.kola_term.specs.TermView.{const_tree, fun_tree, pred_tree}
use Rattle.kola_term.specs.Typing.{Context}
use Rattle.kola_term.specs.ContextView.{context_of}
use Rattle.kola_term.specs.declared.constant.Const.{Const}
use Rattle.kola_term.specs.declared.meta.MetaTy.{MetaTy}
use Rattle.kola_term.specs.declared.term.Fun.{Fun}
use Rattle.kola_term.specs.declared.term.Pred.{Pred}
use Rattle.kola_rule.specs.Rules.{RuleTree}
use Rattle.kola_rule.specs.RuleViews.{rule_tree}
use Rattle.kola_rule.specs.declared.rule.Rule.{Rule}

unfoldable pub MakesType : {E : Type 0} → Result TypeTree E → TypeTree → Type 0
MakesType r t = IfOk r (λ a. a ≡ t)

unfoldable pub MakesConst : {E : Type 0} → Result Const E → ConstTree → Type 0
MakesConst r t = IfOk r (λ a. const_tree a ≡ t)

unfoldable pub MakesFun : {Z E : Type 0} → Result (Box Fun Z) E → FunTree → Type 0
MakesFun r t = IfOk r (λ a. fun_tree a.value ≡ t)

unfoldable pub MakesPred : {Z E : Type 0} → Result (Box Pred Z) E → PredTree → Type 0
MakesPred r t = IfOk r (λ a. pred_tree a.value ≡ t)

unfoldable pub MakesContext : {E : Type 0} → Result (List (List ℕ × MetaTy)) E → Context → Type 0
MakesContext r t = IfOk r (λ a. context_of a ≡ t)

unfoldable pub MakesRule : {E : Type 0} → Result Rule E → RuleTree → Type 0
MakesRule r t = IfOk r (λ a. rule_tree a ≡ t)
