use Rattle.std.proofs.Common.{subst, ap, ◌∙◌}
use Rattle.kola_core.specs.NameLists.{is_listed}
use Rattle.coko_plan.specs.Working.Seen.{AddsName}
use Rattle.coko_plan.proofs.Seeing.{name_added}
use Rattle.coko_plan.proofs.firing.add_name.Goals as goal

pub returns : goal.returns
returns c = subst (AddsName c.args.names.now c.add.new.self) c.as_text.ensures.text (λ m. ap (is_listed m) c.in_ok-add.ensures.added ∙ name_added c.args.names.now c.as_text.result.now m)
