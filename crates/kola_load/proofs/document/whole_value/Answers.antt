use Rattle.std.proofs.Common.{cond, Some, None, ap, ◌∙◌}
use Rattle.json.specs.Value.{value_view}
use Rattle.kola_load.specs.JsonViews.{view}
use Rattle.kola_load.proofs.JsonData.{read_whole}
use Rattle.kola_load.proofs.document.whole_value.Goals as goal

pub returns-then-is_whole-clause-ok : goal.returns-then-is_whole-clause-ok
returns-then-is_whole-clause-ok c =
    let v = c.in_ok-value.value in
    read_whole c.args.reader.now c.first_value.new.reader (value_view v) c.is_whole.result c.in_ok-value.ensures.ok c.is_whole.ensures
    ∙ ap (λ b. cond b (Some (view v)) None) c.if-is_whole.true
