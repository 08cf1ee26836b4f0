use Rattle.std.proofs.Common.{Some, cond, drop, ◌+◌, sym, ap, ◌∙◌}
use Rattle.kola_values.specs.Databases.{look_up}
use Rattle.kola_values.specs.Views.{type_tree}
use Rattle.oql_check.proofs.CheckLoops.{field_turn}
use Rattle.oql_check.proofs.path.field.Goals as goal

pub returns-then-is : goal.returns-then-is
returns-then-is c =
    let x = c.loop-name-item.result in
    let rest = look_up c.args.label.now (drop (c.loop-name.name-index + 1) c.args.fields.now) in
    sym (c.loop-name.invariant
    ∙ field_turn c.args.label.now c.as_slice-name-items.result.now c.args.fields.now c.loop-name.name-index x c.as_slice-name-items.ensures c.loop-name-test.true c.loop-name-item.is
    ∙ ap (λ b. cond b (Some (type_tree x.1)) rest) (sym c.is.ensures ∙ c.if-is.true))

pub loop-name-preserved : goal.loop-name-preserved
loop-name-preserved c =
    let x = c.loop-name-item.result in
    let rest = look_up c.args.label.now (drop (c.loop-name.name-index + 1) c.args.fields.now) in
    c.loop-name.invariant
    ∙ field_turn c.args.label.now c.as_slice-name-items.result.now c.args.fields.now c.loop-name.name-index x c.as_slice-name-items.ensures c.loop-name-test.true c.loop-name-item.is
    ∙ ap (λ b. cond b (Some (type_tree x.1)) rest) (sym c.is.ensures ∙ c.if-is.false)
