use Rattle.std.proofs.Common.{sym, ap, ◌∙◌, ◌&&◌, ◌+◌, drop, arith}
use Rattle.kola_values.specs.Types.{of_type_fields}
use Rattle.kola_values.proofs.Loops.{type_entry_falls}
use Rattle.kola_schema.specs.Schemas.{class_names}
use Rattle.kola_match.specs.RuleOk.{knows_fields}
use Rattle.kola_match.proofs.RuleLaws.{field_left}
use Rattle.kola_match.proofs.well_typed.+knows_type.Goals as goal

pub knows_fields-knows_type-requires : goal.knows_fields-knows_type-requires
knows_fields-knows_type-requires t c =
    let h = type_entry_falls c.as_slice-t-items.result.now c.args.fields.now c.loop-t.t-index c.loop-t-item.result c.as_slice-t-items.ensures c.loop-t-test.true c.loop-t-item.is in
    (omega (arith, h, c.decreases), tt)

pub knows_fields-returns-then-not-knows_type : goal.knows_fields-returns-then-not-knows_type
knows_fields-returns-then-not-knows_type t c =
    let cs = class_names c.args.schema.now in
    let h = field_left cs c.as_slice-t-items.result.now c.args.fields.now c.loop-t.t-index c.loop-t-item.result c.as_slice-t-items.ensures c.loop-t-test.true c.loop-t-item.is in
    ap (λ b. b && knows_fields cs (of_type_fields (drop (c.loop-t.t-index + 1) c.args.fields.now))) (sym c.if-not-knows_type.true ∙ c.knows_type.ensures) ∙ (sym h ∙ c.loop-t.invariant)

pub knows_fields-loop-t-preserved : goal.knows_fields-loop-t-preserved
knows_fields-loop-t-preserved t c =
    let cs = class_names c.args.schema.now in
    let h = field_left cs c.as_slice-t-items.result.now c.args.fields.now c.loop-t.t-index c.loop-t-item.result c.as_slice-t-items.ensures c.loop-t-test.true c.loop-t-item.is in
    ap (λ b. b && knows_fields cs (of_type_fields (drop (c.loop-t.t-index + 1) c.args.fields.now))) (sym c.if-not-knows_type.false ∙ c.knows_type.ensures) ∙ (sym h ∙ c.loop-t.invariant)
