use Rattle.std.proofs.Common.{sym, ◌∙◌, arith}
use Rattle.kola_schema.specs.Schemas.{names_of}
use Rattle.oql_check.proofs.Checks.{label_is}
use Rattle.oql_check.proofs.CheckLoops.{labels_seen, label_stands, label_past, names_many}
use Rattle.oql_check.proofs.typing.check_label.Goals as goal

pub returns-then-has_label : goal.returns-then-has_label
returns-then-has_label c =
    label_stands c.args.at c.args.label.now (names_of c.args.fields.now)
    (sym (labels_seen c.args.label.now c.as_slice.result.now c.args.fields.now c.as_slice.ensures) ∙ sym c.has_label.ensures ∙ c.if-has_label.true)

pub returns-then-len-ge-FIELDS : goal.returns-then-len-ge-FIELDS
returns-then-len-ge-FIELDS c =
    let m = names_many c.args.fields.now in
    label_past c.args.at c.args.label.now (names_of c.args.fields.now)
    (sym (labels_seen c.args.label.now c.as_slice.result.now c.args.fields.now c.as_slice.ensures) ∙ sym c.has_label.ensures ∙ c.if-has_label.false)
    (omega (arith, c.if-len-ge-FIELDS.true, c.len.ensures))

pub returns : goal.returns
returns c =
    let m = names_many c.args.fields.now in
    label_is c.args.at (names_of c.args.fields.now) c.args.label.now
    (sym (labels_seen c.args.label.now c.as_slice.result.now c.args.fields.now c.as_slice.ensures) ∙ sym c.has_label.ensures ∙ c.if-has_label.false)
    (omega (arith, c.if-len-ge-FIELDS.false, c.len.ensures))
