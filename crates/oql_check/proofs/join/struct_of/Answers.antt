use Rattle.std.proofs.Common.{Ok, sym, ap, ◌∙◌}
use Rattle.kola_values.specs.Types.{TStruct, of_type_fields}
use Rattle.oql_check.specs.QueryTypes.{provided}
use Rattle.oql_check.specs.declared.fault.CheckWhy.TheVariants as why
use Rattle.oql_check.proofs.CheckLoops.{struct_by}
use Rattle.oql_check.proofs.join.struct_of.Goals as goal

pub returns-then-not-is_small_struct : goal.returns-then-not-is_small_struct
returns-then-not-is_small_struct c =
    struct_by c.args.at c.args.fields (λ e. c.if-len-eq0.false (c.len.ensures ∙ e))
    ∙ ap (λ b. provided b c.args.at why.TypeTooLarge (Ok (TStruct (of_type_fields c.args.fields)))) (sym c.is_small_struct.ensures ∙ c.if-not-is_small_struct.true)

pub returns : goal.returns
returns c =
    struct_by c.args.at c.args.fields (λ e. c.if-len-eq0.false (c.len.ensures ∙ e))
    ∙ ap (λ b. provided b c.args.at why.TypeTooLarge (Ok (TStruct (of_type_fields c.args.fields)))) (sym c.is_small_struct.ensures ∙ c.if-not-is_small_struct.false)
    ∙ ap Ok (sym c.in_ok-t.ensures)
