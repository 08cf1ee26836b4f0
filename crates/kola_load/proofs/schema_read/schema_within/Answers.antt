use Rattle.std.proofs.Common.{map, sym, subst}
use Rattle.kola_load.specs.PlainSchemas.{HaveKeys}
use Rattle.kola_load.specs.SchemaViews.{class_view}
use Rattle.kola_load.proofs.OneSchema.{read_keys, answer_found, answer_fault, stop_fault}
use Rattle.kola_load.proofs.schema_read.schema_within.Goals as goal

pub checked-requires : goal.checked-requires
checked-requires c =
    subst (λ cs. HaveKeys (map class_view cs)) (sym c.as_slice.ensures.value)
    (read_keys c.args.sets c.args.text.now c.in-Ok.tokens.items c.from_token.result c.in-Ok.ensures.found (rw c.deref.ensures.value at c.from_token.ensures) (map class_view c.in-Ok-schema_of.classes.items) c.in-Ok-schema_of.ensures)

pub returns-in-Ok-schema_of-clause-found : goal.returns-in-Ok-schema_of-clause-found
returns-in-Ok-schema_of-clause-found c =
    answer_found c.args.sets c.args.text.now c.in-Ok.tokens.items c.from_token.result c.in-Ok.ensures.found (rw c.deref.ensures.value at c.from_token.ensures) (map class_view c.in-Ok-schema_of.classes.items) c.in-Ok-schema_of.ensures c.checked.result
    (rw c.as_slice.ensures.value at c.checked.ensures.found)

pub returns-in-Ok-schema_of-clause-fault : goal.returns-in-Ok-schema_of-clause-fault
returns-in-Ok-schema_of-clause-fault c =
    answer_fault c.args.sets c.args.text.now c.in-Ok.tokens.items c.from_token.result c.in-Ok.ensures.found (rw c.deref.ensures.value at c.from_token.ensures) (map class_view c.in-Ok-schema_of.classes.items) c.in-Ok-schema_of.ensures c.checked.result
    (rw c.as_slice.ensures.value at c.checked.ensures.fault)

pub returns-clause-fault : goal.returns-clause-fault
returns-clause-fault c =
    rw (c.of_text-in-Err-schema_of.ensures, c.fault_at.ensures)
    (stop_fault c.args.sets c.args.text.now c.in-Ok.tokens.items c.from_token.result c.in-Ok.ensures.found (rw c.deref.ensures.value at c.from_token.ensures) c.in-Err-schema_of.stop c.in-Err-schema_of.ensures)
