use Rattle.std.proofs.Common.{rules, ◌∙◌, ap, sym}
use Rattle.kola_values.specs.Databases.{look_up}
use Rattle.kola_values.specs.Views.{value_entry}
use Rattle.kola_database.proofs.Stored.{value_found}
use Rattle.kola_database.proofs.Numbered.{first_of_name}
use Rattle.kola_database.proofs.db.value_from.Goals as goal

pub returns-then-is : goal.returns-then-is
returns-then-is c =
    first_of_name c.args.object.now.values c.args.place (value_entry c.in-Some.entry.now) c.args.a.now c.requires c.in-Some.ensures (sym c.is.ensures ∙ c.if-is.true)

pub returns-in_err-entry : goal.returns-in_err-entry
returns-in_err-entry c =
    let k = value_found c.as_slice.result.now c.args.a.now ∙ ap (look_up c.args.a.now) c.as_slice.ensures in
    search rules

pub returns : goal.returns
returns c =
    let k = value_found c.as_slice.result.now c.args.a.now ∙ ap (look_up c.args.a.now) c.as_slice.ensures in
    search rules
