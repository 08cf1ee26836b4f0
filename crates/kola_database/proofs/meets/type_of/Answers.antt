use Rattle.std.proofs.Common.{map, refl, rules}
use Rattle.std.specs.Option.{option_copied}
use Rattle.kola_values.specs.Views.{type_tree, type_entry}
use Rattle.kola_database.proofs.MeetingLoops.{entry_found}
use Rattle.kola_database.proofs.meets.type_of.Goals as goal

pub returns-in_err-entry : goal.returns-in_err-entry
returns-in_err-entry c =
    let e = entry_found type_tree c.args.types.now (map type_entry c.args.types.now) refl c.args.a.now (option_copied c.entry_named.result) c.entry_named.ensures in
    search rules

pub returns : goal.returns
returns c =
    let e = entry_found type_tree c.args.types.now (map type_entry c.args.types.now) refl c.args.a.now (option_copied c.entry_named.result) c.entry_named.ensures in
    search rules
