use Rattle.std.proofs.Common.{rules}
use Rattle.std.specs.Option.{option_copied}
use Rattle.kola_values.specs.Views.{value_tree}
use Rattle.kola_database.proofs.MeetingLoops.{entry_found}
use Rattle.kola_database.proofs.meets.value_of.Goals as goal

pub returns-in_err-entry : goal.returns-in_err-entry
returns-in_err-entry c =
    let e = entry_found value_tree c.as_slice.result.now c.args.object.now.values c.as_slice.ensures c.args.a.now (option_copied c.entry_named.result) c.entry_named.ensures in
    search rules

pub returns : goal.returns
returns c =
    let e = entry_found value_tree c.as_slice.result.now c.args.object.now.values c.as_slice.ensures c.args.a.now (option_copied c.entry_named.result) c.entry_named.ensures in
    search rules
