use Rattle.std.proofs.Common.{string_bytes, ap, ◌∙◌}
use Rattle.kola_core.specs.NameLists.{is_listed}
use Rattle.kola_core.proofs.NameLists.{listed_seen}
use Rattle.kola_core.proofs.name_table.NameTable.holds.Goals as goal

pub returns : goal.returns
returns c = c.contains.ensures ∙ listed_seen string_bytes c.args.name.now c.self.inside.names.keys ∙ ap (is_listed c.args.name.now) c.self.view_is
