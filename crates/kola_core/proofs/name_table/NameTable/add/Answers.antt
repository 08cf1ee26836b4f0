use Rattle.std.proofs.Common.{map, string_bytes, not, ap, ◌∙◌}
use Rattle.kola_core.specs.NameLists.{is_listed, with_name}
use Rattle.kola_core.proofs.NameLists.{listed_seen, added_seen}
use Rattle.kola_core.proofs.name_table.NameTable.add.Goals as goal

pub returns-clause-new : goal.returns-clause-new
returns-clause-new c =
    c.in_ok-new.ensures.added
    ∙ ap not (listed_seen string_bytes (string_bytes c.in_ok-text.text) c.self.inside.names.keys ∙ (λ j. is_listed (c.in_ok-text.ensures.ok j) (c.self.view_is j)))

pub returns-clause-added : goal.returns-clause-added
returns-clause-added c =
    ap (map string_bytes) c.in_ok-new.ensures.keys
    ∙ added_seen string_bytes c.self.inside.names.keys c.in_ok-text.text
    ∙ (λ j. with_name (c.self.view_is j) (c.in_ok-text.ensures.ok j))
