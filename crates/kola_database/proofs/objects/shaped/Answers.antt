use Rattle.std.proofs.Common.{sym, ◌∙◌}
use Rattle.kola_values.specs.Views.{type_tree, value_tree}
use Rattle.kola_database.proofs.MeetingTypes.{shaped_exactly}
use Rattle.kola_database.proofs.objects.shaped.Goals as goal

pub returns : goal.returns
returns c =
    let e = shaped_exactly (value_tree c.args.v.now) (type_tree c.args.t.now) c.well_formed-2.ensures in
    (λ h. e.0 (sym c.is_of_type.ensures ∙ h), λ h. c.is_of_type.ensures ∙ e.1 h)
