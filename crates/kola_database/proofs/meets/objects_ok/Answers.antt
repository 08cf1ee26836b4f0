use Rattle.std.proofs.Common.{map, sym, ◌∙◌}
use Rattle.kola_database.specs.ObjectViews.{object_tree}
use Rattle.kola_database.proofs.Meeting.{meets_from, meets_to}
use Rattle.kola_database.proofs.meets.objects_ok.Goals as goal

pub returns : goal.returns
returns c =
    let d = map object_tree c.args.objects.now in
    (λ h. meets_from c.args.schema.now d c.all_held.ensures (sym c.meets.ensures ∙ h), λ m. c.meets.ensures ∙ meets_to c.args.schema.now d m)
