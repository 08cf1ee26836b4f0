use Rattle.std.proofs.Common.{◌∙◌, ◌++◌, ◌∷◌, [], sym, ap, map, subst, arith}
use Rattle.std.proofs.lemmas.List.{map-append, take_all}
use Rattle.kola_core.proofs.Lists.{length_seen, taken_more}
use Rattle.kola_values.specs.Values.{VObj}
use Rattle.kola_values.specs.Sets.{Rising}
use Rattle.kola_values.specs.Databases.{objects_of}
use Rattle.kola_values.specs.Views.{value_tree}
use Rattle.kola_database.specs.ObjectViews.{object_tree}
use Rattle.kola_database.proofs.Stored.{object_value, object_values_seen, class_rises}
use Rattle.kola_database.proofs.db.members_of.Goals as goal

pub loop-object-preserved : goal.loop-object-preserved
loop-object-preserved c =
    let run = c.run_of-run.result.now in
    let us = objects_of c.args.class.now (map object_tree c.args.objects.now) in
    let seen = object_values_seen run ∙ c.run_of-run.ensures in
    let i = c.loop-object.object-index in
    let x = c.object-item.result in
    let done = c.loop-object.members.items in
    ap (map value_tree) c.in_ok-push.ensures.items
    ∙ map-append value_tree done _
    ∙ (λ j. c.loop-object.invariant j ++ VObj (c.in_ok-copy.ensures j) x.id ∷ [])
    ∙ sym (taken_more object_value run us i x seen c.loop-object-test.true c.object-item.is)

pub from_rising-requires : goal.from_rising-requires
from_rising-requires c =
    let d = map object_tree c.args.objects.now in
    let run = c.run_of-run.result.now in
    let us = objects_of c.args.class.now d in
    let n = length_seen object_value run us (object_values_seen run ∙ c.run_of-run.ensures) in
    let whole = take_all c.loop-object.object-index us (omega (arith, n, c.loop-object-test.false)) in
    subst Rising (sym (c.loop-object.invariant ∙ whole)) (class_rises c.args.class.now d c.requires)
