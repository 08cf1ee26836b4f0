use Rattle.std.proofs.Common.{◌<◌, length, map, refl, sym, ap, ap₂, ◌∙◌, arith}
use Rattle.kola_core.proofs.Lists.{length_seen}
use Rattle.kola_values.specs.Values.{VSet, of_items}
use Rattle.kola_values.specs.Types.{TSet}
use Rattle.kola_database.specs.MeetsTests.{typed_by}
use Rattle.kola_values.specs.Views.{type_tree, type_entry, value_tree, value_entry}
use Rattle.kola_values.proofs.Loops.{member_falls, value_entry_falls}
use Rattle.kola_database.proofs.MeetingLoops.{set_typed, unequal_lengths, typed_more, other_label, other_type}
use Rattle.kola_database.proofs.objects.+typed.Goals as goal
use Rattle.kola_database.proofs.objects.+typed.Goals.{are_of_types-then-not-is-via-then-not-is, are_of_types-then-not-is-via-else-not-is+then-not-is_of_type}

pub are_of_type-is_of_type-requires : goal.are_of_type-is_of_type-requires
are_of_type-is_of_type-requires g t c κs within =
    let h = member_falls c.args.members.now (map value_tree c.args.members.now) c.loop-member.member-index c.member-item.result refl c.loop-member-test.true c.member-item.is in
    (omega (arith, h, c.decreases), within)

pub are_of_types-returns-then-fields-types : goal.are_of_types-returns-then-fields-types
are_of_types-returns-then-fields-types g t c =
    let m = length_seen value_entry c.args.fields.now (map value_entry c.args.fields.now) refl in
    let n = length_seen type_entry c.args.types.now (map type_entry c.args.types.now) refl in
    sym (unequal_lengths (g.H.Holds.there c.args.objects.now) (map value_entry c.args.fields.now) (map type_entry c.args.types.now) (λ e. c.if-fields-types.true (omega arith)))

pub are_of_types-is_of_type-requires : goal.are_of_types-is_of_type-requires
are_of_types-is_of_type-requires g t c κs within =
    let h = value_entry_falls c.args.fields.now (map value_entry c.args.fields.now) c.loop-i.i c.index-fields-i.result refl c.loop-i-test.true c.index-fields-i.is in
    (omega (arith, h, c.decreases), within)

pub are_of_types-returns-then-not-is : goal.are_of_types-returns-then-not-is
are_of_types-returns-then-not-is g t c =
    let there = g.H.Holds.there c.args.objects.now in
    let us = map value_entry c.args.fields.now in
    let vs = map type_entry c.args.types.now in
    let m = length_seen value_entry c.args.fields.now us refl in
    let n = length_seen type_entry c.args.types.now vs refl in
    let q : c.loop-i.i < length c.args.types.now = omega (arith, c.loop-i.invariant.lengths) in
    elim c.then-not-is.branch [
      | are_of_types-then-not-is-via-then-not-is w ↦ sym (other_label there c.args.fields.now c.args.types.now us vs c.loop-i.i refl refl c.loop-i.invariant c.index-fields-i.result c.index-types-i.result c.loop-i-test.true q c.index-fields-i.is c.index-types-i.is (sym c.is.ensures ∙ w.if-not-is.true))
      | are_of_types-then-not-is-via-else-not-is+then-not-is_of_type w ↦ sym (other_type there c.args.fields.now c.args.types.now us vs c.loop-i.i refl refl c.loop-i.invariant c.index-fields-i.result c.index-types-i.result c.loop-i-test.true q c.index-fields-i.is c.index-types-i.is (sym w.is_of_type.ensures ∙ w.if-not-is_of_type.true))
    ]

pub are_of_types-loop-i-preserved : goal.are_of_types-loop-i-preserved
are_of_types-loop-i-preserved g t c =
    let there = g.H.Holds.there c.args.objects.now in
    let us = map value_entry c.args.fields.now in
    let vs = map type_entry c.args.types.now in
    let m = length_seen value_entry c.args.fields.now us refl in
    let n = length_seen type_entry c.args.types.now vs refl in
    let q : c.loop-i.i < length c.args.types.now = omega (arith, c.loop-i.invariant.lengths) in
    typed_more there c.args.fields.now c.args.types.now us vs c.loop-i.i refl refl c.loop-i.invariant c.index-fields-i.result c.index-types-i.result c.loop-i-test.true q c.index-fields-i.is c.index-types-i.is (sym c.is.ensures ∙ c.if-not-is.false) (sym c.is_of_type.ensures ∙ c.if-not-is_of_type.false)

pub is_of_type-returns-in-Set-Set : goal.is_of_type-returns-in-Set-Set
is_of_type-returns-in-Set-Set g t c =
    let there = g.H.Holds.there c.args.objects.now in
    c.are_of_type.ensures
    ∙ set_typed there c.as_slice.result.now c.in-Set-Set.set (type_tree c.get.result.now) c.as_slice.ensures
    ∙ ap (λ u. typed_by there (VSet (of_items c.in-Set-Set.set)) (TSet u)) c.get.ensures
    ∙ sym (ap₂ (λ y z. typed_by there (value_tree y) (type_tree z)) c.in-Set-Set.is-0 c.in-Set-Set.is-1)
