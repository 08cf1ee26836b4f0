use Rattle.std.proofs.Common.{◌≡◌, map, refl, sym, ap, subst, ◌∙◌, arith}
use Rattle.kola_core.proofs.Lists.{length_seen}
use Rattle.kola_values.specs.Types.{TSet, TPair, TStruct, of_type_fields}
use Rattle.kola_values.specs.Views.{type_tree, type_entry}
use Rattle.kola_values.proofs.Loops.{type_entry_falls}
use Rattle.kola_match.specs.Substitutions.{sub_type}
use Rattle.kola_match.specs.Finding.{Finds}
use Rattle.kola_match.specs.FoundViews.{binds_of}
use Rattle.kola_match.proofs.BindLaws.{finds_same, finds_then, if_ok}
use Rattle.kola_match.proofs.FieldLaws.{other_lengths, other_label, other_type, field_taken, fields_end, set_demand, pair_demand, struct_demand}
use Rattle.kola_match.proofs.matching.+match_type.Goals as goal

pub match_fields-returns-then-fs-gs : goal.match_fields-returns-then-fs-gs
match_fields-returns-then-fs-gs t c =
    let us = map type_entry c.args.fs.now in
    let vs = map type_entry c.args.gs.now in
    other_lengths us vs (λ e. c.if-fs-gs.true (sym (length_seen type_entry c.args.fs.now us refl) ∙ (e ∙ length_seen type_entry c.args.gs.now vs refl))) (binds_of c.args.found.now) (binds_of c.args.found.now)

pub match_fields-returns-then-not-is : goal.match_fields-returns-then-not-is
match_fields-returns-then-not-is t c =
    let us = map type_entry c.args.fs.now in
    let vs = map type_entry c.args.gs.now in
    let m = length_seen type_entry c.args.fs.now us refl in
    let n = length_seen type_entry c.args.gs.now vs refl in
    let k = c.loop-i.invariant.lengths in
    other_label c.args.fs.now c.args.gs.now us vs c.loop-i.i (binds_of c.args.found.now) (binds_of c.loop-i.found) refl refl c.loop-i.invariant c.index-fs-i.result c.index-gs-i.result c.loop-i-test.true (omega (arith, m, n, k, c.loop-i-test.true)) c.index-fs-i.is c.index-gs-i.is (sym c.if-not-is.ensures) (binds_of c.loop-i.found)

pub match_fields-match_type-requires : goal.match_fields-match_type-requires
match_fields-match_type-requires t c =
    (omega (arith, type_entry_falls c.args.fs.now (map type_entry c.args.fs.now) c.loop-i.i c.index-fs-i.result refl c.loop-i-test.true c.index-fs-i.is, c.decreases), tt)

pub match_fields-returns-then-not-branch : goal.match_fields-returns-then-not-branch
match_fields-returns-then-not-branch t c =
    let us = map type_entry c.args.fs.now in
    let vs = map type_entry c.args.gs.now in
    let m = length_seen type_entry c.args.fs.now us refl in
    let n = length_seen type_entry c.args.gs.now vs refl in
    let k = c.loop-i.invariant.lengths in
    other_type c.args.fs.now c.args.gs.now us vs c.loop-i.i (binds_of c.args.found.now) (binds_of c.loop-i.found) refl refl c.loop-i.invariant c.index-fs-i.result c.index-gs-i.result c.loop-i-test.true (omega (arith, m, n, k, c.loop-i-test.true)) c.index-fs-i.is c.index-gs-i.is (binds_of c.match_type.new.found)
    (subst (λ z. Finds z (binds_of c.loop-i.found) (binds_of c.match_type.new.found) (λ s. sub_type s.types (type_tree c.index-fs-i.result.1) ≡ type_tree c.index-gs-i.result.1)) c.if-not-branch.true c.in_ok-match_type.ensures)

pub match_fields-loop-i-preserved : goal.match_fields-loop-i-preserved
match_fields-loop-i-preserved t c =
    let us = map type_entry c.args.fs.now in
    let vs = map type_entry c.args.gs.now in
    let m = length_seen type_entry c.args.fs.now us refl in
    let n = length_seen type_entry c.args.gs.now vs refl in
    let k = c.loop-i.invariant.lengths in
    field_taken c.args.fs.now c.args.gs.now us vs c.loop-i.i (binds_of c.args.found.now) (binds_of c.loop-i.found) refl refl c.loop-i.invariant c.index-fs-i.result c.index-gs-i.result c.loop-i-test.true (omega (arith, m, n, k, c.loop-i-test.true)) c.index-fs-i.is c.index-gs-i.is (sym c.if-not-is.ensures) (binds_of c.match_type.new.found)
    (subst (λ z. Finds z (binds_of c.loop-i.found) (binds_of c.match_type.new.found) (λ s. sub_type s.types (type_tree c.index-fs-i.result.1) ≡ type_tree c.index-gs-i.result.1)) c.if-not-branch.false c.in_ok-match_type.ensures)

pub match_fields-returns : goal.match_fields-returns
match_fields-returns t c =
    let us = map type_entry c.args.fs.now in
    let m = length_seen type_entry c.args.fs.now us refl in
    fields_end us (map type_entry c.args.gs.now) c.loop-i.i (binds_of c.args.found.now) (binds_of c.loop-i.found) c.loop-i.invariant (omega (arith, m, c.loop-i-test.false))

pub match_type-returns-in-Var-default : goal.match_type-returns-in-Var-default
match_type-returns-in-Var-default t c = if_ok _ _ c.take_type.result c.take_type.ensures (λ b f. subst (λ z. Finds b (binds_of c.args.found.now) (binds_of c.take_type.new.self) (λ s. sub_type s.types z ≡ type_tree c.args.t.now)) (sym (ap type_tree c.in-Var-default.is-0)) f)

pub match_type-returns-in-Set-Set : goal.match_type-returns-in-Set-Set
match_type-returns-in-Set-Set t c =
    if_ok _ _ c.match_type.result c.match_type.ensures
    (λ b f. finds_same b (binds_of c.args.found.now) (binds_of c.match_type.new.found) _ _ (λ s. set_demand (type_tree c.args.pattern.now) (type_tree c.args.t.now) s (type_tree c.get.result.now) (type_tree c.get-in-Set-Set.result.now) (ap type_tree c.in-Set-Set.is-0 ∙ ap TSet (sym c.get.ensures)) (ap type_tree c.in-Set-Set.is-1 ∙ ap TSet (sym c.get-in-Set-Set.ensures))) f)

pub match_type-returns-else-not-branch : goal.match_type-returns-else-not-branch
match_type-returns-else-not-branch t c =
    let a = type_tree c.get-in-Pair-Pair.result.now in
    let b = type_tree c.get-in-Pair-Pair-2.result.now in
    let x = type_tree c.get-in-Pair-Pair-3.result.now in
    let y = type_tree c.get-in-Pair-Pair-4.result.now in
    let first = subst (λ z. Finds z (binds_of c.args.found.now) (binds_of c.match_type-in-Pair-Pair.new.found) (λ s. sub_type s.types a ≡ b)) c.if-not-branch.false c.in_ok-match_type-in-Pair-Pair.ensures in
    if_ok _ _ c.match_type-in-Pair-Pair-2.result c.match_type-in-Pair-Pair-2.ensures
    (λ r f. finds_same r (binds_of c.args.found.now) (binds_of c.match_type-in-Pair-Pair-2.new.found) _ _
    (λ s. pair_demand (type_tree c.args.pattern.now) (type_tree c.args.t.now) s a b x y (ap type_tree c.in-Pair-Pair.is-0 ∙ (λ i. TPair (sym c.get-in-Pair-Pair.ensures i) (sym c.get-in-Pair-Pair-3.ensures i))) (ap type_tree c.in-Pair-Pair.is-1 ∙ (λ i. TPair (sym c.get-in-Pair-Pair-2.ensures i) (sym c.get-in-Pair-Pair-4.ensures i))))
    (finds_then r (binds_of c.args.found.now) (binds_of c.match_type-in-Pair-Pair.new.found) (binds_of c.match_type-in-Pair-Pair-2.new.found) (λ s. sub_type s.types a ≡ b) (λ s. sub_type s.types x ≡ y) first f))

pub match_type-returns-in-Struct-Struct : goal.match_type-returns-in-Struct-Struct
match_type-returns-in-Struct-Struct t c =
    if_ok _ _ c.match_fields.result c.match_fields.ensures
    (λ b f. finds_same b (binds_of c.args.found.now) (binds_of c.match_fields.new.found) _ _
    (λ s. struct_demand (type_tree c.args.pattern.now) (type_tree c.args.t.now) s (map type_entry c.as_slice.result.now) (map type_entry c.as_slice-in-Struct-Struct.result.now) (ap type_tree c.in-Struct-Struct.is-0 ∙ ap (λ l. TStruct (of_type_fields l)) (sym c.as_slice.ensures)) (ap type_tree c.in-Struct-Struct.is-1 ∙ ap (λ l. TStruct (of_type_fields l)) (sym c.as_slice-in-Struct-Struct.ensures))) f)
