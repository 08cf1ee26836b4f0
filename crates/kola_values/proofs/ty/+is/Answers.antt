use Rattle.std.proofs.Common.{◌<◌, length, refl, sym, ◌∙◌, arith}
use Rattle.kola_core.proofs.Lists.{length_seen}
use Rattle.kola_values.specs.Views.{type_entry}
use Rattle.kola_values.proofs.Loops.{type_entry_falls}
use Rattle.kola_values.proofs.SameTypes.{unequal_lengths, same_more, other_label, other_type, same_end}
use Rattle.kola_values.proofs.ty.+is.Goals as goal
use Rattle.kola_values.proofs.ty.+is.Goals.{Fields::is-then-not-is-via-then-not-is, Fields::is-then-not-is-via-else-not-is+then-not-is-2}

pub Fields::is-returns-then-len : goal.Fields::is-returns-then-len
Fields::is-returns-then-len t c =
    let m = length_seen type_entry c.self.inside.entries.items c.args.self.now c.self.view_is in
    let n = length_seen type_entry c.other.inside.entries.items c.args.other.now c.other.view_is in
    sym (unequal_lengths c.args.self.now c.args.other.now (λ e. c.if-len.true (omega (arith, c.self.inside.entries.ok.0, c.other.inside.entries.ok.0))))

pub Fields::is-loop-i-init : goal.Fields::is-loop-i-init
Fields::is-loop-i-init t c =
    let m = length_seen type_entry c.self.inside.entries.items c.args.self.now c.self.view_is in
    let n = length_seen type_entry c.other.inside.entries.items c.args.other.now c.other.view_is in
    record { lengths = omega (arith, c.self.inside.entries.ok.0, c.other.inside.entries.ok.0); rest = refl }

pub Fields::is-is-requires-else-not-is : goal.Fields::is-is-requires-else-not-is
Fields::is-is-requires-else-not-is t c =
    let h = type_entry_falls c.self.inside.entries.items c.args.self.now c.loop-i.i c.index.result.now c.self.view_is (omega arith) c.index.ensures in
    (omega (arith, h, c.decreases), tt)

pub Fields::is-returns-then-not-is : goal.Fields::is-returns-then-not-is
Fields::is-returns-then-not-is t c =
    let m = length_seen type_entry c.self.inside.entries.items c.args.self.now c.self.view_is in
    let n = length_seen type_entry c.other.inside.entries.items c.args.other.now c.other.view_is in
    let p : c.loop-i.i < length c.self.inside.entries.items = omega (arith, c.self.inside.entries.ok.0) in
    let q : c.loop-i.i < length c.other.inside.entries.items = omega (arith, c.loop-i.invariant.lengths) in
    elim c.then-not-is.branch [
      | Fields::is-then-not-is-via-then-not-is w ↦ sym (other_label c.self.inside.entries.items c.other.inside.entries.items c.args.self.now c.args.other.now c.loop-i.i c.self.view_is c.other.view_is c.loop-i.invariant c.index.result.now c.index-in-loop-i.result.now p q c.index.ensures c.index-in-loop-i.ensures (sym c.is.ensures ∙ w.if-not-is.true))
      | Fields::is-then-not-is-via-else-not-is+then-not-is-2 w ↦ sym (other_type c.self.inside.entries.items c.other.inside.entries.items c.args.self.now c.args.other.now c.loop-i.i c.self.view_is c.other.view_is c.loop-i.invariant c.index.result.now c.index-in-loop-i.result.now p q c.index.ensures c.index-in-loop-i.ensures (sym w.is-else-not-is.ensures ∙ w.if-not-is-2.true))
    ]

pub Fields::is-loop-i-preserved : goal.Fields::is-loop-i-preserved
Fields::is-loop-i-preserved t c =
    let m = length_seen type_entry c.self.inside.entries.items c.args.self.now c.self.view_is in
    let n = length_seen type_entry c.other.inside.entries.items c.args.other.now c.other.view_is in
    let p : c.loop-i.i < length c.self.inside.entries.items = omega (arith, c.self.inside.entries.ok.0) in
    let q : c.loop-i.i < length c.other.inside.entries.items = omega (arith, c.loop-i.invariant.lengths) in
    same_more c.self.inside.entries.items c.other.inside.entries.items c.args.self.now c.args.other.now c.loop-i.i c.self.view_is c.other.view_is c.loop-i.invariant c.index.result.now c.index-in-loop-i.result.now p q c.index.ensures c.index-in-loop-i.ensures (sym c.is.ensures ∙ c.if-not-is.false) (sym c.is-else-not-is.ensures ∙ c.if-not-is-2.false)

pub Fields::is-returns : goal.Fields::is-returns
Fields::is-returns t c = sym (same_end c.self.inside.entries.items c.other.inside.entries.items c.args.self.now c.args.other.now c.loop-i.i c.self.view_is c.other.view_is c.loop-i.invariant (omega (arith, c.self.inside.entries.ok.0)))
