use Rattle.std.proofs.Common.{◌≡◌, ◌+◌, ◌++◌, [], cond, map, drop, sym, ap, ◌∙◌, subst, arith, IfOk}
use Rattle.std.proofs.lemmas.List.{drop-map, take_rest}
use Rattle.kola_core.proofs.Lists.{length_seen}
use Rattle.kola_values.specs.Merging.{merged}
use Rattle.kola_values.specs.Sets.{Rising}
use Rattle.kola_values.specs.Views.{value_tree}
use Rattle.kola_values.proofs.Merging.{IsMerged, one_taken, merge_less, merge_equal, merge_greater, first_ended, second_ended, rising_merged}
use Rattle.kola_values.proofs.value.Set.merged.Goals as goal
use Rattle.kola_values.proofs.value.Set.merged.Goals.{then-loop-i-test+else-j-ws, else-loop-i-test, In_ok-push_copies-2}

pub loop-i-preserved-in-Less : goal.loop-i-preserved-in-Less
loop-i-preserved-in-Less c =
    let vs = c.as_slice-vs.result.now in
    let done = map value_tree c.loop-i.members.items in
    let e = c.in_ok-push_copies-in-Less.ensures ∙ ap (λ l. done ++ l) (one_taken c.args.first vs c.loop-i.i c.index-vs-i.result (omega arith) c.index-vs-i.is) in
    subst (λ l. IsMerged c.args.first c.args.both c.args.second c.args.self.now c.args.other.now l (c.loop-i.i + 1) c.loop-i.j) (sym e)
    (merge_less c.args.first c.args.both c.args.second vs c.as_slice-ws.result.now c.args.self.now c.args.other.now done c.loop-i.i c.loop-i.j c.index-vs-i.result c.index-ws-j.result
    c.as_slice-vs.ensures c.as_slice-ws.ensures (omega arith) (omega arith) c.index-vs-i.is c.index-ws-j.is c.well_formed-2.ensures.rises c.well_formed-3.ensures.rises c.loop-i.invariant
    (sym c.cmp_values.ensures ∙ c.in-Less.is))

pub loop-i-preserved-in-Equal : goal.loop-i-preserved-in-Equal
loop-i-preserved-in-Equal c =
    let vs = c.as_slice-vs.result.now in
    let done = map value_tree c.loop-i.members.items in
    let e = c.in_ok-push_copies-in-Equal.ensures ∙ ap (λ l. done ++ l) (one_taken c.args.both vs c.loop-i.i c.index-vs-i.result (omega arith) c.index-vs-i.is) in
    subst (λ l. IsMerged c.args.first c.args.both c.args.second c.args.self.now c.args.other.now l (c.loop-i.i + 1) (c.loop-i.j + 1)) (sym e)
    (merge_equal c.args.first c.args.both c.args.second vs c.as_slice-ws.result.now c.args.self.now c.args.other.now done c.loop-i.i c.loop-i.j c.index-vs-i.result c.index-ws-j.result
    c.as_slice-vs.ensures c.as_slice-ws.ensures (omega arith) (omega arith) c.index-vs-i.is c.index-ws-j.is c.well_formed-2.ensures.rises c.well_formed-3.ensures.rises c.loop-i.invariant
    (sym c.cmp_values.ensures ∙ c.in-Equal.is))

pub loop-i-preserved : goal.loop-i-preserved
loop-i-preserved c =
    let ws = c.as_slice-ws.result.now in
    let done = map value_tree c.loop-i.members.items in
    let e = c.in_ok-push_copies-in-Greater.ensures ∙ ap (λ l. done ++ l) (one_taken c.args.second ws c.loop-i.j c.index-ws-j.result (omega arith) c.index-ws-j.is) in
    subst (λ l. IsMerged c.args.first c.args.both c.args.second c.args.self.now c.args.other.now l c.loop-i.i (c.loop-i.j + 1)) (sym e)
    (merge_greater c.args.first c.args.both c.args.second c.as_slice-vs.result.now ws c.args.self.now c.args.other.now done c.loop-i.i c.loop-i.j c.index-vs-i.result c.index-ws-j.result
    c.as_slice-vs.ensures c.as_slice-ws.ensures (omega arith) (omega arith) c.index-vs-i.is c.index-ws-j.is c.well_formed-2.ensures.rises c.well_formed-3.ensures.rises c.loop-i.invariant
    (sym c.cmp_values.ensures ∙ c.in-Greater.is))

ended : (c : In_ok-push_copies-2) → merged c.args.first c.args.both c.args.second c.args.self.now c.args.other.now ≡ map value_tree c.push_copies-3.new.list.items
ended c =
    let vs = c.as_slice-vs.result.now in
    let ws = c.as_slice-ws.result.now in
    let done = map value_tree c.loop-i.members.items in
    let i = c.loop-i.i in
    let j = c.loop-i.j in
    let h : map value_tree c.push_copies-2.new.list.items ≡ done ++ cond c.args.first (map value_tree (drop i vs)) [] = c.in_ok-push_copies.ensures ∙ ap (λ l. done ++ cond c.args.first (map value_tree l) []) (take_rest vs i) in
    let k : map value_tree c.push_copies-3.new.list.items ≡ map value_tree c.push_copies-2.new.list.items ++ cond c.args.second (map value_tree (drop j ws)) [] = c.in_ok-push_copies-2.ensures ∙ ap (λ l. map value_tree c.push_copies-2.new.list.items ++ cond c.args.second (map value_tree l) []) (take_rest ws j) in
    let first_rest : map value_tree (drop i vs) ≡ drop i c.args.self.now = sym (drop-map value_tree i vs) ∙ ap (drop i) c.as_slice-vs.ensures in
    let second_rest : map value_tree (drop j ws) ≡ drop j c.args.other.now = sym (drop-map value_tree j ws) ∙ ap (drop j) c.as_slice-ws.ensures in
    let m = length_seen value_tree vs c.args.self.now c.as_slice-vs.ensures in
    let n = length_seen value_tree ws c.args.other.now c.as_slice-ws.ensures in
    elim c.loop-i-test.branch [
      | then-loop-i-test+else-j-ws w ↦ second_ended c.args.first c.args.both c.args.second c.args.self.now c.args.other.now done i j c.well_formed-2.ensures.rises c.well_formed-3.ensures.rises c.loop-i.invariant (omega (arith, w.if-j-ws.false))
      | else-loop-i-test w ↦ first_ended c.args.first c.args.both c.args.second c.args.self.now c.args.other.now done i j c.well_formed-2.ensures.rises c.well_formed-3.ensures.rises c.loop-i.invariant (omega (arith, w.loop-i-test.false))
    ]
    ∙ (λ z. (done ++ cond c.args.first (sym first_rest z) []) ++ cond c.args.second (sym second_rest z) [])
    ∙ ap (λ l. l ++ cond c.args.second (map value_tree (drop j ws)) []) (sym h)
    ∙ sym k

pub from_rising-requires : goal.from_rising-requires
from_rising-requires c = subst Rising (ended c) (rising_merged c.args.first c.args.both c.args.second c.args.self.now c.args.other.now)

pub returns : goal.returns
returns c = subst (λ l. IfOk c.from_rising.result (λ s. s ≡ l)) (sym (ended (goal.at.returns c).In_ok-push_copies-2)) c.from_rising.ensures
