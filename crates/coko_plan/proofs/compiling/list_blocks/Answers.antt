use Rattle.std.proofs.Common.{rules, ◌≡◌, [], false, ◌<◌, length, map, get_or, refl, sym, ap, ◌∙◌, arith}
use Rattle.std.proofs.lemmas.List.{length-map}
use Rattle.kola_core.proofs.Lists.{seen}
use Rattle.kola_rule.specs.RuleViews.{rule_tree}
use Rattle.coko_block.specs.StmtViews.{block_tree}
use Rattle.coko_plan.specs.EntryViews.{entry_tree}
use Rattle.coko_plan.specs.Faults.{faults_behind}
use Rattle.coko_plan.specs.Compiling.{Tells}
use Rattle.coko_plan.proofs.Blocks.{keeps_first, keeps_block, block_stops, keeps_last, marks_length, mark_at}
use Rattle.coko_plan.proofs.compiling.list_blocks.Goals as goal

pub loop-n-init : goal.loop-n-init
loop-n-init c = keeps_first (map rule_tree c.args.rules.now) c.args.chosen.now (map block_tree c.args.blocks.now) (map entry_tree c.args.entries.now.items) c.new-numbers.result.items (ap (map entry_tree) c.requires.first) c.new-numbers.ensures.items

pub bounds-reached-n : goal.bounds-reached-n
bounds-reached-n c =
    let h = ap length (c.as_slice-reached.ensures.value ∙ c.in_ok-marks.ensures) ∙ (marks_length c.args.chosen.now (map block_tree c.args.blocks.now) ∙ length-map c.args.blocks.now block_tree) in
    omega (arith, h, c.loop-n-test.true)

pub returns-in_err-number : goal.returns-in_err-number
returns-in_err-number c =
    let R = map rule_tree c.args.rules.now in
    let chosen = c.args.chosen.now in
    let bs = map block_tree c.args.blocks.now in
    let n = c.loop-n.n in
    let x = c.index-blocks-n.result in
    let l : n < length bs = omega (arith, c.loop-n-test.true, length-map c.args.blocks.now block_tree) in
    let e : block_tree x ≡ get_or bs n (block_tree x) = sym (seen block_tree c.args.blocks.now bs n x refl c.loop-n-test.true c.index-blocks-n.is) in
    let h = ap (λ z. get_or z n false) (c.as_slice-reached.ensures.value ∙ c.in_ok-marks.ensures) ∙ mark_at chosen bs n (block_tree x) false l e in
    let k : Tells c.in_err-number.field-0.0 (faults_behind R chosen [] bs) =
    block_stops R chosen bs n (block_tree x) l e (record { rules = c.args.rules; fires = c.as_slice.result; names = c.args.names; numbers = c.as_slice-in-loop-n.result; block = record { ref_ptr = c.args.chosen.ref_ptr; now = x.name } }) c.loop-n.numbers.items refl c.requires.names c.as_slice-in-loop-n.ensures.value refl (get_or c.as_slice-reached.result.now n false) (map entry_tree c.loop-n.entries.items) c.in_err-number.field-0.0 h c.loop-n.invariant c.in_err-number.ensures in
    search rules

pub loop-n-preserved : goal.loop-n-preserved
loop-n-preserved c =
    let R = map rule_tree c.args.rules.now in
    let chosen = c.args.chosen.now in
    let bs = map block_tree c.args.blocks.now in
    let n = c.loop-n.n in
    let x = c.index-blocks-n.result in
    let l : n < length bs = omega (arith, c.loop-n-test.true, length-map c.args.blocks.now block_tree) in
    let e : block_tree x ≡ get_or bs n (block_tree x) = sym (seen block_tree c.args.blocks.now bs n x refl c.loop-n-test.true c.index-blocks-n.is) in
    let h = ap (λ z. get_or z n false) (c.as_slice-reached.ensures.value ∙ c.in_ok-marks.ensures) ∙ mark_at chosen bs n (block_tree x) false l e in
    keeps_block R chosen bs n (block_tree x) l e _ c.loop-n.numbers.items refl c.requires.names c.as_slice-in-loop-n.ensures.value refl _ c.loop-n.entries.items c.list_block.new.entries.items c.push.new.all.items c.in_ok-number.number h c.loop-n.invariant c.in_ok-number.ensures c.in_ok-push.ensures

pub returns : goal.returns
returns c = keeps_last (map rule_tree c.args.rules.now) c.args.chosen.now (map block_tree c.args.blocks.now) c.loop-n.n (map entry_tree c.loop-n.entries.items) c.loop-n.numbers.items c.loop-n.invariant (omega (arith, c.loop-n-test.false, length-map c.args.blocks.now block_tree))
