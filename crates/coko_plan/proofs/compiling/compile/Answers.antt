use Rattle.std.proofs.Common.{rules, ◌≡◌, [], Some, None, map, position, slice_get, sym, ap, ap₂, subst, ◌∙◌, arith}
use Rattle.std.specs.Str.{bytes_eq}
use Rattle.std.proofs.lemmas.List.{length-map}
use Rattle.kola_values.specs.Databases.{look_up}
use Rattle.kola_rule.specs.RuleViews.{rule_tree}
use Rattle.coko_block.specs.StmtViews.{block_tree}
use Rattle.coko_block.specs.WellFormed.{block_names}
use Rattle.coko_plan.specs.EntryViews.{entry_tree, entries_of, start_of}
use Rattle.coko_plan.specs.Listing.{or_else, listing}
use Rattle.coko_plan.specs.Faults.{names_of_rules, faults_behind, fault_of}
use Rattle.coko_plan.specs.Compiling.{IsPlanOf, Tells}
use Rattle.coko_plan.specs.Working.Sites.{numbered}
use Rattle.coko_plan.proofs.Made.{chosen_listed, chosen_missing, chosen_fault, chosen_start, plan_made, plan_lower}
use Rattle.coko_plan.proofs.compiling.compile.Goals as goal

pub returns-in-None-clause-fault : goal.returns-in-None-clause-fault
returns-in-None-clause-fault c =
    let R = map rule_tree c.args.rules.now in
    let b = c.args.block.now in
    let bs = map block_tree c.args.file.now.blocks in
    let same = ap (map block_tree) c.as_slice-blocks.ensures in
    let at : None ≡ position (bytes_eq b) (block_names bs) = c.in-None.ensures ∙ ap₂ (λ z ns. position (bytes_eq z) ns) c.as_text.ensures.text (c.in_ok-names.ensures ∙ ap block_names same) in
    chosen_missing R b bs at

pub returns-in_err-numbers-clause-fault : goal.returns-in_err-numbers-clause-fault
returns-in_err-numbers-clause-fault c =
    let R = map rule_tree c.args.rules.now in
    let b = c.args.block.now in
    let bs = map block_tree c.args.file.now.blocks in
    let same = ap (map block_tree) c.as_slice-blocks.ensures in
    let at : Some c.in-Some.place ≡ position (bytes_eq b) (block_names bs) = c.in-Some.ensures ∙ ap₂ (λ z ns. position (bytes_eq z) ns) c.as_text.ensures.text (c.in_ok-names.ensures ∙ ap block_names same) in
    let k : Tells c.in_err-numbers.field-0.0 (fault_of R b bs) = subst (Tells c.in_err-numbers.field-0.0) (ap (faults_behind R b []) same ∙ chosen_fault R b bs (chosen_listed R b bs c.in-Some.place at)) c.in_err-numbers.ensures in
    search rules

pub of_entries-requires-clause-start : goal.of_entries-requires-clause-start
of_entries-requires-clause-start c =
    let R = map rule_tree c.args.rules.now in
    let b = c.args.block.now in
    let bs = map block_tree c.args.file.now.blocks in
    let same = ap (map block_tree) c.as_slice-blocks.ensures in
    let at : Some c.in-Some.place ≡ position (bytes_eq b) (block_names bs) = c.in-Some.ensures ∙ ap₂ (λ z ns. position (bytes_eq z) ns) c.as_text.ensures.text (c.in_ok-names.ensures ∙ ap block_names same) in
    let x = subst (λ bs'. ((map entry_tree c.list_blocks.new.entries.items, or_else (look_up b (numbered (block_names bs') c.in_ok-numbers.numbers.items)) 0) ≡ listing (names_of_rules R) b bs') × (faults_behind R b [] bs' ≡ None)) same c.in_ok-numbers.ensures in
    let m = chosen_start R b bs c.in-Some.place c.in_ok-numbers.numbers.items (map entry_tree c.list_blocks.new.entries.items) c.start_at-start.result (listing (names_of_rules R) b bs) at (c.start_at-start.ensures ∙ ap (λ l. or_else (slice_get l c.in-Some.place) 0) c.as_slice.ensures.value) x.0 in
    let p = plan_made R b bs (map entry_tree c.list_blocks.new.entries.items) c.start_at-start.result c.requires (chosen_listed R b bs c.in-Some.place at) x.1 m in
    omega (arith, p.fits.starts, length-map c.list_blocks.new.entries.items entry_tree)

pub of_entries-requires-clause-lower : goal.of_entries-requires-clause-lower
of_entries-requires-clause-lower c =
    let R = map rule_tree c.args.rules.now in
    let b = c.args.block.now in
    let bs = map block_tree c.args.file.now.blocks in
    let same = ap (map block_tree) c.as_slice-blocks.ensures in
    let at : Some c.in-Some.place ≡ position (bytes_eq b) (block_names bs) = c.in-Some.ensures ∙ ap₂ (λ z ns. position (bytes_eq z) ns) c.as_text.ensures.text (c.in_ok-names.ensures ∙ ap block_names same) in
    let x = subst (λ bs'. ((map entry_tree c.list_blocks.new.entries.items, or_else (look_up b (numbered (block_names bs') c.in_ok-numbers.numbers.items)) 0) ≡ listing (names_of_rules R) b bs') × (faults_behind R b [] bs' ≡ None)) same c.in_ok-numbers.ensures in
    let m = chosen_start R b bs c.in-Some.place c.in_ok-numbers.numbers.items (map entry_tree c.list_blocks.new.entries.items) c.start_at-start.result (listing (names_of_rules R) b bs) at (c.start_at-start.ensures ∙ ap (λ l. or_else (slice_get l c.in-Some.place) 0) c.as_slice.ensures.value) x.0 in
    plan_lower R b bs (map entry_tree c.list_blocks.new.entries.items) c.start_at-start.result m

pub returns-clause-plan : goal.returns-clause-plan
returns-clause-plan c =
    let R = map rule_tree c.args.rules.now in
    let b = c.args.block.now in
    let bs = map block_tree c.args.file.now.blocks in
    let same = ap (map block_tree) c.as_slice-blocks.ensures in
    let at : Some c.in-Some.place ≡ position (bytes_eq b) (block_names bs) = c.in-Some.ensures ∙ ap₂ (λ z ns. position (bytes_eq z) ns) c.as_text.ensures.text (c.in_ok-names.ensures ∙ ap block_names same) in
    let x = subst (λ bs'. ((map entry_tree c.list_blocks.new.entries.items, or_else (look_up b (numbered (block_names bs') c.in_ok-numbers.numbers.items)) 0) ≡ listing (names_of_rules R) b bs') × (faults_behind R b [] bs' ≡ None)) same c.in_ok-numbers.ensures in
    let m = chosen_start R b bs c.in-Some.place c.in_ok-numbers.numbers.items (map entry_tree c.list_blocks.new.entries.items) c.start_at-start.result (listing (names_of_rules R) b bs) at (c.start_at-start.ensures ∙ ap (λ l. or_else (slice_get l c.in-Some.place) 0) c.as_slice.ensures.value) x.0 in
    subst (λ p. IsPlanOf R b bs (entries_of p) (start_of p)) (sym c.of_entries.ensures) (plan_made R b bs (map entry_tree c.list_blocks.new.entries.items) c.start_at-start.result c.requires (chosen_listed R b bs c.in-Some.place at) x.1 m)
