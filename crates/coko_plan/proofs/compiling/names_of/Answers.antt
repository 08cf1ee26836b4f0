use Rattle.std.proofs.Common.{◌≡◌, true, ◌++◌, ◌∷◌, [], map, take, ap, ◌∙◌, sym}
use Rattle.kola_core.specs.NameLists.{is_listed, with_name}
use Rattle.kola_core.proofs.Lists.{taken_more}
use Rattle.kola_core.proofs.NameLists.{with_new}
use Rattle.kola_schema.specs.Schemas.{are_distinct}
use Rattle.kola_schema.proofs.Places.{fresh}
use Rattle.coko_block.specs.StmtViews.{block_tree}
use Rattle.coko_block.specs.WellFormed.{block_names}
use Rattle.coko_block.specs.declared.stmt.Block.{Block}
use Rattle.coko_plan.proofs.Blocks.{names_as}
use Rattle.coko_plan.proofs.compiling.names_of.Goals as goal

pub loop-block-preserved : goal.loop-block-preserved
loop-block-preserved c =
    let item = c.block-item.result in
    let names = c.loop-block.names in
    let bs = c.args.blocks.now in
    let i = c.loop-block.block-index in
    let alike = names_as bs in
    let distinct : are_distinct (map (λ (b : Block). b.name) bs) ≡ true = ap are_distinct (sym alike) ∙ c.requires in
    let new = ap (is_listed item.name) (c.loop-block.invariant ∙ ap (take i) alike) ∙ fresh (λ (b : Block). b.name) bs i item c.loop-block-test.true c.block-item.is distinct in
    c.in_ok-add.ensures.added
    ∙ ap (with_name names) c.as_text.ensures.text
    ∙ with_new names item.name new
    ∙ ap (λ l. l ++ item.name ∷ []) c.loop-block.invariant
    ∙ sym (taken_more (λ (b : Block). b.name) bs (block_names (map block_tree bs)) i item (sym alike) c.loop-block-test.true c.block-item.is)
