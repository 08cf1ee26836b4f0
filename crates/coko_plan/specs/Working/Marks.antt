-- Which blocks are reached, block by block.
use Rattle.std.specs.Prelude.{ℕ, Bool, List, [], ◌∷◌}
use Rattle.kola_core.specs.NameLists.{is_listed}
use Rattle.coko_block.specs.Statements.{BlockTree}
use Rattle.coko_plan.specs.Naming.{wanted, reached}

-- whether each block is reached
abbrev pub marks : List ℕ → List BlockTree → List Bool
marks c [] = []
marks c (b ∷ bs) = is_listed b.name (wanted c (reached c bs)) ∷ marks c bs
