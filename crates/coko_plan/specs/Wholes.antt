-- Whole statements: rules by their places in a table, no names of blocks, and two parts at most.
use Rattle.std.specs.Prelude.{ℕ, Bool, List}
use Rattle.kola_term.specs.Terms.{TermTree}

mutual
  pub data WholeTree : Type 0 where
    -- the rule at the place, counted from 0, from right to left where it is reversed
    WFire : (rule : ℕ) (rev : Bool) → WholeTree
    WSkip WFail : WholeTree
    WSeq : (a b : WholeTree) → WholeTree
    WThen : (a b : WholeTree) → WholeTree
    WElse : (a b : WholeTree) → WholeTree
    WBu : (a : WholeTree) → WholeTree
    WTd : (a : WholeTree) → WholeTree
    WRepeat : (a : WholeTree) → WholeTree
    WGiven : (pattern : TermTree) (arms : WholeArms) → WholeTree

  -- statements, each for the part of the pattern at a path
  pub data WholeArms : Type 0 where
    NoWholes : WholeArms
    MoreWholes : (path : List ℕ) (a : WholeTree) (arms : WholeArms) → WholeArms
