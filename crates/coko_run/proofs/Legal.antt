-- Statements whose firings put in no new variable have one outcome at most.
use Rattle.std.proofs.Common.{ℕ, Bool}
use Rattle.coko_plan.specs.Wholes.{WholeTree, WFire, WSkip, WFail, WSeq, WThen, WElse, WBu, WTd, WRepeat, WGiven, WholeArms, NoWholes, MoreWholes}
use Rattle.coko_run.specs.Runs.{AllFire, AllFires, OneResult}
use Rattle.coko_run.specs.Firing.{world}
use Rattle.coko_run.specs.Fires.{MayFire}
use Rattle.coko_run.specs.Claims.{AtMostOne}
use Rattle.coko_run.proofs.One.{one_outcome}
use Rattle.coko_run.proofs.Fired.{one_result}

module _ (L M : ℕ → Bool → Type 0) (f : (n : ℕ) (v : Bool) → L n v → M n v) where
  mutual
    all_fire : (s : WholeTree) → AllFire L s → AllFire M s
    all_fire (WFire r v) h = f r v h
    all_fire (WSeq a b) h = (all_fire a h.0, all_fire b h.1)
    all_fire (WThen a b) h = (all_fire a h.0, all_fire b h.1)
    all_fire (WElse a b) h = (all_fire a h.0, all_fire b h.1)
    all_fire (WBu a) h = all_fire a h
    all_fire (WTd a) h = all_fire a h
    all_fire (WRepeat a) h = all_fire a h
    all_fire (WGiven p as') h = all_fires as' h
    all_fire WSkip h = tt
    all_fire WFail h = tt

    all_fires : (as' : WholeArms) → AllFires L as' → AllFires M as'
    all_fires NoWholes h = tt
    all_fires (MoreWholes p s as') h = (all_fire s h.0, all_fires as' h.1)

pub at_most_one : AtMostOne
at_most_one = λ S A s h w q m o e x y. one_outcome (world S A) s (all_fire (MayFire A) (OneResult (world S A)) (λ n v k p r a b i j. one_result S A n v p r k a b i j) s h) w q m o e x y
