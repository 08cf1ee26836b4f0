-- The order in which the machine's moves go down, and what a move does.
use Rattle.std.specs.Prelude.{ℕ, ◌+◌, ◌*◌, ◌<◌, ◌≤◌, ◌≡◌, ◌⊎◌, List, [], ◌∷◌, ◌++◌, Option, Some, None}
use Rattle.kola_term.specs.Terms.{TermTree}
use Rattle.kola_term.specs.Places.{sub_at}
use Rattle.coko_plan.specs.Wholes.{WholeTree, WSeq, WThen, WElse, WBu, WholeArms, NoWholes, MoreWholes}
use Rattle.coko_run.specs.Outcomes.{kids, each}
use Rattle.coko_run.specs.Runs.{World, Job, Do, Step, Kids, Walk}
use Rattle.kola_term.specs.Counts.{nodes}
use Rattle.coko_run.specs.Moves.{Fr, FOr, FAfter, Conf, Going, Back, Over, Ended, Moves}

abbrev pub nodes_of : Option TermTree → ℕ
nodes_of (Some t) = nodes t
nodes_of None = 0

-- of a statement at a subterm of n nodes
abbrev pub weight_at : WholeTree → ℕ → ℕ
weight_at (WSeq a b) n = weight_at a n + weight_at b n + 4
weight_at (WThen a b) n = weight_at a n + weight_at b n + 4
weight_at (WElse a b) n = weight_at a n + weight_at b n + 4
weight_at (WBu a) n = 30 * n + 6
weight_at _ n = 1

abbrev pub weight_arms : WholeArms → TermTree → List ℕ → ℕ
weight_arms NoWholes w q = 1
weight_arms (MoreWholes p s as') w q = weight_at s (nodes_of (sub_at w (q ++ p))) + 3 + weight_arms as' w q

abbrev pub weight_job : Job → TermTree → List ℕ → ℕ
weight_job (Do s) w q = weight_at s (nodes_of (sub_at w q))
weight_job (Step s) w q = 1
weight_job (Kids s) w q = 1 + weight_arms (each s (kids w q)) w q
weight_job (Walk as') w q = weight_arms as' w q

abbrev pub weight_frames : TermTree → List Fr → ℕ
weight_frames w [] = 0
weight_frames w (FOr k ∷ fs) = 1 + weight_frames w fs
weight_frames w (FAfter c j q ∷ fs) = weight_job j w q + 2 + weight_frames w fs

abbrev pub weight : Conf → ℕ
weight (Going j w q m l fs) = weight_job j w q + weight_frames w fs + 1
weight (Back k w m l fs) = weight_frames w fs + 1
weight (Over w y m l) = 0
weight (Ended k w m l) = 0

abbrev pub left_in : Conf → ℕ
left_in (Going j w q m l fs) = m
left_in (Back k w m l fs) = m
left_in (Over w y m l) = m
left_in (Ended k w m l) = m

abbrev pub count_in : Conf → ℕ
count_in (Going j w q m l fs) = l.count
count_in (Back k w m l fs) = l.count
count_in (Over w y m l) = l.count
count_in (Ended k w m l) = l.count

abbrev pub whole_in : Conf → TermTree
whole_in (Going j w q m l fs) = w
whole_in (Back k w m l fs) = w
whole_in (Over w y m l) = w
whole_in (Ended k w m l) = w

abbrev pub frames_in : Conf → List Fr
frames_in (Going j w q m l fs) = fs
frames_in (Back k w m l fs) = fs
frames_in (Over w y m l) = []
frames_in (Ended k w m l) = []

-- no two ors on one another
abbrev pub NoOr : List Fr → Type 0
NoOr (FOr k ∷ fs) = ⊥
NoOr _ = Unit {0}

abbrev pub Apart : List Fr → Type 0
Apart [] = Unit {0}
Apart (FOr k ∷ fs) = NoOr fs × Apart fs
Apart (FAfter c j q ∷ fs) = Apart fs

abbrev pub IsEnd : Conf → Type 0
IsEnd (Over w y m l) = Unit {0}
IsEnd (Ended k w m l) = Unit {0}
IsEnd _ = ⊥

-- fewer steps are left; or as many, and less weight; or it is over
pub data Falls (a b : Conf) : Type 0 where
  fewer : left_in b < left_in a → Falls a b
  lighter : left_in b ≡ left_in a → weight b < weight a → Falls a b
  over : IsEnd b → Falls a b

-- what one move does
pub record Leads (G : World) (a b : Conf) : Type 0 where
  pub moves : Moves G a b
  pub falls : Falls a b
  pub counts : count_in b + left_in b ≤ count_in a + left_in a
  pub apart : Apart (frames_in a) → Apart (frames_in b)
  pub fits : G.fit (whole_in a) → G.fit (whole_in b)

-- what moves up to the next step do
pub record Steps (G : World) (a b : Conf) : Type 0 where
  pub moves : Moves G a b
  pub counts : count_in b + left_in b ≤ count_in a + left_in a
  pub apart : Apart (frames_in a) → Apart (frames_in b)
  pub fits : G.fit (whole_in a) → G.fit (whole_in b)
  pub ahead : (left_in b < left_in a) ⊎ IsEnd b
