-- What stands in the machine.
use Rattle.std.specs.Prelude.{◌-◌, ℕ, zero, suc, Bool, true, false, List, [], ◌∷◌, map, Option, Some, None}
use Rattle.kola_term.specs.Terms.{TermTree}
use Rattle.kola_term.specs.TermView.{term_tree}
use Rattle.coko_plan.specs.Wholes.{WholeTree, WSkip, WFail, WGiven, WholeArms, NoWholes, MoreWholes}
use Rattle.coko_plan.specs.Entries.{pick}
use Rattle.coko_run.specs.Outcomes as s
use Rattle.coko_run.specs.Runs as d
use Rattle.coko_run.specs.Notes.{Notes}
use Rattle.coko_run.specs.Moves.{Fr, FOr, FAfter, Conf, Going, Back, Over, Ended}
use Rattle.coko_run.specs.declared.machine.Job.{Job}
use Rattle.coko_run.specs.declared.machine.Job.TheVariants as job
use Rattle.coko_run.specs.declared.machine.When.{When}
use Rattle.coko_run.specs.declared.machine.When.TheVariants as when
use Rattle.coko_run.specs.declared.machine.Frame.{Frame}
use Rattle.coko_run.specs.declared.machine.Frame.TheVariants as frame
use Rattle.coko_run.specs.declared.machine.Now.{Now}
use Rattle.coko_run.specs.declared.machine.Now.TheVariants as now
use Rattle.coko_run.specs.declared.machine.Shot.{Shot}
use Rattle.coko_run.specs.declared.machine.Log.{Log}
use Rattle.coko_run.specs.declared.machine.Held.{Held}

-- as many numbers, up to the last
abbrev pub counted : ℕ → ℕ → List ℕ
counted last zero = []
counted last (suc k) = (last - k) ∷ counted last k

-- the arms of a GIVEN from a number on
abbrev pub arms_from : ℕ → WholeArms → WholeArms
arms_from zero as' = as'
arms_from (suc k) NoWholes = NoWholes
arms_from (suc k) (MoreWholes p a as') = arms_from k as'

abbrev pub arms_of : ℕ → WholeTree → WholeArms
arms_of k (WGiven p as') = arms_from k as'
arms_of k _ = NoWholes

abbrev pub idle_of : Bool → WholeTree
idle_of true = WSkip
idle_of false = WFail

abbrev pub job_of : List WholeTree → Job → d.Job
job_of t (job.Do i) = d.Do (pick t i)
job_of t (job.Step i) = d.Step (pick t i)
job_of t (job.Kids i) = d.Kids (pick t i)
job_of t (job.Child i n k) = d.Walk (s.each (pick t i) (counted n k))
job_of t (job.Arms i k) = d.Walk (arms_of k (pick t i))

abbrev pub when_of : When → s.When
when_of when.Always = s.Always
when_of when.OnOk = s.OnOk
when_of when.OnFail = s.OnFail

abbrev pub frame_of : List WholeTree → Frame → Fr
frame_of t (frame.Or k) = FOr k
frame_of t (frame.After c j q) = FAfter (when_of c) (job_of t j) q

-- the top of the stack comes first
abbrev pub frames_on : List WholeTree → List Fr → List Frame → List Fr
frames_on t fs [] = fs
frames_on t fs (a ∷ as') = frames_on t (frame_of t a ∷ fs) as'

unfoldable pub frames : List WholeTree → List Frame → List Fr
frames t as' = frames_on t [] as'

abbrev pub shot_of : Shot → s.Event
shot_of f = s.Fired f.rule f.rev f.path

abbrev pub kept : Bool → List s.Event → Option (List s.Event)
kept true es = Some es
kept false es = None

-- a log that keeps no list has none
abbrev pub notes : Log → Notes
notes l = record { count = l.count; list = kept l.keep (map shot_of l.list.items) }

-- before the first firing
abbrev pub begun : Bool → Notes
begun keep = record { count = 0; list = kept keep [] }

abbrev pub is_end : Now → Bool
is_end (now.Going j q) = false
is_end (now.Back k) = false
is_end _ = true

abbrev pub conf_at : List WholeTree → Now → TermTree → ℕ → Notes → List Fr → Conf
conf_at t (now.Going j q) w m l fs = Going (job_of t j) w q m l fs
conf_at t (now.Back k) w m l fs = Back k w m l fs
conf_at t (now.Done k) w m l fs = Ended k w m l
conf_at t now.Spent w m l fs = Over w s.Spent m l
conf_at t now.Size w m l fs = Over w s.Size m l

abbrev pub conf : List WholeTree → Held → Now → Conf
conf t h n = conf_at t n (term_tree h.whole.value) h.left (notes h.log) (frames t h.stack.items)

-- before a job at a path
abbrev pub before : List WholeTree → Held → d.Job → List ℕ → Conf
before t h j q = Going j (term_tree h.whole.value) q h.left (notes h.log) (frames t h.stack.items)
