-- The plain trees of values that are lent or owned, and what an evaluation takes of the visits that are left.
use Rattle.std.specs.Prelude.{◌≡◌, ℕ, ◌+◌, ◌<◌, List, [], Option, Some, None, Result, Ok, Err}
use Rattle.std.specs.Borrow.{Bor}
use Rattle.kola_values.specs.Values.{ValueTree, VUnit, VInt, VBool, VStr, VPair, VSet, VNone, of_items}
use Rattle.kola_values.specs.Views.{value_tree}
use Rattle.kola_eval.specs.declared.lent.Lent.{Lent}
use Rattle.kola_eval.specs.declared.lent.Lent.TheVariants as l
use Rattle.kola_eval.specs.declared.held.Held.{Held}
use Rattle.kola_eval.specs.declared.held.Held.TheVariants as h
use Rattle.kola_eval.specs.declared.budget.Stop.{Stop}
use Rattle.kola_eval.specs.declared.budget.Stop.TheVariants.{Limit, Memory}

abbrev pub lent_tree : Lent → ValueTree
lent_tree l.Unit = VUnit
lent_tree l.Empty = VSet VNone
lent_tree (l.Int n) = VInt n
lent_tree (l.Bool b) = VBool b
lent_tree (l.Str s) = VStr s.now
lent_tree (l.Set s) = VSet (of_items s.now)
lent_tree (l.Whole v) = value_tree v.now
lent_tree (l.Pair' p a q b) = VPair (lent_tree a) (lent_tree b)

abbrev pub held_tree : Held → ValueTree
held_tree (h.Lent v) = lent_tree v
held_tree (h.Own v) = v

-- the set of a rising list
abbrev pub set_tree : List ValueTree → ValueTree
set_tree vs = VSet (of_items vs)

-- the members of a set, if there is one
abbrev pub set_members : Option (Bor (List ValueTree)) → List ValueTree
set_members (Some s) = s.now
set_members None = []

-- fewer visits were left than wanted, or memory was
abbrev pub Stopped : ℕ → ℕ → Stop → Type 0
Stopped cost before Limit = before < cost
Stopped cost before Memory = Unit {0}

-- so many visits were taken of what was left; or there were fewer
abbrev pub Paid : {A : Type 0} → ℕ → ℕ → ℕ → Result A Stop → Type 0
Paid cost before after (Ok a) = before ≡ cost + after
Paid cost before after (Err e) = Stopped cost before e
