-- What listing does at a site: the entries behind those that stood, or what stops it.
use Rattle.std.specs.Prelude.{◌≡◌, ℕ, Bool, List, None, Result, Ok, Err, map}
use Rattle.coko_block.specs.Statements.{StmtTree, StmtTrees, ArmTrees}
use Rattle.coko_plan.specs.Entries.{EntryTree}
use Rattle.coko_plan.specs.EntryViews.{entry_tree}
use Rattle.coko_plan.specs.Faults.{names_of_rules}
use Rattle.coko_plan.specs.Listing.{Listed, with_entry, put, put_left, put_more, put_right, put_arms}
use Rattle.coko_plan.specs.Working.Groups.{pair_entry, walk_entry, put_all}
use Rattle.coko_plan.specs.Working.Sites.{rules_of, known_of, site_faults, StopTells}
use Rattle.coko_plan.specs.declared.entry.Entry.{Entry}
use Rattle.coko_plan.specs.declared.listing.Pairing.{Pairing}
use Rattle.coko_plan.specs.declared.listing.Walk.{Walk}
use Rattle.coko_plan.specs.declared.site.Site.{Site}
use Rattle.coko_plan.specs.declared.site.Stop.{Stop}
use Rattle.coko_plan.specs.declared.site.Stop.TheVariants as stop

-- the entries come to be these with this number, or memory is wanted
abbrev pub Makes : Listed → List Entry → Result ℕ Stop → Type 0
Makes x new (Ok n) = (map entry_tree new, n) ≡ x
Makes x new (Err e) = e ≡ stop.Memory

-- none of the names has a fault, and the entries come to be as f says; or it stops at the first fault of the names
abbrev pub Puts : {A B : Type 0} → (A → B) → Site → List (List ℕ × Bool) → (List EntryTree → List EntryTree × B) → List Entry → List Entry → Result A Stop → Type 0
Puts v s xs f old new (Ok a) = ((map entry_tree new, v a) ≡ f (map entry_tree old)) × (site_faults s xs ≡ None)
Puts v s xs f old new (Err e) = StopTells s.block.now e (site_faults s xs)

-- ---- the listings at a site

abbrev pub put_at : Site → StmtTree → List EntryTree → Listed
put_at s t es = put (names_of_rules (rules_of s)) (known_of s) es t

abbrev pub put_walk_at : Site → Walk → StmtTree → List EntryTree → Listed
put_walk_at s w t es = with_entry (put_at s t es).0 (walk_entry w (put_at s t es).1)

abbrev pub put_left_at : Site → Pairing → StmtTrees → List EntryTree → Listed
put_left_at s p ss es = put_left (pair_entry p) (names_of_rules (rules_of s)) (known_of s) es ss

abbrev pub put_more_at : Site → Pairing → ℕ → StmtTrees → List EntryTree → Listed
put_more_at s p n ss es = put_more (pair_entry p) (names_of_rules (rules_of s)) (known_of s) (es, n) ss

abbrev pub put_right_at : Site → StmtTrees → List EntryTree → Listed
put_right_at s ss es = put_right (names_of_rules (rules_of s)) (known_of s) es ss

abbrev pub put_all_at : Site → StmtTrees → List EntryTree → List EntryTree × List ℕ
put_all_at s ss es = put_all (names_of_rules (rules_of s)) (known_of s) es ss

abbrev pub put_arms_at : Site → ArmTrees → List EntryTree → List EntryTree × List (List ℕ × ℕ)
put_arms_at s as' es = put_arms (names_of_rules (rules_of s)) (known_of s) es as'
