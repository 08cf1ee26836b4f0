-- The text of a plan: a line for each entry, and one for the start.
use Rattle.std.specs.Prelude.{ℕ, suc, Bool, true, false, List, [], ◌∷◌, ◌++◌, codes, decimal, slice_get}
use Rattle.kola_text.specs.Spelling.{term_spelling}
use Rattle.coko_plan.specs.Entries.{EntryTree, EFire, ESkip, EFail, ESeq, EThen, EElse, EBu, ETd, ERepeat, EGiven}
use Rattle.coko_plan.specs.Listing.{or_else}

abbrev pub further_children : List ℕ → List ℕ
further_children [] = []
further_children (n ∷ q) = codes "." ++ decimal n ++ further_children q

abbrev pub path_spelling : List ℕ → List ℕ
path_spelling [] = codes "here"
path_spelling (n ∷ q) = decimal n ++ further_children q

abbrev pub arm_spelling : List ℕ × ℕ → List ℕ
arm_spelling a = path_spelling a.0 ++ codes ": " ++ decimal a.1

abbrev pub further_arms : List (List ℕ × ℕ) → List ℕ
further_arms [] = []
further_arms (a ∷ as') = codes ", " ++ arm_spelling a ++ further_arms as'

-- arms parted by commas
abbrev pub arms_spelling : List (List ℕ × ℕ) → List ℕ
arms_spelling [] = []
arms_spelling (a ∷ as') = arm_spelling a ++ further_arms as'

abbrev pub direction_spelling : Bool → List ℕ
direction_spelling true = codes "FIRE rev "
direction_spelling false = codes "FIRE "

abbrev pub two_spelling : ℕ → ℕ → List ℕ
two_spelling i j = decimal i ++ codes " " ++ decimal j

-- an entry, where the rules have these names
abbrev pub entry_spelling : List (List ℕ) → EntryTree → List ℕ
entry_spelling rules (EFire r v) = direction_spelling v ++ or_else (slice_get rules r) []
entry_spelling rules ESkip = codes "SKIP"
entry_spelling rules EFail = codes "FAIL"
entry_spelling rules (ESeq i j) = codes "SEQ " ++ two_spelling i j
entry_spelling rules (EThen i j) = codes "THEN " ++ two_spelling i j
entry_spelling rules (EElse i j) = codes "ELSE " ++ two_spelling i j
entry_spelling rules (EBu i) = codes "BU " ++ decimal i
entry_spelling rules (ETd i) = codes "TD " ++ decimal i
entry_spelling rules (ERepeat i) = codes "REPEAT " ++ decimal i
entry_spelling rules (EGiven p as') = codes "GIVEN " ++ term_spelling p ++ codes " DO " ++ arms_spelling as' ++ codes " END"

-- the lines of entries, where the first one's number is n
abbrev pub lines_from : ℕ → List (List ℕ) → List EntryTree → List ℕ
lines_from n rules [] = []
lines_from n rules (e ∷ es) = decimal n ++ codes ": " ++ entry_spelling rules e ++ codes "\n" ++ lines_from (suc n) rules es

abbrev pub plan_spelling : List (List ℕ) → List EntryTree → ℕ → List ℕ
plan_spelling rules es start = lines_from 0 rules es ++ codes "start: " ++ decimal start ++ codes "\n"
