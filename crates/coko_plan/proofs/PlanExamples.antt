-- Plans, their texts and faults that are computed.
use Rattle.std.proofs.Common.{◌≡◌, ℕ, false, List, [], ◌∷◌, ◌++◌, Some, codes, refl}
use Rattle.std.specs.Fmt.{digits}
use Rattle.kola_term.specs.Terms.{FMeta, FComp, TermF}
use Rattle.coko_block.specs.Statements.{SFire, SSkip, SElse, SThen, SBu, SRepeat, StmtTree, NoStmts, MoreStmts, BlockTree}
use Rattle.coko_plan.specs.Entries.{EntryTree, EFire, ESkip, EThen, EElse, EBu, ERepeat, stands_for}
use Rattle.coko_plan.specs.Variables.{variables}
use Rattle.coko_plan.specs.Naming.{reached}
use Rattle.coko_plan.specs.Listing.{whole_of, listing}
use Rattle.coko_plan.specs.Faults.{UnknownBlock, UnknownRule, LaterBlock, fault_of}
use Rattle.coko_plan.specs.Spelling.{plan_spelling}

abbrev named : List ℕ → StmtTree → BlockTree
named n s = record { name = n; stmt = s }

abbrev fire : List ℕ → StmtTree
fire n = SFire n false

abbrev rules : List (List ℕ)
rules = codes "id_left" ∷ codes "id_right" ∷ codes "push" ∷ []

-- `REPEAT BU (id_left || id_right || push)`
abbrev tidy : BlockTree
tidy = named (codes "tidy") (SRepeat (SBu (SElse (MoreStmts (fire (codes "id_left")) (MoreStmts (fire (codes "id_right")) (MoreStmts (fire (codes "push")) NoStmts))))))

-- `push -> push -> tidy`, behind it
abbrev then_tidy : BlockTree
then_tidy = named (codes "b") (SThen (MoreStmts (fire (codes "push")) (MoreStmts (fire (codes "push")) (MoreStmts (fire (codes "tidy")) NoStmts))))

abbrev tidy_entries : List EntryTree
tidy_entries = EFire 0 false ∷ EFire 1 false ∷ EElse 0 1 ∷ EFire 2 false ∷ EElse 2 3 ∷ EBu 4 ∷ ERepeat 5 ∷ []

tidy_listing : listing rules (codes "tidy") (tidy ∷ []) ≡ (tidy_entries, 6)
tidy_listing = refl

-- a block's name has no entry, and `->` groups to the right
then_listing : listing rules (codes "b") (tidy ∷ then_tidy ∷ []) ≡ (tidy_entries ++ EFire 2 false ∷ EFire 2 false ∷ EThen 8 6 ∷ EThen 7 9 ∷ [], 10)
then_listing = refl

then_whole : stands_for (tidy_entries ++ EFire 2 false ∷ EFire 2 false ∷ EThen 8 6 ∷ EThen 7 9 ∷ []) 10 ≡ whole_of rules (codes "b") (tidy ∷ then_tidy ∷ [])
then_whole = refl

-- a block that is not named is not reached
tidy_reached : reached (codes "tidy") (named (codes "a") SSkip ∷ tidy ∷ []) ≡ tidy ∷ []
tidy_reached = refl

tidy_text : plan_spelling rules tidy_entries 6 ≡ codes "0: FIRE id_left\n1: FIRE id_right\n2: ELSE 0 1\n3: FIRE push\n4: ELSE 2 3\n5: BU 4\n6: REPEAT 5\nstart: 6\n"
unfolding digits
tidy_text = refl

skip_text : plan_spelling [] (ESkip ∷ []) 0 ≡ codes "0: SKIP\nstart: 0\n"
unfolding digits
skip_text = refl

no_block : fault_of [] (codes "b") (tidy ∷ []) ≡ Some UnknownBlock
no_block = refl

no_rule : fault_of [] (codes "tidy") (tidy ∷ []) ≡ Some (UnknownRule (codes "tidy") (codes "id_left"))
no_rule = refl

itself : fault_of [] (codes "a") (named (codes "a") (fire (codes "a")) ∷ []) ≡ Some (LaterBlock (codes "a") (codes "a"))
itself = refl

two_variables : variables (TermF (FComp (FMeta (codes "F")) (FMeta (codes "G")))) ≡ TermF (FMeta (codes "F")) ∷ TermF (FMeta (codes "G")) ∷ []
two_variables = refl
