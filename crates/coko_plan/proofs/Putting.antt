-- How the listing of a statement is put together of those of its parts.
use Rattle.std.proofs.Common.{◌≡◌, ℕ, zero, suc, Bool, ◌+◌, ◌-◌, ◌<◌, List, [], ◌∷◌, ◌++◌, Option, Some, None, length, get_or, map, drop, length-drop, append_assoc, refl, sym, ap, ◌∙◌, subst, arith}
use Rattle.std.proofs.Math.Seq.{drop-length}
use Rattle.std.specs.Prelude.{Result, Ok, Err}
use Rattle.std.proofs.lemmas.List.{drop_more}
use Rattle.coko_block.specs.Statements.{StmtTrees, NoStmts, MoreStmts, of_stmts, of_arms}
use Rattle.coko_block.specs.StmtViews.{stmt_tree, arm_entry}
use Rattle.coko_block.specs.declared.stmt.Stmt.{Stmt}
use Rattle.coko_plan.specs.Entries.{EntryTree, EThen}
use Rattle.coko_plan.specs.EntryViews.{entry_tree}
use Rattle.coko_plan.specs.Naming.{names_in, names_among, names_in_arms}
use Rattle.coko_plan.specs.Faults.{Fault, first, first_of, names_of_rules}
use Rattle.coko_plan.specs.Listing.{Listed, with_entry, put, put_more, put_right, put_rest}
use Rattle.coko_plan.specs.Working.Groups.{pair_entry, put_all, grouped, group}
use Rattle.coko_plan.specs.Working.Sites.{rules_of, known_of, site_fault, site_faults, StopTells}
use Rattle.coko_plan.specs.Working.Puts.{Makes, Puts, put_at, put_left_at, put_more_at, put_all_at, put_arms_at}
use Rattle.coko_plan.specs.declared.entry.Entry.{Entry}
use Rattle.coko_plan.specs.declared.listing.Pairing.{Pairing}
use Rattle.coko_plan.specs.declared.site.Site.{Site}
use Rattle.coko_plan.specs.declared.site.Stop.{Stop}
use Rattle.coko_plan.specs.declared.site.Stop.TheVariants as stop
use Rattle.coko_plan.proofs.Taking.{left_item}

-- ---- groups to the right

group_more : (es : List EntryTree) (x : ℕ) (ns : List ℕ) → 0 < length ns → group es (x ∷ ns) ≡ with_entry (group es ns).0 (EThen x (group es ns).1)
group_more es x [] h = absurd (omega (arith, h))
group_more es x (m ∷ ns) h = refl

pub group_last : (es : List EntryTree) (ns : List ℕ) (x : ℕ) → 0 < length ns → x ≡ get_or ns (length ns - 1) x → (es, x) ≡ group es (drop (length ns - 1) ns)
group_last es ns x p h = sym (ap (group es) (left_item ns (length ns) x p (omega arith) h ∙ ap (λ l. x ∷ l) (drop-length ns)))

pub group_on : (old cur : List EntryTree) (new : Listed) (ns : List ℕ) (left whole x : ℕ) → 0 < left → left < length ns → x ≡ get_or ns (left - 1) x → (cur, whole) ≡ group old (drop left ns) → new ≡ with_entry cur (EThen x whole) → new ≡ group old (drop (left - 1) ns)
group_on old cur new ns left whole x p l e h m =
    let some : 0 < length (drop left ns) = omega (arith, l, length-drop left ns) in
    m
    ∙ (ap (λ (y : Listed). with_entry y.0 (EThen x y.1)) h
    ∙ sym (ap (group old) (left_item ns left x p (omega (arith, l)) e) ∙ group_more old x (drop left ns) some))

module _ (rules : List (List ℕ)) (known : List (List ℕ × ℕ)) where
  rest_grouped : (x : Listed) (ss : StmtTrees) → put_rest rules known x ss ≡ grouped (put_all rules known x.0 ss).0 x.1 (put_all rules known x.0 ss).1
  rest_grouped x NoStmts = refl
  rest_grouped x (MoreStmts s ss) = ap (λ (y : Listed). with_entry y.0 (EThen x.1 y.1)) (rest_grouped (put rules known x.0 s) ss)

  pub right_grouped : (es : List EntryTree) (ss : StmtTrees) → group (put_all rules known es ss).0 (put_all rules known es ss).1 ≡ put_right rules known es ss
  right_grouped es NoStmts = refl
  right_grouped es (MoreStmts s ss) = sym (rest_grouped (put rules known es s) ss)

-- a default that is not asked for
pub same_item : {X : Type 0} (xs : List X) (i : ℕ) (d e : X) → i < length xs → get_or xs i d ≡ get_or xs i e
same_item [] i d e p = absurd (omega (arith, p))
same_item (x ∷ xs) zero d e p = refl
same_item (x ∷ xs) (suc i) d e p = same_item xs i d e (omega (arith, p))

-- ---- faults of names, part by part

first_assoc : (o p q : Option Fault) → first (first o p) q ≡ first o (first p q)
first_assoc None p q = refl
first_assoc (Some f) p q = refl

pub faults_append : {A : Type 0} (f : A → Option Fault) (xs ys : List A) → first_of f (xs ++ ys) ≡ first (first_of f xs) (first_of f ys)
faults_append f [] ys = refl
faults_append f (x ∷ xs) ys = ap (first (f x)) (faults_append f xs ys) ∙ sym (first_assoc (f x) (first_of f xs) (first_of f ys))

-- what stops at the first of two faults
pub stops_first : (b : List ℕ) (e : Stop) (o p : Option Fault) → StopTells b e o → StopTells b e (first o p)
stops_first b (stop.UnknownRule n) o p h = ap (λ z. first z p) h
stops_first b (stop.LaterBlock n) o p h = ap (λ z. first z p) h
stops_first b (stop.CannotFire n) o p h = ap (λ z. first z p) h
stops_first b stop.Memory o p h = tt

module _ (s : Site) where
  -- the first fault is the first part's, or else the others'
  pub part_stops : (xs ys : List (List ℕ × Bool)) (e : Stop) → StopTells s.block.now e (site_faults s xs) → StopTells s.block.now e (site_faults s (xs ++ ys))
  part_stops xs ys e h = subst (StopTells s.block.now e) (sym (faults_append (site_fault s) xs ys)) (stops_first s.block.now e (site_faults s xs) (site_faults s ys) h)

  pub part_passes : (xs ys : List (List ℕ × Bool)) → site_faults s xs ≡ None → site_faults s ys ≡ site_faults s (xs ++ ys)
  part_passes xs ys h = sym (faults_append (site_fault s) xs ys ∙ ap (λ o. first o (site_faults s ys)) h)

  -- ---- one statement of a list

  module _ (xs : List Stmt) (i : ℕ) (x : Stmt) (l : i < length xs) (e : x ≡ get_or xs i x) where
    dropped : drop i xs ≡ x ∷ drop (i + 1) xs
    dropped = drop_more xs i x l ∙ ap (λ y. y ∷ drop (i + 1) xs) (sym e)

    names_dropped : names_among (of_stmts (map stmt_tree (drop i xs))) ≡ names_in (stmt_tree x) ++ names_among (of_stmts (map stmt_tree (drop (i + 1) xs)))
    names_dropped = ap (λ ys. names_among (of_stmts (map stmt_tree ys))) dropped

    pub item_passes : (o : Option Fault) → site_faults s (names_among (of_stmts (map stmt_tree (drop i xs)))) ≡ o → site_faults s (names_in (stmt_tree x)) ≡ None → site_faults s (names_among (of_stmts (map stmt_tree (drop (i + 1) xs)))) ≡ o
    item_passes o h k = part_passes (names_in (stmt_tree x)) (names_among (of_stmts (map stmt_tree (drop (i + 1) xs)))) k ∙ (ap (site_faults s) (sym names_dropped) ∙ h)

    pub item_stops : (o : Option Fault) (f : Stop) → site_faults s (names_among (of_stmts (map stmt_tree (drop i xs)))) ≡ o → StopTells s.block.now f (site_faults s (names_in (stmt_tree x))) → StopTells s.block.now f o
    item_stops o f h k = subst (StopTells s.block.now f) (ap (site_faults s) (sym names_dropped) ∙ h) (part_stops (names_in (stmt_tree x)) (names_among (of_stmts (map stmt_tree (drop (i + 1) xs)))) f k)

    pub item_more : (p : Pairing) (cur mid new : List EntryTree) (whole n k : ℕ) → (mid, n) ≡ put_at s (stmt_tree x) cur → (new, k) ≡ with_entry mid (pair_entry p whole n)
        → put_more_at s p k (of_stmts (map stmt_tree (drop (i + 1) xs))) new ≡ put_more_at s p whole (of_stmts (map stmt_tree (drop i xs))) cur
    item_more p cur mid new whole n k h j =
        sym (ap (λ ys. put_more_at s p whole (of_stmts (map stmt_tree ys)) cur) dropped
        ∙ ap (λ (y : Listed). put_more (pair_entry p) (names_of_rules (rules_of s)) (known_of s) y (of_stmts (map stmt_tree (drop (i + 1) xs)))) (sym (j ∙ ap (λ (y : Listed). with_entry y.0 (pair_entry p whole y.1)) h)))

    pub item_all : (cur mid : List EntryTree) (ns new : List ℕ) (n : ℕ) (r : List EntryTree × List ℕ) → ((put_all_at s (of_stmts (map stmt_tree (drop i xs))) cur).0, ns ++ (put_all_at s (of_stmts (map stmt_tree (drop i xs))) cur).1) ≡ r
        → (mid, n) ≡ put_at s (stmt_tree x) cur → new ≡ ns ++ n ∷ [] → ((put_all_at s (of_stmts (map stmt_tree (drop (i + 1) xs))) mid).0, new ++ (put_all_at s (of_stmts (map stmt_tree (drop (i + 1) xs))) mid).1) ≡ r
    item_all cur mid ns new n r h j k =
        let rest = λ (es : List EntryTree). put_all_at s (of_stmts (map stmt_tree (drop (i + 1) xs))) es in
        ap (λ ms. ((rest mid).0, ms ++ (rest mid).1)) k
        ∙ (ap (λ ms. ((rest mid).0, ms)) (append_assoc ns (n ∷ []) (rest mid).1)
        ∙ (ap (λ (y : Listed). ((rest y.0).0, ns ++ y.1 ∷ (rest y.0).1)) j
        ∙ (sym (ap (λ ys. ((put_all_at s (of_stmts (map stmt_tree ys)) cur).0, ns ++ (put_all_at s (of_stmts (map stmt_tree ys)) cur).1)) dropped) ∙ h)))

  -- ---- one arm

  module _ (xs : List (List ℕ × Stmt)) (i : ℕ) (x : List ℕ × Stmt) (l : i < length xs) (e : x ≡ get_or xs i x) where
    arm_dropped : drop i xs ≡ x ∷ drop (i + 1) xs
    arm_dropped = drop_more xs i x l ∙ ap (λ y. y ∷ drop (i + 1) xs) (sym e)

    arm_names : names_in_arms (of_arms (map arm_entry (drop i xs))) ≡ names_in (stmt_tree x.1) ++ names_in_arms (of_arms (map arm_entry (drop (i + 1) xs)))
    arm_names = ap (λ ys. names_in_arms (of_arms (map arm_entry ys))) arm_dropped

    pub arm_passes : (o : Option Fault) → site_faults s (names_in_arms (of_arms (map arm_entry (drop i xs)))) ≡ o → site_faults s (names_in (stmt_tree x.1)) ≡ None → site_faults s (names_in_arms (of_arms (map arm_entry (drop (i + 1) xs)))) ≡ o
    arm_passes o h k = part_passes (names_in (stmt_tree x.1)) (names_in_arms (of_arms (map arm_entry (drop (i + 1) xs)))) k ∙ (ap (site_faults s) (sym arm_names) ∙ h)

    pub arm_stops : (o : Option Fault) (f : Stop) → site_faults s (names_in_arms (of_arms (map arm_entry (drop i xs)))) ≡ o → StopTells s.block.now f (site_faults s (names_in (stmt_tree x.1))) → StopTells s.block.now f o
    arm_stops o f h k = subst (StopTells s.block.now f) (ap (site_faults s) (sym arm_names) ∙ h) (part_stops (names_in (stmt_tree x.1)) (names_in_arms (of_arms (map arm_entry (drop (i + 1) xs)))) f k)

    pub arm_all : (cur mid : List EntryTree) (ns new : List (List ℕ × ℕ)) (n : ℕ) (r : List EntryTree × List (List ℕ × ℕ)) → ((put_arms_at s (of_arms (map arm_entry (drop i xs))) cur).0, ns ++ (put_arms_at s (of_arms (map arm_entry (drop i xs))) cur).1) ≡ r
        → (mid, n) ≡ put_at s (stmt_tree x.1) cur → new ≡ ns ++ (x.0, n) ∷ [] → ((put_arms_at s (of_arms (map arm_entry (drop (i + 1) xs))) mid).0, new ++ (put_arms_at s (of_arms (map arm_entry (drop (i + 1) xs))) mid).1) ≡ r
    arm_all cur mid ns new n r h j k =
        let rest = λ (es : List EntryTree). put_arms_at s (of_arms (map arm_entry (drop (i + 1) xs))) es in
        ap (λ ms. ((rest mid).0, ms ++ (rest mid).1)) k
        ∙ (ap (λ ms. ((rest mid).0, ms)) (append_assoc ns ((x.0, n) ∷ []) (rest mid).1)
        ∙ (ap (λ (y : Listed). ((rest y.0).0, ns ++ (x.0, y.1) ∷ (rest y.0).1)) j
        ∙ (sym (ap (λ ys. ((put_arms_at s (of_arms (map arm_entry ys)) cur).0, ns ++ (put_arms_at s (of_arms (map arm_entry ys)) cur).1)) arm_dropped) ∙ h)))

-- ---- the last entry of a listing

-- where the entries come to be these, and the names have no fault
pub makes_puts : (s : Site) (xs : List (List ℕ × Bool)) (f : List EntryTree → Listed) (x : Listed) (old new : List Entry) (r : Result ℕ Stop) → Makes x new r → x ≡ f (map entry_tree old) → site_faults s xs ≡ None → Puts (λ n. n) s xs f old new r
makes_puts s xs f x old new (Ok n) m h k = (m ∙ h, k)
makes_puts s xs f x old new (Err e) m h k = subst (λ z. StopTells s.block.now z (site_faults s xs)) (sym m) tt

pub err_puts : {A B : Type 0} (v : A → B) (s : Site) (xs : List (List ℕ × Bool)) (f : List EntryTree → List EntryTree × B) (old new : List Entry) (r : Result A Stop) (e : Stop) → r ≡ Err e → StopTells s.block.now e (site_faults s xs) → Puts v s xs f old new r
err_puts v s xs f old new r e h k = subst (Puts v s xs f old new) (sym h) k

-- the first statement, and those behind it
pub left_puts : (s : Site) (p : Pairing) (all others : List Stmt) (x : Stmt) (old mid new : List Entry) (n : ℕ) (r : Result ℕ Stop) → all ≡ x ∷ others → (map entry_tree mid, n) ≡ put_at s (stmt_tree x) (map entry_tree old) → site_faults s (names_in (stmt_tree x)) ≡ None
    → Puts (λ k. k) s (names_among (of_stmts (map stmt_tree others))) (put_more_at s p n (of_stmts (map stmt_tree others))) mid new r → Puts (λ k. k) s (names_among (of_stmts (map stmt_tree all))) (put_left_at s p (of_stmts (map stmt_tree all))) old new r
left_puts s p all others x old mid new n r e h k m = subst (λ ys. Puts (λ k. k) s (names_among (of_stmts (map stmt_tree ys))) (put_left_at s p (of_stmts (map stmt_tree ys))) old new r) (sym e) (step r m)
  where
    step : (q : Result ℕ Stop) → Puts (λ k. k) s (names_among (of_stmts (map stmt_tree others))) (put_more_at s p n (of_stmts (map stmt_tree others))) mid new q
        → Puts (λ k. k) s (names_in (stmt_tree x) ++ names_among (of_stmts (map stmt_tree others))) (put_left_at s p (MoreStmts (stmt_tree x) (of_stmts (map stmt_tree others)))) old new q
    step (Ok i) g = (
      g.0 ∙ ap (λ (y : Listed). put_more (pair_entry p) (names_of_rules (rules_of s)) (known_of s) y (of_stmts (map stmt_tree others))) h,
      sym (part_passes s (names_in (stmt_tree x)) (names_among (of_stmts (map stmt_tree others))) k) ∙ g.1,
    )
    step (Err f) g = subst (StopTells s.block.now f) (part_passes s (names_in (stmt_tree x)) (names_among (of_stmts (map stmt_tree others))) k) g

pub left_stops : (s : Site) (all others : List Stmt) (x : Stmt) (f : Stop) → all ≡ x ∷ others → StopTells s.block.now f (site_faults s (names_in (stmt_tree x))) → StopTells s.block.now f (site_faults s (names_among (of_stmts (map stmt_tree all))))
left_stops s all others x f e h = subst (λ ys. StopTells s.block.now f (site_faults s (names_among (of_stmts (map stmt_tree ys))))) (sym e) (part_stops s (names_in (stmt_tree x)) (names_among (of_stmts (map stmt_tree others))) f h)
