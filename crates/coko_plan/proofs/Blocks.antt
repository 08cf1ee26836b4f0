-- How the listing of a file is put together of those of its blocks, where the numbers of all blocks before are kept.
use Rattle.std.proofs.Common.{◌≡◌, ℕ, zero, suc, ◌+◌, ◌<◌, ◌≤◌, Bool, true, false, cond, ◌||◌, List, [], ◌∷◌, ◌++◌, Option, Some, None, length, length-append, get_or, map, take, drop, refl, sym, ap, ap₂, ◌∙◌, subst, arith}
use Rattle.std.specs.Str.{bytes_eq}
use Rattle.std.proofs.lemmas.List.{take_more, drop_more, drop_all}
use Rattle.kola_core.specs.NameLists.{is_listed}
use Rattle.kola_values.specs.Databases.{look_up}
use Rattle.kola_term.proofs.Introductions.{same_name_itself}
use Rattle.kola_rule.specs.Rules.{RuleTree}
use Rattle.coko_block.specs.Statements.{StmtTree, SFire, SSkip, SFail, SSeq, SThen, SElse, SBu, STd, SRepeat, SGiven, StmtTrees, NoStmts, MoreStmts, ArmTrees, NoArms, MoreArms, BlockTree}
use Rattle.coko_block.specs.StmtViews.{block_tree}
use Rattle.coko_block.specs.declared.stmt.Block.{Block}
use Rattle.coko_block.specs.WellFormed.{block_names}
use Rattle.coko_plan.specs.Entries.{EntryTree, ESeq, EThen, EElse, EBu, ETd, ERepeat, EGiven}
use Rattle.coko_plan.specs.Naming.{names_in, names_among, names_in_arms, forward, wanted, reached}
use Rattle.coko_plan.specs.Faults.{Fault, first, first_of, names_of_rules, name_fault, block_fault, faults_behind}
use Rattle.coko_plan.specs.Listing.{or_else, place_of, earlier, Listed, with_entry, put_name, put, put_left, put_more, put_right, put_rest, put_arms, put_blocks, listing}
use Rattle.coko_plan.specs.Compiling.{Tells}
use Rattle.coko_plan.specs.declared.fault.CompileFault.{CompileFault}
use Rattle.coko_plan.specs.declared.fault.CompileFault.TheVariants as fault
use Rattle.coko_plan.specs.Working.Marks.{marks}
use Rattle.coko_plan.specs.EntryViews.{entry_tree}
use Rattle.coko_plan.specs.Working.Sites.{numbered, rules_of, site_faults}
use Rattle.coko_plan.specs.Working.Puts.{put_at}
use Rattle.coko_plan.specs.Working.Compiles.{BlockPut}
use Rattle.coko_plan.specs.declared.entry.Entry.{Entry}
use Rattle.coko_plan.specs.declared.site.Site.{Site}
use Rattle.coko_plan.proofs.Covering.{any_append}
use Rattle.coko_plan.proofs.Wanting.{forward_append}
use Rattle.coko_plan.proofs.Fitting.{wanted_on, used_wanted, apart}

-- ---- the same entries, where the same is known of the names that are used

abbrev Alike : List (List ℕ × ℕ) → List (List ℕ × ℕ) → List (List ℕ) → Type 0
Alike ks js ns = (n : List ℕ) → is_listed n ns ≡ true → look_up n ks ≡ look_up n js

or_left : (a b : Bool) → a ≡ true → (a || b) ≡ true
or_left true b e = refl
or_left false b e = absurd (cc)

or_right : (a b : Bool) → b ≡ true → (a || b) ≡ true
or_right true b e = refl
or_right false b e = e

module _ (ks js : List (List ℕ × ℕ)) where
  alike_left : (xs ys : List (List ℕ × Bool)) → Alike ks js (forward (xs ++ ys)) → Alike ks js (forward xs)
  alike_left xs ys h n e = h n (ap (is_listed n) (forward_append xs ys) ∙ (any_append (bytes_eq n) (forward xs) (forward ys) ∙ or_left (is_listed n (forward xs)) (is_listed n (forward ys)) e))

  alike_right : (xs ys : List (List ℕ × Bool)) → Alike ks js (forward (xs ++ ys)) → Alike ks js (forward ys)
  alike_right xs ys h n e = h n (ap (is_listed n) (forward_append xs ys) ∙ (any_append (bytes_eq n) (forward xs) (forward ys) ∙ or_right (is_listed n (forward xs)) (is_listed n (forward ys)) e))

  alike_earlier : (n : List ℕ) (v : Bool) → Alike ks js (forward ((n, v) ∷ [])) → earlier ks n v ≡ earlier js n v
  alike_earlier n true h = refl
  alike_earlier n false h = h n (or_left (bytes_eq n n) false (same_name_itself n))

  module _ (R : List (List ℕ)) where
    mutual
      pub put_alike : (es : List EntryTree) (s : StmtTree) → Alike ks js (forward (names_in s)) → put R ks es s ≡ put R js es s
      put_alike es (SFire n v) h = ap (λ o. put_name es o (place_of R n) v) (alike_earlier n v h)
      put_alike es SSkip h = refl
      put_alike es SFail h = refl
      put_alike es (SSeq ss) h = left_alike ESeq es ss h
      put_alike es (SThen ss) h = right_alike es ss h
      put_alike es (SElse ss) h = left_alike EElse es ss h
      put_alike es (SBu s) h = ap (λ (y : Listed). with_entry y.0 (EBu y.1)) (put_alike es s h)
      put_alike es (STd s) h = ap (λ (y : Listed). with_entry y.0 (ETd y.1)) (put_alike es s h)
      put_alike es (SRepeat s) h = ap (λ (y : Listed). with_entry y.0 (ERepeat y.1)) (put_alike es s h)
      put_alike es (SGiven p as') h = ap (λ (y : List EntryTree × List (List ℕ × ℕ)). with_entry y.0 (EGiven p y.1)) (arms_alike es as' h)

      left_alike : (e : ℕ → ℕ → EntryTree) (es : List EntryTree) (ss : StmtTrees) → Alike ks js (forward (names_among ss)) → put_left e R ks es ss ≡ put_left e R js es ss
      left_alike e es NoStmts h = refl
      left_alike e es (MoreStmts s ss) h =
          more_alike e (put R ks es s) ss (alike_right (names_in s) (names_among ss) h)
          ∙ ap (λ (y : Listed). put_more e R js y ss) (put_alike es s (alike_left (names_in s) (names_among ss) h))

      more_alike : (e : ℕ → ℕ → EntryTree) (x : Listed) (ss : StmtTrees) → Alike ks js (forward (names_among ss)) → put_more e R ks x ss ≡ put_more e R js x ss
      more_alike e x NoStmts h = refl
      more_alike e x (MoreStmts s ss) h =
          more_alike e (with_entry (put R ks x.0 s).0 (e x.1 (put R ks x.0 s).1)) ss (alike_right (names_in s) (names_among ss) h)
          ∙ ap (λ (y : Listed). put_more e R js (with_entry y.0 (e x.1 y.1)) ss) (put_alike x.0 s (alike_left (names_in s) (names_among ss) h))

      right_alike : (es : List EntryTree) (ss : StmtTrees) → Alike ks js (forward (names_among ss)) → put_right R ks es ss ≡ put_right R js es ss
      right_alike es NoStmts h = refl
      right_alike es (MoreStmts s ss) h =
          rest_alike (put R ks es s) ss (alike_right (names_in s) (names_among ss) h)
          ∙ ap (λ (y : Listed). put_rest R js y ss) (put_alike es s (alike_left (names_in s) (names_among ss) h))

      rest_alike : (x : Listed) (ss : StmtTrees) → Alike ks js (forward (names_among ss)) → put_rest R ks x ss ≡ put_rest R js x ss
      rest_alike x NoStmts h = refl
      rest_alike x (MoreStmts s ss) h =
          ap (λ (y : Listed). with_entry y.0 (EThen x.1 y.1))
          (rest_alike (put R ks x.0 s) ss (alike_right (names_in s) (names_among ss) h)
          ∙ ap (λ (y : Listed). put_rest R js y ss) (put_alike x.0 s (alike_left (names_in s) (names_among ss) h)))

      arms_alike : (es : List EntryTree) (as' : ArmTrees) → Alike ks js (forward (names_in_arms as')) → put_arms R ks es as' ≡ put_arms R js es as'
      arms_alike es NoArms h = refl
      arms_alike es (MoreArms q s as') h =
          ap (λ (y : List EntryTree × List (List ℕ × ℕ)). (y.0, (q, (put R ks es s).1) ∷ y.1)) (arms_alike (put R ks es s).0 as' (alike_right (names_in s) (names_in_arms as') h))
          ∙ ap (λ (x : Listed). ((put_arms R js x.0 as').0, (q, x.1) ∷ (put_arms R js x.0 as').1)) (put_alike es s (alike_left (names_in s) (names_in_arms as') h))

-- ---- numbers of blocks

abbrev either : Option ℕ → Option ℕ → Option ℕ
either (Some i) o = Some i
either None o = o

known_more : (n : List ℕ) (ks js : List (List ℕ × ℕ)) → look_up n (ks ++ js) ≡ either (look_up n ks) (look_up n js)
known_more n [] js = refl
known_more n (k ∷ ks) js = decide (bytes_eq n k.0) (known_more n ks js)
  where
    decide : (b : Bool) → look_up n (ks ++ js) ≡ either (look_up n ks) (look_up n js) → cond b (Some k.1) (look_up n (ks ++ js)) ≡ either (cond b (Some k.1) (look_up n ks)) (look_up n js)
    decide true h = refl
    decide false h = h

either_none : (o : Option ℕ) → o ≡ either o None
either_none None = refl
either_none (Some i) = refl

numbered_more : (ns : List (List ℕ)) (is : List ℕ) (n : List ℕ) (i : ℕ) → length is < length ns → n ≡ get_or ns (length is) n → numbered ns (is ++ i ∷ []) ≡ numbered ns is ++ (n, i) ∷ []
numbered_more [] is n i h e = absurd (omega (arith, h))
numbered_more (m ∷ ns) [] n i h e = ap (λ z. (z, i) ∷ numbered ns []) (sym e) ∙ ap (λ z. (n, i) ∷ z) (no_numbers ns)
  where
    no_numbers : (ms : List (List ℕ)) → numbered ms [] ≡ []
    no_numbers [] = refl
    no_numbers (k ∷ ms) = refl
numbered_more (m ∷ ns) (j ∷ is) n i h e = ap (λ z. (m, j) ∷ z) (numbered_more ns is n i (omega (arith, h)) e)

-- ---- what is kept from block to block

pub record Keeps (R : List RuleTree) (c : List ℕ) (bs : List BlockTree) (i : ℕ) (es : List EntryTree) (is : List ℕ) : Type 0 where
  pub known : List (List ℕ × ℕ)
  pub counts : length is ≡ i
  pub lists : put_blocks (names_of_rules R) known es (reached c (drop i bs)) ≡ put_blocks (names_of_rules R) [] [] (reached c bs)
  pub knows : (n : List ℕ) → is_listed n (wanted c (reached c (drop i bs))) ≡ true → look_up n known ≡ look_up n (numbered (block_names bs) is)
  pub faults : faults_behind R c (take i (block_names bs)) (drop i bs) ≡ faults_behind R c [] bs

pub keeps_first : (R : List RuleTree) (c : List ℕ) (bs : List BlockTree) (es : List EntryTree) (is : List ℕ) → es ≡ [] → is ≡ [] → Keeps R c bs 0 es is
keeps_first R c bs es is e h = record {
  known = [];
  counts = ap length h;
  lists = ap (λ z. put_blocks (names_of_rules R) [] z (reached c bs)) e;
  knows = λ n w. sym (ap (λ z. look_up n (numbered (block_names bs) z)) h ∙ ap (look_up n) (none (block_names bs)));
  faults = refl;
}
  where
    none : (ms : List (List ℕ)) → numbered ms [] ≡ []
    none [] = refl
    none (k ∷ ms) = refl

pub names_as : (bs : List Block) → block_names (map block_tree bs) ≡ map (λ (b : Block). b.name) bs
names_as [] = refl
names_as (b ∷ bs) = ap (λ z. b.name ∷ z) (names_as bs)

tells_first : (f : CompileFault) (o p : Option Fault) → Tells f o → Tells f (first o p)
tells_first fault.UnknownBlock o p h = ap (λ z. first z p) h
tells_first (fault.UnknownRule b n) o p h = ap (λ z. first z p) h
tells_first (fault.LaterBlock b n) o p h = ap (λ z. first z p) h
tells_first (fault.CannotFire b n) o p h = ap (λ z. first z p) h
tells_first fault.Memory o p h = tt

-- ---- one block

module _ (R : List RuleTree) (c : List ℕ) (bs : List BlockTree) (i : ℕ) (b : BlockTree) (l : i < length bs) (e : b ≡ get_or bs i b) where
  block_dropped : drop i bs ≡ b ∷ drop (i + 1) bs
  block_dropped = drop_more bs i b l ∙ ap (λ y. y ∷ drop (i + 1) bs) (sym e)

  names_length : (as' : List BlockTree) → length (block_names as') ≡ length as'
  names_length [] = refl
  names_length (a ∷ as') = ap suc (names_length as')

  name_at : (as' : List BlockTree) (k : ℕ) → b ≡ get_or as' k b → k < length as' → b.name ≡ get_or (block_names as') k b.name
  name_at [] k h p = absurd (omega (arith, p))
  name_at (a ∷ as') zero h p = ap (λ (z : BlockTree). z.name) h
  name_at (a ∷ as') (suc k) h p = name_at as' k h (omega (arith, p))

  names_taken : take (i + 1) (block_names bs) ≡ take i (block_names bs) ++ b.name ∷ []
  names_taken = take_more (block_names bs) i b.name (omega (arith, l, names_length bs)) ∙ ap (λ z. take i (block_names bs) ++ z ∷ []) (sym (name_at bs i e l))

  pub names_left : drop i (block_names bs) ≡ b.name ∷ block_names (drop (i + 1) bs)
  names_left = drop_names bs i ∙ ap block_names block_dropped
    where
      drop_names : (as' : List BlockTree) (k : ℕ) → drop k (block_names as') ≡ block_names (drop k as')
      drop_names as' zero = refl
      drop_names [] (suc k) = refl
      drop_names (a ∷ as') (suc k) = drop_names as' k

  numbers_more : (is : List ℕ) (k : ℕ) → length is ≡ i → numbered (block_names bs) (is ++ k ∷ []) ≡ numbered (block_names bs) is ++ (b.name, k) ∷ []
  numbers_more is k h = numbered_more (block_names bs) is b.name k (omega (arith, h, l, names_length bs)) (subst (λ j. b.name ≡ get_or (block_names bs) j b.name) (sym h) (name_at bs i e l))

  abbrev pub Reached : Bool → Type 0
  Reached t = t ≡ is_listed b.name (wanted c (reached c (drop (i + 1) bs)))

  head_reached : (t : Bool) → Reached t → reached c (drop i bs) ≡ cond t (b ∷ reached c (drop (i + 1) bs)) (reached c (drop (i + 1) bs))
  head_reached t h = ap (reached c) block_dropped ∙ ap (λ z. cond z (b ∷ reached c (drop (i + 1) bs)) (reached c (drop (i + 1) bs))) (sym h)

  head_faults : (t : Bool) → Reached t → faults_behind R c (take i (block_names bs)) (drop i bs) ≡ first (cond t (block_fault R (take i (block_names bs)) b (drop (i + 1) bs)) None) (faults_behind R c (take (i + 1) (block_names bs)) (drop (i + 1) bs))
  head_faults t h =
      ap (faults_behind R c (take i (block_names bs))) block_dropped
      ∙ (ap (λ z. first (cond z (block_fault R (take i (block_names bs)) b (drop (i + 1) bs)) None) (faults_behind R c (take i (block_names bs) ++ b.name ∷ []) (drop (i + 1) bs))) (sym h)
      ∙ ap (λ z. first (cond t (block_fault R (take i (block_names bs)) b (drop (i + 1) bs)) None) (faults_behind R c z (drop (i + 1) bs))) (sym names_taken))

  -- the numbers that are kept are enough for the block
  put_kept : (es : List EntryTree) (is : List ℕ) (k : Keeps R c bs i es is) → Reached true → put (names_of_rules R) (numbered (block_names bs) is) es b.stmt ≡ put (names_of_rules R) k.known es b.stmt
  put_kept es is k h = sym (put_alike k.known (numbered (block_names bs) is) (names_of_rules R) es b.stmt (λ n u. k.knows n (ap (λ z. is_listed n (wanted c z)) (head_reached true h) ∙ used_wanted n c b (reached c (drop (i + 1) bs)) u)))

  pub keeps_reached : (es mid : List EntryTree) (is new : List ℕ) (n : ℕ) → Keeps R c bs i es is → Reached true → (mid, n) ≡ put (names_of_rules R) (numbered (block_names bs) is) es b.stmt
      → first_of (name_fault R (take i (block_names bs)) (b.name ∷ block_names (drop (i + 1) bs)) b.name) (names_in b.stmt) ≡ None → new ≡ is ++ n ∷ [] → Keeps R c bs (i + 1) mid new
  keeps_reached es mid is new n k h p f m = record {
    known = k.known ++ (b.name, n) ∷ [];
    counts = ap length m ∙ (length-append is (n ∷ []) ∙ ap (λ z. z + 1) k.counts);
    lists = ap (λ (y : Listed). put_blocks (names_of_rules R) (k.known ++ (b.name, y.1) ∷ []) y.0 (reached c (drop (i + 1) bs))) (p ∙ put_kept es is k h) ∙ (ap (put_blocks (names_of_rules R) k.known es) (sym (head_reached true h)) ∙ k.lists);
    knows = λ q w.
        known_more q k.known ((b.name, n) ∷ [])
        ∙ (ap (λ o. either o (look_up q ((b.name, n) ∷ []))) (k.knows q (ap (λ z. is_listed q (wanted c z)) (head_reached true h) ∙ wanted_on q c b (reached c (drop (i + 1) bs)) w))
        ∙ (sym (known_more q (numbered (block_names bs) is) ((b.name, n) ∷ [])) ∙ ap (look_up q) (sym (ap (numbered (block_names bs)) m ∙ numbers_more is n k.counts))));
    faults = sym (head_faults true h ∙ ap (λ o. first o (faults_behind R c (take (i + 1) (block_names bs)) (drop (i + 1) bs))) f) ∙ k.faults;
  }

  pub keeps_other : (es mid : List EntryTree) (is new : List ℕ) (n : ℕ) → Keeps R c bs i es is → Reached false → mid ≡ es → new ≡ is ++ n ∷ [] → Keeps R c bs (i + 1) mid new
  keeps_other es mid is new n k h p m = record {
    known = k.known;
    counts = ap length m ∙ (length-append is (n ∷ []) ∙ ap (λ z. z + 1) k.counts);
    lists = ap (λ z. put_blocks (names_of_rules R) k.known z (reached c (drop (i + 1) bs))) p ∙ (ap (put_blocks (names_of_rules R) k.known es) (sym (head_reached false h)) ∙ k.lists);
    knows = λ q w.
        k.knows q (ap (λ z. is_listed q (wanted c z)) (head_reached false h) ∙ w)
        ∙ (either_none (look_up q (numbered (block_names bs) is))
        ∙ (ap (λ t. either (look_up q (numbered (block_names bs) is)) (cond t (Some n) None)) (sym (apart q b.name (wanted c (reached c (drop (i + 1) bs))) w (sym h)))
        ∙ (sym (known_more q (numbered (block_names bs) is) ((b.name, n) ∷ [])) ∙ ap (look_up q) (sym (ap (numbered (block_names bs)) m ∙ numbers_more is n k.counts)))));
    faults = sym (head_faults false h) ∙ k.faults;
  }

  -- a fault of a reached block is the first
  pub reached_stops : (es : List EntryTree) (is : List ℕ) (f : CompileFault) → Keeps R c bs i es is → Reached true
      → Tells f (first_of (name_fault R (take i (block_names bs)) (b.name ∷ block_names (drop (i + 1) bs)) b.name) (names_in b.stmt)) → Tells f (faults_behind R c [] bs)
  reached_stops es is f k h t = subst (Tells f) (sym (head_faults true h) ∙ k.faults) (tells_first f _ (faults_behind R c (take (i + 1) (block_names bs)) (drop (i + 1) bs)) t)

  -- ---- the block at its site

  module _ (s : Site) (is : List ℕ) (rules : rules_of s ≡ R) (names : s.names.now ≡ block_names bs) (numbers : s.numbers.now ≡ is) (block : s.block.now ≡ b.name) where
    site_put : (es : List EntryTree) → put_at s b.stmt es ≡ put (names_of_rules R) (numbered (block_names bs) is) es b.stmt
    site_put es = ap (λ r. put (names_of_rules r) (numbered s.names.now s.numbers.now) es b.stmt) rules ∙ ap₂ (λ ns js. put (names_of_rules R) (numbered ns js) es b.stmt) names numbers

    site_same : length is ≡ i → (xs : List (List ℕ × Bool)) → site_faults s xs ≡ first_of (name_fault R (take i (block_names bs)) (b.name ∷ block_names (drop (i + 1) bs)) b.name) xs
    site_same h xs =
        ap₂ (λ r z. first_of (name_fault r (take (length s.numbers.now) s.names.now) (drop (length s.numbers.now) s.names.now) z) xs) rules block
        ∙ (ap₂ (λ js ns. first_of (name_fault R (take (length js) ns) (drop (length js) ns) b.name) xs) numbers names
        ∙ (ap (λ k. first_of (name_fault R (take k (block_names bs)) (drop k (block_names bs)) b.name) xs) h
        ∙ ap (λ z. first_of (name_fault R (take i (block_names bs)) z b.name) xs) names_left))

    pub keeps_block : (t : Bool) (old new : List Entry) (next : List ℕ) (n : ℕ) → Reached t → Keeps R c bs i (map entry_tree old) is → BlockPut t s b.stmt old new n → next ≡ is ++ n ∷ [] → Keeps R c bs (i + 1) (map entry_tree new) next
    keeps_block true old new next n h k p m = keeps_reached (map entry_tree old) (map entry_tree new) is next n k h (p.0 ∙ site_put (map entry_tree old)) (sym (site_same k.counts (names_in b.stmt)) ∙ p.1) m
    keeps_block false old new next n h k p m = keeps_other (map entry_tree old) (map entry_tree new) is next n k h p m

    pub block_stops : (t : Bool) (es : List EntryTree) (f : CompileFault) → Reached t → Keeps R c bs i es is → (t ≡ true) × Tells f (site_faults s (names_in b.stmt)) → Tells f (faults_behind R c [] bs)
    block_stops true es f h k p = reached_stops es is f k h (subst (Tells f) (site_same k.counts (names_in b.stmt)) p.1)
    block_stops false es f h k p = absurd (impossible p.0)
      where
        impossible : false ≡ true → ⊥
        impossible q = absurd (cc)

-- ---- all blocks

pub keeps_last : (R : List RuleTree) (c : List ℕ) (bs : List BlockTree) (i : ℕ) (es : List EntryTree) (is : List ℕ) → Keeps R c bs i es is → length bs ≤ i
    → ((es, or_else (look_up c (numbered (block_names bs) is)) 0) ≡ listing (names_of_rules R) c bs) × (faults_behind R c [] bs ≡ None)
keeps_last R c bs i es is k l =
    let none = drop_all i bs l in (
      ap (λ o. (es, or_else o 0)) (sym (k.knows c (or_left (bytes_eq c c) _ (same_name_itself c))))
          ∙ ap (λ (y : List EntryTree × List (List ℕ × ℕ)). (y.0, or_else (look_up c y.1) 0)) (ap (λ z. put_blocks (names_of_rules R) k.known es (reached c z)) (sym none) ∙ k.lists),
      sym k.faults ∙ ap (faults_behind R c (take i (block_names bs))) none,
    )

pub marks_length : (c : List ℕ) (bs : List BlockTree) → length (marks c bs) ≡ length bs
marks_length c [] = refl
marks_length c (b ∷ bs) = ap suc (marks_length c bs)

pub mark_at : (c : List ℕ) (bs : List BlockTree) (i : ℕ) (b : BlockTree) (d : Bool) → i < length bs → b ≡ get_or bs i b → get_or (marks c bs) i d ≡ is_listed b.name (wanted c (reached c (drop (i + 1) bs)))
mark_at c [] i b d l e = absurd (omega (arith, l))
mark_at c (a ∷ bs) zero b d l e = ap (λ (z : BlockTree). is_listed z.name (wanted c (reached c bs))) (sym e)
mark_at c (a ∷ bs) (suc i) b d l e =
    let q : suc (i + 1) ≡ suc i + 1 = omega arith in
    mark_at c bs i b d (omega (arith, l)) e ∙ ap (λ j. is_listed b.name (wanted c (reached c (drop j (a ∷ bs))))) q
