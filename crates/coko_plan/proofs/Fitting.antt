-- The listing of a block without a fault is a plan for the table.
use Rattle.std.proofs.Common.{◌≡◌, ℕ, Bool, true, false, not, cond, ◌||◌, ◌&&◌, refl, sym, ap, ap₂, ◌∙◌, List, [], ◌∷◌, ◌++◌, Option, Some, None, position, ◌⊎◌, inl, inr}
use Rattle.std.specs.Prelude.{slice_get}
use Rattle.std.specs.List.{flat_map}
use Rattle.std.specs.Str.{bytes_eq}
use Rattle.kola_core.specs.NameLists.{is_listed}
use Rattle.kola_values.specs.Databases.{look_up}
use Rattle.kola_values.specs.Sets.{Each}
use Rattle.kola_term.specs.Terms.{TermTree}
use Rattle.kola_term.proofs.Inversions.{same_name-equal, then_some}
use Rattle.kola_term.proofs.Introductions.{same_name_itself}
use Rattle.kola_rule.specs.Rules.{RuleTree}
use Rattle.coko_block.specs.Statements.{StmtTree, SFire, SSkip, SFail, SSeq, SThen, SElse, SBu, STd, SRepeat, SGiven, StmtTrees, NoStmts, MoreStmts, ArmTrees, NoArms, MoreArms, BlockTree}
use Rattle.coko_block.specs.WellFormed.{block_names, LeadsToVariable, ArmsLead, AllLead, LeadIn, BlocksOk}
use Rattle.coko_plan.specs.Entries.{EntryTree, EFire, ESkip, EFail, ESeq, EThen, EElse, EBu, ETd, ERepeat, EGiven}
use Rattle.coko_plan.specs.Variables.{can_fire}
use Rattle.coko_plan.specs.Plans.{Fires, EntryFor}
use Rattle.coko_plan.specs.Naming.{names_in, names_among, names_in_arms, forward, uses, wanted, reached}
use Rattle.coko_plan.specs.Listing.{or_else, place_of, earlier, wholes, Listed, with_entry, put_name, put, put_left, put_more, put_right, put_rest, put_arms, put_blocks, listing}
use Rattle.coko_plan.specs.Faults.{Fault, UnknownBlock, first, first_of, names_of_rules, rule_named, rule_fault, name_fault, block_fault, faults_behind, fault_of}
use Rattle.coko_plan.specs.Compiling.{IsPlanOf, PlanOrFault}
use Rattle.coko_plan.proofs.Covering.{any_append, fires_covers}
use Rattle.coko_plan.proofs.Standing.{both, found_stands, blocks_kept}

-- ---- lists

each_left : {A : Type 0} (P : A → Type 0) (xs ys : List A) → Each P (xs ++ ys) → Each P xs
each_left P [] ys h = tt
each_left P (x ∷ xs) ys h = (h.0, each_left P xs ys h.1)

each_right : {A : Type 0} (P : A → Type 0) (xs ys : List A) → Each P (xs ++ ys) → Each P ys
each_right P [] ys h = h
each_right P (x ∷ xs) ys h = each_right P xs ys h.1

each_more : {A : Type 0} (P : A → Type 0) (xs : List A) (x : A) → Each P xs → P x → Each P (xs ++ x ∷ [])
each_more P [] x h p = (p, tt)
each_more P (y ∷ xs) x h p = (h.0, each_more P xs x h.1 p)

-- ---- the entries of one statement

-- a name is an earlier block's, or the rule at its place may fire
abbrev NameFits : List RuleTree → List (List ℕ × ℕ) → List ℕ × Bool → Type 0
NameFits R ks x = earlier ks x.0 x.1 ≡ None → Fires R (place_of (names_of_rules R) x.0) x.1

module _ (R : List RuleTree) (ks : List (List ℕ × ℕ)) where
  abbrev All : List EntryTree → Type 0
  All es = Each (EntryFor R) es

  abbrev Names : List (List ℕ × Bool) → Type 0
  Names xs = Each (NameFits R ks) xs

  named : (es : List EntryTree) (o : Option ℕ) (r : ℕ) (v : Bool) → All es → (o ≡ None → Fires R r v) → All (put_name es o r v).0
  named es (Some i) r v h f = h
  named es None r v h f = each_more (EntryFor R) es (EFire r v) h (f refl)

  arms_lead : (p : TermTree) (es : List EntryTree) (as' : ArmTrees) → LeadIn p as' → Each (λ (a : List ℕ × ℕ). LeadsToVariable p a.0) (put_arms (names_of_rules R) ks es as').1
  arms_lead p es NoArms h = tt
  arms_lead p es (MoreArms q s as') h = (h.0, arms_lead p (put (names_of_rules R) ks es s).0 as' h.2)

  mutual
    fits : (es : List EntryTree) (s : StmtTree) → All es → Names (names_in s) → ArmsLead s → All (put (names_of_rules R) ks es s).0
    fits es (SFire n v) h f l = named es (earlier ks n v) (place_of (names_of_rules R) n) v h f.0
    fits es SSkip h f l = each_more (EntryFor R) es ESkip h tt
    fits es SFail h f l = each_more (EntryFor R) es EFail h tt
    fits es (SSeq ss) h f l = fits_left ESeq (λ i j. tt) es ss h f l
    fits es (SThen ss) h f l = fits_right es ss h f l
    fits es (SElse ss) h f l = fits_left EElse (λ i j. tt) es ss h f l
    fits es (SBu s) h f l = each_more (EntryFor R) (put (names_of_rules R) ks es s).0 (EBu (put (names_of_rules R) ks es s).1) (fits es s h f l) tt
    fits es (STd s) h f l = each_more (EntryFor R) (put (names_of_rules R) ks es s).0 (ETd (put (names_of_rules R) ks es s).1) (fits es s h f l) tt
    fits es (SRepeat s) h f l = each_more (EntryFor R) (put (names_of_rules R) ks es s).0 (ERepeat (put (names_of_rules R) ks es s).1) (fits es s h f l) tt
    fits es (SGiven p as') h f l = each_more (EntryFor R) (put_arms (names_of_rules R) ks es as').0 (EGiven p (put_arms (names_of_rules R) ks es as').1) (fits_arms p es as' h f l) (arms_lead p es as' l)

    fits_left : (e : ℕ → ℕ → EntryTree) → ((i j : ℕ) → EntryFor R (e i j)) → (es : List EntryTree) (ss : StmtTrees) → All es → Names (names_among ss) → AllLead ss → All (put_left e (names_of_rules R) ks es ss).0
    fits_left e p es NoStmts h f l = each_more (EntryFor R) es ESkip h tt
    fits_left e p es (MoreStmts s ss) h f l =
        fits_more e p (put (names_of_rules R) ks es s) ss (fits es s h (each_left (NameFits R ks) (names_in s) (names_among ss) f) l.0) (each_right (NameFits R ks) (names_in s) (names_among ss) f) l.1

    fits_more : (e : ℕ → ℕ → EntryTree) → ((i j : ℕ) → EntryFor R (e i j)) → (x : Listed) (ss : StmtTrees) → All x.0 → Names (names_among ss) → AllLead ss → All (put_more e (names_of_rules R) ks x ss).0
    fits_more e p x NoStmts h f l = h
    fits_more e p x (MoreStmts s ss) h f l =
        let y = put (names_of_rules R) ks x.0 s in
        fits_more e p (with_entry y.0 (e x.1 y.1)) ss (each_more (EntryFor R) y.0 (e x.1 y.1) (fits x.0 s h (each_left (NameFits R ks) (names_in s) (names_among ss) f) l.0) (p x.1 y.1)) (each_right (NameFits R ks) (names_in s) (names_among ss) f) l.1

    fits_right : (es : List EntryTree) (ss : StmtTrees) → All es → Names (names_among ss) → AllLead ss → All (put_right (names_of_rules R) ks es ss).0
    fits_right es NoStmts h f l = each_more (EntryFor R) es ESkip h tt
    fits_right es (MoreStmts s ss) h f l =
        fits_rest (put (names_of_rules R) ks es s) ss (fits es s h (each_left (NameFits R ks) (names_in s) (names_among ss) f) l.0) (each_right (NameFits R ks) (names_in s) (names_among ss) f) l.1

    fits_rest : (x : Listed) (ss : StmtTrees) → All x.0 → Names (names_among ss) → AllLead ss → All (put_rest (names_of_rules R) ks x ss).0
    fits_rest x NoStmts h f l = h
    fits_rest x (MoreStmts s ss) h f l =
        let y = put_rest (names_of_rules R) ks (put (names_of_rules R) ks x.0 s) ss in
        each_more (EntryFor R) y.0 (EThen x.1 y.1) (fits_rest (put (names_of_rules R) ks x.0 s) ss (fits x.0 s h (each_left (NameFits R ks) (names_in s) (names_among ss) f) l.0) (each_right (NameFits R ks) (names_in s) (names_among ss) f) l.1) tt

    fits_arms : (p : TermTree) (es : List EntryTree) (as' : ArmTrees) → All es → Names (names_in_arms as') → LeadIn p as' → All (put_arms (names_of_rules R) ks es as').0
    fits_arms p es NoArms h f l = h
    fits_arms p es (MoreArms q s as') h f l =
        fits_arms p (put (names_of_rules R) ks es s).0 as' (fits es s h (each_left (NameFits R ks) (names_in s) (names_in_arms as') f) l.1) (each_right (NameFits R ks) (names_in s) (names_in_arms as') f) l.2

-- ---- names without a fault

pub first_none : (o p : Option Fault) → first o p ≡ None → (o ≡ None) × (p ≡ None)
first_none None p h = (refl, h)
first_none (Some f) p h = absurd (cc)

fires_where : (c : Bool) (f : Fault) → cond c None (Some f) ≡ None → c ≡ true
fires_where true f h = refl
fires_where false f h = absurd (cc)

rule_ok : (onwards : List (List ℕ)) (b n : List ℕ) (v : Bool) (o : Option RuleTree) → rule_fault onwards b n v o ≡ None → (r : RuleTree) × (o ≡ Some r) × (can_fire r v ≡ true)
rule_ok onwards b n v (Some r) h = (r, refl, fires_where (can_fire r v) _ h)
rule_ok onwards b n v None h = absurd (cc)

name_ok : (R : List RuleTree) (before onwards : List (List ℕ)) (b n : List ℕ) (v : Bool) → name_fault R before onwards b (n, v) ≡ None → (not v && is_listed n before) ≡ false → Fires R (place_of (names_of_rules R) n) v
name_ok R before onwards b n v h e =
    let o = rule_ok onwards b n v (rule_named R n) (sym (ap (λ c. cond c None (rule_fault onwards b n v (rule_named R n))) e) ∙ h) in
    let p = then_some (λ k. slice_get R k) (position (bytes_eq n) (names_of_rules R)) o.0 o.1 in
    (o.0, ap (λ k. slice_get R (or_else k 0)) p.1 ∙ p.2, fires_covers o.0 v o.2)

-- where the names that blocks may have are known, or are not before
abbrev Behind : List (List ℕ × ℕ) → List (List ℕ) → List ℕ → Type 0
Behind ks before n = look_up n ks ≡ None → is_listed n before ≡ false

names_ok : (R : List RuleTree) (ks : List (List ℕ × ℕ)) (before onwards : List (List ℕ)) (b : List ℕ) (xs : List (List ℕ × Bool)) → first_of (name_fault R before onwards b) xs ≡ None
    → ((n : List ℕ) → is_listed n (forward xs) ≡ true → Behind ks before n) → Each (NameFits R ks) xs
names_ok R ks before onwards b [] h w = tt
names_ok R ks before onwards b ((n, true) ∷ xs) h w =
    let k = first_none (name_fault R before onwards b (n, true)) (first_of (name_fault R before onwards b) xs) h in
    (λ e. name_ok R before onwards b n true k.0 refl, names_ok R ks before onwards b xs k.1 w)
names_ok R ks before onwards b ((n, false) ∷ xs) h w =
    let k = first_none (name_fault R before onwards b (n, false)) (first_of (name_fault R before onwards b) xs) h in (
      λ e. name_ok R before onwards b n false k.0 (w n (ap (λ c. c || is_listed n (forward xs)) (same_name_itself n)) e),
      names_ok R ks before onwards b xs k.1 (λ m l. w m (later (bytes_eq m n) (is_listed m (forward xs)) l)),
    )
  where
    later : (a c : Bool) → c ≡ true → (a || c) ≡ true
    later true c e = refl
    later false c e = e

-- ---- what is wanted and known

or_right : (a b : Bool) → b ≡ true → (a || b) ≡ true
or_right true b e = refl
or_right false b e = e

or_middle : (a b c : Bool) → b ≡ true → (a || (b || c)) ≡ true
or_middle true b c e = refl
or_middle false b c e = ap (λ z. z || c) e

or_outer : (a b c : Bool) → (a || c) ≡ true → (a || (b || c)) ≡ true
or_outer true b c e = refl
or_outer false b c e = or_right b c e

pub wanted_parts : (n c : List ℕ) (b : BlockTree) (bs : List BlockTree) → is_listed n (wanted c (b ∷ bs)) ≡ (bytes_eq n c || (is_listed n (uses b) || is_listed n (flat_map uses bs)))
wanted_parts n c b bs = ap (λ z. bytes_eq n c || z) (any_append (bytes_eq n) (uses b) (flat_map uses bs))

pub wanted_on : (n c : List ℕ) (b : BlockTree) (bs : List BlockTree) → is_listed n (wanted c bs) ≡ true → is_listed n (wanted c (b ∷ bs)) ≡ true
wanted_on n c b bs h = wanted_parts n c b bs ∙ or_outer (bytes_eq n c) (is_listed n (uses b)) (is_listed n (flat_map uses bs)) h

pub used_wanted : (n c : List ℕ) (b : BlockTree) (bs : List BlockTree) → is_listed n (uses b) ≡ true → is_listed n (wanted c (b ∷ bs)) ≡ true
used_wanted n c b bs h = wanted_parts n c b bs ∙ or_middle (bytes_eq n c) (is_listed n (uses b)) (is_listed n (flat_map uses bs)) h

-- a wanted name is not one that is not wanted
pub apart : (n m : List ℕ) (ns : List (List ℕ)) → is_listed n ns ≡ true → is_listed m ns ≡ false → bytes_eq n m ≡ false
apart n m ns h k = decide (bytes_eq n m) refl
  where
    decide : (b : Bool) → bytes_eq n m ≡ b → b ≡ false
    decide true e = absurd (clash (is_listed m ns) (ap (λ z. is_listed z ns) (sym (same_name-equal n m e)) ∙ h) k)
      where
        clash : (b : Bool) → b ≡ true → b ≡ false → ⊥
        clash true i j = absurd (cc)
        clash false i j = absurd (cc)
    decide false e = refl

known_none : {A : Type 0} (n m : List ℕ) (a : A) (ks : List (List ℕ × A)) → look_up n (ks ++ (m, a) ∷ []) ≡ None → (look_up n ks ≡ None) × (bytes_eq n m ≡ false)
known_none n m a [] h = (refl, decide (bytes_eq n m) h)
  where
    decide : (b : Bool) → cond b (Some a) None ≡ None → b ≡ false
    decide true e = absurd (cc)
    decide false e = refl
known_none {A} n m a (k ∷ ks) h = decide (bytes_eq n k.0) h (known_none n m a ks)
  where
    decide : (b : Bool) → cond b (Some k.1) (look_up n (ks ++ (m, a) ∷ [])) ≡ None → (look_up n (ks ++ (m, a) ∷ []) ≡ None → (look_up n ks ≡ None) × (bytes_eq n m ≡ false)) → (cond b (Some k.1) (look_up n ks) ≡ None) × (bytes_eq n m ≡ false)
    decide true e f = absurd (cc)
    decide false e f = f e

not_before : (n m : List ℕ) (before : List (List ℕ)) → is_listed n before ≡ false → bytes_eq n m ≡ false → is_listed n (before ++ m ∷ []) ≡ false
not_before n m before h k = any_append (bytes_eq n) before (m ∷ []) ∙ ap₂ (λ a b. a || (b || false)) h k

-- ---- the entries of the reached blocks

module _ (R : List RuleTree) (c : List ℕ) where
  blocks_fit : (ks : List (List ℕ × ℕ)) (before : List (List ℕ)) (es : List EntryTree) (bs : List BlockTree) → faults_behind R c before bs ≡ None → Each (λ (b : BlockTree). ArmsLead b.stmt) bs
      → ((n : List ℕ) → is_listed n (wanted c (reached c bs)) ≡ true → Behind ks before n) → Each (EntryFor R) es → Each (EntryFor R) (put_blocks (names_of_rules R) ks es (reached c bs)).0
  blocks_fit ks before es [] h l w f = f
  blocks_fit ks before es (b ∷ bs) h l w f =
      step (λ ks before es. blocks_fit ks before es bs) (is_listed b.name (wanted c (reached c bs))) refl h w
    where
      Rest : Type 0
      Rest = (ks : List (List ℕ × ℕ)) (before : List (List ℕ)) (es : List EntryTree) → faults_behind R c before bs ≡ None → Each (λ (b : BlockTree). ArmsLead b.stmt) bs
          → ((n : List ℕ) → is_listed n (wanted c (reached c bs)) ≡ true → Behind ks before n) → Each (EntryFor R) es → Each (EntryFor R) (put_blocks (names_of_rules R) ks es (reached c bs)).0

      step : Rest → (t : Bool) → is_listed b.name (wanted c (reached c bs)) ≡ t → first (cond t (block_fault R before b bs) None) (faults_behind R c (before ++ b.name ∷ []) bs) ≡ None
          → ((n : List ℕ) → is_listed n (wanted c (cond t (b ∷ reached c bs) (reached c bs))) ≡ true → Behind ks before n) → Each (EntryFor R) (put_blocks (names_of_rules R) ks es (cond t (b ∷ reached c bs) (reached c bs))).0
      step go true e h w =
          let k = first_none (block_fault R before b bs) (faults_behind R c (before ++ b.name ∷ []) bs) h in
          let x = put (names_of_rules R) ks es b.stmt in
          let ok = names_ok R ks before (b.name ∷ block_names bs) b.name (names_in b.stmt) k.0 (λ n u. w n (used_wanted n c b (reached c bs) u)) in
          go (ks ++ (b.name, x.1) ∷ []) (before ++ b.name ∷ []) x.0 k.1 l.1
          (λ n u m. let i = known_none n b.name x.1 ks m in not_before n b.name before (w n (wanted_on n c b (reached c bs) u) i.0) i.1)
          (fits R ks es b.stmt f ok l.0)
      step go false e h w =
          go ks (before ++ b.name ∷ []) es h l.1
          (λ n u m. not_before n b.name before (w n u m) (apart n b.name (wanted c (reached c bs)) u e))
          f

-- ---- the chosen block is reached, and known in the end

flip : (a b : List ℕ) → bytes_eq a b ≡ true → bytes_eq b a ≡ true
flip a b e = ap (λ z. bytes_eq z a) (sym (same_name-equal a b e)) ∙ same_name_itself a

chosen_reached : (c : List ℕ) (bs : List BlockTree) → is_listed c (block_names bs) ≡ true → is_listed c (block_names (reached c bs)) ≡ true
chosen_reached c [] h = h
chosen_reached c (b ∷ bs) h = step (bytes_eq c b.name) refl h (chosen_reached c bs) (is_listed b.name (wanted c (reached c bs))) refl
  where
    Goal : Bool → Type 0
    Goal t = is_listed c (block_names (cond t (b ∷ reached c bs) (reached c bs))) ≡ true

    on : (t : Bool) → is_listed c (block_names (reached c bs)) ≡ true → Goal t
    on true k = or_right (bytes_eq c b.name) (is_listed c (block_names (reached c bs))) k
    on false k = k

    here : (t : Bool) → bytes_eq c b.name ≡ true → is_listed b.name (wanted c (reached c bs)) ≡ t → Goal t
    here true k e = ap (λ z. z || is_listed c (block_names (reached c bs))) k
    here false k e = absurd (clash (sym e ∙ ap (λ z. z || is_listed b.name (flat_map uses (reached c bs))) (flip c b.name k)))
      where
        clash : false ≡ true → ⊥
        clash k = absurd (cc)

    step : (s : Bool) → bytes_eq c b.name ≡ s → (s || is_listed c (block_names bs)) ≡ true → (is_listed c (block_names bs) ≡ true → is_listed c (block_names (reached c bs)) ≡ true) → (t : Bool) → is_listed b.name (wanted c (reached c bs)) ≡ t → Goal t
    step true k h f t e = here t k e
    step false k h f t e = on t (f h)

abbrev IsKnown : List ℕ → List (List ℕ × ℕ) → Type 0
IsKnown c ks = (i : ℕ) × (look_up c ks ≡ Some i)

still_known : (c m : List ℕ) (j : ℕ) (ks : List (List ℕ × ℕ)) → IsKnown c ks → IsKnown c (ks ++ (m, j) ∷ [])
still_known c m j [] h = absurd (cc)
still_known c m j (k ∷ ks) h = step (bytes_eq c k.0) h.0 h.1 (still_known c m j ks)
  where
    step : (b : Bool) (i : ℕ) → cond b (Some k.1) (look_up c ks) ≡ Some i → (IsKnown c ks → IsKnown c (ks ++ (m, j) ∷ [])) → (i : ℕ) × (cond b (Some k.1) (look_up c (ks ++ (m, j) ∷ [])) ≡ Some i)
    step true i e f = (k.1, refl)
    step false i e f = f (i, e)

now_known : (c m : List ℕ) (j : ℕ) (ks : List (List ℕ × ℕ)) → bytes_eq c m ≡ true → IsKnown c (ks ++ (m, j) ∷ [])
now_known c m j [] e = (j, ap (λ b. cond b (Some j) None) e)
now_known c m j (k ∷ ks) e = step (bytes_eq c k.0) (now_known c m j ks e)
  where
    step : (b : Bool) → IsKnown c (ks ++ (m, j) ∷ []) → (i : ℕ) × (cond b (Some k.1) (look_up c (ks ++ (m, j) ∷ [])) ≡ Some i)
    step true f = (k.1, refl)
    step false f = f

known_on : (rules : List (List ℕ)) (c : List ℕ) (ks : List (List ℕ × ℕ)) (es : List EntryTree) (bs : List BlockTree) → IsKnown c ks → IsKnown c (put_blocks rules ks es bs).1
known_on rules c ks es [] h = h
known_on rules c ks es (b ∷ bs) h = known_on rules c (ks ++ (b.name, (put rules ks es b.stmt).1) ∷ []) (put rules ks es b.stmt).0 bs (still_known c b.name (put rules ks es b.stmt).1 ks h)

known_in_the_end : (rules : List (List ℕ)) (c : List ℕ) (ks : List (List ℕ × ℕ)) (es : List EntryTree) (bs : List BlockTree) → is_listed c (block_names bs) ≡ true → IsKnown c (put_blocks rules ks es bs).1
known_in_the_end rules c ks es [] h = absurd (cc)
known_in_the_end rules c ks es (b ∷ bs) h = step (bytes_eq c b.name) refl h (known_in_the_end rules c (ks ++ (b.name, (put rules ks es b.stmt).1) ∷ []) (put rules ks es b.stmt).0 bs)
  where
    step : (s : Bool) → bytes_eq c b.name ≡ s → (s || is_listed c (block_names bs)) ≡ true → (is_listed c (block_names bs) ≡ true → IsKnown c (put_blocks rules ks es (b ∷ bs)).1) → IsKnown c (put_blocks rules ks es (b ∷ bs)).1
    step true e h f = known_on rules c (ks ++ (b.name, (put rules ks es b.stmt).1) ∷ []) (put rules ks es b.stmt).0 bs (now_known c b.name (put rules ks es b.stmt).1 ks e)
    step false e h f = f h

-- ---- the plan

chosen_there : (t : Bool) (o : Option Fault) → cond t o (Some UnknownBlock) ≡ None → (t ≡ true) × (o ≡ None)
chosen_there true o h = (refl, h)
chosen_there false o h = absurd (cc)

pub plan_where_faultless : (R : List RuleTree) (c : List ℕ) (bs : List BlockTree) → BlocksOk bs → fault_of R c bs ≡ None → IsPlanOf R c bs (listing (names_of_rules R) c bs).0 (listing (names_of_rules R) c bs).1
plan_where_faultless R c bs ok h =
    let rules = names_of_rules R in
    let t = chosen_there (is_listed c (block_names bs)) (faults_behind R c [] bs) h in
    let r = put_blocks rules [] [] (reached c bs) in
    let k = blocks_kept rules [] [] [] (reached c bs) tt tt in
    let i = known_in_the_end rules c [] [] (reached c bs) (chosen_reached c bs t.0) in
    let s = found_stands r.0 (look_up c r.1) (look_up c (wholes rules [] (reached c bs))) i.0 (both r.0 r.1 (wholes rules [] (reached c bs)) c k.knows) i.1 in
    record {
      faultless = h;
      listed = refl;
      whole = s.is;
      fits = record { starts = s.there; entries = blocks_fit R c [] [] [] bs t.1 ok.arms (λ n w m. refl) tt };
    }

pub plan_or_fault : PlanOrFault
plan_or_fault R c bs ok = decide (fault_of R c bs) refl
  where
    decide : (o : Option Fault) → fault_of R c bs ≡ o → IsPlanOf R c bs (listing (names_of_rules R) c bs).0 (listing (names_of_rules R) c bs).1 ⊎ ((f : Fault) × (o ≡ Some f))
    decide None e = inl (plan_where_faultless R c bs ok e)
    decide (Some f) e = inr (f, refl)
