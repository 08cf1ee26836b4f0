-- The entries and the arms of a plan, as the machine finds them.
use Rattle.std.proofs.Common.{◌≡◌, ℕ, zero, suc, ◌+◌, ◌≤◌, refl, sym, ap, ◌∙◌, subst, List, [], ◌∷◌, ◌++◌, Option, Some, None, slice_get, length, IfSome, IfNone, arith}
use Rattle.std.specs.Borrow.{Bor}
use Rattle.kola_values.specs.Sets.{Each}
use Rattle.kola_term.proofs.Inversions.{some_same}
use Rattle.kola_rule.specs.Rules.{RuleTree}
use Rattle.coko_plan.specs.Wholes.{WholeTree, WSkip, NoWholes, MoreWholes}
use Rattle.coko_plan.specs.Entries.{EntryTree, EFire, ESkip, EFail, ESeq, EThen, EElse, EBu, ETd, ERepeat, EGiven, pick, made, made_arms, made_all, table}
use Rattle.coko_plan.specs.Plans.{EntryFor, Fires}
use Rattle.coko_plan.specs.Variables.{Covers}
use Rattle.coko_run.specs.Views.{arms_from, arms_of}
use Rattle.coko_run.specs.Fires.{MayFire, arm_list}

longer : {A : Type 0} (xs : List A) (a : A) → length (xs ++ a ∷ []) ≡ suc (length xs)
longer [] a = refl
longer (x ∷ xs) a = ap suc (longer xs a)

table_length : (t : List WholeTree) (es : List EntryTree) → length (made_all t es) ≡ length t + length es
table_length t [] = omega arith
table_length t (a ∷ es) = omega (arith, table_length (t ++ made t a ∷ []) es, longer t (made t a))

past : (t : List WholeTree) (i : ℕ) → length t ≤ i → pick t i ≡ WSkip
past [] i h = refl
past (a ∷ t) zero h = absurd (omega (arith, h))
past (a ∷ t) (suc i) h = past t i (omega (arith, h))

pub pick_past : (es : List EntryTree) (i : ℕ) → length es ≤ i → pick (table es) i ≡ WSkip
pick_past es i h = past (table es) i (omega (arith, h, table_length [] es))

none_from : (k : ℕ) → arms_from k NoWholes ≡ NoWholes
none_from zero = refl
none_from (suc k) = refl

arms_made : (t : List WholeTree) (k : ℕ) (a : EntryTree) → arms_of k (made t a) ≡ arms_from k (made_arms t (arm_list a))
arms_made t k (EGiven p as') = refl
arms_made t k (EFire r v) = sym (none_from k)
arms_made t k ESkip = sym (none_from k)
arms_made t k EFail = sym (none_from k)
arms_made t k (ESeq i j) = sym (none_from k)
arms_made t k (EThen i j) = sym (none_from k)
arms_made t k (EElse i j) = sym (none_from k)
arms_made t k (EBu i) = sym (none_from k)
arms_made t k (ETd i) = sym (none_from k)
arms_made t k (ERepeat i) = sym (none_from k)

arm_from : (t : List WholeTree) (k : ℕ) (xs : List (List ℕ × ℕ)) (a : List ℕ × ℕ) → slice_get xs k ≡ Some a → arms_from k (made_arms t xs) ≡ MoreWholes a.0 (pick t a.1) (arms_from (suc k) (made_arms t xs))
arm_from t k [] a e = absurd (cc)
arm_from t zero (x ∷ xs) a e = ap (λ z. MoreWholes z.0 (pick t z.1) (made_arms t xs)) (some_same x a e)
arm_from t (suc k) (x ∷ xs) a e = arm_from t k xs a e

past_from : (t : List WholeTree) (k : ℕ) (xs : List (List ℕ × ℕ)) → slice_get xs k ≡ None → arms_from k (made_arms t xs) ≡ NoWholes
past_from t k [] e = none_from k
past_from t zero (x ∷ xs) e = absurd (cc)
past_from t (suc k) (x ∷ xs) e = past_from t k xs e

pub arm_is : (t : List WholeTree) (s : WholeTree) (k : ℕ) (b : EntryTree) (xs : List (List ℕ × ℕ)) (a : List ℕ × ℕ) → s ≡ made t b → arm_list b ≡ xs → slice_get xs k ≡ Some a → arms_of k s ≡ MoreWholes a.0 (pick t a.1) (arms_of (k + 1) s)
arm_is t s k b xs a i j h =
    ap (arms_of k) i ∙ (arms_made t k b ∙ (ap (λ z. arms_from k (made_arms t z)) j ∙ (arm_from t k xs a h
    ∙ ap (λ z. MoreWholes a.0 (pick t a.1) z) (ap (λ z. arms_from (suc k) (made_arms t z)) (sym j) ∙ (sym (arms_made t (suc k) b) ∙ (sym (ap (arms_of (suc k)) i) ∙ ap (λ z. arms_of z s) (let one : suc k ≡ k + 1 = omega arith in one)))))))

pub arm_none : (t : List WholeTree) (s : WholeTree) (k : ℕ) (b : EntryTree) (xs : List (List ℕ × ℕ)) → s ≡ made t b → arm_list b ≡ xs → slice_get xs k ≡ None → arms_of k s ≡ NoWholes
arm_none t s k b xs i j h = ap (arms_of k) i ∙ (arms_made t k b ∙ (ap (λ z. arms_from k (made_arms t z)) j ∙ past_from t k xs h))

pub no_list : (t : List WholeTree) (s : WholeTree) (k : ℕ) (b : EntryTree) → s ≡ made t b → arm_list b ≡ [] → arms_of k s ≡ NoWholes
no_list t s k b i j = ap (arms_of k) i ∙ (arms_made t k b ∙ (ap (λ z. arms_from k (made_arms t z)) j ∙ none_from k))

-- the same of what a call answers
pub one_none : (t : List WholeTree) (s : WholeTree) (k : ℕ) (b : EntryTree) (xs : List (List ℕ × ℕ)) (o : Option (Bor (List ℕ × ℕ))) → s ≡ made t b → arm_list b ≡ xs → IfNone o (slice_get xs k ≡ None) → IfNone o (arms_of k s ≡ NoWholes)
one_none t s k b xs (Some a) i j h = tt
one_none t s k b xs None i j h = arm_none t s k b xs i j h

pub one_some : (t : List WholeTree) (s : WholeTree) (k : ℕ) (b : EntryTree) (xs : List (List ℕ × ℕ)) (o : Option (Bor (List ℕ × ℕ))) → s ≡ made t b → arm_list b ≡ xs → IfSome o (λ r. slice_get xs k ≡ Some r.now) → IfSome o (λ r. arms_of k s ≡ MoreWholes r.now.0 (pick t r.now.1) (arms_of (k + 1) s))
one_some t s k b xs (Some a) i j h = arm_is t s k b xs a.now i j h
one_some t s k b xs None i j h = tt

-- ---- which rules may fire

pub each_at : {A : Type 0} (P : A → Type 0) (xs : List A) (n : ℕ) (a : A) → Each P xs → slice_get xs n ≡ Some a → P a
each_at P [] n a h e = absurd (cc)
each_at P (x ∷ xs) zero a h e = subst P (some_same x a e) h.0
each_at P (x ∷ xs) (suc n) a h e = each_at P xs n a h.1 e

pub may_fire : (rules : List RuleTree) (es : List EntryTree) (i n : ℕ) (rev : _) → Each (EntryFor rules) es → slice_get es i ≡ Some (EFire n rev) → MayFire rules n rev
may_fire rules es i n rev h e r k =
    let f : Fires rules n rev = each_at (EntryFor rules) es i (EFire n rev) h e in
    subst (λ z. Covers z rev) (some_same f.0 r (sym f.1 ∙ k)) f.2
