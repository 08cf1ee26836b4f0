-- What is computed is the first of the faults that stand in a schema.
use Rattle.std.proofs.Common.{◌≡◌, ◌⊎◌, inl, inr, ◌≤◌, ◌+◌, ◌*◌, ℕ, nat_lt, nat_le, nat_eq, ◌&&◌, ◌||◌, not, cond, Bool, true, false, List, [], ◌∷◌, ◌++◌, Option, Some, None, fold, refl, sym, ap, subst, ◌∙◌, arith}
use Rattle.std.specs.Str.{bytes_eq}
use Rattle.std.proofs.lemmas.Bool.{ltb-true, ltb-false, eqb-true, eqb-false, leb-true, leb-false}
use Rattle.kola_core.specs.NameLists.{is_listed, with_name}
use Rattle.kola_values.proofs.SameTypes.{name_equal}
use Rattle.kola_load.specs.Names.{is_extent_name}
use Rattle.kola_load.specs.SchemaTree.{Named, TypeAt, AInt, AStr, ABool, ASet, AClass, AttributeAt, ClassAt}
use Rattle.kola_load.specs.SchemaFaults.{mark, Among, starts_with_capital, names, class_names, extents, attributes, Unless, IsNotAllowed, IsTwice, IsUnknown, IsUnknownKey, StandsInClass, Stands, rank, Before, IsFirst}
use Rattle.kola_load.specs.FirstMarks.{goes_before, earlier, unless, first_of, not_allowed, twice_from, twice, unknown_class, unknown_key, unknown_keys, unknown_types, first_in_class, first_mark}
use Rattle.kola_load.specs.declared.schema_fault.Mark.{Mark}
use Rattle.kola_load.specs.declared.schema_fault.NameWhy.{NameWhy}
use Rattle.kola_load.specs.declared.schema_fault.NameWhy.TheVariants.{NotAllowed, TwiceDefined, UnknownClass, UnknownKeyAttribute}

-- ---- the order of marks

rank_small : (y : NameWhy) → rank y ≤ 3
rank_small NotAllowed = omega arith
rank_small TwiceDefined = omega arith
rank_small UnknownClass = omega arith
rank_small UnknownKeyAttribute = omega arith

-- one number that has the order of marks
abbrev weight : Mark → ℕ
weight m = m.at * 4 + rank m.why

before_weight : (m n : Mark) → Before m n → weight m ≤ weight n
before_weight m n (inl h) = omega (arith, h, rank_small m.why)
before_weight m n (inr h) = omega (arith, h.0, h.1)

lt_case : (b : Bool) (m n : Mark) → nat_lt m.at n.at ≡ b → Before m n ⊎ (n.at ≤ m.at)
lt_case true m n e = inl (inl (ltb-true m.at n.at e))
lt_case false m n e = inr (ltb-false m.at n.at e)

weight_before : (m n : Mark) → weight m ≤ weight n → Before m n
weight_before m n h = by (lt_case (nat_lt m.at n.at) m n refl)
  where
    by : Before m n ⊎ (n.at ≤ m.at) → Before m n
    by (inl b) = b
    by (inr k) = let same : m.at ≡ n.at = omega (arith, h, k, rank_small m.why, rank_small n.why) in inr (same, omega (arith, h, same))

goes : (m n : Mark) → goes_before m n ≡ true → weight m ≤ weight n
goes m n e = by (nat_lt m.at n.at) (nat_eq m.at n.at) (nat_le (rank m.why) (rank n.why)) refl refl refl e
  where
    by : (a b c : Bool) → nat_lt m.at n.at ≡ a → nat_eq m.at n.at ≡ b → nat_le (rank m.why) (rank n.why) ≡ c → (a || (b && c)) ≡ true → weight m ≤ weight n
    by true b c i j k e = omega (arith, ltb-true m.at n.at i, rank_small m.why)
    by false true true i j k e = omega (arith, eqb-true m.at n.at j, leb-true (rank m.why) (rank n.why) k)
    by false true false i j k e = absurd cc
    by false false c i j k e = absurd cc

goes_not : (m n : Mark) → goes_before m n ≡ false → weight n ≤ weight m
goes_not m n e = by (nat_lt m.at n.at) (nat_eq m.at n.at) (nat_le (rank m.why) (rank n.why)) refl refl refl e
  where
    by : (a b c : Bool) → nat_lt m.at n.at ≡ a → nat_eq m.at n.at ≡ b → nat_le (rank m.why) (rank n.why) ≡ c → (a || (b && c)) ≡ false → weight n ≤ weight m
    by true b c i j k e = absurd cc
    by false true true i j k e = absurd cc
    by false true false i j k e = omega (arith, eqb-true m.at n.at j, leb-false (rank m.why) (rank n.why) k)
    by false false c i j k e = omega (arith, ltb-false m.at n.at i, eqb-false m.at n.at j, rank_small n.why)

-- ---- the least of those that P says

abbrev pub Least : (Mark → Type 0) → Option Mark → Type 0
Least P (Some m) = P m × ((n : Mark) → P n → weight m ≤ weight n)
Least P None = (n : Mark) → P n → ⊥

least_as : (P Q : Mark → Type 0) → ((m : Mark) → P m → Q m) → ((m : Mark) → Q m → P m) → (o : Option Mark) → Least P o → Least Q o
least_as P Q to from (Some m) h = (to m h.0, λ n q. h.1 n (from n q))
least_as P Q to from None h = λ n q. h n (from n q)

module _ (P Q : Mark → Type 0) where
  none_of : Least P None → Least Q None → (n : Mark) → P n ⊎ Q n → ⊥
  none_of h k n (inl p) = h n p
  none_of h k n (inr q) = k n q

  right_of : (m : Mark) → Least P None → Least Q (Some m) → (n : Mark) → P n ⊎ Q n → weight m ≤ weight n
  right_of m h k n (inl p) = absurd (h n p)
  right_of m h k n (inr q) = k.1 n q

  left_of : (m : Mark) → Least P (Some m) → Least Q None → (n : Mark) → P n ⊎ Q n → weight m ≤ weight n
  left_of m h k n (inl p) = h.1 n p
  left_of m h k n (inr q) = absurd (k n q)

  both_of : (l m o : Mark) → Least P (Some m) → Least Q (Some o) → weight l ≤ weight m → weight l ≤ weight o → (n : Mark) → P n ⊎ Q n → weight l ≤ weight n
  both_of l m o h k a b n (inl p) = let c = h.1 n p in omega (arith, a, c)
  both_of l m o h k a b n (inr q) = let c = k.1 n q in omega (arith, b, c)

  chosen : (m o : Mark) (b : Bool) → goes_before m o ≡ b → Least P (Some m) → Least Q (Some o) → Least (λ n. P n ⊎ Q n) (cond b (Some m) (Some o))
  chosen m o true e h k = (inl h.0, both_of m m o h k (omega arith) (goes m o e))
  chosen m o false e h k = (inr k.0, both_of o m o h k (goes_not m o e) (omega arith))

  pub earlier_least : (a b : Option Mark) → Least P a → Least Q b → Least (λ n. P n ⊎ Q n) (earlier a b)
  earlier_least None None h k = none_of h k
  earlier_least None (Some m) h k = (inr k.0, right_of m h k)
  earlier_least (Some m) None h k = (inl h.0, left_of m h k)
  earlier_least (Some m) (Some o) h k = chosen m o (goes_before m o) refl h k

unless_at : (b : Bool) (why : NameWhy) (n : Named) → Least (Unless b why n) (unless b why n)
unless_at true why n = λ m h. absurd (let e = h.0 in cc)
unless_at false why n = ((refl, refl), λ m h. subst (λ z. weight (mark why n) ≤ weight z) (sym h.1) (omega arith))

-- ---- along a list

module _ {A : Type 0} (F : A → Mark → Type 0) (f : A → Option Mark) (each : (x : A) → Least (F x) (f x)) where
  past_to : (P : Mark → Type 0) (x : A) (xs : List A) (m : Mark) → (P m ⊎ F x m) ⊎ Among (λ y. F y m) xs → P m ⊎ Among (λ y. F y m) (x ∷ xs)
  past_to P x xs m (inl (inl p)) = inl p
  past_to P x xs m (inl (inr q)) = inr (inl q)
  past_to P x xs m (inr a) = inr (inr a)

  past_from : (P : Mark → Type 0) (x : A) (xs : List A) (m : Mark) → P m ⊎ Among (λ y. F y m) (x ∷ xs) → (P m ⊎ F x m) ⊎ Among (λ y. F y m) xs
  past_from P x xs m (inl p) = inl (inl p)
  past_from P x xs m (inr (inl q)) = inl (inr q)
  past_from P x xs m (inr (inr a)) = inr a

  no_more : (P : Mark → Type 0) (m : Mark) → P m ⊎ ⊥ → P m
  no_more P m (inl p) = p
  no_more P m (inr a) = absurd a

  fold_least : (xs : List A) (P : Mark → Type 0) (best : Option Mark) → Least P best → Least (λ m. P m ⊎ Among (λ x. F x m) xs) (fold (λ best x. earlier best (f x)) best xs)
  fold_least [] P best h = least_as P (λ m. P m ⊎ ⊥) (λ m p. inl p) (no_more P) best h
  fold_least (x ∷ xs) P best h =
      least_as (λ m. (P m ⊎ F x m) ⊎ Among (λ y. F y m) xs) (λ m. P m ⊎ Among (λ y. F y m) (x ∷ xs)) (past_to P x xs) (past_from P x xs) (fold (λ best x. earlier best (f x)) (earlier best (f x)) xs)
      (fold_least xs (λ m. P m ⊎ F x m) (earlier best (f x)) (earlier_least P (F x) best (f x) h (each x)))

  only : (xs : List A) (m : Mark) → ⊥ ⊎ Among (λ x. F x m) xs → Among (λ x. F x m) xs
  only xs m (inl p) = absurd p
  only xs m (inr a) = a

  pub first_least : (xs : List A) → Least (λ m. Among (λ x. F x m) xs) (first_of f xs)
  first_least xs = least_as (λ m. ⊥ ⊎ Among (λ x. F x m) xs) (λ m. Among (λ x. F x m) xs) (only xs) (λ m a. inr a) (first_of f xs) (fold_least xs (λ m. ⊥) None (λ n e. e))

-- ---- names that are seen before

-- two lists have the same names
abbrev pub Agree : List (List ℕ) → List (List ℕ) → Type 0
Agree s t = (m : List ℕ) → is_listed m s ≡ is_listed m t

pub listed_end : (m n : List ℕ) (s : List (List ℕ)) → is_listed m (s ++ n ∷ []) ≡ (is_listed m s || bytes_eq m n)
listed_end m n [] = or_false (bytes_eq m n)
  where
    or_false : (b : Bool) → (b || false) ≡ b
    or_false true = refl
    or_false false = refl
listed_end m n (a ∷ s) = ap (λ (b : Bool). bytes_eq m a || b) (listed_end m n s) ∙ assoc (bytes_eq m a) (is_listed m s) (bytes_eq m n)
  where
    assoc : (a b c : Bool) → (a || (b || c)) ≡ ((a || b) || c)
    assoc true b c = refl
    assoc false b c = refl

-- a name that is there adds nothing
listed_again : (m n : List ℕ) (s : List (List ℕ)) → is_listed n s ≡ true → is_listed m s ≡ (is_listed m s || bytes_eq m n)
listed_again m n s h = by (is_listed m s) (bytes_eq m n) refl refl
  where
    by : (a b : Bool) → is_listed m s ≡ a → bytes_eq m n ≡ b → a ≡ (a || b)
    by true b i j = refl
    by false true i j = absurd (let same = name_equal m n j in let k : is_listed m s ≡ true = ap (λ z. is_listed z s) same ∙ h in cc)
    by false false i j = refl

pub added : (b : Bool) (n : List ℕ) (s t : List (List ℕ)) → Agree s t → is_listed n s ≡ b → Agree (cond b s (s ++ n ∷ [])) (t ++ n ∷ [])
added true n s t h e m = listed_again m n s e ∙ ap (λ (b : Bool). b || bytes_eq m n) (h m) ∙ sym (listed_end m n t)
added false n s t h e m = listed_end m n s ∙ ap (λ (b : Bool). b || bytes_eq m n) (h m) ∙ sym (listed_end m n t)

-- the name is seen before
abbrev Seen : List (List ℕ) → Named → Mark → Type 0
Seen t n m = (is_listed n.name t ≡ true) × (m ≡ mark TwiceDefined n)

seen_least : (b : Bool) (n : Named) (t : List (List ℕ)) → is_listed n.name t ≡ b → Least (Seen t n) (unless (not b) TwiceDefined n)
seen_least true n t e = ((e, refl), λ m h. subst (λ z. weight (mark TwiceDefined n) ≤ weight z) (sym h.1) (omega arith))
seen_least false n t e = λ m h. absurd (let i = h.0 in cc)

twice_past_to : (P : Mark → Type 0) (t : List (List ℕ)) (n : Named) (ns : List Named) (m : Mark) → (P m ⊎ Seen t n m) ⊎ IsTwice (t ++ n.name ∷ []) ns m → P m ⊎ IsTwice t (n ∷ ns) m
twice_past_to P t n ns m (inl (inl p)) = inl p
twice_past_to P t n ns m (inl (inr q)) = inr (inl q)
twice_past_to P t n ns m (inr a) = inr (inr a)

twice_past_from : (P : Mark → Type 0) (t : List (List ℕ)) (n : Named) (ns : List Named) (m : Mark) → P m ⊎ IsTwice t (n ∷ ns) m → (P m ⊎ Seen t n m) ⊎ IsTwice (t ++ n.name ∷ []) ns m
twice_past_from P t n ns m (inl p) = inl (inl p)
twice_past_from P t n ns m (inr (inl q)) = inl (inr q)
twice_past_from P t n ns m (inr (inr a)) = inr a

nothing_more : (P : Mark → Type 0) (m : Mark) → P m ⊎ ⊥ → P m
nothing_more P m (inl p) = p
nothing_more P m (inr a) = absurd a

twice_from_least : (ns : List Named) (s t : List (List ℕ)) → Agree s t → (P : Mark → Type 0) (best : Option Mark) → Least P best → Least (λ m. P m ⊎ IsTwice t ns m) (twice_from s best ns)
twice_from_least [] s t h P best l = least_as P (λ m. P m ⊎ ⊥) (λ m p. inl p) (nothing_more P) best l
twice_from_least (n ∷ ns) s t h P best l =
    let one : Least (Seen t n) (unless (not (is_listed n.name s)) TwiceDefined n) = seen_least (is_listed n.name s) n t (sym (h n.name)) in
    let found = earlier best (unless (not (is_listed n.name s)) TwiceDefined n) in
    least_as (λ m. (P m ⊎ Seen t n m) ⊎ IsTwice (t ++ n.name ∷ []) ns m) (λ m. P m ⊎ IsTwice t (n ∷ ns) m) (twice_past_to P t n ns) (twice_past_from P t n ns) (twice_from (with_name s n.name) found ns)
    (twice_from_least ns (with_name s n.name) (t ++ n.name ∷ []) (added (is_listed n.name s) n.name s t h refl) (λ m. P m ⊎ Seen t n m) found (earlier_least P (Seen t n) best (unless (not (is_listed n.name s)) TwiceDefined n) l one))

only_twice : (ns : List Named) (m : Mark) → ⊥ ⊎ IsTwice [] ns m → IsTwice [] ns m
only_twice ns m (inl p) = absurd p
only_twice ns m (inr a) = a

pub twice_least : (ns : List Named) → Least (IsTwice [] ns) (twice ns)
twice_least ns = least_as (λ m. ⊥ ⊎ IsTwice [] ns m) (IsTwice [] ns) (only_twice ns) (λ m a. inr a) (twice ns) (twice_from_least ns [] [] (λ m. refl) (λ m. ⊥) None (λ n e. e))

-- ---- a schema

unknown_least : (cs : List (List ℕ)) (t : TypeAt) → Least (IsUnknown cs t) (unknown_class cs t)
unknown_least cs (ASet t) = unknown_least cs t
unknown_least cs (AClass n) = unless_at (is_listed n.name cs) UnknownClass n
unknown_least cs AInt = λ m h. h
unknown_least cs AStr = λ m h. h
unknown_least cs ABool = λ m h. h

key_least : (known : List (List ℕ)) (k : List Named) → Least (IsUnknownKey known k) (unknown_key known k)
key_least known k = first_least (λ n. Unless (is_listed n.name known) UnknownKeyAttribute n) (λ n. unless (is_listed n.name known) UnknownKeyAttribute n) (λ n. unless_at (is_listed n.name known) UnknownKeyAttribute n) k

allowed_least : (c : ClassAt) → Least (IsNotAllowed c) (not_allowed c)
allowed_least c =
    earlier_least (Unless (starts_with_capital c.name.name) NotAllowed c.name) (Unless (is_extent_name c.extent.name) NotAllowed c.extent) (unless (starts_with_capital c.name.name) NotAllowed c.name) (unless (is_extent_name c.extent.name) NotAllowed c.extent)
    (unless_at (starts_with_capital c.name.name) NotAllowed c.name) (unless_at (is_extent_name c.extent.name) NotAllowed c.extent)

class_least : (cs : List (List ℕ)) (c : ClassAt) → Least (StandsInClass cs c) (first_in_class cs c)
class_least cs c =
    earlier_least (IsNotAllowed c) _ (not_allowed c) _ (allowed_least c)
    (earlier_least (IsTwice [] (attributes c)) _ (twice (attributes c)) _ (twice_least (attributes c))
    (earlier_least (λ m. Among (λ (a : AttributeAt). IsUnknown cs a.type m) c.attributes) (λ m. Among (λ k. IsUnknownKey (names (attributes c)) k m) c.keys) (unknown_types cs c.attributes) (unknown_keys (names (attributes c)) c.keys)
    (first_least (λ (a : AttributeAt). IsUnknown cs a.type) (λ (a : AttributeAt). unknown_class cs a.type) (λ (a : AttributeAt). unknown_least cs a.type) c.attributes)
    (first_least (IsUnknownKey (names (attributes c))) (unknown_key (names (attributes c))) (key_least (names (attributes c))) c.keys)))

mark_least : (cs : List ClassAt) → Least (Stands cs) (first_mark cs)
mark_least cs =
    earlier_least (IsTwice [] (class_names cs)) _ (twice (class_names cs)) _ (twice_least (class_names cs))
    (earlier_least (IsTwice [] (extents cs)) (λ m. Among (λ c. StandsInClass (names (class_names cs)) c m) cs) (twice (extents cs)) (first_of (first_in_class (names (class_names cs))) cs) (twice_least (extents cs))
    (first_least (StandsInClass (names (class_names cs))) (first_in_class (names (class_names cs))) (class_least (names (class_names cs))) cs))

is_first : (cs : List ClassAt) (m : Mark) (o : Option Mark) → o ≡ Some m → Least (Stands cs) o → IsFirst cs m
is_first cs m (Some o) e h = let l : Least (Stands cs) (Some m) = subst (Least (Stands cs)) e h in record { stands = l.0; least = λ n s. weight_before m n (l.1 n s) }
is_first cs m None e h = absurd cc

-- what is found is the first fault
pub found_first : (cs : List ClassAt) (m : Mark) → first_mark cs ≡ Some m → IsFirst cs m
found_first cs m e = is_first cs m (first_mark cs) e (mark_least cs)

-- where nothing is found, no fault stands
pub found_none : (cs : List ClassAt) → first_mark cs ≡ None → (m : Mark) → Stands cs m → ⊥
found_none cs e = let l : Least (Stands cs) None = subst (Least (Stands cs)) e (mark_least cs) in l

mark_is : (m n : Mark) → weight m ≡ weight n → m ≡ n
mark_is m n e = by (weight_before m n (omega (arith, e))) (weight_before n m (omega (arith, e)))
  where
    same_rank : (y z : NameWhy) → rank y ≡ rank z → y ≡ z
    same_rank NotAllowed NotAllowed e = refl
    same_rank TwiceDefined TwiceDefined e = refl
    same_rank UnknownClass UnknownClass e = refl
    same_rank UnknownKeyAttribute UnknownKeyAttribute e = refl
    same_rank _ _ e = absurd (omega (arith, e))

    by : Before m n → Before n m → m ≡ n
    by (inl a) (inl b) = absurd (omega (arith, a, b))
    by (inl a) (inr b) = absurd (omega (arith, a, b.0))
    by (inr a) (inl b) = absurd (omega (arith, a.0, b))
    by (inr a) (inr b) = λ j. record { at = a.0 j; why = same_rank m.why n.why (omega (arith, a.1, b.1)) j }

-- there is one first fault
pub one_first : (cs : List ClassAt) (m n : Mark) → IsFirst cs m → IsFirst cs n → m ≡ n
one_first cs m n h k = let a = before_weight m n (h.least n k.stands) in let b = before_weight n m (k.least m h.stands) in mark_is m n (omega (arith, a, b))
