-- Names that are found at their places, among blocks and among rules.
use Rattle.std.proofs.Common.{◌≡◌, ℕ, zero, suc, ◌+◌, Bool, true, false, not, cond, ◌||◌, List, [], ◌∷◌, Option, Some, None, length, map, take, drop, is_some, option_map, option_and_then, position, slice_get, nat_lt, leb, ◌<◌, subst, refl, sym, ap, ◌∙◌, arith}
use Rattle.std.specs.List.{list_any, position_or_len}
use Rattle.std.specs.Str.{bytes_eq}
use Rattle.std.proofs.lemmas.Bool.Decides.{nat_tests}
use Rattle.std.proofs.lemmas.List.{length-map}
use Rattle.kola_core.specs.NameLists.{is_listed}
use Rattle.kola_values.specs.Databases.{look_up}
use Rattle.kola_schema.specs.Schemas.{are_distinct}
use Rattle.kola_term.proofs.Inversions.{same_name-equal, some_same, and_true}
use Rattle.kola_rule.specs.Rules.{RuleTree}
use Rattle.kola_rule.specs.RuleViews.{rule_tree}
use Rattle.kola_rule.specs.Tables.{rule_names}
use Rattle.kola_rule.specs.declared.rule.Rule.{Rule}
use Rattle.coko_plan.specs.Listing.{or_else, place_of, earlier}
use Rattle.coko_plan.specs.Faults.{CannotFire, names_of_rules, no_rule, rule_named, rule_fault, name_fault}
use Rattle.coko_plan.specs.Working.Seen.{fires_at}
use Rattle.coko_plan.specs.Working.Sites.{numbered}

-- ---- the place of a name, entry by entry

place_step : (b : Bool) (i n : ℕ) → cond (nat_lt (cond (not b) (1 + i) 0) (suc n)) (Some (cond (not b) (1 + i) 0)) None ≡ cond b (Some 0) (option_map suc (cond (nat_lt i n) (Some i) None))
place_step true i n = let h : nat_lt 0 (suc n) ≡ true = grind (arith, nat_tests) in ap (λ c. cond c (Some 0) None) h
place_step false i n = decide (nat_lt i n) refl
  where
    decide : (c : Bool) → nat_lt i n ≡ c → cond (nat_lt (1 + i) (suc n)) (Some (1 + i)) None ≡ option_map suc (cond c (Some i) None)
    decide true e =
        let h : nat_lt (1 + i) (suc n) ≡ true = grind (arith, nat_tests) in
        let k : 1 + i ≡ suc i = omega arith in
        ap (λ c. cond c (Some (1 + i)) None) h ∙ ap (λ j. Some j) k
    decide false e = let h : nat_lt (1 + i) (suc n) ≡ false = grind (arith, nat_tests) in ap (λ c. cond c (Some (1 + i)) None) h

pub place_more : (n m : List ℕ) (ns : List (List ℕ)) → position (bytes_eq n) (m ∷ ns) ≡ cond (bytes_eq n m) (Some 0) (option_map suc (position (bytes_eq n) ns))
place_more n m ns = place_step (bytes_eq n m) (position_or_len (bytes_eq n) ns) (length ns)

-- ---- numbers of blocks

nothing : (o : Option ℕ) → None ≡ option_and_then (λ k. slice_get {X = ℕ} [] k) o
nothing None = refl
nothing (Some k) = refl

one_on : (i : ℕ) (is : List ℕ) (o : Option ℕ) → option_and_then (λ k. slice_get is k) o ≡ option_and_then (λ k. slice_get (i ∷ is) k) (option_map suc o)
one_on i is None = refl
one_on i is (Some k) = refl

pub number_at_place : (n : List ℕ) (ns : List (List ℕ)) (is : List ℕ) → look_up n (numbered ns is) ≡ option_and_then (λ k. slice_get is k) (position (bytes_eq n) ns)
number_at_place n [] is = refl
number_at_place n (m ∷ ns) [] = nothing (position (bytes_eq n) (m ∷ ns))
number_at_place n (m ∷ ns) (i ∷ is) = decide (bytes_eq n m) (number_at_place n ns is) ∙ ap (option_and_then (λ k. slice_get (i ∷ is) k)) (sym (place_more n m ns))
  where
    decide : (b : Bool) → look_up n (numbered ns is) ≡ option_and_then (λ k. slice_get is k) (position (bytes_eq n) ns)
        → cond b (Some i) (look_up n (numbered ns is)) ≡ option_and_then (λ k. slice_get (i ∷ is) k) (cond b (Some 0) (option_map suc (position (bytes_eq n) ns)))
    decide true h = refl
    decide false h = h ∙ one_on i is (position (bytes_eq n) ns)

-- a block has a number exactly where it stands before
pub numbered_before : (n : List ℕ) (ns : List (List ℕ)) (is : List ℕ) → is_some (look_up n (numbered ns is)) ≡ is_listed n (take (length is) ns)
numbered_before n [] [] = refl
numbered_before n [] (i ∷ is) = refl
numbered_before n (m ∷ ns) [] = refl
numbered_before n (m ∷ ns) (i ∷ is) = decide (bytes_eq n m) (numbered_before n ns is)
  where
    decide : (b : Bool) → is_some (look_up n (numbered ns is)) ≡ is_listed n (take (length is) ns) → is_some (cond b (Some i) (look_up n (numbered ns is))) ≡ (b || is_listed n (take (length is) ns))
    decide true h = refl
    decide false h = h

-- ---- names from a place on

abbrev pub is_from : ℕ → Option ℕ → Bool
is_from k None = false
is_from k (Some p) = not (nat_lt p k)

step : (b : Bool) (i n : ℕ) (r : Bool) → nat_lt i n ≡ r → nat_lt (cond (not b) (1 + i) 0) (suc n) ≡ (b || r)
step true i n r h = grind (arith, nat_tests)
step false i n true h = grind (arith, nat_tests)
step false i n false h = grind (arith, nat_tests)

before_end : {X : Type 0} (p : X → Bool) (xs : List X) → nat_lt (position_or_len p xs) (length xs) ≡ list_any p xs
before_end p [] = refl
before_end p (x ∷ xs) = step (p x) (position_or_len p xs) (length xs) (list_any p xs) (before_end p xs)

some_place : (c : Bool) (i : ℕ) → is_some (cond c (Some i) None) ≡ c
some_place true i = refl
some_place false i = refl

pub placed : (n : List ℕ) (ns : List (List ℕ)) → is_some (position (bytes_eq n) ns) ≡ is_listed n ns
placed n ns = some_place (nat_lt (position_or_len (bytes_eq n) ns) (length ns)) (position_or_len (bytes_eq n) ns) ∙ before_end (bytes_eq n) ns

from_zero : (o : Option ℕ) → is_some o ≡ is_from 0 o
from_zero None = refl
from_zero (Some p) = let h : nat_lt p 0 ≡ false = grind (arith, nat_tests) in sym (ap not h)

from_more : (k : ℕ) (o : Option ℕ) → is_from k o ≡ is_from (suc k) (option_map suc o)
from_more k None = refl
from_more k (Some p) = ap not (decide (nat_lt p k) (nat_lt (suc p) (suc k)) refl refl)
  where
    decide : (a b : Bool) → nat_lt p k ≡ a → nat_lt (suc p) (suc k) ≡ b → a ≡ b
    decide true true e h = refl
    decide false false e h = refl
    decide true false e h = absurd (grind (arith, nat_tests))
    decide false true e h = absurd (grind (arith, nat_tests))

or_none : (a b : Bool) → (a || b) ≡ false → (a ≡ false) × (b ≡ false)
or_none false b e = (refl, e)
or_none true b e = absurd (cc)

unlisted_behind : (n : List ℕ) (k : ℕ) (ns : List (List ℕ)) → is_listed n ns ≡ false → is_listed n (drop k ns) ≡ false
unlisted_behind n zero ns h = h
unlisted_behind n (suc k) [] h = refl
unlisted_behind n (suc k) (m ∷ ns) h = unlisted_behind n k ns (or_none (bytes_eq n m) (is_listed n ns) h).1

not_so : (b : Bool) → not b ≡ true → b ≡ false
not_so false h = refl
not_so true h = absurd (cc)

pub listed_from : (n : List ℕ) (ns : List (List ℕ)) (k : ℕ) → are_distinct ns ≡ true → is_listed n (drop k ns) ≡ is_from k (position (bytes_eq n) ns)
listed_from n ns zero d = sym (placed n ns) ∙ from_zero (position (bytes_eq n) ns)
listed_from n [] (suc k) d = refl
listed_from n (m ∷ ns) (suc k) d =
    let p = and_true (not (is_listed m ns)) (are_distinct ns) d in
    decide (bytes_eq n m) refl (not_so (is_listed m ns) p.0) (listed_from n ns k p.1) ∙ ap (is_from (suc k)) (sym (place_more n m ns))
  where
    decide : (b : Bool) → bytes_eq n m ≡ b → is_listed m ns ≡ false → is_listed n (drop k ns) ≡ is_from k (position (bytes_eq n) ns) → is_listed n (drop k ns) ≡ is_from (suc k) (cond b (Some 0) (option_map suc (position (bytes_eq n) ns)))
    decide true e h g =
        let l : nat_lt 0 (suc k) ≡ true = grind (arith, nat_tests) in
        unlisted_behind n k ns (ap (λ z. is_listed z ns) (same_name-equal n m e) ∙ h) ∙ sym (ap not l)
    decide false e h g = g ∙ from_more k (position (bytes_eq n) ns)

pub at_or_behind : (k p : ℕ) → leb k p ≡ not (nat_lt p k)
at_or_behind k p = decide (leb k p) (nat_lt p k) refl refl
  where
    decide : (a b : Bool) → leb k p ≡ a → nat_lt p k ≡ b → a ≡ not b
    decide true false e h = refl
    decide false true e h = refl
    decide true true e h = absurd (grind (arith, nat_tests))
    decide false false e h = absurd (grind (arith, nat_tests))

-- ---- the earlier block of a name

pub earlier_at : (n : List ℕ) (v : Bool) (ns : List (List ℕ)) (is : List ℕ) (o : Option ℕ) → v ≡ false → o ≡ position (bytes_eq n) ns → option_and_then (λ k. slice_get is k) o ≡ earlier (numbered ns is) n v
earlier_at n v ns is o f h = ap (option_and_then (λ k. slice_get is k)) h ∙ (sym (number_at_place n ns is) ∙ sym (ap (earlier (numbered ns is) n) f))

module _ (R : List RuleTree) (onwards : List (List ℕ)) (b n : List ℕ) where
  pub fault_of_block : (v : Bool) (ns : List (List ℕ)) (is : List ℕ) (i : ℕ) → earlier (numbered ns is) n v ≡ Some i → name_fault R (take (length is) ns) onwards b (n, v) ≡ None
  fault_of_block true ns is i e = absurd (cc)
  fault_of_block false ns is i e = ap (λ c. cond c None (rule_fault onwards b n false (rule_named R n))) (sym (numbered_before n ns is) ∙ ap is_some e)

  pub fault_of_rule : (v : Bool) (ns : List (List ℕ)) (is : List ℕ) → earlier (numbered ns is) n v ≡ None → name_fault R (take (length is) ns) onwards b (n, v) ≡ rule_fault onwards b n v (rule_named R n)
  fault_of_rule true ns is e = refl
  fault_of_rule false ns is e = ap (λ c. cond c None (rule_fault onwards b n false (rule_named R n))) (sym (numbered_before n ns is) ∙ ap is_some e)

-- ---- the rule of a name

pub names_seen : (rs : List Rule) → names_of_rules (map rule_tree rs) ≡ rule_names rs
names_seen [] = refl
names_seen (r ∷ rs) = ap (λ z. r.name ∷ z) (names_seen rs)

within : (n : List ℕ) (ns : List (List ℕ)) (p : ℕ) → Some p ≡ position (bytes_eq n) ns → p < length ns
within n ns p e = decide (nat_lt (position_or_len (bytes_eq n) ns) (length ns)) refl e
  where
    decide : (b : Bool) → nat_lt (position_or_len (bytes_eq n) ns) (length ns) ≡ b → Some p ≡ cond b (Some (position_or_len (bytes_eq n) ns)) None → p < length ns
    decide true h k = subst (λ z. z < length ns) (some_same (position_or_len (bytes_eq n) ns) p (sym k)) (grind (arith, nat_tests))
    decide false h k = absurd (cc)

there : {X : Type 0} (xs : List X) (i : ℕ) → i < length xs → (x : X) × (slice_get xs i ≡ Some x)
there [] i h = absurd (omega (arith, h))
there (x ∷ xs) zero h = (x, refl)
there (x ∷ xs) (suc i) h = there xs i (omega (arith, h))

module _ (rs : List Rule) (onwards : List (List ℕ)) (b n : List ℕ) (v : Bool) where
  at_name : (o : Option ℕ) → o ≡ position (bytes_eq n) (rule_names rs) → o ≡ position (bytes_eq n) (names_of_rules (map rule_tree rs))
  at_name o e = e ∙ ap (position (bytes_eq n)) (sym (names_seen rs))

  pub rule_place : (p : ℕ) → Some p ≡ position (bytes_eq n) (rule_names rs) → p ≡ place_of (names_of_rules (map rule_tree rs)) n
  rule_place p e = ap (λ o. or_else o 0) (at_name (Some p) e)

  named : (p : ℕ) → Some p ≡ position (bytes_eq n) (rule_names rs) → rule_named (map rule_tree rs) n ≡ slice_get (map rule_tree rs) p
  named p e = sym (ap (option_and_then (λ k. slice_get (map rule_tree rs) k)) (at_name (Some p) e))

  pub rule_fires : (p : ℕ) → Some p ≡ position (bytes_eq n) (rule_names rs) → fires_at (slice_get (map rule_tree rs) p) v ≡ true → rule_fault onwards b n v (rule_named (map rule_tree rs) n) ≡ None
  rule_fires p e h = ap (rule_fault onwards b n v) (named p e) ∙ ok (slice_get (map rule_tree rs) p) h
    where
      ok : (o : Option RuleTree) → fires_at o v ≡ true → rule_fault onwards b n v o ≡ None
      ok (Some r) k = ap (λ c. cond c None (Some (CannotFire b n))) k
      ok None k = absurd (cc)

  pub rule_cannot : (p : ℕ) → Some p ≡ position (bytes_eq n) (rule_names rs) → fires_at (slice_get (map rule_tree rs) p) v ≡ false → rule_fault onwards b n v (rule_named (map rule_tree rs) n) ≡ Some (CannotFire b n)
  rule_cannot p e h =
      let t = there (map rule_tree rs) p (omega (arith, within n (names_of_rules (map rule_tree rs)) p (at_name (Some p) e), length-map (map rule_tree rs) (λ (r : RuleTree). r.name))) in
      ap (rule_fault onwards b n v) (named p e ∙ t.1) ∙ ap (λ c. cond c None (Some (CannotFire b n))) (sym (ap (λ o. fires_at o v) t.1) ∙ h)

  pub rule_missing : None ≡ position (bytes_eq n) (rule_names rs) → no_rule onwards b n ≡ rule_fault onwards b n v (rule_named (map rule_tree rs) n)
  rule_missing e = ap (λ o. rule_fault onwards b n v (option_and_then (λ k. slice_get (map rule_tree rs) k) o)) (at_name None e)
