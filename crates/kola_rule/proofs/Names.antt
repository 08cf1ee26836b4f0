-- A new name at the end of distinct names, and names that have a place.
use Rattle.std.proofs.Common.{◌≡◌, ℕ, suc, ◌+◌, ◌<◌, Bool, true, false, not, ◌&&◌, ◌||◌, List, [], ◌∷◌, ◌++◌, Some, None, cond, is_some, length, get_or, map, take, position, nat_lt, refl, sym, ap, ap₂, ◌∙◌, subst, arith, true≢false}
use Rattle.std.proofs.lemmas.List.{map_push, take_all}
use Rattle.std.proofs.lemmas.Bool.Decides.{nat_tests}
use Rattle.std.specs.List.{list_any, position_or_len}
use Rattle.std.specs.Str.{bytes_eq}
use Rattle.kola_core.specs.NameLists.{is_listed, with_name}
use Rattle.kola_core.proofs.NameLists.{with_new}
use Rattle.kola_core.proofs.Lists.{taken_more}
use Rattle.kola_schema.proofs.Places.{fresh}
use Rattle.kola_schema.specs.Schemas.{are_distinct}
use Rattle.kola_term.proofs.Inversions.{and_true, same_name-equal}
use Rattle.kola_term.proofs.Introductions.{same_name_itself}
use Rattle.kola_rule.specs.Tables.{rule_names}
use Rattle.kola_rule.specs.declared.rule.Rule.{Rule}

either_false : (a b : Bool) → (a || b) ≡ false → (a ≡ false) × (b ≡ false)
either_false true b e = absurd (cc)
either_false false b e = (refl, e)

pub not_true : (a : Bool) → not a ≡ true → a ≡ false
not_true true e = absurd (cc)
not_true false e = refl

pub not_false : (a : Bool) → not a ≡ false → a ≡ true
not_false true e = refl
not_false false e = absurd (cc)

turned : (m n : List ℕ) (b : Bool) → bytes_eq m n ≡ b → bytes_eq n m ≡ false → b ≡ false
turned m n true e h = absurd (true≢false (sym (same_name_itself n) ∙ ap (bytes_eq n) (sym (same_name-equal m n e)) ∙ h))
turned m n false e h = refl

listed_more : (m : List ℕ) (ns : List (List ℕ)) (n : List ℕ) → is_listed m ns ≡ false → bytes_eq m n ≡ false → is_listed m (ns ++ n ∷ []) ≡ false
listed_more m [] n h k = ap (λ b. b || false) k
listed_more m (o ∷ ns) n h k =
    let p = either_false (bytes_eq m o) (is_listed m ns) h in
    ap₂ (λ a b. a || b) p.0 (listed_more m ns n p.1 k)

distinct_more : (ns : List (List ℕ)) (n : List ℕ) → are_distinct ns ≡ true → is_listed n ns ≡ false → are_distinct (ns ++ n ∷ []) ≡ true
distinct_more [] n h k = refl
distinct_more (m ∷ ns) n h k =
    let p = and_true (not (is_listed m ns)) (are_distinct ns) h in
    let q = either_false (bytes_eq n m) (is_listed n ns) k in
    let o = turned m n (bytes_eq m n) refl q.0 in
    ap₂ (λ a b. not a && b) (listed_more m ns n (not_true (is_listed m ns) p.0) o) (distinct_more ns n p.1 q.1)

pub names_apart : (rs : List Rule) (r : Rule) → are_distinct (rule_names rs) ≡ true → is_listed r.name (rule_names rs) ≡ false → are_distinct (rule_names (rs ++ r ∷ [])) ≡ true
names_apart rs r h k = ap are_distinct (map_push (λ (r : Rule). r.name) rs r) ∙ distinct_more (rule_names rs) r.name h k

-- the table of names after a new rule is the names of the longer list
pub names_longer : (names : List (List ℕ)) (text : List ℕ) (rs : List Rule) (r : Rule) → names ≡ rule_names rs → text ≡ r.name → is_listed r.name (rule_names rs) ≡ false → with_name names text ≡ rule_names (rs ++ r ∷ [])
names_longer names text rs r e t k =
    (λ i. with_name (e i) (t i))
    ∙ with_new (rule_names rs) r.name k
    ∙ sym (map_push (λ (r : Rule). r.name) rs r)

-- ---- names that have a place

step : (b : Bool) (i n : ℕ) (r : Bool) → nat_lt i n ≡ r → nat_lt (cond (not b) (1 + i) 0) (suc n) ≡ (b || r)
step true i n r h = grind (arith, nat_tests)
step false i n true h = grind (arith, nat_tests)
step false i n false h = grind (arith, nat_tests)

before_end : {X : Type 0} (p : X → Bool) (xs : List X) → nat_lt (position_or_len p xs) (length xs) ≡ list_any p xs
before_end p [] = refl
before_end p (x ∷ xs) = step (p x) (position_or_len p xs) (length xs) (list_any p xs) (before_end p xs)

some_place : (c : Bool) (i : ℕ) → is_some (cond c (Some i) None) ≡ c
some_place true i = refl
some_place false i = refl

-- a name has a place exactly where it is listed
pub placed : (n : List ℕ) (ns : List (List ℕ)) → is_some (position (bytes_eq n) ns) ≡ is_listed n ns
placed n ns = some_place (nat_lt (position_or_len (bytes_eq n) ns) (length ns)) (position_or_len (bytes_eq n) ns) ∙ before_end (bytes_eq n) ns

-- ---- the names of rules, one by one

module _ (rs : List Rule) (i : ℕ) (r : Rule) (p : i < length rs) (e : r ≡ get_or rs i r) where
  -- one that stood before
  pub repeated : is_listed r.name (take i (rule_names rs)) ≡ true → false ≡ are_distinct (rule_names rs)
  repeated h = decide (are_distinct (rule_names rs)) refl
    where
      decide : (b : Bool) → are_distinct (rule_names rs) ≡ b → false ≡ b
      decide true k = sym (fresh (λ (r : Rule). r.name) rs i r p e k) ∙ h
      decide false k = refl

  -- one that did not
  pub distinct_so_far : are_distinct (take i (rule_names rs)) ≡ true → is_listed r.name (take i (rule_names rs)) ≡ false → are_distinct (take (i + 1) (rule_names rs)) ≡ true
  distinct_so_far h k = ap are_distinct (taken_more (λ (r : Rule). r.name) rs (rule_names rs) i r refl p e) ∙ distinct_more (take i (rule_names rs)) r.name h k
