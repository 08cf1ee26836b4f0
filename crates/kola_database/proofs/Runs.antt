-- The entries that answer `Equal` in a list where the answers rise stand side by side.
use Rattle.std.proofs.Common.{◌≡◌, ℕ, zero, suc, ◌+◌, ◌<◌, ◌≤◌, Bool, true, false, true≢false, cond, ◌&&◌, List, [], ◌∷◌, ◌++◌, Some, None, slice_get, length, get_or, map, filter, take, drop, refl, sym, ap, ◌∙◌, subst, arith, add-one}
use Rattle.std.specs.declared.cmp.Ordering.{Ordering}
use Rattle.std.specs.declared.cmp.Ordering.TheVariants.{Less, Equal, Greater}
use Rattle.std.specs.Ordering.{is_lt, is_eq, ordering_index, ordering_then, ordering_reverse, nat_cmp}
use Rattle.std.specs.List.Sorted.{IsSortedBy, IsNonDecreasingBy, IsPartitionedBy, IsPartitionPoint}
use Rattle.std.specs.Str.{bytes_eq}
use Rattle.std.proofs.lemmas.Cmp.{nat_list_cmp_total}
use Rattle.std.proofs.lemmas.Map.Text.{is_eq-slice_cmp}
use Rattle.std.proofs.lemmas.List.{get_or-drop, length-drop}
use Rattle.std.proofs.lemmas.List.Sorted.{searchable_from_sorted}
use Rattle.kola_values.specs.Values.{VObj}
use Rattle.kola_values.specs.Order.{cmp, name_cmp, same}
use Rattle.kola_values.specs.Sets.{Rising}
use Rattle.kola_values.specs.Databases.{Object, objects_of}
use Rattle.kola_schema.specs.Meets.{object_values}
use Rattle.kola_database.specs.ObjectViews.{object_tree}
use Rattle.kola_database.specs.declared.object.ObjectDef.{ObjectDef}
use Rattle.kola_database.specs.ExtentViews.{IsRange, AreRanges}
use Rattle.kola_database.specs.Stored.{object_named}
use Rattle.kola_database.specs.declared.db.Extent.{Extent}
use Rattle.kola_database.proofs.Stored.{object_value, object_values_seen, of_the_class}

less_down : (o p : Ordering) → ordering_index o ≤ ordering_index p → is_lt p ≡ true → is_lt o ≡ true
less_down Less p h e = refl
less_down Equal Less h e = absurd (omega arith)
less_down Equal Equal h e = absurd (true≢false (sym e))
less_down Equal Greater h e = absurd (true≢false (sym e))
less_down Greater Less h e = absurd (omega arith)
less_down Greater Equal h e = absurd (true≢false (sym e))
less_down Greater Greater h e = absurd (true≢false (sym e))

equal_down : (o p : Ordering) → ordering_index o ≤ ordering_index p → is_lt o ≡ false → is_eq p ≡ true → is_eq o ≡ true
equal_down Less p h l e = absurd (true≢false l)
equal_down Equal p h l e = refl
equal_down Greater Less h l e = absurd (omega arith)
equal_down Greater Equal h l e = absurd (omega arith)
equal_down Greater Greater h l e = absurd (true≢false (sym e))

less_is_not_equal : (o : Ordering) → is_lt o ≡ true → is_eq o ≡ false
less_is_not_equal Less e = refl
less_is_not_equal Equal e = absurd (true≢false (sym e))
less_is_not_equal Greater e = refl

module _ {X : Type 0} (q : X → Bool) where
  -- a test that fails in front passes in what is left
  filter_behind : (xs : List X) (i : ℕ) → i ≤ length xs → ((k : ℕ) (d : X) → k < i → q (get_or xs k d) ≡ false) → filter q (drop i xs) ≡ filter q xs
  filter_behind xs zero h f = refl
  filter_behind [] (suc i) h f = absurd (omega arith)
  filter_behind (x ∷ xs) (suc i) h f = filter_behind xs i (omega arith) (λ k d p. f (suc k) d (omega arith)) ∙ sym (ap (λ b. cond b (x ∷ filter q xs) (filter q xs)) (f 0 x (omega arith)))

  -- a test that passes in front alone
  filter_front : (xs : List X) (i : ℕ) → i ≤ length xs → ((k : ℕ) (d : X) → k < i → q (get_or xs k d) ≡ true) → ((k : ℕ) (d : X) → i ≤ k → k < length xs → q (get_or xs k d) ≡ false) → take i xs ≡ filter q xs
  filter_front [] zero h f g = refl
  filter_front [] (suc i) h f g = absurd (omega arith)
  filter_front (x ∷ xs) zero h f g = filter_front xs zero (omega arith) (λ k d p. absurd (omega arith)) (λ k d p r. g (suc k) d (omega arith) (omega arith)) ∙ sym (ap (λ b. cond b (x ∷ filter q xs) (filter q xs)) (g 0 x (omega arith) (omega arith)))
  filter_front (x ∷ xs) (suc i) h f g = ap (λ l. x ∷ l) (filter_front xs i (omega arith) (λ k d p. f (suc k) d (omega arith)) (λ k d p r. g (suc k) d (omega arith) (omega arith))) ∙ sym (ap (λ b. cond b (x ∷ filter q xs) (filter q xs)) (f 0 x (omega arith)))

module _ {X : Type 0} (m : X → Ordering) (xs : List X) (up : IsNonDecreasingBy (λ y. ordering_index (m y)) xs) where
  pub less_parted : IsPartitionedBy (λ y. is_lt (m y)) xs
  less_parted i j d le lt e = less_down (m (get_or xs i d)) (m (get_or xs j d)) (up i j d le lt) e

  module _ (q : X → Bool) (tests : (x : X) → is_eq (m x) ≡ q x) (s : ℕ) (bound : s ≤ length xs) (point : IsPartitionPoint (λ y. is_lt (m y) ≡ true) (λ y. is_lt (m y) ≡ false) xs s) where
    pub equal_parted : IsPartitionedBy q (drop s xs)
    equal_parted i j d le lt e =
        let n = length-drop s xs in
        let short : s + j < length xs = omega (arith, n) in
        sym (tests (get_or (drop s xs) i d))
        ∙ ap (λ x. is_eq (m x)) (get_or-drop s xs i d)
        ∙ equal_down (m (get_or xs (s + i) d)) (m (get_or xs (s + j) d))
        (up (s + i) (s + j) d (omega arith) short)
        (point.1 (s + i) d (omega arith) (omega arith))
        (ap (λ x. is_eq (m x)) (sym (get_or-drop s xs j d)) ∙ tests (get_or (drop s xs) j d) ∙ e)

    pub run_is : (t : ℕ) → t ≤ length (drop s xs) → IsPartitionPoint (λ y. q y ≡ true) (λ y. q y ≡ false) (drop s xs) t → take t (drop s xs) ≡ filter q xs
    run_is t h part =
        filter_front q (drop s xs) t h (λ k d p. part.0 k d (omega arith) p) (λ k d p r. part.1 k d p r)
        ∙ filter_behind q xs s bound (λ k d p. sym (tests (get_or xs k d)) ∙ less_is_not_equal (m (get_or xs k d)) (point.0 k d (omega arith) p))

-- ---- objects of a class

reversed_equal : (o : Ordering) → is_eq (ordering_reverse o) ≡ is_eq o
reversed_equal Less = refl
reversed_equal Equal = refl
reversed_equal Greater = refl

pub of_class : (c : List ℕ) (o : ObjectDef) → is_eq (name_cmp o.class c) ≡ bytes_eq c o.class
of_class c o = sym (reversed_equal (name_cmp o.class c)) ∙ ap is_eq (sym (nat_list_cmp_total.antisymm c o.class)) ∙ is_eq-slice_cmp c o.class

names_rise : (x y : ObjectDef) → cmp (object_value x) (object_value y) ≡ Less → is_lt (name_cmp y.class x.class) ≡ false
names_rise x y h = at (name_cmp x.class y.class) h (nat_list_cmp_total.antisymm y.class x.class)
  where
    at : (o : Ordering) → ordering_then o (nat_cmp x.id y.id) ≡ Less → name_cmp y.class x.class ≡ ordering_reverse o → is_lt (name_cmp y.class x.class) ≡ false
    at Less h e = ap is_lt e
    at Equal h e = ap is_lt e
    at Greater h e = absurd (cc)

classes_sorted : (xs : List ObjectDef) → Rising (map object_value xs) → IsSortedBy (λ x y. is_lt (name_cmp x.class y.class)) xs
classes_sorted [] r k d p q = absurd (omega arith)
classes_sorted (x ∷ []) r k d p q = absurd (omega arith)
classes_sorted (x ∷ (y ∷ ys)) r zero d p q = names_rise x y r.0
classes_sorted (x ∷ (y ∷ ys)) r (suc k) d p q = rw add-one (rw add-one at (classes_sorted (y ∷ ys) r.1 k d (omega arith) (omega arith)))

pub classes_rise : (xs : List ObjectDef) (c : List ℕ) → Rising (object_values (map object_tree xs)) → IsNonDecreasingBy (λ (o : ObjectDef). ordering_index (name_cmp o.class c)) xs
classes_rise xs c r = searchable_from_sorted nat_list_cmp_total (λ (o : ObjectDef). o.class) xs c (classes_sorted xs (subst Rising (sym (object_values_seen xs)) r))

pub kept_objects : (c : List ℕ) (xs : List ObjectDef) → object_values (map object_tree (filter (λ (o : ObjectDef). bytes_eq c o.class) xs)) ≡ objects_of c (map object_tree xs)
kept_objects c [] = refl
kept_objects c (o ∷ xs) = at (bytes_eq c o.class) (kept_objects c xs)
  where
    at : (b : Bool) → object_values (map object_tree (filter (λ (p : ObjectDef). bytes_eq c p.class) xs)) ≡ objects_of c (map object_tree xs)
        → object_values (map object_tree (cond b (o ∷ filter (λ (p : ObjectDef). bytes_eq c p.class) xs) (filter (λ (p : ObjectDef). bytes_eq c p.class) xs)))
        ≡ map (λ (p : Object). VObj p.class p.id) (cond b (object_tree o ∷ filter (λ (p : Object). bytes_eq c p.class) (map object_tree xs)) (filter (λ (p : Object). bytes_eq c p.class) (map object_tree xs)))
    at true h = ap (λ l. object_value o ∷ l) h
    at false h = h

-- an object of a class is found among the objects of the class
pub named_kept : (c : List ℕ) (i : ℕ) (xs : List ObjectDef) → object_named c i (map object_tree (filter (λ (o : ObjectDef). bytes_eq c o.class) xs)) ≡ object_named c i (map object_tree xs)
named_kept c i [] = refl
named_kept c i (o ∷ xs) = at (bytes_eq c o.class) refl (named_kept c i xs)
  where
    at : (b : Bool) → bytes_eq c o.class ≡ b → object_named c i (map object_tree (filter (λ (p : ObjectDef). bytes_eq c p.class) xs)) ≡ object_named c i (map object_tree xs)
        → object_named c i (map object_tree (cond b (o ∷ filter (λ (p : ObjectDef). bytes_eq c p.class) xs) (filter (λ (p : ObjectDef). bytes_eq c p.class) xs))) ≡ object_named c i (map object_tree (o ∷ xs))
    at true e h = ap (cond (same (VObj c i) (VObj o.class o.id)) (Some (object_tree o))) h
    at false e h =
        let other = sym (of_the_class c i (object_tree o)) ∙ ap (λ b. b && same (VObj c i) (VObj o.class o.id)) e in
        h ∙ sym (ap (λ b. cond b (Some (object_tree o)) (object_named c i (map object_tree xs))) other)

-- ---- ranges

module _ (os : List ObjectDef) where
  pub one_range_more : (cs : List (List ℕ)) (rs : List (ℕ × ℕ)) (c : List ℕ) (r : ℕ × ℕ) → AreRanges os cs rs → IsRange os c r → AreRanges os (cs ++ c ∷ []) (rs ++ r ∷ [])
  one_range_more [] [] c r h k = (k, tt)
  one_range_more [] (s ∷ rs) c r h k = absurd h
  one_range_more (d ∷ cs) [] c r h k = absurd h
  one_range_more (d ∷ cs) (s ∷ rs) c r h k = (h.0, one_range_more cs rs c r h.1 k)

  pub range_at : (xs : List Extent) (rs : List (ℕ × ℕ)) (n : ℕ) (x : Extent) (r : ℕ × ℕ) → AreRanges os (map (λ (y : Extent). y.class) xs) rs → Some x ≡ slice_get xs n → Some r ≡ slice_get rs n → IsRange os x.class r
  range_at [] rs n x r h e f = cc
  range_at (y ∷ xs) [] n x r h e f = absurd h
  range_at (y ∷ xs) (s ∷ rs) zero x r h e f =
      let one : y ≡ x = cc in
      let two : s ≡ r = cc in
      subst (λ t. IsRange os x.class t) two (subst (λ (z : Extent). IsRange os z.class s) one h.0)
  range_at (y ∷ xs) (s ∷ rs) (suc n) x r h e f = range_at xs rs n x r h.1 e f

  pub no_range : (xs : List Extent) (rs : List (ℕ × ℕ)) (n : ℕ) (x : Extent) → AreRanges os (map (λ (y : Extent). y.class) xs) rs → Some x ≡ slice_get xs n → None ≡ slice_get rs n → ⊥
  no_range [] rs n x h e f = cc
  no_range (y ∷ xs) [] n x h e f = h
  no_range (y ∷ xs) (s ∷ rs) zero x h e f = cc
  no_range (y ∷ xs) (s ∷ rs) (suc n) x h e f = no_range xs rs n x h.1 e f
