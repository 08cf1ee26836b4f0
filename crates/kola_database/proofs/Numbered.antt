-- What the look-ups by numbers find.
use Rattle.std.proofs.Common.{◌≡◌, ℕ, zero, suc, ◌<◌, Bool, true, false, true≢false, not, cond, ◌||◌, List, [], ◌∷◌, Option, Some, None, length, get_or, map, position, slice_get, option_map, option_and_then, refl, sym, ap, ◌∙◌, subst}
use mathlib.Core.Bool.{or-true}
use Rattle.std.specs.declared.cmp.Ordering.{Ordering}
use Rattle.std.specs.declared.cmp.Ordering.TheVariants.{Less, Equal, Greater}
use Rattle.std.specs.Ordering.{is_eq}
use Rattle.std.specs.List.{find}
use Rattle.std.specs.Str.{bytes_eq}
use Rattle.std.proofs.lemmas.Option.{slice_get-map, slice_get-get_or, slice_get_read}
use Rattle.kola_core.specs.NameLists.{is_listed}
use Rattle.kola_values.specs.Values.{ValueTree, VObj}
use Rattle.kola_values.specs.Order.{cmp, same}
use Rattle.kola_values.specs.Sets.{Rising, Each, canon}
use Rattle.kola_values.specs.Databases.{Class, Object, Classes, Objects, look_up, objects_of}
use Rattle.kola_schema.specs.Schemas.{are_distinct, names_of, extent_names}
use Rattle.kola_schema.specs.Meets.{object_values}
use Rattle.kola_database.specs.Stored.{Database, IsUnder, extents_of, extent_in, extent_at, object_named, attribute_in, class_at, label_at, attribute_at}
use Rattle.kola_database.specs.ObjectViews.{object_tree}
use Rattle.kola_database.specs.ExtentViews.{extent_entry, extent_labels}
use Rattle.kola_database.specs.declared.object.ObjectDef.{ObjectDef}
use Rattle.kola_database.specs.declared.db.Extent.{Extent}
use Rattle.kola_values.proofs.Making.{first_at_place}
use Rattle.kola_values.proofs.SameTypes.{both_true, name_equal}
use Rattle.kola_values.proofs.Truth.{not_true}
use Rattle.kola_schema.proofs.Places.{found_at_place, entry_found}
use Rattle.kola_database.proofs.Stored.{object_value, object_values_seen, object_found}

-- the set of a number
pub members_numbered : (xs : List Extent) (d : Objects) (n : ℕ) → Each (λ (x : Extent). x.members ≡ canon (objects_of x.class d)) xs
    → option_map (λ (x : Extent). x.members) (slice_get xs n) ≡ option_map (λ (e : List ℕ × List ℕ). canon (objects_of e.1 d)) (slice_get (map extent_entry xs) n)
members_numbered [] d n h = refl
members_numbered (x ∷ xs) d zero h = ap Some h.0
members_numbered (x ∷ xs) d (suc n) h = members_numbered xs d n h.1

-- ---- an entry that has its name alone

listed_at : {A : Type 0} (es : List (List ℕ × A)) (i : ℕ) (e : List ℕ × A) (n : List ℕ) → Some e ≡ slice_get es i → bytes_eq n e.0 ≡ true → is_listed n (names_of es) ≡ true
listed_at [] i e n s b = cc
listed_at (x ∷ es) zero e n s b =
    let h : x ≡ e = cc in
    ap (λ y. bytes_eq n y.0 || is_listed n (names_of es)) h ∙ ap (λ c. c || is_listed n (names_of es)) b
listed_at (x ∷ es) (suc i) e n s b = ap (λ c. bytes_eq n x.0 || c) (listed_at es i e n s b) ∙ or-true (bytes_eq n x.0)

apart : (n m : List ℕ) (ns : List (List ℕ)) → is_listed n ns ≡ true → is_listed m ns ≡ false → bytes_eq n m ≡ false
apart n m ns t f = at (bytes_eq n m) refl
  where
    at : (b : Bool) → bytes_eq n m ≡ b → bytes_eq n m ≡ false
    at true e = absurd (true≢false (sym t ∙ ap (λ k. is_listed k ns) (name_equal n m e) ∙ f))
    at false e = e

-- the entry at a place that has the name is the first of the name
pub first_of_name : {A : Type 0} (es : List (List ℕ × A)) (i : ℕ) (e : List ℕ × A) (n : List ℕ) → are_distinct (names_of es) ≡ true → Some e ≡ slice_get es i → bytes_eq n e.0 ≡ true → Some e.1 ≡ look_up n es
first_of_name [] i e n d s b = cc
first_of_name (x ∷ es) zero e n d s b =
    let h : x ≡ e = cc in
    ap (λ y. Some y.1) (sym h) ∙ sym (ap (λ c. cond c (Some x.1) (look_up n es)) (ap (λ y. bytes_eq n y.0) h ∙ b))
first_of_name (x ∷ es) (suc i) e n d s b =
    let p = both_true (not (is_listed x.0 (names_of es))) (are_distinct (names_of es)) d in
    let other = apart n x.0 (names_of es) (listed_at es i e n s b) (not_true (is_listed x.0 (names_of es)) p.0) in
    first_of_name es i e n p.1 s b ∙ sym (ap (λ c. cond c (Some x.1) (look_up n es)) other)

-- ---- objects

equal_order : (o : Ordering) → is_eq o ≡ true → o ≡ Equal
equal_order Less e = absurd (true≢false (sym e))
equal_order Equal e = refl
equal_order Greater e = absurd (true≢false (sym e))

whatever_else : {X : Type 0} (xs : List X) (i : ℕ) (x d : X) → i < length xs → x ≡ get_or xs i x → get_or xs i d ≡ x
whatever_else xs i x d p e =
    let h = sym (slice_get-get_or xs i d p) ∙ slice_get_read xs (length xs) i x refl p e in
    cc

-- an object that stands at a place is the one of its class and id
pub object_placed : (xs : List ObjectDef) (i : ℕ) (x : ObjectDef) (c : List ℕ) (n : ℕ) → Rising (object_values (map object_tree xs)) → i < length xs → x ≡ get_or xs i x
    → is_eq (cmp (object_value x) (VObj c n)) ≡ true → Some (object_tree x) ≡ object_named c n (map object_tree xs)
object_placed xs i x c n r p e q =
    let rise = subst Rising (sym (object_values_seen xs)) r in
    let at = λ (d : ObjectDef). ap (λ y. cmp (object_value y) (VObj c n)) (whatever_else xs i x d p e) ∙ equal_order (cmp (object_value x) (VObj c n)) q in
    ap (option_map object_tree) (sym (slice_get_read xs (length xs) i x refl p e) ∙ sym (first_at_place object_value (VObj c n) xs i rise p at)) ∙ object_found xs c n

pub named_holds : (P : Object → Type 0) (d : Objects) (c : List ℕ) (i : ℕ) (o : Object) → Each P d → Some o ≡ object_named c i d → P o
named_holds P [] c i o h e = cc
named_holds P (x ∷ d) c i o h e = at (same (VObj c i) (VObj x.class x.id)) e (λ f. named_holds P d c i o h.1 f)
  where
    at : (b : Bool) → Some o ≡ cond b (Some x) (object_named c i d) → (Some o ≡ object_named c i d → P o) → P o
    at true e further =
        let k : x ≡ o = cc in
        subst P k h.0
    at false e further = further e

-- the value of an attribute of a number, where the object is looked for among those of its class
module _ (xs : List Extent) (d : Objects) (n i a : ℕ) (x : Extent) (l : List ℕ) (p : Some x ≡ slice_get xs n) (q : Some l ≡ slice_get x.attributes a) where
  numbered : (r : Option Object) → r ≡ object_named x.class i d → option_and_then (λ (y : Object). look_up l y.values) r ≡ attribute_at (record { objects = d; extents = map extent_entry xs; attributes = map extent_labels xs }) n i a
  numbered r s =
      let db : Database = record { objects = d; extents = map extent_entry xs; attributes = map extent_labels xs } in
      let classed : Some x.class ≡ class_at db n = ap (λ r. option_map (λ (e : List ℕ × List ℕ). e.1) (option_map extent_entry r)) p ∙ ap (option_map (λ (e : List ℕ × List ℕ). e.1)) (sym (slice_get-map extent_entry xs n)) in
      let labelled : Some l ≡ label_at db n a = q ∙ ap (λ r. option_and_then (λ ls. slice_get ls a) (option_map extent_labels r)) p ∙ ap (option_and_then (λ ls. slice_get ls a)) (sym (slice_get-map extent_labels xs n)) in
      ap (option_and_then (λ (y : Object). look_up l y.values)) s
      ∙ ap (option_and_then (λ k. attribute_in d x.class i k)) labelled
      ∙ ap (option_and_then (λ c. option_and_then (λ k. attribute_in d c i k) (label_at db n a))) classed

  pub attribute_numbered : (o : Object) → Some o ≡ object_named x.class i d → look_up l o.values ≡ attribute_at (record { objects = d; extents = map extent_entry xs; attributes = map extent_labels xs }) n i a
  attribute_numbered o s = numbered (Some o) s

  pub none_numbered : None ≡ object_named x.class i d → None ≡ attribute_at (record { objects = d; extents = map extent_entry xs; attributes = map extent_labels xs }) n i a
  none_numbered s = numbered None s

-- ---- numbers as places in the schema

mapped_after : {A B C : Type 0} (f : A → B) (g : B → C) (o : Option A) → option_map (λ x. g (f x)) o ≡ option_map g (option_map f o)
mapped_after f g None = refl
mapped_after f g (Some x) = refl

then_mapped : {A B C : Type 0} (f : A → Option B) (g : B → C) (o : Option A) → option_and_then (λ x. option_map g (f x)) o ≡ option_map g (option_and_then f o)
then_mapped f g None = refl
then_mapped f g (Some x) = refl

-- an extent's name, and its class
abbrev first : List ℕ × List ℕ → List ℕ
first e = e.0

abbrev second : List ℕ × List ℕ → List ℕ
second e = e.1

abbrev set_in : Database → List ℕ → List ValueTree
set_in db c = canon (objects_of c db.objects)

by_number : (db : Database) (e : List ℕ) → option_and_then (extent_at db) (position (bytes_eq e) (map first db.extents)) ≡ extent_in db e
by_number db e =
    then_mapped (λ n. slice_get db.extents n) (λ x. set_in db (second x)) (position (bytes_eq e) (map first db.extents))
    ∙ ap (option_map (λ x. set_in db (second x))) (found_at_place first e db.extents)
    ∙ mapped_after second (set_in db) (find (λ x. bytes_eq e (first x)) db.extents)
    ∙ ap (option_map (set_in db)) (entry_found db.extents e)

names_of_extents : (S : Classes) → map first (extents_of S) ≡ extent_names S
names_of_extents [] = refl
names_of_extents (k ∷ S) = ap (λ l. k.extent ∷ l) (names_of_extents S)

pub extent_under : (S : Classes) (db : Database) (e : List ℕ) → IsUnder S db → option_and_then (extent_at db) (position (bytes_eq e) (extent_names S)) ≡ extent_in db e
extent_under S db e u = ap (λ l. option_and_then (extent_at db) (position (bytes_eq e) l)) (sym (ap (map first) u.extents ∙ names_of_extents S)) ∙ by_number db e

pub attribute_under : (S : Classes) (db : Database) (k : Class) (n i a : ℕ) (l : List ℕ) → IsUnder S db → slice_get S n ≡ Some k → slice_get (names_of k.attributes) a ≡ Some l → attribute_at db n i a ≡ attribute_in db.objects k.name i l
attribute_under S db k n i a l u h j =
    let both : Class → List ℕ × List ℕ = λ c. (c.extent, c.name) in
    let labels : Class → List (List ℕ) = λ c. names_of c.attributes in
    let classed : class_at db n ≡ Some k.name = ap (λ es. option_map second (slice_get es n)) u.extents ∙ ap (option_map second) (slice_get-map both S n) ∙ ap (λ r. option_map second (option_map both r)) h in
    let labelled : label_at db n a ≡ Some l = ap (λ ls. option_and_then (λ m. slice_get m a) (slice_get ls n)) u.attributes ∙ ap (option_and_then (λ m. slice_get m a)) (slice_get-map labels S n) ∙ ap (λ r. option_and_then (λ m. slice_get m a) (option_map labels r)) h ∙ j in
    ap (option_and_then (λ c. option_and_then (λ m. attribute_in db.objects c i m) (label_at db n a))) classed
    ∙ ap (option_and_then (λ m. attribute_in db.objects k.name i m)) labelled
