-- What the program's walks over classes and attributes compute.
use Rattle.std.proofs.Common.{◌≡◌, ℕ, ◌+◌, ◌<◌, Bool, true, false, not, ◌&&◌, List, [], ◌∷◌, Option, Some, length, get_or, map, take, drop, ◌-◌, refl, sym, ap, ◌∙◌, arith, cond}
use Rattle.std.specs.List.{list_any, list_all}
use Rattle.std.specs.Option.{option_map, option_and_then}
use Rattle.std.specs.Str.{bytes_eq}
use Rattle.std.proofs.lemmas.List.{drop_more, take_all, length-drop}
use Rattle.std.proofs.lemmas.List.Folds.{list_all-map}
use Rattle.kola_core.specs.declared.name.Name.{Name}
use Rattle.kola_values.specs.Types.{TypeTree}
use Rattle.kola_values.specs.Databases.{Class, Classes, attribute_type, look_up}
use Rattle.kola_core.specs.NameLists.{is_listed}
use Rattle.kola_core.proofs.NameLists.{listed_seen}
use Rattle.kola_schema.specs.Schemas.{are_distinct, names_of, class_names, extent_names, is_stored_type, is_key, is_class, is_schema, class_named}
use Rattle.kola_values.specs.Sets.{Each}
use Rattle.kola_values.specs.Views.{type_tree, type_entry}
use Rattle.kola_schema.specs.SchemaViews.{class_tree}
use Rattle.kola_values.specs.declared.ty.Ty.{Ty}
use Rattle.kola_schema.specs.declared.schema.ClassDef.{ClassDef}
use Rattle.kola_values.proofs.SameTypes.{both_true}

rest_taken : {X : Type 0} (xs : List X) (i : ℕ) → take (length xs - i) (drop i xs) ≡ drop i xs
rest_taken xs i = take_all (length xs - i) (drop i xs) (omega (arith, length-drop i xs))

-- three tests, one after the other
pub all_three : (a b c : Bool) → a ≡ true → b ≡ true → c ≡ (a && (b && c))
all_three a b c p q = rw (p, q)

pub not_the_second : (a b c : Bool) → a ≡ true → b ≡ false → false ≡ (a && (b && c))
not_the_second a b c p q = rw (p, q)

module _ {X : Type 0} (f : X → List ℕ) where
  module _ (xs : List X) (i : ℕ) (d : X) (p : i < length xs) where
    distinct_step : are_distinct (map f (drop i xs)) ≡ (not (list_any (λ y. bytes_eq (f (get_or xs i d)) (f y)) (take (length xs - (i + 1)) (drop (i + 1) xs))) && are_distinct (map f (drop (i + 1) xs)))
    distinct_step =
        ap (λ l. are_distinct (map f l)) (drop_more xs i d p)
        ∙ ap (λ b. not b && are_distinct (map f (drop (i + 1) xs))) (sym (listed_seen f (f (get_or xs i d)) (drop (i + 1) xs)))
        ∙ ap (λ l. not (list_any (λ y. bytes_eq (f (get_or xs i d)) (f y)) l) && are_distinct (map f (drop (i + 1) xs))) (sym (rest_taken xs (i + 1)))

    -- a name that stands not again
    pub distinct_more : are_distinct (map f (drop i xs)) ≡ are_distinct (map f xs) → list_any (λ y. bytes_eq (f (get_or xs i d)) (f y)) (take (length xs - (i + 1)) (drop (i + 1) xs)) ≡ false → are_distinct (map f (drop (i + 1) xs)) ≡ are_distinct (map f xs)
    distinct_more e k = (λ j. not (sym k j) && are_distinct (map f (drop (i + 1) xs))) ∙ sym distinct_step ∙ e

    -- a name that stands again
    pub repeated : are_distinct (map f (drop i xs)) ≡ are_distinct (map f xs) → list_any (λ y. bytes_eq (f (get_or xs i d)) (f y)) (take (length xs - (i + 1)) (drop (i + 1) xs)) ≡ true → are_distinct (map f xs) ≡ false
    repeated e k = sym e ∙ distinct_step ∙ (λ j. not (k j) && are_distinct (map f (drop (i + 1) xs)))

pub class_names_seen : (cs : List ClassDef) → map (λ (c : ClassDef). c.name) cs ≡ class_names (map class_tree cs)
class_names_seen [] = refl
class_names_seen (c ∷ cs) = ap (λ l. c.name ∷ l) (class_names_seen cs)

pub extent_names_seen : (cs : List ClassDef) → map (λ (c : ClassDef). c.extent) cs ≡ extent_names (map class_tree cs)
extent_names_seen [] = refl
extent_names_seen (c ∷ cs) = ap (λ l. c.extent ∷ l) (extent_names_seen cs)

pub attribute_names_seen : (es : List (Name × Ty)) → names_of es ≡ names_of (map type_entry es)
attribute_names_seen [] = refl
attribute_names_seen (e ∷ es) = ap (λ l. e.0 ∷ l) (attribute_names_seen es)

pub class_listed : (cs : List ClassDef) (n : List ℕ) → list_any (λ (c : ClassDef). bytes_eq n c.name) cs ≡ is_listed n (class_names (map class_tree cs))
class_listed cs n = listed_seen (λ (c : ClassDef). c.name) n cs ∙ ap (is_listed n) (class_names_seen cs)

all_listed : (es : List (Name × Ty)) (ns : List (List ℕ)) → list_all (λ n. list_any (λ (e : Name × Ty). bytes_eq n e.0) es) ns ≡ list_all (λ n. is_listed n (names_of es)) ns
all_listed es [] = refl
all_listed es (n ∷ ns) = λ j. listed_seen (λ (e : Name × Ty). e.0) n es j && all_listed es ns j

-- a key that is not empty
pub key_seen : (es : List (Name × Ty)) (key : List (List ℕ)) → (key ≡ [] → ⊥) → list_all (λ n. list_any (λ (e : Name × Ty). bytes_eq n e.0) es) key ≡ is_key (names_of es) key
key_seen es [] k = absurd (k refl)
key_seen es (n ∷ ns) k = all_listed es (n ∷ ns)

-- a class, its attributes as the program holds them
pub class_seen : (cs : List (List ℕ)) (k : Class) (es : List (Name × Ty)) → map type_entry es ≡ k.attributes →
    (are_distinct (names_of es) && (list_all (λ (e : Name × Ty). is_stored_type cs (type_tree e.1)) es && list_all (is_key (names_of es)) k.keys)) ≡ is_class cs k
class_seen cs k es e =
    let names = attribute_names_seen es ∙ ap (λ l. names_of l) e in
    let types = sym (list_all-map (λ (a : List ℕ × TypeTree). is_stored_type cs a.1) type_entry es) ∙ ap (list_all (λ (a : List ℕ × TypeTree). is_stored_type cs a.1)) e in
    λ j. are_distinct (names j) && (types j && list_all (is_key (names j)) k.keys)

pub repeated_attribute : (cs : List (List ℕ)) (k : Class) (es : List (Name × Ty)) → map type_entry es ≡ k.attributes → are_distinct (names_of es) ≡ false → false ≡ is_class cs k
repeated_attribute cs k es e p =
    (λ j. sym p j && (list_all (λ (a : Name × Ty). is_stored_type cs (type_tree a.1)) es && list_all (is_key (names_of es)) k.keys))
    ∙ class_seen cs k es e

pub schema_seen : (cs : List ClassDef) →
    (are_distinct (map (λ (c : ClassDef). c.name) cs) && (are_distinct (map (λ (c : ClassDef). c.extent) cs) && list_all (λ (c : ClassDef). is_class (class_names (map class_tree cs)) (class_tree c)) cs)) ≡ is_schema (map class_tree cs)
schema_seen cs =
    let each = sym (list_all-map (is_class (class_names (map class_tree cs))) class_tree cs) in
    λ j. are_distinct (class_names_seen cs j) && (are_distinct (extent_names_seen cs j) && each j)

pub repeated_class : (cs : List ClassDef) → are_distinct (map (λ (c : ClassDef). c.name) cs) ≡ false → false ≡ is_schema (map class_tree cs)
repeated_class cs p =
    (λ j. sym p j && (are_distinct (map (λ (c : ClassDef). c.extent) cs) && list_all (λ (c : ClassDef). is_class (class_names (map class_tree cs)) (class_tree c)) cs))
    ∙ schema_seen cs

-- ---- what a schema's tables are made of

all_parts : (a b c : Bool) → (a && (b && c)) ≡ true → (a ≡ true) × (b ≡ true) × (c ≡ true)
all_parts true true true h = (refl, refl, refl)
all_parts true true false h = absurd (cc)
all_parts true false c h = absurd (cc)
all_parts false b c h = absurd (cc)

pub parts_of_schema : (S : Classes) → is_schema S ≡ true → (are_distinct (class_names S) ≡ true) × (are_distinct (extent_names S) ≡ true) × (list_all (is_class (class_names S)) S ≡ true)
parts_of_schema S h = all_parts (are_distinct (class_names S)) (are_distinct (extent_names S)) (list_all (is_class (class_names S)) S) h

module _ (cs : List ClassDef) (h : is_schema (map class_tree cs) ≡ true) where
  pub class_names_apart : are_distinct (map (λ (c : ClassDef). c.name) cs) ≡ true
  class_names_apart = ap are_distinct (class_names_seen cs) ∙ (parts_of_schema (map class_tree cs) h).0

  pub extent_names_apart : are_distinct (map (λ (c : ClassDef). c.extent) cs) ≡ true
  extent_names_apart = ap are_distinct (extent_names_seen cs) ∙ (parts_of_schema (map class_tree cs) h).1

each_apart : (ns : List (List ℕ)) (ks : Classes) → list_all (is_class ns) ks ≡ true → Each (λ (k : Class). are_distinct (names_of k.attributes) ≡ true) ks
each_apart ns [] h = tt
each_apart ns (k ∷ ks) h = let p = both_true (is_class ns k) (list_all (is_class ns) ks) h in ((all_parts (are_distinct (names_of k.attributes)) (list_all (λ (e : List ℕ × TypeTree). is_stored_type ns e.1) k.attributes) (list_all (is_key (names_of k.attributes)) k.keys) p.0).0, each_apart ns ks p.1)

pub attribute_names_apart : (S : Classes) → is_schema S ≡ true → Each (λ (k : Class). are_distinct (names_of k.attributes) ≡ true) S
attribute_names_apart S h = each_apart (class_names S) S (parts_of_schema S h).2

-- ---- look-ups

pub choose : {X Y : Type 0} (v : X → Y) (b : Bool) (x : X) (r : Option X) (o : Option Y) → option_map v r ≡ o → option_map v (cond b (Some x) r) ≡ cond b (Some (v x)) o
choose v true x r o h = refl
choose v false x r o h = h

choose_then : {X Y : Type 0} (v : X → Option Y) (b : Bool) (x : X) (r : Option X) (o : Option Y) → option_and_then v r ≡ o → option_and_then v (cond b (Some x) r) ≡ cond b (v x) o
choose_then v true x r o h = refl
choose_then v false x r o h = h

pub attribute_of_class : (S : Classes) (c a : List ℕ) → option_and_then (λ (k : Class). look_up a k.attributes) (class_named S c) ≡ attribute_type S c a
attribute_of_class [] c a = refl
attribute_of_class (k ∷ ks) c a = choose_then (λ (d : Class). look_up a d.attributes) (bytes_eq c k.name) k (class_named ks c) (attribute_type ks c a) (attribute_of_class ks c a)
