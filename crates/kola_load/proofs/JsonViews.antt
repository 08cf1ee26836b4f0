-- The data of JSON values as the program holds them, level by level, and of tables of members.
use Rattle.std.proofs.Common.{◌≡◌, ℕ, true, List, [], ◌∷◌, Option, Some, None, option_map, option_copied, cond, Vec, Global, Bor, Ordering, Less, Equal, Greater, is_eq, nat_cmp, refl, sym, ap, ◌∙◌}
use Rattle.std.specs.BTreeMap.{insert_entry, is_at}
use Rattle.std.specs.Cmp.Lexicographic.{slice_cmp}
use Rattle.std.specs.Map.{lookup}
use Rattle.std.specs.Ordering.{match_ordering}
use Rattle.json.specs.Value as json
use Rattle.json.specs.declared.value.Value.{Value, Array, Object}
use Rattle.json.proofs.Trees.{view-Array, view-Object}
use Rattle.serde_json.specs.Data.{Data, null, boolean, number, string, array, object, item, member, put}
use Rattle.serde_json.specs.Find.{get_member}
use Rattle.kola_values.specs.Databases.{Class}
use Rattle.kola_load.specs.Json.{is_object}
use Rattle.kola_load.specs.JsonData.{data_of, items_data, members_data}
use Rattle.kola_load.specs.JsonViews.{view, items_view, Entries, listed_view, members_view, object_of}
use Rattle.kola_load.specs.Loading.{object_fault}
use Rattle.kola_load.specs.Written.{object_in}

-- ---- one level

items_seen : (vs : List (Value Global)) → items_data (json.items_view vs) ≡ items_view vs
items_seen [] = refl
items_seen (v ∷ vs) = ap (item (view v)) (items_seen vs)

pub array_view : (v : Vec (Value Global) Global) → view (Array v) ≡ array (items_view v.items)
array_view v = ap data_of (view-Array v) ∙ ap array (items_seen v.items)

pub object_listed : (v : Vec (Bor (List ℕ) × Value Global) Global) → view (Object v) ≡ listed_view v.items
object_listed v = ap data_of (view-Object v)

-- ---- tables

table_match_ordering : (o : Ordering) (a b c : Entries) → members_view (match_ordering o a b c) ≡ match_ordering o (members_view a) (members_view b) (members_view c)
table_match_ordering Less a b c = refl
table_match_ordering Equal a b c = refl
table_match_ordering Greater a b c = refl

pub inserted : (es : Entries) (k : Bor (List ℕ)) (v : Value Global) → members_view (insert_entry (λ x y. slice_cmp nat_cmp x.now y.now) es k v) ≡ put k.now (view v) (members_view es)
inserted [] k v = refl
inserted (e ∷ es) k v =
    table_match_ordering (slice_cmp nat_cmp k.now e.0.now) _ _ _ ∙ ap (λ ms. match_ordering (slice_cmp nat_cmp k.now e.0.now) (member k.now (view v) (members_view (e ∷ es))) (member e.0.now (view v) (members_view es)) (member e.0.now (view e.1) ms)) (inserted es k v)

-- a table that takes the members of a list one by one
pub one_more : (e : Bor (List ℕ) × Value Global) (now rest es after : Entries) (all : Data) → now ≡ e ∷ rest → after ≡ insert_entry (λ x y. slice_cmp nat_cmp x.now y.now) es e.0 e.1
    → object (members_data (json.members_view now) (members_view es)) ≡ all → object (members_data (json.members_view rest) (members_view after)) ≡ all
one_more e now rest es after all is h so_far =
    ap (λ ms. object (members_data (json.members_view rest) ms)) (ap members_view h ∙ inserted es e.0 e.1) ∙ ap (λ l. object (members_data (json.members_view l) (members_view es))) (sym is) ∙ so_far

found_or : (o : Ordering) (v : Value Global) (rest : Option (Value Global)) (d : Option Data) → option_map view rest ≡ d → option_map view (cond (is_eq o) (Some v) rest) ≡ match_ordering o d (Some (view v)) d
found_or Less v rest d e = e
found_or Equal v rest d e = refl
found_or Greater v rest d e = e

pub looked_up : (n : List ℕ) (es : Entries) → option_map view (lookup (is_at (λ k. slice_cmp nat_cmp n k.now)) es) ≡ get_member n (members_view es)
looked_up n [] = refl
looked_up n (e ∷ es) = found_or (slice_cmp nat_cmp n e.0.now) e.1 _ _ (looked_up n es)

pub view_of_ref : (r : Option (Bor (Value Global))) → option_map (λ x. view x.now) r ≡ option_map view (option_copied r)
view_of_ref None = refl
view_of_ref (Some x) = refl

pub data_of_ref : (r : Option (Bor (Value Global))) → option_map (λ x. view x.now) r ≡ option_map data_of (option_map (λ x. json.value_view x.now) r)
data_of_ref None = refl
data_of_ref (Some x) = refl

-- ---- a value that is no object

pub an_object : (d : Data) → is_object d ≡ true → object_of d ≡ d
an_object null e = absurd (cc)
an_object (boolean b) e = absurd (cc)
an_object (number n) e = absurd (cc)
an_object (string s) e = absurd (cc)
an_object (array ds) e = absurd (cc)
an_object (object ms) e = refl

pub same_fault : (there : _) (k : Class) (d : Data) → object_fault there k (object_of d) ≡ object_fault there k d
same_fault there k null = refl
same_fault there k (boolean b) = refl
same_fault there k (number n) = refl
same_fault there k (string s) = refl
same_fault there k (array ds) = refl
same_fault there k (object ms) = refl

pub same_object : (k : Class) (d : Data) → object_in k (object_of d) ≡ object_in k d
same_object k null = refl
same_object k (boolean b) = refl
same_object k (number n) = refl
same_object k (string s) = refl
same_object k (array ds) = refl
same_object k (object ms) = refl
