-- The table of the ids of each class, as it grows.
use Rattle.std.proofs.Common.{◌≡◌, ℕ, ◌+◌, ◌<◌, Bool, true, false, cond, List, [], ◌∷◌, ◌++◌, Option, Some, None, length, get_or, take, string_bytes, String, sym, ap, ◌∙◌, refl}
use Rattle.std.specs.Option.{option_map_or}
use Rattle.std.specs.Ordering.{nat_cmp}
use Rattle.std.specs.Str.{bytes_eq}
use Rattle.std.specs.String.{string_cmp}
use Rattle.std.specs.BTreeMap as tree
use Rattle.std.specs.BTreeSet.{BTreeSet, contains}
use Rattle.std.specs.declared.alloc.Global.{Global}
use Rattle.std.proofs.lemmas.Map.Text.{btree_map_updates_text}
use Rattle.serde_json.specs.Data.{Data}
use Rattle.kola_values.specs.Databases.{Class, Classes}
use Rattle.kola_core.specs.NameLists.{is_listed}
use Rattle.kola_schema.specs.Schemas.{class_named, class_names}
use Rattle.std.proofs.lemmas.List.{take_more}
use Rattle.kola_schema.specs.Schemas.{are_distinct}
use Rattle.kola_values.proofs.Anys.{bool_same}
use Rattle.kola_values.proofs.Truth.{both_false}
use Rattle.kola_values.proofs.SameTypes.{name_equal, name_itself}
use Rattle.kola_load.proofs.ClassPlaces.{new_name}
use Rattle.kola_load.specs.Ids.{AreIds, AreAllIds, there}
use Rattle.kola_load.specs.Written.{is_there, is_taken, extent_of}
use Rattle.kola_load.specs.declared.ids.Ids.{Ids}

picked : {A B : Type 0} (f : A → B) (b : Bool) (x : A) (o : Option A) (d : B) → option_map_or f (cond b (Some x) o) d ≡ cond b (f x) (option_map_or f o d)
picked f true x o d = refl
picked f false x o d = refl

pub updated : (m n : tree.BTreeMap (String Global) (BTreeSet ℕ)) (k : String Global) (ids : BTreeSet ℕ) → tree.Updates string_cmp m n k (Some ids) → (class : List ℕ) → string_bytes k ≡ class → (r : List ℕ × ℕ) → there (record { by_class = n }) r ≡ cond (bytes_eq class r.0) (contains nat_cmp ids r.1) (there (record { by_class = m }) r)
updated m n k ids u class e r =
    ap (λ o. option_map_or (λ s. contains nat_cmp s r.1) o false) (btree_map_updates_text (string_bytes k) m n (Some ids) u r.0)
    ∙ picked (λ s. contains nat_cmp s r.1) (bytes_eq (string_bytes k) r.0) ids (tree.get_by_text m r.0) false
    ∙ ap (λ c. cond (bytes_eq c r.0) (contains nat_cmp ids r.1) (there (record { by_class = m }) r)) e

-- ---- one more class

pub bytes_comm : (m n : List ℕ) → bytes_eq m n ≡ bytes_eq n m
bytes_comm m n = bool_same (bytes_eq m n) (bytes_eq n m) (λ h. ap (bytes_eq n) (name_equal m n h) ∙ name_itself n) (λ h. ap (bytes_eq m) (name_equal n m h) ∙ name_itself m)

module _ (j : Data) (k : Class) (r : List ℕ × ℕ) where
  here : Class → Bool
  here c = is_taken r.1 (extent_of j c)

  there_more : (S : Classes) → is_listed k.name (class_names S) ≡ false → is_there (S ++ k ∷ []) j r ≡ cond (bytes_eq k.name r.0) (is_taken r.1 (extent_of j k)) (is_there S j r)
  there_more [] n = picked (λ (c : Class). is_taken r.1 (extent_of j c)) (bytes_eq r.0 k.name) k None false ∙ ap (λ b. cond b (is_taken r.1 (extent_of j k)) false) (bytes_comm r.0 k.name)
  there_more (h ∷ S) n =
      let p = both_false (bytes_eq k.name h.name) (is_listed k.name (class_names S)) n in
      at (bytes_eq r.0 h.name) refl p.0 (there_more S p.1)
    where
      at : (b : Bool) → bytes_eq r.0 h.name ≡ b → bytes_eq k.name h.name ≡ false → is_there (S ++ k ∷ []) j r ≡ cond (bytes_eq k.name r.0) (is_taken r.1 (extent_of j k)) (is_there S j r)
          → option_map_or (λ (c : Class). is_taken r.1 (extent_of j c)) (cond b (Some h) (class_named (S ++ k ∷ []) r.0)) false
          ≡ cond (bytes_eq k.name r.0) (is_taken r.1 (extent_of j k)) (option_map_or (λ (c : Class). is_taken r.1 (extent_of j c)) (cond b (Some h) (class_named S r.0)) false)
      at true e f g = ap (λ b. cond b (is_taken r.1 (extent_of j k)) (is_taken r.1 (extent_of j h))) (sym (ap (bytes_eq k.name) (name_equal r.0 h.name e) ∙ f))
      at false e f g = g

module _ (S : Classes) (j : Data) (i : ℕ) (k : Class) (p : i < length S) (e : k ≡ get_or S i k) (d : are_distinct (class_names S) ≡ true) where
  pub class_more : (t u : Ids) (ids : BTreeSet ℕ) → AreAllIds t (take i S) j → AreIds ids (extent_of j k)
      → ((r : List ℕ × ℕ) → there u r ≡ cond (bytes_eq k.name r.0) (contains nat_cmp ids r.1) (there t r)) → AreAllIds u (take (i + 1) S) j
  class_more t u ids all these h r =
      h r ∙ (λ q. cond (bytes_eq k.name r.0) (these r.1 q) (all r q))
      ∙ sym (there_more j k r (take i S) (new_name S i k p e d))
      ∙ ap (λ T. is_there T j r) (sym (take_more S i k p ∙ ap (λ c. take i S ++ c ∷ []) (sym e)))
