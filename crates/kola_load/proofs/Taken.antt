-- The members of an object while the elements of extents are taken out of them.
use Rattle.std.proofs.Common.{◌≡◌, ℕ, ◌+◌, ◌<◌, true, false, cond, ◌||◌, List, [], ◌∷◌, ◌++◌, Option, None, length, get_or, take, option_map, BTreeMap, Bor, Global, nat_cmp, refl, sym, ap, subst, ◌∙◌}
use Rattle.std.specs.BTreeMap as tree
use Rattle.std.specs.Cmp.Lexicographic.{slice_cmp}
use Rattle.std.specs.Option.{option_map_or}
use Rattle.std.specs.Str.{bytes_eq}
use Rattle.std.proofs.lemmas.List.{take_more}
use Rattle.std.proofs.lemmas.Map.Text.{btree_map_updates_str}
use Rattle.serde_json.specs.Data.{object}
use Rattle.serde_json.specs.Find.{get_member}
use Rattle.json.specs.declared.value.Value.{Value}
use Rattle.kola_values.specs.Databases.{Class, Classes}
use Rattle.kola_core.specs.NameLists.{is_listed}
use Rattle.kola_schema.specs.Schemas.{are_distinct, extent_names}
use Rattle.kola_values.proofs.Truth.{both_false}
use Rattle.kola_load.specs.Json.{elements}
use Rattle.kola_load.specs.JsonViews.{view, Entries, members_view}
use Rattle.kola_load.specs.Members.{elements_at, AreLeft}
use Rattle.kola_load.specs.Written.{extent_of}
use Rattle.kola_load.proofs.ClassPlaces.{new_extent}
use Rattle.kola_load.proofs.IdTables.{bytes_comm}
use Rattle.kola_load.proofs.JsonViews.{looked_up}

module _ (n : List ℕ) (m : tree.BTreeMap (Bor (List ℕ)) (Value Global)) where
  -- what a table has at a name is the member of the name
  pub member_seen : (r : Option (Value Global)) → r ≡ tree.get_by (λ k. slice_cmp nat_cmp n k.now) m → option_map view r ≡ get_member n (members_view m.entries)
  member_seen r e = ap (option_map view) e ∙ looked_up n m.entries

  pub others_left : (after : tree.BTreeMap (Bor (List ℕ)) (Value Global)) → tree.UpdatesBy (λ x y. slice_cmp nat_cmp x.now y.now) (λ k. slice_cmp nat_cmp n k.now) m after None → AreLeft n m.entries after.entries
  others_left after u q f =
      sym (looked_up q after.entries)
      ∙ ap (option_map view) (btree_map_updates_str n m after None u q ∙ ap (λ b. cond b None (tree.get_by (λ k. slice_cmp nat_cmp q k.now) m)) f)
      ∙ looked_up q m.entries

-- ---- the extents that are not taken yet

abbrev pub AreAhead : Classes → Entries → Entries → Type 0
AreAhead S before now = (n : List ℕ) → is_listed n (extent_names S) ≡ false → get_member n (members_view now) ≡ get_member n (members_view before)

listed_more : (S : Classes) (k : Class) (n : List ℕ) → is_listed n (extent_names (S ++ k ∷ [])) ≡ false → (is_listed n (extent_names S) ≡ false) × (bytes_eq n k.extent ≡ false)
listed_more [] k n h = (refl, (both_false (bytes_eq n k.extent) false h).0)
listed_more (c ∷ S) k n h =
    let p = both_false (bytes_eq n c.extent) (is_listed n (extent_names (S ++ k ∷ []))) h in
    let q = listed_more S k n p.1 in (
      (λ j. p.0 j || q.0 j),
      q.1,
    )

module _ (S : Classes) (i : ℕ) (k : Class) (p : i < length S) (e : k ≡ get_or S i k) (before now : Entries) (ahead : AreAhead (take i S) before now) where
  pub extent_ahead : are_distinct (extent_names S) ≡ true → elements_at k.extent now ≡ extent_of (object (members_view before)) k
  extent_ahead d = ap (λ r. option_map_or elements r []) (ahead k.extent (new_extent S i k p e d))

  pub fewer_ahead : (after : Entries) → AreLeft k.extent now after → AreAhead (take (i + 1) S) before after
  fewer_ahead after left n h =
      let q = listed_more (take i S) k n (subst (λ T. is_listed n (extent_names T) ≡ false) (take_more S i k p ∙ ap (λ c. take i S ++ c ∷ []) (sym e)) h) in
      left n (bytes_comm k.extent n ∙ q.1) ∙ ahead n q.0
