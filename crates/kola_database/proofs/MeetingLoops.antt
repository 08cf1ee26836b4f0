-- Loops of the tests of values and objects.
use Rattle.std.proofs.Common.{◌≡◌, ℕ, ◌+◌, ◌-◌, ◌<◌, ◌≤◌, Bool, true, false, not, ◌&&◌, ◌||◌, List, [], ◌∷◌, length, get_or, map, take, drop, refl, sym, ap, ◌∙◌, arith, cond, Option, Some}
use mathlib.Core.Bool.{and-false}
use Rattle.std.specs.List.{list_any, list_all, find}
use Rattle.std.specs.Option.{option_map}
use Rattle.std.specs.Str.{bytes_eq}
use Rattle.std.proofs.lemmas.List.{drop_all, drop_more, take_all, length-drop}
use Rattle.std.proofs.lemmas.List.Folds.{list_all-map}
use Rattle.kola_core.specs.declared.name.Name.{Name}
use Rattle.kola_core.proofs.Lists.{left_less, length_seen}
use Rattle.kola_values.specs.Values.{ValueTree, VObj, VSet, of_items, of_fields}
use Rattle.kola_values.specs.Types.{TypeTree, TSet, of_type_fields}
use Rattle.kola_values.specs.Order.{same}
use Rattle.kola_values.specs.Sets.{any}
use Rattle.kola_values.specs.Databases.{look_up}
use Rattle.kola_core.specs.NameLists.{is_listed}
use Rattle.kola_schema.specs.Schemas.{are_distinct, names_of}
use Rattle.kola_schema.specs.Meets.{object_values}
use Rattle.kola_database.specs.MeetsTests.{typed_by, fields_typed_by, is_there, no_two}
use Rattle.kola_values.specs.Views.{type_tree, type_entry, value_tree, value_entry}
use Rattle.kola_database.specs.ObjectViews.{object_tree}
use Rattle.kola_values.specs.declared.ty.Ty.{Ty}
use Rattle.kola_values.specs.declared.value.Value.{Value}
use Rattle.kola_database.specs.declared.object.ObjectDef.{ObjectDef}
use Rattle.kola_values.proofs.Anys.{items-of_items}

-- ---- a value and a type

module _ (there : List ℕ → ℕ → Bool) where
  pub set_typed : (vs : List Value) (us : List ValueTree) (t : TypeTree) → map value_tree vs ≡ us → list_all (λ v. typed_by there (value_tree v) t) vs ≡ typed_by there (VSet (of_items us)) (TSet t)
  set_typed vs us t e =
      sym (list_all-map (λ v. typed_by there v t) value_tree vs)
      ∙ ap (list_all (λ v. typed_by there v t)) (e ∙ sym (items-of_items us))

  pub unequal_lengths : (us : List (List ℕ × ValueTree)) (vs : List (List ℕ × TypeTree)) → (length us ≡ length vs → ⊥) → fields_typed_by there (of_fields us) (of_type_fields vs) ≡ false
  unequal_lengths [] [] n = absurd (n refl)
  unequal_lengths [] (v ∷ vs) n = refl
  unequal_lengths (u ∷ us) [] n = refl
  unequal_lengths (u ∷ us) (v ∷ vs) n =
      ap (λ b. (bytes_eq u.0 v.0 && typed_by there u.1 v.1) && b) (unequal_lengths us vs (λ e. n (omega arith)))
      ∙ and-false (bytes_eq u.0 v.0 && typed_by there u.1 v.1)

  -- the first i fields are of the first i types
  pub record IsTypedBelow (us : List (List ℕ × ValueTree)) (vs : List (List ℕ × TypeTree)) (i : ℕ) : Type 0 where
    pub lengths : length us ≡ length vs
    pub rest : fields_typed_by there (of_fields us) (of_type_fields vs) ≡ fields_typed_by there (of_fields (drop i us)) (of_type_fields (drop i vs))

  module _ (xs : List (Name × Value)) (ys : List (Name × Ty)) (us : List (List ℕ × ValueTree)) (vs : List (List ℕ × TypeTree)) (i : ℕ) (e : map value_entry xs ≡ us) (f : map type_entry ys ≡ vs) (b : IsTypedBelow us vs i) where
    at_step : (x : Name × Value) (y : Name × Ty) → i < length xs → i < length ys → x ≡ get_or xs i x → y ≡ get_or ys i y
        → fields_typed_by there (of_fields us) (of_type_fields vs) ≡ ((bytes_eq x.0 y.0 && typed_by there (value_tree x.1) (type_tree y.1)) && fields_typed_by there (of_fields (drop (i + 1) us)) (of_type_fields (drop (i + 1) vs)))
    at_step x y p q g h =
        b.rest
        ∙ (λ j. fields_typed_by there (of_fields (left_less value_entry xs us i x e p g j)) (of_type_fields (left_less type_entry ys vs i y f q h j)))

    pub typed_more : (x : Name × Value) (y : Name × Ty) → i < length xs → i < length ys → x ≡ get_or xs i x → y ≡ get_or ys i y → bytes_eq x.0 y.0 ≡ true → typed_by there (value_tree x.1) (type_tree y.1) ≡ true → IsTypedBelow us vs (i + 1)
    typed_more x y p q g h l t = record {
      lengths = b.lengths;
      rest = at_step x y p q g h ∙ (λ j. (l j && t j) && fields_typed_by there (of_fields (drop (i + 1) us)) (of_type_fields (drop (i + 1) vs)));
    }

    pub other_label : (x : Name × Value) (y : Name × Ty) → i < length xs → i < length ys → x ≡ get_or xs i x → y ≡ get_or ys i y → bytes_eq x.0 y.0 ≡ false → fields_typed_by there (of_fields us) (of_type_fields vs) ≡ false
    other_label x y p q g h l = at_step x y p q g h ∙ (λ j. (l j && typed_by there (value_tree x.1) (type_tree y.1)) && fields_typed_by there (of_fields (drop (i + 1) us)) (of_type_fields (drop (i + 1) vs)))

    pub other_type : (x : Name × Value) (y : Name × Ty) → i < length xs → i < length ys → x ≡ get_or xs i x → y ≡ get_or ys i y → typed_by there (value_tree x.1) (type_tree y.1) ≡ false → fields_typed_by there (of_fields us) (of_type_fields vs) ≡ false
    other_type x y p q g h t =
        at_step x y p q g h
        ∙ (λ j. (bytes_eq x.0 y.0 && t j) && fields_typed_by there (of_fields (drop (i + 1) us)) (of_type_fields (drop (i + 1) vs)))
        ∙ ap (λ c. c && fields_typed_by there (of_fields (drop (i + 1) us)) (of_type_fields (drop (i + 1) vs))) (and-false (bytes_eq x.0 y.0))

    pub typed_end : length xs ≤ i → fields_typed_by there (of_fields us) (of_type_fields vs) ≡ true
    typed_end p =
        let m = length_seen value_entry xs us e in
        let k = b.lengths in
        b.rest ∙ (λ j. fields_typed_by there (of_fields (drop_all i us (omega arith) j)) (of_type_fields (drop_all i vs (omega arith) j)))

-- ---- an object of a list

pub there_seen : (os : List ObjectDef) (c : List ℕ) (i : ℕ) → list_any (λ (o : ObjectDef). same (VObj c i) (VObj o.class o.id)) os ≡ is_there (map object_tree os) c i
unfolding any
there_seen [] c i = refl
there_seen (o ∷ os) c i = ap (λ b. same (VObj c i) (VObj o.class o.id) || b) (there_seen os c i)

pub values_seen : (os : List ObjectDef) → map (λ (o : ObjectDef). VObj o.class o.id) os ≡ object_values (map object_tree os)
values_seen [] = refl
values_seen (o ∷ os) = ap (λ l. VObj o.class o.id ∷ l) (values_seen os)

-- ---- look-ups

pub any_seen : {X A : Type 0} (v : X → A) (q : A → Bool) (xs : List X) → list_any (λ x. q (v x)) xs ≡ list_any q (map v xs)
any_seen v q [] = refl
any_seen v q (x ∷ xs) = ap (λ b. q (v x) || b) (any_seen v q xs)

module _ {T A : Type 0} (v : T → A) where
  found : (es : List (Name × T)) (n : List ℕ) → option_map (λ (e : Name × T). v e.1) (find (λ (e : Name × T). bytes_eq n e.0) es) ≡ look_up n (map (λ (e : Name × T). (e.0, v e.1)) es)
  found [] n = refl
  found (e ∷ es) n = at (bytes_eq n e.0) (found es n)
    where
      at : (b : Bool) → option_map (λ (d : Name × T). v d.1) (find (λ (d : Name × T). bytes_eq n d.0) es) ≡ look_up n (map (λ (d : Name × T). (d.0, v d.1)) es)
          → option_map (λ (d : Name × T). v d.1) (cond b (Some e) (find (λ (d : Name × T). bytes_eq n d.0) es)) ≡ cond b (Some (v e.1)) (look_up n (map (λ (d : Name × T). (d.0, v d.1)) es))
      at true h = refl
      at false h = h

  pub entry_found : (es : List (Name × T)) (us : List (List ℕ × A)) → map (λ (e : Name × T). (e.0, v e.1)) es ≡ us → (n : List ℕ) (r : Option (Name × T)) → r ≡ find (λ (e : Name × T). bytes_eq n e.0) es → option_map (λ (e : Name × T). v e.1) r ≡ look_up n us
  entry_found es us e n r h = ap (option_map (λ (d : Name × T). v d.1)) h ∙ found es n ∙ ap (look_up n) e

-- ---- an object and its class

labels_seen : (es : List (Name × Value)) → map (λ (e : Name × Value). e.0) es ≡ names_of (map value_entry es)
labels_seen [] = refl
labels_seen (e ∷ es) = ap (λ l. e.0 ∷ l) (labels_seen es)

module _ (vs : List (Name × Value)) (us : List (List ℕ × ValueTree)) (e : map value_entry vs ≡ us) where
  pub distinct_labels : are_distinct (map (λ (v : Name × Value). v.0) vs) ≡ are_distinct (names_of us)
  distinct_labels = ap are_distinct (labels_seen vs ∙ ap (λ l. names_of l) e)

  pub typed_entries : (q : List ℕ × ValueTree → Bool) → list_all (λ (v : Name × Value). q (value_entry v)) vs ≡ list_all q us
  typed_entries q = sym (list_all-map q value_entry vs) ∙ ap (list_all q) e

  one_label : (n : List ℕ) → list_any (λ (v : Name × Value). bytes_eq n v.0) vs ≡ is_listed n (names_of us)
  one_label n = any_seen (λ (v : Name × Value). v.0) (bytes_eq n) vs ∙ ap (is_listed n) (labels_seen vs ∙ ap (λ l. names_of l) e)

  pub whole_entries : (ts : List (Name × Ty)) (ws : List (List ℕ × TypeTree)) → map type_entry ts ≡ ws → list_all (λ (t : Name × Ty). list_any (λ (v : Name × Value). bytes_eq t.0 v.0) vs) ts ≡ list_all (λ w. is_listed w.0 (names_of us)) ws
  whole_entries ts ws f = each_label ts ∙ sym (list_all-map (λ w. is_listed w.0 (names_of us)) type_entry ts) ∙ ap (list_all (λ w. is_listed w.0 (names_of us))) f
    where
      each_label : (ts : List (Name × Ty)) → list_all (λ (t : Name × Ty). list_any (λ (v : Name × Value). bytes_eq t.0 v.0) vs) ts ≡ list_all (λ (t : Name × Ty). is_listed t.0 (names_of us)) ts
      each_label [] = refl
      each_label (t ∷ ts) = λ j. one_label t.0 j && each_label ts j

pub none_passes : {X : Type 0} (q : X → Bool) (xs : List X) → ((x : X) → q x ≡ false) → list_any q xs ≡ false
none_passes q [] f = refl
none_passes q (x ∷ xs) f = λ j. f x j || none_passes q xs f j

-- ---- a walk over pairs

rest_taken : {X : Type 0} (xs : List X) (i : ℕ) → take (length xs - i) (drop i xs) ≡ drop i xs
rest_taken xs i = take_all (length xs - i) (drop i xs) (omega (arith, length-drop i xs))

module _ {X A : Type 0} (v : X → A) (r : A → A → Bool) (xs : List X) (i : ℕ) (x : X) (p : i < length xs) (h : x ≡ get_or xs i x) where
  two_step : no_two r (map v (drop i xs)) ≡ (not (list_any (λ y. r (v x) (v y)) (take (length xs - (i + 1)) (drop (i + 1) xs))) && no_two r (map v (drop (i + 1) xs)))
  two_step =
      ap (λ l. no_two r (map v l)) (drop_more xs i x p ∙ ap (λ z. z ∷ drop (i + 1) xs) (sym h))
      ∙ ap (λ b. not b && no_two r (map v (drop (i + 1) xs))) (sym (any_seen v (r (v x)) (drop (i + 1) xs)))
      ∙ ap (λ l. not (list_any (λ y. r (v x) (v y)) l) && no_two r (map v (drop (i + 1) xs))) (sym (rest_taken xs (i + 1)))

  -- no later element is related to this one
  pub none_later : no_two r (map v (drop i xs)) ≡ no_two r (map v xs) → list_any (λ y. r (v x) (v y)) (take (length xs - (i + 1)) (drop (i + 1) xs)) ≡ false → no_two r (map v (drop (i + 1) xs)) ≡ no_two r (map v xs)
  none_later e k = (λ j. not (sym k j) && no_two r (map v (drop (i + 1) xs))) ∙ sym two_step ∙ e

  -- some later element is
  pub one_later : no_two r (map v (drop i xs)) ≡ no_two r (map v xs) → list_any (λ y. r (v x) (v y)) (take (length xs - (i + 1)) (drop (i + 1) xs)) ≡ true → no_two r (map v xs) ≡ false
  one_later e k = sym e ∙ two_step ∙ (λ j. not (k j) && no_two r (map v (drop (i + 1) xs)))

-- ---- tests one after the other

pub then_holds : (a b r : Bool) → a ≡ true → r ≡ b → r ≡ (a && b)
then_holds a b r p q = q ∙ ap (λ c. c && b) (sym p)

pub else_fails : (a b r : Bool) → a ≡ false → r ≡ false → r ≡ (a && b)
else_fails a b r p q = q ∙ ap (λ c. c && b) (sym p)
