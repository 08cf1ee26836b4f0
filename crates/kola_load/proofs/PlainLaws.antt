-- A schema that is spelled and has no fault is well formed.
use Rattle.std.proofs.Common.{◌≡◌, inl, inr, ℕ, Bool, true, false, not, ◌&&◌, ◌||◌, List, [], ◌∷◌, ◌++◌, map, refl, ap, subst, ◌∙◌}
use Rattle.std.specs.List.{list_all}
use Rattle.std.specs.Str.{bytes_eq}
use Rattle.kola_base.specs.Placed.{Placed}
use Rattle.kola_values.specs.Types.{TypeTree}
use Rattle.kola_core.specs.NameLists.{is_listed}
use Rattle.kola_schema.specs.Schemas.{are_distinct, names_of, class_names as plain_class_names, extent_names, is_stored_type, is_key, is_class, is_schema}
use Rattle.kola_values.proofs.SameTypes.{name_equal, name_itself}
use Rattle.kola_load.specs.SchemaTree.{Named, TypeAt, AInt, AStr, ABool, ASet, AClass, AttributeAt, ClassAt}
use Rattle.kola_load.specs.SchemaFaults.{mark, Among, names, class_names, extents, attributes, IsTwice, IsUnknown, IsUnknownKey, StandsInClass, Stands}
use Rattle.kola_load.specs.PlainSchemas.{plain_type, plain_attribute, plain_class, plain, AreSome, HaveKeys}
use Rattle.kola_load.specs.SchemaGrammar.{◌▸◌, IsSign, IsWord, KeyText, MayComma, KeysText, AttributesText, BodyText, ClassText, SchemaText}
use Rattle.kola_base.specs.declared.sign.Sign.TheVariants.{Open, LeftBrace}
use Rattle.kola_base.specs.Named.{NameText}
use Rattle.kola_load.specs.declared.schema_alphabet.Word.TheVariants as word
use Rattle.kola_parse.specs.Texts.{◌·◌}
use Rattle.kola_load.specs.declared.schema_fault.Mark.{Mark}
use Rattle.kola_load.specs.declared.schema_fault.NameWhy.TheVariants.{TwiceDefined, UnknownClass, UnknownKeyAttribute}
use Rattle.kola_load.proofs.FirstMarkLaws.{listed_end}

-- nothing is marked
abbrev Clean : (Mark → Type 0) → Type 0
Clean P = (m : Mark) → P m → ⊥

true_by : (b : Bool) → (b ≡ false → ⊥) → b ≡ true
true_by true h = refl
true_by false h = absurd (h refl)

false_by : (b : Bool) → (b ≡ true → ⊥) → b ≡ false
false_by true h = absurd (h refl)
false_by false h = refl

both_are : (a b : Bool) → a ≡ true → b ≡ true → (a && b) ≡ true
both_are a b p q = (λ j. p j && q j)

-- ---- distinct names

-- a name that is seen stands not again
apart : (ns : List Named) (seen : List (List ℕ)) (x : List ℕ) → is_listed x seen ≡ true → Clean (IsTwice seen ns) → is_listed x (names ns) ≡ false
apart [] seen x h k = refl
apart (n ∷ ns) seen x h k =
    let other : bytes_eq x n.name ≡ false = false_by (bytes_eq x n.name) (λ e. k (mark TwiceDefined n) (inl (subst (λ y. is_listed y seen ≡ true) (name_equal x n.name e) h, refl))) in
    let more : is_listed x (seen ++ n.name ∷ []) ≡ true = listed_end x n.name seen ∙ ap (λ (b : Bool). b || bytes_eq x n.name) h in
    (λ j. other j || apart ns (seen ++ n.name ∷ []) x more (λ m t. k m (inr t)) j)

distinct : (ns : List Named) (seen : List (List ℕ)) → Clean (IsTwice seen ns) → are_distinct (names ns) ≡ true
distinct [] seen k = refl
distinct (n ∷ ns) seen k =
    let here : is_listed n.name (seen ++ n.name ∷ []) ≡ true = listed_end n.name n.name seen ∙ (λ j. is_listed n.name seen || name_itself n.name j) ∙ or_true (is_listed n.name seen) in
    (λ j. not (apart ns (seen ++ n.name ∷ []) n.name here (λ m t. k m (inr t)) j) && distinct ns (seen ++ n.name ∷ []) (λ m t. k m (inr t)) j)
  where
    or_true : (b : Bool) → (b || true) ≡ true
    or_true true = refl
    or_true false = refl

-- ---- classes

stored : (cs : List (List ℕ)) (t : TypeAt) → Clean (IsUnknown cs t) → is_stored_type cs (plain_type t) ≡ true
stored cs (ASet t) k = stored cs t k
stored cs (AClass n) k = true_by (is_listed n.name cs) (λ e. k (mark UnknownClass n) (e, refl))
stored cs AInt k = refl
stored cs AStr k = refl
stored cs ABool k = refl

all_stored : (cs : List (List ℕ)) (xs : List AttributeAt) → Clean (λ m. Among (λ (a : AttributeAt). IsUnknown cs a.type m) xs) → list_all (λ (e : List ℕ × TypeTree). is_stored_type cs e.1) (map plain_attribute xs) ≡ true
all_stored cs [] k = refl
all_stored cs (x ∷ xs) k = both_are _ _ (stored cs x.type (λ m u. k m (inl u))) (all_stored cs xs (λ m u. k m (inr u)))

all_listed : (known : List (List ℕ)) (ns : List Named) → Clean (IsUnknownKey known ns) → list_all (λ n. is_listed n known) (names ns) ≡ true
all_listed known [] k = refl
all_listed known (n ∷ ns) k = both_are _ _ (true_by (is_listed n.name known) (λ e. k (mark UnknownKeyAttribute n) (inl (e, refl)))) (all_listed known ns (λ m u. k m (inr u)))

key_is : (known : List (List ℕ)) (ns : List Named) (ks : List (List Named)) → AreSome (ns ∷ ks) → Clean (IsUnknownKey known ns) → is_key known (names ns) ≡ true
key_is known [] ks h k = absurd h
key_is known (n ∷ ns) ks h k = all_listed known (n ∷ ns) k

some_left : (ns : List Named) (ks : List (List Named)) → AreSome (ns ∷ ks) → AreSome ks
some_left [] ks h = absurd h
some_left (n ∷ ns) ks h = h

all_keys : (known : List (List ℕ)) (ks : List (List Named)) → AreSome ks → Clean (λ m. Among (λ k. IsUnknownKey known k m) ks) → list_all (is_key known) (map names ks) ≡ true
all_keys known [] h k = refl
all_keys known (ns ∷ ks) h k = both_are _ _ (key_is known ns ks h (λ m u. k m (inl u))) (all_keys known ks (some_left ns ks h) (λ m u. k m (inr u)))

attribute_names : (xs : List AttributeAt) → names_of (map plain_attribute xs) ≡ names (map (λ (a : AttributeAt). a.name) xs)
attribute_names [] = refl
attribute_names (x ∷ xs) = ap (λ (z : List (List ℕ)). x.name.name ∷ z) (attribute_names xs)

class_is : (cs : List (List ℕ)) (c : ClassAt) → AreSome c.keys → Clean (StandsInClass cs c) → is_class cs (plain_class c) ≡ true
class_is cs c h k =
    both_are _ _ (ap are_distinct (attribute_names c.attributes) ∙ distinct (attributes c) [] (λ m t. k m (inr (inl t))))
    (both_are _ _ (all_stored cs c.attributes (λ m u. k m (inr (inr (inl u)))))
    (ap (λ known. list_all (is_key known) (map names c.keys)) (attribute_names c.attributes) ∙ all_keys (names (attributes c)) c.keys h (λ m u. k m (inr (inr (inr u))))))

all_classes : (known : List (List ℕ)) (cs : List ClassAt) → HaveKeys cs → Clean (λ m. Among (λ c. StandsInClass known c m) cs) → list_all (is_class known) (plain cs) ≡ true
all_classes known [] h k = refl
all_classes known (c ∷ cs) h k = both_are _ _ (class_is known c h.0 (λ m u. k m (inl u))) (all_classes known cs h.1 (λ m u. k m (inr u)))

names_plain : (cs : List ClassAt) → plain_class_names (plain cs) ≡ names (class_names cs)
names_plain [] = refl
names_plain (c ∷ cs) = ap (λ (z : List (List ℕ)). c.name.name ∷ z) (names_plain cs)

extents_plain : (cs : List ClassAt) → extent_names (plain cs) ≡ names (extents cs)
extents_plain [] = refl
extents_plain (c ∷ cs) = ap (λ (z : List (List ℕ)). c.extent.name ∷ z) (extents_plain cs)

-- ---- the schema

pub fine_is_schema : (cs : List ClassAt) → HaveKeys cs → ((m : Mark) → Stands cs m → ⊥) → is_schema (plain cs) ≡ true
fine_is_schema cs h k =
    both_are _ _ (ap are_distinct (names_plain cs) ∙ distinct (class_names cs) [] (λ m t. k m (inl t)))
    (both_are _ _ (ap are_distinct (extents_plain cs) ∙ distinct (extents cs) [] (λ m t. k m (inr (inl t))))
    (ap (λ known. list_all (is_class known) (plain cs)) (names_plain cs) ∙ all_classes (names (class_names cs)) cs h (λ m u. k m (inr (inr u)))))

-- ---- keys that are spelled are not empty

not_empty : (k : List Named) (ks : List (List Named)) (w : List Placed) → KeyText k w → AreSome ks → AreSome (k ∷ ks)
not_empty [] ks w t h = absurd t
not_empty (n ∷ ns) ks w t h = h

next_some : (k : List Named) (ks : List (List Named)) (v : List Placed) → MayComma (IsWord word.Key ▸ KeyText k) v → AreSome ks → AreSome (k ∷ ks)
next_some k ks [] (inl t) h = absurd t
next_some k ks (a ∷ []) (inl t) h = absurd t.1
next_some k ks (a ∷ b ∷ v) (inl t) h = not_empty k ks v t.1.1 h
next_some k ks [] (inr t) h = absurd t
next_some k ks (a ∷ v) (inr t) h = not_empty k ks v t.1 h

keys_some : (ks : List (List Named)) (v : List Placed) → KeysText ks v → AreSome ks
keys_some [] v t = tt
keys_some (k ∷ ks) v t = next_some k ks t.front t.first (keys_some ks t.back t.second)

body_some : (d : ℕ) (c : ClassAt) (v : List Placed) → BodyText d c v → AreSome c.keys
body_some d c v t = opened t.back t.second
  where
    opened : (v : List Placed) → (IsSign Open ▸ IsWord word.Extent ▸ (NameText c.extent · (KeysText c.keys · IsSign LeftBrace ▸ AttributesText d c.attributes))) v → AreSome c.keys
    opened [] h = absurd h
    opened (a ∷ []) h = absurd h.1
    opened (a ∷ b ∷ v) h = keys_some c.keys h.1.1.second.front h.1.1.second.first

class_some : (d : ℕ) (c : ClassAt) (v : List Placed) → ClassText d c v → AreSome c.keys
class_some d c [] h = absurd h
class_some d c (t ∷ v) h = body_some d c h.1.front h.1.first

pub spelled_keys : (d : ℕ) (cs : List ClassAt) (v : List Placed) → SchemaText cs d v → HaveKeys cs
spelled_keys d [] v h = tt
spelled_keys d (c ∷ cs) v h = (class_some d c h.front h.first, spelled_keys d cs h.back h.second)
