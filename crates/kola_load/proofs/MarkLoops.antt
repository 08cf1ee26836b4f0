-- Steps of loops over lists that are seen through a view: the first fault so far, the names so far, the copies so far.
use Rattle.std.proofs.Common.{◌≡◌, ◌<◌, ◌+◌, ℕ, not, List, [], ◌∷◌, ◌++◌, length, get_or, map, drop, take, Option, fold, refl, sym, ap, subst, ◌∙◌, append_assoc}
use Rattle.std.proofs.lemmas.List.{drop_more, take_more, get_or-map, length-map, append-nil, map-append}
use Rattle.kola_core.specs.NameLists.{is_listed, with_name}
use Rattle.kola_load.specs.declared.schema_fault.Mark.{Mark}
use Rattle.kola_load.specs.declared.schema_fault.NameWhy.{NameWhy}
use Rattle.kola_load.specs.declared.schema_fault.NameWhy.TheVariants.{TwiceDefined, UnknownClass, UnknownKeyAttribute}
use Rattle.kola_load.specs.declared.schema_tree.AttributeAt as tree
use Rattle.kola_load.specs.declared.schema_tree.ClassAt as class
use Rattle.kola_load.specs.SchemaTree.{Named, TypeAt, AInt, AStr, ABool, ASet, AClass, AttributeAt, ClassAt}
use Rattle.kola_load.specs.SchemaFaults.{names, class_names, extents, attributes}
use Rattle.kola_load.specs.FirstMarks.{earlier, unless, first_of, not_allowed, names_from, twice_from, twice, unknown_class, unknown_keys, unknown_types, first_in_class, first_mark}
use Rattle.kola_load.specs.SchemaViews.{named_view, attribute_view, class_view}
use Rattle.kola_load.proofs.FirstMarkLaws.{Agree, added}

-- the entry at a place and those behind it, as they are seen
pub drop_seen : {X A : Type 0} (view : X → A) (xs : List X) (i : ℕ) (d : X) → i < length xs → drop i (map view xs) ≡ view (get_or xs i d) ∷ drop (i + 1) (map view xs)
drop_seen view xs i d p =
    drop_more (map view xs) i (view d) (subst (λ n. i < n) (sym (length-map xs view)) p)
    ∙ (λ j. get_or-map view xs i d (view d) p j ∷ drop (i + 1) (map view xs))

-- one more entry is looked at
pub first_step : {X A : Type 0} (f : A → Option Mark) (view : X → A) (xs : List X) (i : ℕ) (d : X) (best found new all : Option Mark) → i < length xs → found ≡ f (view (get_or xs i d)) → new ≡ earlier best found
    → fold (λ best x. earlier best (f x)) best (drop i (map view xs)) ≡ all → fold (λ best x. earlier best (f x)) new (drop (i + 1) (map view xs)) ≡ all
first_step f view xs i d best found new all p e k h =
    ap (λ n. fold (λ best x. earlier best (f x)) n (drop (i + 1) (map view xs))) (k ∙ ap (earlier best) e)
    ∙ sym (ap (fold (λ best x. earlier best (f x)) best) (drop_seen view xs i d p))
    ∙ h

-- one more name is seen
module _ {X : Type 0} (view : X → Named) (xs : List X) (i : ℕ) (d : X) (p : i < length xs) (seen new : List (List ℕ)) (e : new ≡ with_name seen (view (get_or xs i d)).name) where
  pub names_step : (all : List (List ℕ)) → names_from seen (drop i (map view xs)) ≡ all → names_from new (drop (i + 1) (map view xs)) ≡ all
  names_step all h = ap (λ s. names_from s (drop (i + 1) (map view xs))) e ∙ sym (ap (names_from seen) (drop_seen view xs i d p)) ∙ h

  pub twice_step : (best found first all : Option Mark) → found ≡ unless (not (is_listed (view (get_or xs i d)).name seen)) TwiceDefined (view (get_or xs i d)) → first ≡ earlier best found
      → twice_from seen best (drop i (map view xs)) ≡ all → twice_from new first (drop (i + 1) (map view xs)) ≡ all
  twice_step best found first all f k h =
      (λ j. twice_from (e j) ((k ∙ ap (earlier best) f) j) (drop (i + 1) (map view xs)))
      ∙ sym (ap (twice_from seen best) (drop_seen view xs i d p))
      ∙ h

-- a list of names and its table have the same names
table_agrees : (ns : List Named) (s t : List (List ℕ)) → Agree s t → Agree (names_from s ns) (t ++ names ns)
table_agrees [] s t h m = h m ∙ ap (is_listed m) (sym (append-nil t))
table_agrees (n ∷ ns) s t h m =
    table_agrees ns (with_name s n.name) (t ++ n.name ∷ []) (added (is_listed n.name s) n.name s t h refl) m
    ∙ ap (is_listed m) (append_assoc t (n.name ∷ []) (names ns))

same_unless : (s t : List (List ℕ)) → Agree s t → (why : NameWhy) (n : Named) → unless (is_listed n.name s) why n ≡ unless (is_listed n.name t) why n
same_unless s t h why n = ap (λ b. unless b why n) (h n.name)

same_class : (s t : List (List ℕ)) → Agree s t → (x : TypeAt) → unknown_class s x ≡ unknown_class t x
same_class s t h (ASet x) = same_class s t h x
same_class s t h (AClass n) = same_unless s t h UnknownClass n
same_class s t h AInt = refl
same_class s t h AStr = refl
same_class s t h ABool = refl

same_types : (s t : List (List ℕ)) → Agree s t → (xs : List AttributeAt) → unknown_types s xs ≡ unknown_types t xs
same_types s t h xs j = first_of (λ (a : AttributeAt). same_class s t h a.type j) xs

same_keys : (s t : List (List ℕ)) → Agree s t → (ks : List (List Named)) → unknown_keys s ks ≡ unknown_keys t ks
same_keys s t h ks j = first_of (λ k. first_of (λ n. same_unless s t h UnknownKeyAttribute n j) k) ks

same_first : (s t : List (List ℕ)) → Agree s t → (c : ClassAt) → first_in_class s c ≡ first_in_class t c
same_first s t h c = ap (λ o. earlier (not_allowed c) (earlier (twice (attributes c)) (earlier o (unknown_keys (names (attributes c)) c.keys)))) (same_types s t h c.attributes)

-- the parts of the first fault in a class, and of that in a schema
pub class_parts : (known table : List (List ℕ)) (c : ClassAt) (second types keys allowed one two three : Option Mark)
    → table ≡ names_from [] (attributes c) → second ≡ twice (attributes c) → types ≡ unknown_types known c.attributes → keys ≡ unknown_keys table c.keys → allowed ≡ not_allowed c
    → one ≡ earlier types keys → two ≡ earlier second one → three ≡ earlier allowed two → three ≡ first_in_class known c
class_parts known table c second types keys allowed one two three t s y k a e f g =
    let listed : keys ≡ unknown_keys (names (attributes c)) c.keys = k ∙ ap (λ z. unknown_keys z c.keys) t ∙ same_keys (names_from [] (attributes c)) (names (attributes c)) (table_agrees (attributes c) [] [] (λ m. refl)) c.keys in
    g ∙ (λ j. earlier (a j) ((f ∙ (λ i. earlier (s i) ((e ∙ (λ l. earlier (y l) (listed l))) i))) j))

pub schema_parts : (table : List (List ℕ)) (cs : List ClassAt) (second extent inside one two : Option Mark)
    → table ≡ names_from [] (class_names cs) → second ≡ twice (class_names cs) → extent ≡ twice (extents cs) → inside ≡ first_of (first_in_class table) cs
    → one ≡ earlier extent inside → two ≡ earlier second one → two ≡ first_mark cs
schema_parts table cs second extent inside one two t s x i e f =
    let known = names (class_names cs) in
    let all : inside ≡ first_of (first_in_class known) cs = i ∙ ap (λ z. first_of (first_in_class z) cs) t ∙ (λ j. first_of (λ c. same_first (names_from [] (class_names cs)) known (table_agrees (class_names cs) [] [] (λ m. refl)) c j) cs) in
    f ∙ (λ j. earlier (s j) ((e ∙ (λ l. earlier (x l) (all l))) j))

-- the names of the program's lists
pub attributes_seen : (xs : List tree.AttributeAt) → map named_view (map (λ (a : tree.AttributeAt). a.name) xs) ≡ map (λ (a : AttributeAt). a.name) (map attribute_view xs)
attributes_seen [] = refl
attributes_seen (x ∷ xs) = ap (λ (z : List Named). named_view x.name ∷ z) (attributes_seen xs)

pub names_seen : (xs : List class.ClassAt) → map named_view (map (λ (c : class.ClassAt). c.name) xs) ≡ class_names (map class_view xs)
names_seen [] = refl
names_seen (x ∷ xs) = ap (λ (z : List Named). named_view x.name ∷ z) (names_seen xs)

pub extents_seen : (xs : List class.ClassAt) → map named_view (map (λ (c : class.ClassAt). c.extent) xs) ≡ extents (map class_view xs)
extents_seen [] = refl
extents_seen (x ∷ xs) = ap (λ (z : List Named). named_view x.extent ∷ z) (extents_seen xs)

-- one more entry is copied
pub copied_step : {X A B Z : Type 0} (seen : Z → B) (f : A → B) (view : X → A) (xs : List X) (i : ℕ) (d : X) (old new : List Z) (z : Z) → i < length xs → map seen old ≡ take i (map f (map view xs)) → seen z ≡ f (view (get_or xs i d)) → new ≡ old ++ z ∷ []
    → map seen new ≡ take (i + 1) (map f (map view xs))
copied_step seen f view xs i d old new z p h e k =
    let us = map f (map view xs) in
    let here : get_or us i (f (view d)) ≡ f (view (get_or xs i d)) = get_or-map f (map view xs) i (view d) (f (view d)) (subst (λ n. i < n) (sym (length-map xs view)) p) ∙ ap f (get_or-map view xs i d (view d) p) in
    let within : i < length us = subst (λ n. i < n) (sym (length-map (map view xs) f ∙ length-map xs view)) p in
    ap (map seen) k
    ∙ map-append seen old (z ∷ [])
    ∙ (λ j. h j ++ e j ∷ [])
    ∙ sym (take_more us i (f (view d)) within ∙ (λ j. take i us ++ here j ∷ []))

pub map_same : {B : Type 0} (bs : List B) → map (λ b. b) bs ≡ bs
map_same [] = refl
map_same (b ∷ bs) = ap (λ z. b ∷ z) (map_same bs)

-- the same for a list that is seen as it is
pub pushed_step : {X A B : Type 0} (f : A → B) (view : X → A) (xs : List X) (i : ℕ) (d : X) (old new : List B) (b : B) → i < length xs → old ≡ take i (map f (map view xs)) → b ≡ f (view (get_or xs i d)) → new ≡ old ++ b ∷ []
    → new ≡ take (i + 1) (map f (map view xs))
pushed_step f view xs i d old new b p h e k = sym (map_same new) ∙ copied_step (λ z. z) f view xs i d old new b p (map_same old ∙ h) e k
