-- No fault of a value is that there is no value, and a text has one answer.
use Rattle.std.proofs.Common.{◌≡◌, ℕ, Bool, true, false, List, [], ◌∷◌, ◌++◌, Option, Some, None, length, option_map, ap, ◌⊎◌, inl, inr, refl, sym, subst, true≢false, ◌∙◌, Err}
use Rattle.std.specs.Option.{option_or}
use Rattle.serde_json.specs.Data.{Data}
use Rattle.std.specs.Str.{is_utf8}
use Rattle.std.proofs.lemmas.Str.{IsUtf8-from_is_utf8, is_utf8-from_IsUtf8}
use Rattle.serde_json.specs.Read.{read}
use Rattle.serde_json.specs.Find.{get}
use Rattle.kola_values.specs.Types.{TypeTree}
use Rattle.kola_values.specs.Databases.{Class, Object, Classes, Objects}
use Rattle.kola_load.specs.Json.{elements, own_id}
use Rattle.kola_load.specs.Written.{id_in, written, extent_of, is_there, objects_in}
use Rattle.kola_load.specs.Loaded.{json_text, Reads, IsLoaded, IsFirstFault, OneAnswer, HasAnswer}
use Rattle.kola_database.specs.Stored.{Database}
use Rattle.kola_load.specs.Loading.{Test, unless, first_of, first_among, members_fault, id_fault, element_fault, array_fault, extent_fault, value_fault, attribute_fault, object_fault, objects_fault, key_fault, keys_fault, db_fault, or_objects, db_of}
use Rattle.kola_load.specs.declared.fault.DbFault.{DbFault}
use Rattle.kola_load.specs.declared.fault.DbFault.TheVariants.{NotJson, NotObject, UnknownExtent, NotAnArray, NotAnObject, BadId, TwiceId, UnknownAttribute, MissingAttribute, WrongType, NoSuchObject, KeyRepeats, Memory}

-- a fault of a value
abbrev IsOfValue : DbFault → Type 0
IsOfValue f = (f ≡ NotJson → ⊥) × (f ≡ Memory → ⊥)

abbrev IsOther : Test → Type 0
IsOther o = (f : DbFault) → o ≡ Some f → IsOfValue f

other_or : (a b : Test) → IsOther a → IsOther b → IsOther (option_or a b)
other_or None b f g = g
other_or (Some x) b f g = f

other_unless : (b : Bool) (f : DbFault) → IsOfValue f → IsOther (unless b f)
other_unless true f h = λ g e. cc
other_unless false f h = λ g e. subst IsOfValue (let k : f ≡ g = cc in k) h

told : (f : DbFault) → IsOfValue f → IsOther (Some f)
told f h = λ g e. subst IsOfValue (let k : f ≡ g = cc in k) h

other_map : {A : Type 0} (f : A → DbFault) (o : Option A) → ((x : A) → IsOfValue (f x)) → IsOther (option_map f o)
other_map f None h = λ g e. cc
other_map f (Some x) h = λ g e. subst IsOfValue (let k : f x ≡ g = cc in k) (h x)

other_of : {A : Type 0} (test : A → Test) (xs : List A) → ((x : A) → IsOther (test x)) → IsOther (first_of test xs)
other_of test [] h = λ g e. cc
other_of test (x ∷ xs) h = other_or (test x) (first_of test xs) (h x) (other_of test xs h)

other_among : {A : Type 0} (test : List A → A → Test) (before xs : List A) → ((b : List A) (x : A) → IsOther (test b x)) → IsOther (first_among test before xs)
other_among test before [] h = λ g e. cc
other_among test before (x ∷ xs) h = other_or (test before x) (first_among test (before ++ x ∷ []) xs) (h before x) (other_among test (before ++ x ∷ []) xs h)

-- ---- the phases

first : (S : Classes) (j : Data) → IsOther (members_fault S j)
first S j = other_or _ _ (other_unless _ NotObject (λ e. cc, λ e. cc)) (other_map UnknownExtent _ (λ x. (λ e. cc, λ e. cc)))

other_id : (k : Class) (before : List Data) (o : Option ℕ) → IsOther (id_fault k before o)
other_id k before None = told (BadId k.extent (length before)) (λ e. cc, λ e. cc)
other_id k before (Some i) = other_unless _ (TwiceId k.extent i) (λ e. cc, λ e. cc)

other_element : (k : Class) (before : List Data) (d : Data) → IsOther (element_fault k before d)
other_element k before d = other_or _ _ (other_unless _ (NotAnObject k.extent (length before)) (λ e. cc, λ e. cc)) (other_id k before (own_id d))

other_array : (k : Class) (m : Option Data) → IsOther (array_fault k m)
other_array k None = λ g e. cc
other_array k (Some m) = other_or _ _ (other_unless _ (NotAnArray k.extent) (λ e. cc, λ e. cc)) (other_among (element_fault k) [] (elements m) (other_element k))

second : (S : Classes) (j : Data) → IsOther (first_of (extent_fault j) S)
second S j = other_of (extent_fault j) S (λ k. other_array k (get k.extent j))

module _ (there : List ℕ × ℕ → Bool) where
  other_value : (k : Class) (d : Data) (a : List ℕ × TypeTree) (m : Option Data) → IsOther (value_fault there k d a m)
  other_value k d a None = told (MissingAttribute k.name (id_in d) a.0) (λ e. cc, λ e. cc)
  other_value k d a (Some v) = other_or _ _ (other_unless _ (WrongType k.name (id_in d) a.0) (λ e. cc, λ e. cc)) (other_map (λ (r : List ℕ × ℕ). NoSuchObject k.name (id_in d) a.0 r.1) _ (λ r. (λ e. cc, λ e. cc)))

  other_object : (k : Class) (d : Data) → IsOther (object_fault there k d)
  other_object k d = other_or _ _ (other_map (UnknownAttribute k.name (id_in d)) _ (λ n. (λ e. cc, λ e. cc))) (other_of (attribute_fault there k d) k.attributes (λ a. other_value k d a (get a.0 d)))

  third : (S : Classes) (j : Data) → IsOther (first_of (objects_fault there j) S)
  third S j = other_of (objects_fault there j) S (λ k. other_of (object_fault there k) (extent_of j k) (other_object k))

other_key : (k : Class) (os : Objects) (before : List (List (List ℕ))) (key : List (List ℕ)) → IsOther (key_fault os k before key)
other_key k os before key = other_among _ [] os (λ b o. other_map (λ (p : Object). KeyRepeats k.name _ p.id o.id) _ (λ p. (λ e. cc, λ e. cc)))

fourth : (S : Classes) (f : Class → Objects) → IsOther (first_of (λ k. keys_fault k (f k)) S)
fourth S f = other_of (λ k. keys_fault k (f k)) S (λ k. other_among (key_fault (f k) k) [] k.keys (other_key k (f k)))

pub of_value : (S : Classes) (j : Data) → IsOther (db_fault S j)
of_value S j = other_or _ _ (first S j) (other_or _ _ (second S j) (other_or _ _ (third (is_there S j) S j) (fourth S (objects_in j))))

-- ---- the answer to a text

pub first_fault : (S : Classes) (text : List ℕ) (j : Data) → Reads text j → (f : DbFault) → ((f ≡ Memory → ⊥) → db_fault S j ≡ Some f) → IsFirstFault S text f
first_fault S text j r Memory h = tt
first_fault S text j r NotJson h = absurd ((of_value S j NotJson (h (λ e. cc))).0 refl)
first_fault S text j r f h = (j, r, ap (λ o. or_objects o (written S j)) (h (λ e. cc)))

-- ---- one answer to a text

-- the text has no reading, or one with the fault
abbrev Said : Classes → List ℕ → DbFault → Type 0
Said S text f = ((f ≡ NotJson) × ((j : Data) → Reads text j → ⊥)) ⊎ ((j : Data) × Reads text j × (db_of S j ≡ Err f))

said : (S : Classes) (text : List ℕ) (f : DbFault) → (f ≡ Memory → ⊥) → IsFirstFault S text f → Said S text f
said S text Memory n h = absurd (n refl)
said S text NotJson n h = inl (refl, h)
said S text f n h = inr h

one_reading : (text : List ℕ) (j k : Data) → Reads text j → Reads text k → j ≡ k
one_reading text j k r s = let a = r.1 in let b = s.1 in cc

pub one_answer : OneAnswer
one_answer S text f n h = (λ db l. no_database (said S text f n h) db l, λ g m i. one_fault g (said S text f n h) (said S text g m i))
  where
    no_database : Said S text f → (db : Database) → IsLoaded S text db → ⊥
    no_database (inl a) db l = a.1 l.value l.reads
    no_database (inr a) db l =
        let e = one_reading text a.0 l.value a.1 l.reads in
        let w = ap (db_of S) e ∙ l.writes in
        let x = a.2 in
        cc

    one_fault : (g : DbFault) → Said S text f → Said S text g → g ≡ f
    one_fault g (inl a) (inl b) = b.0 ∙ sym a.0
    one_fault g (inl a) (inr b) = absurd (a.1 b.0 b.1)
    one_fault g (inr a) (inl b) = absurd (b.1 a.0 a.1)
    one_fault g (inr a) (inr b) =
        let e = ap (db_of S) (one_reading text a.0 b.0 a.1 b.1) in
        let x = a.2 in
        let y = b.2 in
        cc

-- ---- an answer to each text

of_reading : (S : Classes) (text : List ℕ) (j : Data) → Reads text j → (o : Test) → db_fault S j ≡ o → HasAnswer S text
of_reading S text j r None e = inl (j, written S j, r, ap (λ o. or_objects o (written S j)) e)
of_reading S text j r (Some f) e = inr (f, (of_value S j f e).1, first_fault S text j r f (λ n. e))

pub an_answer : (S : Classes) (text : List ℕ) → HasAnswer S text
an_answer S text = at (is_utf8 (json_text text)) refl (read (json_text text)) refl
  where
    at : (b : Bool) → is_utf8 (json_text text) ≡ b → (r : Option Data) → read (json_text text) ≡ r → HasAnswer S text
    at true u (Some j) e = of_reading S text j (IsUtf8-from_is_utf8 (json_text text) u, e) (db_fault S j) refl
    at true u None e = inr (NotJson, λ n. cc, λ j r. let a = r.1 in cc)
    at false u r e = inr (NotJson, λ n. cc, λ j r. absurd (true≢false (sym (is_utf8-from_IsUtf8 (json_text text) r.0) ∙ u)))
