-- What a translated query means at a value, by the value of the query, and what follows for the function and the predicate that it stands for.
use Rattle.std.proofs.Common.{◌≡◌, ℕ, suc, Bool, true, false, not, cond, List, [], ◌∷◌, ◌++◌, Option, Some, None, option_map, map, filter, flat_map, refl, sym, ap, ap₂, ◌∙◌, subst, Ordering}
use Rattle.std.specs.Str.{bytes_eq}
use Rattle.std.proofs.lemmas.List.{map-append}
use Rattle.kola_values.specs.Values.{ValueTree, VBool, VObj, VPair, VStruct, FieldValues, VEnd, VField, fields}
use Rattle.kola_values.specs.Types.{TypeTree, TBool, TClass, TSet, TStruct, FieldTypes, TEnd, TField, type_fields}
use Rattle.kola_values.specs.Order.{cmp, same}
use Rattle.kola_values.specs.Sets.{any, all, has, Each, members, set_of}
use Rattle.kola_values.specs.Databases.{Classes, Objects, HasType, HaveTypes, attribute_of, attribute_type, objects_of, look_up, value_or_unit}
use Rattle.kola_values.proofs.Anys.{set_ext, anys, any_agree, any_map, each_has}
use Rattle.kola_values.proofs.Each.{each_map, each_filter, each_flat_map, each_append, kept_agree, all_agree}
use Rattle.kola_values.proofs.Typed.{members_typed}
use Rattle.kola_schema.specs.Meets.{Meets}
use Rattle.kola_schema.specs.Schemas.{is_schema, class_names}
use Rattle.kola_canon.specs.Encoding.{enc, enc_fields}
use Rattle.kola_term.specs.Terms.{CExtent, FunTree, FId, FFst, FSnd, FFlat, FUnion, FIsect, FMinus, FAttr, FComp, FPair, FIter, PredTree, PEq, PMember, PAt, PKP, PEx, PFa}
use Rattle.kola_term.specs.Meaning.{constant, extent_objects, den, holds_at}
use Rattle.kola_term.proofs.Attributes.{attr_typed, objects_typed}
use Rattle.oql_tree.specs.QueryTrees.{LitTree, LitInt, LitStr, LitBool}
use Rattle.oql_check.specs.QueryTypes.{Scope}
use Rattle.oql_check.specs.TypedQueries.{Leads, l_end, l_attribute, l_field}
use Rattle.oql_check.specs.QueryMeaning.{Env, truth, literal_value, extent_value, name_value, step_value, path_value, intersect_value}
use Rattle.oql_check.specs.Environments.{Fills}
use Rattle.oql_check.proofs.Means.{attribute_typed, field_typed}
use Rattle.kola_translate.specs.Translation.{type_or_unit, env_value, distance, Translated, Function, Test, Truth, as_function, as_predicate, name_term, literal_term, after, field_selector, path_term, over}
use Rattle.kola_translate.proofs.Stored.{attribute_stored, stored_value}
use Rattle.kola_translate.proofs.Encoded.{map-map, kept_map, all_map, cmp_enc, same_enc, has_enc, members-enc, set_enc, kept_enc, truth_test}

module _ (S : Classes) (d : Objects) where
  -- ---- a function has the encoded value, a test its truth

  abbrev pub IsMeant : ValueTree → Translated → ValueTree → Type 0
  IsMeant w (Function f) v = den S d f w ≡ enc v
  IsMeant w (Test p) v = v ≡ VBool (holds_at S d p w)
  IsMeant w (Truth b) v = v ≡ VBool b

  chosen : (b : Bool) → cond b (VBool true) (VBool false) ≡ VBool b
  chosen true = refl
  chosen false = refl

  pub function_meant : (w : ValueTree) (x : Translated) (v : ValueTree) → IsMeant w x v → den S d (as_function x) w ≡ enc v
  function_meant w (Function f) v h = h
  function_meant w (Test p) v h = chosen (holds_at S d p w) ∙ ap enc (sym h)
  function_meant w (Truth b) v h = ap enc (sym h)

  pub predicate_meant : (w : ValueTree) (x : Translated) (v : ValueTree) → HasType d v TBool → IsMeant w x v → holds_at S d (as_predicate x) w ≡ truth v
  predicate_meant w (Function f) v t h = ap (λ z. same z (VBool true)) h ∙ truth_test d v t
  predicate_meant w (Test p) v t h = ap truth (sym h)
  predicate_meant w (Truth b) v t h = ap truth (sym h)

  -- ---- names

  older : (x : List ℕ) (w y v : ValueTree) (o : Option ℕ) → IsMeant w (name_term x o) v → IsMeant (VPair w y) (name_term x (option_map suc o)) v
  older x w y v (Some k) h = h
  older x w y v None h = h

  name_at : (x : List ℕ) (e : List ℕ × ValueTree) (es : Env) (n : List ℕ × TypeTree) (ns : Scope) (v : ValueTree) (b : Bool) → bytes_eq x n.0 ≡ b → e.0 ≡ n.0
      → (b ≡ false → IsMeant (env_value es) (name_term x (distance x ns)) (name_value (look_up x es) v))
      → IsMeant (VPair (env_value es) (enc e.1)) (name_term x (cond b (Some 0) (option_map suc (distance x ns)))) (name_value (cond (bytes_eq x e.0) (Some e.1) (look_up x es)) v)
  name_at x e es n ns v true s q k = rw (q, s)
  name_at x e es n ns v false s q k = rw (q, s) (older x (env_value es) (enc e.1) (name_value (look_up x es) v) (distance x ns) (k refl))

  -- the first variable of the name, and what the extent stands for where there is none
  pub name_meant : (x : List ℕ) (v : ValueTree) (env : Env) (ns : Scope) → Fills d env ns → (look_up x ns ≡ None → constant S d (CExtent x) ≡ enc v)
      → IsMeant (env_value env) (name_term x (distance x ns)) (name_value (look_up x env) v)
  name_meant x v [] [] h k = k refl
  name_meant x v (e ∷ es) (n ∷ ns) h k =
      name_at x e es n ns v (bytes_eq x n.0) refl h.0 (λ s. name_meant x v es ns h.2 (λ i. k (ap (λ b. cond b (Some n.1) (look_up x ns)) s ∙ i)))
  name_meant x v [] (n ∷ ns) h k = absurd h
  name_meant x v (e ∷ es) [] h k = absurd h

  plain_objects : (c : List ℕ) (os : Objects) → map enc (objects_of c os) ≡ objects_of c os
  plain_objects c os = map-map enc _ (filter _ os)

  pub extent_meant : (o : Option (List ℕ)) (c : List ℕ) → o ≡ Some c → set_of (extent_objects o d) ≡ enc (extent_value d o)
  extent_meant (Some e) c h = sym (set_enc d (TClass e) (objects_of e d) (objects_typed d e d (each_has (objects_of e d))) ∙ ap set_of (plain_objects e d))
  extent_meant None c h = absurd (cc)

  pub literal_meant : (w : ValueTree) (l : LitTree) → IsMeant w (literal_term l) (literal_value l)
  literal_meant w (LitInt n) = refl
  literal_meant w (LitStr s) = refl
  literal_meant w (LitBool b) = refl

  -- ---- paths

  at_field : Option FunTree → ValueTree → ValueTree
  at_field (Some f) v = den S d f v
  at_field None v = v

  after_is : (o : Option FunTree) (f : FunTree) (v : ValueTree) → den S d (after o f) v ≡ at_field o (den S d f v)
  unfolding at_field
  after_is (Some g) f v = refl
  after_is None f v = refl

  one_field : (l m n : List ℕ) (v : ValueTree) (b : Bool) (u t : TypeTree) → bytes_eq l n ≡ b → m ≡ n → cond b (Some u) None ≡ Some t → v ≡ value_or_unit (cond (bytes_eq l m) (Some v) None)
  one_field l m n v true u t s q e = rw (q, s)
  one_field l m n v false u t s q e = absurd (cc)

  more_fields : (l m n : List ℕ) (v w : ValueTree) (x : Option ValueTree) (o : Option FunTree) (b : Bool) → bytes_eq l n ≡ b → m ≡ n → (b ≡ false → at_field o w ≡ enc (value_or_unit x))
      → at_field (cond b (Some FFst) (Some (after o FSnd))) (VPair (enc v) w) ≡ enc (value_or_unit (cond (bytes_eq l m) (Some v) x))
  unfolding at_field
  more_fields l m n v w x o true s q k = rw (q, s)
  more_fields l m n v w x o false s q k = rw (q, s) (after_is o FSnd (VPair (enc v) w) ∙ k refl)

  not_first : (b : Bool) (u t : TypeTree) (o : Option TypeTree) → cond b (Some u) o ≡ Some t → b ≡ false → o ≡ Some t
  not_first true u t o e f = absurd (cc)
  not_first false u t o e f = e

  selected : (l : List ℕ) (fs : FieldValues) (ts : FieldTypes) (t : TypeTree) → HaveTypes d fs ts → look_up l (type_fields ts) ≡ Some t → at_field (field_selector l ts) (enc_fields fs) ≡ enc (value_or_unit (look_up l (fields fs)))
  unfolding at_field
  selected l VEnd TEnd t h e = absurd (cc)
  selected l (VField m v VEnd) (TField n u TEnd) t h e = ap enc (one_field l m n v (bytes_eq l n) u t refl h.0 e)
  selected l (VField m v (VField m2 w fs)) (TField n u (TField n2 x ts)) t h e =
      more_fields l m n v (enc_fields (VField m2 w fs)) (look_up l (fields (VField m2 w fs))) (field_selector l (TField n2 x ts)) (bytes_eq l n) refl h.0
      (λ b. selected l (VField m2 w fs) (TField n2 x ts) t h.2 (not_first (bytes_eq l n) u t (look_up l (type_fields (TField n2 x ts))) e b))
  selected l VEnd (TField n u ts) t h e = absurd h
  selected l (VField m v fs) TEnd t h e = absurd h
  selected l (VField m v VEnd) (TField n u (TField n2 x ts)) t h e = absurd h.2
  selected l (VField m v (VField m2 w fs)) (TField n u TEnd) t h e = absurd h.2

  selected_of : (l : List ℕ) (v : ValueTree) (ts : FieldTypes) (t : TypeTree) → HasType d v (TStruct ts) → look_up l (type_fields ts) ≡ Some t → at_field (field_selector l ts) (enc v) ≡ enc (step_value d l v)
  selected_of l (VStruct fs) ts t h e = selected l fs ts t h e
  selected_of l _ ts t h e = absurd h

  field_meant : (w : ValueTree) (l : List ℕ) (ts : FieldTypes) (t : TypeTree) (v : ValueTree) (f : FunTree) → look_up l (type_fields ts) ≡ Some t → HasType d v (TStruct ts) → den S d f w ≡ enc v
      → den S d (after (field_selector l ts) f) w ≡ enc (step_value d l v)
  field_meant w l ts t v f e h i = after_is (field_selector l ts) f w ∙ (ap (at_field (field_selector l ts)) i ∙ selected_of l v ts t h e)

  module _ (m : Meets S d) (s : is_schema S ≡ true) where
    attribute_meant : (w : ValueTree) (a c : List ℕ) (t : TypeTree) (v : ValueTree) (f : FunTree) → attribute_type S c a ≡ Some t → HasType d v (TClass c) → den S d f w ≡ enc v → den S d (FComp (FAttr a) f) w ≡ enc (step_value d a v)
    attribute_meant w a c t (VObj e i) f k h j =
        ap (attribute_of a d) j ∙ sym (stored_value (class_names S) d t (attribute_of a d (VObj e i)) (attribute_stored S s c a t k) (attr_typed S d m a c t (VObj e i) k h))
    attribute_meant w a c t _ f k h j = absurd h

    pub path_meant : (w : ValueTree) {t u : TypeTree} {ls : List (List ℕ × ℕ)} → Leads S t ls u → (v : ValueTree) (f : FunTree) → HasType d v t → den S d f w ≡ enc v → den S d (path_term S t f ls) w ≡ enc (path_value d v ls)
    path_meant w l_end v f h i = i
    path_meant w (l_attribute {c = c} {a = a} {ls = ls} {t = t} e z k) v f h i =
        subst (λ o. den S d (path_term S (type_or_unit o) (FComp (FAttr a) f) ls) w ≡ enc (path_value d (step_value d a v) ls)) (sym e)
        (path_meant w k (step_value d a v) (FComp (FAttr a) f) (attribute_typed d S m a c t v e h) (attribute_meant w a c t v f e h i))
    path_meant w (l_field {fs = fs} {l = l} {ls = ls} {t = t} e k) v f h i =
        subst (λ o. den S d (path_term S (type_or_unit o) (after (field_selector l fs) f) ls) w ≡ enc (path_value d (step_value d l v) ls)) (sym e)
        (path_meant w k (step_value d l v) (after (field_selector l fs) f) (field_typed d l v fs t h e) (field_meant w l fs t v f e h i))

  -- ---- sets

  module _ (w : ValueTree) (t : TypeTree) (a b : ValueTree) (f g : FunTree) where
    pub union_meant : HasType d a (TSet t) → HasType d b (TSet t) → den S d f w ≡ enc a → den S d g w ≡ enc b → den S d (FComp FUnion (FPair f g)) w ≡ enc (set_of (members a ++ members b))
    union_meant h k i j =
        ap₂ (λ x y. set_of (members x ++ members y)) i j
        ∙ (ap₂ (λ x y. set_of (x ++ y)) (members-enc d t a h) (members-enc d t b k)
        ∙ (ap set_of (sym (map-append enc (members a) (members b)))
        ∙ sym (set_enc d t (members a ++ members b) (each_append _ (members a) (members b) (members_typed d t a h) (members_typed d t b k)))))

    pub intersect_meant : HasType d a (TSet t) → HasType d b (TSet t) → den S d f w ≡ enc a → den S d g w ≡ enc b → den S d (FComp FIsect (FPair f g)) w ≡ enc (intersect_value a b)
    intersect_meant h k i j =
        ap₂ (λ x y. set_of (filter (λ z. has z (members y)) (members x))) i j
        ∙ (ap₂ (λ x y. set_of (filter (λ z. has z y) x)) (members-enc d t a h) (members-enc d t b k)
        ∙ kept_enc d t (λ z. has z (map enc (members b))) (λ z. has z (members b)) (members a) (members_typed d t a h) (λ v l. has_enc d t v (members b) l (members_typed d t b k)))

    pub except_meant : HasType d a (TSet t) → HasType d b (TSet t) → den S d f w ≡ enc a → den S d g w ≡ enc b → den S d (FComp FMinus (FPair f g)) w ≡ enc (set_of (filter (λ x. not (has x (members b))) (members a)))
    except_meant h k i j =
        ap₂ (λ x y. set_of (filter (λ z. not (has z (members y))) (members x))) i j
        ∙ (ap₂ (λ x y. set_of (filter (λ z. not (has z y)) x)) (members-enc d t a h) (members-enc d t b k)
        ∙ kept_enc d t (λ z. not (has z (map enc (members b)))) (λ z. not (has z (members b))) (members a) (members_typed d t a h) (λ v l. ap not (has_enc d t v (members b) l (members_typed d t b k))))

    pub member_meant : HasType d a t → HasType d b (TSet t) → den S d f w ≡ enc a → den S d g w ≡ enc b → holds_at S d (PAt PMember (FPair f g)) w ≡ has a (members b)
    member_meant h k i j =
        ap₂ (λ x y. has x (members y)) i j
        ∙ (ap (has (enc a)) (members-enc d t b k) ∙ has_enc d t a (members b) h (members_typed d t b k))

    -- ---- comparisons

    pub equal_meant : HasType d a t → HasType d b t → den S d f w ≡ enc a → den S d g w ≡ enc b → holds_at S d (PAt PEq (FPair f g)) w ≡ same a b
    equal_meant h k i j = ap₂ same i j ∙ same_enc d t a b h k

    pub order_meant : (q : Ordering → Bool) → HasType d a t → HasType d b t → den S d f w ≡ enc a → den S d g w ≡ enc b → q (cmp (den S d f w) (den S d g w)) ≡ q (cmp a b)
    order_meant q h k i j = ap q (ap₂ cmp i j ∙ cmp_enc d t a b h k)

  pub flatten_meant : (w : ValueTree) (t : TypeTree) (a : ValueTree) (f : FunTree) → HasType d a (TSet (TSet t)) → den S d f w ≡ enc a → den S d (FComp FFlat f) w ≡ enc (set_of (flat_map members (members a)))
  flatten_meant w t a f h i =
      ap (λ x. set_of (flat_map members (members x))) i
      ∙ (ap (λ x. set_of (flat_map members x)) (members-enc d (TSet t) a h)
      ∙ (set_ext _ _ (λ q. simp anys (any_agree (λ v. HasType d v (TSet t)) _ _ (members a) (members_typed d (TSet t) a h) (λ v k. ap (any q) (members-enc d t v k) ∙ any_map q enc (members v))))
      ∙ sym (set_enc d t (flat_map members (members a)) (each_flat_map _ (λ v. HasType d v (TSet t)) members (members a) (members_typed d (TSet t) a h) (λ v k. members_typed d t v k)))))

  -- ---- ranges: a member of the range's value stands beside the environment

  module _ (t : TypeTree) (w : ValueTree) (a : ValueTree) (f : FunTree) (h : HasType d a (TSet t)) (i : den S d f w ≡ enc a) where
    pub some_meant : (p : PredTree) (q : ValueTree → Bool) → ((m : ValueTree) → HasType d m t → holds_at S d p (VPair w (enc m)) ≡ q m) → holds_at S d (PAt (PEx p) (FPair FId f)) w ≡ any q (members a)
    some_meant p q k =
        ap (λ z. any (λ y. holds_at S d p (VPair w y)) (members z)) i
        ∙ (ap (any (λ y. holds_at S d p (VPair w y))) (members-enc d t a h)
        ∙ (any_map (λ y. holds_at S d p (VPair w y)) enc (members a)
        ∙ any_agree (λ m. HasType d m t) (λ m. holds_at S d p (VPair w (enc m))) q (members a) (members_typed d t a h) k))

    pub all_meant : (p : PredTree) (q : ValueTree → Bool) → ((m : ValueTree) → HasType d m t → holds_at S d p (VPair w (enc m)) ≡ q m) → holds_at S d (PAt (PFa p) (FPair FId f)) w ≡ all q (members a)
    all_meant p q k =
        ap (λ z. all (λ y. holds_at S d p (VPair w y)) (members z)) i
        ∙ (ap (all (λ y. holds_at S d p (VPair w y))) (members-enc d t a h)
        ∙ (all_map (λ y. holds_at S d p (VPair w y)) (members a)
        ∙ all_agree (λ m. HasType d m t) (λ m. holds_at S d p (VPair w (enc m))) q (members a) (members_typed d t a h) k))

    -- the last range
    pub last_meant : (u : TypeTree) (g : FunTree) (p : PredTree) (B : ValueTree → Bool) (H : ValueTree → ValueTree)
        → ((m : ValueTree) → HasType d m t → holds_at S d p (VPair w (enc m)) ≡ B m) → ((m : ValueTree) → HasType d m t → den S d g (VPair w (enc m)) ≡ enc (H m))
        → ((m : ValueTree) → HasType d m t → HasType d (H m) u)
        → den S d (over (FIter p g) f) w ≡ enc (set_of (map H (filter B (members a))))
    last_meant u g p B H j k l =
        let ms = members_typed d t a h in
        ap (λ z. set_of (map (λ y. den S d g (VPair w y)) (filter (λ y. holds_at S d p (VPair w y)) (members z)))) i
        ∙ (ap (λ z. set_of (map (λ y. den S d g (VPair w y)) (filter (λ y. holds_at S d p (VPair w y)) z))) (members-enc d t a h)
        ∙ (ap set_of (kept_map (λ y. den S d g (VPair w y)) (λ y. holds_at S d p (VPair w y)) enc (members a)
        ∙ (kept_agree (λ m. HasType d m t) (λ m. holds_at S d p (VPair w (enc m))) B (λ m. den S d g (VPair w (enc m))) (λ m. enc (H m)) (members a) ms j k
        ∙ sym (map-map enc H (filter B (members a)))))
        ∙ sym (set_enc d u (map H (filter B (members a))) (each_map (λ v. HasType d v u) (λ m. HasType d m t) H (filter B (members a)) (each_filter (λ m. HasType d m t) B (members a) ms) l))))

    -- a range before others: the sets that the others give, in one
    pub more_meant : (u : TypeTree) (g : FunTree) (R : ValueTree → List ValueTree) → ((m : ValueTree) → HasType d m t → Each (λ v. HasType d v u) (R m))
        → ((m : ValueTree) → HasType d m t → den S d g (VPair w (enc m)) ≡ enc (set_of (R m)))
        → den S d (FComp FFlat (over (FIter (PKP true) g) f)) w ≡ enc (set_of (flat_map R (members a)))
    more_meant u g R k j =
        ap (λ z. set_of (flat_map members (members (set_of (map (λ y. den S d g (VPair w y)) (filter (λ y. true) (members z))))))) i
        ∙ (ap (λ z. set_of (flat_map members (members (set_of (map (λ y. den S d g (VPair w y)) (filter (λ y. true) z)))))) (members-enc d t a h)
        ∙ (set_ext _ _ (λ q. simp anys (any_agree (λ m. HasType d m t) _ _ (members a) (members_typed d t a h)
        (λ m n. ap (λ z. any q (members z)) (j m n ∙ set_enc d u (R m) (k m n)) ∙ simp anys)))
        ∙ sym (set_enc d u (flat_map R (members a)) (each_flat_map (λ v. HasType d v u) (λ m. HasType d m t) R (members a) (members_typed d t a h) k))))
