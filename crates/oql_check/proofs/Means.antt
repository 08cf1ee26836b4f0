-- The value of a typed query is of its type.
use Rattle.std.proofs.Common.{◌≡◌, ℕ, Bool, true, false, not, cond, List, [], ◌∷◌, ◌++◌, Option, Some, None, map, filter, flat_map, refl, sym, subst}
use Rattle.std.specs.Str.{bytes_eq}
use Rattle.kola_values.specs.Values.{ValueTree, VObj, VStruct, FieldValues, VEnd, VField, fields}
use Rattle.kola_values.specs.Types.{TypeTree, TInt, TStr, TBool, TClass, TSet, TStruct, FieldTypes, TEnd, TField, type_fields}
use Rattle.kola_values.specs.Sets.{Each, has, members}
use Rattle.kola_values.specs.Databases.{Classes, Objects, HasType, HaveTypes, attribute_type, extent_class, look_up, value_or_unit}
use Rattle.kola_schema.specs.Meets.{Meets}
use Rattle.kola_values.proofs.Each.{set_typed, each_map, each_filter, each_flat_map, each_append}
use Rattle.kola_values.proofs.Typed.{members_typed}
use Rattle.kola_term.proofs.Inversions.{some_same}
use Rattle.kola_term.proofs.Attributes.{attr_typed, extent_at}
use Rattle.oql_tree.specs.QueryTrees.{LitTree, LitInt, LitStr, LitBool, QueryTree, QueryLinks, SetLinks, QueryFields, QueryRanges}
use Rattle.oql_check.specs.QueryTypes.{Scope}
use Rattle.oql_check.specs.TypedQueries.{IsLiteral, Leads, l_end, l_attribute, l_field, HasQueryType, t_variable, t_extent, t_literal, t_set, t_path, t_struct, t_flatten, t_some_member, t_not, t_intersect, t_and, t_or, t_union_except, t_eq, t_ne, t_lt, t_le, t_gt, t_ge, t_member, t_exists, t_for_all, t_select, SetsJoin, s_end, s_link, BoolsJoin, b_end, b_link, UnionsJoin, u_end, u_link, HaveQueryTypes, f_end, f_field, BindScope, r_end, r_range}
use Rattle.oql_check.specs.QueryMeaning.{Env, literal_value, extent_value, name_value, step_value, path_value, intersect_value, union_except_value, and_value, or_value, mean, links_value, set_links_value, fields_value, rows, holds}
use Rattle.oql_check.specs.Environments.{Fills}

module _ (d : Objects) where
  -- ---- names

  -- the entry of a name, where the same name comes first in both
  named_at : (x : List ℕ) (e : List ℕ × ValueTree) (n : List ℕ × TypeTree) (es : Option ValueTree) (t : TypeTree) (os : Option TypeTree) (w : ValueTree) (b : Bool) → bytes_eq x n.0 ≡ b → e.0 ≡ n.0 → HasType d e.1 n.1
      → (os ≡ Some t → HasType d (name_value es w) t) → cond b (Some n.1) os ≡ Some t → HasType d (name_value (cond (bytes_eq x e.0) (Some e.1) es) w) t
  named_at x e n es t os w true s q h k c = rw (q, s) (subst (HasType d e.1) (some_same n.1 t c) h)
  named_at x e n es t os w false s q h k c = rw (q, s) (k c)

  pub named_typed : (x : List ℕ) (env : Env) (ns : Scope) (t : TypeTree) (w : ValueTree) → Fills d env ns → look_up x ns ≡ Some t → HasType d (name_value (look_up x env) w) t
  named_typed x [] [] t w h e = absurd (cc)
  named_typed x (e ∷ es) (n ∷ ns) t w h k = named_at x e n (look_up x es) t (look_up x ns) w (bytes_eq x n.0) refl h.0 h.1 (λ c. named_typed x es ns t w h.2 c) k
  named_typed x [] (n ∷ ns) t w h e = absurd h
  named_typed x (e ∷ es) [] t w h k = absurd h

  none_at : (x : List ℕ) (e : List ℕ × ValueTree) (n : List ℕ × TypeTree) (es : Option ValueTree) (os : Option TypeTree) (b : Bool) → bytes_eq x n.0 ≡ b → e.0 ≡ n.0 → (os ≡ None → es ≡ None) → cond b (Some n.1) os ≡ None → cond (bytes_eq x e.0) (Some e.1) es ≡ None
  none_at x e n es os true s q k c = absurd (cc)
  none_at x e n es os false s q k c = rw (q, s) (k c)

  pub named_none : (x : List ℕ) (env : Env) (ns : Scope) → Fills d env ns → look_up x ns ≡ None → look_up x env ≡ None
  named_none x [] [] h e = refl
  named_none x (e ∷ es) (n ∷ ns) h k = none_at x e n (look_up x es) (look_up x ns) (bytes_eq x n.0) refl h.0 (λ c. named_none x es ns h.2 c) k
  named_none x [] (n ∷ ns) h e = absurd h
  named_none x (e ∷ es) [] h k = absurd h

  pub extent_typed : (o : Option (List ℕ)) (c : List ℕ) → o ≡ Some c → HasType d (extent_value d o) (TSet (TClass c))
  extent_typed o c e = subst (λ p. HasType d (extent_value d p) (TSet (TClass c))) (sym e) (extent_at d (Some c) (TSet (TClass c)) refl)

  -- ---- literals

  pub literal_typed : (t : TypeTree) (l : LitTree) → IsLiteral t l → HasType d (literal_value l) t
  literal_typed TInt (LitInt n) h = h
  literal_typed TStr (LitStr s) h = tt
  literal_typed TBool (LitBool b) h = tt
  literal_typed _ _ h = absurd h

  -- ---- paths

  field_at : (l m : List ℕ) (v : ValueTree) (n : List ℕ) (u t : TypeTree) (r : Option ValueTree) (o : Option TypeTree) (b : Bool) → bytes_eq l n ≡ b → m ≡ n → HasType d v u
      → (o ≡ Some t → HasType d (value_or_unit r) t) → cond b (Some u) o ≡ Some t → HasType d (value_or_unit (cond (bytes_eq l m) (Some v) r)) t
  field_at l m v n u t r o true s q h k c = rw (q, s) (subst (HasType d v) (some_same u t c) h)
  field_at l m v n u t r o false s q h k c = rw (q, s) (k c)

  field_in_typed : (l : List ℕ) (fs : FieldValues) (ts : FieldTypes) (t : TypeTree) → HaveTypes d fs ts → look_up l (type_fields ts) ≡ Some t → HasType d (value_or_unit (look_up l (fields fs))) t
  field_in_typed l VEnd TEnd t h e = absurd (cc)
  field_in_typed l (VField m v fs) (TField n u ts) t h e = field_at l m v n u t (look_up l (fields fs)) (look_up l (type_fields ts)) (bytes_eq l n) refl h.0 h.1 (λ c. field_in_typed l fs ts t h.2 c) e
  field_in_typed l VEnd (TField n u ts) t h e = absurd h
  field_in_typed l (VField m v fs) TEnd t h e = absurd h

  pub field_typed : (l : List ℕ) (v : ValueTree) (ts : FieldTypes) (t : TypeTree) → HasType d v (TStruct ts) → look_up l (type_fields ts) ≡ Some t → HasType d (step_value d l v) t
  field_typed l (VStruct fs) ts t h e = field_in_typed l fs ts t h e
  field_typed l _ ts t h e = absurd h

  module _ (S : Classes) (m : Meets S d) where
    pub attribute_typed : (a c : List ℕ) (t : TypeTree) (v : ValueTree) → attribute_type S c a ≡ Some t → HasType d v (TClass c) → HasType d (step_value d a v) t
    attribute_typed a c t (VObj e i) k h = attr_typed S d m a c t (VObj e i) k h
    attribute_typed a c t _ k h = absurd h

    pub path_typed : {t u : TypeTree} {ls : List (List ℕ × ℕ)} → Leads S t ls u → (v : ValueTree) → HasType d v t → HasType d (path_value d v ls) u
    path_typed l_end v h = h
    path_typed (l_attribute {c = c} {a = a} {t = t} e s k) v h = path_typed k (step_value d a v) (attribute_typed a c t v e h)
    path_typed (l_field {fs = fs} {l = l} {t = t} e k) v h = path_typed k (step_value d l v) (field_typed l v fs t h e)

  -- ---- chains

  pub sets_typed : (b : Bool) (t : TypeTree) (v w : ValueTree) → HasType d v (TSet t) → HasType d w (TSet t) → HasType d (union_except_value b v w) (TSet t)
  sets_typed true t v w h k = set_typed d t (filter (λ x. not (has x (members w))) (members v)) (each_filter _ (λ x. not (has x (members w))) (members v) (members_typed d t v h))
  sets_typed false t v w h k = set_typed d t (members v ++ members w) (each_append _ (members v) (members w) (members_typed d t v h) (members_typed d t w k))

  pub intersection_typed : (t : TypeTree) (v w : ValueTree) → HasType d v (TSet t) → HasType d (intersect_value v w) (TSet t)
  intersection_typed t v w h = set_typed d t (filter (λ x. has x (members w)) (members v)) (each_filter _ (λ x. has x (members w)) (members v) (members_typed d t v h))

  -- ---- all queries

  module _ (S : Classes) (m : Meets S d) where
    mutual
      pub mean_typed : {ns : Scope} {e : QueryTree} {t : TypeTree} → HasQueryType S ns e t → (env : Env) → Fills d env ns → HasType d (mean S d e env) t
      mean_typed (t_variable {ns = ns} {x = x} {t = t} k) env h = named_typed x env ns t (extent_value d (extent_class S x)) h k
      mean_typed (t_extent {ns = ns} {x = x} {c = c} k e) env h =
          subst (λ o. HasType d (name_value o (extent_value d (extent_class S x))) (TSet (TClass c))) (sym (named_none x env ns h k)) (extent_typed (extent_class S x) c e)
      mean_typed (t_literal {l = l} {t = t} k) env h = literal_typed t l k
      mean_typed (t_set {l = l} {ls = ls} {t = t} k) env h =
          set_typed d t (map (λ (x : LitTree × ℕ). literal_value x.0) (l ∷ ls)) (each_map _ (λ (x : LitTree × ℕ). IsLiteral t x.0) (λ (x : LitTree × ℕ). literal_value x.0) (l ∷ ls) k (λ x g. literal_typed t x.0 g))
      mean_typed (t_path {e = e} q k) env h = path_typed S m k (mean S d e env) (mean_typed q env h)
      mean_typed (t_struct q s) env h = fields_typed q env h
      mean_typed (t_flatten {e = e} {t = t} q) env h =
          set_typed d t (flat_map members (members (mean S d e env))) (each_flat_map _ (λ x. HasType d x (TSet t)) members (members (mean S d e env)) (members_typed d (TSet t) (mean S d e env) (mean_typed q env h)) (λ x g. members_typed d t x g))
      mean_typed (t_some_member q) env h = tt
      mean_typed (t_not q) env h = tt
      mean_typed (t_intersect {e = e} q k) env h = intersects_typed k (mean S d e env) env h (mean_typed q env h)
      mean_typed (t_and {e = e} q k) env h = ands_typed k (mean S d e env) env h (mean_typed q env h)
      mean_typed (t_or {e = e} q k) env h = ors_typed k (mean S d e env) env h (mean_typed q env h)
      mean_typed (t_union_except {e = e} q k) env h = unions_typed k (mean S d e env) env h (mean_typed q env h)
      mean_typed (t_eq p q) env h = tt
      mean_typed (t_ne p q) env h = tt
      mean_typed (t_lt p q o) env h = tt
      mean_typed (t_le p q o) env h = tt
      mean_typed (t_gt p q o) env h = tt
      mean_typed (t_ge p q o) env h = tt
      mean_typed (t_member p q) env h = tt
      mean_typed (t_exists p q) env h = tt
      mean_typed (t_for_all p q) env h = tt
      mean_typed (t_select {ns = ns} {ms = ms} {h = hd} {rs = rs} {w = w} {t = t} o p k q s) env h =
          set_typed d t (map (mean S d hd) (filter (holds S d w) (rows S d rs env)))
          (each_map _ (λ row. Fills d row ms) (mean S d hd) (filter (holds S d w) (rows S d rs env)) (each_filter _ (holds S d w) (rows S d rs env) (rows_typed p env h)) (λ row g. mean_typed q row g))

      pub intersects_typed : {ns : Scope} {t u : TypeTree} {ls : QueryLinks} → SetsJoin S ns t ls u → (v : ValueTree) (env : Env) → Fills d env ns → HasType d v t → HasType d (links_value S d intersect_value v ls env) u
      intersects_typed s_end v env h g = g
      intersects_typed (s_link {e = e} {t = t} q k) v env h g = intersects_typed k (intersect_value v (mean S d e env)) env h (intersection_typed t v (mean S d e env) g)

      pub ands_typed : {ns : Scope} {t u : TypeTree} {ls : QueryLinks} → BoolsJoin S ns t ls u → (v : ValueTree) (env : Env) → Fills d env ns → HasType d v t → HasType d (links_value S d and_value v ls env) u
      ands_typed b_end v env h g = g
      ands_typed (b_link {e = e} q k) v env h g = ands_typed k (and_value v (mean S d e env)) env h tt

      pub ors_typed : {ns : Scope} {t u : TypeTree} {ls : QueryLinks} → BoolsJoin S ns t ls u → (v : ValueTree) (env : Env) → Fills d env ns → HasType d v t → HasType d (links_value S d or_value v ls env) u
      ors_typed b_end v env h g = g
      ors_typed (b_link {e = e} q k) v env h g = ors_typed k (or_value v (mean S d e env)) env h tt

      pub unions_typed : {ns : Scope} {t u : TypeTree} {ls : SetLinks} → UnionsJoin S ns t ls u → (v : ValueTree) (env : Env) → Fills d env ns → HasType d v t → HasType d (set_links_value S d v ls env) u
      unions_typed u_end v env h g = g
      unions_typed (u_link {except = b} {e = e} {t = t} q k) v env h g = unions_typed k (union_except_value b v (mean S d e env)) env h (sets_typed b t v (mean S d e env) g (mean_typed q env h))

      pub fields_typed : {ns : Scope} {before : List (List ℕ)} {fs : QueryFields} {ts : FieldTypes} → HaveQueryTypes S ns before fs ts → (env : Env) → Fills d env ns → HaveTypes d (fields_value S d fs env) ts
      fields_typed f_end env h = tt
      fields_typed (f_field n l q k) env h = (refl, mean_typed q env h, fields_typed k env h)

      pub rows_typed : {ns ms : Scope} {rs : QueryRanges} → BindScope S ns rs ms → (env : Env) → Fills d env ns → Each (λ row. Fills d row ms) (rows S d rs env)
      rows_typed r_end env h = (h, tt)
      rows_typed (r_range {ms = ms} {x = x} {r = r} {rs = rs} {t = t} q k) env h =
          each_flat_map (λ row. Fills d row ms) (λ v. HasType d v t) (λ v. rows S d rs ((x, v) ∷ env)) (members (mean S d r env)) (members_typed d t (mean S d r env) (mean_typed q env h)) (λ v g. rows_typed k ((x, v) ∷ env) (refl, g, h))
