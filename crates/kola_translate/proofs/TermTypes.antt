-- The translation of a typed query is typed at the encoded type of the variables in scope, with the encoding of the query's type.
use Rattle.std.proofs.Common.{◌≡◌, ℕ, suc, Bool, true, false, cond, ◌&&◌, List, [], ◌∷◌, Option, Some, None, option_map, option_and_then, refl, sym, ap, ap₂, ◌∙◌, subst, true≢false}
use Rattle.std.specs.Str.{bytes_eq}
use Rattle.kola_core.proofs.Integers.{in_range}
use Rattle.kola_core.specs.Integers.{in_64}
use Rattle.kola_values.specs.Types.{TypeTree, TInt, TStr, TBool, TClass, TSet, TPair, FieldTypes, TEnd, TField, type_fields}
use Rattle.kola_values.specs.Sets.{canon, Each}
use Rattle.kola_values.specs.Databases.{Classes, attribute_type, look_up}
use Rattle.kola_schema.specs.Schemas.{is_schema, class_names}
use Rattle.kola_canon.specs.Encoding.{enc_type, enc_field_types}
use Rattle.kola_term.specs.Literals.{set_type}
use Rattle.kola_term.specs.Terms.{CBool, CExtent, FunTree, FId, FFst, FSnd, FFlat, FUnion, FIsect, FMinus, FAttr, FComp, FPair, FK, FIter, PredTree, PEq, PLt, PLe, PMember, PAt, PKP, PEx, PFa}
use Rattle.kola_term.specs.Typing.{out, is_typed, const_type, twin_type, member_type, is_some_type}
use Rattle.kola_term.proofs.Inversions.{some_same}
use Rattle.kola_term.proofs.Introductions.{bind, pair_is, then_if, when_is, same_ty_itself}
use Rattle.oql_tree.specs.QueryTrees.{LitTree, LitInt, LitStr, LitBool, QueryTree, QueryLinks, SetLinks, QueryFields, NoFields, QField, QueryRanges, QRange, QueryWhere}
use Rattle.oql_check.specs.QueryTypes.{Scope, has_range}
use Rattle.oql_check.specs.TypedQueries.{IsLiteral, Leads, l_end, l_attribute, l_field, HasQueryType, t_variable, t_extent, t_literal, t_set, t_path, t_struct, t_flatten, t_some_member, t_not, t_intersect, t_and, t_or, t_union_except, t_eq, t_ne, t_lt, t_le, t_gt, t_ge, t_member, t_exists, t_for_all, t_select, SetsJoin, s_end, s_link, BoolsJoin, b_end, b_link, UnionsJoin, u_end, u_link, HaveQueryTypes, f_end, f_field, BindScope, r_end, r_range, IsCondition, w_none, w_where}
use Rattle.kola_translate.specs.Translation.{type_or_unit, type_of_members, env_type, distance, Translated, Function, Test, Truth, as_function, as_predicate, name_term, literal_term, literal_values, set_term, after, field_selector, path_term, over, intersect_term, union_except_term, and_term, or_term, term_of, links_term, set_links_term, fields_term, ranges_term, where_term, tr, pr}
use Rattle.kola_translate.proofs.TypesRead.{type_is, scope_is}
use Rattle.kola_translate.proofs.Stored.{attribute_stored, stored_type}
use Rattle.kola_translate.proofs.SetTerms.{literals_type}
use Rattle.kola_translate.proofs.Fields.{no_fields, some_field, no_type}

module _ (S : Classes) where
  -- ---- terms made of their parts

  abbrev HasOut : FunTree → TypeTree → TypeTree → Type 0
  HasOut f t u = out S [] f t ≡ Some u

  comp_out : (f g : FunTree) (t u w : TypeTree) → HasOut g t u → HasOut f u w → HasOut (FComp f g) t w
  comp_out f g t u w h k = bind (λ z. out S [] f z) (out S [] g t) u (Some w) h k

  pair_out : (f g : FunTree) (t u w : TypeTree) → HasOut f t u → HasOut g t w → HasOut (FPair f g) t (TPair u w)
  pair_out f g t u w h k = pair_is (out S [] f t) (out S [] g t) u w h k

  at_typed : (p : PredTree) (f : FunTree) (t u : TypeTree) → HasOut f t u → is_typed S [] p u ≡ true → is_typed S [] (PAt p f) t ≡ true
  at_typed p f t u h k = when_is (out S [] f t) (λ z. is_typed S [] p z) u h k

  twin : (u : TypeTree) → twin_type (TPair u u) ≡ Some u
  twin u = ap (λ b. cond b (Some u) None) (same_ty_itself u)

  set_out : (u : TypeTree) → option_map TSet (option_and_then member_type (twin_type (TPair (TSet u) (TSet u)))) ≡ Some (TSet u)
  set_out u = ap (λ o. option_map TSet (option_and_then member_type o)) (twin (TSet u))

  twin_typed : (u : TypeTree) → is_some_type (twin_type (TPair u u)) ≡ true
  twin_typed u = ap is_some_type (twin u)

  iter_out : (p : PredTree) (f r : FunTree) (t u w : TypeTree) → HasOut r t (TSet u) → is_typed S [] p (TPair t u) ≡ true → HasOut f (TPair t u) w → HasOut (over (FIter p f) r) t (TSet w)
  iter_out p f r t u w a b c =
      comp_out (FIter p f) (FPair FId r) t (TPair t (TSet u)) (TSet w) (pair_out FId r t t (TSet u) refl a)
      (then_if (is_typed S [] p (TPair t u)) (option_map TSet (out S [] f (TPair t u))) (TSet w) b (ap (option_map TSet) c))

  quantified : (q : PredTree) (r : FunTree) (t u : TypeTree) → HasOut r t (TSet u) → is_typed S [] q (TPair t (TSet u)) ≡ true → is_typed S [] (PAt q (FPair FId r)) t ≡ true
  quantified q r t u a b = at_typed q (FPair FId r) t (TPair t (TSet u)) (pair_out FId r t t (TSet u) refl a) b

  -- ---- a function has the encoded type, a test is typed

  abbrev pub IsTypedAs : TypeTree → Translated → TypeTree → Type 0
  IsTypedAs w (Function f) t = HasOut f w (enc_type t)
  IsTypedAs w (Test p) t = (is_typed S [] p w ≡ true) × (t ≡ TBool)
  IsTypedAs w (Truth b) t = t ≡ TBool

  function_typed : (w : TypeTree) (x : Translated) (t : TypeTree) → IsTypedAs w x t → HasOut (as_function x) w (enc_type t)
  function_typed w (Function f) t h = h
  function_typed w (Test p) t h = then_if (is_typed S [] p w) (Some TBool) TBool h.0 refl ∙ ap (λ z. Some (enc_type z)) (sym h.1)
  function_typed w (Truth b) t h = ap (λ z. Some (enc_type z)) (sym h)

  predicate_typed : (w : TypeTree) (x : Translated) → IsTypedAs w x TBool → is_typed S [] (as_predicate x) w ≡ true
  predicate_typed w (Function f) h = at_typed PEq (FPair f (FK (CBool true))) w (TPair TBool TBool) (pair_out f (FK (CBool true)) w TBool TBool h refl) refl
  predicate_typed w (Test p) h = h.0
  predicate_typed w (Truth b) h = refl

  -- ---- names and literals

  older : (x : List ℕ) (w y t : TypeTree) (o : Option ℕ) → IsTypedAs w (name_term x o) t → IsTypedAs (TPair w y) (name_term x (option_map suc o)) t
  older x w y t (Some k) h = h
  older x w y t None h = h

  variable_typed : (x : List ℕ) (t : TypeTree) (ns : Scope) → look_up x ns ≡ Some t → IsTypedAs (env_type ns) (name_term x (distance x ns)) t
  variable_typed x t [] e = absurd (cc)
  variable_typed x t (n ∷ ns) e = at (bytes_eq x n.0) e (λ k. variable_typed x t ns k)
    where
      at : (b : Bool) → cond b (Some n.1) (look_up x ns) ≡ Some t → (look_up x ns ≡ Some t → IsTypedAs (env_type ns) (name_term x (distance x ns)) t)
          → IsTypedAs (TPair (env_type ns) (enc_type n.1)) (name_term x (cond b (Some 0) (option_map suc (distance x ns)))) t
      at true e k = ap (λ z. Some (enc_type z)) (some_same n.1 t e)
      at false e k = older x (env_type ns) (enc_type n.1) t (distance x ns) (k e)

  extent_typed : (x : List ℕ) (t : TypeTree) (ns : Scope) → look_up x ns ≡ None → const_type S [] (CExtent x) ≡ Some (enc_type t) → IsTypedAs (env_type ns) (name_term x (distance x ns)) t
  extent_typed x t [] e c = c
  extent_typed x t (n ∷ ns) e c = at (bytes_eq x n.0) e (λ k. extent_typed x t ns k c)
    where
      at : (b : Bool) → cond b (Some n.1) (look_up x ns) ≡ None → (look_up x ns ≡ None → IsTypedAs (env_type ns) (name_term x (distance x ns)) t)
          → IsTypedAs (TPair (env_type ns) (enc_type n.1)) (name_term x (cond b (Some 0) (option_map suc (distance x ns)))) t
      at true e k = absurd (cc)
      at false e k = older x (env_type ns) (enc_type n.1) t (distance x ns) (k e)

  literal_typed : (w t : TypeTree) (l : LitTree) → IsLiteral t l → IsTypedAs w (literal_term l) t
  literal_typed w TInt (LitInt n) h = then_if (in_64 n) (Some TInt) TInt (in_range n h) refl
  literal_typed w TStr (LitStr s) h = refl
  literal_typed w TBool (LitBool b) h = refl
  literal_typed w _ _ h = absurd h

  plain : (t : TypeTree) (l : LitTree) → IsLiteral t l → enc_type t ≡ t
  plain TInt (LitInt n) h = refl
  plain TStr (LitStr s) h = refl
  plain TBool (LitBool b) h = refl
  plain _ _ h = absurd h

  set_typed : (w t : TypeTree) (l : LitTree × ℕ) (ls : List (LitTree × ℕ)) → Each (λ (m : LitTree × ℕ). IsLiteral t m.0) (l ∷ ls)
      → IsTypedAs w (set_term (set_type (canon (literal_values (l ∷ ls)))) (canon (literal_values (l ∷ ls)))) (TSet t)
  set_typed w t l ls h =
      let vs = canon (literal_values (l ∷ ls)) in
      subst (λ o. IsTypedAs w (set_term o vs) (TSet t)) (sym (literals_type t l ls h))
      (literals_type t l ls h ∙ ap (λ z. Some (TSet z)) (sym (plain t l.0 h.0)))

  -- ---- paths

  field_out : (l : List ℕ) (fs : FieldTypes) (t : TypeTree) (f : FunTree) (w : TypeTree) → look_up l (type_fields fs) ≡ Some t → HasOut f w (enc_field_types fs) → HasOut (after (field_selector l fs) f) w (enc_type t)
  field_out l TEnd t f w e h = absurd (cc)
  field_out l (TField n u TEnd) t f w e h = at (bytes_eq l n) e
    where
      at : (b : Bool) → cond b (Some u) None ≡ Some t → HasOut f w (enc_type t)
      at true k = subst (λ z. HasOut f w (enc_type z)) (some_same u t k) h
      at false k = absurd (cc)
  field_out l (TField n u (TField n2 u2 fs)) t f w e h = at (bytes_eq l n) e (λ k. field_out l (TField n2 u2 fs) t FSnd (TPair (enc_type u) (enc_field_types (TField n2 u2 fs))) k refl)
    where
      at : (b : Bool) → cond b (Some u) (look_up l (type_fields (TField n2 u2 fs))) ≡ Some t
          → (look_up l (type_fields (TField n2 u2 fs)) ≡ Some t → HasOut (after (field_selector l (TField n2 u2 fs)) FSnd) (TPair (enc_type u) (enc_field_types (TField n2 u2 fs))) (enc_type t))
          → HasOut (after (cond b (Some FFst) (Some (after (field_selector l (TField n2 u2 fs)) FSnd))) f) w (enc_type t)
      at true k g = comp_out FFst f w (TPair (enc_type u) (enc_field_types (TField n2 u2 fs))) (enc_type t) h (ap (λ z. Some (enc_type z)) (some_same u t k))
      at false k g = comp_out (after (field_selector l (TField n2 u2 fs)) FSnd) f w (TPair (enc_type u) (enc_field_types (TField n2 u2 fs))) (enc_type t) h (g k)

  module _ (s : is_schema S ≡ true) where
    attribute_out : (a c : List ℕ) (t : TypeTree) (f : FunTree) (w : TypeTree) → attribute_type S c a ≡ Some t → HasOut f w (TClass c) → HasOut (FComp (FAttr a) f) w (enc_type t)
    attribute_out a c t f w e h = comp_out (FAttr a) f w (TClass c) (enc_type t) h (e ∙ ap Some (sym (stored_type (class_names S) t (attribute_stored S s c a t e))))

    path_typed : {t u : TypeTree} {ls : List (List ℕ × ℕ)} → Leads S t ls u → (f : FunTree) (w : TypeTree) → HasOut f w (enc_type t) → HasOut (path_term S t f ls) w (enc_type u)
    path_typed l_end f w h = h
    path_typed (l_attribute {c = c} {a = a} {ls = ls} {t = t} {u = u} e z k) f w h =
        subst (λ o. HasOut (path_term S (type_or_unit o) (FComp (FAttr a) f) ls) w (enc_type u)) (sym e) (path_typed k (FComp (FAttr a) f) w (attribute_out a c t f w e h))
    path_typed (l_field {fs = fs} {l = l} {ls = ls} {t = t} {u = u} e k) f w h =
        subst (λ o. HasOut (path_term S (type_or_unit o) (after (field_selector l fs) f) ls) w (enc_type u)) (sym e) (path_typed k (after (field_selector l fs) f) w (field_out l fs t f w e h))

    -- ---- all forms

    type_of_function : (ns : Scope) (e : QueryTree) (t : TypeTree) → IsTypedAs (env_type ns) (term_of S ns e) t → HasOut (tr S ns e) (env_type ns) (enc_type t)
    type_of_function ns e t h = function_typed (env_type ns) (term_of S ns e) t h

    pred_of : (ns : Scope) (e : QueryTree) → IsTypedAs (env_type ns) (term_of S ns e) TBool → is_typed S [] (pr S ns e) (env_type ns) ≡ true
    pred_of ns e h = predicate_typed (env_type ns) (term_of S ns e) h

    set_pair : (f g h : FunTree) (w u : TypeTree) → out S [] h (TPair (TSet u) (TSet u)) ≡ Some (TSet u) → HasOut f w (TSet u) → HasOut g w (TSet u) → HasOut (FComp h (FPair f g)) w (TSet u)
    set_pair f g h w u k a b = comp_out h (FPair f g) w (TPair (TSet u) (TSet u)) (TSet u) (pair_out f g w (TSet u) (TSet u) a b) k

    compared : (p : PredTree) (f g : FunTree) (w t u : TypeTree) → is_typed S [] p (TPair t u) ≡ true → HasOut f w t → HasOut g w u → is_typed S [] (PAt p (FPair f g)) w ≡ true
    compared p f g w t u k a b = at_typed p (FPair f g) w (TPair t u) (pair_out f g w t u a b) k

    mutual
      pub typed : {ns : Scope} {e : QueryTree} {t : TypeTree} → HasQueryType S ns e t → IsTypedAs (env_type ns) (term_of S ns e) t
      typed (t_variable {ns = ns} {x = x} {t = t} k) = variable_typed x t ns k
      typed (t_extent {ns = ns} {x = x} {c = c} k e) = extent_typed x (TSet (TClass c)) ns k (ap (option_map (λ z. TSet (TClass z))) e)
      typed (t_literal {ns = ns} {l = l} {t = t} k) = literal_typed (env_type ns) t l k
      typed (t_set {ns = ns} {l = l} {ls = ls} {t = t} k) = set_typed (env_type ns) t l ls k
      typed (t_path {ns = ns} {e = e} {ls = ls} {t = t} {u = u} q k) =
          subst (λ z. HasOut (path_term S z (tr S ns e) ls) (env_type ns) (enc_type u)) (sym (type_is S q)) (path_typed k (tr S ns e) (env_type ns) (type_of_function ns e t (typed q)))
      typed (t_struct {fs = NoFields} q k) = absurd (no_type (no_fields q))
      typed (t_struct {fs = QField l at e fs} q k) = fields_out q
      typed (t_flatten {ns = ns} {e = e} {t = t} q) = comp_out FFlat (tr S ns e) (env_type ns) (TSet (TSet (enc_type t))) (TSet (enc_type t)) (type_of_function ns e (TSet (TSet t)) (typed q)) refl
      typed (t_some_member {ns = ns} {e = e} {t = t} q) = (quantified (PEx (PKP true)) (tr S ns e) (env_type ns) (enc_type t) (type_of_function ns e (TSet t) (typed q)) refl, refl)
      typed (t_not {ns = ns} {e = e} q) = (pred_of ns e (typed q), refl)
      typed (t_intersect {ns = ns} {e = e} q k) = intersects_typed k (term_of S ns e) (typed q)
      typed (t_and {ns = ns} {e = e} q k) = ands_typed k (term_of S ns e) (typed q)
      typed (t_or {ns = ns} {e = e} q k) = ors_typed k (term_of S ns e) (typed q)
      typed (t_union_except {ns = ns} {e = e} q k) = unions_typed k (term_of S ns e) (typed q)
      typed (t_eq {ns = ns} {a = a} {b = b} {t = t} p q) = (compared PEq (tr S ns a) (tr S ns b) (env_type ns) (enc_type t) (enc_type t) (twin_typed (enc_type t)) (type_of_function ns a t (typed p)) (type_of_function ns b t (typed q)), refl)
      typed (t_ne {ns = ns} {a = a} {b = b} {t = t} p q) = (compared PEq (tr S ns a) (tr S ns b) (env_type ns) (enc_type t) (enc_type t) (twin_typed (enc_type t)) (type_of_function ns a t (typed p)) (type_of_function ns b t (typed q)), refl)
      typed (t_lt {ns = ns} {a = a} {b = b} {t = t} p q o) = (compared PLt (tr S ns a) (tr S ns b) (env_type ns) (enc_type t) (enc_type t) (twin_typed (enc_type t)) (type_of_function ns a t (typed p)) (type_of_function ns b t (typed q)), refl)
      typed (t_le {ns = ns} {a = a} {b = b} {t = t} p q o) = (compared PLe (tr S ns a) (tr S ns b) (env_type ns) (enc_type t) (enc_type t) (twin_typed (enc_type t)) (type_of_function ns a t (typed p)) (type_of_function ns b t (typed q)), refl)
      typed (t_gt {ns = ns} {a = a} {b = b} {t = t} p q o) = (compared PLt (tr S ns b) (tr S ns a) (env_type ns) (enc_type t) (enc_type t) (twin_typed (enc_type t)) (type_of_function ns b t (typed q)) (type_of_function ns a t (typed p)), refl)
      typed (t_ge {ns = ns} {a = a} {b = b} {t = t} p q o) = (compared PLe (tr S ns b) (tr S ns a) (env_type ns) (enc_type t) (enc_type t) (twin_typed (enc_type t)) (type_of_function ns b t (typed q)) (type_of_function ns a t (typed p)), refl)
      typed (t_member {ns = ns} {a = a} {b = b} {t = t} p q) = (compared PMember (tr S ns a) (tr S ns b) (env_type ns) (enc_type t) (TSet (enc_type t)) (twin_typed (enc_type t)) (type_of_function ns a t (typed p)) (type_of_function ns b (TSet t) (typed q)), refl)
      typed (t_exists {ns = ns} {x = x} {r = r} {b = b} {t = t} q k) = (
        subst (λ z. is_typed S [] (PAt (PEx (pr S ((x, z) ∷ ns) b)) (FPair FId (tr S ns r))) (env_type ns) ≡ true) (sym (ap type_of_members (type_is S q)))
            (quantified (PEx (pr S ((x, t) ∷ ns) b)) (tr S ns r) (env_type ns) (enc_type t) (type_of_function ns r (TSet t) (typed q)) (pred_of ((x, t) ∷ ns) b (typed k))),
        refl,
      )
      typed (t_for_all {ns = ns} {x = x} {r = r} {b = b} {t = t} q k) = (
        subst (λ z. is_typed S [] (PAt (PFa (pr S ((x, z) ∷ ns) b)) (FPair FId (tr S ns r))) (env_type ns) ≡ true) (sym (ap type_of_members (type_is S q)))
            (quantified (PFa (pr S ((x, t) ∷ ns) b)) (tr S ns r) (env_type ns) (enc_type t) (type_of_function ns r (TSet t) (typed q)) (pred_of ((x, t) ∷ ns) b (typed k))),
        refl,
      )
      typed (t_select {ns = ns} {ms = ms} {h = hd} {rs = rs} {w = w} {t = t} o p k q z) =
          subst (λ ls. HasOut (ranges_term S ns rs (where_term S ls w) (tr S ls hd)) (env_type ns) (TSet (enc_type t))) (sym (scope_is S p))
          (ranges_out p o (where_term S ms w) (tr S ms hd) t (where_typed k) (type_of_function ms hd t (typed q)))

      intersects_typed : {ns : Scope} {t u : TypeTree} {ls : QueryLinks} → SetsJoin S ns t ls u → (x : Translated) → IsTypedAs (env_type ns) x t → IsTypedAs (env_type ns) (links_term S ns intersect_term x ls) u
      intersects_typed s_end x i = i
      intersects_typed (s_link {ns = ns} {e = e} {t = t} q k) x i =
          intersects_typed k (intersect_term x (term_of S ns e))
          (set_pair (as_function x) (tr S ns e) FIsect (env_type ns) (enc_type t) (set_out (enc_type t)) (function_typed (env_type ns) x (TSet t) i) (type_of_function ns e (TSet t) (typed q)))

      ands_typed : {ns : Scope} {t u : TypeTree} {ls : QueryLinks} → BoolsJoin S ns t ls u → (x : Translated) → IsTypedAs (env_type ns) x t → IsTypedAs (env_type ns) (links_term S ns and_term x ls) u
      ands_typed b_end x i = i
      ands_typed (b_link {ns = ns} {e = e} q k) x i =
          ands_typed k (and_term x (term_of S ns e)) (ap₂ (λ a b. a && b) (predicate_typed (env_type ns) x i) (pred_of ns e (typed q)), refl)

      ors_typed : {ns : Scope} {t u : TypeTree} {ls : QueryLinks} → BoolsJoin S ns t ls u → (x : Translated) → IsTypedAs (env_type ns) x t → IsTypedAs (env_type ns) (links_term S ns or_term x ls) u
      ors_typed b_end x i = i
      ors_typed (b_link {ns = ns} {e = e} q k) x i =
          ors_typed k (or_term x (term_of S ns e)) (ap₂ (λ a b. a && b) (predicate_typed (env_type ns) x i) (pred_of ns e (typed q)), refl)

      unions_typed : {ns : Scope} {t u : TypeTree} {ls : SetLinks} → UnionsJoin S ns t ls u → (x : Translated) → IsTypedAs (env_type ns) x t → IsTypedAs (env_type ns) (set_links_term S ns x ls) u
      unions_typed u_end x i = i
      unions_typed (u_link {ns = ns} {except = true} {e = e} {t = t} q k) x i =
          unions_typed k (union_except_term true x (term_of S ns e))
          (set_pair (as_function x) (tr S ns e) FMinus (env_type ns) (enc_type t) (set_out (enc_type t)) (function_typed (env_type ns) x (TSet t) i) (type_of_function ns e (TSet t) (typed q)))
      unions_typed (u_link {ns = ns} {except = false} {e = e} {t = t} q k) x i =
          unions_typed k (union_except_term false x (term_of S ns e))
          (set_pair (as_function x) (tr S ns e) FUnion (env_type ns) (enc_type t) (set_out (enc_type t)) (function_typed (env_type ns) x (TSet t) i) (type_of_function ns e (TSet t) (typed q)))

      fields_out : {ns : Scope} {before : List (List ℕ)} {l : List ℕ} {at : ℕ} {e : QueryTree} {fs : QueryFields} {ts : FieldTypes} → HaveQueryTypes S ns before (QField l at e fs) ts
          → HasOut (fields_term S ns (QField l at e fs)) (env_type ns) (enc_field_types ts)
      fields_out (f_field {ns = ns} {e = e} {fs = NoFields} {t = t} n w q f_end) = type_of_function ns e t (typed q)
      fields_out (f_field {ns = ns} {e = e} {fs = QField l at f fs} {t = t} {ts = TField m u ts} n w q k) =
          pair_out (tr S ns e) (fields_term S ns (QField l at f fs)) (env_type ns) (enc_type t) (enc_field_types (TField m u ts)) (type_of_function ns e t (typed q)) (fields_out k)
      fields_out (f_field {fs = QField l at f fs} {ts = TEnd} n w q k) = absurd (some_field k refl)

      where_typed : {ns : Scope} {w : QueryWhere} → IsCondition S ns w → is_typed S [] (where_term S ns w) (env_type ns) ≡ true
      where_typed w_none = refl
      where_typed (w_where {ns = ns} {e = e} q) = pred_of ns e (typed q)

      ranges_out : {ns ms : Scope} {rs : QueryRanges} → BindScope S ns rs ms → has_range rs ≡ true → (p : PredTree) (f : FunTree) (u : TypeTree) → is_typed S [] p (env_type ms) ≡ true → HasOut f (env_type ms) (enc_type u)
          → HasOut (ranges_term S ns rs p f) (env_type ns) (TSet (enc_type u))
      ranges_out r_end o p f u i j = absurd (true≢false (sym o))
      ranges_out (r_range {ns = ns} {x = x} {r = r} {t = t} q r_end) o p f u i j = iter_out p f (tr S ns r) (env_type ns) (enc_type t) (enc_type u) (type_of_function ns r (TSet t) (typed q)) i j
      ranges_out (r_range {ns = ns} {x = x} {r = r} {rs = QRange y b e rs} {t = t} q k) o p f u i j =
          subst (λ z. HasOut (FComp FFlat (over (FIter (PKP true) (ranges_term S ((x, z) ∷ ns) (QRange y b e rs) p f)) (tr S ns r))) (env_type ns) (TSet (enc_type u))) (sym (ap type_of_members (type_is S q)))
          (comp_out FFlat (over (FIter (PKP true) (ranges_term S ((x, t) ∷ ns) (QRange y b e rs) p f)) (tr S ns r)) (env_type ns) (TSet (TSet (enc_type u))) (TSet (enc_type u))
          (iter_out (PKP true) (ranges_term S ((x, t) ∷ ns) (QRange y b e rs) p f) (tr S ns r) (env_type ns) (enc_type t) (TSet (enc_type u)) (type_of_function ns r (TSet t) (typed q)) refl (ranges_out k refl p f u i j)) refl)

    pub tr_typed : {ns : Scope} {e : QueryTree} {t : TypeTree} → HasQueryType S ns e t → out S [] (tr S ns e) (env_type ns) ≡ Some (enc_type t)
    tr_typed {ns} {e} {t} q = type_of_function ns e t (typed q)

    pub pr_typed : {ns : Scope} {e : QueryTree} → HasQueryType S ns e TBool → is_typed S [] (pr S ns e) (env_type ns) ≡ true
    pr_typed {ns} {e} q = pred_of ns e (typed q)
