-- The translation of a typed query has the query's value, encoded: all forms.
use Rattle.std.proofs.Common.{◌≡◌, ℕ, Bool, true, false, not, cond, ◌&&◌, ◌||◌, List, [], ◌∷◌, ◌++◌, Option, Some, None, map, filter, flat_map, refl, sym, ap, ap₂, ◌∙◌, subst, is_lt, is_le, true≢false}
use Rattle.kola_values.specs.Values.{ValueTree, VBool, VPair}
use Rattle.kola_values.specs.Types.{TypeTree, TBool, FieldTypes}
use Rattle.kola_values.specs.Sets.{any, all, members, set_of}
use Rattle.kola_values.specs.Databases.{Classes, Objects, HasType, extent_class, look_up}
use Rattle.kola_values.proofs.Each.{each_map, each_filter}
use Rattle.kola_schema.specs.Meets.{Meets}
use Rattle.kola_schema.specs.Schemas.{is_schema}
use Rattle.kola_canon.specs.Encoding.{enc, enc_fields}
use Rattle.kola_term.specs.Terms.{FunTree, FId, FFlat, FComp, FPair, FIter, PredTree, PAt, PKP, PEx, PFa}
use Rattle.kola_term.specs.Meaning.{den, holds_at}
use Rattle.oql_tree.specs.QueryTrees.{QueryTree, QueryLinks, SetLinks, QueryFields, NoFields, QField, QueryRanges, QRange, QueryWhere}
use Rattle.oql_check.specs.QueryTypes.{Scope, has_range}
use Rattle.oql_check.specs.TypedQueries.{HasQueryType, t_variable, t_extent, t_literal, t_set, t_path, t_struct, t_flatten, t_some_member, t_not, t_intersect, t_and, t_or, t_union_except, t_eq, t_ne, t_lt, t_le, t_gt, t_ge, t_member, t_exists, t_for_all, t_select, SetsJoin, s_end, s_link, BoolsJoin, b_end, b_link, UnionsJoin, u_end, u_link, HaveQueryTypes, f_field, BindScope, r_end, r_range, IsCondition, w_none, w_where}
use Rattle.oql_check.specs.QueryMeaning.{Env, truth, extent_value, intersect_value, union_except_value, and_value, or_value, path_value, mean, links_value, set_links_value, fields_value, rows, holds}
use Rattle.oql_check.specs.Environments.{Fills}
use Rattle.oql_check.proofs.Means.{mean_typed, rows_typed, intersection_typed, sets_typed}
use Rattle.kola_translate.specs.Translation.{type_of_members, env_value, Translated, as_function, over, path_term, intersect_term, union_except_term, and_term, or_term, term_of, links_term, set_links_term, fields_term, ranges_term, where_term, tr, pr}
use Rattle.kola_translate.proofs.TypesRead.{type_is, scope_is}
use Rattle.kola_translate.proofs.Encoded.{kept_map}
use Rattle.kola_translate.proofs.Fields.{no_fields, no_type}
use Rattle.kola_translate.proofs.SetTerms.{set_meant}
use Rattle.kola_translate.proofs.Meant.{IsMeant, function_meant, predicate_meant, name_meant, extent_meant, literal_meant, path_meant, union_meant, intersect_meant, except_meant, member_meant, equal_meant, order_meant, flatten_meant, some_meant, all_meant, last_meant, more_meant}

-- ---- rows

singles : {A B : Type 0} (f : A → B) (vs : List A) → flat_map (λ v. f v ∷ []) vs ≡ map f vs
singles f [] = refl
singles f (v ∷ vs) = ap (λ l. f v ∷ l) (singles f vs)

single_rows : {A B C : Type 0} (g : B → C) (p : B → Bool) (f : A → B) (vs : List A) → map g (filter p (flat_map (λ v. f v ∷ []) vs)) ≡ map (λ v. g (f v)) (filter (λ v. p (f v)) vs)
single_rows g p f vs = ap (λ l. map g (filter p l)) (singles f vs) ∙ kept_map g p f vs

kept_before : {B C : Type 0} (g : B → C) (b : Bool) (x : B) (xs : List B) (ys zs : List C) → map g xs ++ ys ≡ zs → map g (cond b (x ∷ xs) xs) ++ ys ≡ cond b (g x ∷ zs) zs
kept_before g true x xs ys zs h = ap (λ l. g x ∷ l) h
kept_before g false x xs ys zs h = h

cond_map : {B C : Type 0} (g : B → C) (b : Bool) (x : B) (xs : List B) → map g (cond b (x ∷ xs) xs) ≡ cond b (g x ∷ map g xs) (map g xs)
cond_map g true x xs = refl
cond_map g false x xs = refl

kept_append : {B C : Type 0} (g : B → C) (p : B → Bool) (xs ys : List B) → map g (filter p (xs ++ ys)) ≡ map g (filter p xs) ++ map g (filter p ys)
kept_append g p [] ys = refl
kept_append g p (x ∷ xs) ys =
    cond_map g (p x) x (filter p (xs ++ ys))
    ∙ sym (kept_before g (p x) x (filter p xs) (map g (filter p ys)) (map g (filter p (xs ++ ys))) (sym (kept_append g p xs ys)))

kept_rows : {A B C : Type 0} (g : B → C) (p : B → Bool) (f : A → List B) (vs : List A) → map g (filter p (flat_map f vs)) ≡ flat_map (λ v. map g (filter p (f v))) vs
kept_rows g p f [] = refl
kept_rows g p f (v ∷ vs) = kept_append g p (f v) (flat_map f vs) ∙ ap (λ l. map g (filter p (f v)) ++ l) (kept_rows g p f vs)

-- ---- all forms

not_both : {A : Type 0} (o : Option A) (a : A) → o ≡ Some a → o ≡ None → ⊥
not_both (Some b) a h k = cc
not_both None a h k = cc

module _ (S : Classes) (d : Objects) (m : Meets S d) (s : is_schema S ≡ true) where
  value_of : (ns : Scope) (e : QueryTree) (env : Env) → IsMeant S d (env_value env) (term_of S ns e) (mean S d e env) → den S d (tr S ns e) (env_value env) ≡ enc (mean S d e env)
  value_of ns e env h = function_meant S d (env_value env) (term_of S ns e) (mean S d e env) h

  truth_of : (ns : Scope) (e : QueryTree) (env : Env) → HasType d (mean S d e env) TBool → IsMeant S d (env_value env) (term_of S ns e) (mean S d e env) → holds_at S d (pr S ns e) (env_value env) ≡ truth (mean S d e env)
  truth_of ns e env t h = predicate_meant S d (env_value env) (term_of S ns e) (mean S d e env) t h

  mutual
    pub meant : {ns : Scope} {e : QueryTree} {t : TypeTree} → HasQueryType S ns e t → (env : Env) → Fills d env ns → IsMeant S d (env_value env) (term_of S ns e) (mean S d e env)
    meant (t_variable {ns = ns} {x = x} {t = t} k) env h = name_meant S d x (extent_value d (extent_class S x)) env ns h (λ i. absurd (not_both (look_up x ns) t k i))
    meant (t_extent {ns = ns} {x = x} {c = c} k e) env h = name_meant S d x (extent_value d (extent_class S x)) env ns h (λ _. extent_meant S d (extent_class S x) c e)
    meant (t_literal {l = l} k) env h = literal_meant S d (env_value env) l
    meant (t_set {l = l} {ls = ls} {t = t} k) env h = set_meant S d (env_value env) t l ls k
    meant (t_path {ns = ns} {e = e} {ls = ls} {t = t} q k) env h =
        subst (λ z. den S d (path_term S z (tr S ns e) ls) (env_value env) ≡ enc (path_value d (mean S d e env) ls)) (sym (type_is S q))
        (path_meant S d m s (env_value env) k (mean S d e env) (tr S ns e) (mean_typed d S m q env h) (value_of ns e env (meant q env h)))
    meant (t_struct {fs = NoFields} q k) env h = absurd (no_type (no_fields q))
    meant (t_struct {fs = QField l at e fs} q k) env h = fields_meant q env h
    meant (t_flatten {ns = ns} {e = e} {t = t} q) env h = flatten_meant S d (env_value env) t (mean S d e env) (tr S ns e) (mean_typed d S m q env h) (value_of ns e env (meant q env h))
    meant (t_some_member {ns = ns} {e = e} {t = t} q) env h = ap VBool (sym (some_meant S d t (env_value env) (mean S d e env) (tr S ns e) (mean_typed d S m q env h) (value_of ns e env (meant q env h)) (PKP true) (λ v. true) (λ v g. refl)))
    meant (t_not {ns = ns} {e = e} q) env h = ap (λ b. VBool (not b)) (sym (truth_of ns e env (mean_typed d S m q env h) (meant q env h)))
    meant (t_intersect {ns = ns} {e = e} q k) env h = intersects_meant k (term_of S ns e) (mean S d e env) env h (mean_typed d S m q env h) (meant q env h)
    meant (t_and {ns = ns} {e = e} q k) env h = ands_meant k (term_of S ns e) (mean S d e env) env h (mean_typed d S m q env h) (meant q env h)
    meant (t_or {ns = ns} {e = e} q k) env h = ors_meant k (term_of S ns e) (mean S d e env) env h (mean_typed d S m q env h) (meant q env h)
    meant (t_union_except {ns = ns} {e = e} q k) env h = unions_meant k (term_of S ns e) (mean S d e env) env h (mean_typed d S m q env h) (meant q env h)
    meant (t_eq {ns = ns} {a = a} {b = b} {t = t} p q) env h = ap VBool (sym (equal_meant S d (env_value env) t (mean S d a env) (mean S d b env) (tr S ns a) (tr S ns b) (mean_typed d S m p env h) (mean_typed d S m q env h) (value_of ns a env (meant p env h)) (value_of ns b env (meant q env h))))
    meant (t_ne {ns = ns} {a = a} {b = b} {t = t} p q) env h = ap (λ z. VBool (not z)) (sym (equal_meant S d (env_value env) t (mean S d a env) (mean S d b env) (tr S ns a) (tr S ns b) (mean_typed d S m p env h) (mean_typed d S m q env h) (value_of ns a env (meant p env h)) (value_of ns b env (meant q env h))))
    meant (t_lt {ns = ns} {a = a} {b = b} {t = t} p q o) env h = ap VBool (sym (order_meant S d (env_value env) t (mean S d a env) (mean S d b env) (tr S ns a) (tr S ns b) is_lt (mean_typed d S m p env h) (mean_typed d S m q env h) (value_of ns a env (meant p env h)) (value_of ns b env (meant q env h))))
    meant (t_le {ns = ns} {a = a} {b = b} {t = t} p q o) env h = ap VBool (sym (order_meant S d (env_value env) t (mean S d a env) (mean S d b env) (tr S ns a) (tr S ns b) is_le (mean_typed d S m p env h) (mean_typed d S m q env h) (value_of ns a env (meant p env h)) (value_of ns b env (meant q env h))))
    meant (t_gt {ns = ns} {a = a} {b = b} {t = t} p q o) env h = ap VBool (sym (order_meant S d (env_value env) t (mean S d b env) (mean S d a env) (tr S ns b) (tr S ns a) is_lt (mean_typed d S m q env h) (mean_typed d S m p env h) (value_of ns b env (meant q env h)) (value_of ns a env (meant p env h))))
    meant (t_ge {ns = ns} {a = a} {b = b} {t = t} p q o) env h = ap VBool (sym (order_meant S d (env_value env) t (mean S d b env) (mean S d a env) (tr S ns b) (tr S ns a) is_le (mean_typed d S m q env h) (mean_typed d S m p env h) (value_of ns b env (meant q env h)) (value_of ns a env (meant p env h))))
    meant (t_member {ns = ns} {a = a} {b = b} {t = t} p q) env h = ap VBool (sym (member_meant S d (env_value env) t (mean S d a env) (mean S d b env) (tr S ns a) (tr S ns b) (mean_typed d S m p env h) (mean_typed d S m q env h) (value_of ns a env (meant p env h)) (value_of ns b env (meant q env h))))
    meant (t_exists {ns = ns} {x = x} {r = r} {b = b} {t = t} q k) env h =
        subst (λ z. VBool (any (λ v. truth (mean S d b ((x, v) ∷ env))) (members (mean S d r env))) ≡ VBool (holds_at S d (PAt (PEx (pr S ((x, z) ∷ ns) b)) (FPair FId (tr S ns r))) (env_value env))) (sym (ap type_of_members (type_is S q)))
        (ap VBool (sym (some_meant S d t (env_value env) (mean S d r env) (tr S ns r) (mean_typed d S m q env h) (value_of ns r env (meant q env h)) (pr S ((x, t) ∷ ns) b) (λ v. truth (mean S d b ((x, v) ∷ env)))
        (λ v g. truth_of ((x, t) ∷ ns) b ((x, v) ∷ env) (mean_typed d S m k ((x, v) ∷ env) (refl, g, h)) (meant k ((x, v) ∷ env) (refl, g, h))))))
    meant (t_for_all {ns = ns} {x = x} {r = r} {b = b} {t = t} q k) env h =
        subst (λ z. VBool (all (λ v. truth (mean S d b ((x, v) ∷ env))) (members (mean S d r env))) ≡ VBool (holds_at S d (PAt (PFa (pr S ((x, z) ∷ ns) b)) (FPair FId (tr S ns r))) (env_value env))) (sym (ap type_of_members (type_is S q)))
        (ap VBool (sym (all_meant S d t (env_value env) (mean S d r env) (tr S ns r) (mean_typed d S m q env h) (value_of ns r env (meant q env h)) (pr S ((x, t) ∷ ns) b) (λ v. truth (mean S d b ((x, v) ∷ env)))
        (λ v g. truth_of ((x, t) ∷ ns) b ((x, v) ∷ env) (mean_typed d S m k ((x, v) ∷ env) (refl, g, h)) (meant k ((x, v) ∷ env) (refl, g, h))))))
    meant (t_select {ns = ns} {ms = ms} {h = hd} {rs = rs} {w = w} {t = t} o p k q z) env h =
        subst (λ ls. den S d (ranges_term S ns rs (where_term S ls w) (tr S ls hd)) (env_value env) ≡ enc (set_of (map (mean S d hd) (filter (holds S d w) (rows S d rs env))))) (sym (scope_is S p))
        (ranges_meant p o (where_term S ms w) (tr S ms hd) (holds S d w) (mean S d hd) t (λ row g. where_meant k row g) (λ row g. value_of ms hd row (meant q row g)) (λ row g. mean_typed d S m q row g) env h)

    intersects_meant : {ns : Scope} {t u : TypeTree} {ls : QueryLinks} → SetsJoin S ns t ls u → (x : Translated) (v : ValueTree) (env : Env) → Fills d env ns → HasType d v t → IsMeant S d (env_value env) x v
        → IsMeant S d (env_value env) (links_term S ns intersect_term x ls) (links_value S d intersect_value v ls env)
    intersects_meant s_end x v env h g i = i
    intersects_meant (s_link {ns = ns} {e = e} {t = t} q k) x v env h g i =
        intersects_meant k (intersect_term x (term_of S ns e)) (intersect_value v (mean S d e env)) env h (intersection_typed d t v (mean S d e env) g)
        (intersect_meant S d (env_value env) t v (mean S d e env) (as_function x) (tr S ns e) g (mean_typed d S m q env h) (function_meant S d (env_value env) x v i) (value_of ns e env (meant q env h)))

    ands_meant : {ns : Scope} {t u : TypeTree} {ls : QueryLinks} → BoolsJoin S ns t ls u → (x : Translated) (v : ValueTree) (env : Env) → Fills d env ns → HasType d v t → IsMeant S d (env_value env) x v
        → IsMeant S d (env_value env) (links_term S ns and_term x ls) (links_value S d and_value v ls env)
    ands_meant b_end x v env h g i = i
    ands_meant (b_link {ns = ns} {e = e} q k) x v env h g i =
        ands_meant k (and_term x (term_of S ns e)) (and_value v (mean S d e env)) env h tt
        (ap₂ (λ a b. VBool (a && b)) (sym (predicate_meant S d (env_value env) x v g i)) (sym (truth_of ns e env (mean_typed d S m q env h) (meant q env h))))

    ors_meant : {ns : Scope} {t u : TypeTree} {ls : QueryLinks} → BoolsJoin S ns t ls u → (x : Translated) (v : ValueTree) (env : Env) → Fills d env ns → HasType d v t → IsMeant S d (env_value env) x v
        → IsMeant S d (env_value env) (links_term S ns or_term x ls) (links_value S d or_value v ls env)
    ors_meant b_end x v env h g i = i
    ors_meant (b_link {ns = ns} {e = e} q k) x v env h g i =
        ors_meant k (or_term x (term_of S ns e)) (or_value v (mean S d e env)) env h tt
        (ap₂ (λ a b. VBool (a || b)) (sym (predicate_meant S d (env_value env) x v g i)) (sym (truth_of ns e env (mean_typed d S m q env h) (meant q env h))))

    unions_meant : {ns : Scope} {t u : TypeTree} {ls : SetLinks} → UnionsJoin S ns t ls u → (x : Translated) (v : ValueTree) (env : Env) → Fills d env ns → HasType d v t → IsMeant S d (env_value env) x v
        → IsMeant S d (env_value env) (set_links_term S ns x ls) (set_links_value S d v ls env)
    unions_meant u_end x v env h g i = i
    unions_meant (u_link {ns = ns} {except = true} {e = e} {t = t} q k) x v env h g i =
        unions_meant k (union_except_term true x (term_of S ns e)) (union_except_value true v (mean S d e env)) env h (sets_typed d true t v (mean S d e env) g (mean_typed d S m q env h))
        (except_meant S d (env_value env) t v (mean S d e env) (as_function x) (tr S ns e) g (mean_typed d S m q env h) (function_meant S d (env_value env) x v i) (value_of ns e env (meant q env h)))
    unions_meant (u_link {ns = ns} {except = false} {e = e} {t = t} q k) x v env h g i =
        unions_meant k (union_except_term false x (term_of S ns e)) (union_except_value false v (mean S d e env)) env h (sets_typed d false t v (mean S d e env) g (mean_typed d S m q env h))
        (union_meant S d (env_value env) t v (mean S d e env) (as_function x) (tr S ns e) g (mean_typed d S m q env h) (function_meant S d (env_value env) x v i) (value_of ns e env (meant q env h)))

    fields_meant : {ns : Scope} {before : List (List ℕ)} {l : List ℕ} {at : ℕ} {e : QueryTree} {fs : QueryFields} {ts : FieldTypes} → HaveQueryTypes S ns before (QField l at e fs) ts → (env : Env) → Fills d env ns
        → den S d (fields_term S ns (QField l at e fs)) (env_value env) ≡ enc_fields (fields_value S d (QField l at e fs) env)
    fields_meant (f_field {ns = ns} {e = e} {fs = NoFields} n w q k) env h = value_of ns e env (meant q env h)
    fields_meant (f_field {ns = ns} {e = e} {fs = QField l at f fs} n w q k) env h = ap₂ VPair (value_of ns e env (meant q env h)) (fields_meant k env h)

    where_meant : {ns : Scope} {w : QueryWhere} → IsCondition S ns w → (env : Env) → Fills d env ns → holds_at S d (where_term S ns w) (env_value env) ≡ holds S d w env
    where_meant w_none env h = refl
    where_meant (w_where {ns = ns} {e = e} q) env h = truth_of ns e env (mean_typed d S m q env h) (meant q env h)

    -- over any test and any head that agree with the terms under each row of the variables
    ranges_meant : {ns ms : Scope} {rs : QueryRanges} → BindScope S ns rs ms → has_range rs ≡ true → (p : PredTree) (f : FunTree) (B : Env → Bool) (H : Env → ValueTree) (u : TypeTree)
        → ((row : Env) → Fills d row ms → holds_at S d p (env_value row) ≡ B row) → ((row : Env) → Fills d row ms → den S d f (env_value row) ≡ enc (H row)) → ((row : Env) → Fills d row ms → HasType d (H row) u)
        → (env : Env) → Fills d env ns → den S d (ranges_term S ns rs p f) (env_value env) ≡ enc (set_of (map H (filter B (rows S d rs env))))
    ranges_meant r_end o p f B H u i j l env h = absurd (true≢false (sym o))
    ranges_meant (r_range {ns = ns} {x = x} {r = r} {t = t} q r_end) o p f B H u i j l env h =
        last_meant S d t (env_value env) (mean S d r env) (tr S ns r) (mean_typed d S m q env h) (value_of ns r env (meant q env h)) u f p (λ v. B ((x, v) ∷ env)) (λ v. H ((x, v) ∷ env))
        (λ v g. i ((x, v) ∷ env) (refl, g, h)) (λ v g. j ((x, v) ∷ env) (refl, g, h)) (λ v g. l ((x, v) ∷ env) (refl, g, h))
        ∙ ap (λ vs. enc (set_of vs)) (sym (single_rows H B (λ v. (x, v) ∷ env) (members (mean S d r env))))
    ranges_meant (r_range {ns = ns} {ms = ms} {x = x} {at = at} {r = r} {rs = QRange y b e rs} {t = t} q k) o p f B H u i j l env h =
        subst (λ z. den S d (FComp FFlat (over (FIter (PKP true) (ranges_term S ((x, z) ∷ ns) (QRange y b e rs) p f)) (tr S ns r))) (env_value env) ≡ enc (set_of (map H (filter B (rows S d (QRange x at r (QRange y b e rs)) env))))) (sym (ap type_of_members (type_is S q)))
        (more_meant S d t (env_value env) (mean S d r env) (tr S ns r) (mean_typed d S m q env h) (value_of ns r env (meant q env h)) u (ranges_term S ((x, t) ∷ ns) (QRange y b e rs) p f)
        (λ v. map H (filter B (rows S d (QRange y b e rs) ((x, v) ∷ env))))
        (λ v g. each_map (λ a. HasType d a u) (λ row. Fills d row ms) H (filter B (rows S d (QRange y b e rs) ((x, v) ∷ env))) (each_filter (λ row. Fills d row ms) B (rows S d (QRange y b e rs) ((x, v) ∷ env)) (rows_typed d S m k ((x, v) ∷ env) (refl, g, h))) l)
        (λ v g. ranges_meant k refl p f B H u i j l ((x, v) ∷ env) (refl, g, h))
        ∙ ap (λ vs. enc (set_of vs)) (sym (kept_rows H B (λ v. rows S d (QRange y b e rs) ((x, v) ∷ env)) (members (mean S d r env)))))

  pub tr_meant : {ns : Scope} {e : QueryTree} {t : TypeTree} → HasQueryType S ns e t → (env : Env) → Fills d env ns → den S d (tr S ns e) (env_value env) ≡ enc (mean S d e env)
  tr_meant {ns} {e} q env h = value_of ns e env (meant q env h)

  pub pr_meant : {ns : Scope} {e : QueryTree} → HasQueryType S ns e TBool → (env : Env) → Fills d env ns → holds_at S d (pr S ns e) (env_value env) ≡ truth (mean S d e env)
  pr_meant {ns} {e} q env h = truth_of ns e env (mean_typed d S m q env h) (meant q env h)
