-- Turns of the loops of the check: what the typing says of the entries from a place on.
use Rattle.std.proofs.Common.{◌≡◌, ℕ, ◌+◌, ◌-◌, ◌<◌, ◌≤◌, Bool, true, false, List, [], ◌∷◌, ◌++◌, length, get_or, map, drop, not, nat_lt, ◌==◌, true≢false, Some, Result, Ok, Err, refl, sym, ap, subst, ◌∙◌, arith, cond}
use Rattle.std.proofs.lemmas.List.{drop_all, map-append, append_assoc, append-nil, length-map, length-append}
use Rattle.std.proofs.lemmas.Bool.Decides.{nat_tests}
use Rattle.std.specs.List.{list_any}
use Rattle.std.specs.Result.{IsErrAnd}
use Rattle.std.proofs.lemmas.Result.{err_from_is_err_and}
use Rattle.std.specs.Str.{bytes_eq}
use Rattle.kola_core.specs.declared.name.Name.{Name}
use Rattle.kola_core.specs.NameLists.{is_listed}
use Rattle.kola_core.proofs.Lists.{left_less, length_seen}
use Rattle.kola_core.proofs.NameLists.{listed_seen}
use Rattle.kola_schema.specs.Schemas.{names_of}
use Rattle.kola_values.specs.Databases.{Classes, look_up}
use Rattle.kola_values.specs.Types.{TypeTree, TBool, TSet, TStruct, FieldTypes, TEnd, TField, same_type, type_fields, of_type_fields}
use Rattle.kola_values.specs.Views.{type_tree, type_entry}
use Rattle.kola_values.specs.declared.ty.Ty.{Ty}
use Rattle.oql_tree.specs.QueryTrees.{QueryTree, QSelect, QueryRanges, QRange, NoRanges, QueryWhere, of_links, of_set_links, of_fields, of_ranges}
use Rattle.oql_tree.specs.QueryViews.{query_tree, lit_tree, literal_entry, link_entry, set_link_entry, named_entry}
use Rattle.oql_tree.specs.declared.query.Expr.{Expr}
use Rattle.oql_tree.specs.declared.query.Lit.{Lit}
use Rattle.oql_check.specs.declared.fault.CheckFault.{CheckFault}
use Rattle.oql_check.specs.declared.fault.CheckFault.TheVariants.{At, Memory}
use Rattle.oql_check.specs.declared.fault.CheckWhy.TheVariants as why
use Rattle.oql_check.specs.Limits.{field_limit}
use Rattle.oql_check.specs.QueryTypes.{Scope, Checked, and_then, provided, sized, same_at, literal_type, alike, found, struct_of, step_type, sets_type, set_at, label_at, field_before, has_range, query_type, links_type, set_links_type, fields_type, ranges_scope, where_type}
use Rattle.oql_check.specs.CheckAnswers.{FaultOf}
use Rattle.oql_check.proofs.OneFault.{not_both}
use Rattle.oql_check.specs.Checking.{IsFault, IsType, Finds, Binds, EndsIn}

-- ---- faults

-- a fault of a part is one of what comes behind it
pub fault_then : {A B : Type 0} (f : CheckFault) (r : Checked A) (k : A → Checked B) → IsFault f r → IsFault f (and_then r k)
fault_then (At at c) r k h = ap (λ s. and_then s k) h
fault_then Memory r k h = tt

pub then_then : {A B C : Type 0} (r : Checked A) (k : A → Checked B) (l : B → Checked C) → and_then (and_then r k) l ≡ and_then r (λ a. and_then (k a) l)
then_then (Ok a) k l = refl
then_then (Err e) k l = refl

-- ---- fields of a struct type

pub fields-of_fields : (fs : List (List ℕ × TypeTree)) → type_fields (of_type_fields fs) ≡ fs
fields-of_fields [] = refl
fields-of_fields (f ∷ fs) = ap (λ l. f ∷ l) (fields-of_fields fs)

-- ---- chains

module _ (S : Classes) (ns : Scope) where
  module _ (join : ℕ → TypeTree → TypeTree → Checked TypeTree) (xs : List (ℕ × Expr)) (i : ℕ) where
    pub links_turn : (x : ℕ × Expr) (t : TypeTree) → i < length xs → x ≡ get_or xs i x
        → links_type S ns join t (of_links (drop i (map link_entry xs)))
        ≡ and_then (query_type S ns (query_tree x.1)) (λ u. and_then (join x.0 t u) (λ v. links_type S ns join v (of_links (drop (i + 1) (map link_entry xs)))))
    links_turn x t p h = ap (λ l. links_type S ns join t (of_links l)) (left_less link_entry xs (map link_entry xs) i x refl p h)

    pub links_over : (t : TypeTree) → length xs ≤ i → links_type S ns join t (of_links (drop i (map link_entry xs))) ≡ Ok t
    links_over t p = let m = length_seen link_entry xs (map link_entry xs) refl in ap (λ l. links_type S ns join t (of_links l)) (drop_all i (map link_entry xs) (omega arith))

  module _ (xs : List (ℕ × Bool × Expr)) (i : ℕ) where
    pub set_links_turn : (x : ℕ × Bool × Expr) (t : TypeTree) → i < length xs → x ≡ get_or xs i x
        → set_links_type S ns t (of_set_links (drop i (map set_link_entry xs)))
        ≡ and_then (query_type S ns (query_tree x.2)) (λ u. and_then (sets_type x.0 t u) (λ v. set_links_type S ns v (of_set_links (drop (i + 1) (map set_link_entry xs)))))
    set_links_turn x t p h = ap (λ l. set_links_type S ns t (of_set_links l)) (left_less set_link_entry xs (map set_link_entry xs) i x refl p h)

    pub set_links_over : (t : TypeTree) → length xs ≤ i → set_links_type S ns t (of_set_links (drop i (map set_link_entry xs))) ≡ Ok t
    set_links_over t p = let m = length_seen set_link_entry xs (map set_link_entry xs) refl in ap (λ l. set_links_type S ns t (of_set_links l)) (drop_all i (map set_link_entry xs) (omega arith))

  -- ---- fields

  module _ (xs : List (Name × ℕ × Expr)) (us : List (List ℕ × ℕ × QueryTree)) (e : map named_entry xs ≡ us) (i : ℕ) where
    pub fields_turn : (x : Name × ℕ × Expr) (before : List (List ℕ)) → i < length xs → x ≡ get_or xs i x
        → fields_type S ns before (of_fields (drop i us))
        ≡ and_then (label_at x.1 before x.0) (λ _. and_then (query_type S ns (query_tree x.2)) (λ t. field_before x.0 t (fields_type S ns (before ++ x.0 ∷ []) (of_fields (drop (i + 1) us)))))
    fields_turn x before p h = ap (λ l. fields_type S ns before (of_fields l)) (left_less named_entry xs us i x e p h)

    pub fields_over : (before : List (List ℕ)) → length xs ≤ i → fields_type S ns before (of_fields (drop i us)) ≡ Ok TEnd
    fields_over before p = let m = length_seen named_entry xs us e in ap (λ l. fields_type S ns before (of_fields l)) (drop_all i us (omega arith))

    pub ranges_turn : (x : Name × ℕ × Expr) → i < length xs → x ≡ get_or xs i x
        → ranges_scope S ns (of_ranges (drop i us)) ≡ and_then (ranges_scope S ns (QRange x.0 x.1 (query_tree x.2) NoRanges)) (λ ms. ranges_scope S ms (of_ranges (drop (i + 1) us)))
    ranges_turn x p h =
        let rest = of_ranges (drop (i + 1) us) in
        ap (λ l. ranges_scope S ns (of_ranges l)) (left_less named_entry xs us i x e p h)
        ∙ sym (then_then (query_type S ns (query_tree x.2)) (λ t. and_then (set_at x.1 t) (λ m. Ok ((x.0, m) ∷ ns))) (λ ms. ranges_scope S ms rest)
        ∙ λ j. and_then (query_type S ns (query_tree x.2)) (λ t. then_then (set_at x.1 t) (λ m. Ok ((x.0, m) ∷ ns)) (λ ms. ranges_scope S ms rest) j))

    pub ranges_over : length xs ≤ i → ranges_scope S ns (of_ranges (drop i us)) ≡ Ok ns
    ranges_over p = let m = length_seen named_entry xs us e in ap (λ l. ranges_scope S ns (of_ranges l)) (drop_all i us (omega arith))

-- the fields so far, and those that are found behind them
abbrev pub behind : List (List ℕ × TypeTree) → FieldTypes → FieldTypes
behind fs ts = of_type_fields (fs ++ type_fields ts)

of_fields-fields : (ts : FieldTypes) → of_type_fields (type_fields ts) ≡ ts
of_fields-fields TEnd = refl
of_fields-fields (TField l t ts) = ap (TField l t) (of_fields-fields ts)

-- what the loop over the fields has still to answer
abbrev pub to_come : Classes → Scope → List (List ℕ × TypeTree) → List (List ℕ × ℕ × QueryTree) → Checked FieldTypes
to_come S ns types left = and_then (fields_type S ns (names_of types) (of_fields left)) (λ ts. Ok (behind types ts))

all_found : (r : Checked FieldTypes) → and_then r (λ ts. Ok (of_type_fields (type_fields ts))) ≡ r
all_found (Ok ts) = ap Ok (of_fields-fields ts)
all_found (Err e) = refl

pub fields_start : (S : Classes) (ns : Scope) (us : List (List ℕ × ℕ × QueryTree)) → fields_type S ns [] (of_fields us) ≡ to_come S ns [] us
fields_start S ns us = sym (all_found (fields_type S ns [] (of_fields us)))

pub fields_done : (S : Classes) (ns : Scope) (xs : List (Name × ℕ × Expr)) (us : List (List ℕ × ℕ × QueryTree)) (i : ℕ) (types : List (List ℕ × TypeTree)) → map named_entry xs ≡ us → length xs ≤ i
    → to_come S ns types (drop i us) ≡ Ok (of_type_fields types)
fields_done S ns xs us i types e p =
    ap (λ r. and_then r (λ ts. Ok (of_type_fields (types ++ type_fields ts)))) (fields_over S ns xs us e i (names_of types) p)
    ∙ ap (λ l. Ok (of_type_fields l)) (append-nil types)

module _ (S : Classes) (ns : Scope) (xs : List (Name × ℕ × Expr)) (us : List (List ℕ × ℕ × QueryTree)) (e : map named_entry xs ≡ us) (i : ℕ) (x : Name × ℕ × Expr) (p : i < length xs) (h : x ≡ get_or xs i x) (types : List (List ℕ × TypeTree)) where
  abbrev rest : List (List ℕ) → Checked FieldTypes
  rest before = fields_type S ns before (of_fields (drop (i + 1) us))

  abbrev then_field : TypeTree → Checked FieldTypes
  then_field t = field_before x.0 t (rest (names_of types ++ x.0 ∷ []))

  turn : to_come S ns types (drop i us) ≡ and_then (label_at x.1 (names_of types) x.0) (λ _. and_then (query_type S ns (query_tree x.2)) (λ t. and_then (then_field t) (λ ts. Ok (behind types ts))))
  turn =
      ap (λ r. and_then r (λ ts. Ok (behind types ts))) (fields_turn S ns xs us e i x (names_of types) p h)
      ∙ then_then (label_at x.1 (names_of types) x.0) (λ _. and_then (query_type S ns (query_tree x.2)) then_field) (λ ts. Ok (behind types ts))
      ∙ λ j. and_then (label_at x.1 (names_of types) x.0) (λ _. then_then (query_type S ns (query_tree x.2)) then_field (λ ts. Ok (behind types ts)) j)

  pub label_refused : (f : CheckFault) → IsFault f (label_at x.1 (names_of types) x.0) → IsFault f (to_come S ns types (drop i us))
  label_refused f k = subst (IsFault f) (sym turn) (fault_then f (label_at x.1 (names_of types) x.0) (λ _. and_then (query_type S ns (query_tree x.2)) (λ t. and_then (then_field t) (λ ts. Ok (behind types ts)))) k)

  pub field_refused : (f : CheckFault) → label_at x.1 (names_of types) x.0 ≡ Ok tt → IsFault f (query_type S ns (query_tree x.2)) → IsFault f (to_come S ns types (drop i us))
  field_refused f l k =
      subst (IsFault f) (sym (turn ∙ ap (λ r. and_then r (λ _. and_then (query_type S ns (query_tree x.2)) (λ t. and_then (then_field t) (λ ts. Ok (behind types ts))))) l))
      (fault_then f (query_type S ns (query_tree x.2)) (λ t. and_then (then_field t) (λ ts. Ok (behind types ts))) k)

  longer_behind : (t : TypeTree) (ts : FieldTypes) → behind types (TField x.0 t ts) ≡ behind (types ++ (x.0, t) ∷ []) ts
  longer_behind t ts = ap of_type_fields (sym (append_assoc types ((x.0, t) ∷ []) (type_fields ts)))

  pub field_more : (t : TypeTree) → label_at x.1 (names_of types) x.0 ≡ Ok tt → query_type S ns (query_tree x.2) ≡ Ok t → to_come S ns types (drop i us) ≡ to_come S ns (types ++ (x.0, t) ∷ []) (drop (i + 1) us)
  field_more t l q =
      turn
      ∙ ap (λ r. and_then r (λ _. and_then (query_type S ns (query_tree x.2)) (λ u. and_then (then_field u) (λ ts. Ok (behind types ts))))) l
      ∙ ap (λ r. and_then r (λ u. and_then (then_field u) (λ ts. Ok (behind types ts)))) q
      ∙ then_then (rest (names_of types ++ x.0 ∷ [])) (λ ts. Ok (TField x.0 t ts)) (λ ts. Ok (behind types ts))
      ∙ (λ j. and_then (rest (names_of types ++ x.0 ∷ [])) (λ ts. Ok (longer_behind t ts j)))
      ∙ ap (λ before. and_then (rest before) (λ ts. Ok (behind (types ++ (x.0, t) ∷ []) ts))) (sym (map-append (λ (f : List ℕ × TypeTree). f.0) types ((x.0, t) ∷ [])))

-- ---- literals

choice : {A : Type 0} (b : Bool) (at : ℕ) (t : TypeTree) (r : Checked A) → and_then (provided b at why.TypesDiffer (Ok t)) (λ _. r) ≡ cond b r (Err (at, why.TypesDiffer))
choice true at t r = refl
choice false at t r = refl

pub alike_turn : (k f : TypeTree) (xs : List (Lit × ℕ)) (i : ℕ) (x : Lit × ℕ) (b : Bool) → i < length xs → x ≡ get_or xs i x → literal_type x.1 (lit_tree x.0) ≡ Ok f → same_type k f ≡ b
    → alike k (drop i (map literal_entry xs)) ≡ cond b (alike k (drop (i + 1) (map literal_entry xs))) (Err (x.1, why.TypesDiffer))
alike_turn k f xs i x b p h l s =
    let rest = alike k (drop (i + 1) (map literal_entry xs)) in
    ap (alike k) (left_less literal_entry xs (map literal_entry xs) i x refl p h)
    ∙ ap (λ r. and_then r (λ u. and_then (same_at x.1 k u k) (λ _. rest))) l
    ∙ choice (same_type k f) x.1 k rest
    ∙ ap (λ c. cond c rest (Err (x.1, why.TypesDiffer))) s

-- ---- fields

pub field_turn : (l : List ℕ) (xs : List (Name × Ty)) (us : List (List ℕ × TypeTree)) (i : ℕ) (x : Name × Ty) → map type_entry xs ≡ us → i < length xs → x ≡ get_or xs i x
    → look_up l (drop i us) ≡ cond (bytes_eq l x.0) (Some (type_tree x.1)) (look_up l (drop (i + 1) us))
field_turn l xs us i x e p h = ap (look_up l) (left_less type_entry xs us i x e p h)

pub struct_step : (S : Classes) (fs : List (List ℕ × TypeTree)) (l : List ℕ) (at : ℕ) → step_type S (TStruct (of_type_fields fs)) l at ≡ found at (look_up l fs)
struct_step S fs l at = ap (λ g. found at (look_up l g)) (fields-of_fields fs)

pub struct_by : (at : ℕ) (fs : List (List ℕ × TypeTree)) → (length fs ≡ 0 → ⊥) → struct_of at (of_type_fields fs) ≡ sized at (TStruct (of_type_fields fs))
struct_by at [] n = absurd (n refl)
struct_by at (f ∷ fs) n = refl

-- ---- labels

names_seen : (es : List (Name × Ty)) → map (λ (e : Name × Ty). e.0) es ≡ names_of (map type_entry es)
names_seen [] = refl
names_seen (e ∷ es) = ap (λ l. e.0 ∷ l) (names_seen es)

pub labels_seen : (l : List ℕ) (es : List (Name × Ty)) (us : List (List ℕ × TypeTree)) → map type_entry es ≡ us → list_any (λ (e : Name × Ty). bytes_eq l e.0) es ≡ is_listed l (names_of us)
labels_seen l es us e = listed_seen (λ (x : Name × Ty). x.0) l es ∙ ap (is_listed l) (names_seen es ∙ ap names_of e)

pub label_stands : (at : ℕ) (l : List ℕ) (before : List (List ℕ)) → is_listed l before ≡ true → label_at at before l ≡ Err (at, why.RepeatedLabel)
label_stands at l before h = ap (λ b. provided (not b) at why.RepeatedLabel (provided (nat_lt (length before) field_limit) at why.TooManyFields (Ok tt))) h

not_less : (m n : ℕ) → n ≤ m → nat_lt m n ≡ false
not_less m n h = grind (arith, nat_tests)

pub label_past : (at : ℕ) (l : List ℕ) (before : List (List ℕ)) → is_listed l before ≡ false → field_limit ≤ length before → label_at at before l ≡ Err (at, why.TooManyFields)
label_past at l before h p =
    ap (λ b. provided (not b) at why.RepeatedLabel (provided (nat_lt (length before) field_limit) at why.TooManyFields (Ok tt))) h
    ∙ ap (λ b. provided b at why.TooManyFields (Ok tt)) (not_less (length before) field_limit p)

pub names_many : (us : List (List ℕ × TypeTree)) → length (names_of us) ≡ length us
names_many us = length-map us (λ (e : List ℕ × TypeTree). e.0)

-- ---- scopes

drop_past : (vs ws : Scope) → drop (length vs) (vs ++ ws) ≡ ws
drop_past [] ws = refl
drop_past (v ∷ vs) ws = drop_past vs ws

-- back to a scope from one with newer variables
pub back : (ms ns : Scope) → EndsIn ms ns → drop (length ms - length ns) ms ≡ ns
back ms ns h =
    let m : length (h.0 ++ ns) ≡ length h.0 + length ns = length-append h.0 ns in
    let k : length (h.0 ++ ns) - length ns ≡ length h.0 = omega arith in
    ap (λ l. drop (length l - length ns) l) h.1 ∙ ap (λ n. drop n (h.0 ++ ns)) k ∙ drop_past h.0 ns

pub ends_further : (ls ms ns : Scope) → EndsIn ls ms → EndsIn ms ns → EndsIn ls ns
ends_further ls ms ns h k = (h.0 ++ k.0, h.1 ∙ ap (λ l. h.0 ++ l) k.1 ∙ sym (append_assoc h.0 k.0 ns))

-- ---- faults that are handed on

pub handed : (r : Result TypeTree CheckFault) (f : CheckFault) (x : Checked TypeTree) → IsErrAnd r (λ y. y ≡ f) → IsFault f x → IsType r x
handed r f x h k = let p = err_from_is_err_and r h in subst (λ s. IsType s x) (sym p.1) (subst (λ g. IsFault g x) (sym p.2) k)

pub handed_fields : (r : Result Scope CheckFault) (f : CheckFault) (x : Checked FieldTypes) → IsErrAnd r (λ y. y ≡ f) → IsFault f x → Finds of_type_fields r x
handed_fields r f x h k = let p = err_from_is_err_and r h in subst (λ s. Finds of_type_fields s x) (sym p.1) (subst (λ g. IsFault g x) (sym p.2) k)

pub handed_scope : (r : Result (Unit {0}) CheckFault) (f : CheckFault) (ms : Scope) (x : Checked Scope) → IsErrAnd r (λ y. y ≡ f) → IsFault f x → Binds r ms x
handed_scope r f ms x h k = let p = err_from_is_err_and r h in subst (λ s. Binds s ms x) (sym p.1) (subst (λ g. IsFault g x) (sym p.2) k)

-- ---- a turn over the operands of a chain

module _ (S : Classes) (ns ms : Scope) (s : ms ≡ ns) (join : ℕ → TypeTree → TypeTree → Checked TypeTree) (xs : List (ℕ × Expr)) (i : ℕ) (x : ℕ × Expr) (t : TypeTree) (p : i < length xs) (h : x ≡ get_or xs i x)
    (start : Checked TypeTree) (e : start ≡ links_type S ns join t (of_links (drop i (map link_entry xs)))) where
  abbrev joins : TypeTree → Checked TypeTree
  joins u = and_then (join x.0 t u) (λ v. links_type S ns join v (of_links (drop (i + 1) (map link_entry xs))))

  pub operand_refused : (f : CheckFault) → IsFault f (query_type S ms (query_tree x.1)) → IsFault f start
  operand_refused f k = subst (IsFault f) (sym (e ∙ links_turn S ns join xs i x t p h)) (fault_then f (query_type S ns (query_tree x.1)) joins (subst (λ m. IsFault f (query_type S m (query_tree x.1))) s k))

  joined_at : (u : TypeTree) → query_type S ms (query_tree x.1) ≡ Ok u → start ≡ joins u
  joined_at u q = e ∙ links_turn S ns join xs i x t p h ∙ ap (λ r. and_then r joins) (subst (λ m. query_type S m (query_tree x.1) ≡ Ok u) s q)

  pub join_refused : (f : CheckFault) (u : TypeTree) → query_type S ms (query_tree x.1) ≡ Ok u → IsFault f (join x.0 t u) → IsFault f start
  join_refused f u q k = subst (IsFault f) (sym (joined_at u q)) (fault_then f (join x.0 t u) (λ v. links_type S ns join v (of_links (drop (i + 1) (map link_entry xs)))) k)

  pub link_more : (u v : TypeTree) → query_type S ms (query_tree x.1) ≡ Ok u → join x.0 t u ≡ Ok v → start ≡ links_type S ns join v (of_links (drop (i + 1) (map link_entry xs)))
  link_more u v q k = joined_at u q ∙ ap (λ r. and_then r (λ w. links_type S ns join w (of_links (drop (i + 1) (map link_entry xs))))) k

module _ (S : Classes) (ns ms : Scope) (s : ms ≡ ns) (xs : List (ℕ × Bool × Expr)) (i : ℕ) (x : ℕ × Bool × Expr) (t : TypeTree) (p : i < length xs) (h : x ≡ get_or xs i x)
    (start : Checked TypeTree) (e : start ≡ set_links_type S ns t (of_set_links (drop i (map set_link_entry xs)))) where
  abbrev set_joins : TypeTree → Checked TypeTree
  set_joins u = and_then (sets_type x.0 t u) (λ v. set_links_type S ns v (of_set_links (drop (i + 1) (map set_link_entry xs))))

  pub set_operand_refused : (f : CheckFault) → IsFault f (query_type S ms (query_tree x.2)) → IsFault f start
  set_operand_refused f k = subst (IsFault f) (sym (e ∙ set_links_turn S ns xs i x t p h)) (fault_then f (query_type S ns (query_tree x.2)) set_joins (subst (λ m. IsFault f (query_type S m (query_tree x.2))) s k))

  set_joined_at : (u : TypeTree) → query_type S ms (query_tree x.2) ≡ Ok u → start ≡ set_joins u
  set_joined_at u q = e ∙ set_links_turn S ns xs i x t p h ∙ ap (λ r. and_then r set_joins) (subst (λ m. query_type S m (query_tree x.2) ≡ Ok u) s q)

  pub set_join_refused : (f : CheckFault) (u : TypeTree) → query_type S ms (query_tree x.2) ≡ Ok u → IsFault f (sets_type x.0 t u) → IsFault f start
  set_join_refused f u q k = subst (IsFault f) (sym (set_joined_at u q)) (fault_then f (sets_type x.0 t u) (λ v. set_links_type S ns v (of_set_links (drop (i + 1) (map set_link_entry xs)))) k)

  pub set_link_more : (u v : TypeTree) → query_type S ms (query_tree x.2) ≡ Ok u → sets_type x.0 t u ≡ Ok v → start ≡ set_links_type S ns v (of_set_links (drop (i + 1) (map set_link_entry xs)))
  set_link_more u v q k = set_joined_at u q ∙ ap (λ r. and_then r (λ w. set_links_type S ns w (of_set_links (drop (i + 1) (map set_link_entry xs))))) k

-- ---- selects

pub ranges_there : (xs : List (Name × ℕ × Expr)) (us : List (List ℕ × ℕ × QueryTree)) → map named_entry xs ≡ us → (length xs == 0) ≡ false → has_range (of_ranges us) ≡ true
ranges_there xs [] e n = absurd (true≢false (subst (λ k. (k == 0) ≡ false) (sym (length_seen named_entry xs [] e)) n))
ranges_there xs (u ∷ us) e n = refl

module _ (S : Classes) (ns ms : Scope) (at : ℕ) (h : QueryTree) (rs : QueryRanges) (w : QueryWhere) (o : has_range rs ≡ true) (e : ranges_scope S ns rs ≡ Ok ms) where
  abbrev head_type : TypeTree → Checked TypeTree
  head_type _ = and_then (query_type S ms h) (λ t. sized at (TSet t))

  select_at : query_type S ns (QSelect at h rs w) ≡ and_then (where_type S ms w) head_type
  select_at =
      ap (λ b. provided b at why.NotASet (and_then (ranges_scope S ns rs) (λ xs. and_then (where_type S xs w) (λ _. and_then (query_type S xs h) (λ t. sized at (TSet t)))))) o
      ∙ ap (λ r. and_then r (λ xs. and_then (where_type S xs w) (λ _. and_then (query_type S xs h) (λ t. sized at (TSet t))))) e

  pub condition_refused : (f : CheckFault) → IsFault f (where_type S ms w) → IsFault f (query_type S ns (QSelect at h rs w))
  condition_refused f k = subst (IsFault f) (sym select_at) (fault_then f (where_type S ms w) head_type k)

  module _ (k : where_type S ms w ≡ Ok TBool) (ls : Scope) (s : ls ≡ ms) (g : QueryTree) (i : g ≡ h) where
    head_at : query_type S ns (QSelect at h rs w) ≡ and_then (query_type S ls g) (λ t. sized at (TSet t))
    head_at = select_at ∙ ap (λ r. and_then r head_type) k ∙ (λ j. and_then (query_type S (sym s j) (sym i j)) (λ t. sized at (TSet t)))

    pub head_refused : (f : CheckFault) → IsFault f (query_type S ls g) → IsFault f (query_type S ns (QSelect at h rs w))
    head_refused f r = subst (IsFault f) (sym head_at) (fault_then f (query_type S ls g) (λ t. sized at (TSet t)) r)

    pub head_typed : (r : Result TypeTree CheckFault) (t : TypeTree) → query_type S ls g ≡ Ok t → IsType r (sized at (TSet t)) → IsType r (query_type S ns (QSelect at h rs w))
    head_typed r t q z = subst (IsType r) (sym (head_at ∙ ap (λ y. and_then y (λ u. sized at (TSet u))) q)) z

-- ---- the whole query

pub fault_of : (S : Classes) (e : QueryTree) (f : CheckFault) → IsFault f (query_type S [] e) → FaultOf S e f
fault_of S e (At at c) h = (h, λ q. not_both S [] e q.0 at c q.1 h)
fault_of S e Memory h = tt
