-- Which `select` of a query is a label: behind any other one, and only there, `distinct` stands.
use Rattle.std.proofs.Common.{◌≡◌, ◌⊎◌, inl, inr, ℕ, zero, suc, Bool, true, false, List, [], ◌∷◌, ◌++◌, Some, append_assoc, refl, sym, ap, subst, ◌∙◌}
use Rattle.std.specs.Prelude.{◌&&◌, not}
use Rattle.kola_base.specs.Placed.{Placed}
use Rattle.kola_base.specs.declared.sign.Sign.TheVariants as s
use Rattle.kola_parse.specs.Faults.{Unlimited, Begins}
use Rattle.kola_parse.specs.Kinds.{leads}
use Rattle.kola_parse.specs.Listed.{Listed}
use Rattle.kola_parse.specs.Texts.{◌·◌, ends, none}
use Rattle.oql_syntax.specs.Alphabet.{Kind, KSign, KWord, KName, KNumber, KString, KOther, kind}
use Rattle.oql_syntax.specs.Grammar.{Text, ◌▸◌, at, VariableText, NameAtText, LabelText, LiteralText, PartedByCommas, LinkedText, OperandsText, OpenLinkedText, Deeper, FieldText, ItselfText, PrimText, PathText, MeetText, union_word, SetsText, ComparedText, PrefixedText, NotText, AndText, OrText, RangeText, WhereText, SelectText, FullText, deeper_texts, QueryText}
use Rattle.oql_syntax.specs.Limits.{QueryWithin}
use Rattle.oql_syntax.specs.QueryFaults.{is_label_behind, is_select, ends_in_select, last_is_select, DistinctMayFollow}
use Rattle.oql_syntax.specs.QueryParts.{literal_of, comparison_of}
use Rattle.oql_tree.specs.QueryTrees.{LitTree, QueryTree, QName, QLiteral, QSetOf, QStruct, QFlatten, QSomeMember, QNot, QAnd, QOr, QCompare, QExists, QForAll, QSelect, QueryWhere, NoWhere, Where, fields, ranges}
use Rattle.oql_tree.specs.declared.query.Sign.{Sign}
use Rattle.oql_syntax.specs.declared.word.QueryWord.{QueryWord}
use Rattle.oql_syntax.specs.declared.word.QueryWord.TheVariants as q

abbrev is_distinct : Kind → Bool
is_distinct (KWord q.Distinct) = true
is_distinct _ = false

abbrev is_struct : Kind → Bool
is_struct (KWord q.Struct) = true
is_struct _ = false

abbrev NoDistinct : List Placed → Type 0
NoDistinct [] = Unit {0}
NoDistinct (t ∷ w) = is_distinct (kind t) ≡ false

abbrev DistinctFirst : List Placed → Type 0
DistinctFirst [] = ⊥
DistinctFirst (t ∷ w) = kind t ≡ KWord q.Distinct

-- what stands behind a token, which may be a select, and that a label
abbrev Here : Bool → Bool → List Placed → Type 0
Here false b w = Unit {0}
Here true true w = NoDistinct w
Here true false w = DistinctFirst w

-- behind two tokens of the kinds j and k, each select is a label or has its distinct
abbrev Selects : Kind → Kind → List Placed → Type 0
Selects j k [] = Unit {0}
Selects j k (t ∷ w) = Here (is_select (kind t)) (is_label_behind j k) w × Selects k (kind t) w

-- ---- texts one behind another

no_distinct_join : (u v : List Placed) → NoDistinct u → NoDistinct v → NoDistinct (u ++ v)
no_distinct_join [] v h g = g
no_distinct_join (t ∷ u) v h g = h

here_join : (b c : Bool) (u v : List Placed) → Here b c u → NoDistinct v → Here b c (u ++ v)
here_join false c u v h g = tt
here_join true true u v h g = no_distinct_join u v h g
here_join true false [] v h g = absurd h
here_join true false (t ∷ u) v h g = h

join : (j k : Kind) (u v : List Placed) → Selects j k u → ((j k : Kind) → Selects j k v) → NoDistinct v → Selects j k (u ++ v)
join j k [] v h g n = g j k
join j k (t ∷ u) v h g n = (here_join (is_select (kind t)) (is_label_behind j k) u v h.0 n, join k (kind t) u v h.1 g n)

-- texts that may stand behind two tokens as C says
abbrev Behind : (Kind → Kind → Type 0) → Text → Type 0
Behind C A = (j k : Kind) → C j k → (w : List Placed) → A w → Selects j k w

-- and begin with no `distinct`
record Piece (C : Kind → Kind → Type 0) (A : Text) : Type 0 where
  is : Behind C A
  starts : (w : List Placed) → A w → NoDistinct w

abbrev Any : Kind → Kind → Type 0
Any j k = Unit {0}

-- behind no struct
abbrev Operand : Kind → Kind → Type 0
Operand j k = is_struct k ≡ false

-- and where a select is no label
abbrev Whole : Kind → Kind → Type 0
Whole j k = (is_label_behind j k ≡ false) × (is_struct k ≡ false)

abbrev Label : Kind → Kind → Type 0
Label j k = is_label_behind j k ≡ true

weaken : {C D : Kind → Kind → Type 0} {A : Text} → ((j k : Kind) → D j k → C j k) → Piece C A → Piece D A
weaken f h = record { is = λ j k c w a. h.is j k (f j k c) w a; starts = h.starts }

anywhere : {C : Kind → Kind → Type 0} {A : Text} → Piece Any A → Piece C A
anywhere h = record { is = λ j k c w a. h.is j k tt w a; starts = h.starts }

piece_none : {C : Kind → Kind → Type 0} → Piece C none
piece_none = record { is = λ j k c w h. absurd h; starts = λ w h. absurd h }

at_end : (C : Kind → Kind → Type 0) → Behind C ends
at_end C j k c [] h = tt
at_end C j k c (t ∷ w) h = absurd h

piece_ends : {C : Kind → Kind → Type 0} → Piece C ends
piece_ends {C} = record { is = at_end C; starts = starts }
  where
    starts : (w : List Placed) → ends w → NoDistinct w
    starts [] h = tt
    starts (t ∷ w) h = absurd h

piece_or : {C : Kind → Kind → Type 0} {A B : Text} → Piece C A → Piece C B → Piece C (λ w. A w ⊎ B w)
piece_or {C} {A} {B} a b = record { is = is; starts = starts }
  where
    is : (j k : Kind) → C j k → (w : List Placed) → A w ⊎ B w → Selects j k w
    is j k c w (inl h) = a.is j k c w h
    is j k c w (inr h) = b.is j k c w h

    starts : (w : List Placed) → A w ⊎ B w → NoDistinct w
    starts w (inl h) = a.starts w h
    starts w (inr h) = b.starts w h

piece_then : {C : Kind → Kind → Type 0} {A B : Text} → Piece C A → Piece Any B → Piece C (A · B)
piece_then {C} {A} {B} a b = record {
  is = λ j k c w h. subst (Selects j k) (sym h.split) (join j k h.front h.back (a.is j k c h.front h.first) (λ j k. b.is j k tt h.back h.second) (b.starts h.back h.second));
  starts = λ w h. subst NoDistinct (sym h.split) (no_distinct_join h.front h.back (a.starts h.front h.first) (b.starts h.back h.second));
}

-- a token that is neither word, and then a text that may stand behind it
piece_leads : {C D : Kind → Kind → Type 0} {P : Placed → Type 0} {A : Text} → ((t : Placed) → P t → (is_select (kind t) ≡ false) × (is_distinct (kind t) ≡ false)) → ((j k : Kind) → C j k → (t : Placed) → P t → D k (kind t)) → Behind D A → Piece C (leads P A)
piece_leads {C} {D} {P} {A} other go a = record { is = is; starts = starts }
  where
    is : (j k : Kind) → C j k → (w : List Placed) → leads P A w → Selects j k w
    is j k c [] h = absurd h
    is j k c (t ∷ w) h = (subst (λ b. Here b (is_label_behind j k) w) (sym (other t h.0).0) tt, a k (kind t) (go j k c t h.0) w h.1)

    starts : (w : List Placed) → leads P A w → NoDistinct w
    starts [] h = absurd h
    starts (t ∷ w) h = (other t h.0).1

-- a token of a kind that is neither word
piece_kind : {C D : Kind → Kind → Type 0} {A : Text} (g : Kind) → is_select g ≡ false → is_distinct g ≡ false → ((j k : Kind) → C j k → D k g) → Behind D A → Piece C (g ▸ A)
piece_kind {C} {D} g a b go h = piece_leads (λ t e. (ap is_select e ∙ a, ap is_distinct e ∙ b)) (λ j k c t e. subst (D k) (sym e) (go j k c)) h

piece_at : {C D : Kind → Kind → Type 0} {A : Text} (v : QueryWord) (p : ℕ) → is_select (KWord v) ≡ false → is_distinct (KWord v) ≡ false → ((j k : Kind) → C j k → D k (KWord v)) → Behind D A → Piece C (at v p A)
piece_at {C} {D} v p a b go h = piece_leads (λ t e. (ap is_select e.0 ∙ a, ap is_distinct e.0 ∙ b)) (λ j k c t e. subst (D k) (sym e.0) (go j k c)) h

-- ---- single tokens

piece_variable : (x : List ℕ) → Piece Any (VariableText x)
piece_variable x = piece_kind (KName x) refl refl (λ j k c. tt) (at_end Any)

piece_name : (x : List ℕ) (p : ℕ) → Piece Any (NameAtText x p)
piece_name x p = piece_leads (λ t e. (ap is_select e.0, ap is_distinct e.0)) (λ j k c t e. tt) (at_end Any)

literal_other : (k : Kind) (v : LitTree) → literal_of k ≡ Some v → (is_select k ≡ false) × (is_distinct k ≡ false)
literal_other (KWord q.True) v e = (refl, refl)
literal_other (KWord q.False) v e = (refl, refl)
literal_other (KWord _) v e = absurd cc
literal_other (KNumber z) v e = (refl, refl)
literal_other (KString b) v e = (refl, refl)
literal_other (KName x) v e = (refl, refl)
literal_other (KSign z) v e = (refl, refl)
literal_other KOther v e = (refl, refl)

piece_literal : (v : LitTree × ℕ) → Piece Any (LiteralText v)
piece_literal v = piece_leads (λ t e. literal_other (kind t) v.0 e.0) (λ j k c t e. tt) (at_end Any)

comparison_other : (k : Kind) (z : Sign) → comparison_of k ≡ Some z → (is_select k ≡ false) × (is_distinct k ≡ false) × (is_struct k ≡ false)
comparison_other (KWord q.In) z e = (refl, refl, refl)
comparison_other (KWord _) z e = absurd cc
comparison_other (KNumber y) z e = (refl, refl, refl)
comparison_other (KString b) z e = (refl, refl, refl)
comparison_other (KName x) z e = (refl, refl, refl)
comparison_other (KSign y) z e = (refl, refl, refl)
comparison_other KOther z e = (refl, refl, refl)

-- a label is any word
behind_label : (l : List ℕ × ℕ) → Behind Label (LabelText l)
behind_label l j k c [] h = absurd h
behind_label l j k c (t ∷ a ∷ w) h = absurd h.1
behind_label l j k c (t ∷ []) h = (subst (λ b. Here (is_select (kind t)) b []) (sym c) (last (is_select (kind t))), tt)
  where
    last : (b : Bool) → Here b true []
    last true = tt
    last false = tt

behind_then : {C : Kind → Kind → Type 0} {A B : Text} → Behind C A → Piece Any B → Behind C (A · B)
behind_then {C} {A} {B} a b j k c w h = subst (Selects j k) (sym h.split) (join j k h.front h.back (a j k c h.front h.first) (λ j k. b.is j k tt h.back h.second) (b.starts h.back h.second))

-- ---- lists and chains

piece_listed : {X : Type 0} (I : X → Text) (Last : Text) → ((v : X) → Piece Any (I v)) → Piece Any Last → (vs : List X) → Piece Any (Listed I Last vs)
piece_listed I Last item last [] = last
piece_listed I Last item last (v ∷ vs) = piece_then (item v) (piece_listed I Last item last vs)

-- items behind commas
piece_commas : {X : Type 0} {C : Kind → Kind → Type 0} (I : X → Text) (Last : Text) → ((j : Kind) → C j (KSign s.Comma)) → ((v : X) → Behind C (I v)) → Piece Any Last → (vs : List X) → Behind C (PartedByCommas I Last vs)
piece_commas I Last comma item last [] = λ j k c w h. absurd h
piece_commas {X} {C} I Last comma item last (v ∷ vs) =
    behind_then (item v) (piece_listed (λ v. KSign s.Comma ▸ I v) Last (λ v. piece_kind {C = Any} {D = C} (KSign s.Comma) refl refl (λ j k c. comma k) (item v)) last vs)

piece_linked : {X Y Z : Type 0} {C : Kind → Kind → Type 0} (n : ℕ) (O : X → Text) (Link : Y → Text) (build : X → List Y → Z) → ((x : X) → Piece C (O x)) → ((y : Y) → Piece Any (Link y)) → (z : Z) → Piece C (LinkedText n O Link build z)
piece_linked {X} {Y} {Z} {C} n O Link build first link z = record {
  is = λ j k c w h. (piece_then (first h.first) (piece_listed Link ends link (piece_ends {C = Any}) h.links)).is j k c w h.spells;
  starts = λ w h. (piece_then (first h.first) (piece_listed Link ends link (piece_ends {C = Any}) h.links)).starts w h.spells;
}

piece_operands : (v : QueryWord) → is_select (KWord v) ≡ false → is_distinct (KWord v) ≡ false → is_struct (KWord v) ≡ false → (O : Bool → QueryTree → Text) → ((b : Bool) (e : QueryTree) → Piece Operand (O b e))
    → (b : Bool) (e : QueryTree) (ls : List (ℕ × QueryTree)) → Piece Operand (OperandsText v O b e ls)
piece_operands v a d g O operand b e [] = operand b e
piece_operands v a d g O operand b e (l ∷ ls) = piece_then (operand false e) (piece_at {C = Any} {D = Operand} v l.0 a d (λ j k c. g) (piece_operands v a d g O operand b l.1 ls).is)

piece_open : (n : ℕ) (v : QueryWord) → is_select (KWord v) ≡ false → is_distinct (KWord v) ≡ false → is_struct (KWord v) ≡ false → (O : Bool → QueryTree → Text) (build : _) → ((b : Bool) (e : QueryTree) → Piece Operand (O b e))
    → (b : Bool) (e : QueryTree) → Piece Operand (OpenLinkedText n v O build b e)
piece_open n v a d g O build operand b e = record {
  is = λ j k c w h. (piece_operands v a d g O operand b h.first h.links).is j k c w h.spells;
  starts = λ w h. (piece_operands v a d g O operand b h.first h.links).starts w h.spells;
}

-- ---- levels

record Pieces (B : Deeper) : Type 0 where
  sets : (e : QueryTree) → Piece Operand (B.sets e)
  negation : (b : Bool) (e : QueryTree) → Piece Operand (B.negation b e)
  full : (e : QueryTree) → Piece Whole (B.full e)

no_struct_open : (k : Kind) → is_struct k ≡ false → is_label_behind k (KSign s.Open) ≡ false
no_struct_open (KWord q.Struct) e = absurd cc
no_struct_open _ e = refl

close : Piece Any (KSign s.Close ▸ ends)
close = piece_kind {C = Any} {D = Any} (KSign s.Close) refl refl (λ j k c. tt) (at_end Any)

-- parentheses that no struct stands before
parenthesis : (A : Text) → Piece Whole A → Piece Operand (KSign s.Open ▸ (A · KSign s.Close ▸ ends))
parenthesis A h = piece_kind {C = Operand} {D = Whole} (KSign s.Open) refl refl (λ j k c. (no_struct_open k c, refl)) (piece_then h close).is

module _ (B : Deeper) (h : Pieces B) where
  piece_field : (f : List ℕ × ℕ × QueryTree) → Behind Label (FieldText B f)
  piece_field f = behind_then (behind_label (f.0, f.1)) (piece_kind {C = Any} {D = Whole} (KSign s.Colon) refl refl (λ j k c. (refl, refl)) (h.full f.2).is)

  open_literals : (vs : List (LitTree × ℕ)) → Piece Any (KSign s.Open ▸ PartedByCommas LiteralText (KSign s.Close ▸ ends) vs)
  open_literals vs = piece_kind {C = Any} {D = Any} (KSign s.Open) refl refl (λ j k c. tt) (piece_commas {C = Any} LiteralText (KSign s.Close ▸ ends) (λ j. tt) (λ v. (piece_literal v).is) close vs)

  abbrev BehindStruct : Kind → Kind → Type 0
  BehindStruct j k = k ≡ KWord q.Struct

  open_fields : (fs : List (List ℕ × ℕ × QueryTree)) → Behind BehindStruct (KSign s.Open ▸ PartedByCommas (FieldText B) (KSign s.Close ▸ ends) fs)
  open_fields fs =
      (piece_kind {C = BehindStruct} {D = Label} (KSign s.Open) refl refl (λ j k c. subst (λ z. is_label_behind z (KSign s.Open) ≡ true) (sym c) refl)
      (piece_commas {C = Label} (FieldText B) (KSign s.Close ▸ ends) (λ j. refl) piece_field close fs)).is

  piece_itself : (e : QueryTree) → Piece Operand (ItselfText B e)
  piece_itself (QName p x) = anywhere (piece_name x p)
  piece_itself (QLiteral p v) = anywhere (piece_literal (v, p))
  piece_itself (QSetOf p vs) = piece_at {C = Operand} {D = Any} q.Set p refl refl (λ j k c. tt) (open_literals vs).is
  piece_itself (QStruct p fs) = piece_at {C = Operand} {D = BehindStruct} q.Struct p refl refl (λ j k c. refl) (open_fields (fields fs))
  piece_itself (QFlatten p e) = piece_at {C = Operand} {D = Operand} q.Flatten p refl refl (λ j k c. refl) (parenthesis (B.full e) (h.full e)).is
  piece_itself (QSomeMember p e) = piece_at {C = Operand} {D = Operand} q.Exists p refl refl (λ j k c. refl) (parenthesis (B.full e) (h.full e)).is
  piece_itself _ = piece_none

  piece_prim : (e : QueryTree) → Piece Operand (PrimText B e)
  piece_prim e = piece_or (piece_itself e) (parenthesis (B.full e) (h.full e))

  dot_other : (t : Placed) → (kind t ≡ KSign s.Dot) ⊎ (kind t ≡ KSign s.Arrow) → (is_select (kind t) ≡ false) × (is_distinct (kind t) ≡ false)
  dot_other t (inl e) = (ap is_select e, ap is_distinct e)
  dot_other t (inr e) = (ap is_select e, ap is_distinct e)

  dot_label : (k : Kind) (t : Placed) → (kind t ≡ KSign s.Dot) ⊎ (kind t ≡ KSign s.Arrow) → is_label_behind k (kind t) ≡ true
  dot_label k t (inl e) = ap (is_label_behind k) e
  dot_label k t (inr e) = ap (is_label_behind k) e

  module _ (n : ℕ) where
    piece_path : (e : QueryTree) → Piece Operand (PathText n B e)
    piece_path e = piece_linked n (PrimText B) _ _ piece_prim (λ l. piece_leads {C = Any} {D = Label} dot_other (λ j k c t g. dot_label k t g) (behind_label l)) e

    piece_meet : (e : QueryTree) → Piece Operand (MeetText n B e)
    piece_meet e = piece_linked n (PathText n B) _ _ piece_path (λ l. piece_at {C = Any} {D = Operand} q.Intersect l.0 refl refl (λ j k c. refl) (piece_path l.1).is) e

    union_link : (b : Bool) (p : ℕ) (e : QueryTree) → Piece Any (at (union_word b) p (MeetText n B e))
    union_link true p e = piece_at {C = Any} {D = Operand} q.Except p refl refl (λ j k c. refl) (piece_meet e).is
    union_link false p e = piece_at {C = Any} {D = Operand} q.Union p refl refl (λ j k c. refl) (piece_meet e).is

    piece_sets : (e : QueryTree) → Piece Operand (SetsText n B e)
    piece_sets e = piece_linked n (MeetText n B) _ _ piece_meet (λ l. union_link l.1 l.0 l.2) e

    piece_compared : (e : QueryTree) → Piece Operand (ComparedText n B e)
    piece_compared (QCompare p z a b) =
        piece_then (piece_sets a) (piece_leads {C = Any} {D = Operand} (λ t g. let o = comparison_other (kind t) z g.0 in (o.0, o.1)) (λ j k c t g. (comparison_other (kind t) z g.0).2) (piece_sets b).is)
    piece_compared _ = piece_none

    -- behind the variable of a quantifier
    quantified : (r e : QueryTree) → Piece Any (KWord q.In ▸ (B.sets r · KSign s.Colon ▸ B.full e))
    quantified r e =
        piece_kind {C = Any} {D = Operand} (KWord q.In) refl refl (λ j k c. refl) (piece_then (h.sets r) (piece_kind {C = Any} {D = Whole} (KSign s.Colon) refl refl (λ j k c. (refl, refl)) (h.full e).is)).is

    piece_prefixed : (b : Bool) (e : QueryTree) → Piece Operand (PrefixedText B b e)
    piece_prefixed true (QNot p e) = piece_at {C = Operand} {D = Operand} q.Not p refl refl (λ j k c. refl) (h.negation true e).is
    piece_prefixed false (QNot p e) = piece_at {C = Operand} {D = Operand} q.Not p refl refl (λ j k c. refl) (h.negation false e).is
    piece_prefixed true (QExists p x r e) = piece_at {C = Operand} {D = Any} q.Exists p refl refl (λ j k c. tt) (piece_then (piece_variable x) (quantified r e)).is
    piece_prefixed true (QForAll p x r e) =
        piece_at {C = Operand} {D = Any} q.For p refl refl (λ j k c. tt) (piece_kind {C = Any} {D = Any} (KWord q.All) refl refl (λ j k c. tt) (piece_then (piece_variable x) (quantified r e)).is).is
    piece_prefixed true _ = piece_none
    piece_prefixed false _ = piece_none

    piece_not : (b : Bool) (e : QueryTree) → Piece Operand (NotText n B b e)
    piece_not b e = piece_or (piece_or (piece_sets e) (piece_compared e)) (piece_prefixed b e)

    piece_and : (b : Bool) (e : QueryTree) → Piece Operand (AndText n B b e)
    piece_and = piece_open n q.And refl refl refl (NotText n B) QAnd piece_not

    piece_or_text : (b : Bool) (e : QueryTree) → Piece Operand (OrText n B b e)
    piece_or_text = piece_open n q.Or refl refl refl (AndText n B) QOr piece_and

    piece_range : (r : List ℕ × ℕ × QueryTree) → Piece Operand (RangeText B r)
    piece_range r =
        piece_or (piece_then (anywhere (piece_name r.0 r.1)) (piece_kind {C = Any} {D = Operand} (KWord q.In) refl refl (λ j k c. refl) (h.sets r.2).is))
        (piece_then (h.sets r.2) (piece_kind {C = Any} {D = Any} (KWord q.As) refl refl (λ j k c. tt) (piece_name r.0 r.1).is))

    piece_where : (c : QueryWhere) → Piece Any (WhereText B c)
    piece_where NoWhere = piece_ends {C = Any}
    piece_where (Where p e) = piece_at {C = Any} {D = Whole} q.Where p refl refl (λ j k c. (refl, refl)) (h.full e).is

    from_ranges : (c : QueryWhere) (rs : List (List ℕ × ℕ × QueryTree)) → Piece Any (KWord q.From ▸ PartedByCommas (RangeText B) (WhereText B c) rs)
    from_ranges c rs = piece_kind {C = Any} {D = Operand} (KWord q.From) refl refl (λ j k c. refl) (piece_commas {C = Operand} (RangeText B) (WhereText B c) (λ j. refl) (λ r. (piece_range r).is) (piece_where c) rs)

    select_is : (e : QueryTree) → Behind Whole (SelectText B e)
    select_is (QSelect p e rs c) j k f [] g = absurd g
    select_is (QSelect p e rs c) j k f (t ∷ []) g = absurd g.1
    select_is (QSelect p e rs c) j k f (t ∷ d ∷ w) g = (
      subst (λ b. Here b (is_label_behind j k) (d ∷ w)) (sym (ap is_select g.0.0)) (subst (λ b. Here true b (d ∷ w)) (sym f.0) g.1.0),
      (
        subst (λ b. Here b (is_label_behind k (kind t)) w) (sym (ap is_select g.1.0)) tt,
        subst (λ y. Selects (kind t) y w) (sym g.1.0) ((piece_then (h.full e) (from_ranges c (ranges rs))).is (kind t) (KWord q.Distinct) (refl, refl) w g.1.1),
      ),
    )
    select_is _ j k f w g = absurd g

    select_starts : (e : QueryTree) (w : List Placed) → SelectText B e w → NoDistinct w
    select_starts (QSelect p e rs c) [] g = absurd g
    select_starts (QSelect p e rs c) (t ∷ w) g = ap is_distinct g.0.0
    select_starts _ w g = absurd g

    piece_full : (e : QueryTree) → Piece Whole (FullText n B e)
    piece_full e = piece_or (record { is = select_is e; starts = select_starts e }) (weaken (λ j k c. c.1) (piece_or_text true e))

pieces : (n d : ℕ) → Pieces (deeper_texts n d)
pieces n zero = record { sets = λ e. piece_none; negation = λ b e. piece_none; full = λ e. piece_none }
pieces n (suc d) =
    let below = pieces n d in
    record { sets = piece_sets (deeper_texts n d) below n; negation = piece_not (deeper_texts n d) below n; full = piece_full (deeper_texts n d) below n }

-- in each query a select is a label or has its `distinct`
pub query_selects : (n d : ℕ) (x : QueryTree) (w : List Placed) → QueryText n d x w → Selects KOther KOther w
query_selects n d x w h =
    (piece_then (piece_full (deeper_texts n d) (pieces n d) n x) (piece_or (piece_ends {C = Any}) (piece_kind {C = Any} {D = Any} (KSign s.Semicolon) refl refl (λ j k c. tt) (at_end Any)))).is KOther KOther (refl, refl) w h

-- ---- the last token of what stands before a fault

wants_at : (b c : Bool) (u : List Placed) → (b && not c) ≡ true → Here b c u → DistinctFirst u
wants_at true true u e h = absurd cc
wants_at true false u e h = h
wants_at false c u e h = absurd cc

wants : (j k : Kind) (w u : List Placed) → ends_in_select j k w ≡ true → Selects j k (w ++ u) → DistinctFirst u
wants j k [] u e h = absurd cc
wants j k (t ∷ []) u e h = wants_at (is_select (kind t)) (is_label_behind j k) u e h.0
wants j k (t ∷ v ∷ w) u e h = wants k (kind t) (v ∷ w) u e h.1

takes_at : (b c : Bool) (d : Placed) (u : List Placed) → b ≡ true → kind d ≡ KWord q.Distinct → Here b c (d ∷ u) → (b && not c) ≡ true
takes_at true true d u b i h = absurd (let e = sym (ap is_distinct i) ∙ h in cc)
takes_at true false d u b i h = refl
takes_at false c d u b i h = absurd cc

takes : (j k : Kind) (w : List Placed) (d : Placed) (u : List Placed) → last_is_select w ≡ true → kind d ≡ KWord q.Distinct → Selects j k (w ++ d ∷ u) → ends_in_select j k w ≡ true
takes j k [] d u e i h = absurd cc
takes j k (t ∷ []) d u e i h = takes_at (is_select (kind t)) (is_label_behind j k) d u e i h.0
takes j k (t ∷ v ∷ w) d u e i h = takes k (kind t) (v ∷ w) d u e i h.1

by_first : (w u : List Placed) → DistinctFirst u → Unlimited QueryWithin (w ++ u) → DistinctMayFollow (Unlimited QueryWithin) w
by_first w [] f h = absurd f
by_first w (d ∷ u) f h = (d, f, (u, subst (Unlimited QueryWithin) (sym (append_assoc w (d ∷ []) u)) h))

-- behind a select that is no label a `distinct` may follow
pub select_wants_distinct : (before : List Placed) → Begins (Unlimited QueryWithin) before → ends_in_select KOther KOther before ≡ true → DistinctMayFollow (Unlimited QueryWithin) before
select_wants_distinct before (u, (n, x, h)) e = by_first before u (wants KOther KOther before u e (query_selects n n x (before ++ u) h)) (n, x, h)

-- and behind no other
pub only_a_select_does : (before : List Placed) → last_is_select before ≡ true → DistinctMayFollow (Unlimited QueryWithin) before → ends_in_select KOther KOther before ≡ true
only_a_select_does before e (d, i, (u, (n, x, h))) = takes KOther KOther before d u e i (subst (Selects KOther KOther) (append_assoc before (d ∷ []) u) (query_selects n n x ((before ++ d ∷ []) ++ u) h))
