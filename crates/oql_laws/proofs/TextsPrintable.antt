-- What a text spells can be printed within the same limits.
use Rattle.std.proofs.Common.{◌≡◌, ◌≤◌, ◌⊎◌, inl, inr, ℕ, zero, suc, Bool, true, false, List, [], ◌∷◌, length, Option, Some, None, refl, sym, ap, subst, arith}
use Rattle.kola_base.specs.declared.scan.Sort.TheVariants as sorts
use Rattle.kola_base.specs.Alphabets.{sign_or, word_or, symbol_by}
use Rattle.kola_base.specs.Lexemes.{Lexeme, LWord, LNumber, LString, LSign}
use Rattle.kola_base.specs.Named.{Named, name_in}
use Rattle.kola_base.specs.Pieces.{piece}
use Rattle.kola_base.specs.Placed.{Placed}
use Rattle.kola_base.specs.Signs.{sign_named}
use Rattle.kola_base.specs.declared.sign.Sign.{Sign}
use Rattle.kola_base.specs.declared.sign.Sign.TheVariants as signs
use Rattle.kola_parse.specs.Kinds.{leads}
use Rattle.kola_parse.specs.Listed.{Listed}
use Rattle.kola_parse.specs.Texts.{◌·◌, ends}
use Rattle.oql_syntax.specs.Alphabet.{KSign, KWord, KName, kind, query_word_named}
use Rattle.oql_syntax.specs.Grammar.{Text, ◌▸◌, at, NameAtText, VariableText, LabelText, LiteralText, PartedByCommas, OperandsText, Deeper, nowhere, FieldText, ItselfText, PrimText, PathText, MeetText, union_word, SetsText, ComparedText, CmpText, PrefixedText, NotText, AndText, OrText, RangeText, WhereText, SelectText, FullText, deeper_texts}
use Rattle.oql_syntax.specs.QueryParts.{named, literal_of, path_tree, chain_tree, union_tree, comparison_of}
use Rattle.oql_tree.specs.QueryTrees.{LitTree, QueryTree, QName, QLiteral, QSetOf, QStruct, QFlatten, QSomeMember, QNot, QIntersect, QAnd, QOr, QCompare, QExists, QForAll, QSelect, QueryLinks, NoLinks, Link, QueryFields, NoFields, QField, QueryRanges, NoRanges, QRange, QueryWhere, NoWhere, Where, links, set_links, fields, ranges, of_links, of_set_links}
use Rattle.oql_laws.proofs.Places.{Place, taken}
use Rattle.oql_laws.proofs.Places as class
use Rattle.oql_syntax.specs.declared.word.QueryWord.{QueryWord}
use Rattle.oql_syntax.specs.declared.word.QueryWord.TheVariants as q
use Rattle.oql_laws.proofs.Sounding.{IsSounding, AreSounding, Part, first_of, second_of, behind, behind_kind, behind_word}
use Rattle.oql_laws.proofs.Printable.{IsName, IsLabel, IsLit, NotEmpty, EachOf, Inside, FitsBy, open_before, Fits, FitLinks, FitSets, FitFields, FitRanges, FitWhere, FitsAt}
use Rattle.oql_laws.proofs.PrintableLaws.{opened, bracketed, widened, compared_at}

-- ---- names, labels, and literals

name_word : (x bs : List ℕ) (o : Option QueryWord) → query_word_named bs ≡ o → word_or bs o ≡ KName x → piece sorts.Word bs ≡ true → IsName x
name_word x bs (Some w) i e h = absurd cc
name_word x bs None i e h = subst IsName (let same : bs ≡ x = cc in same) (h, i)

no_sign : (x : List ℕ) (o : Option Sign) → sign_or {W = QueryWord} o ≡ KName x → ⊥
no_sign x (Some z) e = cc
no_sign x None e = cc

name_by : (x : List ℕ) (l : Lexeme) → symbol_by query_word_named l ≡ KName x → IsSounding l → IsName x
name_by x (LWord bs) e h = name_word x bs (query_word_named bs) refl e h
name_by x (LNumber z) e h = absurd cc
name_by x (LString bs) e h = absurd cc
name_by x (LSign bs) e h = absurd (no_sign x (sign_named bs) e)

name_fits : (x : List ℕ) (p : ℕ) (w : List Placed) → NameAtText x p w → AreSounding w → IsName x
name_fits x p [] h s = absurd h
name_fits x p (t ∷ w) h s = name_by x t.says h.0.0 s.0

variable_fits : (x : List ℕ) (w : List Placed) → VariableText x w → AreSounding w → IsName x
variable_fits x [] h s = absurd h
variable_fits x (t ∷ w) h s = name_by x t.says h.0 s.0

abbrev name_or : Option Named → List ℕ
name_or None = []
name_or (Some n) = n.name

label_by : (n : Named) (l : Lexeme) (p : ℕ) → name_in l p ≡ Some n → IsSounding l → piece sorts.Word n.name ≡ true
label_by n (LWord bs) p e h = subst (λ z. piece sorts.Word z ≡ true) (ap name_or e) h
label_by n (LNumber z) p e h = absurd cc
label_by n (LString bs) p e h = absurd cc
label_by n (LSign bs) p e h = absurd cc

label_fits : (l : List ℕ × ℕ) (w : List Placed) → LabelText l w → AreSounding w → IsLabel l
label_fits l [] h s = absurd h
label_fits l (t ∷ w) h s = label_by (named l.0 l.1) t.says t.at h.0 s.0

abbrev lit_or : Option LitTree → Type 0
lit_or None = Unit {0}
lit_or (Some v) = IsLit v

word_literal : (v : LitTree) (w : QueryWord) → literal_of (KWord w) ≡ Some v → IsLit v
word_literal v q.True e = subst lit_or e tt
word_literal v q.False e = subst lit_or e tt
word_literal v _ e = absurd cc

word_or_literal : (v : LitTree) (bs : List ℕ) (o : Option QueryWord) → literal_of (word_or bs o) ≡ Some v → IsLit v
word_or_literal v bs (Some w) e = word_literal v w e
word_or_literal v bs None e = absurd cc

sign_literal : (v : LitTree) (o : Option Sign) → literal_of (sign_or {W = QueryWord} o) ≡ Some v → ⊥
sign_literal v (Some z) e = cc
sign_literal v None e = cc

literal_by : (v : LitTree) (l : Lexeme) → literal_of (symbol_by query_word_named l) ≡ Some v → IsSounding l → IsLit v
literal_by v (LWord bs) e h = word_or_literal v bs (query_word_named bs) e
literal_by v (LNumber z) e h = subst lit_or e h
literal_by v (LString bs) e h = subst lit_or e h
literal_by v (LSign bs) e h = absurd (sign_literal v (sign_named bs) e)

literal_fits : (v : LitTree × ℕ) (w : List Placed) → LiteralText v w → AreSounding w → IsLit v.0
literal_fits v [] h s = absurd h
literal_fits v (t ∷ w) h s = literal_by v.0 t.says h.0.0 s.0

more_literals : (vs : List (LitTree × ℕ)) (w : List Placed) → Listed (λ v. KSign signs.Comma ▸ LiteralText v) (KSign signs.Close ▸ ends) vs w → AreSounding w → EachOf (λ (v : LitTree × ℕ). IsLit v.0) vs
more_literals [] w h s = tt
more_literals (v ∷ vs) w h s =
    let a = first_of h s in
    let b = behind_kind (KSign signs.Comma) (LiteralText v) a.tokens a.spells a.sounding in
    let c = second_of h s in
    (literal_fits v b.tokens b.spells b.sounding, more_literals vs c.tokens c.spells c.sounding)

literals_fit : (vs : List (LitTree × ℕ)) (w : List Placed) → PartedByCommas LiteralText (KSign signs.Close ▸ ends) vs w → AreSounding w → NotEmpty vs × EachOf (λ (v : LitTree × ℕ). IsLit v.0) vs
literals_fit [] w h s = absurd h
literals_fit (v ∷ vs) w h s =
    let a = first_of h s in
    let b = second_of h s in
    (tt, (literal_fits v a.tokens a.spells a.sounding, more_literals vs b.tokens b.spells b.sounding))

labels_fit : (ls : List (List ℕ × ℕ)) (w : List Placed) → Listed (λ l. leads (λ t. (kind t ≡ KSign signs.Dot) ⊎ (kind t ≡ KSign signs.Arrow)) (LabelText l)) ends ls w → AreSounding w → EachOf IsLabel ls
labels_fit [] w h s = tt
labels_fit (l ∷ ls) w h s =
    let a = first_of h s in
    let b = behind (λ t. (kind t ≡ KSign signs.Dot) ⊎ (kind t ≡ KSign signs.Arrow)) (LabelText l) a.tokens a.spells a.sounding in
    let c = second_of h s in
    (label_fits l b.tokens b.spells b.sounding, labels_fit ls c.tokens c.spells c.sounding)

-- ---- lists of links

counted : (ls : List (ℕ × QueryTree)) → length (links (of_links ls)) ≡ length ls
counted [] = refl
counted (l ∷ ls) = ap suc (counted ls)

sets_counted : (ls : List (ℕ × Bool × QueryTree)) → length (set_links (of_set_links ls)) ≡ length ls
sets_counted [] = refl
sets_counted (l ∷ ls) = ap suc (sets_counted ls)

stays_closed : (ls : QueryLinks) → open_before false ls ≡ false
stays_closed NoLinks = refl
stays_closed (Link p e ls) = refl

-- ---- one level

module _ (n d : ℕ) (B : Deeper)
    (sets : (x : QueryTree) (w : List Placed) → B.sets x w → AreSounding w → Inside d (λ d. FitsAt n class.Sets d false x))
    (negation : (b : Bool) (x : QueryTree) (w : List Placed) → B.negation b x w → AreSounding w → Inside d (λ d. FitsAt n class.Not d b x))
    (full : (x : QueryTree) (w : List Placed) → B.full x w → AreSounding w → Inside d (λ d. Fits n d true x)) where
  full_part : (x : QueryTree) → Part (B.full x) → Inside d (λ d. Fits n d true x)
  full_part x a = full x a.tokens a.spells a.sounding

  sets_part : (x : QueryTree) → Part (B.sets x) → Inside d (λ d. FitsAt n class.Sets d false x)
  sets_part x a = sets x a.tokens a.spells a.sounding

  -- ---- first operands

  field_fits : (l : List ℕ) (p : ℕ) (e : QueryTree) → Part (FieldText B (l, p, e)) → (piece sorts.Word l ≡ true) × Inside d (λ d. Fits n d true e)
  field_fits l p e f =
      let a = first_of f.spells f.sounding in
      let b = second_of f.spells f.sounding in
      (label_fits (l, p) a.tokens a.spells a.sounding, full_part e (behind_kind (KSign signs.Colon) (B.full e) b.tokens b.spells b.sounding))

  more_fields_fit : (fs : QueryFields) (w : List Placed) → Listed (λ f. KSign signs.Comma ▸ FieldText B f) (KSign signs.Close ▸ ends) (fields fs) w → AreSounding w → FitFields n d fs
  more_fields_fit NoFields w h s = tt
  more_fields_fit (QField l p e fs) w h s =
      let a = first_of h s in
      let f = field_fits l p e (behind_kind (KSign signs.Comma) (FieldText B (l, p, e)) a.tokens a.spells a.sounding) in
      let c = second_of h s in
      (f.0, f.1, more_fields_fit fs c.tokens c.spells c.sounding)

  fields_fit : (fs : QueryFields) (w : List Placed) → PartedByCommas (FieldText B) (KSign signs.Close ▸ ends) (fields fs) w → AreSounding w → NotEmpty (fields fs) × FitFields n d fs
  fields_fit NoFields w h s = absurd h
  fields_fit (QField l p e fs) w h s =
      let f = field_fits l p e (first_of h s) in
      let c = second_of h s in
      (tt, (f.0, f.1, more_fields_fit fs c.tokens c.spells c.sounding))

  closed_fits : (x : QueryTree) → Part (KSign signs.Open ▸ (B.full x · KSign signs.Close ▸ ends)) → Inside d (λ d. Fits n d true x)
  closed_fits x a =
      let b = behind_kind (KSign signs.Open) (B.full x · KSign signs.Close ▸ ends) a.tokens a.spells a.sounding in
      full_part x (first_of b.spells b.sounding)

  itself_fits : (x : QueryTree) (w : List Placed) → ItselfText B x w → AreSounding w → FitsAt n class.Prim d false x
  itself_fits (QName p x) w h s = name_fits x p w h s
  itself_fits (QLiteral p v) w h s = literal_fits (v, p) w h s
  itself_fits (QSetOf p vs) w h s =
      let a = behind_word q.Set p (KSign signs.Open ▸ PartedByCommas LiteralText (KSign signs.Close ▸ ends) vs) w h s in
      let b = behind_kind (KSign signs.Open) (PartedByCommas LiteralText (KSign signs.Close ▸ ends) vs) a.tokens a.spells a.sounding in
      literals_fit vs b.tokens b.spells b.sounding
  itself_fits (QStruct p fs) w h s =
      let a = behind_word q.Struct p (KSign signs.Open ▸ PartedByCommas (FieldText B) (KSign signs.Close ▸ ends) (fields fs)) w h s in
      let b = behind_kind (KSign signs.Open) (PartedByCommas (FieldText B) (KSign signs.Close ▸ ends) (fields fs)) a.tokens a.spells a.sounding in
      fields_fit fs b.tokens b.spells b.sounding
  itself_fits (QFlatten p e) w h s = closed_fits e (behind_word q.Flatten p (KSign signs.Open ▸ (B.full e · KSign signs.Close ▸ ends)) w h s)
  itself_fits (QSomeMember p e) w h s = closed_fits e (behind_word q.Exists p (KSign signs.Open ▸ (B.full e · KSign signs.Close ▸ ends)) w h s)
  itself_fits _ w h s = absurd h

  prim_fits : (x : QueryTree) (w : List Placed) → PrimText B x w → AreSounding w → FitsAt n class.Prim d false x
  prim_fits x w (inl h) s = itself_fits x w h s
  prim_fits x w (inr h) s = bracketed n d false class.Prim x (closed_fits x (record { tokens = w; spells = h; sounding = s }))

  -- ---- paths and sets

  path_of : (e : QueryTree) (ls : List (List ℕ × ℕ)) → length ls ≤ n → FitsAt n class.Prim d false e → EachOf IsLabel ls → FitsAt n class.Path d false (path_tree e ls)
  path_of e [] f h k = widened n d false class.Path class.Prim e (omega arith) h
  path_of e (l ∷ ls) f h k = (h, tt, f, k)

  path_fits : (x : QueryTree) (w : List Placed) → PathText n B x w → AreSounding w → FitsAt n class.Path d false x
  path_fits x w h s =
      let a = first_of h.spells s in
      let b = second_of h.spells s in
      subst (λ y. FitsAt n class.Path d false y) (sym h.is) (path_of h.first h.links h.few (prim_fits h.first a.tokens a.spells a.sounding) (labels_fit h.links b.tokens b.spells b.sounding))

  meets_fit : (ls : List (ℕ × QueryTree)) (w : List Placed) → Listed (λ (l : ℕ × QueryTree). at q.Intersect l.0 (PathText n B l.1)) ends ls w → AreSounding w → FitLinks n class.Path d false (of_links ls)
  meets_fit [] w h s = tt
  meets_fit (l ∷ ls) w h s =
      let a = first_of h s in
      let b = behind_word q.Intersect l.0 (PathText n B l.1) a.tokens a.spells a.sounding in
      let c = second_of h s in
      (subst (λ o. FitsAt n class.Path d o l.1) (sym (stays_closed (of_links ls))) (path_fits l.1 b.tokens b.spells b.sounding), meets_fit ls c.tokens c.spells c.sounding)

  meet_of : (e : QueryTree) (ls : List (ℕ × QueryTree)) → length ls ≤ n → FitsAt n class.Path d false e → FitLinks n class.Path d false (of_links ls) → FitsAt n class.Meet d false (chain_tree QIntersect e ls)
  meet_of e [] f h k = widened n d false class.Meet class.Path e (omega arith) h
  meet_of e (l ∷ ls) f h k = (tt, subst (λ m. m ≤ n) (sym (counted (l ∷ ls))) f, h, k)

  meet_fits : (x : QueryTree) (w : List Placed) → MeetText n B x w → AreSounding w → FitsAt n class.Meet d false x
  meet_fits x w h s =
      let a = first_of h.spells s in
      let b = second_of h.spells s in
      subst (λ y. FitsAt n class.Meet d false y) (sym h.is) (meet_of h.first h.links h.few (path_fits h.first a.tokens a.spells a.sounding) (meets_fit h.links b.tokens b.spells b.sounding))

  unions_fit : (ls : List (ℕ × Bool × QueryTree)) (w : List Placed) → Listed (λ (l : ℕ × Bool × QueryTree). at (union_word l.1) l.0 (MeetText n B l.2)) ends ls w → AreSounding w → FitSets n d (of_set_links ls)
  unions_fit [] w h s = tt
  unions_fit (l ∷ ls) w h s =
      let a = first_of h s in
      let b = behind_word (union_word l.1) l.0 (MeetText n B l.2) a.tokens a.spells a.sounding in
      let c = second_of h s in
      (meet_fits l.2 b.tokens b.spells b.sounding, unions_fit ls c.tokens c.spells c.sounding)

  union_of : (e : QueryTree) (ls : List (ℕ × Bool × QueryTree)) → length ls ≤ n → FitsAt n class.Meet d false e → FitSets n d (of_set_links ls) → FitsAt n class.Sets d false (union_tree e ls)
  union_of e [] f h k = widened n d false class.Sets class.Meet e (omega arith) h
  union_of e (l ∷ ls) f h k = (tt, subst (λ m. m ≤ n) (sym (sets_counted (l ∷ ls))) f, h, k)

  sets_fit : (x : QueryTree) (w : List Placed) → SetsText n B x w → AreSounding w → FitsAt n class.Sets d false x
  sets_fit x w h s =
      let a = first_of h.spells s in
      let b = second_of h.spells s in
      subst (λ y. FitsAt n class.Sets d false y) (sym h.is) (union_of h.first h.links h.few (meet_fits h.first a.tokens a.spells a.sounding) (unions_fit h.links b.tokens b.spells b.sounding))

  -- ---- comparisons, negations, quantifiers

  compared_fits : (x : QueryTree) (w : List Placed) → ComparedText n B x w → AreSounding w → FitsAt n class.Compared d false x
  compared_fits (QCompare p z a b) w h s =
      let l = first_of h s in
      let m = second_of h s in
      let r = behind (λ t. (comparison_of (kind t) ≡ Some z) × (t.at ≡ p)) (SetsText n B b) m.tokens m.spells m.sounding in
      (sets_fit a l.tokens l.spells l.sounding, sets_fit b r.tokens r.spells r.sounding)
  compared_fits _ w h s = absurd h

  cmp_fits : (x : QueryTree) (w : List Placed) → CmpText n B x w → AreSounding w → FitsAt n class.Compared d false x
  cmp_fits x w (inl h) s = widened n d false class.Compared class.Sets x (omega arith) (sets_fit x w h s)
  cmp_fits x w (inr h) s = compared_fits x w h s

  negation_part : (b : Bool) (e : QueryTree) → Part (B.negation b e) → Inside d (λ d. FitsAt n class.Not d b e)
  negation_part b e a = negation b e a.tokens a.spells a.sounding

  quantified_fits : (x : List ℕ) (r e : QueryTree) → Part (VariableText x · KWord q.In ▸ (B.sets r · KSign signs.Colon ▸ B.full e)) → IsName x × Inside d (λ d. FitsAt n class.Sets d false r) × Inside d (λ d. Fits n d true e)
  quantified_fits x r e f =
      let a = first_of f.spells f.sounding in
      let b = second_of f.spells f.sounding in
      let c = behind_kind (KWord q.In) (B.sets r · KSign signs.Colon ▸ B.full e) b.tokens b.spells b.sounding in
      let g = second_of c.spells c.sounding in
      (variable_fits x a.tokens a.spells a.sounding, sets_part r (first_of c.spells c.sounding), full_part e (behind_kind (KSign signs.Colon) (B.full e) g.tokens g.spells g.sounding))

  prefixed_fits : (b : Bool) (x : QueryTree) (w : List Placed) → PrefixedText B b x w → AreSounding w → FitsAt n class.Not d b x
  prefixed_fits true (QNot p e) w h s = negation_part true e (behind_word q.Not p (B.negation true e) w h s)
  prefixed_fits false (QNot p e) w h s = negation_part false e (behind_word q.Not p (B.negation false e) w h s)
  prefixed_fits true (QExists p x r e) w h s =
      let f = quantified_fits x r e (behind_word q.Exists p (VariableText x · KWord q.In ▸ (B.sets r · KSign signs.Colon ▸ B.full e)) w h s) in
      (refl, f.0, f.1, f.2)
  prefixed_fits true (QForAll p x r e) w h s =
      let a = behind_word q.For p (KWord q.All ▸ (VariableText x · KWord q.In ▸ (B.sets r · KSign signs.Colon ▸ B.full e))) w h s in
      let f = quantified_fits x r e (behind_kind (KWord q.All) (VariableText x · KWord q.In ▸ (B.sets r · KSign signs.Colon ▸ B.full e)) a.tokens a.spells a.sounding) in
      (refl, f.0, f.1, f.2)
  prefixed_fits _ _ w h s = absurd h

  not_fits : (b : Bool) (x : QueryTree) (w : List Placed) → NotText n B b x w → AreSounding w → FitsAt n class.Not d b x
  not_fits b x w (inl h) s = compared_at n d b class.Not x (omega arith) (cmp_fits x w h s)
  not_fits b x w (inr h) s = prefixed_fits b x w h s

  -- ---- and, or

  operands_fit : (c : Place) (word : QueryWord) (Operand : Bool → QueryTree → Text) → ((b : Bool) (e : QueryTree) (w : List Placed) → Operand b e w → AreSounding w → FitsAt n c d b e)
      → (b : Bool) (e : QueryTree) (ls : List (ℕ × QueryTree)) (w : List Placed) → OperandsText word Operand b e ls w → AreSounding w → FitsAt n c d (open_before b (of_links ls)) e × FitLinks n c d b (of_links ls)
  operands_fit c word Operand op b e [] w h s = (op b e w h s, tt)
  operands_fit c word Operand op b e (l ∷ ls) w h s =
      let a = first_of h s in
      let m = second_of h s in
      let r = behind_word word l.0 (OperandsText word Operand b l.1 ls) m.tokens m.spells m.sounding in
      (op false e a.tokens a.spells a.sounding, operands_fit c word Operand op b l.1 ls r.tokens r.spells r.sounding)

  and_of : (b : Bool) (e : QueryTree) (ls : List (ℕ × QueryTree)) → length ls ≤ n → FitsAt n class.Not d (open_before b (of_links ls)) e × FitLinks n class.Not d b (of_links ls) → FitsAt n class.And d b (chain_tree QAnd e ls)
  and_of b e [] f h = widened n d b class.And class.Not e (omega arith) h.0
  and_of true e (l ∷ ls) f h = (tt, subst (λ m. m ≤ n) (sym (counted (l ∷ ls))) f, h.0, h.1)
  and_of false e (l ∷ ls) f h = (tt, subst (λ m. m ≤ n) (sym (counted (l ∷ ls))) f, h.0, h.1)

  and_fits : (b : Bool) (x : QueryTree) (w : List Placed) → AndText n B b x w → AreSounding w → FitsAt n class.And d b x
  and_fits b x w h s = subst (λ y. FitsAt n class.And d b y) (sym h.is) (and_of b h.first h.links h.few (operands_fit class.Not q.And (NotText n B) (λ b e w k t. not_fits b e w k t) b h.first h.links w h.spells s))

  or_of : (b : Bool) (e : QueryTree) (ls : List (ℕ × QueryTree)) → length ls ≤ n → FitsAt n class.And d (open_before b (of_links ls)) e × FitLinks n class.And d b (of_links ls) → FitsAt n class.Or d b (chain_tree QOr e ls)
  or_of b e [] f h = widened n d b class.Or class.And e (omega arith) h.0
  or_of true e (l ∷ ls) f h = (tt, subst (λ m. m ≤ n) (sym (counted (l ∷ ls))) f, h.0, h.1)
  or_of false e (l ∷ ls) f h = (tt, subst (λ m. m ≤ n) (sym (counted (l ∷ ls))) f, h.0, h.1)

  or_fits : (b : Bool) (x : QueryTree) (w : List Placed) → OrText n B b x w → AreSounding w → FitsAt n class.Or d b x
  or_fits b x w h s = subst (λ y. FitsAt n class.Or d b y) (sym h.is) (or_of b h.first h.links h.few (operands_fit class.And q.Or (AndText n B) (λ b e w k t. and_fits b e w k t) b h.first h.links w h.spells s))

  -- ---- selects

  range_fits : (x : List ℕ) (p : ℕ) (e : QueryTree) (w : List Placed) → RangeText B (x, p, e) w → AreSounding w → IsName x × Inside d (λ d. FitsAt n class.Sets d false e)
  range_fits x p e w (inl h) s =
      let a = first_of h s in
      let b = second_of h s in
      (name_fits x p a.tokens a.spells a.sounding, sets_part e (behind_kind (KWord q.In) (B.sets e) b.tokens b.spells b.sounding))
  range_fits x p e w (inr h) s =
      let b = second_of h s in
      let a = behind_kind (KWord q.As) (NameAtText x p) b.tokens b.spells b.sounding in
      (name_fits x p a.tokens a.spells a.sounding, sets_part e (first_of h s))

  where_fits : (c : QueryWhere) (w : List Placed) → WhereText B c w → AreSounding w → FitWhere n d c
  where_fits NoWhere w h s = tt
  where_fits (Where p e) w h s = full_part e (behind_word q.Where p (B.full e) w h s)

  more_ranges_fit : (rs : QueryRanges) (c : QueryWhere) (w : List Placed) → Listed (λ r. KSign signs.Comma ▸ RangeText B r) (WhereText B c) (ranges rs) w → AreSounding w → FitRanges n d rs × FitWhere n d c
  more_ranges_fit NoRanges c w h s = (tt, where_fits c w h s)
  more_ranges_fit (QRange x p e rs) c w h s =
      let a = first_of h s in
      let b = behind_kind (KSign signs.Comma) (RangeText B (x, p, e)) a.tokens a.spells a.sounding in
      let r = range_fits x p e b.tokens b.spells b.sounding in
      let m = second_of h s in
      let k = more_ranges_fit rs c m.tokens m.spells m.sounding in
      ((r.0, r.1, k.0), k.1)

  ranges_fit : (rs : QueryRanges) (c : QueryWhere) (w : List Placed) → PartedByCommas (RangeText B) (WhereText B c) (ranges rs) w → AreSounding w → NotEmpty (ranges rs) × FitRanges n d rs × FitWhere n d c
  ranges_fit NoRanges c w h s = absurd h
  ranges_fit (QRange x p e rs) c w h s =
      let a = first_of h s in
      let r = range_fits x p e a.tokens a.spells a.sounding in
      let m = second_of h s in
      let k = more_ranges_fit rs c m.tokens m.spells m.sounding in
      (tt, (r.0, r.1, k.0), k.1)

  select_fits : (x : QueryTree) (w : List Placed) → SelectText B x w → AreSounding w → Fits n d true x
  select_fits (QSelect p e rs c) w h s =
      let a = behind_word q.Select p (KWord q.Distinct ▸ (B.full e · KWord q.From ▸ PartedByCommas (RangeText B) (WhereText B c) (ranges rs))) w h s in
      let b = behind_kind (KWord q.Distinct) (B.full e · KWord q.From ▸ PartedByCommas (RangeText B) (WhereText B c) (ranges rs)) a.tokens a.spells a.sounding in
      let m = second_of b.spells b.sounding in
      let r = behind_kind (KWord q.From) (PartedByCommas (RangeText B) (WhereText B c) (ranges rs)) m.tokens m.spells m.sounding in
      let k = ranges_fit rs c r.tokens r.spells r.sounding in
      (full_part e (first_of b.spells b.sounding), k.0, k.1, k.2)
  select_fits _ w h s = absurd h

  bare_or_closed : (x : QueryTree) (t : Bool) → FitsBy t d true (λ d o. Fits n d o x) → Fits n d true x
  bare_or_closed x true h = h
  bare_or_closed x false h = opened n d true x refl h

  full_fits : (x : QueryTree) (w : List Placed) → FullText n B x w → AreSounding w → Fits n d true x
  full_fits x w (inl h) s = select_fits x w h s
  full_fits x w (inr h) s = bare_or_closed x (taken class.Or true x) (or_fits true x w h s)

-- ---- each level

pub record Facts (n d : ℕ) : Type 0 where
  pub sets : (x : QueryTree) (w : List Placed) → SetsText n (deeper_texts n d) x w → AreSounding w → FitsAt n class.Sets d false x
  pub negation : (b : Bool) (x : QueryTree) (w : List Placed) → NotText n (deeper_texts n d) b x w → AreSounding w → FitsAt n class.Not d b x
  pub full : (x : QueryTree) (w : List Placed) → FullText n (deeper_texts n d) x w → AreSounding w → Fits n d true x

pub texts_fit : (n d : ℕ) → Facts n d
texts_fit n zero = record {
  sets = λ x w h s. sets_fit n zero nowhere (λ x w h s. absurd h) (λ b x w h s. absurd h) (λ x w h s. absurd h) x w h s;
  negation = λ b x w h s. not_fits n zero nowhere (λ x w h s. absurd h) (λ b x w h s. absurd h) (λ x w h s. absurd h) b x w h s;
  full = λ x w h s. full_fits n zero nowhere (λ x w h s. absurd h) (λ b x w h s. absurd h) (λ x w h s. absurd h) x w h s;
}
texts_fit n (suc d) =
    let f = texts_fit n d in
    record {
      sets = λ x w h s. sets_fit n (suc d) (deeper_texts n (suc d)) (λ x w h s. f.sets x w h s) (λ b x w h s. f.negation b x w h s) (λ x w h s. f.full x w h s) x w h s;
      negation = λ b x w h s. not_fits n (suc d) (deeper_texts n (suc d)) (λ x w h s. f.sets x w h s) (λ b x w h s. f.negation b x w h s) (λ x w h s. f.full x w h s) b x w h s;
      full = λ x w h s. full_fits n (suc d) (deeper_texts n (suc d)) (λ x w h s. f.sets x w h s) (λ b x w h s. f.negation b x w h s) (λ x w h s. f.full x w h s) x w h s;
    }
