-- What is printed of names, labels and literals, and of an expression at a place, is a text of it.
use Rattle.std.proofs.Common.{◌≡◌, ◌⊎◌, ℕ, zero, suc, Bool, true, false, not, ◌||◌, List, [], ◌∷◌, ◌++◌, length, map, Some, codes, inl, inr, refl, sym, ap, subst, ◌∙◌, append_assoc}
use Rattle.std.specs.Prelude.{nat_le}
use Rattle.std.specs.List.{flat_map}
use Rattle.std.proofs.lemmas.Bool.{and_parts}
use Rattle.kola_base.specs.Alphabets.{word_or, symbol_by}
use Rattle.kola_base.specs.Lexemes.{Lexeme, LWord, LSign}
use Rattle.kola_base.specs.Named.{name_in, name_of}
use Rattle.kola_base.specs.Pieces.{class, piece}
use Rattle.kola_base.specs.Placed.{Placed}
use Rattle.kola_base.specs.Scanning.{first_piece}
use Rattle.kola_base.specs.Signs.{sign_spelling}
use Rattle.kola_base.specs.declared.class.Class.{Class}
use Rattle.kola_base.specs.declared.class.Class.TheVariants.{Single}
use Rattle.kola_base.specs.declared.scan.Sort.TheVariants as sorts
use Rattle.kola_base.specs.declared.sign.Sign.{Sign}
use Rattle.kola_base.specs.declared.sign.Sign.TheVariants as signs
use Rattle.kola_base.proofs.Alone.{opens, apart}
use Rattle.kola_base.proofs.Printed.{Says, piece_says}
use Rattle.kola_parse.specs.Kinds.{leads}
use Rattle.kola_parse.specs.Listed.{Listed}
use Rattle.kola_parse.specs.Texts.{◌·◌, ends}
use Rattle.kola_spelt.proofs.TokensSpelt.{Token, word_token, number_token, string_token, single, blank_before, blank_behind}
use Rattle.oql_syntax.specs.Alphabet.{KSign, KName, kind, query_word_named}
use Rattle.oql_syntax.specs.Grammar.{Text, ◌▸◌, at, NameAtText, VariableText, LabelText, LiteralText, ComparisonAt, FieldText, RangeText, deeper_texts, union_word}
use Rattle.oql_syntax.specs.QueryParts.{named, literal_of, comparison_of}
use Rattle.oql_print.specs.QuerySpelling.{class_number, class_of, is_quantifier, bare_or_not, literal_spelling, further_literal, label_spelling, comparison_spelling, union_spelling, spelling}
use Rattle.oql_tree.specs.QueryTrees.{LitTree, LitInt, LitStr, LitBool, QueryTree}
use Rattle.oql_tree.specs.declared.query.Sign as query
use Rattle.oql_tree.specs.declared.query.Sign.TheVariants as c
use Rattle.oql_syntax.specs.declared.word.QueryWord.TheVariants as q
use Rattle.oql_syntax.proofs.QuerySymbols.{sign_is, word_is}
use Rattle.oql_laws.specs.Unplaced.{unplaced, unplaced_literal, unplaced_label}
use Rattle.oql_laws.proofs.Places.{Place, place_number, place_of, same_number, taken, put}
use Rattle.oql_laws.proofs.Places as place
use Rattle.oql_laws.proofs.Printable.{IsName, IsLabel, IsLit, EachOf, Inside, FitsBy, Fits, FitsAt}
use Rattle.oql_laws.proofs.SpeltBy.{SpeltBy, nothing, as_value, token_alone, token_then, both, regrouped, sign_then, word_then, word_at}
use Rattle.oql_laws.proofs.Bare.{TextAt, is_part, at_place, prim_last, to_full}

-- ---- names, labels and literals, each at some place

pub name_spelt : (x : List ℕ) → IsName x → SpeltBy opens apart x ℕ (λ p. NameAtText x p)
name_spelt x h = token_alone (λ (p : ℕ) (t : Placed). (kind t ≡ KName x) × (t.at ≡ p)) (word_token x refl h.0) (λ t e. (t.at, (ap (symbol_by query_word_named) e ∙ ap (word_or x) h.1, refl)))

pub variable_spelt : (x : List ℕ) → IsName x → SpeltBy opens apart x (Unit {0}) (λ u. VariableText x)
variable_spelt x h = token_alone (λ (u : Unit {0}) (t : Placed). kind t ≡ KName x) (word_token x refl h.0) (λ t e. (tt, ap (symbol_by query_word_named) e ∙ ap (word_or x) h.1))

pub label_spelt : (l : List ℕ) → piece sorts.Word l ≡ true → SpeltBy opens apart l ℕ (λ p. LabelText (l, p))
label_spelt l h = token_alone (λ (p : ℕ) (t : Placed). name_of t ≡ Some (named l p)) (word_token l refl h) (λ t e. (t.at, ap (λ z. name_in z t.at) e))

abbrev IsLiteralAt : LitTree → ℕ → Placed → Type 0
IsLiteralAt v p t = (literal_of (kind t) ≡ Some v) × (t.at ≡ p)

pub literal_spelt : (v : LitTree) → IsLit v → SpeltBy opens apart (literal_spelling v) ℕ (λ p. LiteralText (v, p))
literal_spelt (LitInt z) h = token_alone (IsLiteralAt (LitInt z)) (number_token z refl refl h) (λ t e. (t.at, (ap (λ l. literal_of (symbol_by query_word_named l)) e, refl)))
literal_spelt (LitStr bs) h = token_alone (IsLiteralAt (LitStr bs)) (string_token bs refl h) (λ t e. (t.at, (ap (λ l. literal_of (symbol_by query_word_named l)) e, refl)))
literal_spelt (LitBool true) h = token_alone (IsLiteralAt (LitBool true)) (word_token (codes "true") refl refl) (λ t e. (t.at, (ap (λ l. literal_of (symbol_by query_word_named l)) e ∙ ap literal_of (word_is q.True refl), refl)))
literal_spelt (LitBool false) h = token_alone (IsLiteralAt (LitBool false)) (word_token (codes "false") refl refl) (λ t e. (t.at, (ap (λ l. literal_of (symbol_by query_word_named l)) e ∙ ap literal_of (word_is q.False refl), refl)))

-- ---- signs and words with blanks

pub close_spelt : {K : Class → Bool} → SpeltBy apart K (codes ")") (Unit {0}) (λ u. KSign signs.Close ▸ ends)
close_spelt = sign_then signs.Close (single 41 refl refl) nothing

-- an opening parenthesis, and then a text
pub open_then : {J I K : Class → Bool} {bs : List ℕ} {X : Type 0} {A : X → Text} → J Single ≡ true → SpeltBy I K bs X A → SpeltBy J K (40 ∷ bs) X (λ x. KSign signs.Open ▸ A x)
open_then j r = sign_then signs.Open (single 40 j refl) r

pub comma_then : {K : Class → Bool} {bs : List ℕ} {X : Type 0} {A : X → Text} → SpeltBy opens K bs X A → SpeltBy apart K (44 ∷ 32 ∷ bs) X (λ x. KSign signs.Comma ▸ A x)
comma_then r = sign_then signs.Comma (blank_behind {K = apart} refl (single 44 refl refl)) r

pub colon_then : {K : Class → Bool} {bs : List ℕ} {X : Type 0} {A : X → Text} → SpeltBy opens K bs X A → SpeltBy apart K (58 ∷ 32 ∷ bs) X (λ x. KSign signs.Colon ▸ A x)
colon_then r = sign_then signs.Colon (blank_behind {K = apart} refl (single 58 refl refl)) r

pub spaced_colon_then : {K : Class → Bool} {bs : List ℕ} {X : Type 0} {A : X → Text} → SpeltBy opens K bs X A → SpeltBy apart K (32 ∷ 58 ∷ 32 ∷ bs) X (λ x. KSign signs.Colon ▸ A x)
spaced_colon_then r = sign_then signs.Colon (blank_before refl (blank_behind {K = apart} refl (single {J = opens} 58 refl refl))) r

blank : (rest : List ℕ) (ls : List Lexeme) → Says rest ls → Says (32 ∷ rest) ls
blank rest ls r = piece_says sorts.Blank (32 ∷ []) rest ls refl tt r

-- a sign that is read alone before a blank, between blanks
spaced_sign : {K : Class → Bool} (bs : List ℕ) → ((rest : List ℕ) → first_piece (map class (bs ++ 32 ∷ rest)) ≡ Some (sorts.Sign, length bs)) → Token apart K (32 ∷ (bs ++ 32 ∷ [])) (LSign bs)
spaced_sign bs h = record {
  begins = λ rest. refl;
  goes = λ rest ls k r. subst (λ z. Says (32 ∷ z) (LSign bs ∷ ls)) (sym (append_assoc bs (32 ∷ []) rest)) (blank (bs ++ 32 ∷ rest) (LSign bs ∷ ls) (piece_says sorts.Sign bs (32 ∷ rest) ls (h rest) tt (blank rest ls r)));
}

-- a word between blanks
pub spaced_word : {K : Class → Bool} (bs : List ℕ) → piece sorts.Word bs ≡ true → Token apart K (32 ∷ (bs ++ 32 ∷ [])) (LWord bs)
spaced_word bs h = blank_before refl (blank_behind {K = apart} refl (word_token {J = opens} bs refl h))

-- a word with a blank behind it
pub word_blank : {K : Class → Bool} (bs : List ℕ) → piece sorts.Word bs ≡ true → Token opens K (bs ++ 32 ∷ []) (LWord bs)
word_blank bs h = blank_behind {K = apart} refl (word_token bs refl h)

module _ {K : Class → Bool} {bs : List ℕ} {X : Type 0} {A : X → Text} where
  compared_by : (z : query.Sign) (s : Sign) → comparison_of (KSign s) ≡ Some z → Token apart opens (comparison_spelling z) (LSign (sign_spelling s)) → SpeltBy opens K bs X A → SpeltBy apart K (comparison_spelling z ++ bs) (ℕ × X) (λ v. ComparisonAt z v.0 (A v.1))
  compared_by z s e t r = token_then (λ (p : ℕ) (t : Placed). (comparison_of (kind t) ≡ Some z) × (t.at ≡ p)) t (λ t i. (t.at, (ap (λ l. comparison_of (symbol_by query_word_named l)) i ∙ ap comparison_of (sign_is s) ∙ e, refl))) r

  pub comparison_then : (z : query.Sign) → SpeltBy opens K bs X A → SpeltBy apart K (comparison_spelling z ++ bs) (ℕ × X) (λ v. ComparisonAt z v.0 (A v.1))
  comparison_then c.Eq r = compared_by c.Eq signs.Equal refl (spaced_sign (codes "=") (λ rest. refl)) r
  comparison_then c.Ne r = compared_by c.Ne signs.NotEqual refl (spaced_sign (codes "!=") (λ rest. refl)) r
  comparison_then c.Lt r = compared_by c.Lt signs.Less refl (spaced_sign (codes "<") (λ rest. refl)) r
  comparison_then c.Le r = compared_by c.Le signs.LessEqual refl (spaced_sign (codes "<=") (λ rest. refl)) r
  comparison_then c.Gt r = compared_by c.Gt signs.Greater refl (spaced_sign (codes ">") (λ rest. refl)) r
  comparison_then c.Ge r = compared_by c.Ge signs.GreaterEqual refl (spaced_sign (codes ">=") (λ rest. refl)) r
  comparison_then c.Member r = token_then (λ (p : ℕ) (t : Placed). (comparison_of (kind t) ≡ Some c.Member) × (t.at ≡ p)) (spaced_word (codes "in") refl) (λ t i. (t.at, (ap (λ l. comparison_of (symbol_by query_word_named l)) i ∙ ap comparison_of (word_is q.In refl), refl))) r

  -- `union`, or `except` where b is true
  pub union_then : (b : Bool) → SpeltBy opens K bs X A → SpeltBy apart K (union_spelling b ++ bs) (ℕ × X) (λ v. at (union_word b) v.0 (A v.1))
  union_then true r = word_at q.Except refl (spaced_word (codes "except") refl) r
  union_then false r = word_at q.Union refl (spaced_word (codes "union") refl) r

-- ---- lists of literals and labels

abbrev pub LikeLiterals : List (LitTree × ℕ) → Type 0
LikeLiterals vs = (us : List (LitTree × ℕ)) × (map unplaced_literal us ≡ map unplaced_literal vs)

abbrev pub LikeLabels : List (List ℕ × ℕ) → Type 0
LikeLabels ls = (us : List (List ℕ × ℕ)) × (map unplaced_label us ≡ map unplaced_label ls)

pub literals_more : (vs : List (LitTree × ℕ)) → EachOf (λ (v : LitTree × ℕ). IsLit v.0) vs → SpeltBy apart apart (flat_map further_literal vs ++ codes ")") (LikeLiterals vs) (λ us. Listed (λ v. KSign signs.Comma ▸ LiteralText v) (KSign signs.Close ▸ ends) us.0)
literals_more [] h = as_value close_spelt (λ u. ([], refl)) (λ u w k. k)
literals_more (v ∷ vs) h =
    regrouped (sym (append_assoc (further_literal v) (flat_map further_literal vs) (codes ")")))
    (as_value (both (comma_then (literal_spelt v.0 h.0)) (literals_more vs h.1)) (λ u. ((v.0, u.0) ∷ u.1.0, λ i. (v.0, 0) ∷ u.1.1 i)) (λ u w k. k))

-- a label behind its dot
pub dotted : (l : List ℕ) → piece sorts.Word l ≡ true → SpeltBy apart apart (codes "." ++ l) ℕ (λ p. leads (λ t. (kind t ≡ KSign signs.Dot) ⊎ (kind t ≡ KSign signs.Arrow)) (LabelText (l, p)))
dotted l h = as_value (token_then (λ (u : Unit {0}) (t : Placed). (kind t ≡ KSign signs.Dot) ⊎ (kind t ≡ KSign signs.Arrow)) (single {K = opens} 46 refl refl) (λ t e. (tt, inl (ap (symbol_by query_word_named) e ∙ sign_is signs.Dot))) (label_spelt l h)) (λ v. v.1) (λ v w k. k)

pub labels_more : (ls : List (List ℕ × ℕ)) → EachOf IsLabel ls → SpeltBy apart apart (flat_map label_spelling ls) (LikeLabels ls) (λ us. Listed (λ l. leads (λ t. (kind t ≡ KSign signs.Dot) ⊎ (kind t ≡ KSign signs.Arrow)) (LabelText l)) ends us.0)
labels_more [] h = as_value nothing (λ u. ([], refl)) (λ u w k. k)
labels_more (l ∷ ls) h = as_value (both (dotted l.0 h.0) (labels_more ls h.1)) (λ u. ((l.0, u.0) ∷ u.1.0, λ i. (l.0, 0) ∷ u.1.1 i)) (λ u w k. k)

-- ---- an expression at a place

-- the query up to places
abbrev pub Like : QueryTree → Type 0
Like x = (y : QueryTree) × (unplaced y ≡ unplaced x)

-- what is printed of it spells it with n links in a chain and d levels below
abbrev pub Spelt : ℕ → ℕ → Bool → QueryTree → Type 0
Spelt n d o x = SpeltBy opens apart (spelling o x) (Like x) (λ y. TextAt n (place_of x) o (deeper_texts n d) y.0)

module _ (n : ℕ) (e : QueryTree) (own : (d : ℕ) (o : Bool) → Fits n d o e → Spelt n d o e) where
  pub full_spelt : (d : ℕ) → Inside d (λ d. Fits n d true e) → SpeltBy opens apart (spelling true e) (Like e) (λ y. (deeper_texts n d).full y.0)
  full_spelt zero h = absurd h
  full_spelt (suc d) h = as_value (own d true h) (λ y. y) (λ y w k. to_full n (deeper_texts n d) (place_of e) y.0 w k)

  -- an expression and the parenthesis behind it
  pub closed_spelt : (d : ℕ) → Inside d (λ d. Fits n d true e) → SpeltBy opens apart (spelling true e ++ codes ")") (Like e) (λ y. (deeper_texts n d).full y.0 · KSign signs.Close ▸ ends)
  closed_spelt d h = as_value (both (full_spelt d h) close_spelt) (λ v. v.0) (λ v w k. k)

  pub part_spelt : (c : Place) (d : ℕ) (o : Bool) → is_part c ≡ true → FitsAt n c d o e → SpeltBy opens apart (put c o e) (Like e) (λ y. TextAt n c o (deeper_texts n d) y.0)
  part_spelt c d o p h = by (taken c o e) refl h
    where
      by : (t : Bool) → taken c o e ≡ t → FitsBy t d o (λ d o. Fits n d o e) → SpeltBy opens apart (bare_or_not t o (λ o. spelling o e)) (Like e) (λ y. TextAt n c o (deeper_texts n d) y.0)
      by true i h = as_value (own d o h) (λ y. y) (λ y w k. at_place n (deeper_texts n d) o c (place_of e) y.0 w p (subst (λ m. nat_le (place_number c) m ≡ true) (same_number e) (and_parts (nat_le (place_number c) (class_number (class_of e))) (o || not (is_quantifier e)) i).0) k)
      by false i h = as_value (open_then {J = opens} refl (closed_spelt d h)) (λ y. y) (λ y w k. at_place n (deeper_texts n d) o c place.Prim y.0 w p (prim_last c) (inr k))

  pub range_part_spelt : (d : ℕ) → Inside d (λ d. FitsAt n place.Sets d false e) → SpeltBy opens apart (put place.Sets false e) (Like e) (λ y. (deeper_texts n d).sets y.0)
  range_part_spelt zero h = absurd h
  range_part_spelt (suc d) h = part_spelt place.Sets d false refl h

  pub negated_spelt : (d : ℕ) (o : Bool) → Inside d (λ d. FitsAt n place.Not d o e) → SpeltBy opens apart (put place.Not o e) (Like e) (λ y. (deeper_texts n d).negation o y.0)
  negated_spelt zero o h = absurd h
  negated_spelt (suc d) o h = part_spelt place.Not d o refl h

  -- ---- a field, a range, a quantifier

  pub field_spelt : (d : ℕ) (l : List ℕ) → piece sorts.Word l ≡ true → Inside d (λ d. Fits n d true e) → SpeltBy opens apart (l ++ (codes ": " ++ spelling true e)) (ℕ × Like e) (λ v. FieldText (deeper_texts n d) (l, v.0, v.1.0))
  field_spelt d l g h = both (label_spelt l g) (colon_then (full_spelt d h))

  pub range_spelt : (d : ℕ) (x : List ℕ) → IsName x → Inside d (λ d. FitsAt n place.Sets d false e) → SpeltBy opens apart (x ++ (codes " in " ++ put place.Sets false e)) (ℕ × Like e) (λ v. RangeText (deeper_texts n d) (x, v.0, v.1.0))
  range_spelt d x g h = as_value (both (name_spelt x g) (word_then q.In refl (spaced_word (codes "in") refl) (range_part_spelt d h))) (λ v. v) (λ v w k. inl k)
