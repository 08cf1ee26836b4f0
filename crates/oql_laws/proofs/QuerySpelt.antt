-- What is printed of a query that fits is a text of it, up to places.
use Rattle.std.proofs.Common.{◌≡◌, ◌≤◌, ℕ, suc, Bool, true, false, List, [], ◌∷◌, ◌++◌, length, codes, inl, inr, refl, sym, ap, subst, ◌∙◌, append_assoc}
use Rattle.std.specs.List.{flat_map}
use Rattle.std.proofs.lemmas.List.{append-nil, length-map}
use Rattle.kola_base.specs.Placed.{Placed}
use Rattle.kola_base.specs.Lexemes.{LWord}
use Rattle.kola_base.specs.Pieces.{piece}
use Rattle.kola_base.specs.declared.scan.Sort.TheVariants as sorts
use Rattle.kola_base.specs.declared.sign.Sign.TheVariants as signs
use Rattle.kola_base.proofs.Alone.{opens, apart}
use Rattle.kola_parse.specs.Kinds.{leads}
use Rattle.kola_parse.specs.Listed.{Listed}
use Rattle.kola_parse.specs.Texts.{◌·◌, ends}
use Rattle.kola_spelt.proofs.TokensSpelt.{Token, word_token}
use Rattle.oql_syntax.specs.Alphabet.{KSign, KWord, kind, query_word_spelling}
use Rattle.oql_syntax.specs.Grammar.{Text, ◌▸◌, at, VariableText, PartedByCommas, OperandsText, Deeper, FieldText, PathText, MeetText, union_word, PrefixedText, RangeText, WhereText, deeper_texts}
use Rattle.oql_syntax.specs.QueryParts.{chain_tree, union_tree}
use Rattle.oql_print.specs.QuerySpelling.{class_of, takes, bare_or_not, further_literal, literal_spelling, comparison_spelling, spelling, spelling_at, operands_spelling, set_links_spelling, fields_spelling, further_fields, ranges_spelling, further_ranges, where_spelling}
use Rattle.oql_tree.specs.QueryTrees.{LitTree, QueryTree, QName, QLiteral, QSetOf, QPath, QStruct, QFlatten, QSomeMember, QNot, QIntersect, QAnd, QOr, QUnionExcept, QCompare, QExists, QForAll, QSelect, QueryLinks, NoLinks, Link, SetLinks, NoSets, SetLink, QueryFields, NoFields, QField, QueryRanges, NoRanges, QRange, QueryWhere, NoWhere, Where, links, set_links, fields, ranges, of_links, of_set_links}
use Rattle.oql_tree.specs.declared.query.Sign.{Sign}
use Rattle.oql_laws.proofs.Places.{Place, taken, put}
use Rattle.oql_laws.proofs.Places as class
use Rattle.oql_syntax.specs.declared.word.QueryWord.{QueryWord}
use Rattle.oql_syntax.specs.declared.word.QueryWord.TheVariants as q
use Rattle.oql_syntax.proofs.QuerySymbols.{is_left_out}
use Rattle.oql_laws.specs.Unplaced.{unplaced, unplaced_label, unplaced_links, unplaced_sets, unplaced_fields, unplaced_ranges, unplaced_where}
use Rattle.oql_laws.proofs.Printable.{NotEmpty, open_before, Fits, FitLinks, FitSets, FitFields, FitRanges, FitWhere, FitsAt}
use Rattle.oql_laws.proofs.SpeltBy.{SpeltBy, nothing, as_value, both, regrouped, word_then, word_at}
use Rattle.oql_laws.proofs.Bare.{TextAt, is_part}
use Rattle.oql_laws.proofs.SpeltParts.{name_spelt, variable_spelt, literal_spelt, dotted, close_spelt, open_then, comma_then, spaced_colon_then, spaced_word, word_blank, comparison_then, union_then, LikeLabels, literals_more, labels_more, Like, Spelt, full_spelt, closed_spelt, part_spelt, range_part_spelt, negated_spelt, field_spelt, range_spelt}

-- a query of the class that `intersect` takes
abbrev path_root : QueryTree
path_root = QPath 0 (QName 0 []) []

-- ---- lists up to places

abbrev LikeLinks : QueryLinks → Type 0
LikeLinks ls = (ms : QueryLinks) × (unplaced_links ms ≡ unplaced_links ls)

abbrev LikeSets : SetLinks → Type 0
LikeSets ls = (ms : SetLinks) × (unplaced_sets ms ≡ unplaced_sets ls)

abbrev LikeFields : QueryFields → Type 0
LikeFields fs = (gs : QueryFields) × (unplaced_fields gs ≡ unplaced_fields fs)

abbrev LikeRanges : QueryRanges → Type 0
LikeRanges rs = (us : QueryRanges) × (unplaced_ranges us ≡ unplaced_ranges rs)

abbrev LikeWhere : QueryWhere → Type 0
LikeWhere c = (v : QueryWhere) × (unplaced_where v ≡ unplaced_where c)

links_again : (ls : QueryLinks) → of_links (links ls) ≡ ls
links_again NoLinks = refl
links_again (Link p e ls) = ap (Link p e) (links_again ls)

sets_again : (ls : SetLinks) → of_set_links (set_links ls) ≡ ls
sets_again NoSets = refl
sets_again (SetLink p b e ls) = ap (SetLink p b e) (sets_again ls)

links_counted : (ls : QueryLinks) → length (links (unplaced_links ls)) ≡ length (links ls)
links_counted NoLinks = refl
links_counted (Link p e ls) = ap suc (links_counted ls)

sets_counted : (ls : SetLinks) → length (set_links (unplaced_sets ls)) ≡ length (set_links ls)
sets_counted NoSets = refl
sets_counted (SetLink p b e ls) = ap suc (sets_counted ls)

few_links : (n : ℕ) (ls : QueryLinks) (v : LikeLinks ls) → length (links ls) ≤ n → length (links v.0) ≤ n
few_links n ls v f = subst (λ m. m ≤ n) (sym (sym (links_counted v.0) ∙ ap (λ z. length (links z)) v.1 ∙ links_counted ls)) f

few_sets : (n : ℕ) (ls : SetLinks) (v : LikeSets ls) → length (set_links ls) ≤ n → length (set_links v.0) ≤ n
few_sets n ls v f = subst (λ m. m ≤ n) (sym (sym (sets_counted v.0) ∙ ap (λ z. length (set_links z)) v.1 ∙ sets_counted ls)) f

few_labels : (n : ℕ) (l : List ℕ × ℕ) (p : ℕ) (ls : List (List ℕ × ℕ)) (v : LikeLabels ls) → length (l ∷ ls) ≤ n → length ((l.0, p) ∷ v.0) ≤ n
few_labels n l p ls v f = subst (λ m. suc m ≤ n) (sym (sym (length-map v.0 unplaced_label) ∙ ap length v.1 ∙ length-map ls unplaced_label)) f

-- ---- chains up to places

no_links : (ls : QueryLinks) → (let z : QueryLinks = NoLinks in z ≡ unplaced_links ls) → NotEmpty (links ls) → ⊥
no_links NoLinks e s = s
no_links (Link p e ls) i s = absurd cc

no_sets : (ls : SetLinks) → (let z : SetLinks = NoSets in z ≡ unplaced_sets ls) → NotEmpty (set_links ls) → ⊥
no_sets NoSets e s = s
no_sets (SetLink p b e ls) i s = absurd cc

chain_like : (k : ℕ → QueryTree → QueryLinks → QueryTree) → ((p : ℕ) (e : QueryTree) (ls : QueryLinks) → unplaced (k p e ls) ≡ k 0 (unplaced e) (unplaced_links ls))
    → (p : ℕ) (e f : QueryTree) (ls ms : QueryLinks) → unplaced f ≡ unplaced e → unplaced_links ms ≡ unplaced_links ls → NotEmpty (links ls) → unplaced (chain_tree k f (links ms)) ≡ unplaced (k p e ls)
chain_like k u p e f ls NoLinks i j s = absurd (no_links ls j s)
chain_like k u p e f ls (Link o g ms) i j s =
    u o f (of_links (links (Link o g ms)))
    ∙ ap (λ (z : QueryLinks). k 0 (unplaced f) (unplaced_links z)) (links_again (Link o g ms))
    ∙ (λ t. k 0 (i t) (j t))
    ∙ sym (u p e ls)

union_like : (p : ℕ) (e f : QueryTree) (ls ms : SetLinks) → unplaced f ≡ unplaced e → unplaced_sets ms ≡ unplaced_sets ls → NotEmpty (set_links ls) → unplaced (union_tree f (set_links ms)) ≡ unplaced (QUnionExcept p e ls)
union_like p e f ls NoSets i j s = absurd (no_sets ls j s)
union_like p e f ls (SetLink o b g ms) i j s =
    ap (λ (z : SetLinks). QUnionExcept 0 (unplaced f) (unplaced_sets z)) (sets_again (SetLink o b g ms))
    ∙ (λ t. QUnionExcept 0 (i t) (j t))

-- ---- the order of what is put together

led_first : (P : Placed → Type 0) (A B : Text) (w : List Placed) → leads P (A · B) w → (leads P A · B) w
led_first P A B [] h = absurd h
led_first P A B (t ∷ w) h = record { front = t ∷ h.1.front; back = h.1.back; split = ap (λ (z : List Placed). t ∷ z) h.1.split; first = (h.0, h.1.first); second = h.1.second }

alone : (A : Text) (w : List Placed) → A w → (A · ends) w
alone A w h = record { front = w; back = []; split = sym (append-nil w); first = h; second = tt }

stays_closed : (ls : QueryLinks) → open_before false ls ≡ false
stays_closed NoLinks = refl
stays_closed (Link p e ls) = refl

row5 : (a b c d e : List ℕ) → (a ++ (b ++ c)) ++ (d ++ e) ≡ a ++ b ++ c ++ d ++ e
row5 a b c d e = simp append_assoc

row6 : (a b c d e f : List ℕ) → (a ++ (b ++ (c ++ d))) ++ (e ++ f) ≡ a ++ b ++ c ++ d ++ e ++ f
row6 a b c d e f = simp append_assoc

quantified : (a b c d e f : List ℕ) → a ++ (b ++ (c ++ (d ++ (e ++ f)))) ≡ a ++ b ++ c ++ d ++ e ++ f
quantified a b c d e f = simp append_assoc

selected : (a b c d e : List ℕ) → a ++ (b ++ (c ++ (d ++ e))) ≡ a ++ b ++ c ++ d ++ e
selected a b c d e = simp append_assoc

-- ---- `not` and quantifiers stand where they do

not_prefixed : (B : Deeper) (o : Bool) (p : ℕ) (e : QueryTree) (w : List Placed) → at q.Not p (B.negation o e) w → PrefixedText B o (QNot p e) w
not_prefixed B true p e w h = h
not_prefixed B false p e w h = h

-- ---- forms without lists of queries

set_spelt : (n d : ℕ) (o : Bool) (p : ℕ) (vs : List (LitTree × ℕ)) → Fits n d o (QSetOf p vs) → Spelt n d o (QSetOf p vs)
set_spelt n d o p [] h = absurd h.0
set_spelt n d o p (v ∷ vs) h =
    as_value
    (word_at q.Set refl (word_token (codes "set") refl refl) (open_then refl
    (regrouped (sym (append_assoc (literal_spelling v.0) (flat_map further_literal vs) (codes ")"))) (both (literal_spelt v.0 h.1.0) (literals_more vs h.1.1)))))
    (λ u. (QSetOf u.0 ((v.0, u.1.0) ∷ u.1.1.0), λ i. QSetOf 0 ((v.0, 0) ∷ u.1.1.1 i)))
    (λ u w k. inl k)

path_spelt : (n d : ℕ) (o : Bool) (p : ℕ) (e : QueryTree) (ls : List (List ℕ × ℕ)) → ((d : ℕ) (o : Bool) → Fits n d o e → Spelt n d o e) → Fits n d o (QPath p e ls) → Spelt n d o (QPath p e ls)
path_spelt n d o p e [] own h = absurd h.1
path_spelt n d o p e (l ∷ ls) own h =
    as_value
    (both (part_spelt n e own class.Prim d false refl h.0) (both (dotted l.0 h.3.0) (labels_more ls h.3.1)))
    (λ u. (QPath u.1.0 u.0.0 ((l.0, u.1.0) ∷ u.1.1.0), λ i. QPath 0 (u.0.1 i) ((l.0, 0) ∷ u.1.1.1 i)))
    (λ u w k. record { first = u.0.0; links = (l.0, u.1.0) ∷ u.1.1.0; few = few_labels n l u.1.0 ls u.1.1 h.2; is = refl; spells = k })

compare_spelt : (n d : ℕ) (o : Bool) (p : ℕ) (s : Sign) (a b : QueryTree) → ((d : ℕ) (o : Bool) → Fits n d o a → Spelt n d o a) → ((d : ℕ) (o : Bool) → Fits n d o b → Spelt n d o b) → Fits n d o (QCompare p s a b) → Spelt n d o (QCompare p s a b)
compare_spelt n d o p s a b first second h =
    regrouped (sym (append_assoc (put class.Sets false a) (comparison_spelling s) (put class.Sets false b)))
    (as_value
    (both (part_spelt n a first class.Sets d false refl h.0) (comparison_then s (part_spelt n b second class.Sets d false refl h.1)))
    (λ u. (QCompare u.1.0 s u.0.0 u.1.1.0, λ i. QCompare 0 s (u.0.1 i) (u.1.1.1 i)))
    (λ u w k. inr k))

-- behind the first word of a quantifier
quantifier_spelt : (n d : ℕ) (x : List ℕ) (r e : QueryTree) → ((d : ℕ) (o : Bool) → Fits n d o r → Spelt n d o r) → ((d : ℕ) (o : Bool) → Fits n d o e → Spelt n d o e)
    → Fits n d true (QExists 0 x r e)
    → SpeltBy opens apart (x ++ (codes " in " ++ (put class.Sets false r ++ (codes " : " ++ spelling true e)))) (Like r × Like e) (λ v. VariableText x · KWord q.In ▸ ((deeper_texts n d).sets v.0.0 · KSign signs.Colon ▸ (deeper_texts n d).full v.1.0))
quantifier_spelt n d x r e range body h =
    as_value
    (both (variable_spelt x h.1) (word_then q.In refl (spaced_word (codes "in") refl) (both (range_part_spelt n r range d h.2) (spaced_colon_then (full_spelt n e body d h.3)))))
    (λ v. v.1) (λ v w k. k)

exists_spelt : (n d : ℕ) (p : ℕ) (x : List ℕ) (r e : QueryTree) → ((d : ℕ) (o : Bool) → Fits n d o r → Spelt n d o r) → ((d : ℕ) (o : Bool) → Fits n d o e → Spelt n d o e) → Fits n d true (QExists p x r e) → Spelt n d true (QExists p x r e)
exists_spelt n d p x r e range body h =
    regrouped (quantified (codes "exists ") x (codes " in ") (put class.Sets false r) (codes " : ") (spelling true e))
    (as_value
    (word_at q.Exists refl (word_blank (codes "exists") refl) (quantifier_spelt n d x r e range body h))
    (λ u. (QExists u.0 x u.1.0.0 u.1.1.0, λ i. QExists 0 x (u.1.0.1 i) (u.1.1.1 i)))
    (λ u w k. inr k))

for_all_spelt : (n d : ℕ) (p : ℕ) (x : List ℕ) (r e : QueryTree) → ((d : ℕ) (o : Bool) → Fits n d o r → Spelt n d o r) → ((d : ℕ) (o : Bool) → Fits n d o e → Spelt n d o e) → Fits n d true (QForAll p x r e) → Spelt n d true (QForAll p x r e)
for_all_spelt n d p x r e range body h =
    regrouped (quantified (codes "for all ") x (codes " in ") (put class.Sets false r) (codes " : ") (spelling true e))
    (as_value
    (word_at q.For refl (word_blank (codes "for") refl) (word_then q.All refl (word_blank (codes "all") refl) (quantifier_spelt n d x r e range body h)))
    (λ u. (QForAll u.0 x u.1.0.0 u.1.1.0, λ i. QForAll 0 x (u.1.0.1 i) (u.1.1.1 i)))
    (λ u w k. inr k))

-- ---- all forms

mutual
  pub spelt : (n d : ℕ) (o : Bool) (x : QueryTree) → Fits n d o x → Spelt n d o x
  spelt n d o (QName p x) h = as_value (name_spelt x h) (λ u. (QName u x, refl)) (λ u w k. inl k)
  spelt n d o (QLiteral p v) h = as_value (literal_spelt v h) (λ u. (QLiteral u v, refl)) (λ u w k. inl k)
  spelt n d o (QSetOf p vs) h = set_spelt n d o p vs h
  spelt n d o (QPath p e ls) h = path_spelt n d o p e ls (λ d o k. spelt n d o e k) h
  spelt n d o (QStruct p fs) h =
      as_value
      (word_at q.Struct refl (word_token (codes "struct") refl refl) (open_then refl (fields_spelt n d fs h.0 h.1)))
      (λ u. (QStruct u.0 u.1.0, λ i. QStruct 0 (u.1.1 i)))
      (λ u w k. inl k)
  spelt n d o (QFlatten p e) h =
      as_value
      (word_at q.Flatten refl (word_token (codes "flatten") refl refl) (open_then refl (closed_spelt n e (λ d o k. spelt n d o e k) d h)))
      (λ u. (QFlatten u.0 u.1.0, λ i. QFlatten 0 (u.1.1 i)))
      (λ u w k. inl k)
  spelt n d o (QSomeMember p e) h =
      as_value
      (word_at q.Exists refl (word_token (codes "exists") refl refl) (open_then refl (closed_spelt n e (λ d o k. spelt n d o e k) d h)))
      (λ u. (QSomeMember u.0 u.1.0, λ i. QSomeMember 0 (u.1.1 i)))
      (λ u w k. inl k)
  spelt n d o (QNot p e) h =
      as_value
      (word_at q.Not refl (word_blank (codes "not") refl) (negated_spelt n e (λ d o k. spelt n d o e k) d o h))
      (λ u. (QNot u.0 u.1.0, λ i. QNot 0 (u.1.1 i)))
      (λ u w k. inr (not_prefixed (deeper_texts n d) o u.0 u.1.0 w k))
  spelt n d o (QIntersect p e ls) h =
      as_value
      (meets_spelt n d (λ o. put class.Path o e) e ls (part_spelt n e (λ d o k. spelt n d o e k) class.Path d false refl (subst (λ o. FitsAt n class.Path d o e) (stays_closed ls) h.2)) h.3)
      (λ u. (chain_tree QIntersect u.0.0 (links u.1.0), chain_like QIntersect (λ p e ls. refl) p e u.0.0 ls u.1.0 u.0.1 u.1.1 h.0))
      (λ u w k. record { first = u.0.0; links = links u.1.0; few = few_links n ls u.1 h.1; is = refl; spells = k })
  spelt n d o (QAnd p e ls) h =
      as_value
      (operands_spelt n d class.Not (QNot 0 (QName 0 [])) (λ o e. refl) q.And refl refl (codes "and") refl refl o e (λ o. put class.Not o e) ls (part_spelt n e (λ d o k. spelt n d o e k) class.Not d (open_before o ls) refl h.2) h.3)
      (λ u. (chain_tree QAnd u.0.0 (links u.1.0), chain_like QAnd (λ p e ls. refl) p e u.0.0 ls u.1.0 u.0.1 u.1.1 h.0))
      (λ u w k. record { first = u.0.0; links = links u.1.0; few = few_links n ls u.1 h.1; is = refl; spells = k })
  spelt n d o (QOr p e ls) h =
      as_value
      (operands_spelt n d class.And (QAnd 0 (QName 0 []) NoLinks) (λ o e. refl) q.Or refl refl (codes "or") refl refl o e (λ o. put class.And o e) ls (part_spelt n e (λ d o k. spelt n d o e k) class.And d (open_before o ls) refl h.2) h.3)
      (λ u. (chain_tree QOr u.0.0 (links u.1.0), chain_like QOr (λ p e ls. refl) p e u.0.0 ls u.1.0 u.0.1 u.1.1 h.0))
      (λ u w k. record { first = u.0.0; links = links u.1.0; few = few_links n ls u.1 h.1; is = refl; spells = k })
  spelt n d o (QUnionExcept p e ls) h =
      as_value
      (both (part_spelt n e (λ d o k. spelt n d o e k) class.Meet d false refl h.2) (unions_spelt n d ls h.3))
      (λ u. (union_tree u.0.0 (set_links u.1.0), union_like p e u.0.0 ls u.1.0 u.0.1 u.1.1 h.0))
      (λ u w k. record { first = u.0.0; links = set_links u.1.0; few = few_sets n ls u.1 h.1; is = refl; spells = k })
  spelt n d o (QCompare p s a b) h = compare_spelt n d o p s a b (λ d o k. spelt n d o a k) (λ d o k. spelt n d o b k) h
  spelt n d o (QExists p x r e) h = subst (λ o. Spelt n d o (QExists p x r e)) (sym h.0) (exists_spelt n d p x r e (λ d o k. spelt n d o r k) (λ d o k. spelt n d o e k) (refl, h.1, h.2, h.3))
  spelt n d o (QForAll p x r e) h = subst (λ o. Spelt n d o (QForAll p x r e)) (sym h.0) (for_all_spelt n d p x r e (λ d o k. spelt n d o r k) (λ d o k. spelt n d o e k) (refl, h.1, h.2, h.3))
  spelt n d o (QSelect p e rs c) h =
      regrouped (selected (codes "select distinct ") (spelling true e) (codes " from ") (ranges_spelling rs) (where_spelling c))
      (as_value
      (word_at q.Select refl (word_blank (codes "select") refl) (word_then q.Distinct refl (word_blank (codes "distinct") refl)
      (both (full_spelt n e (λ d o k. spelt n d o e k) d h.0) (word_then q.From refl (spaced_word (codes "from") refl)
      (ranges_spelt n d rs c (where_spelt n d c h.3) h.1 h.2)))))
      (λ u. (QSelect u.0 u.1.0.0 u.1.1.0.0 u.1.1.1.0, λ i. QSelect 0 (u.1.0.1 i) (u.1.1.0.1 i) (u.1.1.1.1 i)))
      (λ u w k. inl k))

  -- the first operand of `intersect`, and the others
  meets_spelt : (n d : ℕ) (first : Bool → List ℕ) (f : QueryTree) (ls : QueryLinks) → SpeltBy opens apart (first false) (Like f) (λ y. PathText n (deeper_texts n d) y.0) → FitLinks n class.Path d false ls
      → SpeltBy opens apart (operands_spelling (class_of path_root) (codes " intersect ") false first ls) (Like f × LikeLinks ls) (λ v. PathText n (deeper_texts n d) v.0.0 · Listed (λ (l : ℕ × QueryTree). at q.Intersect l.0 (PathText n (deeper_texts n d) l.1)) ends (links v.1.0))
  meets_spelt n d first f NoLinks r h = as_value r (λ v. (v, (NoLinks, refl))) (λ v w k. alone (PathText n (deeper_texts n d) v.0) w k)
  meets_spelt n d first f (Link p e ls) r h =
      regrouped (sym (append_assoc (first false) (codes " intersect ") (operands_spelling (class_of path_root) (codes " intersect ") false (λ o. put class.Path o e) ls)))
      (as_value
      (both r (word_at q.Intersect refl (spaced_word (codes "intersect") refl) (meets_spelt n d (λ o. put class.Path o e) e ls (part_spelt n e (λ d o k. spelt n d o e k) class.Path d false refl (subst (λ o. FitsAt n class.Path d o e) (stays_closed ls) h.0)) h.1)))
      (λ u. (u.0, (Link u.1.0 u.1.1.0.0 u.1.1.1.0, λ i. Link 0 (u.1.1.0.1 i) (u.1.1.1.1 i))))
      (λ u w k. record { front = k.front; back = k.back; split = k.split; first = k.first; second = led_first (λ t. (kind t ≡ KWord q.Intersect) × (t.at ≡ u.1.0)) (PathText n (deeper_texts n d) u.1.1.0.0) (Listed (λ (l : ℕ × QueryTree). at q.Intersect l.0 (PathText n (deeper_texts n d) l.1)) ends (links u.1.1.1.0)) k.back k.second }))

  -- the first operand of `and` or `or`, and the others
  operands_spelt : (n d : ℕ) (c : Place) (root : QueryTree) → ((o : Bool) (e : QueryTree) → takes (class_of root) o e ≡ taken c o e) → (word : QueryWord) → is_left_out word ≡ false → is_part c ≡ true → (bs : List ℕ) → bs ≡ query_word_spelling word → piece sorts.Word bs ≡ true → (o : Bool) (f : QueryTree) (first : Bool → List ℕ) (ls : QueryLinks)
      → SpeltBy opens apart (first (open_before o ls)) (Like f) (λ y. TextAt n c (open_before o ls) (deeper_texts n d) y.0) → FitLinks n c d o ls
      → SpeltBy opens apart (operands_spelling (class_of root) (32 ∷ (bs ++ 32 ∷ [])) o first ls) (Like f × LikeLinks ls) (λ v. OperandsText word (λ b y. TextAt n c b (deeper_texts n d) y) o v.0.0 (links v.1.0))
  operands_spelt n d c root same word g p bs i j o f first NoLinks r h = as_value r (λ v. (v, (NoLinks, refl))) (λ v w k. k)
  operands_spelt n d c root same word g p bs i j o f first (Link s e ls) r h =
      regrouped (sym (append_assoc (first false) (32 ∷ (bs ++ 32 ∷ [])) (operands_spelling (class_of root) (32 ∷ (bs ++ 32 ∷ [])) o (λ o. spelling_at (class_of root) o e) ls)))
      (as_value
      (both r (word_at word g (subst (λ z. Token apart opens (32 ∷ (bs ++ 32 ∷ [])) (LWord z)) i (spaced_word bs j)) (operands_spelt n d c root same word g p bs i j o e (λ o. spelling_at (class_of root) o e) ls (regrouped (ap (λ t. bare_or_not t (open_before o ls) (λ o. spelling o e)) (sym (same (open_before o ls) e))) (part_spelt n e (λ d o k. spelt n d o e k) c d (open_before o ls) p h.0)) h.1)))
      (λ u. (u.0, (Link u.1.0 u.1.1.0.0 u.1.1.1.0, λ i. Link 0 (u.1.1.0.1 i) (u.1.1.1.1 i))))
      (λ u w k. k))

  unions_spelt : (n d : ℕ) (ls : SetLinks) → FitSets n d ls → SpeltBy apart apart (set_links_spelling ls) (LikeSets ls) (λ v. Listed (λ (l : ℕ × Bool × QueryTree). at (union_word l.1) l.0 (MeetText n (deeper_texts n d) l.2)) ends (set_links v.0))
  unions_spelt n d NoSets h = as_value nothing (λ u. (NoSets, refl)) (λ u w k. k)
  unions_spelt n d (SetLink p b e ls) h =
      as_value
      (both (union_then b (part_spelt n e (λ d o k. spelt n d o e k) class.Meet d false refl h.0)) (unions_spelt n d ls h.1))
      (λ u. (SetLink u.0.0 b u.0.1.0 u.1.0, λ i. SetLink 0 b (u.0.1.1 i) (u.1.1 i)))
      (λ u w k. k)

  fields_spelt : (n d : ℕ) (fs : QueryFields) → NotEmpty (fields fs) → FitFields n d fs → SpeltBy opens apart (fields_spelling fs ++ codes ")") (LikeFields fs) (λ v. PartedByCommas (FieldText (deeper_texts n d)) (KSign signs.Close ▸ ends) (fields v.0))
  fields_spelt n d NoFields s h = absurd s
  fields_spelt n d (QField l p e fs) s h =
      regrouped (row5 l (codes ": ") (spelling true e) (further_fields fs) (codes ")"))
      (as_value
      (both (field_spelt n e (λ d o k. spelt n d o e k) d l h.0 h.1) (more_fields_spelt n d fs h.2))
      (λ u. (QField l u.0.0 u.0.1.0 u.1.0, λ i. QField l 0 (u.0.1.1 i) (u.1.1 i)))
      (λ u w k. k))

  more_fields_spelt : (n d : ℕ) (fs : QueryFields) → FitFields n d fs → SpeltBy apart apart (further_fields fs ++ codes ")") (LikeFields fs) (λ v. Listed (λ f. KSign signs.Comma ▸ FieldText (deeper_texts n d) f) (KSign signs.Close ▸ ends) (fields v.0))
  more_fields_spelt n d NoFields h = as_value close_spelt (λ u. (NoFields, refl)) (λ u w k. k)
  more_fields_spelt n d (QField l p e fs) h =
      regrouped (row6 (codes ", ") l (codes ": ") (spelling true e) (further_fields fs) (codes ")"))
      (as_value
      (both (comma_then (field_spelt n e (λ d o k. spelt n d o e k) d l h.0 h.1)) (more_fields_spelt n d fs h.2))
      (λ u. (QField l u.0.0 u.0.1.0 u.1.0, λ i. QField l 0 (u.0.1.1 i) (u.1.1 i)))
      (λ u w k. k))

  -- the ranges, and what stands behind them
  ranges_spelt : (n d : ℕ) (rs : QueryRanges) (c : QueryWhere) → SpeltBy apart apart (where_spelling c) (LikeWhere c) (λ v. WhereText (deeper_texts n d) v.0) → NotEmpty (ranges rs) → FitRanges n d rs
      → SpeltBy opens apart (ranges_spelling rs ++ where_spelling c) (LikeRanges rs × LikeWhere c) (λ v. PartedByCommas (RangeText (deeper_texts n d)) (WhereText (deeper_texts n d) v.1.0) (ranges v.0.0))
  ranges_spelt n d NoRanges c r s h = absurd s
  ranges_spelt n d (QRange x p e rs) c r s h =
      regrouped (row5 x (codes " in ") (put class.Sets false e) (further_ranges rs) (where_spelling c))
      (as_value
      (both (range_spelt n e (λ d o k. spelt n d o e k) d x h.0 h.1) (more_ranges_spelt n d rs c r h.2))
      (λ u. ((QRange x u.0.0 u.0.1.0 u.1.0.0, λ i. QRange x 0 (u.0.1.1 i) (u.1.0.1 i)), u.1.1))
      (λ u w k. k))

  more_ranges_spelt : (n d : ℕ) (rs : QueryRanges) (c : QueryWhere) → SpeltBy apart apart (where_spelling c) (LikeWhere c) (λ v. WhereText (deeper_texts n d) v.0) → FitRanges n d rs
      → SpeltBy apart apart (further_ranges rs ++ where_spelling c) (LikeRanges rs × LikeWhere c) (λ v. Listed (λ r. KSign signs.Comma ▸ RangeText (deeper_texts n d) r) (WhereText (deeper_texts n d) v.1.0) (ranges v.0.0))
  more_ranges_spelt n d NoRanges c r h = as_value r (λ y. ((NoRanges, refl), y)) (λ y w k. k)
  more_ranges_spelt n d (QRange x p e rs) c r h =
      regrouped (row6 (codes ", ") x (codes " in ") (put class.Sets false e) (further_ranges rs) (where_spelling c))
      (as_value
      (both (comma_then (range_spelt n e (λ d o k. spelt n d o e k) d x h.0 h.1)) (more_ranges_spelt n d rs c r h.2))
      (λ u. ((QRange x u.0.0 u.0.1.0 u.1.0.0, λ i. QRange x 0 (u.0.1.1 i) (u.1.0.1 i)), u.1.1))
      (λ u w k. k))

  where_spelt : (n d : ℕ) (c : QueryWhere) → FitWhere n d c → SpeltBy apart apart (where_spelling c) (LikeWhere c) (λ v. WhereText (deeper_texts n d) v.0)
  where_spelt n d NoWhere h = as_value nothing (λ u. (NoWhere, refl)) (λ u w k. k)
  where_spelt n d (Where p e) h =
      as_value
      (word_at q.Where refl (spaced_word (codes "where") refl) (full_spelt n e (λ d o k. spelt n d o e k) d h))
      (λ u. (Where u.0 u.1.0, λ i. Where 0 (u.1.1 i)))
      (λ u w k. k)
