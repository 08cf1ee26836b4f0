-- Reading queries, computed: trees of texts, and where texts are at fault. In these texts a blank stands between each two tokens, and the first one begins at place 4.
use Rattle.std.proofs.Common.{◌≡◌, ℕ, ◌+◌, pos, Bool, true, false, List, [], ◌∷◌, length, Some, None, Result, Ok, Err, refl, codes, ◌==◌}
use Rattle.std.specs.Prelude.{is_some}
use Rattle.std.specs.List.{slice_split}
use Rattle.std.specs.Str.{all_ascii_digits}
use Rattle.kola_base.specs.Lexemes.{Lexeme, LWord, LNumber, LSign}
use Rattle.kola_base.specs.Numbers.{number_value}
use Rattle.kola_base.specs.Placed.{Placed, place}
use Rattle.kola_base.specs.QueryWords.{is_among}
use Rattle.kola_base.specs.Signs.{signs, sign_named}
use Rattle.kola_parse.specs.declared.why.Why.{Why}
use Rattle.kola_parse.specs.declared.why.Why.TheVariants.{Unexpected, TooDeep}
use Rattle.kola_parse.specs.Reader.{Fault, fault, whole}
use Rattle.kola_parse.proofs.GoodReaders.{whole_sound, whole_complete}
use Rattle.oql_syntax.specs.Alphabet.{query_words, query_word_named}
use Rattle.oql_tree.specs.QueryTrees.{LitInt, LitBool, QueryTree, QName, QLiteral, QSetOf, QPath, QStruct, QFlatten, QSomeMember, QNot, QIntersect, QAnd, QOr, QUnionExcept, QCompare, QExists, QForAll, QSelect, NoLinks, Link, NoSets, SetLink, NoFields, QField, NoRanges, QRange, NoWhere, Where}
use Rattle.oql_syntax.specs.QueryReaders.{query}
use Rattle.oql_syntax.specs.Grammar.{QueryText}
use Rattle.oql_syntax.specs.QueryFaults.{CUnexpected, CTooDeep, CNotInProfile, word_outside, cause_by}
use Rattle.oql_tree.specs.declared.query.Sign.TheVariants as c
use Rattle.oql_syntax.proofs.WholeQueryLaws.{always}
use Rattle.oql_syntax.proofs.GrammarWhole.{grammar_good}

-- what the bytes between two blanks say
said : Bool → Bool → List ℕ → Lexeme
said true b bs = LNumber (number_value bs)
said false true bs = LSign bs
said false false bs = LWord bs

lexemes_from : ℕ → List (List ℕ) → List Placed
lexemes_from at [] = []
lexemes_from at (bs ∷ rest) = record { says = said (all_ascii_digits bs) (is_some (sign_named bs)) bs; at = at } ∷ lexemes_from (at + length bs + 1) rest

text_at : ℕ → List ℕ → List Placed
text_at at bs = lexemes_from at (slice_split (λ b. b == 32) bs)

text : List ℕ → List Placed
text bs = text_at 4 bs

-- what is read of a text with n links and n levels, or why and where it is at fault
data Seen : Type 0 where
  Tree : QueryTree → Seen
  At : ℕ → Why → Seen

seen : ℕ → Result QueryTree (Fault Placed) → Seen
seen end (Ok e) = Tree e
seen end (Err f) = At (place end f.rest) f.why

read : ℕ → List ℕ → Seen
read n bs = seen (length bs + 4) (whole (query n n) (text bs))

-- ---- trees

-- words are read in any case
a_select : read 3 (codes "SELECT distinct x . a from x in A , B as y where x = y ;") ≡ Tree (QSelect 4 (QPath 24 (QName 20 (codes "x")) ((codes "a", 24) ∷ [])) (QRange (codes "x") 31 (QName 36 (codes "A")) (QRange (codes "y") 45 (QName 40 (codes "B")) NoRanges)) (Where 47 (QCompare 55 c.Eq (QName 53 (codes "x")) (QName 57 (codes "y")))))
unfolding read seen text text_at lexemes_from said sign_named signs query_word_named query_words is_among
a_select = refl

sets_group_to_the_left : read 3 (codes "a union b intersect c except d") ≡ Tree (QUnionExcept 6 (QName 4 (codes "a")) (SetLink 6 false (QIntersect 14 (QName 12 (codes "b")) (Link 14 (QName 24 (codes "c")) NoLinks)) (SetLink 26 true (QName 33 (codes "d")) NoSets)))
unfolding read seen text text_at lexemes_from said sign_named signs query_word_named query_words is_among
sets_group_to_the_left = refl

and_binds_more_than_or : read 3 (codes "a or b and not c in d or e") ≡ Tree (QOr 6 (QName 4 (codes "a")) (Link 6 (QAnd 11 (QName 9 (codes "b")) (Link 11 (QNot 15 (QCompare 21 c.Member (QName 19 (codes "c")) (QName 24 (codes "d")))) NoLinks)) (Link 26 (QName 29 (codes "e")) NoLinks)))
unfolding read seen text text_at lexemes_from said sign_named signs query_word_named query_words is_among
and_binds_more_than_or = refl

-- the body of a quantifier reaches as far right as possible
a_quantifier : read 3 (codes "a and for all x in b : x < 1 or true") ≡ Tree (QAnd 6 (QName 4 (codes "a")) (Link 6 (QForAll 10 (codes "x") (QName 23 (codes "b")) (QOr 33 (QCompare 29 c.Lt (QName 27 (codes "x")) (QLiteral 31 (LitInt (pos 1)))) (Link 33 (QLiteral 36 (LitBool true)) NoLinks))) NoLinks))
unfolding read seen text text_at lexemes_from said sign_named signs query_word_named query_words is_among
a_quantifier = refl

exists_of_both_kinds : read 3 (codes "exists ( a -> b . c ) and exists x in flatten ( d ) : x") ≡ Tree (QAnd 26 (QSomeMember 4 (QPath 18 (QName 13 (codes "a")) ((codes "b", 18) ∷ (codes "c", 22) ∷ []))) (Link 26 (QExists 30 (codes "x") (QFlatten 42 (QName 52 (codes "d"))) (QName 58 (codes "x"))) NoLinks))
unfolding read seen text text_at lexemes_from said sign_named signs query_word_named query_words is_among
exists_of_both_kinds = refl

-- behind a bare select the comma is that of the struct, where the word behind it is followed by a colon
a_select_in_a_struct : read 3 (codes "struct ( from : select distinct x from x in set ( 1 , false ) , first : 2 )") ≡ Tree (QStruct 4 (QField (codes "from") 13 (QSelect 20 (QName 36 (codes "x")) (QRange (codes "x") 43 (QSetOf 48 ((LitInt (pos 1), 54) ∷ (LitBool false, 58) ∷ [])) NoRanges) NoWhere) (QField (codes "first") 68 (QLiteral 76 (LitInt (pos 2))) NoFields)))
unfolding read seen text text_at lexemes_from said sign_named signs query_word_named query_words is_among
a_select_in_a_struct = refl

a_struct_as_a_range : read 4 (codes "struct ( a : select distinct x from x in A , struct ( b : x ) as y , set : 2 )") ≡ Tree (QStruct 4 (QField (codes "a") 13 (QSelect 17 (QName 33 (codes "x")) (QRange (codes "x") 40 (QName 45 (codes "A")) (QRange (codes "y") 69 (QStruct 49 (QField (codes "b") 58 (QName 62 (codes "x")) NoFields)) NoRanges)) NoWhere) (QField (codes "set") 73 (QLiteral 79 (LitInt (pos 2))) NoFields)))
unfolding read seen text text_at lexemes_from said sign_named signs query_word_named query_words is_among
a_struct_as_a_range = refl

a_select_as_a_body : read 3 (codes "exists x in A : select distinct y from y in B where y") ≡ Tree (QExists 4 (codes "x") (QName 16 (codes "A")) (QSelect 20 (QName 36 (codes "y")) (QRange (codes "y") 43 (QName 48 (codes "B")) NoRanges) (Where 50 (QName 56 (codes "y")))))
unfolding read seen text text_at lexemes_from said sign_named signs query_word_named query_words is_among
a_select_as_a_body = refl

sign_Ne : read 3 (codes "a != b") ≡ Tree (QCompare 6 c.Ne (QName 4 (codes "a")) (QName 9 (codes "b")))
unfolding read seen text text_at lexemes_from said sign_named signs query_word_named query_words is_among
sign_Ne = refl

sign_Le : read 3 (codes "a <= b") ≡ Tree (QCompare 6 c.Le (QName 4 (codes "a")) (QName 9 (codes "b")))
unfolding read seen text text_at lexemes_from said sign_named signs query_word_named query_words is_among
sign_Le = refl

sign_Gt : read 3 (codes "a > b") ≡ Tree (QCompare 6 c.Gt (QName 4 (codes "a")) (QName 8 (codes "b")))
unfolding read seen text text_at lexemes_from said sign_named signs query_word_named query_words is_among
sign_Gt = refl

sign_Ge : read 3 (codes "a >= b") ≡ Tree (QCompare 6 c.Ge (QName 4 (codes "a")) (QName 9 (codes "b")))
unfolding read seen text text_at lexemes_from said sign_named signs query_word_named query_words is_among
sign_Ge = refl

in_a_set : read 3 (codes "( a ) in set ( 2 , FALSE )") ≡ Tree (QCompare 10 c.Member (QName 6 (codes "a")) (QSetOf 13 ((LitInt (pos 2), 19) ∷ (LitBool false, 23) ∷ [])))
unfolding read seen text text_at lexemes_from said sign_named signs query_word_named query_words is_among
in_a_set = refl

-- ---- faults

-- the end of a text is a token
no_distinct : read 3 (codes "select") ≡ At 10 Unexpected
unfolding read seen text text_at lexemes_from said sign_named signs query_word_named query_words is_among
no_distinct = refl

no_label_behind_a_comma : read 3 (codes "struct ( a : select distinct x from x in set ( 1 ) , first 2 )") ≡ At 63 Unexpected
unfolding read seen text text_at lexemes_from said sign_named signs query_word_named query_words is_among
no_label_behind_a_comma = refl

-- a quantifier ends its chain
and_behind_a_quantifier : read 3 (codes "exists x in A : select distinct y from y in B and true") ≡ At 50 Unexpected
unfolding read seen text text_at lexemes_from said sign_named signs query_word_named query_words is_among
and_behind_a_quantifier = refl

or_behind_a_select_in_a_quantifier : read 3 (codes "a and exists x in A : select distinct y from B as y or c") ≡ At 56 Unexpected
unfolding read seen text text_at lexemes_from said sign_named signs query_word_named query_words is_among
or_behind_a_select_in_a_quantifier = refl

-- select is a label there
a_number_behind_a_label : read 3 (codes "x . select 5") ≡ At 15 Unexpected
unfolding read seen text text_at lexemes_from said sign_named signs query_word_named query_words is_among
a_number_behind_a_label = refl

a_number_behind_a_field : read 3 (codes "struct ( select 5") ≡ At 20 Unexpected
unfolding read seen text text_at lexemes_from said sign_named signs query_word_named query_words is_among
a_number_behind_a_field = refl

two_comparisons : read 3 (codes "a = b = c") ≡ At 10 Unexpected
unfolding read seen text text_at lexemes_from said sign_named signs query_word_named query_words is_among
two_comparisons = refl

two_conditions : read 3 (codes "select distinct x from x in A where x where x") ≡ At 42 Unexpected
unfolding read seen text text_at lexemes_from said sign_named signs query_word_named query_words is_among
two_conditions = refl

union_behind_a_variable : read 3 (codes "select distinct x from A as x union B") ≡ At 34 Unexpected
unfolding read seen text text_at lexemes_from said sign_named signs query_word_named query_words is_among
union_behind_a_variable = refl

a_select_as_an_operand : read 3 (codes "a union select distinct x from x in A") ≡ At 12 Unexpected
unfolding read seen text text_at lexemes_from said sign_named signs query_word_named query_words is_among
a_select_as_an_operand = refl

a_quantifier_as_a_side : read 3 (codes "a = exists x in A : x") ≡ At 15 Unexpected
unfolding read seen text text_at lexemes_from said sign_named signs query_word_named query_words is_among
a_quantifier_as_a_side = refl

two_final_signs : read 3 (codes "a ; ;") ≡ At 8 Unexpected
unfolding read seen text text_at lexemes_from said sign_named signs query_word_named query_words is_among
two_final_signs = refl

a_set_of_names : read 3 (codes "set ( 1 , a )") ≡ At 14 Unexpected
unfolding read seen text text_at lexemes_from said sign_named signs query_word_named query_words is_among
a_set_of_names = refl

a_word_as_a_name : read 3 (codes "a union First") ≡ At 12 Unexpected
unfolding read seen text text_at lexemes_from said sign_named signs query_word_named query_words is_among
a_word_as_a_name = refl

no_field_behind_a_bare_select : read 3 (codes "struct ( a : select distinct x from x in A , 2 : b )") ≡ At 51 Unexpected
unfolding read seen text text_at lexemes_from said sign_named signs query_word_named query_words is_among
no_field_behind_a_bare_select = refl

a_level_too_many : read 1 (codes "not not a") ≡ At 8 TooDeep
unfolding read seen text text_at lexemes_from said sign_named signs query_word_named query_words is_among
a_level_too_many = refl

a_level_in_parentheses : read 2 (codes "( not exists ( a ) )") ≡ At 10 TooDeep
unfolding read seen text text_at lexemes_from said sign_named signs query_word_named query_words is_among
a_level_in_parentheses = refl

a_link_too_many : read 1 (codes "a union b except c") ≡ At 14 TooDeep
unfolding read seen text text_at lexemes_from said sign_named signs query_word_named query_words is_among
a_link_too_many = refl

a_label_too_many : read 1 (codes "a . b . c") ≡ At 10 TooDeep
unfolding read seen text text_at lexemes_from said sign_named signs query_word_named query_words is_among
a_label_too_many = refl

an_and_too_many : read 1 (codes "a and b or c and d and e") ≡ At 23 TooDeep
unfolding read seen text text_at lexemes_from said sign_named signs query_word_named query_words is_among
an_and_too_many = refl

-- each chain has its own count
chains_in_chains : read 1 (codes "a and b or c and d or e") ≡ At 23 TooDeep
unfolding read seen text text_at lexemes_from said sign_named signs query_word_named query_words is_among
chains_in_chains = refl

-- it is too deep at the parenthesis, since the word may be a label
a_struct_or_a_label : read 2 (codes "struct ( a : select distinct x from x in A , struct ( b : x ) as y )") ≡ At 56 TooDeep
unfolding read seen text text_at lexemes_from said sign_named signs query_word_named query_words is_among
a_struct_or_a_label = refl

a_level_for_all : read 1 (codes "for all x in ( A ) : x") ≡ At 17 TooDeep
unfolding read seen text text_at lexemes_from said sign_named signs query_word_named query_words is_among
a_level_for_all = refl

-- ---- words outside of the profile

-- behind a select it is that word, also where another one is left out
a_select_without_distinct : word_outside (text (codes "exists ( SELECT")) (text (codes "first")) ≡ Some (codes "select")
unfolding text text_at lexemes_from said sign_named signs query_word_named query_words is_among
a_select_without_distinct = refl

a_select_at_the_end : word_outside (text (codes "a union ( select")) ([]) ≡ Some (codes "select")
unfolding text text_at lexemes_from said sign_named signs query_word_named query_words is_among
a_select_at_the_end = refl

a_word_left_out : word_outside (text (codes "a union")) (text (codes "First")) ≡ Some (codes "First")
unfolding text text_at lexemes_from said sign_named signs query_word_named query_words is_among
a_word_left_out = refl

a_word_left_out_at_the_front : word_outside ([]) (text (codes "Count ( a )")) ≡ Some (codes "Count")
unfolding text text_at lexemes_from said sign_named signs query_word_named query_words is_among
a_word_left_out_at_the_front = refl

-- labels
a_select_in_a_path : word_outside (text (codes "x -> select")) (text (codes "5")) ≡ None
unfolding text text_at lexemes_from said sign_named signs query_word_named query_words is_among
a_select_in_a_path = refl

a_select_as_the_first_label : word_outside (text (codes "struct ( select")) (text (codes "5")) ≡ None
unfolding text text_at lexemes_from said sign_named signs query_word_named query_words is_among
a_select_as_the_first_label = refl

a_select_as_a_later_label : word_outside (text (codes "struct ( a : b , select")) (text (codes "first")) ≡ Some (codes "first")
unfolding text text_at lexemes_from said sign_named signs query_word_named query_words is_among
a_select_as_a_later_label = refl

no_select : word_outside (text (codes "( a union")) (text (codes "select")) ≡ None
unfolding text text_at lexemes_from said sign_named signs query_word_named query_words is_among
no_select = refl

-- a fault that goes too deep is told as such, and another one by the word it names
too_deep_first : cause_by TooDeep (Some (codes "first")) ≡ CTooDeep
too_deep_first = refl

outside_before_unexpected : cause_by Unexpected (Some (codes "first")) ≡ CNotInProfile (codes "first")
outside_before_unexpected = refl

unexpected_else : cause_by Unexpected None ≡ CUnexpected
unexpected_else = refl

-- ---- texts of the grammar

spelled : (n : ℕ) (bs : List ℕ) (x : QueryTree) → whole (query n n) (text bs) ≡ Ok x → QueryText n n x (text bs)
spelled n bs x e = whole_sound (λ n. query n n) (λ n. QueryText n n) always (λ n. grammar_good n n) n (text bs) x e

refused : (n : ℕ) (bs : List ℕ) (f : Fault Placed) → whole (query n n) (text bs) ≡ Err f → (x : QueryTree) → QueryText n n x (text bs) → ⊥
refused n bs f e x h = absurd (let i = whole_complete (λ n. query n n) (λ n. QueryText n n) always (λ n. grammar_good n n) n (text bs) x h in cc)

a_difference_is_spelled : QueryText 3 3 (QUnionExcept 6 (QName 4 (codes "a")) (SetLink 6 true (QName 13 (codes "b")) NoSets)) (text (codes "a except b"))
unfolding text text_at lexemes_from said sign_named signs query_word_named query_words is_among
a_difference_is_spelled = spelled 3 (codes "a except b") (QUnionExcept 6 (QName 4 (codes "a")) (SetLink 6 true (QName 13 (codes "b")) NoSets)) refl

-- a comparison is no side of another
no_second_comparison : (x : QueryTree) → QueryText 3 3 x (text (codes "a = b < c")) → ⊥
unfolding text text_at lexemes_from said sign_named signs query_word_named query_words is_among
no_second_comparison = refused 3 (codes "a = b < c") (fault Unexpected (text_at 10 (codes "< c"))) refl
