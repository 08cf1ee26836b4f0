-- Types, variables, paths, steps and rules, read from their tokens, and where they are at fault.
use Rattle.std.proofs.Common.{◌≡◌, ℕ, suc, pos, true, false, List, [], ◌∷◌, ◌++◌, Ok, Err, refl, codes}
use Rattle.kola_base.specs.Lexemes.{Lexeme, LWord, LNumber, LSign}
use Rattle.kola_base.specs.Placed.{Placed}
use Rattle.kola_base.specs.Signs.{signs, sign_named}
use Rattle.kola_base.specs.TermWords.{term_words, term_word_named}
use Rattle.kola_parse.specs.declared.why.Why.TheVariants.{Unexpected, TooDeep}
use Rattle.kola_parse.specs.Reader.{fault, whole}
use Rattle.kola_values.specs.Types.{TInt, TClass, TVar, TSet, TPair}
use Rattle.kola_term.specs.Typing.{MFun, MPred, MConst}
use Rattle.kola_rule.specs.Rules.{DraftTree}
use Rattle.kola_term.specs.Terms.{TermTree, FFst, FComp, FPair, FMeta, TermF}
use Rattle.coko_text.specs.RuleGrammar.{is_capital}
use Rattle.coko_text.specs.RuleReaders.{type_at, vars_at, when_at, path_at, law_at, file_at}

-- lexemes from a place on, one place each
text_from : ℕ → List Lexeme → List Placed
text_from at [] = []
text_from at (l ∷ ls) = record { says = l; at = at } ∷ text_from (suc at) ls

abbrev text : List Lexeme → List Placed
text ls = text_from 0 ls

abbrev word : List ℕ → Lexeme
word n = LWord n

a_class_begins_with_a_capital : is_capital (codes "Person") ≡ true
a_class_begins_with_a_capital = refl

a_variable_begins_with_none : is_capital (codes "person") ≡ false
a_variable_begins_with_none = refl

no_capital_but_a_letter : is_capital (codes "_Person") ≡ false
no_capital_but_a_letter = refl

-- set (a, Person)
set_of_pairs : List Lexeme
set_of_pairs = word (codes "set") ∷ LSign (codes "(") ∷ word (codes "a") ∷ LSign (codes ",") ∷ word (codes "Person") ∷ LSign (codes ")") ∷ []

two_constructors : whole (type_at 2) (text set_of_pairs) ≡ Ok (TSet (TPair (TVar (codes "a")) (TClass (codes "Person"))))
unfolding sign_named signs term_word_named term_words text_from set_of_pairs
two_constructors = refl

too_many_constructors : whole (type_at 1) (text set_of_pairs) ≡ Err (fault TooDeep (text_from 1 (LSign (codes "(") ∷ word (codes "a") ∷ LSign (codes ",") ∷ word (codes "Person") ∷ LSign (codes ")") ∷ [])))
unfolding sign_named signs term_word_named term_words text_from set_of_pairs
too_many_constructors = refl

-- f: a -> B, p: pred int, c: int)
three_variables : List Lexeme
three_variables =
    word (codes "f") ∷ LSign (codes ":") ∷ word (codes "a") ∷ LSign (codes "->") ∷ word (codes "B") ∷ LSign (codes ",") ∷ word (codes "p") ∷ LSign (codes ":") ∷ word (codes "pred") ∷ word (codes "int") ∷ LSign (codes ",") ∷ word (codes "c") ∷ LSign (codes ":") ∷ word (codes "int") ∷ LSign (codes ")") ∷ []

one_variable_of_each_kind : whole (vars_at 0) (text three_variables) ≡ Ok ((codes "f", MFun (TVar (codes "a")) (TClass (codes "B"))) ∷ (codes "p", MPred TInt) ∷ (codes "c", MConst TInt) ∷ [])
unfolding sign_named signs term_word_named term_words text_from three_variables
one_variable_of_each_kind = refl

no_variables : whole (vars_at 0) (text (LSign (codes ")") ∷ [])) ≡ Ok []
unfolding sign_named signs term_word_named term_words text_from
no_variables = refl

-- f: a,)
no_variable_behind_the_comma : whole (vars_at 0) (text (word (codes "f") ∷ LSign (codes ":") ∷ word (codes "a") ∷ LSign (codes ",") ∷ LSign (codes ")") ∷ [])) ≡ Err (fault Unexpected (text_from 4 (LSign (codes ")") ∷ [])))
unfolding sign_named signs term_word_named term_words text_from
no_variable_behind_the_comma = refl

-- when inj(f), inj(g):
two_conditions : whole when_at (text (word (codes "when") ∷ word (codes "inj") ∷ LSign (codes "(") ∷ word (codes "f") ∷ LSign (codes ")") ∷ LSign (codes ",") ∷ word (codes "inj") ∷ LSign (codes "(") ∷ word (codes "g") ∷ LSign (codes ")") ∷ LSign (codes ":") ∷ [])) ≡ Ok (codes "f" ∷ codes "g" ∷ [])
unfolding sign_named signs term_word_named term_words text_from
two_conditions = refl

-- 1.3
two_children : whole path_at (text (LNumber (pos 1) ∷ LSign (codes ".") ∷ LNumber (pos 3) ∷ [])) ≡ Ok (1 ∷ 3 ∷ [])
unfolding sign_named signs term_word_named term_words text_from
two_children = refl

-- here.1
nothing_below_here : whole path_at (text (word (codes "here") ∷ LSign (codes ".") ∷ LNumber (pos 1) ∷ [])) ≡ Err (fault Unexpected (text_from 1 (LSign (codes ".") ∷ LNumber (pos 1) ∷ [])))
unfolding sign_named signs term_word_named term_words text_from
nothing_below_here = refl

-- 1.4
no_fourth_child : whole path_at (text (LNumber (pos 1) ∷ LSign (codes ".") ∷ LNumber (pos 4) ∷ [])) ≡ Err (fault Unexpected (text_from 2 (LNumber (pos 4) ∷ [])))
unfolding sign_named signs term_word_named term_words text_from
no_fourth_child = refl

-- rev fst_pair
from_right_to_left : whole law_at (text (word (codes "rev") ∷ word (codes "fst_pair") ∷ [])) ≡ Ok (true, codes "fst_pair")
unfolding sign_named signs term_word_named term_words text_from
from_right_to_left = refl

-- rule dup (f: a -> b) at a when inj(f): f = (fst o <f, f>) proof f = (fst o <f, f>) by rev fst_pair at here qed
doubled : List Lexeme
doubled = LSign (codes "(") ∷ word (codes "fst") ∷ word (codes "o") ∷ LSign (codes "<") ∷ word (codes "f") ∷ LSign (codes ",") ∷ word (codes "f") ∷ LSign (codes ">") ∷ LSign (codes ")") ∷ []

head : List Lexeme
head =
    word (codes "rule") ∷ word (codes "dup") ∷ LSign (codes "(") ∷ word (codes "f") ∷ LSign (codes ":") ∷ word (codes "a") ∷ LSign (codes "->") ∷ word (codes "b") ∷ LSign (codes ")") ∷ word (codes "at") ∷ word (codes "a") ∷ word (codes "when") ∷ word (codes "inj") ∷ LSign (codes "(") ∷ word (codes "f") ∷ LSign (codes ")")
    ∷ LSign (codes ":") ∷ []

step : List Lexeme
step = LSign (codes "=") ∷ [] ++ doubled ++ word (codes "by") ∷ word (codes "rev") ∷ word (codes "fst_pair") ∷ word (codes "at") ∷ word (codes "here") ∷ []

sample : List Lexeme
sample = head ++ word (codes "f") ∷ LSign (codes "=") ∷ [] ++ doubled ++ word (codes "proof") ∷ word (codes "f") ∷ [] ++ step ++ word (codes "qed") ∷ []

-- the rule of the sample
f_alone : TermTree
f_alone = TermF (FMeta (codes "f"))

f_doubled : TermTree
f_doubled = TermF (FComp FFst (FPair (FMeta (codes "f")) (FMeta (codes "f"))))

abbrev sample_draft : DraftTree
sample_draft = record {
  rule = record {
    name = codes "dup";
    vars = (codes "f", MFun (TVar (codes "a")) (TVar (codes "b"))) ∷ [];
    input = TVar (codes "a");
    when = codes "f" ∷ [];
    left = f_alone;
    right = f_doubled;
  };
  first = f_alone;
  steps = record { term = f_doubled; law = codes "fst_pair"; rev = true; path = [] } ∷ [];
}

the_sample_is_read : whole (file_at 0) (text sample) ≡ Ok (sample_draft ∷ [])
unfolding sign_named signs term_word_named term_words text_from sample head step doubled f_alone f_doubled
the_sample_is_read = refl

two_rules_are_read : whole (file_at 0) (text (sample ++ sample)) ≡ Ok (sample_draft ∷ sample_draft ∷ [])
unfolding sign_named signs term_word_named term_words text_from sample head step doubled f_alone f_doubled
two_rules_are_read = refl

-- a rule that stops behind its head
no_sides : whole (file_at 0) (text head) ≡ Err (fault Unexpected [])
unfolding sign_named signs term_word_named term_words text_from head
no_sides = refl

-- a name that no variable has is no side
an_extent_is_no_side : whole (file_at 0) (text (head ++ word (codes "g") ∷ LSign (codes "=") ∷ [])) ≡ Err (fault Unexpected (text_from 17 (word (codes "g") ∷ LSign (codes "=") ∷ [])))
unfolding sign_named signs term_word_named term_words text_from head
an_extent_is_no_side = refl
