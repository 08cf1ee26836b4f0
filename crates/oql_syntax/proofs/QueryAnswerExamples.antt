-- What the reader of queries answers, computed.
use Rattle.std.proofs.Common.{◌≡◌, ℕ, true, false, List, [], ◌∷◌, refl, codes}
use Rattle.kola_base.specs.Lexemes.{LWord, LSign}
use Rattle.kola_base.specs.Placed.{Placed}
use Rattle.kola_base.specs.QueryWords.{is_among}
use Rattle.kola_base.specs.Signs.{signs, sign_named}
use Rattle.kola_base.specs.declared.lex.LexFault.TheVariants as lex
use Rattle.kola_base.specs.declared.lex.LexWhy.TheVariants.{BadByte, BadEscape}
use Rattle.oql_syntax.specs.Alphabet.{query_words, query_word_named}
use Rattle.oql_syntax.specs.QueryAnswers.{why_cause, fault_refusal, of_lexer, cause_name}
use Rattle.oql_syntax.specs.QueryFaults.{CLex, CUnexpected, CTooDeep, CNotInProfile, RAt}
use Rattle.oql_syntax.specs.Roles.{ends_so}
use Rattle.oql_syntax.specs.declared.outside.Role.TheVariants as roles
use Rattle.oql_syntax.specs.declared.read.QueryWhy.TheVariants as whys
use Rattle.oql_syntax.specs.declared.read.QueryFault.TheVariants as faults

-- ---- causes and faults

lexical_as_itself : why_cause (whys.Lex BadEscape) ≡ CLex BadEscape
lexical_as_itself = refl

a_word_with_its_cause : fault_refusal (faults.At 7 (whys.NotInProfile (codes "order"))) ≡ RAt 7 (CNotInProfile (codes "order"))
a_word_with_its_cause = refl

too_deep_at : fault_refusal (faults.At 203 whys.TooDeep) ≡ RAt 203 CTooDeep
too_deep_at = refl

unexpected_at : fault_refusal (faults.At 4 whys.Unexpected) ≡ RAt 4 CUnexpected
unexpected_at = refl

no_tokens_at : fault_refusal (of_lexer (lex.At 3 BadByte)) ≡ RAt 3 (CLex BadByte)
no_tokens_at = refl

-- ---- names of causes

lexical_by_its_own : cause_name (CLex BadEscape) ≡ codes "BadEscape"
lexical_by_its_own = refl

without_the_word : cause_name (CNotInProfile (codes "order")) ≡ codes "NotInProfile"
without_the_word = refl

-- ---- selects by the roles of tokens

says : List ℕ → ℕ → Placed
says bs at = record { says = LWord bs; at = at }

paren : ℕ → Placed
paren at = record { says = LSign (codes "("); at = at }

-- a select in a parenthesis is a query's
in_a_parenthesis : ends_so false roles.Other roles.Other (says (codes "flatten") 2 ∷ paren 9 ∷ says (codes "SELECT") 10 ∷ []) ≡ true
unfolding says paren sign_named signs query_word_named query_words is_among
in_a_parenthesis = refl

-- and in a struct it is a label
in_a_struct : ends_so true roles.Other roles.Other (says (codes "struct") 2 ∷ paren 8 ∷ says (codes "select") 9 ∷ []) ≡ false
unfolding says paren sign_named signs query_word_named query_words is_among
in_a_struct = refl
