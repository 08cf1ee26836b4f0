-- What is answered on all of a text.
use Rattle.std.proofs.Common.{◌≡◌, ℕ, suc, List, [], Ok, ap}
use Rattle.kola_base.specs.Placed.{Placed}
use Rattle.kola_base.specs.Tokens.{IsFaultOf}
use Rattle.kola_base.specs.declared.lex.LexFault.{LexFault}
use Rattle.kola_base.specs.declared.lex.LexFault.TheVariants as lexer
use Rattle.kola_parse.specs.Given.{Fails}
use Rattle.kola_parse.specs.Reader.{Answer, whole, end_of, ◌>>=◌}
use Rattle.kola_parse.specs.Reading.{Good}
use Rattle.kola_parse.specs.declared.stop.Stop.{Stop}
use Rattle.kola_parse.specs.declared.stop.Stop.TheVariants as stop
use Rattle.oql_syntax.specs.Limits.{QueryWithin, query_within}
use Rattle.oql_syntax.specs.QueryAnswers.{fault_refusal, of_lexer}
use Rattle.oql_syntax.specs.QueryFaults.{IsRefusal}
use Rattle.oql_syntax.proofs.GrammarWhole.{grammar_good}
use Rattle.oql_syntax.proofs.WholeQueryLaws.{always}

pub within_good : (n : ℕ) → Good (Unit {0}) (query_within n) (query_within (suc n)) (QueryWithin n) (QueryWithin (suc n)) always
within_good n = grammar_good n n

-- a reader that left nothing read all
pub all_read : {A : Type 0} (p : List Placed → Answer Placed A) (ts : List Placed) (x : A) → p ts ≡ Ok (x, []) → whole p ts ≡ Ok x
all_read p ts x e = ap (λ z. z >>= λ y. end_of y.0 y.1) e

-- and one that stopped did not read all
pub all_stopped : {A : Type 0} (p : List Placed → Answer Placed A) (ts : List Placed) (z : Stop (List Placed)) → Fails z (p ts) → Fails z (whole p ts)
all_stopped p ts stop.Memory e = tt
all_stopped p ts (stop.Before y r) e = ap (λ z. z >>= λ y. end_of y.0 y.1) e

pub lexed_refusal : (n : ℕ) (text : List ℕ) (f : LexFault) → IsFaultOf text f → IsRefusal QueryWithin n text (fault_refusal (of_lexer f))
lexed_refusal n text lexer.Memory h = tt
lexed_refusal n text (lexer.At at w) h = h
