-- Tokens that spell functions, predicates and terms, by the relation itself, and a fault.
use Rattle.std.proofs.Common.{◌≡◌, ℕ, List, [], ◌∷◌, refl}
use Rattle.std.specs.Prelude.{codes}
use Rattle.kola_base.specs.Lexemes.{Lexeme, LWord, LSign}
use Rattle.kola_base.specs.Placed.{Placed}
use Rattle.kola_base.specs.Signs.{signs, sign_named}
use Rattle.kola_base.specs.Spelled.{FaultsAt}
use Rattle.kola_base.specs.TermWords.{term_words, term_word_named}
use Rattle.kola_parse.specs.declared.why.Why.TheVariants.{Unexpected}
use Rattle.kola_parse.specs.Reader.{fault}
use Rattle.kola_parse.specs.Reading.{never}
use Rattle.kola_parse.proofs.GoodReaders.{whole_fault}
use Rattle.kola_term.specs.Terms.{CExtent, FId, FFst, FPair, FMeta, PEq, PNot, TermF, TermP, TermC}
use Rattle.kola_text.specs.Scopes.{Fresh}
use Rattle.kola_text.specs.Starts.{ATerm, StartText, start_at}
use Rattle.kola_text.specs.Grammar.{FunText, PredText, TermText, PatternText}
use Rattle.kola_text.proofs.WholeLaws.{start_good}

abbrev at : ℕ → Lexeme → Placed
at n l = record { says = l; at = n }

-- <id,fst>
pair : FunText (Fresh []) (FPair FId FFst) 1 (at 0 (LSign (codes "<")) ∷ at 1 (LWord (codes "id")) ∷ at 3 (LSign (codes ",")) ∷ at 4 (LWord (codes "fst")) ∷ at 7 (LSign (codes ">")) ∷ [])
unfolding sign_named signs term_word_named term_words
pair = (refl, record { front = at 1 (LWord (codes "id")) ∷ []; back = at 3 (LSign (codes ",")) ∷ at 4 (LWord (codes "fst")) ∷ at 7 (LSign (codes ">")) ∷ []; split = refl; first = (refl, tt); second = (refl, record { front = at 4 (LWord (codes "fst")) ∷ []; back = at 7 (LSign (codes ">")) ∷ []; split = refl; first = (refl, tt); second = (refl, tt) }) })

-- with no level below nothing stands in it
too_deep : (w : List Placed) → FunText (Fresh []) (FPair FId FFst) 0 w → ⊥
too_deep w h = h

-- ~eq
negation : PredText (Fresh []) (PNot PEq) 1 (at 0 (LSign (codes "~")) ∷ at 1 (LWord (codes "eq")) ∷ [])
unfolding sign_named signs term_word_named term_words
negation = (refl, (refl, tt))

-- Persons, where no variable is named so
extent : TermText [] (TermC (CExtent (codes "Persons"))) 0 (at 0 (LWord (codes "Persons")) ∷ [])
unfolding term_word_named term_words
extent = ((refl, refl), tt)

-- a bare name is no pattern
bare : (w : List Placed) → PatternText (TermF (FMeta (codes "f"))) 5 w → ⊥
bare w h = h

-- <id>
no_comma : List Placed
no_comma = at 0 (LSign (codes "<")) ∷ at 1 (LWord (codes "id")) ∷ at 3 (LSign (codes ">")) ∷ []

missing_comma : FaultsAt (StartText (ATerm [])) 1 no_comma 4 3 Unexpected
unfolding no_comma sign_named signs term_word_named term_words
missing_comma = record { fault = fault Unexpected (at 3 (LSign (codes ">")) ∷ []); first = whole_fault (start_at (ATerm [])) (StartText (ATerm [])) never (start_good (ATerm [])) 1 no_comma (fault Unexpected (at 3 (LSign (codes ">")) ∷ [])) refl; is_at = refl; is_why = refl }
