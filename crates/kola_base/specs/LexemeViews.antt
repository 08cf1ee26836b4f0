-- What the program's lexemes say, and where they stand.
use Rattle.kola_base.specs.declared.lexeme.Lexeme as lexeme
use Rattle.kola_base.specs.declared.lexeme.Lexeme.TheVariants.{Word, Number, Quoted, Sign}
use Rattle.kola_base.specs.declared.lexeme.Placed as place
use Rattle.kola_base.specs.Lexemes.{Lexeme, LWord, LNumber, LString, LSign}
use Rattle.kola_base.specs.Placed.{Placed}
use Rattle.kola_base.specs.Signs.{sign_spelling}

abbrev pub lexeme_view : lexeme.Lexeme → Lexeme
lexeme_view (Word bytes) = LWord bytes.now
lexeme_view (Number value) = LNumber value
lexeme_view (Quoted content) = LString content
lexeme_view (Sign s) = LSign (sign_spelling s)

abbrev pub placed_view : place.Placed → Placed
placed_view p = record { says = lexeme_view p.says; at = p.at }
