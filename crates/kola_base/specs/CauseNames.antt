-- The names of the causes for which a text is refused, as they are printed.
use Rattle.std.specs.Prelude.{ℕ, List, codes}
use Rattle.kola_base.specs.declared.lex.LexWhy.{LexWhy}
use Rattle.kola_base.specs.declared.lex.LexWhy.TheVariants.{BadByte, OpenString, BadEscape, NumberTooLarge, NotUtf8}
use Rattle.kola_base.specs.declared.text_fault.TextWhy.{TextWhy}
use Rattle.kola_base.specs.declared.text_fault.TextWhy.TheVariants.{Lex, Unexpected, TooDeep}

abbrev pub lex_name : LexWhy → List ℕ
lex_name BadByte = codes "BadByte"
lex_name OpenString = codes "OpenString"
lex_name BadEscape = codes "BadEscape"
lex_name NumberTooLarge = codes "NumberTooLarge"
lex_name NotUtf8 = codes "NotUtf8"

abbrev pub text_name : TextWhy → List ℕ
text_name (Lex why) = lex_name why
text_name Unexpected = codes "Unexpected"
text_name TooDeep = codes "TooDeep"
