-- Examples of the definitions, each computed.
use Rattle.std.proofs.Common.{◌≡◌, [], ◌∷◌, ◌++◌, map, true, false, refl}
use Rattle.std.specs.Prelude.{pos, negsuc, codes}
use Rattle.std.specs.List.{list_all}
use Rattle.kola_base.specs.declared.class.Class.TheVariants.{Blank, LineEnd, Letter, Digit, Minus, Slash, Less, Greater, Equal, Bang, Bar, Quote, Backslash, Single, Other}
use Rattle.kola_base.specs.declared.scan.Sort.TheVariants as sorts
use Rattle.kola_base.specs.declared.lex.Kind.TheVariants as kinds
use Rattle.kola_base.specs.Pieces.{class, piece}
use Rattle.std.specs.Prelude.{None, Some}
use Rattle.std.specs.Char.{encode_utf8}
use Rattle.std.specs.Str.{is_utf8, chars}
use Rattle.std.specs.Str.Lossy.{utf8_valid_len}
use Rattle.kola_base.specs.declared.lex.LexWhy.TheVariants.{BadEscape, NotUtf8}
use Rattle.kola_base.specs.Strings.{escape, string_value, string_fault}
use Rattle.kola_base.specs.Numbers.{number_value}
use Rattle.kola_core.specs.Integers.{in_64}
use Rattle.kola_base.specs.Tokens.{tokens_of, end_at}
use Rattle.kola_base.specs.Lexemes.{LWord, LNumber, LString, LSign, lexemes}
use Rattle.kola_base.specs.Placed.{placed, place}

classes : map class (codes "_a9 -/<>=!|.") ≡ Letter ∷ Letter ∷ Digit ∷ Blank ∷ Minus ∷ Slash ∷ Less ∷ Greater ∷ Equal ∷ Bang ∷ Bar ∷ Single ∷ []
classes = refl

-- tab, LF, CR, a double quote, a backslash, and bytes past ASCII
other_classes : map class (9 ∷ 10 ∷ 13 ∷ 34 ∷ 92 ∷ 195 ∷ 255 ∷ []) ≡ Blank ∷ LineEnd ∷ Blank ∷ Quote ∷ Backslash ∷ Other ∷ Other ∷ []
other_classes = refl

-- ---- pieces

signs : list_all (piece sorts.Sign) (codes "(" ∷ codes ")" ∷ codes "{" ∷ codes "}" ∷ codes "<" ∷ codes ">" ∷ codes "<=" ∷ codes ">=" ∷ codes "=" ∷ codes "!=" ∷ codes "," ∷ codes ";" ∷ codes ":" ∷ codes "." ∷ codes "->" ∷ codes "||" ∷ codes "|" ∷ codes "&" ∷ codes "~" ∷ codes "@" ∷ codes "*" ∷ []) ≡ true
signs = refl

no_signs : map (piece sorts.Sign) (codes "!" ∷ codes "-" ∷ codes "/" ∷ codes "==" ∷ codes "=>" ∷ codes "<-" ∷ codes "&&" ∷ codes "//" ∷ codes "a" ∷ []) ≡ false ∷ false ∷ false ∷ false ∷ false ∷ false ∷ false ∷ false ∷ false ∷ []
no_signs = refl

words : map (piece sorts.Word) (codes "x" ∷ codes "_1" ∷ codes "aB_2" ∷ codes "2a" ∷ codes "a-b" ∷ codes "" ∷ []) ≡ true ∷ true ∷ true ∷ false ∷ false ∷ false ∷ []
words = refl

numbers : map (piece sorts.Number) (codes "0" ∷ codes "-0012" ∷ codes "-" ∷ codes "--1" ∷ codes "1a" ∷ codes "+1" ∷ []) ≡ true ∷ true ∷ false ∷ false ∷ false ∷ false ∷ []
numbers = refl

comments : map (piece sorts.Comment) (codes "//" ∷ codes "// \"%" ∷ codes "/" ∷ (codes "// a" ++ 10 ∷ []) ∷ []) ≡ true ∷ true ∷ false ∷ false ∷ []
comments = refl

-- ---- strings

-- a quote that a backslash takes ends no string, and two backslashes take none
strings : map (piece sorts.Quoted) ((34 ∷ 34 ∷ []) ∷ (34 ∷ 92 ∷ 34 ∷ []) ∷ (34 ∷ 92 ∷ 92 ∷ 34 ∷ []) ∷ (34 ∷ 10 ∷ 34 ∷ []) ∷ (34 ∷ 97 ∷ 34 ∷ 34 ∷ []) ∷ []) ≡ true ∷ false ∷ true ∷ false ∷ false ∷ []
strings = refl

-- "a\"\\\n\t"
escapes : string_value (34 ∷ 97 ∷ 92 ∷ 34 ∷ 92 ∷ 92 ∷ 92 ∷ 110 ∷ 92 ∷ 116 ∷ 34 ∷ []) ≡ 97 ∷ 34 ∷ 92 ∷ 10 ∷ 9 ∷ []
unfolding encode_utf8
escapes = refl

-- "\u{e9}"
hexadecimal_escape : string_value (34 ∷ 92 ∷ 117 ∷ 123 ∷ 101 ∷ 57 ∷ 125 ∷ 34 ∷ []) ≡ 195 ∷ 169 ∷ []
unfolding encode_utf8
hexadecimal_escape = refl

-- a surrogate, a number past the last character, seven digits, no digit, no brace
no_escapes : map escape (codes "u{d800}" ∷ codes "u{110000}" ∷ codes "u{0000041}" ∷ codes "u{}" ∷ codes "u{41" ∷ codes "x" ∷ []) ≡ None ∷ None ∷ None ∷ None ∷ None ∷ None ∷ []
no_escapes = refl

-- the first of two faults: "é" cut short before a bad escape, and behind one
first_faults : (string_fault (34 ∷ 195 ∷ 92 ∷ 120 ∷ 34 ∷ []) ≡ Some (1, NotUtf8)) × (string_fault (34 ∷ 92 ∷ 120 ∷ 195 ∷ 34 ∷ []) ≡ Some (1, BadEscape))
unfolding utf8_valid_len is_utf8 chars encode_utf8
first_faults = (refl, refl)

-- ---- numbers

twelve : number_value (codes "-0012") ≡ negsuc 11
twelve = refl

zero_twice : (number_value (codes "-0") ≡ pos 0) × (number_value (codes "0") ≡ pos 0)
zero_twice = (refl, refl)

ends : (in_64 (number_value (codes "-9223372036854775808")) ≡ true) × (in_64 (number_value (codes "9223372036854775807")) ≡ true)
ends = (refl, refl)

past_ends : (in_64 (number_value (codes "-9223372036854775809")) ≡ false) × (in_64 (number_value (codes "9223372036854775808")) ≡ false)
past_ends = (refl, refl)

-- ---- tokens and what they say

-- x<=-5 // end
cut : tokens_of 0 ((sorts.Word, 1) ∷ (sorts.Sign, 2) ∷ (sorts.Number, 2) ∷ (sorts.Blank, 1) ∷ (sorts.Comment, 6) ∷ []) ≡ record { kind = kinds.Word; from = 0; to = 1 } ∷ record { kind = kinds.Sign; from = 1; to = 3 } ∷ record { kind = kinds.Number; from = 3; to = 5 } ∷ []
cut = refl

said : lexemes (codes "x<=-5 // end") (record { kind = kinds.Word; from = 0; to = 1 } ∷ record { kind = kinds.Sign; from = 1; to = 3 } ∷ record { kind = kinds.Number; from = 3; to = 5 } ∷ end_at 12 ∷ []) ≡ LWord (codes "x") ∷ LSign (codes "<=") ∷ LNumber (negsuc 4) ∷ []
said = refl

-- x "\n"
said_in_place : placed (120 ∷ 32 ∷ 34 ∷ 92 ∷ 110 ∷ 34 ∷ []) (record { kind = kinds.Word; from = 0; to = 1 } ∷ record { kind = kinds.Quoted; from = 2; to = 6 } ∷ end_at 6 ∷ []) ≡ record { says = LWord (120 ∷ []); at = 0 } ∷ record { says = LString (10 ∷ []); at = 2 } ∷ []
unfolding encode_utf8
said_in_place = refl

-- the place of the first, and behind the last one that of the end
places : (place 6 (record { says = LSign (codes "<="); at = 2 } ∷ []) ≡ 2) × (place 6 (placed (codes "x") (end_at 1 ∷ [])) ≡ 6)
places = (refl, refl)
