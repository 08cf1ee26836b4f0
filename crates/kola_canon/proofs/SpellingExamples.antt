-- The canonical text of values and of types, computed.
use Rattle.std.proofs.Common.{◌≡◌, pos, negsuc, true, false, [], ◌∷◌, codes, refl}
use Rattle.std.specs.Fmt.{digits}
use Rattle.kola_values.specs.Values.{VUnit, VInt, VBool, VStr, VObj, VPair, VStruct, VSet, VNone, VEnd, VField, of_items}
use Rattle.kola_values.specs.Types.{TInt, TStr, TBool, TUnit, TClass, TVar, TSet, TPair, TStruct, TEnd, TField}
use Rattle.kola_canon.specs.Spelling.{quoted, value_spelling, type_spelling}

unit_text : value_spelling VUnit ≡ codes "unit"
unit_text = refl

falsehood_text : value_spelling (VBool false) ≡ codes "false"
falsehood_text = refl

truth_text : value_spelling (VBool true) ≡ codes "true"
truth_text = refl

object_text : value_spelling (VObj (codes "Vehicle") 12) ≡ codes "Vehicle#12"
unfolding digits
object_text = refl

quotes_and_backslashes : quoted (codes "a\"b\\c") ≡ codes "\"a\\\"b\\\\c\""
quotes_and_backslashes = refl

lines_and_tabs : quoted (10 ∷ 9 ∷ []) ≡ codes "\"\\n\\t\""
lines_and_tabs = refl

controls : quoted (0 ∷ 13 ∷ 31 ∷ 127 ∷ []) ≡ codes "\"\\u{0}\\u{d}\\u{1f}\\u{7f}\""
unfolding digits
controls = refl

other_characters_stand : quoted (codes "é ~") ≡ codes "\"é ~\""
other_characters_stand = refl

empty_set_text : value_spelling (VSet VNone) ≡ codes "{}"
empty_set_text = refl

nested_text : value_spelling (VStruct (VField (codes "a") (VInt (pos 1)) (VField (codes "b") (VSet (of_items (VStr (codes "x") ∷ VStr (codes "y") ∷ []))) VEnd))) ≡ codes "struct(a: 1, b: {\"x\", \"y\"})"
unfolding digits
nested_text = refl

pair_text : value_spelling (VPair VUnit (VObj (codes "Person") 7)) ≡ codes "[unit, Person#7]"
unfolding digits
pair_text = refl

least_integer_text : value_spelling (VInt (negsuc 9223372036854775807)) ≡ codes "-9223372036854775808"
unfolding digits
least_integer_text = refl

type_text_of_sets : type_spelling (TSet (TSet (TClass (codes "Vehicle")))) ≡ codes "set<set<Vehicle>>"
type_text_of_sets = refl

type_text_of_structs : type_spelling (TStruct (TField (codes "a") TInt (TField (codes "b") (TSet TStr) TEnd))) ≡ codes "struct(a: int, b: set<string>)"
type_text_of_structs = refl

type_text_of_pairs : type_spelling (TPair TUnit (TPair TBool (TVar (codes "a")))) ≡ codes "(unit, (bool, a))"
type_text_of_pairs = refl
