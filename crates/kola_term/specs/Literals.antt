-- Literals, and the sets of literals that may stand as constants: a member at least, all integers, all truth values or all strings, in strictly rising order.
use Rattle.std.specs.Prelude.{Bool, true, false, cond, ◌&&◌, List, [], ◌∷◌, Option, Some, None}
use Rattle.std.specs.Ordering.{is_lt}
use Rattle.kola_core.specs.Integers.{in_64}
use Rattle.kola_values.specs.Values.{ValueTree, VInt, VBool, VStr}
use Rattle.kola_values.specs.Order.{cmp}
use Rattle.kola_values.specs.Types.{TypeTree, TInt, TBool, TStr, TSet}

-- the type that a literal's form has
abbrev pub literal_type : ValueTree → Option TypeTree
literal_type (VInt z) = Some TInt
literal_type (VBool b) = Some TBool
literal_type (VStr s) = Some TStr
literal_type _ = None

-- v is a literal of the type
abbrev pub is_literal_of : TypeTree → ValueTree → Bool
is_literal_of TInt (VInt z) = in_64 z
is_literal_of TBool (VBool b) = true
is_literal_of TStr (VStr s) = true
is_literal_of _ _ = false

abbrev pub each_literal : TypeTree → List ValueTree → Bool
each_literal t [] = true
each_literal t (v ∷ vs) = is_literal_of t v && each_literal t vs

-- v and the list after it rise strictly
abbrev pub rises_from : ValueTree → List ValueTree → Bool
rises_from v [] = true
rises_from v (w ∷ ws) = is_lt (cmp v w) && rises_from w ws

-- the members are literals of the one type, and rise
abbrev pub set_type_of : Option TypeTree → ValueTree → List ValueTree → Option TypeTree
set_type_of (Some t) v vs = cond (each_literal t (v ∷ vs) && rises_from v vs) (Some (TSet t)) None
set_type_of None v vs = None

-- the type of a set constant, or none where the list is no set constant
abbrev pub set_type : List ValueTree → Option TypeTree
set_type [] = None
set_type (v ∷ vs) = set_type_of (literal_type v) v vs
