-- When one term may stand for another at a place: equal values, or equal truth, at each value of the type in a database; and the same kind with the same output type.
use Rattle.std.specs.Prelude.{◌≡◌, cond, Option, Some, None}
use Rattle.kola_values.specs.Values.{ValueTree}
use Rattle.kola_values.specs.Types.{TypeTree, TBool}
use Rattle.kola_values.specs.Databases.{Classes, Objects, HasType}
use Rattle.kola_term.specs.Terms.{TermTree, TermF, TermP, TermC}
use Rattle.kola_term.specs.Typing.{Context, out, is_typed, const_type}
use Rattle.kola_term.specs.Meaning.{den, holds_at}

abbrev pub Agree : Classes → Objects → TypeTree → TermTree → TermTree → Type 0
Agree S d t (TermF f) (TermF g) = (v : ValueTree) → HasType d v t → den S d f v ≡ den S d g v
Agree S d t (TermP p) (TermP q) = (v : ValueTree) → HasType d v t → holds_at S d p v ≡ holds_at S d q v
Agree S d t (TermC b) (TermC c) = b ≡ c
Agree S d t _ _ = ⊥

-- the output type, that of a predicate being `bool`
abbrev pub kind_out : Classes → Context → TermTree → TypeTree → Option TypeTree
kind_out S x (TermF f) t = out S x f t
kind_out S x (TermP p) t = cond (is_typed S x p t) (Some TBool) None
kind_out S x (TermC c) t = const_type S x c

abbrev pub SameKind : TermTree → TermTree → Type 0
SameKind (TermF f) (TermF g) = Unit {0}
SameKind (TermP f) (TermP g) = Unit {0}
SameKind (TermC f) (TermC g) = Unit {0}
SameKind _ _ = ⊥

-- c does for b, at the place
abbrev pub Serves : Classes → Context → Option TypeTree → TermTree → TermTree → Type 0
Serves S x o b c = SameKind b c × ((w : TypeTree) → o ≡ Some w → kind_out S x b w ≡ kind_out S x c w)
