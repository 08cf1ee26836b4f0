-- A part of which an output type is found is typed.
use Rattle.std.proofs.Common.{◌≡◌, true, Option, Some, None, is_some, option_map, sym}
use Rattle.kola_values.specs.Types.{TypeTree}
use Rattle.kola_values.specs.Views.{type_tree}
use Rattle.kola_values.specs.declared.ty.Ty.{Ty}

pub some_type : (o : Option Ty) (r : Option TypeTree) → option_map type_tree o ≡ r → is_some o ≡ true → (u : TypeTree) × (r ≡ Some u)
some_type (Some t) r e h = (type_tree t, sym e)
some_type None r e h = absurd (cc)
