use Rattle.std.proofs.Common.{◌≡◌, map, drop}
use Rattle.kola_values.specs.Views.{type_tree, value_tree}
use Rattle.kola_term.specs.Literals.{each_literal}
use Rattle.kola_term.proofs.constant.each_literal.Given as goal

abbrev pub invariant-loop-v : goal.invariant-loop-v
invariant-loop-v l =
    each_literal (type_tree l.ty) (map value_tree l.members)
    ≡ each_literal (type_tree l.ty) (drop l.v-index (map value_tree l.members))
