use Rattle.std.proofs.Common.{◌∙◌, ap}
use Rattle.kola_values.specs.Views.{type_tree, value_tree}
use Rattle.kola_term.specs.Literals.{each_literal}
use Rattle.kola_term.proofs.SetConstants.{first_of_type}
use Rattle.kola_term.proofs.constant.is_set_constant.Goals as goal

pub returns : goal.returns
returns c =
    c.each_literal.ensures
    ∙ ap (each_literal (type_tree c.in-Some-literal_type.ty)) c.as_slice.ensures
    ∙ first_of_type c.args.set.now (value_tree c.in-Some.first.now) (type_tree c.in-Some-literal_type.ty)
    c.well_formed-2.ensures.rises c.in-Some.ensures c.in-Some-literal_type.ensures
