use Rattle.std.proofs.Common.{◌∷◌, ◌++◌, map, sym, ap, ◌∙◌}
use Rattle.kola_values.specs.Types.{TStruct, type_fields, of_type_fields}
use Rattle.oql_tree.specs.QueryTrees.{of_fields}
use Rattle.oql_tree.specs.QueryViews.{form_tree, named_entry}
use Rattle.kola_translate.specs.Translation.{types_of}
use Rattle.kola_translate.specs.Building.{build}
use Rattle.kola_translate.proofs.Built.{built_as}
use Rattle.kola_translate.proofs.FieldLists.{listed_fields}
use Rattle.kola_translate.proofs.terms.+terms.Goals as goal

pub struct_of-returns-clause-ty : goal.struct_of-returns-clause-ty
struct_of-returns-clause-ty t c =
    let S = c.args.schema.now in
    let ns = c.args.scope.now in
    let us = named_entry c.in-Some.first.now ∷ map named_entry c.in-Some.rest.now in
    c.in_ok-ty.ensures
    ∙ ap TStruct (c.in_ok-f.ensures.types
    ∙ ap (λ l. of_type_fields (l ++ type_fields (types_of S ns (of_fields us)))) c.new-types.ensures
    ∙ listed_fields (types_of S ns (of_fields us))
    ∙ ap (λ l. types_of S ns (of_fields l)) (sym (ap (map named_entry) c.in-Some.ensures.cases.0) ∙ c.as_slice.ensures))

pub part_of-returns-in-Exists-clause-built : goal.part_of-returns-in-Exists-clause-built
part_of-returns-in-Exists-clause-built t c =
    built_as _ c.quantifier.result c.quantifier.new.made _ _
    (ap (λ f. build c.args.schema.now c.args.scope.now (form_tree c.args.e.now.at f) c.args.made.now) (sym c.in-Exists.is))
    c.quantifier.ensures.built

pub part_of-returns-in-ForAll-clause-built : goal.part_of-returns-in-ForAll-clause-built
part_of-returns-in-ForAll-clause-built t c =
    built_as _ c.quantifier-in-ForAll.result c.quantifier-in-ForAll.new.made _ _
    (ap (λ f. build c.args.schema.now c.args.scope.now (form_tree c.args.e.now.at f) c.args.made.now) (sym c.in-ForAll.is))
    c.quantifier-in-ForAll.ensures.built
