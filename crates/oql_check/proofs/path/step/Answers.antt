use Rattle.std.proofs.Common.{option_map, sym, ap, subst, ◌∙◌}
use Rattle.kola_values.specs.Views.{type_tree}
use Rattle.kola_schema.specs.SchemaViews.{type_at}
use Rattle.oql_check.specs.QueryTypes.{found, step_type}
use Rattle.oql_check.specs.Checking.{IsFault}
use Rattle.oql_check.proofs.CheckLoops.{struct_step}
use Rattle.oql_check.proofs.path.step.Goals as goal

pub returns-in-Some-field : goal.returns-in-Some-field
returns-in-Some-field c =
    ap (λ t. step_type c.args.schema.now (type_tree t) c.args.label.now c.args.at) c.in-Struct.is
    ∙ struct_step c.args.schema.now _ c.args.label.now c.args.at
    ∙ ap (found c.args.at) (sym c.field.ensures ∙ ap (option_map type_at) c.in-Some-field.is)

pub returns-in-None-field : goal.returns-in-None-field
returns-in-None-field c =
    subst (λ f. IsFault f (step_type c.args.schema.now (type_tree c.args.t.now) c.args.label.now c.args.at)) (sym c.missing-in-None-field.ensures)
    (ap (λ t. step_type c.args.schema.now (type_tree t) c.args.label.now c.args.at) c.in-Struct.is
    ∙ struct_step c.args.schema.now _ c.args.label.now c.args.at
    ∙ ap (found c.args.at) (sym c.field.ensures ∙ ap (option_map type_at) c.in-None-field.is))
