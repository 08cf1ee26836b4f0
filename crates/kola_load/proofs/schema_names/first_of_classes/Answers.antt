use Rattle.std.proofs.Common.{[], map, ap, ◌∙◌}
use Rattle.kola_load.specs.FirstMarks.{names_from, twice, first_of, first_in_class}
use Rattle.kola_load.specs.SchemaViews.{named_view, class_view}
use Rattle.kola_load.proofs.MarkLoops.{names_seen}
use Rattle.kola_load.proofs.schema_names.first_of_classes.Goals as goal

pub returns-clause-twice : goal.returns-clause-twice
returns-clause-twice c =
    let listed = ap (map named_view) (c.as_slice.ensures.value ∙ c.in_ok-names.ensures) ∙ names_seen c.args.classes.now in
    c.in_ok-known.ensures.twice ∙ ap twice listed

pub returns-clause-inside : goal.returns-clause-inside
returns-clause-inside c =
    let listed = ap (map named_view) (c.as_slice.ensures.value ∙ c.in_ok-names.ensures) ∙ names_seen c.args.classes.now in
    c.in_ok-inside.ensures ∙ ap (λ t. first_of (first_in_class t) (map class_view c.args.classes.now)) (c.in_ok-known.ensures.table ∙ ap (names_from []) listed)
