use Rattle.std.proofs.Common.{◌≡◌, fold, map, drop}
use Rattle.kola_load.specs.FirstMarks.{earlier, first_of, first_in_class}
use Rattle.kola_load.specs.SchemaViews.{class_view}
use Rattle.kola_load.proofs.schema_names.first_in_classes.Given as goal

abbrev pub invariant-loop-class : goal.invariant-loop-class
invariant-loop-class l = fold (λ best c. earlier best (first_in_class l.known c)) l.first (drop l.class-index (map class_view l.classes)) ≡ first_of (first_in_class l.known) (map class_view l.classes)
