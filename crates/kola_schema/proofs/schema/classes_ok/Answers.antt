use Rattle.std.proofs.Common.{◌≡◌, true, false, sym, ◌∙◌, rules}
use Rattle.kola_schema.proofs.Schemas.{schema_seen, all_three, not_the_second, repeated_class}
use Rattle.kola_schema.proofs.schema.classes_ok.Goals as goal
use Rattle.kola_schema.proofs.schema.classes_ok.Goals.{then-class_names_are_distinct, else-class_names_are_distinct}

pub returns-then-extent_names_are_distinct : goal.returns-then-extent_names_are_distinct
returns-then-extent_names_are_distinct c =
    let h = schema_seen c.args.classes.now in
    elim c.if-class_names_are_distinct.branch [
      | then-class_names_are_distinct w ↦
          let second : w.extent_names_are_distinct.result ≡ true = search rules in
          c.are_classes.ensures ∙ all_three _ _ _ (sym c.class_names_are_distinct.ensures ∙ w.if-class_names_are_distinct.true) (sym w.extent_names_are_distinct.ensures ∙ second) ∙ h
      | else-class_names_are_distinct w ↦ search rules
    ]

pub returns-else-extent_names_are_distinct : goal.returns-else-extent_names_are_distinct
returns-else-extent_names_are_distinct c =
    let h = schema_seen c.args.classes.now in
    elim c.if-class_names_are_distinct.branch [
      | then-class_names_are_distinct w ↦
          let second : w.extent_names_are_distinct.result ≡ false = search rules in
          c.if-extent_names_are_distinct.false ∙ not_the_second _ _ _ (sym c.class_names_are_distinct.ensures ∙ w.if-class_names_are_distinct.true) (sym w.extent_names_are_distinct.ensures ∙ second) ∙ h
      | else-class_names_are_distinct w ↦
          c.if-extent_names_are_distinct.false ∙ repeated_class c.args.classes.now (sym c.class_names_are_distinct.ensures ∙ w.if-class_names_are_distinct.false)
    ]
