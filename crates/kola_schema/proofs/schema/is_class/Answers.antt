use Rattle.std.proofs.Common.{◌≡◌, true, false, map, ap, sym, ◌∙◌, rules}
use Rattle.std.specs.List.{list_all}
use Rattle.kola_schema.specs.Schemas.{class_names, names_of, is_key}
use Rattle.kola_schema.specs.SchemaViews.{class_tree}
use Rattle.kola_schema.proofs.Schemas.{class_seen, all_three, not_the_second, repeated_attribute}
use Rattle.kola_schema.proofs.schema.is_class.Goals as goal
use Rattle.kola_schema.proofs.schema.is_class.Goals.{then-labels_are_distinct, else-labels_are_distinct}

pub returns-then-are_stored_types : goal.returns-then-are_stored_types
returns-then-are_stored_types c =
    let h = class_seen (class_names (map class_tree c.args.classes.now)) (class_tree c.args.class.now) c.as_slice-entries.result.now c.as_slice-entries.ensures in
    let keys = c.are_keys.ensures ∙ ap (list_all (is_key (names_of c.as_slice-entries.result.now))) c.as_slice.ensures in
    elim c.if-labels_are_distinct.branch [
      | then-labels_are_distinct w ↦
          let second : w.are_stored_types.result ≡ true = search rules in
          keys ∙ all_three _ _ _ (sym c.labels_are_distinct.ensures ∙ w.if-labels_are_distinct.true) (sym w.are_stored_types.ensures ∙ second) ∙ h
      | else-labels_are_distinct w ↦ search rules
    ]

pub returns-else-are_stored_types : goal.returns-else-are_stored_types
returns-else-are_stored_types c =
    let h = class_seen (class_names (map class_tree c.args.classes.now)) (class_tree c.args.class.now) c.as_slice-entries.result.now c.as_slice-entries.ensures in
    elim c.if-labels_are_distinct.branch [
      | then-labels_are_distinct w ↦
          let second : w.are_stored_types.result ≡ false = search rules in
          c.if-are_stored_types.false ∙ not_the_second _ _ _ (sym c.labels_are_distinct.ensures ∙ w.if-labels_are_distinct.true) (sym w.are_stored_types.ensures ∙ second) ∙ h
      | else-labels_are_distinct w ↦
          c.if-are_stored_types.false ∙ repeated_attribute (class_names (map class_tree c.args.classes.now)) (class_tree c.args.class.now) c.as_slice-entries.result.now c.as_slice-entries.ensures (sym c.labels_are_distinct.ensures ∙ w.if-labels_are_distinct.false)
    ]
