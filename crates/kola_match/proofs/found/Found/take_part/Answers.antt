use Rattle.std.proofs.Common.{◌≡◌, map, true, sym, subst, ap, ◌∙◌, ◌++◌, ◌∷◌, []}
use Rattle.std.proofs.lemmas.List.{map_push}
use Rattle.kola_values.specs.Views.{type_entry}
use Rattle.kola_term.specs.Parts.{sub_tree}
use Rattle.kola_match.specs.Substitutions.{inst}
use Rattle.kola_match.specs.Binds.{binds}
use Rattle.kola_match.specs.Finding.{Finds}
use Rattle.kola_match.specs.Alike.{variable_like}
use Rattle.kola_match.specs.NodeViews.{part_entry}
use Rattle.kola_match.proofs.BindLaws.{taken_known, taken_new}
use Rattle.kola_match.proofs.found.Found.take_part.Goals as goal

pub returns-in-Some : goal.returns-in-Some
returns-in-Some c =
    taken_known (map type_entry c.args.self.now.types.items) (map part_entry c.args.self.now.parts.items) c.args.name.now (sub_tree c.args.part) (sub_tree c.in-Some.known) c.same_part.result c.in-Some.ensures c.same_part.ensures

pub returns : goal.returns
returns c =
    let ts = map type_entry c.args.self.now.types.items in
    let es = map part_entry c.args.self.now.parts.items in
    let n = c.args.name.now in
    let t = sub_tree c.args.part in
    let pushed = ap (map part_entry) c.in_ok-push.ensures.items
    ∙ map_push part_entry c.args.self.now.parts.items (c.in_ok-copy.field-0, c.args.part)
    ∙ ap (λ m. es ++ (m, t) ∷ []) c.in_ok-copy.ensures in
    subst (λ l. Finds true (binds ts es) (binds ts l) (λ s. inst s (variable_like t n) ≡ t)) (sym pushed) (taken_new ts es n t c.in_default.ensures)
