use Rattle.std.proofs.Common.{◌≡◌, map, true, sym, subst, ap, ◌∙◌, ◌++◌, ◌∷◌, []}
use Rattle.std.proofs.lemmas.List.{map_push}
use Rattle.kola_values.specs.Views.{type_tree, type_entry}
use Rattle.kola_match.specs.Binds.{binds}
use Rattle.kola_match.specs.Finding.{Finds}
use Rattle.kola_match.specs.NodeViews.{part_entry}
use Rattle.kola_match.proofs.BindLaws.{type_known, type_new}
use Rattle.kola_match.proofs.found.Found.take_type.Goals as goal

pub returns-in-Some : goal.returns-in-Some
returns-in-Some c =
    type_known (map type_entry c.args.self.now.types.items) (map part_entry c.args.self.now.parts.items) c.args.name.now (type_tree c.args.t.now) (type_tree c.in-Some.known.now) c.is.result c.in-Some.ensures c.is.ensures

pub returns : goal.returns
returns c =
    let ts = map type_entry c.args.self.now.types.items in
    let es = map part_entry c.args.self.now.parts.items in
    let n = c.args.name.now in
    let t = type_tree c.args.t.now in
    let pushed = ap (map type_entry) c.in_ok-push.ensures.items
    ∙ map_push type_entry c.args.self.now.types.items (c.in_ok-name.name, c.in_ok-t.t)
    ∙ (λ i. ts ++ (c.in_ok-name.ensures i, c.in_ok-t.ensures i) ∷ []) in
    subst (λ l. Finds true (binds ts es) (binds l es) (λ s. s.types n ≡ t)) (sym pushed) (type_new ts es n t c.in_default.ensures)
