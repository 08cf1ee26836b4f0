use Rattle.std.proofs.Common.{◌≡◌, [], ◌∷◌, ◌++◌, Some, None, inr, length, position, sym, ap, ◌∙◌, arith}
use Rattle.std.specs.Str.{bytes_eq}
use Rattle.oql_check.proofs.ScopeTables.{name_added, next_place}
use Rattle.oql_check.proofs.scope.number_of.Goals as goal

pub returns-clause-number : goal.returns-clause-number
returns-clause-number c =
    let n = c.args.name.now in
    let t = c.as_text.result.now in
    let e = c.as_text.ensures.text in
    let m : length c.args.names.now ≡ c.len-number.result = omega (arith, c.len-number.ensures, c.requires, c.args.newest.now.ok.0) in
    ap (position (bytes_eq n)) (name_added c.args.names.now c.add.new.self n t c.as_text-2.result.now e c.as_text-2.ensures.text (sym c.in_default.ensures) c.in_ok-add.ensures.added)
    ∙ next_place n c.args.names.now (ap (λ k. position (bytes_eq k) c.args.names.now) (sym e) ∙ sym c.in_default.ensures)
    ∙ ap Some m

pub returns-clause-grown : goal.returns-clause-grown
returns-clause-grown c =
    let n = c.args.name.now in
    inr (
      n,
      name_added c.args.names.now c.add.new.self n c.as_text.result.now c.as_text-2.result.now c.as_text.ensures.text c.as_text-2.ensures.text (sym c.in_default.ensures) c.in_ok-add.ensures.added,
      c.push_reserved.ensures.items ∙ ap (λ l. l ++ None ∷ []) c.reserve.ensures.items,
    )
