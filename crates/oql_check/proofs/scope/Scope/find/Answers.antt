use Rattle.std.proofs.Common.{◌≡◌, Some, None, get_or, reverse, position, sym, ap, ◌∙◌, arith}
use Rattle.std.specs.Option.{option_copied}
use Rattle.std.specs.Str.{bytes_eq}
use Rattle.std.proofs.lemmas.List.{reverse-reverse, length-reverse}
use Rattle.kola_values.specs.Databases.{look_up}
use Rattle.oql_check.specs.ScopeTables.{newest_of}
use Rattle.oql_check.proofs.ScopeTables.{not_found, no_variable, variable_found, place_below, newest_read}
use Rattle.oql_check.proofs.scope.Scope.find.Goals as goal

pub returns-in_err-number : goal.returns-in_err-number
returns-in_err-number c =
    let ns = c.self.inside.names in
    let vs = reverse c.self.inside.variables.items in
    let p : position (bytes_eq c.args.name.now) ns ≡ None = ap (λ n. position (bytes_eq n) ns) (sym c.as_text.ensures.text) ∙ sym c.place.ensures ∙ c.in_err-number.was in
    ap option_copied c.from_residual.ensures
    ∙ sym (ap (look_up c.args.name.now) (sym c.self.view_is) ∙ not_found ns c.args.name.now vs c.self.invariant.2 p)

pub returns-in_err-place : goal.returns-in_err-place
returns-in_err-place c =
    let ns = c.self.inside.names in
    let ls = c.self.inside.newest.items in
    let vs = reverse c.self.inside.variables.items in
    let n = c.args.name.now in
    let i = c.in_ok-number.number in
    let p : position (bytes_eq n) ns ≡ Some i = ap (λ m. position (bytes_eq m) ns) (sym c.as_text.ensures.text) ∙ sym c.in_ok-number.ensures in
    let q : newest_of vs i ≡ None = newest_read ns ls vs c.self.invariant n i c.index.result.now p c.index.ensures ∙ c.in_err-place.was in
    ap option_copied c.from_residual-in_err-place.ensures
    ∙ sym (ap (look_up n) (sym c.self.view_is) ∙ no_variable ns n i p vs c.self.invariant.2 q)

pub index-requires-2 : goal.index-requires-2
index-requires-2 c =
    let ns = c.self.inside.names in
    let ls = c.self.inside.newest.items in
    let xs = c.self.inside.variables.items in
    let n = c.args.name.now in
    let i = c.in_ok-number.number in
    let k = c.in_ok-place.place in
    let p : position (bytes_eq n) ns ≡ Some i = ap (λ m. position (bytes_eq m) ns) (sym c.as_text.ensures.text) ∙ sym c.in_ok-number.ensures in
    let q : newest_of (reverse xs) i ≡ Some k = newest_read ns ls (reverse xs) c.self.invariant n i c.index.result.now p c.index.ensures ∙ c.in_ok-place.was in
    let l = place_below (reverse xs) i k q in
    let m = length-reverse xs in
    omega (arith, l, m, c.self.inside.variables.ok.0)

pub returns : goal.returns
returns c =
    let ns = c.self.inside.names in
    let ls = c.self.inside.newest.items in
    let xs = c.self.inside.variables.items in
    let n = c.args.name.now in
    let i = c.in_ok-number.number in
    let k = c.in_ok-place.place in
    let x = c.index-2.result.now in
    let p : position (bytes_eq n) ns ≡ Some i = ap (λ m. position (bytes_eq m) ns) (sym c.as_text.ensures.text) ∙ sym c.in_ok-number.ensures in
    let q : newest_of (reverse xs) i ≡ Some k = newest_read ns ls (reverse xs) c.self.invariant n i c.index.result.now p c.index.ensures ∙ c.in_ok-place.was in
    sym (ap (look_up n) (sym c.self.view_is)
    ∙ variable_found ns n i p (reverse xs) k x c.self.invariant.2 q (c.index-2.ensures ∙ ap (λ l. get_or l k x) (sym (reverse-reverse xs))))
