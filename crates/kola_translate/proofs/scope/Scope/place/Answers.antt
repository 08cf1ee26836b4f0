use Rattle.std.proofs.lemmas.List.{length-reverse}
use Rattle.std.proofs.Common.{◌≡◌, Some, cond, suc, option_map, drop, ◌+◌, ◌-◌, reverse, length, get_or, sym, ap, ◌∙◌, arith}
use Rattle.kola_translate.specs.Translation.{distance}
use Rattle.kola_translate.proofs.ScopeLoops.{farther, from_newest, no_farther, found_here, not_here, not_found}
use Rattle.kola_translate.proofs.scope.Scope.place.Goals as goal

pub returns-then-is : goal.returns-then-is
returns-then-is c =
    let xs = c.self.inside.entries.items in
    let x = c.index.result.now in
    let i = c.loop-i.i in
    let m : c.len-len.result ≡ length xs = omega (arith, c.len-len.ensures, c.self.inside.entries.ok.0) in
    let rest = distance c.args.name.now (drop (i + 1) (reverse xs)) in
    sym (c.loop-i.invariant
    ∙ ap (λ l. farther i (distance c.args.name.now (drop i l))) (sym c.self.view_is)
    ∙ ap (λ l. farther i (distance c.args.name.now l)) (from_newest xs i x (omega (arith, m, c.loop-i-test.true)) (c.index.ensures ∙ ap (λ n. get_or xs (n - 1 - i) x) m))
    ∙ ap (λ b. farther i (cond b (Some 0) (option_map suc rest))) (sym c.is.ensures ∙ c.if-is.true)
    ∙ found_here i)

pub loop-i-preserved : goal.loop-i-preserved
loop-i-preserved c =
    let xs = c.self.inside.entries.items in
    let x = c.index.result.now in
    let i = c.loop-i.i in
    let m : c.len-len.result ≡ length xs = omega (arith, c.len-len.ensures, c.self.inside.entries.ok.0) in
    c.loop-i.invariant
    ∙ ap (λ l. farther i (distance c.args.name.now (drop i l))) (sym c.self.view_is)
    ∙ ap (λ l. farther i (distance c.args.name.now l)) (from_newest xs i x (omega (arith, m, c.loop-i-test.true)) (c.index.ensures ∙ ap (λ n. get_or xs (n - 1 - i) x) m))
    ∙ not_here i c.args.name.now x (drop (i + 1) (reverse xs)) _ (sym c.is.ensures ∙ c.if-is.false)
    ∙ ap (λ l. farther (i + 1) (distance c.args.name.now (drop (i + 1) l))) c.self.view_is

pub loop-i-init : goal.loop-i-init
loop-i-init c = no_farther (distance c.args.name.now c.args.self.now)

pub returns : goal.returns
returns c =
    let xs = c.self.inside.entries.items in
    let m : length c.args.self.now ≡ length xs = ap length (sym c.self.view_is) ∙ length-reverse xs in
    not_found c.args.name.now c.args.self.now c.loop-i.i (omega (arith, m, c.len-len.ensures, c.loop-i-test.false)) c.loop-i.invariant
