use Rattle.std.proofs.Common.{◌≡◌, Some, cond, drop, ◌+◌, ◌-◌, reverse, length, get_or, sym, ap, ◌∙◌, arith}
use Rattle.kola_values.specs.Databases.{look_up}
use Rattle.kola_translate.proofs.ScopeLoops.{from_newest}
use Rattle.kola_translate.proofs.scope.Scope.find.Goals as goal

pub returns-then-is : goal.returns-then-is
returns-then-is c =
    let xs = c.self.inside.entries.items in
    let x = c.index.result.now in
    let i = c.loop-i.i in
    let m : c.len-len.result ≡ length xs = omega (arith, c.len-len.ensures, c.self.inside.entries.ok.0) in
    let rest = look_up c.args.name.now (drop (i + 1) (reverse xs)) in
    sym (c.loop-i.invariant
    ∙ ap (λ l. look_up c.args.name.now (drop i l)) (sym c.self.view_is)
    ∙ ap (look_up c.args.name.now) (from_newest xs i x (omega (arith, m, c.loop-i-test.true)) (c.index.ensures ∙ ap (λ n. get_or xs (n - 1 - i) x) m))
    ∙ ap (λ b. cond b (Some x.1) rest) (sym c.is.ensures ∙ c.if-is.true))

pub loop-i-preserved : goal.loop-i-preserved
loop-i-preserved c =
    let xs = c.self.inside.entries.items in
    let x = c.index.result.now in
    let i = c.loop-i.i in
    let m : c.len-len.result ≡ length xs = omega (arith, c.len-len.ensures, c.self.inside.entries.ok.0) in
    let rest = look_up c.args.name.now (drop (i + 1) (reverse xs)) in
    c.loop-i.invariant
    ∙ ap (λ l. look_up c.args.name.now (drop i l)) (sym c.self.view_is)
    ∙ ap (look_up c.args.name.now) (from_newest xs i x (omega (arith, m, c.loop-i-test.true)) (c.index.ensures ∙ ap (λ n. get_or xs (n - 1 - i) x) m))
    ∙ ap (λ b. cond b (Some x.1) rest) (sym c.is.ensures ∙ c.if-is.false)
    ∙ ap (λ l. look_up c.args.name.now (drop (i + 1) l)) c.self.view_is
