use Rattle.std.proofs.Common.{◌≡◌, ◌<◌, ◌≤◌, length, get_or, subst, arith}
use Rattle.kola_values.specs.Views.{type_tree}
use Rattle.kola_term.specs.ContextView.{context_of, meta_entry}
use Rattle.kola_match.specs.FoundViews.{binds_of}
use Rattle.kola_match.specs.Spotting.{sides_of, FindsOne}
use Rattle.kola_match.proofs.SpottingLaws.{occurs_at, first_more, first_fails, first_all}
use Rattle.kola_match.proofs.declared.match_all_declared.Goals as goal

pub match_declared-requires-clause-occurs : goal.match_declared-requires-clause-occurs
match_declared-requires-clause-occurs c =
    let p = subst (λ z. c.loop-name.name-index < length z) c.as_slice-name-items.ensures c.loop-name-test.true in
    let e = subst (λ z. c.loop-name-item.result ≡ get_or z c.loop-name.name-index c.loop-name-item.result) c.as_slice-name-items.ensures c.loop-name-item.is in
    occurs_at c.args.schema.now (context_of c.args.ctx.now) (type_tree c.args.ty.now) (sides_of c.args.first c.args.second) c.args.vars.now c.loop-name.name-index c.loop-name-item.result c.requires.occur p e

pub returns-then-not-branch : goal.returns-then-not-branch
returns-then-not-branch c =
    let S = c.args.schema.now in
    let x = context_of c.args.ctx.now in
    let T = type_tree c.args.ty.now in
    let sides = sides_of c.args.first c.args.second in
    let p = subst (λ z. c.loop-name.name-index < length z) c.as_slice-name-items.ensures c.loop-name-test.true in
    let e = subst (λ z. c.loop-name-item.result ≡ get_or z c.loop-name.name-index c.loop-name-item.result) c.as_slice-name-items.ensures c.loop-name-item.is in
    let f = subst (λ z. FindsOne S x T sides (meta_entry c.loop-name-item.result) z (binds_of c.loop-name.found) (binds_of c.match_declared.new.found)) c.if-not-branch.true c.in_ok-match_declared.ensures in
    first_fails S x T sides c.args.vars.now c.loop-name.name-index c.loop-name-item.result (binds_of c.args.found.now) (binds_of c.loop-name.found) (binds_of c.match_declared.new.found) p e c.loop-name.invariant f

pub loop-name-preserved : goal.loop-name-preserved
loop-name-preserved c =
    let S = c.args.schema.now in
    let x = context_of c.args.ctx.now in
    let T = type_tree c.args.ty.now in
    let sides = sides_of c.args.first c.args.second in
    let p = subst (λ z. c.loop-name.name-index < length z) c.as_slice-name-items.ensures c.loop-name-test.true in
    let e = subst (λ z. c.loop-name-item.result ≡ get_or z c.loop-name.name-index c.loop-name-item.result) c.as_slice-name-items.ensures c.loop-name-item.is in
    let f = subst (λ z. FindsOne S x T sides (meta_entry c.loop-name-item.result) z (binds_of c.loop-name.found) (binds_of c.match_declared.new.found)) c.if-not-branch.false c.in_ok-match_declared.ensures in
    first_more S x T sides c.args.vars.now c.loop-name.name-index c.loop-name-item.result (binds_of c.args.found.now) (binds_of c.loop-name.found) (binds_of c.match_declared.new.found) p e c.loop-name.invariant f

pub returns : goal.returns
returns c =
    let p = subst (λ z. length z ≤ c.loop-name.name-index) c.as_slice-name-items.ensures (omega (arith, c.loop-name-test.false)) in
    first_all c.args.schema.now (context_of c.args.ctx.now) (type_tree c.args.ty.now) (sides_of c.args.first c.args.second) c.args.vars.now c.loop-name.name-index (binds_of c.args.found.now) (binds_of c.loop-name.found) p c.loop-name.invariant
