use Rattle.std.proofs.Common.{◌≡◌, [], map, subst}
use Rattle.kola_values.specs.Views.{type_tree, type_entry}
use Rattle.kola_term.specs.ContextView.{context_of}
use Rattle.kola_match.specs.Substitutions.{sub_type}
use Rattle.kola_match.specs.NodeViews.{part_entry}
use Rattle.kola_match.specs.Pairs.{AllGive}
use Rattle.kola_match.specs.Binds.{binds}
use Rattle.kola_match.specs.Finding.{Finds}
use Rattle.kola_match.specs.FoundViews.{binds_of}
use Rattle.kola_match.specs.Spotting.{sides_of, FindsAll}
use Rattle.kola_match.proofs.Closed.{schema_closed}
use Rattle.kola_match.proofs.MatchedLaws.{no_variables, all_found}
use Rattle.kola_match.proofs.matched.matched.Goals as goal

pub returns-then-not-branch-3 : goal.returns-then-not-branch-3
returns-then-not-branch-3 c =
    let S = c.args.schema.now in
    let x = context_of c.args.ctx.now in
    let vars = context_of c.args.vars.now in
    let input = type_tree c.args.input.now in
    let T = type_tree c.args.ty.now in
    let sides = sides_of c.args.first c.args.second in
    let b = binds_of c.nothing-found.result in
    let d = binds_of c.match_sides.new.found in
    let e = binds_of c.match_type.new.found in
    let n = binds_of c.match_all_declared.new.found in
    let none : b ≡ binds [] [] = (λ i. binds (map type_entry (c.nothing-found.ensures.0 i)) (map part_entry (c.nothing-found.ensures.1 i))) in
    let f = subst (λ z. Finds z b d (λ s. AllGive s sides)) c.if-not-branch.false c.in_ok-match_sides.ensures in
    let g = subst (λ z. Finds z d e (λ s. sub_type s.types input ≡ T)) c.if-not-branch-2.false c.in_ok-match_type.ensures in
    let h = subst (λ z. FindsAll S x T sides vars z e n) c.if-not-branch-3.true c.in_ok-match_all_declared.ensures in
    no_variables S (schema_closed S c.well_formed-2.ensures) x vars input T sides c.requires.typed c.requires.patterns c.requires.declared b d e n none f g h

pub returns : goal.returns
returns c =
    let S = c.args.schema.now in
    let x = context_of c.args.ctx.now in
    let vars = context_of c.args.vars.now in
    let input = type_tree c.args.input.now in
    let T = type_tree c.args.ty.now in
    let sides = sides_of c.args.first c.args.second in
    let b = binds_of c.nothing-found.result in
    let d = binds_of c.match_sides.new.found in
    let e = binds_of c.match_type.new.found in
    let n = binds_of c.match_all_declared.new.found in
    let none : b ≡ binds [] [] = (λ i. binds (map type_entry (c.nothing-found.ensures.0 i)) (map part_entry (c.nothing-found.ensures.1 i))) in
    let f = subst (λ z. Finds z b d (λ s. AllGive s sides)) c.if-not-branch.false c.in_ok-match_sides.ensures in
    let g = subst (λ z. Finds z d e (λ s. sub_type s.types input ≡ T)) c.if-not-branch-2.false c.in_ok-match_type.ensures in
    let h = subst (λ z. FindsAll S x T sides vars z e n) c.if-not-branch-3.false c.in_ok-match_all_declared.ensures in
    all_found S (schema_closed S c.well_formed-2.ensures) x vars input T sides c.requires.typed c.requires.patterns c.requires.declared b d e n none f g h
