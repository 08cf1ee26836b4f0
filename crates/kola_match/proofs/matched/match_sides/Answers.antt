use Rattle.std.proofs.Common.{◌≡◌, true, Some, None, sym, subst}
use Rattle.kola_term.specs.Parts.{sub_tree}
use Rattle.kola_match.specs.Substitutions.{inst}
use Rattle.kola_match.specs.Pairs.{AllGive}
use Rattle.kola_match.specs.Finding.{Finds}
use Rattle.kola_match.specs.FoundViews.{binds_of}
use Rattle.kola_match.specs.Spotting.{sides_of}
use Rattle.kola_match.proofs.BindLaws.{finds_same, finds_then, if_ok}
use Rattle.kola_match.proofs.matched.match_sides.Goals as goal

pub returns-in-Some : goal.returns-in-Some
returns-in-Some c =
    let a = binds_of c.args.found.now in
    let b = binds_of c.match_part.new.found in
    let d = binds_of c.match_part-in-Some.new.found in
    let first = subst (λ z. Finds z a b (λ s. inst s (sub_tree c.args.first.pattern) ≡ sub_tree c.args.first.part)) c.if-not-branch.false c.in_ok-match_part.ensures in
    if_ok _ _ c.match_part-in-Some.result c.match_part-in-Some.ensures
    (λ r f. subst (λ z. Finds r a d (λ s. AllGive s (sides_of c.args.first z))) (sym c.in-Some.is)
    (finds_same r a d _ (λ s. AllGive s (sides_of c.args.first (Some c.in-Some.side))) (λ s. (λ e. (e.0, (e.1, tt)), λ e. (e.0, e.1.0)))
    (finds_then r a b d (λ s. inst s (sub_tree c.args.first.pattern) ≡ sub_tree c.args.first.part) (λ s. inst s (sub_tree c.in-Some.side.pattern) ≡ sub_tree c.in-Some.side.part) first f)))

pub returns-in-None : goal.returns-in-None
returns-in-None c =
    let a = binds_of c.args.found.now in
    let b = binds_of c.match_part.new.found in
    let first = subst (λ z. Finds z a b (λ s. inst s (sub_tree c.args.first.pattern) ≡ sub_tree c.args.first.part)) c.if-not-branch.false c.in_ok-match_part.ensures in
    subst (λ z. Finds true a b (λ s. AllGive s (sides_of c.args.first z))) (sym c.in-None.is)
    (finds_same true a b (λ s. inst s (sub_tree c.args.first.pattern) ≡ sub_tree c.args.first.part) (λ s. AllGive s (sides_of c.args.first None)) (λ s. (λ e. (e, tt), λ e. e.0)) first)
