use Rattle.std.proofs.Common.{refl, sym, ap, subst, ◌∙◌, ◌++◌, inl, inr}
use Rattle.kola_term.specs.ContextView.{meta_tree}
use Rattle.kola_term.specs.Parts.{sub_tree}
use Rattle.kola_term.specs.Places.{sub_at}
use Rattle.kola_match.specs.Occurring.{variable}
use Rattle.kola_match.specs.Leading.{Leads}
use Rattle.kola_match.specs.Spotting.{IsOn, second_of}
use Rattle.kola_match.proofs.BindLaws.{if_ok}
use Rattle.kola_match.proofs.declared.match_declared.Goals as goal

pub returns-then-branch : goal.returns-then-branch
returns-then-branch c =
    let v = variable c.args.name.now (meta_tree c.args.meta.now) in
    let p = sub_tree c.args.first.pattern in
    let l = subst (λ z. Leads z p v c.new-path.result.items c.find.new.path.items) c.if-branch.true c.in_ok-find.ensures in
    let way = c.as_slice.ensures.value ∙ (l.1 ∙ ap (λ z. z ++ l.0) c.new-path.ensures.items) in
    if_ok _ _ c.match_variable.result c.match_variable.ensures (λ b f. ((p, sub_tree c.args.first.part, c.as_slice.result.now), (inl (refl, refl), ap (sub_at p) way ∙ l.2), f))

pub returns-then-branch-2 : goal.returns-then-branch-2
returns-then-branch-2 c =
    let v = variable c.args.name.now (meta_tree c.args.meta.now) in
    let p = sub_tree c.in-Some.second.pattern in
    let t = sub_tree c.in-Some.second.part in
    let l = subst (λ z. Leads z p v c.find.new.path.items c.find-2.new.path.items) c.if-branch-2.true c.in_ok-find-2.ensures in
    let k = subst (λ z. Leads z (sub_tree c.args.first.pattern) v c.new-path.result.items c.find.new.path.items) c.if-branch.false c.in_ok-find.ensures in
    let way = c.as_slice-then-branch-2.ensures.value ∙ (l.1 ∙ ap (λ z. z ++ l.0) (k.0 ∙ c.new-path.ensures.items)) in
    let on = subst (λ z. IsOn (second_of z) p t) (sym c.in-Some.is) (inl (refl, refl)) in
    if_ok _ _ c.match_variable-then-branch-2.result c.match_variable-then-branch-2.ensures (λ b f. ((p, t, c.as_slice-then-branch-2.result.now), (inr on, ap (sub_at p) way ∙ l.2), f))
