use Rattle.std.proofs.Common.{Option, Some, map, option_map, sym, subst}
use Rattle.kola_values.specs.Types.{TypeTree}
use Rattle.kola_values.specs.Views.{type_tree, type_entry}
use Rattle.kola_term.specs.ContextView.{context_of}
use Rattle.kola_term.specs.Terms.{TermTree}
use Rattle.kola_match.specs.Binds.{Found, binds, substitution_of}
use Rattle.kola_match.specs.FoundViews.{binds_of}
use Rattle.kola_match.specs.Instances.{Decided, HasVariables}
use Rattle.kola_match.specs.NodeViews.{part_entry}
use Rattle.kola_match.specs.Spotting.{sides_of}
use Rattle.kola_match.specs.SubstViews.{terms_of}
use Rattle.kola_match.proofs.GivingLaws.{given_decided, given_variables}
use Rattle.kola_match.proofs.matched.instance_of.Goals as goal

pub returns : goal.returns
returns c =
    let S = c.args.schema.now in
    let x = context_of c.args.ctx.now in
    let vars = context_of c.args.vars.now in
    let input = type_tree c.args.input.now in
    let T = type_tree c.args.ty.now in
    let sides = sides_of c.args.first c.args.second in
    let f = c.in-Some.found in
    let ts = map type_entry f.types.items in
    let es = map part_entry f.parts.items in
    let d = subst (λ z. Decided S x vars input T sides (option_map binds_of z)) c.in-Some.is c.in_ok-found.ensures in
    let e = sym c.in_ok-subst.ensures.types in
    let b = sym c.in_ok-subst.ensures.bound in
    record {
      found = subst (λ z. Decided S x vars input T sides (Some z)) (λ i. binds (e i) (terms_of (b i))) (given_decided S x vars input T sides c.requires.patterns c.requires.occur c.requires.declared ts es d);
      variables = subst (λ (z : Found TypeTree × Found (TermTree × Option TypeTree)). HasVariables vars (substitution_of (binds z.0 (terms_of z.1))) z.1) (λ i. (e i, b i)) (given_variables S x vars input T sides c.requires.patterns c.requires.occur c.requires.declared ts es);
    }
