use Rattle.std.proofs.Common.{reverse, ap, subst, sym, ◌∙◌, ◌∷◌, arith}
use Rattle.oql_check.specs.ScopeTables.{IsKept}
use Rattle.oql_check.proofs.ScopeTables.{kept_grown, bound_kept, bound_named}
use Rattle.oql_check.proofs.scope.Scope.bind.Goals as goal

pub invariant_of-self : goal.invariant_of-self
invariant_of-self c =
    let a = c.self.inside in
    kept_grown a.names c.number_of.new.names a.newest.items c.number_of.new.newest.items (reverse a.variables.items) c.self.invariant c.number_of.ensures.grown

pub invariant_of-self-in_err-push : goal.invariant_of-self-in_err-push
invariant_of-self-in_err-push c =
    let a = c.self.inside in
    let ms = c.number_of.new.names in
    let ks = c.number_of.new.newest.items in
    subst (λ xs. IsKept ms ks (reverse xs)) (sym c.in_err-push.ensures.items)
    (kept_grown a.names ms a.newest.items ks (reverse a.variables.items) c.self.invariant c.number_of.ensures.grown)

pub invariant_of-self-2 : goal.invariant_of-self-2
invariant_of-self-2 c =
    let a = c.self.inside in
    bound_kept a.names c.number_of.new.names a.newest.items c.number_of.new.newest.items a.variables.items c.push.new.self.items c.self.invariant c.number_of.ensures.grown c.args.name.now
    record { name = c.in_ok-name.name; ty = c.args.t; hidden = c.index-hidden.result.now }
    c.in_ok-name.ensures.number c.index-hidden.ensures c.in_ok-push.ensures.items c.len-place.result (omega (arith, c.len-place.ensures, a.variables.ok.0))

pub returns : goal.returns
returns c =
    let a = c.self.inside in
    bound_named a.names c.number_of.new.names a.newest.items c.number_of.new.newest.items a.variables.items c.push.new.self.items c.self.invariant c.number_of.ensures.grown c.args.name.now
    record { name = c.in_ok-name.name; ty = c.args.t; hidden = c.index-hidden.result.now }
    c.in_ok-name.ensures.number c.index-hidden.ensures c.in_ok-push.ensures.items
    ∙ ap (λ s. (c.args.name.now, c.args.t) ∷ s) c.self.view_is
