use Rattle.std.proofs.Common.{◌≡◌, Ok, refl, subst}
use Rattle.oql_tree.specs.QueryViews.{query_tree}
use Rattle.oql_check.specs.QueryTypes.{query_type}
use Rattle.oql_check.specs.Checking.{IsFault}
use Rattle.oql_check.proofs.TypedBy.{typed_by}
use Rattle.oql_check.proofs.CheckLoops.{fault_of}
use Rattle.oql_check.proofs.check.check_query.Goals as goal

pub returns-in-Ok : goal.returns-in-Ok
returns-in-Ok c = (refl, typed_by c.args.schema.now _ (query_tree c.args.query) c.in-Ok.ty (subst (λ ns. query_type c.args.schema.now ns (query_tree c.args.query) ≡ Ok c.in-Ok.ty) c.new-scope.ensures c.in-Ok.ensures.value))

pub returns : goal.returns
returns c = (refl, fault_of c.args.schema.now (query_tree c.args.query) c.in-Err.fault (subst (λ ns. IsFault c.in-Err.fault (query_type c.args.schema.now ns (query_tree c.args.query))) c.new-scope.ensures c.in-Err.ensures.value))
