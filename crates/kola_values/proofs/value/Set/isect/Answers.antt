use Rattle.std.proofs.Common.{◌≡◌, IfOk, subst}
use Rattle.kola_values.proofs.Merging.{merged_isect}
use Rattle.kola_values.proofs.value.Set.isect.Goals as goal

pub returns : goal.returns
returns c = subst (λ l. IfOk c.merged.result (λ s. s ≡ l)) (merged_isect c.args.self.now c.args.other.now c.well_formed-2.ensures.rises) c.merged.ensures
