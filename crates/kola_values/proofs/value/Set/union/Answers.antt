use Rattle.std.proofs.Common.{◌≡◌, IfOk, subst}
use Rattle.kola_values.proofs.Merging.{merged_union}
use Rattle.kola_values.proofs.value.Set.union.Goals as goal

pub returns : goal.returns
returns c = subst (λ l. IfOk c.merged.result (λ s. s ≡ l)) (merged_union c.args.self.now c.args.other.now) c.merged.ensures
