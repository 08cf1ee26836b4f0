use Rattle.std.proofs.Common.{sym, ap, ◌∙◌}
use Rattle.kola_values.specs.Order.{cmp}
use Rattle.kola_values.specs.Models.Exact.{exact}
use Rattle.kola_values.specs.Models.Total.{cmp_total}
use Rattle.std.proofs.lemmas.Cmp.{tied_itself}
use Rattle.kola_values.proofs.laws.values_are_totally_ordered.Goals as goal

pub returns : goal.returns
returns c = record {
  total = cmp_total;
  exact = λ v w. (exact v w, λ e. ap (cmp v) (sym e) ∙ tied_itself cmp_total v);
}
