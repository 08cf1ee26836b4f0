use Rattle.std.proofs.Common.{rules}
use Rattle.std.specs.Ordering.{is_lt}
use Rattle.std.proofs.lemmas.Fn.{always_returns_same}
use Rattle.kola_values.specs.Values.{VObj}
use Rattle.kola_values.specs.Order.{cmp}
use Rattle.kola_database.specs.declared.object.ObjectDef.{ObjectDef}
use Rattle.kola_database.proofs.Sorting.{objects_told}
use Rattle.kola_database.proofs.objects.objects_rise.Goals as goal

pub returns : goal.returns
returns c =
    let below = λ (o p : ObjectDef). is_lt (cmp (VObj o.class o.id) (VObj p.class p.id)) in
    let told = c.is_sorted_by.ensures.cases below (always_returns_same _ _ _ (λ a r f' k. search rules)) in
    objects_told c.args.objects.now c.is_sorted_by.result c.requires told
