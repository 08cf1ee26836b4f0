use Rattle.std.proofs.Common.{◌∙◌, ap, rules}
use Rattle.std.proofs.lemmas.Fn.{always_returns_same}
use Rattle.kola_values.specs.Values.{VObj}
use Rattle.kola_values.specs.Order.{cmp}
use Rattle.kola_values.specs.Sets.{has}
use Rattle.kola_database.specs.declared.object.ObjectDef.{ObjectDef}
use Rattle.kola_values.proofs.Making.{found_sorted}
use Rattle.kola_database.proofs.MeetingLoops.{values_seen}
use Rattle.kola_database.proofs.objects.SortedHolds.holds.Goals as goal

pub returns : goal.returns
returns c =
    let v = VObj c.args.class.now c.args.id in
    let d = c.args.self.now.objects.now in
    let at = c.binary_search_by.ensures.position (λ (o : ObjectDef). cmp (VObj o.class o.id) v) (always_returns_same _ _ _ (λ a r f' k. search rules)) in
    c.is_ok.ensures.value
    ∙ found_sorted (λ (o : ObjectDef). VObj o.class o.id) v d c.binary_search_by.result c.args.self.now.sorted c.binary_search_by.ensures.bound at
    ∙ ap (has v) (values_seen d)
