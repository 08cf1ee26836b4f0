use Rattle.std.proofs.Common.{◌∙◌, sym, ap, arith}
use Rattle.std.specs.Ordering.{is_eq}
use Rattle.kola_database.proofs.Numbered.{object_placed}
use Rattle.kola_database.proofs.db.object_there.Goals as goal

pub returns-then-is_eq : goal.returns-then-is_eq
returns-then-is_eq c =
    object_placed c.args.objects.now c.args.place c.index-objects-place.result c.args.class.now c.args.id c.requires (omega arith) c.index-objects-place.is
    (ap is_eq (sym c.cmp_object.ensures) ∙ sym c.is_eq.ensures ∙ c.if-is_eq.true)
