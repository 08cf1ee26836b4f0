use Rattle.std.proofs.Common.{length}
use Rattle.kola_translate.proofs.path.+field_type.Given as goal

abbrev pub decreases-field_type : goal.decreases-field_type
decreases-field_type l = length l.fields.now
