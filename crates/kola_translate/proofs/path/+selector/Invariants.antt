use Rattle.std.proofs.Common.{length}
use Rattle.kola_translate.proofs.path.+selector.Given as goal

abbrev pub decreases-selector : goal.decreases-selector
decreases-selector l = length l.rest.now
