use Rattle.std.proofs.Common.{length}
use Rattle.kola_translate.proofs.path.+path.Given as goal

abbrev pub decreases-path : goal.decreases-path
decreases-path l = length l.labels.now
