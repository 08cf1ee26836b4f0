use Rattle.kola_term.specs.Parts.{sub_tree}
use Rattle.kola_term.specs.Counts.{nodes}
use Rattle.coko_run.proofs.shape.+has_form.Given as goal

abbrev pub decreases-has_form : goal.decreases-has_form
decreases-has_form l = nodes (sub_tree l.pattern)
