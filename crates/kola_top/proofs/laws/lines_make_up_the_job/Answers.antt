use Rattle.kola_top.proofs.RowLaws.{bytes_of, row_of}
use Rattle.kola_top.proofs.laws.lines_make_up_the_job.Goals as goal

pub returns : goal.returns
returns c = record { bytes = bytes_of; row = row_of }
