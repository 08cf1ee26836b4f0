use Rattle.kola_translate.proofs.laws.the_translation_reads_the_types_of_queries.Goals as goal
use Rattle.kola_translate.proofs.TypesRead.{type_is}

pub returns : goal.returns
returns c = λ S ns e t h. type_is S h
