-- What the program's words with their places are.
use Rattle.kola_base.specs.declared.named.Named as named
use Rattle.kola_base.specs.Named.{Named}

abbrev pub named_view : named.Named → Named
named_view n = record { name = n.name.now; at = n.at }
