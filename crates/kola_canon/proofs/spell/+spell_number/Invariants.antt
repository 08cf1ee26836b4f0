use Rattle.kola_canon.proofs.spell.+spell_number.Given as goal

abbrev pub decreases-spell_number : goal.decreases-spell_number
decreases-spell_number l = l.n
