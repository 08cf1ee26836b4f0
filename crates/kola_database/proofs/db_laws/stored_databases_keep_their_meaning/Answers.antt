use Rattle.kola_database.proofs.Numbered.{extent_under, attribute_under}
use Rattle.kola_database.proofs.Reordered.{meets_reordered}
use Rattle.kola_database.proofs.Stored.{attribute_meant, extent_meant}
use Rattle.kola_database.proofs.db_laws.stored_databases_keep_their_meaning.Goals as goal

pub returns-clause-attributes : goal.returns-clause-attributes
returns-clause-attributes c = attribute_meant

pub returns-clause-extents : goal.returns-clause-extents
returns-clause-extents c = extent_meant

pub returns-clause-order : goal.returns-clause-order
returns-clause-order c = meets_reordered

pub returns-clause-extents_by_numbers : goal.returns-clause-extents_by_numbers
returns-clause-extents_by_numbers c = extent_under

pub returns-clause-attributes_by_numbers : goal.returns-clause-attributes_by_numbers
returns-clause-attributes_by_numbers c = attribute_under
