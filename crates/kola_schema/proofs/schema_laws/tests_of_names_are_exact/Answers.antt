use Rattle.kola_schema.proofs.NameTests.{listed_exactly, distinct_exactly}
use Rattle.kola_schema.proofs.schema_laws.tests_of_names_are_exact.Goals as goal

pub returns : goal.returns
returns c = record { listed = listed_exactly; distinct = distinct_exactly }
