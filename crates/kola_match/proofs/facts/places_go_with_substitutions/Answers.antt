use Rattle.kola_match.proofs.Closed.{schema_closed}
use Rattle.kola_match.proofs.Commute.{sub_inst, put_inst, place_inst}
use Rattle.kola_match.proofs.facts.places_go_with_substitutions.Goals as goal

pub returns : goal.returns
returns c = record {
  parts = λ s q t l e. sub_inst s q t l e;
  exchanges = λ s q t r b e. put_inst s q t r b e;
  inputs = λ S h x y s i q t u w e. place_inst S (schema_closed S h) x y s i q t u w e;
}
