use Rattle.kola_match.proofs.AgreeingLaws.{same_inst, declared_where}
use Rattle.kola_match.proofs.facts.variables_decide_instances.Goals as goal

pub returns : goal.returns
returns c = record {
  agree = λ s o p h. same_inst s o p h;
  declared = λ S x p t h n m e. declared_where S x e.0 p t n m h e.1;
}
