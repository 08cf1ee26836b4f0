use Rattle.oql_check.proofs.OneFault.{typed_or_fault, not_both, one_type, one_fault}
use Rattle.oql_check.proofs.laws.a_query_is_typed_or_has_one_first_fault.Goals as goal

pub returns : goal.returns
returns c = record {
  some = typed_or_fault;
  not_both = λ S ns e t at c q h. not_both S ns e t at c q h;
  one_type = λ S ns e t u p q. one_type S ns e t u p q;
  one_fault = λ S ns e at place c why p q. one_fault S ns e at place c why p q;
}
