use Rattle.std.proofs.Common.{length, ap, sym, subst, ◌∙◌}
use Rattle.kola_base.specs.Spelled.{Spells}
use Rattle.kola_base.proofs.SpelledLaws.{is_found}
use Rattle.oql_syntax.specs.Limits.{QueryWithin, query_within}
use Rattle.oql_syntax.specs.QueryFaults.{IsRefusal, refusal_of}
use Rattle.oql_syntax.proofs.QueryFaultLaws.{refusal_is}
use Rattle.oql_syntax.proofs.WholeQueries.{within_good, all_read, all_stopped}
use Rattle.oql_syntax.proofs.WholeQueryLaws.{always}
use Rattle.oql_syntax.proofs.read.read_within.Goals as goal

pub returns-in-Ok-clause-found : goal.returns-in-Ok-clause-found
returns-in-Ok-clause-found c =
    let l = c.again.result in
    let e = c.in-Ok.e in
    subst (Spells (QueryWithin c.args.limit) c.args.text.now) (sym c.into_inner.ensures)
    (is_found query_within QueryWithin always within_good c.args.limit c.args.text.now c.in_ok-tokens.tokens.items l e c.in_ok-tokens.ensures.found (c.again.ensures ∙ rw c.deref.ensures.value at c.from_token-lexemes.ensures) (all_read (query_within c.args.limit) l e c.in-Ok.ensures))

pub returns-clause-fault : goal.returns-clause-fault
returns-clause-fault c =
    let l = c.again.result in
    subst (IsRefusal QueryWithin c.args.limit c.args.text.now) (ap (λ z. refusal_of (length c.args.text.now) z c.in-Err.stop) c.again.ensures ∙ sym c.in_ok-fault_at-in-Err.ensures)
    (refusal_is query_within QueryWithin always within_good c.args.limit c.args.text.now c.in_ok-tokens.tokens.items l c.in_ok-tokens.ensures.found (c.again.ensures ∙ rw c.deref.ensures.value at c.from_token-lexemes.ensures) c.in-Err.stop (all_stopped (query_within c.args.limit) l c.in-Err.stop c.in-Err.ensures))
