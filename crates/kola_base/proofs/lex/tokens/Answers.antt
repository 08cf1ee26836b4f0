use Rattle.std.proofs.Common.{inr, ◌+◌}
use Rattle.kola_base.specs.declared.lex.LexFault.TheVariants.{At}
use Rattle.kola_base.specs.Tokens.{AreTokens, StopsAt}
use Rattle.kola_base.proofs.Cutting.{cut_more, cut_all, cut_stops}
use Rattle.kola_base.proofs.OneCut.{one_list, one_fault, not_both}
use Rattle.kola_base.proofs.Spans.{all_in, in_order}
use Rattle.kola_base.proofs.lex.tokens.Goals as goal
use Rattle.kola_base.proofs.lex.tokens.Goals.{In_ok-push_token-2, After-drop-out}

pub loop-at-preserved : goal.loop-at-preserved
loop-at-preserved c = cut_more c.args.text.now c.loop-at.out.items c.push_token.new.out.items c.loop-at.at c.in-Ok.piece.0 c.in-Ok.piece.1 c.loop-at.invariant (rw c.split_at.ensures.back at c.in-Ok.ensures.ok) (rw c.split_at.ensures.back at c.in-Ok.ensures.sound) (rw c.kind_of.ensures at c.in_ok-push_token.ensures)

-- ---- at the end these are the tokens

are_tokens : (c : In_ok-push_token-2) → AreTokens c.push_token-2.new.out.items c.args.text.now
are_tokens c = cut_all c.args.text.now c.loop-at.out.items c.loop-at.at c.push_token-2.new.out.items c.loop-at.invariant c.loop-at-test.false c.in_ok-push_token-2.ensures

pub returns-clause-only_tokens : goal.returns-clause-only_tokens
returns-clause-only_tokens c = λ ts a. one_list c.push_token-2.new.out.items ts c.args.text.now (are_tokens c) a

pub returns-clause-only_fault : goal.returns-clause-only_fault
returns-clause-only_fault c = λ at why f. not_both c.push_token-2.new.out.items c.args.text.now at why (are_tokens c) f

pub returns-clause-spans : goal.returns-clause-spans
returns-clause-spans c = all_in c.push_token-2.new.out.items c.args.text.now (are_tokens c)

pub returns-clause-order : goal.returns-clause-order
returns-clause-order c = in_order c.push_token-2.new.out.items c.args.text.now (are_tokens c)

-- ---- where nothing goes on, this is the fault

stops : (c : After-drop-out) → StopsAt c.args.text.now (c.loop-at.at + c.in-Err.behind) c.in-Err.why
stops c = cut_stops c.args.text.now c.loop-at.out.items c.loop-at.at c.in-Err.behind c.in-Err.why c.loop-at.invariant (rw c.split_at.ensures.back at c.in-Err.ensures.err)

pub returns-in-Err-clause-only_tokens : goal.returns-in-Err-clause-only_tokens
returns-in-Err-clause-only_tokens c = λ ts a. absurd (not_both ts c.args.text.now (c.loop-at.at + c.in-Err.behind) c.in-Err.why a (stops c))

pub returns-in-Err-clause-only_fault : goal.returns-in-Err-clause-only_fault
returns-in-Err-clause-only_fault c = λ at why f. let same = one_fault c.args.text.now (c.loop-at.at + c.in-Err.behind) at c.in-Err.why why (stops c) f in inr (λ i. At (same.0 i) (same.1 i))
