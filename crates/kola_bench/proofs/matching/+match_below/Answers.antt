use Rattle.std.proofs.Common.{ap, ◌∙◌}
use Rattle.kola_values.specs.Types.{TInt, TPair}
use Rattle.kola_term.specs.ContextView.{context_of}
use Rattle.kola_term.specs.TermView.{fun_tree}
use Rattle.kola_term.specs.Typing.{out}
use Rattle.kola_bench.proofs.SwapLaws.{swap_typed}
use Rattle.kola_bench.proofs.matching.+match_below.Goals as goal

-- src/matching.rt:61:5
pub match_here-requires-clause-typed : goal.match_here-requires-clause-typed
match_here-requires-clause-typed t c =
    let S = c.args.schema.now in
    let x = context_of c.args.ctx.now in
    let f = fun_tree c.args.f.now in
    (TPair TInt TInt, ap (λ w. out S x f w) c.requires.pairs ∙ swap_typed S x f c.requires.swap)
