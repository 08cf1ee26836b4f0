use Rattle.std.proofs.Common.{◌≡◌, ◌-◌, min, ◌++◌, length, take, drop, sym, ap, ◌∙◌, arith}
use Rattle.std.proofs.lemmas.List.{drop-drop, take_rest}
use Rattle.kola_base.proofs.Shares.{copied_front}
use Rattle.kola_base.proofs.mem_source.SteadySourceSource.read.Goals as goal

pub returns-clause-ok : goal.returns-clause-ok
returns-clause-ok c =
    let at = c.self.inside.at in
    let bytes = c.self.inside.bytes.items in
    let passed = c.deref.result.now in
    let n = c.copy_front-count.result in
    let piece : c.self.inside.piece ≡ c.args.self.now.piece = ap (λ s. s.piece) c.self.view_is in
    let left : drop at bytes ≡ c.args.self.now.left = ap (λ s. s.left) c.self.view_is in
    let given : take (length passed - at) (drop at passed) ≡ c.args.self.now.left =
    take_rest passed at ∙ ap (drop at) c.deref.ensures.value ∙ left in
    copied_front c.args.self.now c.args.buf.now _ _ n (omega arith)
    (c.copy_front-count.ensures.count ∙ (λ i. min (min (piece i) (length c.args.buf.now)) (length (given i))))
    (c.copy_front-count.ensures.copied ∙ ap (λ l. take n l ++ drop n c.args.buf.now) given)
    (sym (drop-drop n at bytes) ∙ ap (drop n) left)
