use Rattle.std.proofs.Common.{◌≡◌, ◌-◌, sym, ap, ◌∙◌, subst, take, drop, length, arith}
use Rattle.std.specs.Str.{IsUtf8}
use Rattle.std.proofs.lemmas.Result.{IfOk-weaker}
use Rattle.kola_base.specs.Strings.{written, bytes_written}
use Rattle.kola_base.proofs.Writes.{string_utf8}
use Rattle.kola_base.proofs.strings.string_of.Goals as goal

pub returns-clause-utf8 : goal.returns-clause-utf8
returns-clause-utf8 c =
    let two : length c.args.string.now - 1 - 1 ≡ length c.args.string.now - 2 = omega arith in
    let inner = ap (λ k. bytes_written (written 0 (take k (drop 1 c.args.string.now)))) two in
    IfOk-weaker c.written.result _ _ (λ v e. subst IsUtf8 (sym (e ∙ inner)) (string_utf8 c.args.string.now c.requires.sound)) c.written.ensures
