use Rattle.std.proofs.Common.{sym, ap, ◌∙◌, option_map}
use Rattle.std.specs.Char.{encode_utf8}
use Rattle.std.proofs.lemmas.List.{take_rest}
use Rattle.kola_base.specs.Strings.{front}
use Rattle.kola_base.proofs.Escapes.{place_step}
use Rattle.kola_base.proofs.strings.bad_escape.Goals as goal

pub loop-at-preserved : goal.loop-at-preserved
loop-at-preserved c = place_step c.args.content.now c.loop-at.at c.in-Some.len (option_map encode_utf8 c.in-Some.field-0-1) (ap front (sym (take_rest c.args.content.now c.loop-at.at)) ∙ sym c.in-Some.ensures.is) c.loop-at.invariant
