use Rattle.std.proofs.Common.{sym, ap, ◌∙◌}
use Rattle.std.specs.Prelude.{is_some}
use Rattle.kola_base.proofs.SignLaws.{sign_piece, sign_spells}
use Rattle.kola_base.proofs.sign.sign_of.Goals as goal

pub unwrap-requires : goal.unwrap-requires
unwrap-requires c = ap is_some c.sign_named.ensures ∙ sign_piece c.args.bytes.now c.requires

pub returns : goal.returns
returns c = sign_spells c.args.bytes.now c.unwrap.result (sym c.sign_named.ensures ∙ c.unwrap.ensures)
