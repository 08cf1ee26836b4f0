use Rattle.std.proofs.Common.{◌∙◌}
use Rattle.kola_load.proofs.JsonViews.{view_of_ref}
use Rattle.kola_load.proofs.Taken.{member_seen}
use Rattle.kola_load.proofs.members.member_of.Goals as goal

pub returns : goal.returns
returns c = view_of_ref c.get.result ∙ member_seen c.args.name.now c.args.members.now _ c.get.ensures.value
