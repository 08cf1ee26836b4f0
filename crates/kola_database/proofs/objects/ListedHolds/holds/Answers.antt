use Rattle.std.proofs.Common.{◌∙◌}
use Rattle.kola_database.proofs.MeetingLoops.{there_seen}
use Rattle.kola_database.proofs.objects.ListedHolds.holds.Goals as goal

pub returns : goal.returns
returns c = c.has_object.ensures ∙ there_seen c.args.self.now.objects.now c.args.class.now c.args.id
