use Rattle.std.proofs.Common.{refl}
use Rattle.coko_run.proofs.Frames.{note_more, note_none}
use Rattle.coko_run.proofs.moves.note.Goals as goal

pub returns-then-not-log : goal.returns-then-not-log
returns-then-not-log c = note_none c.args.log.now.count c.args.log.now.keep c.args.log.now.list.items c.args.rule c.args.rev c.args.path c.if-not-log.true

pub returns : goal.returns
returns c = note_more c.args.log.now.count c.args.log.now.keep c.args.log.now.list.items _ c.args.rule c.args.rev c.args.path (record { rule = c.args.rule; rev = c.args.rev; path = c.args.path }) c.if-not-log.false c.in_ok-push.ensures.items refl
