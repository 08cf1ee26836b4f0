use Rattle.kola_proof.proofs.Tables.{not_listed}
use Rattle.kola_proof.proofs.table.pushed.Goals as goal

pub push-requires : goal.push-requires
push-requires c = not_listed c.args.draft.rule.name c.args.rules.now c.requires
