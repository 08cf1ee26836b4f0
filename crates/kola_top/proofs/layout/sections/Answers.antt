use Rattle.kola_top.proofs.FoundLaws.{walk_is, accepted, found, refuses}
use Rattle.kola_top.proofs.layout.sections.Goals as goal

pub returns : goal.returns
returns c =
    let h = walk_is c.args.job.now c.scan.result c.scan.ensures in
    record { accepted = accepted _ _ h; found = found _ _ h; refused = refuses _ _ h }
