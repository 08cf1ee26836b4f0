use Rattle.std.proofs.Common.{◌-◌, length, drop, arith, length-take, length-drop}
use Rattle.kola_base.proofs.Turns.{wrote_more}
use Rattle.kola_base.proofs.writing.write_all.Goals as goal

pub loop-written-preserved : goal.loop-written-preserved
loop-written-preserved g c =
    let wrote = c.in-Ok.ensures.ok in
    let bytes = c.args.bytes.now in
    let w = c.loop-written.written in
    record {
      within = omega (arith, wrote.fits, length-take (length bytes - w) (drop w bytes), length-drop w bytes);
      no_less = omega (arith, c.in-Ok.ensures.cause.no_less);
      added = wrote_more _ _ _ bytes w c.in-Ok.count c.loop-written.invariant.added wrote;
    }
