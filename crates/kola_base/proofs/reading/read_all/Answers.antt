use Rattle.std.proofs.Common.{◌<◌, length, drop, arith, length-drop}
use Rattle.kola_base.proofs.Turns.{read_more, all_taken}
use Rattle.kola_base.proofs.reading.read_all.Goals as goal

pub loop-filled-preserved : goal.loop-filled-preserved
loop-filled-preserved g c =
    let more = c.in_ok-count.ensures in
    let filled = c.loop-filled.filled in
    let count = c.in_ok-count.count in
    let old = c.loop-filled.bytes.items in
    let new = c.read_more.new.bytes in
    record {
      within = omega (arith, more.ok.fits, more.room, length-drop filled new.items, new.ok.0);
      bounded = omega (arith, more.ok.fits, more.short, length-drop filled new.items, new.ok.0);
      no_less = omega (arith, more.no_less);
      taken = read_more _ _ _ old new.items filled count more.front c.loop-filled.invariant.taken more.ok;
    }

pub returns-then-count-eq0-clause-taken : goal.returns-then-count-eq0-clause-taken
returns-then-count-eq0-clause-taken g c =
    let more = c.in_ok-count.ensures in
    let filled = c.loop-filled.filled in
    let old = c.loop-filled.bytes.items in
    let new = c.read_more.new.bytes in
    let room : 0 < length (drop filled new.items) = omega (arith, more.room, length-drop filled new.items, new.ok.0) in
    all_taken c.args.limit _ _ _ old new.items filled c.in_ok-count.count c.truncate.new.self c.loop-filled-test.true
    more.front c.loop-filled.invariant.taken more.ok c.if-count-eq0.true room c.truncate.ensures.items
