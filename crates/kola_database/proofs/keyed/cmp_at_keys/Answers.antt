use Rattle.std.proofs.Common.{◌∙◌, sym, arith}
use Rattle.kola_database.specs.ObjectViews.{object_tree}
use Rattle.kola_database.proofs.KeyLoops.{keys_equal, keys_unequal, keys_end}
use Rattle.kola_database.proofs.keyed.cmp_at_keys.Goals as goal

pub returns-in_default : goal.returns-in_default
returns-in_default c =
    keys_unequal (object_tree c.args.o.now) (object_tree c.args.p.now) c.args.key.now c.args.other.now c.loop-i.i c.loop-i.invariant c.index-key-i.result c.index-other-i.result
    (omega arith) (omega arith) c.index-key-i.is c.index-other-i.is c.cmp_at.result c.cmp_at.ensures c.in_default.not-Equal

pub loop-i-preserved : goal.loop-i-preserved
loop-i-preserved c =
    keys_equal (object_tree c.args.o.now) (object_tree c.args.p.now) c.args.key.now c.args.other.now c.loop-i.i c.loop-i.invariant c.index-key-i.result c.index-other-i.result
    (omega arith) (omega arith) c.index-key-i.is c.index-other-i.is (sym c.in-Equal.is ∙ c.cmp_at.ensures)

pub returns : goal.returns
returns c = c.cmp.ensures ∙ keys_end (object_tree c.args.o.now) (object_tree c.args.p.now) c.args.key.now c.args.other.now c.loop-i.i c.loop-i.invariant (omega arith)
