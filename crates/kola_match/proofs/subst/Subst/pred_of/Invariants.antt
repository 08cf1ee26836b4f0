use Rattle.std.proofs.Common.{◌≡◌, drop, map}
use Rattle.kola_values.specs.Databases.{look_up}
use Rattle.kola_match.specs.Binds.{preds_in}
use Rattle.kola_match.specs.SubstViews.{bound_entry, terms_of}
use Rattle.kola_match.proofs.subst.Subst.pred_of.Given as goal

abbrev pub invariant-loop-known : goal.invariant-loop-known
invariant-loop-known l = look_up l.var (preds_in (terms_of (map bound_entry l.self.bound))) ≡ look_up l.var (preds_in (terms_of (map bound_entry (drop l.known-index l.self.bound))))
