use Rattle.std.proofs.Common.{◌≡◌, length}
use Rattle.std.specs.Vec.Iter.{into_iter_items, into_iter_len}
use Rattle.kola_proof.proofs.FileLaws.{Left}
use Rattle.kola_proof.proofs.accepted.Accepted.admit_all.Given as goal

abbrev pub invariant-loop-draft : goal.invariant-loop-draft
invariant-loop-draft l =
    (goal.iterator-loop-draft).can_next l.draft-iterator ×
    (goal.iterator-loop-draft).is_finite l.draft-iterator ×
    (l.self.schema ≡ l.initial.self.schema) ×
    Left l.initial.self.schema l.initial.self.rules l.fn.drafts l.self.rules (into_iter_items l.draft-iterator) ×
    (into_iter_len l.draft-iterator ≡ length (into_iter_items l.draft-iterator))
