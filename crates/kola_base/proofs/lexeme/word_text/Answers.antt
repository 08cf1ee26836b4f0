use Rattle.std.proofs.Common.{Result, Ok, Err, refl}
use Rattle.std.specs.Result.{MatchResult, IsOk}
use Rattle.kola_base.proofs.Words.{word_utf8}
use Rattle.kola_base.proofs.lexeme.word_text.Goals as goal

ok : {T E : Type 0} (r : Result T E) (P : T → Type 0) (Q : E → Type 0) → ((e : E) → Q e → ⊥) → MatchResult r P Q → IsOk r
ok (Ok x) P Q f h = refl
ok (Err e) P Q f h = absurd (f e h)

pub unwrap-requires : goal.unwrap-requires
unwrap-requires c = ok c.from_utf8.result _ _ (λ e q. q.0 (word_utf8 c.args.word.now c.requires)) c.from_utf8.ensures.cases
