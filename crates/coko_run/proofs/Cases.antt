-- What holds of a result in one of its cases.
use Rattle.std.proofs.Common.{◌≡◌, ◌-◌, ℕ, suc, Bool, true, false, refl, sym, ap, ◌∙◌, subst, List, [], ◌∷◌, Option, Some, None, IfSome, IfNone, IfOk, Result, Ok, Err, arith}
use Rattle.kola_values.specs.Types.{TypeTree}
use Rattle.kola_values.specs.Databases.{Classes}
use Rattle.kola_term.specs.Terms.{TermTree}
use Rattle.kola_rule.specs.Rules.{RuleTree}
use Rattle.coko_plan.specs.Wholes.{WholeTree, MoreWholes}
use Rattle.coko_run.specs.Outcomes.{Missed, each}
use Rattle.coko_run.specs.Notes.{Notes, noted}
use Rattle.coko_run.specs.Moves.{Conf}
use Rattle.coko_run.specs.Weights.{Leads}
use Rattle.coko_run.specs.Firing.{world, missed_at}
use Rattle.coko_run.specs.Views.{counted}
use Rattle.coko_run.proofs.Noted.{noted_none}
use Rattle.coko_run.proofs.Arms.{to_conf}

pub if_none : {A : Type 0} {B : Type 0} (o : Option A) → o ≡ None → IfNone o B → B
if_none (Some a) e h = absurd (cc)
if_none None e h = h

pub if_some : {A : Type 0} (P : A → Type 0) (o : Option A) (a : A) → o ≡ Some a → IfSome o P → P a
if_some P o a e h = subst (λ z. IfSome z P) e h

pub clash : (b : Bool) → b ≡ true → b ≡ false → ⊥
clash true e f = absurd (cc)
clash false e f = absurd (cc)

-- a missed attempt is not kept
unkept : (l : Notes) (t : TermTree) (u : TypeTree) (n : ℕ) (v : Bool) → noted l (Missed t u n v ∷ []) ≡ l
unfolding noted
unkept l t u n v = noted_none l

pub missed_unkept : (l : Notes) (o : Option TermTree) (t : Option TypeTree) (n : ℕ) (v : Bool) → noted l (missed_at o t n v) ≡ l
missed_unkept l (Some a) (Some t) n v = unkept l a t n v
missed_unkept l (Some a) None n v = noted_none l
missed_unkept l None (Some t) n v = noted_none l
missed_unkept l None None n v = noted_none l

-- for all worlds of rules
pub lead_all : {V E : Type 0} (r : Result V E) (C : V → Conf) (a b : Conf) → IfOk r (λ x. C x ≡ b) → ((S : Classes) (A : List RuleTree) → Leads (world S A) a b) → IfOk r (λ x. (S : Classes) (A : List RuleTree) → Leads (world S A) a (C x))
lead_all (Ok x) C a b e h = λ S A. to_conf (world S A) a (C x) b e (h S A)
lead_all (Err x) C a b e h = tt

pub lead_one : {V E : Type 0} (S : Classes) (A : List RuleTree) (r : Result V E) (C : V → Conf) (a a1 : Conf) → a ≡ a1 → IfOk r (λ x. (S : Classes) (A : List RuleTree) → Leads (world S A) a1 (C x)) → IfOk r (λ x. Leads (world S A) a (C x))
lead_one S A (Ok x) C a a1 e h = subst (λ z. Leads (world S A) z (C x)) (sym e) (h S A)
lead_one S A (Err x) C a a1 e h = tt

pub lead_same : {V E : Type 0} (S : Classes) (A : List RuleTree) (r : Result V E) (C : V → Conf) (a a1 : Conf) → a ≡ a1 → IfOk r (λ x. Leads (world S A) a1 (C x)) → IfOk r (λ x. Leads (world S A) a (C x))
lead_same S A (Ok x) C a a1 e h = subst (λ z. Leads (world S A) z (C x)) (sym e) h
lead_same S A (Err x) C a a1 e h = tt

counted_suc : (last k : ℕ) → counted last (suc k) ≡ (last - k) ∷ counted last k
counted_suc last k = refl

pub counted_more : (last left : ℕ) → (left ≡ 0 → ⊥) → counted last left ≡ (last - (left - 1)) ∷ counted last (left - 1)
counted_more last left h = ap (counted last) (let e : left ≡ suc (left - 1) = omega (arith, h) in e) ∙ counted_suc last (left - 1)

pub none_counted : (s : WholeTree) (last left : ℕ) → left ≡ 0 → each s (counted last left) ≡ each s []
none_counted s last left e = ap (λ z. each s (counted last z)) e

pub more_counted : (s : WholeTree) (last left n : ℕ) → (left ≡ 0 → ⊥) → n ≡ last - (left - 1) → each s (counted last left) ≡ MoreWholes (n ∷ []) s (each s (counted last (left - 1)))
more_counted s last left n h e = ap (each s) (counted_more last left h) ∙ ap (λ z. MoreWholes (z ∷ []) s (each s (counted last (left - 1)))) (sym e)
