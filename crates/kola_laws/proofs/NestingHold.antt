-- The laws of this group hold: laws of nesting and unnesting.
use Rattle.std.proofs.Common.{sym, ap}
use Rattle.kola_values.specs.Databases.{Classes}
use Rattle.kola_values.specs.Values.{VPair}
use Rattle.kola_values.proofs.Anys.{set_ext, anys, any_members_agree, picked, picked_sets}
use Rattle.kola_term.specs.Meaning.{left, right, den, holds_at}
use Rattle.kola_values.specs.Sets.{members, Each}
use Rattle.kola_match.specs.Holding.{Holds}
use Rattle.kola_laws.specs.Nesting as l
use Rattle.kola_laws.specs.Letters as n

pub nest_def-holds : (S : Classes) → Holds S l.nest_def
nest_def-holds S d m s t i v h = set_ext _ _ (λ q. simp anys)

pub unnest_def-holds : (S : Classes) → Holds S l.unnest_def
unnest_def-holds S d m s t i v h = set_ext _ _ (λ q. simp anys)

pub nest_join-holds : (S : Classes) → Holds S l.nest_join
nest_join-holds S d m s t i v h = set_ext _ _ (λ q. simp anys (any_members_agree _ _ _ (λ x e. ap (λ u. q (VPair x u)) (set_ext _ _ (λ r. simp anys (sym (search picked)))))))

pub nest_unnest-holds : (S : Classes) → Holds S l.nest_unnest
nest_unnest-holds S d m s t i v h = set_ext _ _ (λ q. simp anys (any_members_agree _ _ _ (λ x e. ap (λ u. q (VPair x u)) (set_ext _ _ (λ r. simp anys (sym (picked_sets x (λ u y. holds_at S d (s.preds n.p) (VPair u y)) (λ u y. members (den S d (s.funs n.f) (VPair u y))) r (members (left v)) (members (right v)) e)))))))

pub nest_const-holds : (S : Classes) → Holds S l.nest_const
nest_const-holds S d m s t i v h = set_ext _ _ (λ q. simp anys (any_members_agree _ _ _ (λ x e. ap (λ u. q (VPair x u)) (set_ext _ _ (λ r. simp anys (sym (search picked)))))))

pub nesting_hold : (S : Classes) → Each (Holds S) l.nesting
nesting_hold S = (nest_def-holds S, (unnest_def-holds S, (nest_join-holds S, (nest_unnest-holds S, (nest_const-holds S, tt)))))
