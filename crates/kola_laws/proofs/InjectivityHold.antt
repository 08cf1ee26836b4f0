-- The laws of this group hold: laws of injective functions.
use Rattle.std.proofs.Common.{sym, ap, ◌&&◌, not}
use Rattle.kola_values.specs.Databases.{Classes, HasType}
use Rattle.kola_values.proofs.Anys.{set_ext, anys, any_agree}
use Rattle.kola_term.specs.Meaning.{left, right, den}
use Rattle.kola_values.specs.Sets.{members, Each}
use Rattle.kola_match.specs.Holding.{Holds}
use Rattle.kola_values.specs.Types.{TSet}
use Rattle.kola_values.proofs.Typed.{members_typed}
use Rattle.kola_match.specs.Substitutions.{sub_type}
use Rattle.kola_term.proofs.Sound.{left_typed, right_typed}
use Rattle.kola_laws.proofs.Truths.{same_inj, has_inj}
use Rattle.kola_laws.specs.Injectivity as l
use Rattle.kola_laws.specs.Letters as n

pub eq_inj-holds : (S : Classes) → Holds S l.eq_inj
eq_inj-holds S d m s t i v h = same_inj S d (s.funs n.f) (sub_type s.types n.a) i.0 (left v) (right v) (left_typed d (sub_type s.types n.a) (sub_type s.types n.a) v h) (right_typed d (sub_type s.types n.a) (sub_type s.types n.a) v h)

pub in_inj-holds : (S : Classes) → Holds S l.in_inj
in_inj-holds S d m s t i v h =
    simp anys (has_inj S d (s.funs n.f) (sub_type s.types n.a) i.0 (left v) (members (right v)) (left_typed d (sub_type s.types n.a) (TSet (sub_type s.types n.a)) v h) (members_typed d (sub_type s.types n.a) (right v) (right_typed d (sub_type s.types n.a) (TSet (sub_type s.types n.a)) v h)))

pub isect_inj-holds : (S : Classes) → Holds S l.isect_inj
isect_inj-holds S d m s t i v h =
    let A = sub_type s.types n.a in
    let f = s.funs n.f in
    let us = members_typed d A (left v) (left_typed d (TSet A) (TSet A) v h) in
    let ws = members_typed d A (right v) (right_typed d (TSet A) (TSet A) v h) in
    set_ext _ _ (λ q. simp anys (any_agree (λ x. HasType d x A) _ _ (members (left v)) us (λ x g. ap (λ b. b && q (den S d f x)) (sym (has_inj S d f A i.0 x (members (right v)) g ws)))))

pub minus_inj-holds : (S : Classes) → Holds S l.minus_inj
minus_inj-holds S d m s t i v h =
    let A = sub_type s.types n.a in
    let f = s.funs n.f in
    let us = members_typed d A (left v) (left_typed d (TSet A) (TSet A) v h) in
    let ws = members_typed d A (right v) (right_typed d (TSet A) (TSet A) v h) in
    set_ext _ _ (λ q. simp anys (any_agree (λ x. HasType d x A) _ _ (members (left v)) us (λ x g. ap (λ b. not b && q (den S d f x)) (sym (has_inj S d f A i.0 x (members (right v)) g ws)))))

pub injectivity_hold : (S : Classes) → Each (Holds S) l.injectivity
injectivity_hold S = (eq_inj-holds S, (in_inj-holds S, (isect_inj-holds S, (minus_inj-holds S, tt))))
