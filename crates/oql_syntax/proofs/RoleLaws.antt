-- Whether tokens end in a `select` that is no label, found by the roles of tokens from left to right.
use Rattle.std.proofs.Common.{◌≡◌, ◌<◌, ◌-◌, ℕ, zero, suc, Bool, false, List, [], ◌∷◌, take, refl, sym, ap, arith, ◌∙◌}
use Rattle.std.specs.Prelude.{◌&&◌, not}
use Rattle.kola_base.specs.Placed.{Placed}
use Rattle.kola_base.specs.declared.sign.Sign.TheVariants as s
use Rattle.oql_syntax.specs.Alphabet.{Kind, KSign, KWord, KOther, kind}
use Rattle.oql_syntax.specs.QueryFaults.{is_label_behind, is_select, ends_in_select}
use Rattle.oql_syntax.specs.Roles.{role, labels_next, is_select_role, ends_so}
use Rattle.oql_syntax.specs.declared.outside.Role.{Role}
use Rattle.oql_syntax.specs.declared.outside.Role.TheVariants as roles
use Rattle.oql_syntax.specs.declared.word.QueryWord.TheVariants as q

select_role : (k : Kind) → is_select_role (role k) ≡ is_select k
select_role (KWord q.Select) = refl
select_role (KWord q.Struct) = refl
select_role (KSign s.Open) = refl
select_role (KSign s.Dot) = refl
select_role (KSign s.Arrow) = refl
select_role (KSign s.Comma) = refl
select_role _ = refl

struct_open : (j : Kind) → labels_next (role j) roles.Open ≡ is_label_behind j (KSign s.Open)
struct_open (KWord q.Select) = refl
struct_open (KWord q.Struct) = refl
struct_open (KSign s.Open) = refl
struct_open (KSign s.Dot) = refl
struct_open (KSign s.Arrow) = refl
struct_open (KSign s.Comma) = refl
struct_open _ = refl

label_role : (j k : Kind) → labels_next (role j) (role k) ≡ is_label_behind j k
label_role j (KSign s.Open) = struct_open j
label_role j (KSign s.Dot) = refl
label_role j (KSign s.Arrow) = refl
label_role j (KSign s.Comma) = refl
label_role j (KWord q.Select) = refl
label_role j (KWord q.Struct) = refl
label_role j _ = refl

ends_by : (b : Bool) (j k : Kind) (t : Placed) (ts : List Placed) → ends_so b (role j) (role k) (t ∷ ts) ≡ ends_in_select j k (t ∷ ts)
ends_by b j k t [] = ap (λ (z : Bool). z && not (labels_next (role j) (role k))) (select_role (kind t)) ∙ ap (λ (z : Bool). is_select (kind t) && not z) (label_role j k)
ends_by b j k t (u ∷ ts) = ends_by (is_select_role (role (kind t)) && not (labels_next (role j) (role k))) k (kind t) u ts

-- from the first token on
pub ends_is : (ts : List Placed) → ends_so false roles.Other roles.Other ts ≡ ends_in_select KOther KOther ts
ends_is [] = refl
ends_is (t ∷ ts) = ends_by false KOther KOther t ts

-- so many tokens, of which one was looked at
pub take_one : (n : ℕ) (t : Placed) (ts : List Placed) → 0 < n → take n (t ∷ ts) ≡ t ∷ take (n - 1) ts
take_one zero t ts h = absurd (omega (arith, h))
take_one (suc n) t ts h = let e : n ≡ suc n - 1 = omega arith in ap (λ (k : ℕ). t ∷ take k ts) e

-- one more token looked at
pub one_more : (b e : Bool) (j k r : Role) (n : ℕ) (t : Placed) (w ts : List Placed) → 0 < n → w ≡ t ∷ ts → r ≡ role (kind t) → e ≡ (is_select_role r && not (labels_next j k)) → ends_so e k r (take (n - 1) ts) ≡ ends_so b j k (take n w)
one_more b e j k r n t w ts h i g f =
    ap (λ (z : Bool). ends_so z k r (take (n - 1) ts)) f ∙ ap (λ (z : Role). ends_so (is_select_role z && not (labels_next j k)) k z (take (n - 1) ts)) g ∙ sym (ap (ends_so b j k) (take_one n t ts h)) ∙ sym (ap (λ (z : List Placed). ends_so b j k (take n z)) i)
