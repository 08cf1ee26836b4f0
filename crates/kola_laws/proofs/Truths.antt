-- Truths that the laws are shown by.
use Rattle.std.proofs.Common.{◌≡◌, refl, ◌&&◌, ◌||◌, not, cond, Bool, true, false, List}
use Rattle.kola_values.specs.Databases.{Classes, Objects, HasType}
use Rattle.kola_values.specs.Values.{ValueTree, VPair}
use Rattle.kola_values.specs.Types.{TypeTree, TPair}
use Rattle.kola_values.specs.Order.{same}
use Rattle.kola_values.specs.Sets.{any, has, Each}
use Rattle.kola_values.proofs.Anys.{any_agree, bool_same, equal, same_itself}
use Rattle.kola_term.specs.Terms.{FunTree}
use Rattle.kola_term.specs.Meaning.{left, right, den}
use Rattle.kola_match.specs.Holding.{Injective}

pub not_both : (a b : Bool) → not (a && b) ≡ (not a || not b)
not_both true b = refl
not_both false b = refl

pub not_either : (a b : Bool) → not (a || b) ≡ (not a && not b)
not_either true b = refl
not_either false b = refl

pub cond_same : {A : Type 0} (b : Bool) (x : A) → cond b x x ≡ x
cond_same true x = refl
cond_same false x = refl

pub cond_not : {A : Type 0} (b : Bool) (x y : A) → cond (not b) x y ≡ cond b y x
cond_not true x y = refl
cond_not false x y = refl

pub pair_eta : (d : Objects) (t u : TypeTree) (v : ValueTree) → HasType d v (TPair t u) → v ≡ VPair (left v) (right v)
pair_eta d t u (VPair a b) h = refl
pair_eta d t u _ h = absurd h

-- an injective function keeps what is the same and what is not
pub same_inj : (S : Classes) (d : Objects) (f : FunTree) (t : TypeTree) → Injective S d f t → (v w : ValueTree) → HasType d v t → HasType d w t → same (den S d f v) (den S d f w) ≡ same v w
same_inj S d f t i v w h k =
    bool_same (same (den S d f v) (den S d f w)) (same v w)
    (λ e. rw (i v w h k (equal (den S d f v) (den S d f w) e)) (same_itself w))
    (λ e. rw (equal v w e) (same_itself (den S d f w)))

pub has_inj : (S : Classes) (d : Objects) (f : FunTree) (t : TypeTree) → Injective S d f t → (v : ValueTree) (ws : List ValueTree) → HasType d v t → Each (λ w. HasType d w t) ws → any (λ w. same (den S d f v) (den S d f w)) ws ≡ has v ws
has_inj S d f t i v ws h k = any_agree (λ w. HasType d w t) _ _ ws k (λ w g. same_inj S d f t i v w h g)
