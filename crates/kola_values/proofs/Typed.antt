-- What a value of a type looks like.
use Rattle.std.proofs.Common.{◌≡◌, refl}
use Rattle.kola_values.specs.Values.{ValueTree, VPair, VSet}
use Rattle.kola_values.specs.Types.{TypeTree, TSet, TPair}
use Rattle.kola_values.specs.Databases.{Objects, HasType}
use Rattle.kola_values.specs.Sets.{Each, members, set_of}
use Rattle.kola_values.proofs.Anys.{set_of_items}

pub record IsPairOf (d : Objects) (t u : TypeTree) (v : ValueTree) : Type 0 where
  pub first : ValueTree
  pub second : ValueTree
  pub is : v ≡ VPair first second
  pub first_typed : HasType d first t
  pub second_typed : HasType d second u

pub pair_from : (d : Objects) (t u : TypeTree) (v : ValueTree) → HasType d v (TPair t u) → IsPairOf d t u v
pair_from d t u (VPair a b) h = record { first = a; second = b; is = refl; first_typed = h.0; second_typed = h.1 }
pair_from d t u _ h = absurd h

-- the members of a set are of its type
pub members_typed : (d : Objects) (t : TypeTree) (v : ValueTree) → HasType d v (TSet t) → Each (λ x. HasType d x t) (members v)
members_typed d t (VSet vs) h = h.1
members_typed d t _ h = absurd h

pub remake : (d : Objects) (t : TypeTree) (v : ValueTree) → HasType d v (TSet t) → set_of (members v) ≡ v
remake d t (VSet vs) h = set_of_items vs h.0
remake d t _ h = absurd h
