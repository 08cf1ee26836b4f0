-- Values as the program holds them: each set rises strictly, an integer has 64 bits, an object's id has 32.
use Rattle.std.specs.Prelude.{◌≤◌}
use Rattle.kola_values.specs.Values.{ValueTree, VInt, VObj, VPair, VStruct, VSet, MemberValues, VNone, VMore, FieldValues, VEnd, VField, items}
use Rattle.kola_values.specs.Limits.{greatest_id}
use Rattle.kola_values.specs.Sets.{Rising}
use Rattle.kola_core.specs.Integers.{In64}

abbrev mutual
  pub WellFormed : ValueTree → Type 0
  WellFormed (VInt n) = In64 n
  WellFormed (VObj c i) = i ≤ greatest_id
  WellFormed (VPair a b) = WellFormed a × WellFormed b
  WellFormed (VStruct fs) = WellFormedFields fs
  WellFormed (VSet vs) = Rising (items vs) × WellFormedMembers vs
  WellFormed _ = Unit {0}

  pub WellFormedMembers : MemberValues → Type 0
  WellFormedMembers VNone = Unit {0}
  WellFormedMembers (VMore v vs) = WellFormed v × WellFormedMembers vs

  pub WellFormedFields : FieldValues → Type 0
  WellFormedFields VEnd = Unit {0}
  WellFormedFields (VField l v fs) = WellFormed v × WellFormedFields fs
