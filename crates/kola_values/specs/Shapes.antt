-- The values of a type's shape, whatever objects there are.
use Rattle.std.specs.Prelude.{◌≡◌}
use Rattle.kola_values.specs.Values.{ValueTree, VUnit, VInt, VBool, VStr, VObj, VPair, VStruct, VSet, FieldValues, VEnd, VField, items}
use Rattle.kola_values.specs.Types.{TypeTree, TInt, TStr, TBool, TUnit, TClass, TSet, TPair, TStruct, FieldTypes, TEnd, TField}
use Rattle.kola_values.specs.Sets.{Rising, Each}
use Rattle.kola_core.specs.Integers.{In64}

abbrev mutual
  -- v is a value of the type in some database
  pub Shaped : ValueTree → TypeTree → Type 0
  Shaped (VInt z) TInt = In64 z
  Shaped (VStr s) TStr = Unit {0}
  Shaped (VBool b) TBool = Unit {0}
  Shaped VUnit TUnit = Unit {0}
  Shaped (VObj c i) (TClass e) = c ≡ e
  Shaped (VSet vs) (TSet t) = Rising (items vs) × Each (λ v. Shaped v t) (items vs)
  Shaped (VPair v w) (TPair t u) = Shaped v t × Shaped w u
  Shaped (VStruct fs) (TStruct ts) = ShapedFields fs ts
  Shaped _ _ = ⊥

  pub ShapedFields : FieldValues → FieldTypes → Type 0
  ShapedFields VEnd TEnd = Unit {0}
  ShapedFields (VField l v fs) (TField m t ts) = (l ≡ m) × Shaped v t × ShapedFields fs ts
  ShapedFields _ _ = ⊥
