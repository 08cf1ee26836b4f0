-- The encoding of structs as pairs nested to the right, of values and of types, and its inverse by a type.
use Rattle.std.specs.Prelude.{map}
use Rattle.kola_values.specs.Values.{ValueTree, VUnit, VPair, VStruct, VSet, MemberValues, VNone, VMore, FieldValues, VEnd, VField, items, of_items}
use Rattle.kola_values.specs.Types.{TypeTree, TUnit, TSet, TPair, TStruct, FieldTypes, TEnd, TField}

-- the first value alone where no field follows it, and paired with the rest otherwise
abbrev pub joined : ValueTree → FieldValues → ValueTree → ValueTree
joined v VEnd w = v
joined v (VField l x fs) w = VPair v w

abbrev mutual
  pub enc : ValueTree → ValueTree
  enc (VPair a b) = VPair (enc a) (enc b)
  enc (VStruct fs) = enc_fields fs
  enc (VSet vs) = VSet (enc_members vs)
  enc v = v

  -- of no field it is the unit
  pub enc_fields : FieldValues → ValueTree
  enc_fields VEnd = VUnit
  enc_fields (VField l v fs) = joined (enc v) fs (enc_fields fs)

  pub enc_members : MemberValues → MemberValues
  enc_members VNone = VNone
  enc_members (VMore v vs) = VMore (enc v) (enc_members vs)

abbrev pub joined_type : TypeTree → FieldTypes → TypeTree → TypeTree
joined_type t TEnd u = t
joined_type t (TField l x fs) u = TPair t u

abbrev mutual
  pub enc_type : TypeTree → TypeTree
  enc_type (TSet t) = TSet (enc_type t)
  enc_type (TPair t u) = TPair (enc_type t) (enc_type u)
  enc_type (TStruct fs) = enc_field_types fs
  enc_type t = t

  pub enc_field_types : FieldTypes → TypeTree
  enc_field_types TEnd = TUnit
  enc_field_types (TField l t fs) = joined_type (enc_type t) fs (enc_field_types fs)

-- the value of a type whose encoding is v
abbrev mutual
  pub dec : TypeTree → ValueTree → ValueTree
  dec (TSet t) (VSet vs) = VSet (of_items (map (λ v. dec t v) (items vs)))
  dec (TPair t u) (VPair a b) = VPair (dec t a) (dec u b)
  dec (TStruct fs) v = VStruct (dec_fields fs v)
  dec t v = v

  pub dec_fields : FieldTypes → ValueTree → FieldValues
  dec_fields TEnd v = VEnd
  dec_fields (TField l t TEnd) v = VField l (dec t v) VEnd
  dec_fields (TField l t (TField m u fs)) (VPair a b) = VField l (dec t a) (dec_fields (TField m u fs) b)
  dec_fields (TField l t (TField m u fs)) v = VEnd
