-- The canonical text of values and of types, as bytes.
use Rattle.std.specs.Prelude.{ℕ, Bool, true, false, ◌||◌, ◌==◌, nat_lt, if◌then◌else◌, List, [], ◌∷◌, ◌++◌, codes, decimal}
use Rattle.std.specs.List.{flat_map}
use Rattle.std.specs.Fmt.{digits, signed_decimal}
use Rattle.kola_values.specs.Values.{ValueTree, VUnit, VInt, VBool, VStr, VObj, VPair, VStruct, VSet, MemberValues, VNone, VMore, FieldValues, VEnd, VField}
use Rattle.kola_values.specs.Types.{TypeTree, TInt, TStr, TBool, TUnit, TClass, TVar, TSet, TPair, TStruct, FieldTypes, TEnd, TField}

-- a byte of a string: a quote, a backslash, a line feed and a tab stand behind a backslash, another control as its number in braces
abbrev pub escaped : ℕ → List ℕ
escaped b =
    if b == 34 then codes "\\\""
    else (if b == 92 then codes "\\\\"
    else (if b == 10 then codes "\\n"
    else (if b == 9 then codes "\\t"
    else (if nat_lt b 32 || b == 127 then codes "\\u{" ++ digits 16 false b ++ codes "}"
    else b ∷ []))))

-- a string between double quotes
abbrev pub quoted : List ℕ → List ℕ
quoted s = codes "\"" ++ flat_map escaped s ++ codes "\""

abbrev pub truth : Bool → List ℕ
truth true = codes "true"
truth false = codes "false"

abbrev mutual
  pub value_spelling : ValueTree → List ℕ
  value_spelling VUnit = codes "unit"
  value_spelling (VInt n) = signed_decimal n
  value_spelling (VBool b) = truth b
  value_spelling (VStr s) = quoted s
  value_spelling (VObj c i) = c ++ codes "#" ++ decimal i
  value_spelling (VPair a b) = codes "[" ++ value_spelling a ++ codes ", " ++ value_spelling b ++ codes "]"
  value_spelling (VStruct fs) = codes "struct(" ++ fields_spelling fs ++ codes ")"
  value_spelling (VSet vs) = codes "{" ++ members_spelling vs ++ codes "}"

  -- with a comma and a blank between two members
  pub members_spelling : MemberValues → List ℕ
  members_spelling VNone = []
  members_spelling (VMore v vs) = value_spelling v ++ further_members vs

  pub further_members : MemberValues → List ℕ
  further_members VNone = []
  further_members (VMore v vs) = codes ", " ++ value_spelling v ++ further_members vs

  pub fields_spelling : FieldValues → List ℕ
  fields_spelling VEnd = []
  fields_spelling (VField l v fs) = l ++ codes ": " ++ value_spelling v ++ further_fields fs

  pub further_fields : FieldValues → List ℕ
  further_fields VEnd = []
  further_fields (VField l v fs) = codes ", " ++ l ++ codes ": " ++ value_spelling v ++ further_fields fs

abbrev mutual
  pub type_spelling : TypeTree → List ℕ
  type_spelling TInt = codes "int"
  type_spelling TStr = codes "string"
  type_spelling TBool = codes "bool"
  type_spelling TUnit = codes "unit"
  type_spelling (TClass c) = c
  type_spelling (TVar a) = a
  type_spelling (TSet t) = codes "set<" ++ type_spelling t ++ codes ">"
  type_spelling (TPair t u) = codes "(" ++ type_spelling t ++ codes ", " ++ type_spelling u ++ codes ")"
  type_spelling (TStruct fs) = codes "struct(" ++ field_types_spelling fs ++ codes ")"

  pub field_types_spelling : FieldTypes → List ℕ
  field_types_spelling TEnd = []
  field_types_spelling (TField l t fs) = l ++ codes ": " ++ type_spelling t ++ further_field_types fs

  pub further_field_types : FieldTypes → List ℕ
  further_field_types TEnd = []
  further_field_types (TField l t fs) = codes ", " ++ l ++ codes ": " ++ type_spelling t ++ further_field_types fs
