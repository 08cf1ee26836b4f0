-- The plain tree of a type, and when two types are the same.
use Rattle.std.specs.Prelude.{ℕ, ◌+◌, Bool, true, false, ◌&&◌, List, [], ◌∷◌}
use Rattle.std.specs.Str.{bytes_eq}

mutual
  pub data TypeTree : Type 0 where
    TInt TStr TBool TUnit : TypeTree
    TClass : (name : List ℕ) → TypeTree
    TVar : (name : List ℕ) → TypeTree
    TSet : (t : TypeTree) → TypeTree
    TPair : (t u : TypeTree) → TypeTree
    TStruct : (fields : FieldTypes) → TypeTree

  -- the fields of a struct: labels with types
  pub data FieldTypes : Type 0 where
    TEnd : FieldTypes
    TField : (label : List ℕ) (t : TypeTree) (fs : FieldTypes) → FieldTypes

abbrev pub type_fields : FieldTypes → List (List ℕ × TypeTree)
type_fields TEnd = []
type_fields (TField l t fs) = (l, t) ∷ type_fields fs

abbrev pub of_type_fields : List (List ℕ × TypeTree) → FieldTypes
of_type_fields [] = TEnd
of_type_fields (f ∷ fs) = TField f.0 f.1 (of_type_fields fs)

abbrev mutual
  pub same_type : TypeTree → TypeTree → Bool
  same_type TInt TInt = true
  same_type TStr TStr = true
  same_type TBool TBool = true
  same_type TUnit TUnit = true
  same_type (TClass a) (TClass b) = bytes_eq a b
  same_type (TVar a) (TVar b) = bytes_eq a b
  same_type (TSet t) (TSet u) = same_type t u
  same_type (TPair t u) (TPair x y) = same_type t x && same_type u y
  same_type (TStruct fs) (TStruct gs) = same_types fs gs
  same_type _ _ = false

  pub same_types : FieldTypes → FieldTypes → Bool
  same_types TEnd TEnd = true
  same_types (TField l t fs) (TField m u gs) = bytes_eq l m && same_type t u && same_types fs gs
  same_types _ _ = false

-- a type's constructors and names; a label is none
abbrev mutual
  pub type_nodes : TypeTree → ℕ
  type_nodes (TSet t) = 1 + type_nodes t
  type_nodes (TPair t u) = 1 + type_nodes t + type_nodes u
  type_nodes (TStruct fs) = 1 + types_nodes fs
  type_nodes _ = 1

  pub types_nodes : FieldTypes → ℕ
  types_nodes TEnd = 0
  types_nodes (TField l t fs) = type_nodes t + types_nodes fs
