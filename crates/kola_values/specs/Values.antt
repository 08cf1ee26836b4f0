-- The plain tree of a value. A text and a name are lists of bytes; the lists inside a tree are types of their own, with functions to lists and back.
use Rattle.std.specs.Prelude.{ℕ, ℤ, Bool, List, [], ◌∷◌}

mutual
  pub data ValueTree : Type 0 where
    VUnit : ValueTree
    VInt : (n : ℤ) → ValueTree
    VBool : (b : Bool) → ValueTree
    VStr : (text : List ℕ) → ValueTree
    VObj : (class : List ℕ) (id : ℕ) → ValueTree
    VPair : (a b : ValueTree) → ValueTree
    VStruct : (fields : FieldValues) → ValueTree
    VSet : (members : MemberValues) → ValueTree

  -- the members of a set
  pub data MemberValues : Type 0 where
    VNone : MemberValues
    VMore : (v : ValueTree) (vs : MemberValues) → MemberValues

  -- the fields of a struct: labels with values
  pub data FieldValues : Type 0 where
    VEnd : FieldValues
    VField : (label : List ℕ) (v : ValueTree) (fs : FieldValues) → FieldValues

abbrev pub items : MemberValues → List ValueTree
items VNone = []
items (VMore v vs) = v ∷ items vs

abbrev pub of_items : List ValueTree → MemberValues
of_items [] = VNone
of_items (v ∷ vs) = VMore v (of_items vs)

abbrev pub fields : FieldValues → List (List ℕ × ValueTree)
fields VEnd = []
fields (VField l v fs) = (l, v) ∷ fields fs

abbrev pub of_fields : List (List ℕ × ValueTree) → FieldValues
of_fields [] = VEnd
of_fields (f ∷ fs) = VField f.0 f.1 (of_fields fs)
