-- The total order of values, and when two values are the same.
use Rattle.std.specs.Prelude.{ℕ, Bool, List}
use Rattle.std.specs.declared.cmp.Ordering.{Ordering}
use Rattle.std.specs.declared.cmp.Ordering.TheVariants.{Less, Equal, Greater}
use Rattle.std.specs.Ordering.{ordering_then, nat_cmp, int_cmp, bool_cmp, is_eq}
use Rattle.std.specs.Cmp.Lexicographic.{slice_cmp}
use Rattle.kola_values.specs.Values.{ValueTree, VUnit, VInt, VBool, VStr, VObj, VPair, VStruct, VSet, MemberValues, VNone, VMore, FieldValues, VEnd, VField}

-- the place of a form among the forms
abbrev pub rank : ValueTree → ℕ
rank VUnit = 0
rank (VInt n) = 1
rank (VBool b) = 2
rank (VStr s) = 3
rank (VObj c i) = 4
rank (VPair a b) = 5
rank (VStruct fs) = 6
rank (VSet vs) = 7

-- texts and names are ordered by their bytes
abbrev pub name_cmp : List ℕ → List ℕ → Ordering
name_cmp = slice_cmp nat_cmp

abbrev mutual
  -- two values of one form by their parts, and others by their forms
  pub cmp : ValueTree → ValueTree → Ordering
  cmp VUnit VUnit = Equal
  cmp (VInt m) (VInt n) = int_cmp m n
  cmp (VBool b) (VBool c) = bool_cmp b c
  cmp (VStr s) (VStr t) = name_cmp s t
  cmp (VObj c i) (VObj d j) = ordering_then (name_cmp c d) (nat_cmp i j)
  cmp (VPair a b) (VPair c d) = ordering_then (cmp a c) (cmp b d)
  cmp (VStruct fs) (VStruct gs) = cmp_fields fs gs
  cmp (VSet vs) (VSet ws) = cmp_members vs ws
  cmp v w = nat_cmp (rank v) (rank w)

  -- sets as their rising lists, of which a proper prefix comes first
  pub cmp_members : MemberValues → MemberValues → Ordering
  cmp_members VNone VNone = Equal
  cmp_members VNone (VMore w ws) = Less
  cmp_members (VMore v vs) VNone = Greater
  cmp_members (VMore v vs) (VMore w ws) = ordering_then (cmp v w) (cmp_members vs ws)

  -- a struct as its fields, each by its label and then by its value
  pub cmp_fields : FieldValues → FieldValues → Ordering
  cmp_fields VEnd VEnd = Equal
  cmp_fields VEnd (VField m w gs) = Less
  cmp_fields (VField l v fs) VEnd = Greater
  cmp_fields (VField l v fs) (VField m w gs) = ordering_then (name_cmp l m) (ordering_then (cmp v w) (cmp_fields fs gs))

-- whether two values are the same
unfoldable pub same : ValueTree → ValueTree → Bool
same v w = is_eq (cmp v w)
