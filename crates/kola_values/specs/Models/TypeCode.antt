-- How a proof tells types apart: a type as a tree of numbers, and back.
use Rattle.std.specs.Prelude.{◌≡◌, ℕ, List, [], ◌∷◌, refl}
use Rattle.std.proofs.Common.{ap, zero, suc}
use base.Stored.{Gv, gnil, gnum, gcons, Coded}
use Rattle.std.specs.Coded.{code_by}
use Rattle.kola_values.specs.Types.{TypeTree, TInt, TStr, TBool, TUnit, TClass, TVar, TSet, TPair, TStruct, FieldTypes, TEnd, TField}

abbrev gv_code : Coded Gv
gv_code = record { code = λ g. g; inj = λ x y p. p }

abbrev stored_bytes : List ℕ → Gv
stored_bytes [] = gnil
stored_bytes (b ∷ bs) = gcons (gnum b) (stored_bytes bs)

abbrev number : Gv → ℕ
number (gnum n) = n
number _ = zero

abbrev read_bytes : Gv → List ℕ
read_bytes (gcons b bs) = number b ∷ read_bytes bs
read_bytes _ = []

abbrev mutual
  stored : TypeTree → Gv
  stored TInt = gnum 0
  stored TStr = gnum 1
  stored TBool = gnum 2
  stored TUnit = gnum 3
  stored (TClass n) = gcons (gnum 0) (stored_bytes n)
  stored (TVar n) = gcons (gnum 1) (stored_bytes n)
  stored (TSet t) = gcons (gnum 2) (stored t)
  stored (TStruct fs) = gcons (gnum 3) (stored_fields fs)
  stored (TPair t u) = gcons gnil (gcons (stored t) (stored u))

  stored_fields : FieldTypes → Gv
  stored_fields TEnd = gnil
  stored_fields (TField l t fs) = gcons (gcons (stored_bytes l) (stored t)) (stored_fields fs)

abbrev mutual
  read : Gv → TypeTree
  read (gnum zero) = TInt
  read (gnum (suc zero)) = TStr
  read (gnum (suc (suc zero))) = TBool
  read (gcons (gnum zero) n) = TClass (read_bytes n)
  read (gcons (gnum (suc zero)) n) = TVar (read_bytes n)
  read (gcons (gnum (suc (suc zero))) t) = TSet (read t)
  read (gcons (gnum (suc (suc (suc n)))) fs) = TStruct (read_fields fs)
  read (gcons gnil (gcons t u)) = TPair (read t) (read u)
  read _ = TUnit

  read_fields : Gv → FieldTypes
  read_fields (gcons (gcons l t) fs) = TField (read_bytes l) (read t) (read_fields fs)
  read_fields _ = TEnd

read_bytes-stored : (bs : List ℕ) → read_bytes (stored_bytes bs) ≡ bs
read_bytes-stored [] = refl
read_bytes-stored (b ∷ bs) = ap (λ l. b ∷ l) (read_bytes-stored bs)

mutual
  pub read-stored : (t : TypeTree) → read (stored t) ≡ t
  read-stored TInt = refl
  read-stored TStr = refl
  read-stored TBool = refl
  read-stored TUnit = refl
  read-stored (TClass n) = ap TClass (read_bytes-stored n)
  read-stored (TVar n) = ap TVar (read_bytes-stored n)
  read-stored (TSet t) = ap TSet (read-stored t)
  read-stored (TStruct fs) = ap TStruct (read_fields-stored fs)
  read-stored (TPair t u) = λ i. TPair (read-stored t i) (read-stored u i)

  read_fields-stored : (fs : FieldTypes) → read_fields (stored_fields fs) ≡ fs
  read_fields-stored TEnd = refl
  read_fields-stored (TField l t fs) = λ i. TField (read_bytes-stored l i) (read-stored t i) (read_fields-stored fs i)

abbrev pub type_code : Coded TypeTree
type_code = code_by Gv gv_code stored read read-stored
