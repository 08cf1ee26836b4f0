-- Lists of fields as the fields of a type, and back.
use Rattle.std.proofs.Common.{◌≡◌, ℕ, List, [], ◌∷◌, ◌++◌, refl, ap}
use Rattle.std.proofs.lemmas.List.{append_assoc}
use Rattle.kola_values.specs.Types.{TypeTree, FieldTypes, TEnd, TField, type_fields, of_type_fields}

pub fields_listed : (fs : List (List ℕ × TypeTree)) → type_fields (of_type_fields fs) ≡ fs
fields_listed [] = refl
fields_listed (f ∷ fs) = ap (λ l. f ∷ l) (fields_listed fs)

pub listed_fields : (ts : FieldTypes) → of_type_fields (type_fields ts) ≡ ts
listed_fields TEnd = refl
listed_fields (TField l t ts) = ap (TField l t) (listed_fields ts)

-- a field behind others, and what follows it
pub field_then : (fs : List (List ℕ × TypeTree)) (l : List ℕ) (t : TypeTree) (ts : FieldTypes) → of_type_fields ((fs ++ (l, t) ∷ []) ++ type_fields ts) ≡ of_type_fields (fs ++ type_fields (TField l t ts))
field_then fs l t ts = ap of_type_fields (append_assoc fs ((l, t) ∷ []) (type_fields ts))
