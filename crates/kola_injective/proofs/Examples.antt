-- Functions at the class of persons, whose keys are `ssn` and `(first, last)`, and with variables.
use Rattle.std.specs.Prelude.{◌≡◌, ℕ, pos, true, false, List, [], ◌∷◌, codes, refl}
use Rattle.kola_values.specs.Types.{TypeTree, TInt, TStr, TClass, TSet, TPair}
use Rattle.kola_values.specs.Databases.{Class, Classes}
use Rattle.kola_term.specs.Terms.{CInt, CStr, CMeta, FunTree, FId, FFst, FAttr, FComp, FPair, FTimes, FK, FC, FIterate, FMeta, PKP, PMeta}
use Rattle.kola_term.specs.Typing.{Context, MFun, MPred, MConst}
use Rattle.kola_term.proofs.Sample.{sample_schema}
use Rattle.kola_injective.specs.Derived.{Derived, of_id, of_key, of_second}
use Rattle.kola_injective.specs.Inferring.{infer}
use Rattle.kola_injective.proofs.Exact.{infer_complete}

abbrev person : TypeTree
person = TClass (codes "Person")

abbrev ssn : FunTree
ssn = FAttr (codes "ssn")

abbrev first : FunTree
first = FAttr (codes "first")

abbrev last : FunTree
last = FAttr (codes "last")

-- ---- shown

ssn_is : Derived sample_schema [] [] ssn person
ssn_is = of_key 0 (codes "ssn") [] refl refl

names_are : Derived sample_schema [] [] (FPair first last) person
names_are = of_key 1 (codes "first") (codes "last" ∷ []) refl refl

with_itself : Derived sample_schema [] [] (FPair last FId) person
with_itself = of_second of_id

-- ---- not shown: no derivation passes the test

not_shown : (S : Classes) (x : Context) (hyps : List (List ℕ)) (f : FunTree) (t : TypeTree) → infer S x hyps f t ≡ false → Derived S x hyps f t → ⊥
not_shown S x hyps f t e d = let k = infer_complete S x hyps f t d in absurd (cc)

last_is_not : Derived sample_schema [] [] last person → ⊥
last_is_not d = not_shown sample_schema [] [] last person refl d

turned_names_are_not : Derived sample_schema [] [] (FPair last first) person → ⊥
turned_names_are_not d = not_shown sample_schema [] [] (FPair last first) person refl d

one_of_two_is_not : Derived sample_schema [] [] first person → ⊥
one_of_two_is_not d = not_shown sample_schema [] [] first person refl d

-- the key of another class
vehicle_is_not : Derived sample_schema [] [] ssn (TClass (codes "Vehicle")) → ⊥
vehicle_is_not d = not_shown sample_schema [] [] ssn (TClass (codes "Vehicle")) refl d

-- ---- a key of three attributes, and one that says an attribute twice

abbrev triple_class : Class
triple_class = record {
  name = codes "Part";
  extent = codes "Parts";
  attributes = (codes "a", TInt) ∷ (codes "b", TStr) ∷ (codes "c", TInt) ∷ [];
  keys = (codes "a" ∷ codes "b" ∷ codes "c" ∷ []) ∷ (codes "b" ∷ codes "b" ∷ []) ∷ [];
}

abbrev triple : Classes
triple = triple_class ∷ []

abbrev part : TypeTree
part = TClass (codes "Part")

abbrev fa : FunTree
fa = FAttr (codes "a")

abbrev fb : FunTree
fb = FAttr (codes "b")

abbrev fc : FunTree
fc = FAttr (codes "c")

three_are : infer triple [] [] (FPair fa (FPair fb fc)) part ≡ true
three_are = refl

paired_to_the_left : infer triple [] [] (FPair (FPair fa fb) fc) part ≡ false
paired_to_the_left = refl

two_of_three : infer triple [] [] (FPair fa fb) part ≡ false
two_of_three = refl

twice_is : infer triple [] [] (FPair fb fb) part ≡ true
twice_is = refl

once_is_not : infer triple [] [] fb part ≡ false
once_is_not = refl

-- ---- through the other nodes, by variables

abbrev x : Context
x = (codes "f", MFun person TStr) ∷ (codes "g", MFun (TPair TInt person) TStr) ∷ (codes "p", MPred person) ∷ (codes "n", MConst TInt) ∷ []

abbrev f : FunTree
f = FMeta (codes "f")

abbrev g : FunTree
g = FMeta (codes "g")

supposed : infer sample_schema x (codes "f" ∷ []) f person ≡ true
supposed = refl

not_supposed : infer sample_schema x (codes "g" ∷ []) f person ≡ false
not_supposed = refl

at_another_type : infer sample_schema x (codes "f" ∷ []) f TStr ≡ false
at_another_type = refl

composed : infer sample_schema x [] (FComp ssn FId) person ≡ true
composed = refl

second_alone : infer sample_schema x [] (FComp (FK (CInt (pos 5))) ssn) person ≡ false
second_alone = refl

first_alone : infer sample_schema x [] (FComp FId last) person ≡ false
first_alone = refl

side_by_side : infer sample_schema x (codes "f" ∷ []) (FTimes ssn f) (TPair person person) ≡ true
side_by_side = refl

one_side : infer sample_schema x [] (FTimes ssn f) (TPair person person) ≡ false
one_side = refl

curried : infer sample_schema x (codes "g" ∷ []) (FC g (CMeta (codes "n"))) person ≡ true
curried = refl

curried_otherwise : infer sample_schema x (codes "g" ∷ []) (FC g (CStr (codes "n"))) person ≡ false
curried_otherwise = refl

members : infer sample_schema x [] (FIterate (PKP true) ssn) (TSet person) ≡ true
members = refl

some_members : infer sample_schema x [] (FIterate (PMeta (codes "p")) ssn) (TSet person) ≡ false
some_members = refl

halves : infer sample_schema x [] FFst (TPair person person) ≡ false
halves = refl
