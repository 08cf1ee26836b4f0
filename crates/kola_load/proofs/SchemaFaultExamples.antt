-- The faults of schemas beyond their grammar, each shown, and the first of several.
use Rattle.std.proofs.Common.{◌≡◌, inl, inr, ℕ, List, [], ◌∷◌, map, Some, None, true, false, refl, arith}
use Rattle.std.specs.Prelude.{codes}
use Rattle.kola_base.specs.TermWords.{term_word_named, term_words}
use Rattle.kola_base.specs.QueryWords.{is_among, is_name}
use Rattle.kola_load.specs.Names.{is_extent_name}
use Rattle.kola_load.specs.SchemaTree.{Named, TypeAt, AInt, ASet, AClass, ClassAt}
use Rattle.kola_load.specs.SchemaFaults.{mark, Stands, IsTwice, IsUnknown, IsUnknownKey, rank, Before, IsFirst}
use Rattle.kola_load.specs.FirstMarks.{first_mark}
use Rattle.kola_load.specs.declared.schema_fault.NameWhy.TheVariants.{NotAllowed, TwiceDefined, UnknownClass, UnknownKeyAttribute}
use Rattle.kola_load.proofs.FirstMarkLaws.{found_first}

abbrev named : List ℕ → ℕ → Named
named bs at = record { name = bs; at = at }

-- class NAME (extent Ps KEYS) { attribute TYPE a; }
abbrev class_of : Named → List (List Named) → TypeAt → ClassAt
class_of n keys t = record { name = n; extent = named (codes "Ps") 4; keys = keys; attributes = record { type = t; name = named (codes "a") 12 } ∷ [] }

abbrev person : ClassAt
person = class_of (named (codes "P") 1) [] AInt

-- ---- each fault

small_letter : Stands (class_of (named (codes "p") 1) [] AInt ∷ []) (mark NotAllowed (named (codes "p") 1))
small_letter = inr (inr (inl (inl (inl (refl, refl)))))

twice : IsTwice [] (named (codes "P") 1 ∷ named (codes "Q") 2 ∷ named (codes "P") 3 ∷ []) (mark TwiceDefined (named (codes "P") 3))
twice = inr (inr (inl (refl, refl)))

unknown_in_a_set : IsUnknown (codes "P" ∷ []) (ASet (AClass (named (codes "Q") 9))) (mark UnknownClass (named (codes "Q") 9))
unknown_in_a_set = (refl, refl)

unknown_key : IsUnknownKey (codes "a" ∷ []) (named (codes "a") 6 ∷ named (codes "b") 8 ∷ []) (mark UnknownKeyAttribute (named (codes "b") 8))
unknown_key = inr (inl (refl, refl))

-- ---- the first of them

no_fault : first_mark (person ∷ []) ≡ None
unfolding is_extent_name is_name is_among term_word_named term_words
no_fault = refl

words_name_no_extent : map (λ bs. is_extent_name bs) (codes "select" ∷ codes "Max" ∷ codes "iterate" ∷ codes "SKIP" ∷ codes "skip" ∷ []) ≡ false ∷ false ∷ false ∷ false ∷ true ∷ []
unfolding is_extent_name is_name is_among term_word_named term_words
words_name_no_extent = refl

-- of a class twice defined and an unknown class before it, the unknown class
least_place : first_mark (class_of (named (codes "P") 1) [] (AClass (named (codes "Q") 10)) ∷ record { name = named (codes "P") 21; extent = named (codes "Rs") 24; keys = []; attributes = [] } ∷ []) ≡ Some (mark UnknownClass (named (codes "Q") 10))
unfolding is_extent_name is_name is_among term_word_named term_words
least_place = refl

-- at one place the causes have an order
ranks : map rank (NotAllowed ∷ TwiceDefined ∷ UnknownClass ∷ UnknownKeyAttribute ∷ []) ≡ 0 ∷ 1 ∷ 2 ∷ 3 ∷ []
ranks = refl

one_place : Before (mark NotAllowed (named (codes "p") 5)) (mark TwiceDefined (named (codes "p") 5))
one_place = inr (refl, omega arith)

-- what is computed is the first fault
first_is : IsFirst (class_of (named (codes "p") 1) ((named (codes "b") 7 ∷ []) ∷ []) AInt ∷ []) (mark NotAllowed (named (codes "p") 1))
unfolding is_extent_name is_name is_among term_word_named term_words
first_is = found_first (class_of (named (codes "p") 1) ((named (codes "b") 7 ∷ []) ∷ []) AInt ∷ []) (mark NotAllowed (named (codes "p") 1)) refl
