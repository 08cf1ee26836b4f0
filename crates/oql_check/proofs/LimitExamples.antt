-- The limit on types, computed: a type of 4,096 nodes, and one of 4,097, of which the fault is told at its place.
use Rattle.std.proofs.Common.{◌≡◌, ℕ, zero, suc, [], ◌∷◌, Ok, refl, codes}
use Rattle.kola_values.specs.Types.{TypeTree, TInt, TClass, TSet, TStruct, TEnd, TField, type_nodes}
use Rattle.kola_values.specs.Databases.{Classes}
use Rattle.oql_tree.specs.QueryTrees.{QueryTree, QStruct, QSelect, NoFields, QField, NoWhere}
use Rattle.oql_check.specs.declared.fault.CheckWhy.TheVariants as why
use Rattle.oql_check.specs.Limits.{small, type_limit}
use Rattle.oql_check.specs.QueryTypes.{Scope, query_type, FirstFault}
use Rattle.oql_check.proofs.QueryExamples.{named, one_label, one_range, ones, doubled}

-- the type of a struct of two fields of a type, n times round a number: 2 ^ (n + 1) - 1 nodes
abbrev doubled_type : ℕ → TypeTree
doubled_type zero = TInt
doubled_type (suc n) = TStruct (TField (codes "a") (doubled_type n) (TField (codes "b") (doubled_type n) TEnd))

abbrev largest : TypeTree
largest = TSet (doubled_type 11)

nodes_at_the_limit : type_nodes largest ≡ type_limit
nodes_at_the_limit = refl

-- x and y have these types
abbrev scope : TypeTree → TypeTree → Scope
scope t u = (codes "x", t) ∷ (codes "y", u) ∷ []

-- select distinct x from z in set(1)
abbrev select_of_x : QueryTree
select_of_x = QSelect 2 (named 18 (codes "x")) (one_range (codes "z") 25 (ones 30)) NoWhere

a_set_at_the_limit : query_type [] (scope (doubled_type 11) TInt) select_of_x ≡ Ok largest
unfolding small
a_set_at_the_limit = refl

a_set_above_it : FirstFault [] (scope largest TInt) select_of_x 2 why.TypeTooLarge
unfolding small
a_set_above_it = refl

-- struct(a: x, b: y)
abbrev struct_of_both : QueryTree
struct_of_both = QStruct 3 (QField (codes "a") 10 (named 13 (codes "x")) (QField (codes "b") 16 (named 19 (codes "y")) NoFields))

-- 1 + 2,047 + 2,047 + 1
a_struct_at_the_limit : query_type [] (scope (TSet (doubled_type 10)) (doubled_type 10)) struct_of_both ≡ Ok (TStruct (TField (codes "a") (TSet (doubled_type 10)) (TField (codes "b") (doubled_type 10) TEnd)))
unfolding small
a_struct_at_the_limit = refl

a_struct_above_it : FirstFault [] (scope (TSet (doubled_type 10)) (TSet (doubled_type 10))) struct_of_both 3 why.TypeTooLarge
unfolding small
a_struct_above_it = refl

-- a type that doubles at each level: eleven are typed, the twelfth is not
eleven_levels : query_type [] [] (doubled 11) ≡ Ok (doubled_type 11)
unfolding small
eleven_levels = refl

the_twelfth_level : FirstFault [] [] (doubled 12) 11 why.TypeTooLarge
unfolding small
the_twelfth_level = refl

-- an attribute's type, which a schema may make as large as it likes
abbrev schema_of : TypeTree → Classes
schema_of t = (record { name = codes "C"; extent = codes "Cs"; attributes = (codes "a", t) ∷ []; keys = [] }) ∷ []

abbrev attribute_of_x : QueryTree
attribute_of_x = one_label 2 (named 0 (codes "x")) (codes "a")

an_attribute_at_the_limit : query_type (schema_of largest) (scope (TClass (codes "C")) TInt) attribute_of_x ≡ Ok largest
unfolding small
an_attribute_at_the_limit = refl

an_attribute_above_it : FirstFault (schema_of (TSet largest)) (scope (TClass (codes "C")) TInt) attribute_of_x 2 why.TypeTooLarge
unfolding small
an_attribute_above_it = refl
