-- The limits on terms, computed: a term at each limit, and one above it.
use Rattle.std.proofs.Common.{◌≡◌, ◌≤◌, ◌+◌, ℕ, zero, suc, pos, [], ◌∷◌, true, refl, arith, codes}
use Rattle.kola_values.specs.Types.{TypeTree, TInt, TStr, TUnit, TClass, TSet, TPair, type_nodes}
use Rattle.kola_term.specs.Terms.{CInt, FunTree, FId, FAttr, FSnd, FFst, FComp, FPair, FK, FIterate, FIter, PredTree, PNot, PKP, TermTree, TermF, TermP}
use Rattle.kola_term.specs.Counts.{nodes, depth}
use Rattle.kola_term.specs.Limits.{type_limit, node_limit, depth_limit}
use Rattle.kola_term.specs.Faults.{Fine, FaultAt, Fits, TypeTooLarge, small}
use Rattle.kola_term.proofs.Unique.{judged_says}
use Rattle.kola_term.proofs.Sample.{sample_schema}
use Rattle.kola_term.proofs.Examples.{below, years}

-- ---- fine terms

fine_below : Fine sample_schema [] (TermF (below 3)) TUnit (TSet TInt)
unfolding small
fine_below = judged_says sample_schema [] (TermF (below 3)) TUnit

fine_years : Fine sample_schema [] (TermF years) TUnit (TSet TInt)
unfolding small
fine_years = judged_says sample_schema [] (TermF years) TUnit

fine_predicate : Fine [] [] (TermP (PNot (PKP true))) TInt TInt
fine_predicate = judged_says [] [] (TermP (PNot (PKP true))) TInt

-- ---- a type of 4,096 nodes, and one of 4,097

-- <id, id> after itself, n times: the output type has 2 ^ (n + 1) - 1 nodes at int
abbrev doubled : ℕ → FunTree
doubled zero = FId
doubled (suc n) = FComp (FPair FId FId) (doubled n)

abbrev doubled_type : ℕ → TypeTree
doubled_type zero = TInt
doubled_type (suc n) = TPair (doubled_type n) (doubled_type n)

-- iterate(KP(true), f)
abbrev of_each : FunTree → FunTree
of_each f = FIterate (PKP true) f

large_type : type_nodes (TSet (doubled_type 11)) ≡ type_limit
large_type = refl

largest_type : Fine [] [] (TermF (of_each (doubled 11))) (TSet TInt) (TSet (doubled_type 11))
unfolding small
largest_type = judged_says [] [] (TermF (of_each (doubled 11))) (TSet TInt)

one_node_more : FaultAt [] [] (TermF (of_each (of_each (doubled 11)))) (TSet (TSet TInt)) [] TypeTooLarge
unfolding small
one_node_more = judged_says [] [] (TermF (of_each (of_each (doubled 11)))) (TSet (TSet TInt))

-- ---- 20,000 nodes, and 20,001

-- 2 ^ (n + 1) - 1 nodes
abbrev full : ℕ → FunTree
full zero = FId
full (suc n) = FComp (full n) (full n)

abbrev many : FunTree → FunTree
many f = FComp (full 13) (FComp (full 10) (FComp (full 9) (FComp (full 8) (FComp (full 3) (FComp (full 2) (FComp (full 1) (FComp FId f)))))))

-- K(1), and (id o id)
most_nodes : nodes (TermF (many (FK (CInt (pos 1))))) ≡ node_limit
most_nodes = refl

too_many_nodes : nodes (TermF (many (FComp FId FId))) ≡ node_limit + 1
too_many_nodes = refl

-- ---- depth 256, and 257

abbrev nots : ℕ → PredTree
nots zero = PKP true
nots (suc n) = PNot (nots n)

deepest : depth (TermP (nots 255)) ≡ depth_limit
deepest = refl

too_deep : depth (TermP (nots 256)) ≡ depth_limit + 1
too_deep = refl

-- ---- terms that fit

below_fits : Fits sample_schema [] (TermF (below 3)) TUnit (TSet TInt)
below_fits = record { few = omega arith; shallow = omega arith; fine = fine_below }

deepest_fits : Fits [] [] (TermP (nots 255)) TUnit TInt
deepest_fits = record { few = omega arith; shallow = omega arith; fine = judged_says [] [] (TermP (nots 255)) TUnit }

-- each limit refuses
many_do_not_fit : (T u : TypeTree) → Fits [] [] (TermF (many (FComp FId FId))) T u → ⊥
many_do_not_fit T u h = absurd (let e : 20001 ≤ 20000 = h.few in omega arith)

deep_do_not_fit : (T u : TypeTree) → Fits [] [] (TermP (nots 256)) T u → ⊥
deep_do_not_fit T u h = absurd (let e : 257 ≤ 256 = h.shallow in omega arith)
