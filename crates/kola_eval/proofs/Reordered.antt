-- A term has the same value and the same visits in two databases that say the same of each constant and each attribute, as those of one set of objects do.
use Rattle.std.proofs.Common.{◌≡◌, ℕ, ◌+◌, not, cond, ◌&&◌, ◌||◌, List, Option, Some, None, map, filter, flat_map, length, refl, IsPermutation}
use Rattle.std.specs.Prelude.{sum_by}
use Rattle.std.proofs.lemmas.List.Sorted.{IsPermutation-sym}
use Rattle.kola_values.specs.Values.{ValueTree, VPair}
use Rattle.kola_values.specs.Order.{same}
use Rattle.kola_values.specs.Sets.{any, all, members, set_of}
use Rattle.kola_values.specs.Databases.{Classes, Objects, attribute_of, extent_class}
use Rattle.kola_values.proofs.Anys.{set_ext}
use Rattle.kola_schema.specs.Meets.{Meets}
use Rattle.kola_database.proofs.Reordered.{objects_reordered, attribute_reordered}
use Rattle.kola_term.specs.Terms.{ConstTree, CInt, CBool, CStr, CSet, CExtent, CMeta, FunTree, FId, FFst, FSnd, FFlat, FUnion, FIsect, FMinus, FAttr, FComp, FPair, FTimes, FK, FC, FIf, FIterate, FIter, FJoin, FNest, FUnnest, FMeta, PredTree, PEq, PLt, PLe, PMember, PAt, PAnd, POr, PNot, PInv, PKP, PCP, PEx, PFa, PMeta}
use Rattle.kola_term.specs.Meaning.{left, right, extent_objects, constant, den, holds_at}
use Rattle.kola_term.specs.Visits.{until, visits, pred_visits}

module _ (S : Classes) (d e : Objects) (attributes : (a : List ℕ) (v : ValueTree) → attribute_of a d v ≡ attribute_of a e v) (constants : (c : ConstTree) → constant S d c ≡ constant S e c) where
  mutual
    pub same_value : (f : FunTree) (v : ValueTree) → den S d f v ≡ den S e f v
    same_value FId v = refl
    same_value FFst v = refl
    same_value FSnd v = refl
    same_value FFlat v = refl
    same_value FUnion v = refl
    same_value FIsect v = refl
    same_value FMinus v = refl
    same_value (FAttr a) v = attributes a v
    same_value (FComp f g) v = λ j. same_value f (same_value g v j) j
    same_value (FPair f g) v = λ j. VPair (same_value f v j) (same_value g v j)
    same_value (FTimes f g) v = λ j. VPair (same_value f (left v) j) (same_value g (right v) j)
    same_value (FK c) v = constants c
    same_value (FC f c) v = λ j. same_value f (VPair (constants c j) v) j
    same_value (FIf p f g) v = λ j. cond (same_truth p v j) (same_value f v j) (same_value g v j)
    same_value (FIterate p f) v = λ j. set_of (map (λ x. same_value f x j) (filter (λ x. same_truth p x j) (members v)))
    same_value (FIter p f) v = λ j. set_of (map (λ y. same_value f (VPair (left v) y) j) (filter (λ y. same_truth p (VPair (left v) y) j) (members (right v))))
    same_value (FJoin p f) v = λ j. set_of (flat_map (λ x. map (λ y. same_value f (VPair x y) j) (filter (λ y. same_truth p (VPair x y) j) (members (right v)))) (members (left v)))
    same_value (FNest f g) v = λ j. set_of (map (λ y. VPair y (set_of (map (λ x. same_value g x j) (filter (λ x. same (same_value f x j) y) (members (left v)))))) (members (right v)))
    same_value (FUnnest f g) v = λ j. set_of (flat_map (λ x. map (λ y. VPair (same_value f x j) y) (members (same_value g x j))) (members v))
    same_value (FMeta n) v = refl

    pub same_truth : (p : PredTree) (v : ValueTree) → holds_at S d p v ≡ holds_at S e p v
    same_truth PEq v = refl
    same_truth PLt v = refl
    same_truth PLe v = refl
    same_truth PMember v = refl
    same_truth (PAt p f) v = λ j. same_truth p (same_value f v j) j
    same_truth (PAnd p q) v = λ j. same_truth p v j && same_truth q v j
    same_truth (POr p q) v = λ j. same_truth p v j || same_truth q v j
    same_truth (PNot p) v = λ j. not (same_truth p v j)
    same_truth (PInv p) v = λ j. same_truth p (VPair (right v) (left v)) j
    same_truth (PKP b) v = refl
    same_truth (PCP p c) v = λ j. same_truth p (VPair (constants c j) v) j
    same_truth (PEx p) v = λ j. any (λ y. same_truth p (VPair (left v) y) j) (members (right v))
    same_truth (PFa p) v = λ j. all (λ y. same_truth p (VPair (left v) y) j) (members (right v))
    same_truth (PMeta n) v = refl

  mutual
    pub same_visits : (f : FunTree) (v : ValueTree) → visits S d f v ≡ visits S e f v
    same_visits FId v = refl
    same_visits FFst v = refl
    same_visits FSnd v = refl
    same_visits FFlat v = refl
    same_visits FUnion v = refl
    same_visits FIsect v = refl
    same_visits FMinus v = refl
    same_visits (FAttr a) v = refl
    same_visits (FComp f g) v = λ j. same_visits g v j + same_visits f (same_value g v j) j
    same_visits (FPair f g) v = λ j. same_visits f v j + same_visits g v j
    same_visits (FTimes f g) v = λ j. same_visits f (left v) j + same_visits g (right v) j
    same_visits (FK c) v = refl
    same_visits (FC f c) v = λ j. same_visits f (VPair (constants c j) v) j
    same_visits (FIf p f g) v = λ j. same_checks p v j + cond (same_truth p v j) (same_visits f v j) (same_visits g v j)
    same_visits (FIterate p f) v = λ j. sum_by (λ x. 1 + same_checks p x j + cond (same_truth p x j) (same_visits f x j) 0) (members v)
    same_visits (FIter p f) v = λ j. sum_by (λ y. 1 + same_checks p (VPair (left v) y) j + cond (same_truth p (VPair (left v) y) j) (same_visits f (VPair (left v) y) j) 0) (members (right v))
    same_visits (FJoin p f) v = λ j. sum_by (λ x. sum_by (λ y. 1 + same_checks p (VPair x y) j + cond (same_truth p (VPair x y) j) (same_visits f (VPair x y) j) 0) (members (right v))) (members (left v))
    same_visits (FNest f g) v = λ j. sum_by (λ y. sum_by (λ x. 1 + same_visits f x j + cond (same (same_value f x j) y) (same_visits g x j) 0) (members (left v))) (members (right v))
    same_visits (FUnnest f g) v = λ j. sum_by (λ x. 1 + same_visits f x j + same_visits g x j + length (members (same_value g x j))) (members v)
    same_visits (FMeta n) v = refl

    pub same_checks : (p : PredTree) (v : ValueTree) → pred_visits S d p v ≡ pred_visits S e p v
    same_checks PEq v = refl
    same_checks PLt v = refl
    same_checks PLe v = refl
    same_checks PMember v = refl
    same_checks (PAt p f) v = λ j. same_visits f v j + same_checks p (same_value f v j) j
    same_checks (PAnd p q) v = λ j. same_checks p v j + cond (same_truth p v j) (same_checks q v j) 0
    same_checks (POr p q) v = λ j. same_checks p v j + cond (same_truth p v j) 0 (same_checks q v j)
    same_checks (PNot p) v = λ j. same_checks p v j
    same_checks (PInv p) v = λ j. same_checks p (VPair (right v) (left v)) j
    same_checks (PKP b) v = refl
    same_checks (PCP p c) v = λ j. same_checks p (VPair (constants c j) v) j
    same_checks (PEx p) v = λ j. until (λ y. same_truth p (VPair (left v) y) j) (λ y. 1 + same_checks p (VPair (left v) y) j) (members (right v))
    same_checks (PFa p) v = λ j. until (λ y. not (same_truth p (VPair (left v) y) j)) (λ y. 1 + same_checks p (VPair (left v) y) j) (members (right v))
    same_checks (PMeta n) v = refl

-- ---- the same objects in another order

module _ (S : Classes) (d e : Objects) (p : IsPermutation d e) (m : Meets S e) where
  back : IsPermutation e d
  back = IsPermutation-sym d e p

  extent_same : (o : Option (List ℕ)) → set_of (extent_objects o d) ≡ set_of (extent_objects o e)
  extent_same (Some c) = set_ext _ _ (λ q. objects_reordered e d back c q)
  extent_same None = refl

  constant_same : (c : ConstTree) → constant S d c ≡ constant S e c
  constant_same (CInt n) = refl
  constant_same (CBool b) = refl
  constant_same (CStr s) = refl
  constant_same (CSet vs) = refl
  constant_same (CExtent n) = extent_same (extent_class S n)
  constant_same (CMeta n) = refl

  attribute_same : (a : List ℕ) (v : ValueTree) → attribute_of a d v ≡ attribute_of a e v
  attribute_same a v = attribute_reordered e d back m.distinct a v

  pub value_kept : (f : FunTree) (v : ValueTree) → den S d f v ≡ den S e f v
  value_kept = same_value S d e attribute_same constant_same

  pub truth_kept : (q : PredTree) (v : ValueTree) → holds_at S d q v ≡ holds_at S e q v
  truth_kept = same_truth S d e attribute_same constant_same

  pub visits_kept : (f : FunTree) (v : ValueTree) → visits S d f v ≡ visits S e f v
  visits_kept = same_visits S d e attribute_same constant_same

  pub checks_kept : (q : PredTree) (v : ValueTree) → pred_visits S d q v ≡ pred_visits S e q v
  checks_kept = same_checks S d e attribute_same constant_same
