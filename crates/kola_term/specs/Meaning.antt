-- The denotation of a term: the value of a function, and the truth of a predicate, at a value in a database. Where the value is not of the term's input type, the answer is some value.
use Rattle.std.specs.Prelude.{ℕ, Bool, false, not, cond, ◌&&◌, ◌||◌, List, [], ◌++◌, Option, Some, None, map, filter, flat_map}
use Rattle.std.specs.Ordering.{is_lt, is_le}
use Rattle.kola_values.specs.Values.{ValueTree, VUnit, VInt, VBool, VStr, VPair}
use Rattle.kola_values.specs.Order.{cmp, same}
use Rattle.kola_values.specs.Sets.{any, all, has, members, set_of}
use Rattle.kola_values.specs.Databases.{Classes, Objects, attribute_of, objects_of, extent_class}
use Rattle.kola_term.specs.Terms.{ConstTree, CInt, CBool, CStr, CSet, CExtent, CMeta, FunTree, FId, FFst, FSnd, FFlat, FUnion, FIsect, FMinus, FAttr, FComp, FPair, FTimes, FK, FC, FIf, FIterate, FIter, FJoin, FNest, FUnnest, FMeta, PredTree, PEq, PLt, PLe, PMember, PAt, PAnd, POr, PNot, PInv, PKP, PCP, PEx, PFa, PMeta}

abbrev pub left : ValueTree → ValueTree
left (VPair v w) = v
left _ = VUnit

abbrev pub right : ValueTree → ValueTree
right (VPair v w) = w
right _ = VUnit

-- the objects of the class that the extent's name stands for
abbrev pub extent_objects : Option (List ℕ) → Objects → List ValueTree
extent_objects (Some c) d = objects_of c d
extent_objects None d = []

abbrev pub constant : Classes → Objects → ConstTree → ValueTree
constant S d (CInt n) = VInt n
constant S d (CBool b) = VBool b
constant S d (CStr s) = VStr s
constant S d (CSet vs) = set_of vs
constant S d (CExtent e) = set_of (extent_objects (extent_class S e) d)
constant S d (CMeta n) = VUnit

abbrev mutual
  -- f ! v
  pub den : Classes → Objects → FunTree → ValueTree → ValueTree
  den S d FId v = v
  den S d FFst v = left v
  den S d FSnd v = right v
  den S d FFlat v = set_of (flat_map members (members v))
  den S d FUnion v = set_of (members (left v) ++ members (right v))
  den S d FIsect v = set_of (filter (λ x. has x (members (right v))) (members (left v)))
  den S d FMinus v = set_of (filter (λ x. not (has x (members (right v)))) (members (left v)))
  den S d (FAttr a) v = attribute_of a d v
  den S d (FComp f g) v = den S d f (den S d g v)
  den S d (FPair f g) v = VPair (den S d f v) (den S d g v)
  den S d (FTimes f g) v = VPair (den S d f (left v)) (den S d g (right v))
  den S d (FK c) v = constant S d c
  den S d (FC f c) v = den S d f (VPair (constant S d c) v)
  den S d (FIf p f g) v = cond (holds_at S d p v) (den S d f v) (den S d g v)
  den S d (FIterate p f) v = set_of (map (den S d f) (filter (holds_at S d p) (members v)))
  den S d (FIter p f) v = set_of (map (λ y. den S d f (VPair (left v) y)) (filter (λ y. holds_at S d p (VPair (left v) y)) (members (right v))))
  den S d (FJoin p f) v = set_of (flat_map (λ x. map (λ y. den S d f (VPair x y)) (filter (λ y. holds_at S d p (VPair x y)) (members (right v)))) (members (left v)))
  den S d (FNest f g) v = set_of (map (λ y. VPair y (set_of (map (den S d g) (filter (λ x. same (den S d f x) y) (members (left v)))))) (members (right v)))
  den S d (FUnnest f g) v = set_of (flat_map (λ x. map (λ y. VPair (den S d f x) y) (members (den S d g x))) (members v))
  den S d (FMeta n) v = VUnit

  -- p ? v
  pub holds_at : Classes → Objects → PredTree → ValueTree → Bool
  holds_at S d PEq v = same (left v) (right v)
  holds_at S d PLt v = is_lt (cmp (left v) (right v))
  holds_at S d PLe v = is_le (cmp (left v) (right v))
  holds_at S d PMember v = has (left v) (members (right v))
  holds_at S d (PAt p f) v = holds_at S d p (den S d f v)
  holds_at S d (PAnd p q) v = holds_at S d p v && holds_at S d q v
  holds_at S d (POr p q) v = holds_at S d p v || holds_at S d q v
  holds_at S d (PNot p) v = not (holds_at S d p v)
  holds_at S d (PInv p) v = holds_at S d p (VPair (right v) (left v))
  holds_at S d (PKP b) v = b
  holds_at S d (PCP p c) v = holds_at S d p (VPair (constant S d c) v)
  holds_at S d (PEx p) v = any (λ y. holds_at S d p (VPair (left v) y)) (members (right v))
  holds_at S d (PFa p) v = all (λ y. holds_at S d p (VPair (left v) y)) (members (right v))
  holds_at S d (PMeta n) v = false
