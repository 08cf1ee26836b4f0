-- The plain trees of queries. The first number of a node is its place: where its main token begins, in bytes from 0.
use Rattle.std.specs.Prelude.{ℕ, ℤ, Bool, List, [], ◌∷◌}
use Rattle.oql_tree.specs.declared.query.Sign.{Sign}

pub data LitTree : Type 0 where
  LitInt : (n : ℤ) → LitTree
  LitStr : (text : List ℕ) → LitTree
  LitBool : (b : Bool) → LitTree

mutual
  pub data QueryTree : Type 0 where
    QName : (at : ℕ) (name : List ℕ) → QueryTree
    QLiteral : (at : ℕ) (value : LitTree) → QueryTree
    -- each literal with its place
    QSetOf : (at : ℕ) (literals : List (LitTree × ℕ)) → QueryTree
    -- each label with its place
    QPath : (at : ℕ) (e : QueryTree) (labels : List (List ℕ × ℕ)) → QueryTree
    QStruct : (at : ℕ) (fields : QueryFields) → QueryTree
    QFlatten : (at : ℕ) (e : QueryTree) → QueryTree
    -- exists(e)
    QSomeMember : (at : ℕ) (e : QueryTree) → QueryTree
    QNot : (at : ℕ) (e : QueryTree) → QueryTree
    QIntersect : (at : ℕ) (e : QueryTree) (links : QueryLinks) → QueryTree
    QAnd : (at : ℕ) (e : QueryTree) (links : QueryLinks) → QueryTree
    QOr : (at : ℕ) (e : QueryTree) (links : QueryLinks) → QueryTree
    QUnionExcept : (at : ℕ) (e : QueryTree) (links : SetLinks) → QueryTree
    QCompare : (at : ℕ) (sign : Sign) (a b : QueryTree) → QueryTree
    -- variable, range, body
    QExists : (at : ℕ) (x : List ℕ) (range body : QueryTree) → QueryTree
    QForAll : (at : ℕ) (x : List ℕ) (range body : QueryTree) → QueryTree
    QSelect : (at : ℕ) (head : QueryTree) (ranges : QueryRanges) (condition : QueryWhere) → QueryTree

  -- the operands of a chain behind its first one, each with the place of the sign before it
  pub data QueryLinks : Type 0 where
    NoLinks : QueryLinks
    Link : (at : ℕ) (e : QueryTree) (links : QueryLinks) → QueryLinks

  -- the same for `union`, or where b is true `except`
  pub data SetLinks : Type 0 where
    NoSets : SetLinks
    SetLink : (at : ℕ) (b : Bool) (e : QueryTree) (links : SetLinks) → SetLinks

  -- label, its place, expression
  pub data QueryFields : Type 0 where
    NoFields : QueryFields
    QField : (label : List ℕ) (at : ℕ) (e : QueryTree) (fields : QueryFields) → QueryFields

  -- variable, its place, range
  pub data QueryRanges : Type 0 where
    NoRanges : QueryRanges
    QRange : (x : List ℕ) (at : ℕ) (e : QueryTree) (ranges : QueryRanges) → QueryRanges

  -- the place of `where`, and the condition
  pub data QueryWhere : Type 0 where
    NoWhere : QueryWhere
    Where : (at : ℕ) (e : QueryTree) → QueryWhere

-- ---- the lists in a tree, and lists as these

abbrev pub of_links : List (ℕ × QueryTree) → QueryLinks
of_links [] = NoLinks
of_links (l ∷ ls) = Link l.0 l.1 (of_links ls)

abbrev pub of_set_links : List (ℕ × Bool × QueryTree) → SetLinks
of_set_links [] = NoSets
of_set_links (l ∷ ls) = SetLink l.0 l.1 l.2 (of_set_links ls)

abbrev pub of_fields : List (List ℕ × ℕ × QueryTree) → QueryFields
of_fields [] = NoFields
of_fields (f ∷ fs) = QField f.0 f.1 f.2 (of_fields fs)

abbrev pub of_ranges : List (List ℕ × ℕ × QueryTree) → QueryRanges
of_ranges [] = NoRanges
of_ranges (r ∷ rs) = QRange r.0 r.1 r.2 (of_ranges rs)

abbrev pub links : QueryLinks → List (ℕ × QueryTree)
links NoLinks = []
links (Link at e ls) = (at, e) ∷ links ls

abbrev pub set_links : SetLinks → List (ℕ × Bool × QueryTree)
set_links NoSets = []
set_links (SetLink at b e ls) = (at, b, e) ∷ set_links ls

abbrev pub fields : QueryFields → List (List ℕ × ℕ × QueryTree)
fields NoFields = []
fields (QField l at e fs) = (l, at, e) ∷ fields fs

abbrev pub ranges : QueryRanges → List (List ℕ × ℕ × QueryTree)
ranges NoRanges = []
ranges (QRange x at e rs) = (x, at, e) ∷ ranges rs
