-- The queries whose canonical spelling the grammar taken, with n links in a chain and d levels below, where o says whether the end is
-- open: the parts are so at the places where the spelling has them.
use Rattle.std.specs.Prelude.{◌≡◌, ◌≤◌, ℕ, zero, suc, Bool, true, false, List, [], ◌∷◌, length, None}
use Rattle.std.specs.Str.{IsUtf8}
use Rattle.kola_core.specs.Integers.{in_64}
use Rattle.kola_base.specs.declared.scan.Sort.TheVariants as sorts
use Rattle.kola_base.specs.Pieces.{piece}
use Rattle.oql_syntax.specs.Alphabet.{query_word_named}
use Rattle.oql_tree.specs.QueryTrees.{LitTree, LitInt, LitStr, LitBool, QueryTree, QName, QLiteral, QSetOf, QPath, QStruct, QFlatten, QSomeMember, QNot, QIntersect, QAnd, QOr, QUnionExcept, QCompare, QExists, QForAll, QSelect, QueryLinks, NoLinks, Link, SetLinks, NoSets, SetLink, QueryFields, NoFields, QField, QueryRanges, NoRanges, QRange, QueryWhere, NoWhere, Where, links, set_links, fields, ranges}
use Rattle.oql_laws.proofs.Places.{Place, taken}
use Rattle.oql_laws.proofs.Places as class

abbrev pub IsName : List ℕ → Type 0
IsName x = (piece sorts.Word x ≡ true) × (query_word_named x ≡ None)

abbrev pub IsLabel : List ℕ × ℕ → Type 0
IsLabel l = piece sorts.Word l.0 ≡ true

abbrev pub IsLit : LitTree → Type 0
IsLit (LitInt z) = in_64 z ≡ true
IsLit (LitStr bs) = IsUtf8 bs
IsLit (LitBool b) = Unit {0}

abbrev pub NotEmpty : {A : Type 0} → List A → Type 0
NotEmpty [] = ⊥
NotEmpty (v ∷ vs) = Unit {0}

abbrev pub EachOf : {A : Type 0} → (A → Type 0) → List A → Type 0
EachOf P [] = Unit {0}
EachOf P (v ∷ vs) = P v × EachOf P vs

-- one level below
abbrev pub Inside : ℕ → (ℕ → Type 0) → Type 0
Inside zero F = ⊥
Inside (suc d) F = F d

-- bare where the place takes it, and else in parentheses
abbrev pub FitsBy : Bool → ℕ → Bool → (ℕ → Bool → Type 0) → Type 0
FitsBy true d o F = F d o
FitsBy false d o F = Inside d (λ d. F d true)

-- whether the end of an operand is open, before these links
abbrev pub open_before : Bool → QueryLinks → Bool
open_before o NoLinks = o
open_before o (Link p e ls) = false

abbrev mutual
  pub Fits : ℕ → ℕ → Bool → QueryTree → Type 0
  Fits n d o (QName p x) = IsName x
  Fits n d o (QLiteral p v) = IsLit v
  Fits n d o (QSetOf p vs) = NotEmpty vs × EachOf (λ v. IsLit v.0) vs
  Fits n d o (QPath p e ls) = FitsBy (taken class.Prim false e) d false (λ d o. Fits n d o e) × NotEmpty ls × (length ls ≤ n) × EachOf IsLabel ls
  Fits n d o (QStruct p fs) = NotEmpty (fields fs) × FitFields n d fs
  Fits n d o (QFlatten p e) = Inside d (λ d. Fits n d true e)
  Fits n d o (QSomeMember p e) = Inside d (λ d. Fits n d true e)
  Fits n d o (QNot p e) = Inside d (λ d. FitsBy (taken class.Not o e) d o (λ d o. Fits n d o e))
  Fits n d o (QIntersect p e ls) = NotEmpty (links ls) × (length (links ls) ≤ n) × FitsBy (taken class.Path (open_before false ls) e) d (open_before false ls) (λ d o. Fits n d o e) × FitLinks n class.Path d false ls
  Fits n d o (QAnd p e ls) = NotEmpty (links ls) × (length (links ls) ≤ n) × FitsBy (taken class.Not (open_before o ls) e) d (open_before o ls) (λ d o. Fits n d o e) × FitLinks n class.Not d o ls
  Fits n d o (QOr p e ls) = NotEmpty (links ls) × (length (links ls) ≤ n) × FitsBy (taken class.And (open_before o ls) e) d (open_before o ls) (λ d o. Fits n d o e) × FitLinks n class.And d o ls
  Fits n d o (QUnionExcept p e ls) = NotEmpty (set_links ls) × (length (set_links ls) ≤ n) × FitsBy (taken class.Meet false e) d false (λ d o. Fits n d o e) × FitSets n d ls
  Fits n d o (QCompare p s a b) = FitsBy (taken class.Sets false a) d false (λ d o. Fits n d o a) × FitsBy (taken class.Sets false b) d false (λ d o. Fits n d o b)
  Fits n d o (QExists p x r e) = (o ≡ true) × IsName x × Inside d (λ d. FitsBy (taken class.Sets false r) d false (λ d o. Fits n d o r)) × Inside d (λ d. Fits n d true e)
  Fits n d o (QForAll p x r e) = (o ≡ true) × IsName x × Inside d (λ d. FitsBy (taken class.Sets false r) d false (λ d o. Fits n d o r)) × Inside d (λ d. Fits n d true e)
  Fits n d o (QSelect p h rs c) = Inside d (λ d. Fits n d true h) × NotEmpty (ranges rs) × FitRanges n d rs × FitWhere n d c

  pub FitLinks : ℕ → Place → ℕ → Bool → QueryLinks → Type 0
  FitLinks n c d o NoLinks = Unit {0}
  FitLinks n c d o (Link p e ls) = FitsBy (taken c (open_before o ls) e) d (open_before o ls) (λ d o. Fits n d o e) × FitLinks n c d o ls

  pub FitSets : ℕ → ℕ → SetLinks → Type 0
  FitSets n d NoSets = Unit {0}
  FitSets n d (SetLink p b e ls) = FitsBy (taken class.Meet false e) d false (λ d o. Fits n d o e) × FitSets n d ls

  pub FitFields : ℕ → ℕ → QueryFields → Type 0
  FitFields n d NoFields = Unit {0}
  FitFields n d (QField l p e fs) = (piece sorts.Word l ≡ true) × Inside d (λ d. Fits n d true e) × FitFields n d fs

  pub FitRanges : ℕ → ℕ → QueryRanges → Type 0
  FitRanges n d NoRanges = Unit {0}
  FitRanges n d (QRange x p e rs) = IsName x × Inside d (λ d. FitsBy (taken class.Sets false e) d false (λ d o. Fits n d o e)) × FitRanges n d rs

  pub FitWhere : ℕ → ℕ → QueryWhere → Type 0
  FitWhere n d NoWhere = Unit {0}
  FitWhere n d (Where p e) = Inside d (λ d. Fits n d true e)

-- the query at a place of the class
abbrev pub FitsAt : ℕ → Place → ℕ → Bool → QueryTree → Type 0
FitsAt n c d o e = FitsBy (taken c o e) d o (λ d o. Fits n d o e)
