-- Reading queries from left to right: what is read goes by the kind of the next token. n is how many links a chain may have.
use Rattle.std.specs.Prelude.{ℕ, suc, List, [], ◌∷◌, ◌++◌, Bool, true, false, Option, Some, None}
use Rattle.kola_base.specs.Alphabets.{sign}
use Rattle.kola_base.specs.Named.{Named, name_of, name_at}
use Rattle.kola_base.specs.Placed.{Placed}
use Rattle.kola_base.specs.declared.sign.Sign.TheVariants as s
use Rattle.kola_parse.specs.Kinds.{ahead, deeper}
use Rattle.kola_parse.specs.Levels as levels
use Rattle.kola_parse.specs.Listed.{listed}
use Rattle.kola_parse.specs.Reader.{Answer, then, Move, Stray, Deep, Goes, eat, done, pair, made, may, chain, many, other, stop, Round, Again, Final, rounds}
use Rattle.oql_syntax.specs.Alphabet.{Kind, KSign, KWord, KName, KNumber, KString, kind, word, query_word_spelling}
pub use Rattle.oql_syntax.specs.QueryParts.{named, literal_of, comparison_of, path_tree, chain_tree, union_tree}
use Rattle.oql_syntax.specs.Tails.{Tail, Plain, Compared, Ranged, Labelled, opened}
use Rattle.oql_tree.specs.QueryTrees.{LitTree, LitInt, LitStr, LitBool, QueryTree, QName, QLiteral, QSetOf, QStruct, QFlatten, QSomeMember, QNot, QIntersect, QAnd, QOr, QCompare, QExists, QForAll, QSelect, QueryLinks, QueryWhere, NoWhere, Where, of_fields, of_ranges}
use Rattle.oql_tree.specs.declared.query.Sign.{Sign}
use Rattle.oql_syntax.specs.declared.word.QueryWord.{QueryWord}
use Rattle.oql_syntax.specs.declared.word.QueryWord.TheVariants as q

abbrev pub Reader : Type 0 → Type 0
Reader A = List Placed → Answer Placed A

-- ---- one token

-- a token of the word
abbrev pub is_word : QueryWord → Placed → Bool
is_word w = word (query_word_spelling w)

abbrev pub variable_move : Kind → ℕ → Move Placed Named
variable_move (KName x) at = Goes (done (named x at))
variable_move _ at = Stray

-- a name, which is no word of queries
abbrev pub variable : Reader Named
variable = eat (λ t. variable_move (kind t) t.at)

abbrev pub literal_move : Option LitTree → ℕ → Move Placed (LitTree × ℕ)
literal_move (Some l) at = Goes (done (l, at))
literal_move None at = Stray

-- a literal, with its place
abbrev pub literal : Reader (LitTree × ℕ)
literal = eat (λ t. literal_move (literal_of (kind t)) t.at)

-- what is read behind a first token goes on so
abbrev pub led : {A B : Type 0} → (Reader A → Reader B) → Move Placed A → Move Placed B
led g Stray = Stray
led g Deep = Deep
led g (Goes p) = Goes (g p)

-- ---- the readers of one level

-- an expression, and how its text ended
abbrev pub Tailed : Type 0
Tailed = QueryTree × Tail

-- variable, its place, range
abbrev pub RangeParts : Type 0
RangeParts = List ℕ × ℕ × QueryTree

-- label, its place, expression
abbrev pub FieldParts : Type 0
FieldParts = List ℕ × ℕ × QueryTree

abbrev pub RangesTailed : Type 0
RangesTailed = List RangeParts × Tail

-- The readers of what stands on one level; b says whether it is a field of a struct, so that the next label may follow it.
pub record Level : Type 0 where
  pub sets : Reader QueryTree
  pub opennot : Bool → Reader Tailed
  pub full : Bool → Reader Tailed
  pub ranges : Bool → Reader RangesTailed
  pub fields : Reader (List FieldParts)

-- what p reads, up to the parenthesis
abbrev pub closed : {A : Type 0} → Reader (A × Tail) → Reader A
closed p = then p (λ v. ahead (sign s.Close) (done v.0))

-- ---- literals of a set

-- behind a literal: one more, or the parenthesis
abbrev pub next_literal_move : Kind → Move Placed (Option (LitTree × ℕ))
next_literal_move (KSign s.Comma) = Goes (made Some literal)
next_literal_move (KSign s.Close) = Goes (done None)
next_literal_move _ = Stray

abbrev pub next_literal : Reader (Option (LitTree × ℕ))
next_literal = eat (λ t. next_literal_move (kind t))

abbrev pub first_and : {A : Type 0} → A × List A → List A
first_and x = x.0 ∷ x.1

abbrev pub literals : Reader (List (LitTree × ℕ))
literals = made first_and (pair literal (λ _. listed next_literal []))

-- ---- first operands

-- what stands in the parentheses behind `set`, `struct`, `flatten` and `exists`, words at this place
abbrev pub set_in : ℕ → Reader QueryTree
set_in at = made (QSetOf at) literals

abbrev pub struct_tree : ℕ → List FieldParts → QueryTree
struct_tree at fs = QStruct at (of_fields fs)

abbrev pub struct_in : Level → ℕ → Reader QueryTree
struct_in i at = made (struct_tree at) i.fields

abbrev pub flatten_in : Level → ℕ → Reader QueryTree
flatten_in i at = made (QFlatten at) (closed (i.full false))

abbrev pub some_in : Level → ℕ → Reader QueryTree
some_in i at = made (QSomeMember at) (closed (i.full false))

abbrev pub prim_move : Option Level → Kind → ℕ → Move Placed QueryTree
prim_move o (KName x) at = Goes (done (QName at x))
prim_move o (KNumber z) at = Goes (done (QLiteral at (LitInt z)))
prim_move o (KString b) at = Goes (done (QLiteral at (LitStr b)))
prim_move o (KWord q.True) at = Goes (done (QLiteral at (LitBool true)))
prim_move o (KWord q.False) at = Goes (done (QLiteral at (LitBool false)))
prim_move o (KWord q.Set) at = Goes (ahead (sign s.Open) (set_in at))
prim_move o (KWord q.Struct) at = deeper o (λ i. ahead (sign s.Open) (struct_in i at))
prim_move o (KWord q.Flatten) at = deeper o (λ i. ahead (sign s.Open) (flatten_in i at))
prim_move o (KWord q.Exists) at = deeper o (λ i. ahead (sign s.Open) (some_in i at))
prim_move o (KSign s.Open) at = deeper o (λ i. closed (i.full false))
prim_move o _ at = Stray

abbrev pub prim : Option Level → Reader QueryTree
prim o = eat (λ t. prim_move o (kind t) t.at)

-- ---- paths, from a first operand that p reads

-- an operand, and the labels behind it with their places
abbrev pub PathParts : Type 0
PathParts = QueryTree × List (List ℕ × ℕ)

abbrev pub no_labels : QueryTree → PathParts
no_labels e = (e, [])

abbrev pub add_label : PathParts → Named → PathParts
add_label x l = (x.0, x.1 ++ (l.name, l.at) ∷ [])

abbrev pub path_of : PathParts → QueryTree
path_of x = path_tree x.0 x.1

abbrev pub label_move : Kind → Move Placed Named
label_move (KSign s.Dot) = Goes name_at
label_move (KSign s.Arrow) = Goes name_at
label_move _ = Stray

abbrev pub path_by : ℕ → Reader QueryTree → Reader QueryTree
path_by n p = made path_of (then (made no_labels p) (λ x. chain (λ (x : PathParts) t. label_move (kind t)) add_label n x))

-- ---- chains of intersect

-- an operand, and those behind it, each with the place of the sign before it
abbrev pub Operands : Type 0
Operands = QueryTree × List (ℕ × QueryTree)

abbrev pub no_operands : QueryTree → Operands
no_operands e = (e, [])

abbrev pub add_operand : Operands → ℕ × QueryTree → Operands
add_operand x l = (x.0, x.1 ++ l ∷ [])

abbrev pub intersect_of : Operands → QueryTree
intersect_of x = chain_tree QIntersect x.0 x.1

abbrev pub at_place : {A : Type 0} → ℕ → A → ℕ × A
at_place at e = (at, e)

abbrev pub intersect_move : Reader QueryTree → ℕ → Kind → Move Placed (ℕ × QueryTree)
intersect_move path at (KWord q.Intersect) = Goes (made (at_place at) path)
intersect_move path at _ = Stray

abbrev pub meet_by : ℕ → Reader QueryTree → Reader QueryTree → Reader QueryTree
meet_by n path p = made intersect_of (then (made no_operands (path_by n p)) (λ x. chain (λ (x : Operands) t. intersect_move path t.at (kind t)) add_operand n x))

-- intersections that begin with what p reads
abbrev pub meet_from : ℕ → Option Level → Reader QueryTree → Reader QueryTree
meet_from n o p = meet_by n (path_by n (prim o)) p

-- ---- chains of union and except

-- the same, where a sign is `union`, or `except` where it is true
abbrev pub SetOperands : Type 0
SetOperands = QueryTree × List (ℕ × Bool × QueryTree)

abbrev pub no_set_operands : QueryTree → SetOperands
no_set_operands e = (e, [])

abbrev pub add_set_operand : SetOperands → ℕ × Bool × QueryTree → SetOperands
add_set_operand x l = (x.0, x.1 ++ l ∷ [])

abbrev pub union_of : SetOperands → QueryTree
union_of x = union_tree x.0 x.1

abbrev pub set_operand : ℕ → Bool → QueryTree → ℕ × Bool × QueryTree
set_operand at b e = (at, b, e)

abbrev pub union_move : Reader QueryTree → ℕ → Kind → Move Placed (ℕ × Bool × QueryTree)
union_move meet at (KWord q.Union) = Goes (made (set_operand at false) meet)
union_move meet at (KWord q.Except) = Goes (made (set_operand at true) meet)
union_move meet at _ = Stray

abbrev pub sets_by : ℕ → Reader QueryTree → Reader QueryTree → Reader QueryTree
sets_by n meet m = made union_of (then (made no_set_operands m) (λ x. chain (λ (x : SetOperands) t. union_move meet t.at (kind t)) add_set_operand n x))

-- sets that begin with what p reads
abbrev pub sets_from : ℕ → Option Level → Reader QueryTree → Reader QueryTree
sets_from n o p = sets_by n (meet_from n o (prim o)) (meet_from n o p)

abbrev pub sets : ℕ → Option Level → Reader QueryTree
sets n o = sets_from n o (prim o)

-- ---- comparisons

abbrev pub plain : QueryTree → Tailed
plain e = (e, Plain)

abbrev pub compared : Tailed → ℕ × Sign × QueryTree → Tailed
compared v l = (QCompare l.0 l.1 v.0 l.2, Compared)

abbrev pub compared_with : ℕ → Sign → QueryTree → ℕ × Sign × QueryTree
compared_with at z e = (at, z, e)

abbrev pub comparison_by : Reader QueryTree → ℕ → Option Sign → Move Placed (ℕ × Sign × QueryTree)
comparison_by sets at (Some z) = Goes (made (compared_with at z) sets)
comparison_by sets at None = Stray

abbrev pub comparison_move : Reader QueryTree → Tail → ℕ → Kind → Move Placed (ℕ × Sign × QueryTree)
comparison_move sets Plain at k = comparison_by sets at (comparison_of k)
comparison_move sets _ at k = Stray

-- at most one comparison: behind it the tail is another one
abbrev pub cmp_from : ℕ → Option Level → Reader QueryTree → Reader Tailed
cmp_from n o p = then (made plain (sets_from n o p)) (λ v. chain (λ (v : Tailed) t. comparison_move (sets n o) v.1 t.at (kind t)) compared (suc n) v)

-- ---- quantifiers, not

abbrev pub with_body : (QueryTree → QueryTree → QueryTree) → QueryTree → Tailed → Tailed
with_body k r v = (k r v.0, opened v.1)

-- behind the variable of a quantifier
abbrev pub quantified : Level → Bool → (QueryTree → QueryTree → QueryTree) → Reader Tailed
quantified i b k = ahead (is_word q.In) (then i.sets (λ r. ahead (sign s.Colon) (made (with_body k r) (i.full b))))

abbrev pub exists_move : ℕ → Bool → Option Level → Level → ℕ → Kind → Move Placed Tailed
exists_move n b o i at (KName x) = Goes (quantified i b (QExists at x))
exists_move n b o i at (KSign s.Open) = Goes (cmp_from n o (some_in i at))
exists_move n b o i at _ = Stray

abbrev pub not_tree : ℕ → Tailed → Tailed
not_tree at v = (QNot at v.0, v.1)

abbrev pub opennot_move : ℕ → Bool → Option Level → Kind → ℕ → Move Placed Tailed
opennot_move n b o (KWord q.Not) at = deeper o (λ i. made (not_tree at) (i.opennot b))
opennot_move n b o (KWord q.Exists) at = deeper o (λ i. eat (λ u. exists_move n b o i at (kind u)))
opennot_move n b o (KWord q.For) at = deeper o (λ i. ahead (is_word q.All) (then variable (λ x. quantified i b (QForAll at x.name))))
opennot_move n b o k at = led (cmp_from n o) (prim_move o k at)

abbrev pub opennot : ℕ → Bool → Option Level → Reader Tailed
opennot n b o = eat (λ t. opennot_move n b o (kind t) t.at)

-- ---- chains of and, and of or: behind an open operand there is no link

abbrev pub OperandsTailed : Type 0
OperandsTailed = QueryTree × List (ℕ × QueryTree) × Tail

abbrev pub first_operand : Tailed → OperandsTailed
first_operand v = (v.0, [], v.1)

abbrev pub more_operands : OperandsTailed → ℕ × QueryTree × Tail → OperandsTailed
more_operands x l = (x.0, x.1 ++ (l.0, l.1) ∷ [], l.2)

abbrev pub joined : (ℕ → QueryTree → QueryLinks → QueryTree) → OperandsTailed → Tailed
joined k x = (chain_tree k x.0 x.1, x.2)

abbrev pub placed_operand : ℕ → Tailed → ℕ × QueryTree × Tail
placed_operand at v = (at, v.0, v.1)

abbrev pub and_move : Reader Tailed → Tail → ℕ → Kind → Move Placed (ℕ × QueryTree × Tail)
and_move p Plain at (KWord q.And) = Goes (made (placed_operand at) p)
and_move p Compared at (KWord q.And) = Goes (made (placed_operand at) p)
and_move p _ at _ = Stray

-- p reads the first operand, and m the others
abbrev pub and_from : ℕ → Reader Tailed → Reader Tailed → Reader Tailed
and_from n m p = made (joined QAnd) (then (made first_operand p) (λ x. chain (λ (x : OperandsTailed) t. and_move m x.2 t.at (kind t)) more_operands n x))

abbrev pub or_move : Reader Tailed → Tail → ℕ → Kind → Move Placed (ℕ × QueryTree × Tail)
or_move p Plain at (KWord q.Or) = Goes (made (placed_operand at) p)
or_move p Compared at (KWord q.Or) = Goes (made (placed_operand at) p)
or_move p _ at _ = Stray

abbrev pub or_from : ℕ → Reader Tailed → Reader Tailed → Reader Tailed
or_from n m p = made (joined QOr) (then (made first_operand p) (λ x. chain (λ (x : OperandsTailed) t. or_move m x.2 t.at (kind t)) more_operands n x))

abbrev pub openand : ℕ → Bool → Option Level → Reader Tailed
openand n b o = and_from n (opennot n b o) (opennot n b o)

-- what begins with an operand that p reads
abbrev pub openor_from : ℕ → Bool → Option Level → Reader Tailed → Reader Tailed
openor_from n b o p = or_from n (openand n b o) (and_from n (opennot n b o) p)

-- ---- selects

abbrev pub SelectParts : Type 0
SelectParts = List RangeParts × QueryWhere × Tail

abbrev pub no_where : RangesTailed → SelectParts
no_where r = (r.0, NoWhere, r.1)

abbrev pub with_where : SelectParts → ℕ × QueryTree × Tail → SelectParts
with_where x l = (x.0, Where l.0 l.1, opened l.2)

abbrev pub selected : ℕ → QueryTree → SelectParts → Tailed
selected at h x = (QSelect at h (of_ranges x.0) x.1, x.2)

-- a condition stands behind ranges, and only one
abbrev pub where_move : Reader Tailed → QueryWhere → Tail → ℕ → Kind → Move Placed (ℕ × QueryTree × Tail)
where_move p NoWhere (Ranged b) at (KWord q.Where) = Goes (made (placed_operand at) p)
where_move p _ _ at _ = Stray

-- behind `from`
abbrev pub select_rest : ℕ → Level → Bool → ℕ → QueryTree → Reader Tailed
select_rest n i b at h =
    made (selected at h) (then (made no_where (i.ranges b)) (λ x. chain (λ (x : SelectParts) t. where_move (i.full b) x.1 x.2 t.at (kind t)) with_where (suc n) x))

abbrev pub select : ℕ → Level → Bool → ℕ → Reader Tailed
select n i b at = ahead (is_word q.Distinct) (then (i.full false) (λ h. ahead (is_word q.From) (select_rest n i b at h.0)))

abbrev pub full_move : ℕ → Bool → Option Level → Kind → ℕ → Move Placed Tailed
full_move n b o (KWord q.Select) at = deeper o (λ i. select n i b at)
full_move n b o k at = led (openor_from n b o) (opennot_move n b o k at)

abbrev pub full : ℕ → Bool → Option Level → Reader Tailed
full n b o = eat (λ t. full_move n b o (kind t) t.at)

-- ---- ranges

-- a range, where true says that it is written with `as`
abbrev pub RangeRead : Type 0
RangeRead = List ℕ × ℕ × QueryTree × Bool

abbrev pub with_as : QueryTree → Named → RangeRead
with_as e x = (x.name, x.at, e, true)

abbrev pub with_in : Named → QueryTree → RangeRead
with_in x e = (x.name, x.at, e, false)

-- sets that begin with what p reads, `as`, and a name
abbrev pub as_from : ℕ → Option Level → Reader QueryTree → Reader RangeRead
as_from n o p = then (sets_from n o p) (λ e. ahead (is_word q.As) (made (with_as e) variable))

abbrev pub in_move : ℕ → Option Level → Named → Kind → Move Placed RangeRead
in_move n o x (KWord q.In) = Goes (made (with_in x) (sets n o))
in_move n o x _ = Stray

abbrev pub range_move : ℕ → Option Level → Kind → ℕ → Move Placed RangeRead
range_move n o (KName x) at = Goes (other (λ u. in_move n o (named x at) (kind u)) (as_from n o (done (QName at x))))
range_move n o k at = led (as_from n o) (prim_move o k at)

abbrev pub range : ℕ → Option Level → Reader RangeRead
range n o = eat (λ t. range_move n o (kind t) t.at)

-- ---- behind a comma in a field of a struct: another range, or the next label and its colon

pub data Next : Type 0 where
  ARange : RangeRead → Next
  ALabel : Named → Next

abbrev pub range_from : ℕ → Option Level → Reader QueryTree → Reader Next
range_from n o p = made ARange (as_from n o p)

-- behind a word l that begins no range
abbrev pub only_label : Named → Kind → Move Placed Next
only_label l (KSign s.Colon) = Goes (done (ALabel l))
only_label l _ = Stray

-- behind a name
abbrev pub name_next : ℕ → Option Level → Named → Kind → Move Placed Next
name_next n o l (KSign s.Colon) = Goes (done (ALabel l))
name_next n o l (KWord q.In) = Goes (made ARange (made (with_in l) (sets n o)))
name_next n o l _ = Stray

-- behind `set`
abbrev pub set_next : ℕ → Option Level → Named → Kind → Move Placed Next
set_next n o l (KSign s.Colon) = Goes (done (ALabel l))
set_next n o l (KSign s.Open) = Goes (range_from n o (set_in l.at))
set_next n o l _ = Stray

-- behind a word whose parentheses p reads up to the end
abbrev pub open_next : ℕ → Option Level → (Level → Reader QueryTree) → Named → Kind → Move Placed Next
open_next n o p l (KSign s.Colon) = Goes (done (ALabel l))
open_next n o p l (KSign s.Open) = deeper o (λ i. range_from n o (p i))
open_next n o p l _ = Stray

-- a word that is itself an expression, or a label
abbrev pub whole_next : ℕ → Option Level → Named → QueryTree → Reader Next
whole_next n o l e = other (λ u. only_label l (kind u)) (range_from n o (done e))

-- behind the word l, of the kind k
abbrev pub word_next : ℕ → Option Level → Named → Kind → Reader Next
word_next n o l (KName x) = other (λ u. name_next n o l (kind u)) (range_from n o (done (QName l.at x)))
word_next n o l (KWord q.True) = whole_next n o l (QLiteral l.at (LitBool true))
word_next n o l (KWord q.False) = whole_next n o l (QLiteral l.at (LitBool false))
word_next n o l (KWord q.Set) = eat (λ u. set_next n o l (kind u))
word_next n o l (KWord q.Struct) = eat (λ u. open_next n o (λ i. struct_in i l.at) l (kind u))
word_next n o l (KWord q.Flatten) = eat (λ u. open_next n o (λ i. flatten_in i l.at) l (kind u))
word_next n o l (KWord q.Exists) = eat (λ u. open_next n o (λ i. some_in i l.at) l (kind u))
word_next n o l _ = eat (λ u. only_label l (kind u))

abbrev pub next_move : ℕ → Option Level → Option Named → Kind → ℕ → Move Placed Next
next_move n o (Some l) k at = Goes (word_next n o l k)
next_move n o None k at = led (range_from n o) (prim_move o k at)

abbrev pub next : ℕ → Option Level → Bool → Reader Next
next n o false = made ARange (range n o)
next n o true = eat (λ t. next_move n o (name_of t) (kind t) t.at)

-- ---- all ranges of a select

abbrev pub first_range : RangeRead → RangesTailed
first_range r = ((r.0, r.1, r.2) ∷ [], Ranged r.3)

abbrev pub more_ranges : RangesTailed → Next → RangesTailed
more_ranges x (ARange r) = (x.0 ++ (r.0, r.1, r.2) ∷ [], Ranged r.3)
more_ranges x (ALabel l) = (x.0, Labelled l.name l.at)

abbrev pub comma_move : Reader Next → Tail → Kind → Move Placed Next
comma_move p (Ranged b) (KSign s.Comma) = Goes p
comma_move p _ _ = Stray

abbrev pub ranges : ℕ → Option Level → Bool → Reader RangesTailed
ranges n o b = then (made first_range (range n o)) (λ x. many (λ (x : RangesTailed) t. comma_move (next n o b) x.1 (kind t)) more_ranges x)

-- ---- the fields of a struct up to the parenthesis. A round is a field and the label of the next one, or the parenthesis.

-- the fields that were read, the next label, and its place
abbrev pub FieldState : Type 0
FieldState = List FieldParts × List ℕ × ℕ

abbrev pub FieldRound : Type 0
FieldRound = Round FieldState (List FieldParts)

abbrev pub next_field : List FieldParts → Named → FieldRound
next_field fs l = Again (fs, l.name, l.at)

abbrev pub next_label : List FieldParts → Reader FieldRound
next_label fs = then name_at (λ l. ahead (sign s.Colon) (done (next_field fs l)))

abbrev pub field_move : List FieldParts → Kind → Move Placed FieldRound
field_move fs (KSign s.Close) = Goes (done (Final fs))
field_move fs (KSign s.Comma) = Goes (next_label fs)
field_move fs _ = Stray

abbrev pub last_move : List FieldParts → Kind → Move Placed FieldRound
last_move fs (KSign s.Close) = Goes (done (Final fs))
last_move fs _ = Stray

-- by how the last field ended: behind ranges the label was taken with its comma, if there is one
abbrev pub field_end : List FieldParts → Tail → Reader FieldRound
field_end fs (Labelled x at) = done (Again (fs, x, at))
field_end fs (Ranged b) = eat (λ t. last_move fs (kind t))
field_end fs _ = eat (λ t. field_move fs (kind t))

abbrev pub add_field : FieldState → QueryTree → List FieldParts
add_field x e = x.0 ++ (x.1, x.2, e) ∷ []

abbrev pub field : Reader Tailed → FieldState → Reader FieldRound
field p x = then p (λ v. field_end (add_field x v.0) v.1)

abbrev pub first_field : Named → FieldState
first_field l = ([], l.name, l.at)

abbrev pub fields : Reader Tailed → Reader (List FieldParts)
fields p = then name_at (λ l. ahead (sign s.Colon) (rounds (field p) (first_field l)))

-- ---- all levels, and the whole query

abbrev pub level : ℕ → Option Level → Level
level n o = record { sets = sets n o; opennot = λ b. opennot n b o; full = λ b. full n b o; ranges = λ b. ranges n o b; fields = fields (full n true o) }

-- the readers one level below, where d levels are left
abbrev pub below : ℕ → ℕ → Option Level
below n d = levels.below (level n) d

-- an expression, and whether the final sign was taken
abbrev pub Closing : Type 0
Closing = QueryTree × Bool

abbrev pub semicolon_move : QueryTree → Kind → Move Placed Closing
semicolon_move e (KSign s.Semicolon) = Goes (done (e, true))
semicolon_move e _ = Stray

-- the final sign or none, and the end of the text
abbrev pub ending : QueryTree → Reader QueryTree
ending e = then (may (e, false) (λ t. semicolon_move e (kind t))) (λ x. stop (λ _. true) x.0)

-- a whole query, with chains of n links and d levels below it
abbrev pub query : ℕ → ℕ → Reader QueryTree
query n d = then (full n false (below n d)) (λ v. ending v.0)
