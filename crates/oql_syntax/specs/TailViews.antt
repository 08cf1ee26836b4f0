-- What the program's tails are, and what its readers of links answer.
use Rattle.std.specs.Prelude.{ℕ, Bool, true, false, List, [], ◌∷◌, ◌++◌, Option, Some, None}
use Rattle.std.specs.Option.{option_map}
use Rattle.kola_base.specs.Placed.{Placed}
use Rattle.oql_tree.specs.QueryTrees.{QueryTree, QueryLinks, QIntersect, QAnd, QOr, QExists, QForAll}
use Rattle.oql_syntax.specs.Tails.{Tail, Plain, Compared, OpenPlain, OpenCompared, Ranged, Labelled}
use Rattle.oql_tree.specs.declared.query.Sign.{Sign}
use Rattle.oql_syntax.specs.declared.link.Tail as tail
use Rattle.oql_syntax.specs.declared.link.Tail.TheVariants as tails
use Rattle.oql_syntax.specs.declared.link.Quantifier as quantifier
use Rattle.oql_syntax.specs.declared.link.Range as range
use Rattle.oql_syntax.specs.declared.link.Next as next
use Rattle.oql_syntax.specs.declared.link.Next.TheVariants as nexts
use Rattle.kola_base.specs.NamedViews.{named_view}
use Rattle.oql_syntax.specs.QueryReaders.{RangeRead, RangeParts, Next, ARange, ALabel, FieldParts, FieldRound}
use Rattle.kola_base.specs.declared.named.Named as named
use Rattle.kola_parse.specs.Reader.{Again, Final}
use Rattle.oql_syntax.specs.declared.link.Joint.{Joint}
use Rattle.oql_syntax.specs.declared.link.Joint.TheVariants as joint

abbrev pub tail_view : tail.Tail → Tail
tail_view tails.Plain = Plain
tail_view tails.Compared = Compared
tail_view tails.OpenPlain = OpenPlain
tail_view tails.OpenCompared = OpenCompared
tail_view (tails.Ranged b) = Ranged b
tail_view (tails.Labelled l) = Labelled l.name.now l.at

-- the node of a chain
abbrev pub joint_form : Joint → ℕ → QueryTree → QueryLinks → QueryTree
joint_form joint.Intersect = QIntersect
joint_form joint.And = QAnd
joint_form joint.Or = QOr

-- a quantifier
abbrev pub quantifier_by : Bool → ℕ → List ℕ → QueryTree → QueryTree → QueryTree
quantifier_by true = QForAll
quantifier_by false = QExists

abbrev pub quantifier_form : quantifier.Quantifier → QueryTree → QueryTree → QueryTree
quantifier_form q = quantifier_by q.each q.at q.name.now

-- a link with what stands behind it, or none: an operand, one of `union` or `except`, a comparison, and an operand with its tail
abbrev pub some_link : Option (ℕ × QueryTree × List Placed) → Option ((ℕ × QueryTree) × List Placed)
some_link o = option_map (λ x. ((x.0, x.1), x.2)) o

abbrev pub some_set_link : Option (ℕ × Bool × QueryTree × List Placed) → Option ((ℕ × Bool × QueryTree) × List Placed)
some_set_link o = option_map (λ x. ((x.0, x.1, x.2), x.3)) o

abbrev pub some_comparison : Option (ℕ × Sign × QueryTree × List Placed) → Option ((ℕ × Sign × QueryTree) × List Placed)
some_comparison o = option_map (λ x. ((x.0, x.1, x.2), x.3)) o

abbrev pub some_tailed : Option (ℕ × QueryTree × tail.Tail × List Placed) → Option ((ℕ × QueryTree × Tail) × List Placed)
some_tailed o = option_map (λ x. ((x.0, x.1, tail_view x.2), x.3)) o

abbrev pub range_view : range.Range → RangeRead
range_view r = (r.x.name.now, r.x.at, r.e, r.with_as)

abbrev pub next_view : next.Next → Next
next_view (nexts.Range r) = ARange (range_view r)
next_view (nexts.Label l) = ALabel (named_view l)

abbrev pub some_next : Option (next.Next × List Placed) → Option (Next × List Placed)
some_next o = option_map (λ x. (next_view x.0, x.1)) o

-- the ranges with what stands behind a comma, and how they end then
abbrev pub ranges_with : List RangeParts → Next → List RangeParts
ranges_with rs (ARange r) = rs ++ (r.0, r.1, r.2) ∷ []
ranges_with rs (ALabel l) = rs

abbrev pub tail_with : Next → Tail
tail_with (ARange r) = Ranged r.3
tail_with (ALabel l) = Labelled l.name l.at

-- behind the fields fs: the next label, or the end
abbrev pub round_view : List FieldParts → Option named.Named → FieldRound
round_view fs (Some l) = Again (fs, l.name.now, l.at)
round_view fs None = Final fs
