-- Which tokens go on a text, by how it ended.
use Rattle.std.proofs.Common.{◌≡◌, Bool, true, false, Some, refl, ap, ◌∙◌}
use Rattle.std.specs.Prelude.{is_some, ◌||◌}
use Rattle.kola_base.specs.declared.sign.Sign.TheVariants as s
use Rattle.oql_tree.specs.declared.query.Sign.{Sign}
use Rattle.oql_syntax.specs.declared.word.QueryWord.TheVariants as q
use Rattle.oql_syntax.specs.Alphabet.{Kind, KSign, KWord}
use Rattle.oql_tree.specs.QueryTrees.{QueryWhere, NoWhere, Where}
use Rattle.oql_syntax.specs.QueryReaders.{comparison_of, Next, ARange, ALabel}
use Rattle.oql_syntax.specs.Tails.{Tail, Plain, Compared, OpenPlain, OpenCompared, Ranged, Labelled, opened}

abbrev pub on_path : Kind → Bool
on_path (KSign s.Dot) = true
on_path (KSign s.Arrow) = true
on_path _ = false

abbrev pub on_meet : Kind → Bool
on_meet (KWord q.Intersect) = true
on_meet k = on_path k

abbrev pub on_sets : Kind → Bool
on_sets (KWord q.Union) = true
on_sets (KWord q.Except) = true
on_sets k = on_meet k

abbrev pub not_plain : Kind → Bool
not_plain k = is_some (comparison_of k) || on_sets k

abbrev pub and_plain : Kind → Bool
and_plain (KWord q.And) = true
and_plain k = not_plain k

abbrev pub and_compared : Kind → Bool
and_compared (KWord q.And) = true
and_compared k = on_sets k

abbrev pub full_plain : Kind → Bool
full_plain (KWord q.Or) = true
full_plain k = and_plain k

abbrev pub full_compared : Kind → Bool
full_compared (KWord q.Or) = true
full_compared k = and_compared k

-- behind the last range of a select
abbrev pub on_range : Bool → Kind → Bool
on_range true k = false
on_range false k = on_sets k

abbrev pub ranges_by : Bool → Kind → Bool
ranges_by b (KSign s.Comma) = true
ranges_by b k = on_range b k

abbrev pub select_by : Bool → Kind → Bool
select_by b (KWord q.Where) = true
select_by b k = ranges_by b k

abbrev pub on_full : Tail → Kind → Bool
on_full Plain k = full_plain k
on_full OpenPlain k = full_plain k
on_full Compared k = full_compared k
on_full OpenCompared k = full_compared k
on_full (Ranged b) k = select_by b k
on_full (Labelled x p) k = false

abbrev pub on_and : Tail → Kind → Bool
on_and Plain k = and_plain k
on_and Compared k = and_compared k
on_and x k = on_full x k

abbrev pub on_not : Tail → Kind → Bool
on_not Plain k = not_plain k
on_not Compared k = on_sets k
on_not x k = on_full x k

-- on the last operand of a comparison
abbrev pub on_side : Tail → Kind → Bool
on_side Plain k = on_sets k
on_side Compared k = on_sets k
on_side x k = on_full x k

-- on the last range, and on all ranges
abbrev pub on_last : Tail → Kind → Bool
on_last (Ranged b) k = on_range b k
on_last x k = on_full x k

abbrev pub on_ranges : Tail → Kind → Bool
on_ranges (Ranged b) k = ranges_by b k
on_ranges x k = on_full x k

abbrev pub on_next : Next → Kind → Bool
on_next (ARange r) k = on_range r.3 k
on_next (ALabel l) k = false

-- on the last part of a select: its ranges, or its condition
abbrev pub on_part : QueryWhere → Tail → Kind → Bool
on_part NoWhere x k = on_ranges x k
on_part (Where at e) x k = on_full x k

pub opened_same : (x : Tail) (k : Kind) → on_full (opened x) k ≡ on_full x k
opened_same Plain k = refl
opened_same Compared k = refl
opened_same _ k = refl

pub opened_not : (x : Tail) (k : Kind) → on_not (opened x) k ≡ on_full x k
opened_not Plain k = refl
opened_not Compared k = refl
opened_not _ k = refl

-- no sign of a comparison goes on sets
pub comparison_clear : (k : Kind) (z : Sign) → comparison_of k ≡ Some z → on_sets k ≡ false
comparison_clear (KSign s.Dot) z e = absurd cc
comparison_clear (KSign s.Arrow) z e = absurd cc
comparison_clear (KSign _) z e = refl
comparison_clear (KWord q.Intersect) z e = absurd cc
comparison_clear (KWord q.Union) z e = absurd cc
comparison_clear (KWord q.Except) z e = absurd cc
comparison_clear (KWord _) z e = refl
comparison_clear _ z e = refl

-- a sign that never goes on what is full
pub closing : (k : Kind) → ((x : Tail) → on_full x k ≡ false) → (x : Tail) (j : Kind) → j ≡ k → on_full x j ≡ false
closing k h x j e = ap (on_full x) e ∙ h x

pub close_full : (x : Tail) → on_full x (KSign s.Close) ≡ false
close_full Plain = refl
close_full Compared = refl
close_full OpenPlain = refl
close_full OpenCompared = refl
close_full (Ranged true) = refl
close_full (Ranged false) = refl
close_full (Labelled x p) = refl

pub from_full : (x : Tail) → on_full x (KWord q.From) ≡ false
from_full Plain = refl
from_full Compared = refl
from_full OpenPlain = refl
from_full OpenCompared = refl
from_full (Ranged true) = refl
from_full (Ranged false) = refl
from_full (Labelled x p) = refl

pub semicolon_full : (x : Tail) → on_full x (KSign s.Semicolon) ≡ false
semicolon_full Plain = refl
semicolon_full Compared = refl
semicolon_full OpenPlain = refl
semicolon_full OpenCompared = refl
semicolon_full (Ranged true) = refl
semicolon_full (Ranged false) = refl
semicolon_full (Labelled x p) = refl
