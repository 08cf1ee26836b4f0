-- A part that the grammar takes at a place stands bare at each place that takes more.
use Rattle.std.proofs.Common.{◌≡◌, ℕ, Bool, true, false, List, [], inl, inr, refl, sym, arith}
use Rattle.std.specs.Prelude.{nat_le}
use Rattle.std.proofs.lemmas.List.{append-nil}
use Rattle.kola_base.specs.Placed.{Placed}
use Rattle.oql_syntax.specs.Grammar.{Text, Deeper, PrimText, PathText, MeetText, SetsText, CmpText, NotText, AndText, OrText, FullText}
use Rattle.oql_tree.specs.QueryTrees.{QueryTree}
use Rattle.oql_laws.proofs.Places.{Place, place_number}
use Rattle.oql_laws.proofs.Places as class

-- the texts of a place of the class
abbrev pub TextAt : ℕ → Place → Bool → Deeper → QueryTree → Text
TextAt n class.Full o B = FullText n B
TextAt n class.Or o B = OrText n B o
TextAt n class.And o B = AndText n B o
TextAt n class.Not o B = NotText n B o
TextAt n class.Compared o B = CmpText n B
TextAt n class.Sets o B = SetsText n B
TextAt n class.Meet o B = MeetText n B
TextAt n class.Path o B = PathText n B
TextAt n class.Prim o B = PrimText B

module _ (n : ℕ) (B : Deeper) (o : Bool) (y : QueryTree) (w : List Placed) where
  -- ---- one class up: an operand without links

  path_alone : PrimText B y w → PathText n B y w
  path_alone h = record { first = y; links = []; few = omega arith; is = refl; spells = record { front = w; back = []; split = sym (append-nil w); first = h; second = tt } }

  meet_alone : PathText n B y w → MeetText n B y w
  meet_alone h = record { first = y; links = []; few = omega arith; is = refl; spells = record { front = w; back = []; split = sym (append-nil w); first = h; second = tt } }

  sets_alone : MeetText n B y w → SetsText n B y w
  sets_alone h = record { first = y; links = []; few = omega arith; is = refl; spells = record { front = w; back = []; split = sym (append-nil w); first = h; second = tt } }

  and_alone : NotText n B o y w → AndText n B o y w
  and_alone h = record { first = y; links = []; few = omega arith; is = refl; spells = h }

  or_alone : AndText n B o y w → OrText n B o y w
  or_alone h = record { first = y; links = []; few = omega arith; is = refl; spells = h }

  -- ---- any class up

  from_path : (k : Place) → nat_le 7 (place_number k) ≡ true → TextAt n k o B y w → PathText n B y w
  from_path class.Path e h = h
  from_path class.Prim e h = path_alone h
  from_path _ e h = absurd cc

  from_meet : (k : Place) → nat_le 6 (place_number k) ≡ true → TextAt n k o B y w → MeetText n B y w
  from_meet class.Meet e h = h
  from_meet class.Path e h = meet_alone (from_path class.Path refl h)
  from_meet class.Prim e h = meet_alone (from_path class.Prim refl h)
  from_meet _ e h = absurd cc

  from_sets : (k : Place) → nat_le 5 (place_number k) ≡ true → TextAt n k o B y w → SetsText n B y w
  from_sets class.Sets e h = h
  from_sets class.Meet e h = sets_alone (from_meet class.Meet refl h)
  from_sets class.Path e h = sets_alone (from_meet class.Path refl h)
  from_sets class.Prim e h = sets_alone (from_meet class.Prim refl h)
  from_sets _ e h = absurd cc

  from_compared : (k : Place) → nat_le 4 (place_number k) ≡ true → TextAt n k o B y w → CmpText n B y w
  from_compared class.Compared e h = h
  from_compared class.Sets e h = inl (from_sets class.Sets refl h)
  from_compared class.Meet e h = inl (from_sets class.Meet refl h)
  from_compared class.Path e h = inl (from_sets class.Path refl h)
  from_compared class.Prim e h = inl (from_sets class.Prim refl h)
  from_compared _ e h = absurd cc

  from_not : (k : Place) → nat_le 3 (place_number k) ≡ true → TextAt n k o B y w → NotText n B o y w
  from_not class.Not e h = h
  from_not class.Compared e h = inl (from_compared class.Compared refl h)
  from_not class.Sets e h = inl (from_compared class.Sets refl h)
  from_not class.Meet e h = inl (from_compared class.Meet refl h)
  from_not class.Path e h = inl (from_compared class.Path refl h)
  from_not class.Prim e h = inl (from_compared class.Prim refl h)
  from_not _ e h = absurd cc

  from_and : (k : Place) → nat_le 2 (place_number k) ≡ true → TextAt n k o B y w → AndText n B o y w
  from_and class.And e h = h
  from_and class.Not e h = and_alone (from_not class.Not refl h)
  from_and class.Compared e h = and_alone (from_not class.Compared refl h)
  from_and class.Sets e h = and_alone (from_not class.Sets refl h)
  from_and class.Meet e h = and_alone (from_not class.Meet refl h)
  from_and class.Path e h = and_alone (from_not class.Path refl h)
  from_and class.Prim e h = and_alone (from_not class.Prim refl h)
  from_and _ e h = absurd cc

  from_or : (k : Place) → nat_le 1 (place_number k) ≡ true → TextAt n k o B y w → OrText n B o y w
  from_or class.Or e h = h
  from_or class.And e h = or_alone (from_and class.And refl h)
  from_or class.Not e h = or_alone (from_and class.Not refl h)
  from_or class.Compared e h = or_alone (from_and class.Compared refl h)
  from_or class.Sets e h = or_alone (from_and class.Sets refl h)
  from_or class.Meet e h = or_alone (from_and class.Meet refl h)
  from_or class.Path e h = or_alone (from_and class.Path refl h)
  from_or class.Prim e h = or_alone (from_and class.Prim refl h)
  from_or _ e h = absurd cc

  from_prim : (k : Place) → nat_le 8 (place_number k) ≡ true → TextAt n k o B y w → PrimText B y w
  from_prim class.Prim e h = h
  from_prim _ e h = absurd cc

-- a place of a part, which is of any class but that of whole queries
abbrev pub is_part : Place → Bool
is_part class.Full = false
is_part _ = true

pub at_place : (n : ℕ) (B : Deeper) (o : Bool) (c k : Place) (y : QueryTree) (w : List Placed) → is_part c ≡ true → nat_le (place_number c) (place_number k) ≡ true → TextAt n k o B y w → TextAt n c o B y w
at_place n B o class.Full k y w p e h = absurd cc
at_place n B o class.Or k y w p e h = from_or n B o y w k e h
at_place n B o class.And k y w p e h = from_and n B o y w k e h
at_place n B o class.Not k y w p e h = from_not n B o y w k e h
at_place n B o class.Compared k y w p e h = from_compared n B o y w k e h
at_place n B o class.Sets k y w p e h = from_sets n B o y w k e h
at_place n B o class.Meet k y w p e h = from_meet n B o y w k e h
at_place n B o class.Path k y w p e h = from_path n B o y w k e h
at_place n B o class.Prim k y w p e h = from_prim n B o y w k e h

-- a first operand stands at each place
pub prim_last : (c : Place) → nat_le (place_number c) 8 ≡ true
prim_last class.Full = refl
prim_last class.Or = refl
prim_last class.And = refl
prim_last class.Not = refl
prim_last class.Compared = refl
prim_last class.Sets = refl
prim_last class.Meet = refl
prim_last class.Path = refl
prim_last class.Prim = refl

-- a place with an open end that takes all
pub to_full : (n : ℕ) (B : Deeper) (k : Place) (y : QueryTree) (w : List Placed) → TextAt n k true B y w → FullText n B y w
to_full n B class.Full y w h = h
to_full n B class.Or y w h = inr (from_or n B true y w class.Or refl h)
to_full n B class.And y w h = inr (from_or n B true y w class.And refl h)
to_full n B class.Not y w h = inr (from_or n B true y w class.Not refl h)
to_full n B class.Compared y w h = inr (from_or n B true y w class.Compared refl h)
to_full n B class.Sets y w h = inr (from_or n B true y w class.Sets refl h)
to_full n B class.Meet y w h = inr (from_or n B true y w class.Meet refl h)
to_full n B class.Path y w h = inr (from_or n B true y w class.Path refl h)
to_full n B class.Prim y w h = inr (from_or n B true y w class.Prim refl h)
