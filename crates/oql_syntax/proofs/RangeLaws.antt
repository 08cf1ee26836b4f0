-- Ranges, and the place in a struct where another range or the next label may come.
use Rattle.std.proofs.Common.{◌≡◌, ◌⊎◌, inl, inr, ℕ, ◌<◌, Bool, true, false, List, [], ◌∷◌, Option, Some, None, Ok, Err, refl, sym, ap, subst, ◌∙◌}
use Rattle.kola_base.specs.Named.{Named, name_of}
use Rattle.kola_base.specs.Placed.{Placed}
use Rattle.kola_base.specs.declared.sign.Sign.TheVariants as s
use Rattle.kola_parse.specs.declared.why.Why.TheVariants.{Unexpected}
use Rattle.kola_parse.specs.Kinds.{Lang, when, ahead}
use Rattle.kola_parse.specs.Moves.{NoText, MoveGood, LinkGood, Needs}
use Rattle.kola_parse.specs.Reader.{Answer, fault, ◌>>=◌, then, Move, Stray, eat, eat_at, done, made, chain}
use Rattle.kola_parse.specs.Reading.{never, Inhabited, Good}
use Rattle.kola_parse.specs.Texts.{Nothing, Chained, Made, Led, Either, ManyText}
use Rattle.kola_parse.proofs.ReaderLaws.{no_ok}
use Rattle.kola_parse.proofs.GoodReaders.{done_good, eat_good, good_as, made_good}
use Rattle.kola_parse.proofs.ManyChains.{manied_good}
use Rattle.kola_parse.proofs.Options.{other_apart_good}
use Rattle.kola_parse.proofs.Loops.{chain_stays, chain_nil}
use Rattle.oql_syntax.specs.Alphabet.{Kind, KSign, KWord, KName, kind, query_word_spelling}
use Rattle.oql_tree.specs.QueryTrees.{LitBool, QueryTree, QName, QLiteral}
use Rattle.oql_syntax.specs.QueryReaders.{Reader, is_word, named, variable, RangesTailed, Level, PathParts, no_labels, add_label, path_of, label_move, path_by, Operands, no_operands, add_operand, intersect_of, intersect_move, SetOperands, no_set_operands, add_set_operand, union_of, union_move, struct_in, flatten_in, some_in, prim_move, prim, meet_from, sets_from, RangeRead, with_as, with_in, as_from, in_move, range_move, range, Next, ARange, ALabel, range_from, only_label, name_next, set_next, open_next, whole_next, word_next, next_move, next, first_range, more_ranges, comma_move, ranges}
use Rattle.oql_syntax.specs.Tails.{Tail, Plain, Compared, OpenPlain, OpenCompared, Ranged, Labelled}
use Rattle.oql_syntax.specs.declared.word.QueryWord.TheVariants as q
use Rattle.oql_syntax.proofs.QuerySymbols.{sign_token, sign_is, word_token, word_is, word_tests, Ahead, after_word, no_text, nothing, name_token, Variable, variable_good, led_good}
use Rattle.oql_syntax.proofs.GoesOn.{on_sets, on_range, on_last, on_ranges, on_next}
use Rattle.oql_syntax.proofs.LevelLaws.{Texts, goes_ranges, LevelGood, Inner, Inside, Deeper, deeper_good, inside_weaker, SetIn, set_in_good, StructIn, struct_in_good, FlattenIn, flatten_in_good, SomeIn, some_in_good, PrimRest, prim_each, named_first, name_tree, SetsFrom, sets_from_good, Sets, sets_good, no_made, no_chained, no_sets_from}

abbrev goes_range : RangeRead → Placed → Bool
goes_range r t = on_range r.3 (kind t)

abbrev goes_next : Next → Placed → Bool
goes_next x t = on_next x (kind t)

-- ---- sets, as, and a name

abbrev pub AsFrom : ℕ → Inner → Lang Placed QueryTree → Lang Placed RangeRead
AsFrom n l L = Chained (SetsFrom n l L) (λ e. Ahead (KWord q.As) (Made (with_as e) Variable))

as_good : {On : Type 0} {n m : ℕ} {o o' : Option Level} {l l' : Inner} {p r : Reader QueryTree} {L M : Lang Placed QueryTree} → (On → n < m) → Inside On o o' l l' → Good On p r L M never
    → Good On (as_from n o p) (as_from m o' r) (AsFrom n l L) (AsFrom m l' M) goes_range
as_good {On} le z h = after_word q.As refl (λ a t e. ap on_sets e) (sets_from_good le z h) (λ e. made_good (with_as e) goes_range (variable_good On))

no_as : (n : ℕ) (l : Inner) (L : Lang Placed QueryTree) → NoText L → NoText (AsFrom n l L)
no_as n l L h = no_chained _ (no_sets_from n l L h)

-- ---- what stands behind an operand is no sets, where the next token is not of theirs

alone : {A B C L : Type 0} (out : B → C) (start : A → B) (f : B → Placed → Move Placed L) (grow : B → L → B) (n : ℕ) (p : Reader A) (a : A) (ts : List Placed) → p ts ≡ Ok (a, ts) → chain f grow n (start a) ts ≡ Ok (start a, ts)
    → made out (then (made start p) (λ x. chain f grow n x)) ts ≡ Ok (out (start a), ts)
alone {A} {B} out start f grow n p a ts e i =
    ap (λ (z : Answer Placed A). ((z >>= λ x. done (start x.0) x.1) >>= λ x. chain f grow n x.0 x.1) >>= λ x. done (out x.0) x.1) e ∙ ap (λ (z : Answer Placed B). z >>= λ x. done (out x.0) x.1) i

label_stray : (k : Kind) → on_sets k ≡ false → label_move k ≡ Stray
label_stray (KSign s.Dot) e = absurd cc
label_stray (KSign s.Arrow) e = absurd cc
label_stray _ e = refl

intersect_stray : (p : Reader QueryTree) (at : ℕ) (k : Kind) → on_sets k ≡ false → intersect_move p at k ≡ Stray
intersect_stray p at (KWord q.Intersect) e = absurd cc
intersect_stray p at _ e = refl

union_stray : (p : Reader QueryTree) (at : ℕ) (k : Kind) → on_sets k ≡ false → union_move p at k ≡ Stray
union_stray p at (KWord q.Union) e = absurd cc
union_stray p at (KWord q.Except) e = absurd cc
union_stray p at _ e = refl

sets_stay : (n : ℕ) (o : Option Level) (a : QueryTree) (t : Placed) (ts : List Placed) → on_sets (kind t) ≡ false → sets_from n o (done a) (t ∷ ts) ≡ Ok (a, t ∷ ts)
sets_stay n o a t ts e =
    alone union_of no_set_operands (λ (x : SetOperands) t. union_move (meet_from n o (prim o)) t.at (kind t)) add_set_operand n (meet_from n o (done a)) a (t ∷ ts)
    (alone intersect_of no_operands (λ (x : Operands) t. intersect_move (path_by n (prim o)) t.at (kind t)) add_operand n (path_by n (done a)) a (t ∷ ts)
    (alone path_of no_labels (λ (x : PathParts) t. label_move (kind t)) add_label n (done a) a (t ∷ ts) refl (chain_stays (λ (x : PathParts) t. label_move (kind t)) add_label n (no_labels a) t ts (label_stray (kind t) e)))
    (chain_stays (λ (x : Operands) t. intersect_move (path_by n (prim o)) t.at (kind t)) add_operand n (no_operands a) t ts (intersect_stray (path_by n (prim o)) t.at (kind t) e)))
    (chain_stays (λ (x : SetOperands) t. union_move (meet_from n o (prim o)) t.at (kind t)) add_set_operand n (no_set_operands a) t ts (union_stray (meet_from n o (prim o)) t.at (kind t) e))

sets_nil : (n : ℕ) (o : Option Level) (a : QueryTree) → sets_from n o (done a) [] ≡ Ok (a, [])
sets_nil n o a =
    alone union_of no_set_operands (λ (x : SetOperands) t. union_move (meet_from n o (prim o)) t.at (kind t)) add_set_operand n (meet_from n o (done a)) a []
    (alone intersect_of no_operands (λ (x : Operands) t. intersect_move (path_by n (prim o)) t.at (kind t)) add_operand n (path_by n (done a)) a []
    (alone path_of no_labels (λ (x : PathParts) t. label_move (kind t)) add_label n (done a) a [] refl (chain_nil (λ (x : PathParts) t. label_move (kind t)) add_label n (no_labels a)))
    (chain_nil (λ (x : Operands) t. intersect_move (path_by n (prim o)) t.at (kind t)) add_operand n (no_operands a)))
    (chain_nil (λ (x : SetOperands) t. union_move (meet_from n o (prim o)) t.at (kind t)) add_set_operand n (no_set_operands a))

abbrev as_variable : QueryTree → Reader RangeRead
as_variable e = ahead (is_word q.As) (made (with_as e) variable)

-- a token that neither goes on sets nor is `as`
as_err : (n : ℕ) (o : Option Level) (a : QueryTree) (t : Placed) (ts : List Placed) → on_sets (kind t) ≡ false → is_word q.As t ≡ false → as_from n o (done a) (t ∷ ts) ≡ Err (fault Unexpected (t ∷ ts))
as_err n o a t ts e c =
    ap (λ (z : Answer Placed QueryTree). z >>= λ x. as_variable x.0 x.1) (sets_stay n o a t ts e) ∙ ap (λ (b : Bool). eat_at (when b (done unit)) t ts >>= λ x. made (with_as a) variable x.1) c
  where
    unit : Unit {0}
    unit = tt

as_nil : (n : ℕ) (o : Option Level) (a : QueryTree) → as_from n o (done a) [] ≡ Err (fault Unexpected [])
as_nil n o a = ap (λ (z : Answer Placed QueryTree). z >>= λ x. as_variable x.0 x.1) (sets_nil n o a)

abbrev is_as : Kind → Bool
is_as (KWord q.As) = true
is_as _ = false

no_word_as : (t : Placed) (k : Kind) (b : Bool) → is_word q.As t ≡ b → kind t ≡ k → is_as k ≡ false → b ≡ false
no_word_as t k true i e a = absurd (let f = sym (ap is_as e) ∙ ap is_as ((word_tests q.As refl).to t i) in cc)
no_word_as t k false i e a = refl

-- nothing that such a token begins goes on an operand up to a range
no_range : (n : ℕ) (o : Option Level) (a : QueryTree) (u : Placed) (k : Kind) → kind u ≡ k → on_sets k ≡ false → is_as k ≡ false → (ts : List Placed) (x : RangeRead × List Placed) → as_from n o (done a) (u ∷ ts) ≡ Ok x → ⊥
no_range n o a u k e i j ts x h = no_ok x (fault Unexpected (u ∷ ts)) (sym (as_err n o a u ts (ap on_sets e ∙ i) (no_word_as u k (is_word q.As u) refl e j)) ∙ h)

no_next : (n : ℕ) (o : Option Level) (a : QueryTree) (u : Placed) (k : Kind) → kind u ≡ k → on_sets k ≡ false → is_as k ≡ false → (ts : List Placed) (x : Next × List Placed) → range_from n o (done a) (u ∷ ts) ≡ Ok x → ⊥
no_next n o a u k e i j ts x h =
    no_ok x (fault Unexpected (u ∷ ts)) (sym (ap (λ (z : Answer Placed RangeRead). z >>= λ x. done (ARange x.0) x.1) (as_err n o a u ts (ap on_sets e ∙ i) (no_word_as u k (is_word q.As u) refl e j))) ∙ h)

-- ---- ranges

abbrev pub InRest : ℕ → Inner → Named → Kind → Lang Placed RangeRead
InRest n l x (KWord q.In) = Made (with_in x) (Sets n l)
InRest n l x _ = no_text

in_each : {On : Type 0} {n m : ℕ} {o o' : Option Level} {l l' : Inner} → (On → n < m) → Inside On o o' l l' → (x : Named) (k : Kind) → MoveGood On (in_move n o x k) (in_move m o' x k) (InRest n l x k) (InRest m l' x k) goes_range
in_each le z x (KWord q.In) = made_good (with_in x) goes_range (sets_good le z)
in_each le z x _ = (nothing, nothing)

in_apart : (n : ℕ) (o : Option Level) (x : Named) (a : QueryTree) (u : Placed) (k : Kind) → kind u ≡ k → (in_move n o x (kind u) ≡ Stray) ⊎ ((ts : List Placed) (y : RangeRead × List Placed) → as_from n o (done a) (u ∷ ts) ≡ Ok y → ⊥)
in_apart n o x a u (KWord q.In) e = inr (no_range n o a u (KWord q.In) e refl refl)
in_apart n o x a u _ e = inl (ap (in_move n o x) e)

as_needs : (n : ℕ) (o : Option Level) (a : QueryTree) → Needs (as_from n o (done a))
as_needs n o a x h = no_ok x (fault Unexpected []) (sym (as_nil n o a) ∙ h)

abbrev pub RangeRest : ℕ → Inner → Kind → ℕ → Lang Placed RangeRead
RangeRest n l (KName x) at = Either (λ u. InRest n l (named x at) (kind u)) (AsFrom n l (Nothing (QName at x)))
RangeRest n l k at = AsFrom n l (PrimRest l k at)

range_each : {On : Type 0} {n m : ℕ} {o o' : Option Level} {l l' : Inner} → (On → n < m) → Inside On o o' l l' → (k : Kind) (at : ℕ) → MoveGood On (range_move n o k at) (range_move m o' k at) (RangeRest n l k at) (RangeRest m l' k at) goes_range
range_each {On} {n} {m} {o} {o'} {l} {l'} le z (KName x) at =
    other_apart_good (λ u. in_move n o (named x at) (kind u)) (λ u. in_move m o' (named x at) (kind u)) (λ u. InRest n l (named x at) (kind u)) (λ u. InRest m l' (named x at) (kind u)) (λ u. in_each le z (named x at) (kind u)) (as_good le z (done_good On (QName at x)))
    (λ u. in_apart n o (named x at) (QName at x) u (kind u) refl) (as_needs n o (QName at x)) (λ u. in_apart m o' (named x at) (QName at x) u (kind u) refl) (as_needs m o' (QName at x))
range_each {On} {n} {m} {o} {o'} {l} {l'} le z k at =
    led_good On (prim_move o k at) (prim_move o' k at) (PrimRest l k at) (PrimRest l' k at) never (as_from n o) (as_from m o') (AsFrom n l) (AsFrom m l') goes_range
    (λ Off f p r P R h. as_good (λ off. le (f off)) (inside_weaker f z) h) (no_as n l) (no_as m l') (prim_each z k at)

abbrev pub Range : ℕ → Inner → Lang Placed RangeRead
Range n l = Led (λ t. RangeRest n l (kind t) t.at)

range_some : (n : ℕ) (l : Inner) → Inhabited (AsFrom n l (Nothing name_tree)) → Inhabited (Range n l)
range_some n l h = record { tree = h.tree; text = name_token ∷ h.text; spells = named_first (RangeRest n l) h.tree h.text (inr h.spells) }

range_good : {On : Type 0} {n m : ℕ} {o o' : Option Level} {l l' : Inner} → (On → n < m) → Inside On o o' l l' → Good On (range n o) (range m o') (Range n l) (Range m l') goes_range
range_good {On} {n} {m} {o} {o'} {l} {l'} le z =
    let one = as_good le z (done_good On name_tree) in
    eat_good (λ t. range_move n o (kind t) t.at) (λ t. range_move m o' (kind t) t.at) (λ t. RangeRest n l (kind t) t.at) (λ t. RangeRest m l' (kind t) t.at) goes_range (λ t. range_each le z (kind t) t.at) (range_some n l one.low.some) (range_some m l' one.high.some)

-- ---- behind a comma in a field of a struct

abbrev unit : Unit {0}
unit = tt

pub done_on : {A : Type 0} {On : Type 0} (a : A) (K : A → Placed → Bool) → Good On (done {T = Placed} unit) (done unit) (Nothing unit) (Nothing unit) (λ _. K a) → Good On (done a) (done a) (Nothing a) (Nothing a) K
done_on {A} a K h = good_as to from to from (made_good (λ (_ : Unit {0}). a) K h)
  where
    to : (x : A) (w : List Placed) → Made (λ (_ : Unit {0}). a) (Nothing unit) x w → Nothing a x w
    to x w m = (m.is, m.spells.1)

    from : (x : A) (w : List Placed) → Nothing a x w → Made (λ (_ : Unit {0}). a) (Nothing unit) x w
    from x w h = record { part = tt; is = h.0; spells = (refl, h.1) }

label_done : (On : Type 0) (x : Named) → Good On (done (ALabel x)) (done (ALabel x)) (Nothing (ALabel x)) (Nothing (ALabel x)) goes_next
label_done On x = done_on (ALabel x) goes_next (done_good On unit)

abbrev pub RangeFrom : ℕ → Inner → Lang Placed QueryTree → Lang Placed Next
RangeFrom n l L = Made ARange (AsFrom n l L)

range_from_good : {On : Type 0} {n m : ℕ} {o o' : Option Level} {l l' : Inner} {p r : Reader QueryTree} {L M : Lang Placed QueryTree} → (On → n < m) → Inside On o o' l l' → Good On p r L M never
    → Good On (range_from n o p) (range_from m o' r) (RangeFrom n l L) (RangeFrom m l' M) goes_next
range_from_good le z h = made_good ARange goes_next (as_good le z h)

next_needs : (n : ℕ) (o : Option Level) (a : QueryTree) → Needs (range_from n o (done a))
next_needs n o a x h = no_ok x (fault Unexpected []) (sym (ap (λ (z : Answer Placed RangeRead). z >>= λ x. done (ARange x.0) x.1) (as_nil n o a)) ∙ h)

-- behind a name

abbrev pub NameNext : ℕ → Inner → Named → Kind → Lang Placed Next
NameNext n l x (KSign s.Colon) = Nothing (ALabel x)
NameNext n l x (KWord q.In) = Made ARange (Made (with_in x) (Sets n l))
NameNext n l x _ = no_text

name_each : {On : Type 0} {n m : ℕ} {o o' : Option Level} {l l' : Inner} → (On → n < m) → Inside On o o' l l' → (x : Named) (k : Kind) → MoveGood On (name_next n o x k) (name_next m o' x k) (NameNext n l x k) (NameNext m l' x k) goes_next
name_each {On} le z x (KSign s.Colon) = label_done On x
name_each le z x (KWord q.In) = made_good ARange goes_next (made_good (with_in x) goes_range (sets_good le z))
name_each le z x _ = (nothing, nothing)

name_apart : (n : ℕ) (o : Option Level) (x : Named) (a : QueryTree) (u : Placed) (k : Kind) → kind u ≡ k → (name_next n o x (kind u) ≡ Stray) ⊎ ((ts : List Placed) (y : Next × List Placed) → range_from n o (done a) (u ∷ ts) ≡ Ok y → ⊥)
name_apart n o x a u (KWord q.In) e = inr (no_next n o a u (KWord q.In) e refl refl)
name_apart n o x a u (KSign s.Colon) e = inr (no_next n o a u (KSign s.Colon) e refl refl)
name_apart n o x a u _ e = inl (ap (name_next n o x) e)

-- behind a word that is itself an expression, and behind one that begins no range

abbrev pub OnlyLabel : Named → Kind → Lang Placed Next
OnlyLabel x (KSign s.Colon) = Nothing (ALabel x)
OnlyLabel x _ = no_text

only_each : (On : Type 0) (x : Named) (k : Kind) → MoveGood On (only_label x k) (only_label x k) (OnlyLabel x k) (OnlyLabel x k) goes_next
only_each On x (KSign s.Colon) = label_done On x
only_each On x _ = (nothing, nothing)

-- the label is spelled by its colon
by_colon : (F : Kind → Lang Placed Next) (x : Named) → F (KSign s.Colon) (ALabel x) [] → Inhabited (Led (λ u. F (kind u)))
by_colon F x h = record { tree = ALabel x; text = sign_token s.Colon ∷ []; spells = subst (λ k. F k (ALabel x) []) (sym (sign_is s.Colon)) h }

only_apart : (n : ℕ) (o : Option Level) (x : Named) (a : QueryTree) (u : Placed) (k : Kind) → kind u ≡ k → (only_label x (kind u) ≡ Stray) ⊎ ((ts : List Placed) (y : Next × List Placed) → range_from n o (done a) (u ∷ ts) ≡ Ok y → ⊥)
only_apart n o x a u (KSign s.Colon) e = inr (no_next n o a u (KSign s.Colon) e refl refl)
only_apart n o x a u _ e = inl (ap (only_label x) e)

abbrev pub WholeNext : ℕ → Inner → Named → QueryTree → Lang Placed Next
WholeNext n l x e = Either (λ u. OnlyLabel x (kind u)) (RangeFrom n l (Nothing e))

whole_good : {On : Type 0} {n m : ℕ} {o o' : Option Level} {l l' : Inner} → (On → n < m) → Inside On o o' l l' → (x : Named) (e : QueryTree) → Good On (whole_next n o x e) (whole_next m o' x e) (WholeNext n l x e) (WholeNext m l' x e) goes_next
whole_good {On} {n} {m} {o} {o'} {l} {l'} le z x e =
    other_apart_good (λ u. only_label x (kind u)) (λ u. only_label x (kind u)) (λ u. OnlyLabel x (kind u)) (λ u. OnlyLabel x (kind u)) (λ u. only_each On x (kind u)) (range_from_good le z (done_good On e))
    (λ u. only_apart n o x e u (kind u) refl) (next_needs n o e) (λ u. only_apart m o' x e u (kind u) refl) (next_needs m o' e)

-- behind a word with parentheses

abbrev pub SetNext : ℕ → Inner → Named → Kind → Lang Placed Next
SetNext n l x (KSign s.Colon) = Nothing (ALabel x)
SetNext n l x (KSign s.Open) = RangeFrom n l (SetIn x.at)
SetNext n l x _ = no_text

set_each : {On : Type 0} {n m : ℕ} {o o' : Option Level} {l l' : Inner} → (On → n < m) → Inside On o o' l l' → (x : Named) (k : Kind) → MoveGood On (set_next n o x k) (set_next m o' x k) (SetNext n l x k) (SetNext m l' x k) goes_next
set_each {On} le z x (KSign s.Colon) = label_done On x
set_each {On} le z x (KSign s.Open) = range_from_good le z (set_in_good On x.at)
set_each le z x _ = (nothing, nothing)

abbrev pub OpenNext : ℕ → Inner → (Texts → Lang Placed QueryTree) → Named → Kind → Lang Placed Next
OpenNext n l F x (KSign s.Colon) = Nothing (ALabel x)
OpenNext n l F x (KSign s.Open) = Deeper l (λ L. RangeFrom n l (F L))
OpenNext n l F x _ = no_text

abbrev InnerGood : (Level → Reader QueryTree) → (Texts → Lang Placed QueryTree) → Type 1
InnerGood f F = (Off : Type 0) (i j : Level) (L M : Texts) → LevelGood Off i j L M → Good Off (f i) (f j) (F L) (F M) never

open_each : {On : Type 0} {n m : ℕ} {o o' : Option Level} {l l' : Inner} (f : Level → Reader QueryTree) (F : Texts → Lang Placed QueryTree) → (On → n < m) → Inside On o o' l l' → InnerGood f F
    → (x : Named) (k : Kind) → MoveGood On (open_next n o f x k) (open_next m o' f x k) (OpenNext n l F x k) (OpenNext m l' F x k) goes_next
open_each {On} f F le z go x (KSign s.Colon) = label_done On x
open_each {On} {n} {m} {o} {o'} {l} {l'} f F le z go x (KSign s.Open) =
    deeper_good (λ i. range_from n o (f i)) (λ i. range_from m o' (f i)) (λ L. RangeFrom n l (F L)) (λ L. RangeFrom m l' (F L)) goes_next z (λ Off g i j L M h. range_from_good (λ off. le (g off)) (inside_weaker g z) (go Off i j L M h))
open_each f F le z go x _ = (nothing, nothing)

open_good : {On : Type 0} {n m : ℕ} {o o' : Option Level} {l l' : Inner} (f : Level → Reader QueryTree) (F : Texts → Lang Placed QueryTree) → (On → n < m) → Inside On o o' l l' → InnerGood f F
    → (x : Named) → Good On (eat (λ u. open_next n o f x (kind u))) (eat (λ u. open_next m o' f x (kind u))) (Led (λ u. OpenNext n l F x (kind u))) (Led (λ u. OpenNext m l' F x (kind u))) goes_next
open_good {On} {n} {m} {o} {o'} {l} {l'} f F le z go x =
    eat_good (λ u. open_next n o f x (kind u)) (λ u. open_next m o' f x (kind u)) (λ u. OpenNext n l F x (kind u)) (λ u. OpenNext m l' F x (kind u)) goes_next (λ u. open_each f F le z go x (kind u))
    (by_colon (OpenNext n l F x) x (refl, tt)) (by_colon (OpenNext m l' F x) x (refl, tt))

-- behind a word

abbrev pub WordNext : ℕ → Inner → Named → Kind → Lang Placed Next
WordNext n l x (KName y) = Either (λ u. NameNext n l x (kind u)) (RangeFrom n l (Nothing (QName x.at y)))
WordNext n l x (KWord q.True) = WholeNext n l x (QLiteral x.at (LitBool true))
WordNext n l x (KWord q.False) = WholeNext n l x (QLiteral x.at (LitBool false))
WordNext n l x (KWord q.Set) = Led (λ u. SetNext n l x (kind u))
WordNext n l x (KWord q.Struct) = Led (λ u. OpenNext n l (StructIn x.at) x (kind u))
WordNext n l x (KWord q.Flatten) = Led (λ u. OpenNext n l (FlattenIn x.at) x (kind u))
WordNext n l x (KWord q.Exists) = Led (λ u. OpenNext n l (SomeIn x.at) x (kind u))
WordNext n l x _ = Led (λ u. OnlyLabel x (kind u))

word_next_good : {On : Type 0} {n m : ℕ} {o o' : Option Level} {l l' : Inner} → (On → n < m) → Inside On o o' l l' → (x : Named) (k : Kind) → Good On (word_next n o x k) (word_next m o' x k) (WordNext n l x k) (WordNext m l' x k) goes_next
word_next_good {On} {n} {m} {o} {o'} {l} {l'} le z x (KName y) =
    other_apart_good (λ u. name_next n o x (kind u)) (λ u. name_next m o' x (kind u)) (λ u. NameNext n l x (kind u)) (λ u. NameNext m l' x (kind u)) (λ u. name_each le z x (kind u)) (range_from_good le z (done_good On (QName x.at y)))
    (λ u. name_apart n o x (QName x.at y) u (kind u) refl) (next_needs n o (QName x.at y)) (λ u. name_apart m o' x (QName x.at y) u (kind u) refl) (next_needs m o' (QName x.at y))
word_next_good le z x (KWord q.True) = whole_good le z x (QLiteral x.at (LitBool true))
word_next_good le z x (KWord q.False) = whole_good le z x (QLiteral x.at (LitBool false))
word_next_good {On} {n} {m} {o} {o'} {l} {l'} le z x (KWord q.Set) =
    eat_good (λ u. set_next n o x (kind u)) (λ u. set_next m o' x (kind u)) (λ u. SetNext n l x (kind u)) (λ u. SetNext m l' x (kind u)) goes_next (λ u. set_each le z x (kind u))
    (by_colon (SetNext n l x) x (refl, tt)) (by_colon (SetNext m l' x) x (refl, tt))
word_next_good le z x (KWord q.Struct) = open_good (λ i. struct_in i x.at) (StructIn x.at) le z (λ Off i j L M h. struct_in_good x.at h) x
word_next_good le z x (KWord q.Flatten) = open_good (λ i. flatten_in i x.at) (FlattenIn x.at) le z (λ Off i j L M h. flatten_in_good x.at h) x
word_next_good le z x (KWord q.Exists) = open_good (λ i. some_in i x.at) (SomeIn x.at) le z (λ Off i j L M h. some_in_good x.at h) x
word_next_good {On} le z x _ =
    eat_good (λ u. only_label x (kind u)) (λ u. only_label x (kind u)) (λ u. OnlyLabel x (kind u)) (λ u. OnlyLabel x (kind u)) goes_next (λ u. only_each On x (kind u)) (by_colon (OnlyLabel x) x (refl, tt)) (by_colon (OnlyLabel x) x (refl, tt))

abbrev pub NextRest : ℕ → Inner → Option Named → Kind → ℕ → Lang Placed Next
NextRest n l (Some x) k at = WordNext n l x k
NextRest n l None k at = RangeFrom n l (PrimRest l k at)

next_each : {On : Type 0} {n m : ℕ} {o o' : Option Level} {l l' : Inner} → (On → n < m) → Inside On o o' l l' → (c : Option Named) (k : Kind) (at : ℕ)
    → MoveGood On (next_move n o c k at) (next_move m o' c k at) (NextRest n l c k at) (NextRest m l' c k at) goes_next
next_each le z (Some x) k at = word_next_good le z x k
next_each {On} {n} {m} {o} {o'} {l} {l'} le z None k at =
    led_good On (prim_move o k at) (prim_move o' k at) (PrimRest l k at) (PrimRest l' k at) never (range_from n o) (range_from m o') (RangeFrom n l) (RangeFrom m l') goes_next
    (λ Off f p r P R h. range_from_good (λ off. le (f off)) (inside_weaker f z) h) (λ P h. no_made ARange (no_as n l P h)) (λ P h. no_made ARange (no_as m l' P h)) (prim_each z k at)

abbrev pub NextText : ℕ → Inner → Bool → Lang Placed Next
NextText n l false = Made ARange (Range n l)
NextText n l true = Led (λ t. NextRest n l (name_of t) (kind t) t.at)

select_label : Named
select_label = named (query_word_spelling q.Select) 0

next_some : (n : ℕ) (l : Inner) → Inhabited (Led (λ t. NextRest n l (name_of t) (kind t) t.at))
unfolding select_label
next_some n l =
    let colon = by_colon (OnlyLabel select_label) select_label (refl, tt) in
    record { tree = colon.tree; text = word_token (query_word_spelling q.Select) ∷ colon.text; spells = subst (λ k. WordNext n l select_label k colon.tree colon.text) (sym (word_is q.Select refl)) colon.spells }

next_good : {On : Type 0} {n m : ℕ} {o o' : Option Level} {l l' : Inner} → (On → n < m) → Inside On o o' l l' → (b : Bool) → Good On (next n o b) (next m o' b) (NextText n l b) (NextText m l' b) goes_next
next_good le z false = made_good ARange goes_next (range_good le z)
next_good {On} {n} {m} {o} {o'} {l} {l'} le z true =
    eat_good (λ t. next_move n o (name_of t) (kind t) t.at) (λ t. next_move m o' (name_of t) (kind t) t.at) (λ t. NextRest n l (name_of t) (kind t) t.at) (λ t. NextRest m l' (name_of t) (kind t) t.at) goes_next
    (λ t. next_each le z (name_of t) (kind t) t.at) (next_some n l) (next_some m l')

-- ---- all ranges

abbrev pub CommaLinks : Lang Placed Next → Tail → Kind → Lang Placed Next
CommaLinks L (Ranged b) (KSign s.Comma) = L
CommaLinks L _ _ = no_text

comma_links : {On : Type 0} {p r : Reader Next} {L M : Lang Placed Next} → Good On p r L M goes_next → (x : Tail) (k : Kind) → LinkGood On (comma_move p x k) (comma_move r x k) (CommaLinks L x k) (CommaLinks M x k) goes_next (on_last x k) (on_ranges x k)
comma_links h (Ranged true) (KSign s.Comma) = (h, refl, refl)
comma_links h (Ranged false) (KSign s.Comma) = (h, refl, refl)
comma_links h (Ranged b) _ = (nothing, nothing, refl)
comma_links h Plain k = (nothing, nothing, refl)
comma_links h Compared k = (nothing, nothing, refl)
comma_links h OpenPlain k = (nothing, nothing, refl)
comma_links h OpenCompared k = (nothing, nothing, refl)
comma_links h (Labelled y z) k = (nothing, nothing, refl)

next_last : (x : RangesTailed) (c : Next) (k : Kind) → on_last (more_ranges x c).1 k ≡ on_next c k
next_last x (ARange r) k = refl
next_last x (ALabel l) k = refl

abbrev pub Ranges : ℕ → Inner → Bool → Lang Placed RangesTailed
Ranges n l b = Chained (Made first_range (Range n l)) (λ x. ManyText (λ (x : RangesTailed) t. CommaLinks (NextText n l b) x.1 (kind t)) more_ranges x)

pub ranges_good : {On : Type 0} {n m : ℕ} {o o' : Option Level} {l l' : Inner} → (On → n < m) → Inside On o o' l l' → (b : Bool) → Good On (ranges n o b) (ranges m o' b) (Ranges n l b) (Ranges m l' b) goes_ranges
ranges_good {On} {n} {m} {o} {o'} {l} {l'} le z b =
    manied_good On (λ (x : RangesTailed) t. comma_move (next n o b) x.1 (kind t)) (λ (x : RangesTailed) t. comma_move (next m o' b) x.1 (kind t)) (λ (x : RangesTailed) t. CommaLinks (NextText n l b) x.1 (kind t)) (λ (x : RangesTailed) t. CommaLinks (NextText m l' b) x.1 (kind t)) more_ranges
    (λ x t. on_last x.1 (kind t)) goes_ranges goes_next (λ x c t. next_last x c (kind t)) (λ x t. comma_links (next_good le z b) x.1 (kind t))
    (made first_range (range n o)) (made first_range (range m o')) (Made first_range (Range n l)) (Made first_range (Range m l')) (made_good first_range (λ x t. on_last x.1 (kind t)) (range_good le z))
