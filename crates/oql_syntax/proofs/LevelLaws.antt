-- The languages of one level, and that the readers of expressions read them.
use Rattle.std.proofs.Common.{◌≡◌, ℕ, suc, ◌<◌, Bool, true, false, List, [], ◌∷◌, Option, Some, None, refl, sym, ap, subst, ◌∙◌, arith}
use Rattle.std.specs.Prelude.{is_some, ◌||◌}
use Rattle.kola_base.specs.declared.sign.Sign.TheVariants as s
use Rattle.kola_base.specs.Named.{Named, NameText}
use Rattle.kola_base.specs.Placed.{Placed}
use Rattle.kola_base.proofs.NamedLaws.{name_good}
use Rattle.kola_parse.specs.Kinds.{Lang, leads, deeper}
use Rattle.kola_parse.specs.Listed.{Listed}
use Rattle.kola_parse.specs.Moves.{NoText, MoveGood, LinkGood}
use Rattle.kola_parse.specs.Reader.{eat, made}
use Rattle.kola_parse.specs.Reading.{Ends, never, Inhabited, Reads, Good}
use Rattle.kola_parse.specs.Texts.{ends, Nothing, Chained, Made, Paired, Led, ChainText}
use Rattle.kola_parse.proofs.GoodReaders.{done_good, next_good, eat_good, good_as, made_good, pair_good}
use Rattle.kola_parse.proofs.Chains.{chained_good}
use Rattle.kola_parse.proofs.ListedLaws.{IsList, ItemOr, IsTaken, listed_good}
use Rattle.oql_syntax.specs.Alphabet.{Kind, KSign, KWord, KName, KNumber, KString, kind}
use Rattle.oql_tree.specs.QueryTrees.{LitTree, LitInt, LitStr, LitBool, QueryTree, QName, QLiteral, QSetOf, QFlatten, QSomeMember, QAnd, QOr, QExists, QForAll, QueryWhere, NoWhere, Where}
use Rattle.oql_syntax.specs.QueryReaders.{Reader, Tailed, RangesTailed, FieldParts, Level, closed, next_literal_move, next_literal, first_and, literals, set_in, struct_tree, struct_in, flatten_in, some_in, prim_move, prim, PathParts, no_labels, add_label, path_of, label_move, path_by, Operands, no_operands, add_operand, intersect_of, at_place, intersect_move, meet_by, meet_from, SetOperands, no_set_operands, add_set_operand, union_of, set_operand, union_move, sets_by, sets_from, sets, comparison_of, plain, compared, compared_with, comparison_by, comparison_move, cmp_from, with_body, quantified, exists_move, not_tree, opennot_move, opennot, OperandsTailed, first_operand, more_operands, joined, placed_operand, and_move, and_from, or_move, or_from, openor_from, SelectParts, no_where, with_where, selected, where_move, select_rest, select, full_move, full}
use Rattle.oql_syntax.specs.Tails.{Tail, Plain, Compared, OpenPlain, OpenCompared, Ranged, Labelled}
use Rattle.oql_tree.specs.declared.query.Sign.{Sign}
use Rattle.oql_syntax.specs.declared.word.QueryWord.TheVariants as q
use Rattle.oql_syntax.proofs.QuerySymbols.{sign_token, sign_is, Ahead, ahead_sign, ahead_word, after_sign, after_word, no_text, nothing, name_token, name_token_is, Variable, variable_good, Literal, literal_good, weaker, led_good}
use Rattle.oql_syntax.proofs.GoesOn.{on_path, on_meet, on_sets, on_full, on_and, on_not, on_side, on_ranges, on_part, ranges_by, opened_same, opened_not, comparison_clear, close_full, from_full}

-- the languages of one level
pub record Texts : Type 1 where
  pub sets : Lang Placed QueryTree
  pub opennot : Bool → Lang Placed Tailed
  pub full : Bool → Lang Placed Tailed
  pub ranges : Bool → Lang Placed RangesTailed
  pub fields : Lang Placed (List FieldParts)

-- what goes on each
abbrev pub goes_sets : QueryTree → Placed → Bool
goes_sets x t = on_sets (kind t)

abbrev pub goes_full : Tailed → Placed → Bool
goes_full v t = on_full v.1 (kind t)

abbrev pub goes_not : Tailed → Placed → Bool
goes_not v t = on_not v.1 (kind t)

abbrev pub goes_and : Tailed → Placed → Bool
goes_and v t = on_and v.1 (kind t)

abbrev pub goes_ranges : RangesTailed → Placed → Bool
goes_ranges v t = on_ranges v.1 (kind t)

pub record LevelGood (On : Type 0) (i j : Level) (L M : Texts) : Type 0 where
  pub sets : Good On i.sets j.sets L.sets M.sets goes_sets
  pub opennot : (b : Bool) → Good On (i.opennot b) (j.opennot b) (L.opennot b) (M.opennot b) goes_not
  pub full : (b : Bool) → Good On (i.full b) (j.full b) (L.full b) (M.full b) goes_full
  pub ranges : (b : Bool) → Good On (i.ranges b) (j.ranges b) (L.ranges b) (M.ranges b) goes_ranges
  pub fields : Good On i.fields j.fields L.fields M.fields never

-- the languages one level below, if there is such a level
pub data Inner : Type 1 where
  Nowhere : Inner
  Level_of : Texts → Inner

pub data Inside (On : Type 0) : Option Level → Option Level → Inner → Inner → Type 1 where
  bare : (On → ⊥) → Inside On None None Nowhere Nowhere
  first : (j : Level) (M : Texts) → LevelGood ⊥ j j M M → Inside On None (Some j) Nowhere (Level_of M)
  both : (i j : Level) (L M : Texts) → LevelGood On i j L M → Inside On (Some i) (Some j) (Level_of L) (Level_of M)

abbrev pub Deeper : {A : Type 0} → Inner → (Texts → Lang Placed A) → Lang Placed A
Deeper Nowhere F = no_text
Deeper (Level_of L) F = F L

pub deeper_good : {A : Type 0} {On : Type 0} {o o' : Option Level} {l l' : Inner} (f g : Level → Reader A) (F G : Texts → Lang Placed A) (K : A → Placed → Bool) → Inside On o o' l l'
    → ((Off : Type 0) → (Off → On) → (i j : Level) (L M : Texts) → LevelGood Off i j L M → Good Off (f i) (g j) (F L) (G M) K) → MoveGood On (deeper o f) (deeper o' g) (Deeper l F) (Deeper l' G) K
deeper_good f g F G K (bare off) go = (nothing, nothing, off)
deeper_good f g F G K (first j M h) go = (nothing, (go ⊥ (λ off. absurd off) j j M M h).high)
deeper_good {On = On} f g F G K (both i j L M h) go = go On (λ on. on) i j L M h

-- ---- parentheses

abbrev pub Closed : {A : Type 0} → Lang Placed (A × Tail) → Lang Placed A
Closed L = Chained L (λ v. Ahead (KSign s.Close) (Nothing v.0))

pub closed_good : {A On : Type 0} {p r : Reader (A × Tail)} {L M : Lang Placed (A × Tail)} → Good On p r L M (λ v t. on_full v.1 (kind t)) → Good On (closed p) (closed r) (Closed L) (Closed M) never
closed_good {A} {On} h = after_sign s.Close (λ v t e. ap (on_full v.1) e ∙ close_full v.1) h (λ v. done_good On v.0)

-- ---- literals of a set

abbrev pub CommaLiteral : Lang Placed (LitTree × ℕ)
CommaLiteral = Ahead (KSign s.Comma) Literal

abbrev pub CloseText : List Placed → Type 0
CloseText = leads (λ t. kind t ≡ KSign s.Close) ends

abbrev NextRest : Kind → Lang Placed (Option (LitTree × ℕ))
NextRest (KSign s.Comma) = Made Some Literal
NextRest (KSign s.Close) = Nothing None
NextRest _ = no_text

next_each : (On : Type 0) (k : Kind) → MoveGood On (next_literal_move k) (next_literal_move k) (NextRest k) (NextRest k) never
next_each On (KSign s.Comma) = made_good Some never (literal_good On)
next_each On (KSign s.Close) = done_good On None
next_each On _ = (nothing, nothing)

next_some : Inhabited (Led (λ t. NextRest (kind t)))
next_some = record { tree = None; text = sign_token s.Close ∷ []; spells = subst (λ k. NextRest k None []) (sym (sign_is s.Close)) (refl, tt) }

next_to_at : (x : Option (LitTree × ℕ)) (t : Placed) (w : List Placed) (k : Kind) → kind t ≡ k → NextRest k x w → ItemOr CommaLiteral CloseText x (t ∷ w)
next_to_at x t w (KSign s.Comma) e h = subst (λ y. ItemOr CommaLiteral CloseText y (t ∷ w)) (sym h.is) (e, h.spells)
next_to_at x t w (KSign s.Close) e h = subst (λ y. ItemOr CommaLiteral CloseText y (t ∷ w)) (sym h.0) (e, h.1)
next_to_at x t w _ e h = absurd h

next_to : (x : Option (LitTree × ℕ)) (w : List Placed) → Led (λ t. NextRest (kind t)) x w → ItemOr CommaLiteral CloseText x w
next_to x [] h = absurd h
next_to x (t ∷ w) h = next_to_at x t w (kind t) refl h

next_from : (x : Option (LitTree × ℕ)) (w : List Placed) → ItemOr CommaLiteral CloseText x w → Led (λ t. NextRest (kind t)) x w
next_from (Some v) [] h = absurd h
next_from None [] h = absurd h
next_from (Some v) (t ∷ w) h = subst (λ k. NextRest k (Some v) w) (sym h.0) (record { part = v; is = refl; spells = h.1 })
next_from None (t ∷ w) h = subst (λ k. NextRest k None w) (sym h.0) (refl, h.1)

next_literal_good : (On : Type 0) → Good On next_literal next_literal (ItemOr CommaLiteral CloseText) (ItemOr CommaLiteral CloseText) never
next_literal_good On = good_as next_to next_from next_to next_from (eat_good (λ t. next_literal_move (kind t)) (λ t. next_literal_move (kind t)) (λ t. NextRest (kind t)) (λ t. NextRest (kind t)) never (λ t. next_each On (kind t)) next_some next_some)

literals_taken : IsTaken CommaLiteral CloseText
literals_taken = record { item = λ v h. h; last = λ h. h; text = sign_token s.Close ∷ []; is = (sign_is s.Close, tt) }

pub literal_list : IsList next_literal
literal_list = record { item = CommaLiteral; last = CloseText; reads = (next_literal_good ⊥).low; taken = literals_taken }

abbrev pub Literals : Lang Placed (List (LitTree × ℕ))
Literals = Made first_and (Paired Literal (λ _. Listed CommaLiteral CloseText))

pub literals_good : (On : Type 0) → Good On literals literals Literals Literals never
literals_good On = made_good first_and never (pair_good never (literal_good On) (λ _. listed_good literals_taken literals_taken (next_literal_good On)))

-- ---- paths

abbrev pub PathLinks : Kind → Lang Placed Named
PathLinks (KSign s.Dot) = NameText
PathLinks (KSign s.Arrow) = NameText
PathLinks _ = no_text

abbrev pub PathBy : ℕ → Lang Placed QueryTree → Lang Placed QueryTree
PathBy n L = Made path_of (Chained (Made no_labels L) (λ x. ChainText (λ (x : PathParts) t. PathLinks (kind t)) add_label n x))

dot_links : (On : Type 0) (k : Kind) → LinkGood On (label_move k) (label_move k) (PathLinks k) (PathLinks k) never false (on_path k)
dot_links On (KSign s.Dot) = (name_good On, refl, refl)
dot_links On (KSign s.Arrow) = (name_good On, refl, refl)
dot_links On _ = (nothing, nothing, refl)

pub path_good : {On : Type 0} {n m : ℕ} {p r : Reader QueryTree} {L M : Lang Placed QueryTree} → (On → n < m) → Good On p r L M never → Good On (path_by n p) (path_by m r) (PathBy n L) (PathBy m M) (λ x t. on_path (kind t))
path_good {On} {n} {m} {p} {r} {L} {M} le h =
    made_good path_of (λ x t. on_path (kind t))
    (chained_good On (λ (x : PathParts) t. label_move (kind t)) (λ (x : PathParts) t. label_move (kind t)) (λ (x : PathParts) t. PathLinks (kind t)) (λ (x : PathParts) t. PathLinks (kind t)) add_label
    never (λ x t. on_path (kind t)) never (λ a l t. refl) (λ x t. dot_links On (kind t)) (made no_labels p) (made no_labels r) (Made no_labels L) (Made no_labels M) n m le
    (made_good no_labels never h))

-- ---- intersections

abbrev pub MeetLinks : Lang Placed QueryTree → ℕ → Kind → Lang Placed (ℕ × QueryTree)
MeetLinks P at (KWord q.Intersect) = Made (at_place at) P
MeetLinks P at _ = no_text

abbrev pub MeetBy : ℕ → Lang Placed QueryTree → Lang Placed QueryTree → Lang Placed QueryTree
MeetBy n P L = Made intersect_of (Chained (Made no_operands (PathBy n L)) (λ x. ChainText (λ (x : Operands) t. MeetLinks P t.at (kind t)) add_operand n x))

meet_links : {On : Type 0} {p r : Reader QueryTree} {P R : Lang Placed QueryTree} → Good On p r P R (λ x t. on_path (kind t)) → (at : ℕ) (k : Kind)
    → LinkGood On (intersect_move p at k) (intersect_move r at k) (MeetLinks P at k) (MeetLinks R at k) (λ l t. on_path (kind t)) (on_path k) (on_meet k)
meet_links h at (KWord q.Intersect) = (made_good (at_place at) (λ l t. on_path (kind t)) h, refl, refl)
meet_links h at _ = (nothing, nothing, refl)

pub meet_by_good : {On : Type 0} {n m : ℕ} {a b p r : Reader QueryTree} {P R L M : Lang Placed QueryTree} → (On → n < m) → Good On a b P R (λ x t. on_path (kind t)) → Good On p r L M never
    → Good On (meet_by n a p) (meet_by m b r) (MeetBy n P L) (MeetBy m R M) (λ x t. on_meet (kind t))
meet_by_good {On} {n} {m} {a} {b} {p} {r} {P} {R} {L} {M} le operand h =
    made_good intersect_of (λ x t. on_meet (kind t))
    (chained_good On (λ (x : Operands) t. intersect_move a t.at (kind t)) (λ (x : Operands) t. intersect_move b t.at (kind t)) (λ (x : Operands) t. MeetLinks P t.at (kind t)) (λ (x : Operands) t. MeetLinks R t.at (kind t)) add_operand
    (λ x t. on_path (kind t)) (λ x t. on_meet (kind t)) (λ l t. on_path (kind t)) (λ a l t. refl) (λ x t. meet_links operand t.at (kind t)) (made no_operands (path_by n p)) (made no_operands (path_by m r)) (Made no_operands (PathBy n L)) (Made no_operands (PathBy m M)) n m le
    (made_good no_operands (λ x t. on_path (kind t)) (path_good le h)))

-- ---- unions

abbrev pub UnionLinks : Lang Placed QueryTree → ℕ → Kind → Lang Placed (ℕ × Bool × QueryTree)
UnionLinks P at (KWord q.Union) = Made (set_operand at false) P
UnionLinks P at (KWord q.Except) = Made (set_operand at true) P
UnionLinks P at _ = no_text

abbrev pub SetsBy : ℕ → Lang Placed QueryTree → Lang Placed QueryTree → Lang Placed QueryTree
SetsBy n P L = Made union_of (Chained (Made no_set_operands L) (λ x. ChainText (λ (x : SetOperands) t. UnionLinks P t.at (kind t)) add_set_operand n x))

union_links : {On : Type 0} {p r : Reader QueryTree} {P R : Lang Placed QueryTree} → Good On p r P R (λ x t. on_meet (kind t)) → (at : ℕ) (k : Kind)
    → LinkGood On (union_move p at k) (union_move r at k) (UnionLinks P at k) (UnionLinks R at k) (λ l t. on_meet (kind t)) (on_meet k) (on_sets k)
union_links h at (KWord q.Union) = (made_good (set_operand at false) (λ l t. on_meet (kind t)) h, refl, refl)
union_links h at (KWord q.Except) = (made_good (set_operand at true) (λ l t. on_meet (kind t)) h, refl, refl)
union_links h at _ = (nothing, nothing, refl)

pub sets_by_good : {On : Type 0} {n m : ℕ} {a b p r : Reader QueryTree} {P R L M : Lang Placed QueryTree} → (On → n < m) → Good On a b P R (λ x t. on_meet (kind t)) → Good On p r L M (λ x t. on_meet (kind t))
    → Good On (sets_by n a p) (sets_by m b r) (SetsBy n P L) (SetsBy m R M) goes_sets
sets_by_good {On} {n} {m} {a} {b} {p} {r} {P} {R} {L} {M} le operand h =
    made_good union_of goes_sets
    (chained_good On (λ (x : SetOperands) t. union_move a t.at (kind t)) (λ (x : SetOperands) t. union_move b t.at (kind t)) (λ (x : SetOperands) t. UnionLinks P t.at (kind t)) (λ (x : SetOperands) t. UnionLinks R t.at (kind t)) add_set_operand
    (λ x t. on_meet (kind t)) (λ x t. on_sets (kind t)) (λ l t. on_meet (kind t)) (λ a l t. refl) (λ x t. union_links operand t.at (kind t)) (made no_set_operands p) (made no_set_operands r) (Made no_set_operands L) (Made no_set_operands M) n m le
    (made_good no_set_operands (λ x t. on_meet (kind t)) h))

-- ---- first operands

abbrev pub StructIn : ℕ → Texts → Lang Placed QueryTree
StructIn at L = Made (struct_tree at) L.fields

abbrev pub FlattenIn : ℕ → Texts → Lang Placed QueryTree
FlattenIn at L = Made (QFlatten at) (Closed (L.full false))

abbrev pub SomeIn : ℕ → Texts → Lang Placed QueryTree
SomeIn at L = Made (QSomeMember at) (Closed (L.full false))

abbrev pub SetIn : ℕ → Lang Placed QueryTree
SetIn at = Made (QSetOf at) Literals

pub struct_in_good : {On : Type 0} {i j : Level} {L M : Texts} (at : ℕ) → LevelGood On i j L M → Good On (struct_in i at) (struct_in j at) (StructIn at L) (StructIn at M) never
struct_in_good at h = made_good (struct_tree at) never h.fields

pub flatten_in_good : {On : Type 0} {i j : Level} {L M : Texts} (at : ℕ) → LevelGood On i j L M → Good On (flatten_in i at) (flatten_in j at) (FlattenIn at L) (FlattenIn at M) never
flatten_in_good at h = made_good (QFlatten at) never (closed_good (h.full false))

pub some_in_good : {On : Type 0} {i j : Level} {L M : Texts} (at : ℕ) → LevelGood On i j L M → Good On (some_in i at) (some_in j at) (SomeIn at L) (SomeIn at M) never
some_in_good at h = made_good (QSomeMember at) never (closed_good (h.full false))

pub set_in_good : (On : Type 0) (at : ℕ) → Good On (set_in at) (set_in at) (SetIn at) (SetIn at) never
set_in_good On at = made_good (QSetOf at) never (literals_good On)

-- what stands behind the first token of a first operand
abbrev pub PrimRest : Inner → Kind → ℕ → Lang Placed QueryTree
PrimRest l (KName x) at = Nothing (QName at x)
PrimRest l (KNumber z) at = Nothing (QLiteral at (LitInt z))
PrimRest l (KString b) at = Nothing (QLiteral at (LitStr b))
PrimRest l (KWord q.True) at = Nothing (QLiteral at (LitBool true))
PrimRest l (KWord q.False) at = Nothing (QLiteral at (LitBool false))
PrimRest l (KWord q.Set) at = Ahead (KSign s.Open) (SetIn at)
PrimRest l (KWord q.Struct) at = Deeper l (λ L. Ahead (KSign s.Open) (StructIn at L))
PrimRest l (KWord q.Flatten) at = Deeper l (λ L. Ahead (KSign s.Open) (FlattenIn at L))
PrimRest l (KWord q.Exists) at = Deeper l (λ L. Ahead (KSign s.Open) (SomeIn at L))
PrimRest l (KSign s.Open) at = Deeper l (λ L. Closed (L.full false))
PrimRest l _ at = no_text

pub prim_each : {On : Type 0} {o o' : Option Level} {l l' : Inner} → Inside On o o' l l' → (k : Kind) (at : ℕ) → MoveGood On (prim_move o k at) (prim_move o' k at) (PrimRest l k at) (PrimRest l' k at) never
prim_each {On} z (KName x) at = done_good On (QName at x)
prim_each {On} z (KNumber y) at = done_good On (QLiteral at (LitInt y))
prim_each {On} z (KString b) at = done_good On (QLiteral at (LitStr b))
prim_each {On} z (KWord q.True) at = done_good On (QLiteral at (LitBool true))
prim_each {On} z (KWord q.False) at = done_good On (QLiteral at (LitBool false))
prim_each {On} z (KWord q.Set) at = ahead_sign s.Open (set_in_good On at)
prim_each z (KWord q.Struct) at = deeper_good _ _ _ _ never z (λ Off f i j L M h. ahead_sign s.Open (struct_in_good at h))
prim_each z (KWord q.Flatten) at = deeper_good _ _ _ _ never z (λ Off f i j L M h. ahead_sign s.Open (flatten_in_good at h))
prim_each z (KWord q.Exists) at = deeper_good _ _ _ _ never z (λ Off f i j L M h. ahead_sign s.Open (some_in_good at h))
prim_each z (KSign s.Open) at = deeper_good _ _ _ _ never z (λ Off f i j L M h. closed_good (h.full false))
prim_each z _ at = (nothing, nothing)

abbrev pub Prim : Inner → Lang Placed QueryTree
Prim l = Led (λ t. PrimRest l (kind t) t.at)

-- behind a name nothing need stand
pub named_first : {A : Type 0} (F : Kind → ℕ → Lang Placed A) (x : A) (w : List Placed) → F (KName (123 ∷ [])) 0 x w → Led (λ t. F (kind t) t.at) x (name_token ∷ w)
named_first F x w h = subst (λ k. F k 0 x w) (sym name_token_is) h

abbrev pub name_tree : QueryTree
name_tree = QName 0 (123 ∷ [])

prim_some : (l : Inner) → Inhabited (Prim l)
prim_some l = record { tree = name_tree; text = name_token ∷ []; spells = named_first (PrimRest l) name_tree [] (refl, tt) }

pub prim_good : {On : Type 0} {o o' : Option Level} {l l' : Inner} → Inside On o o' l l' → Good On (prim o) (prim o') (Prim l) (Prim l') never
prim_good {On} {o} {o'} {l} {l'} z = eat_good (λ t. prim_move o (kind t) t.at) (λ t. prim_move o' (kind t) t.at) (λ t. PrimRest l (kind t) t.at) (λ t. PrimRest l' (kind t) t.at) never (λ t. prim_each z (kind t) t.at) (prim_some l) (prim_some l')

abbrev pub MeetFrom : ℕ → Inner → Lang Placed QueryTree → Lang Placed QueryTree
MeetFrom n l L = MeetBy n (PathBy n (Prim l)) L

pub meet_from_good : {On : Type 0} {n m : ℕ} {o o' : Option Level} {l l' : Inner} {p r : Reader QueryTree} {L M : Lang Placed QueryTree} → (On → n < m) → Inside On o o' l l' → Good On p r L M never
    → Good On (meet_from n o p) (meet_from m o' r) (MeetFrom n l L) (MeetFrom m l' M) (λ x t. on_meet (kind t))
meet_from_good le z h = meet_by_good le (path_good le (prim_good z)) h

abbrev pub SetsFrom : ℕ → Inner → Lang Placed QueryTree → Lang Placed QueryTree
SetsFrom n l L = SetsBy n (MeetFrom n l (Prim l)) (MeetFrom n l L)

pub sets_from_good : {On : Type 0} {n m : ℕ} {o o' : Option Level} {l l' : Inner} {p r : Reader QueryTree} {L M : Lang Placed QueryTree} → (On → n < m) → Inside On o o' l l' → Good On p r L M never
    → Good On (sets_from n o p) (sets_from m o' r) (SetsFrom n l L) (SetsFrom m l' M) goes_sets
sets_from_good le z h = sets_by_good le (meet_from_good le z (prim_good z)) (meet_from_good le z h)

abbrev pub Sets : ℕ → Inner → Lang Placed QueryTree
Sets n l = SetsFrom n l (Prim l)

pub sets_good : {On : Type 0} {n m : ℕ} {o o' : Option Level} {l l' : Inner} → (On → n < m) → Inside On o o' l l' → Good On (sets n o) (sets m o') (Sets n l) (Sets m l') goes_sets
sets_good le z = sets_from_good le z (prim_good z)

-- ---- comparisons

abbrev pub ComparisonBy : Lang Placed QueryTree → ℕ → Option Sign → Lang Placed (ℕ × Sign × QueryTree)
ComparisonBy L at (Some y) = Made (compared_with at y) L
ComparisonBy L at None = no_text

abbrev pub ComparisonLinks : Lang Placed QueryTree → Tail → ℕ → Kind → Lang Placed (ℕ × Sign × QueryTree)
ComparisonLinks L Plain at k = ComparisonBy L at (comparison_of k)
ComparisonLinks L _ at k = no_text

abbrev pub CmpFrom : ℕ → Inner → Lang Placed QueryTree → Lang Placed Tailed
CmpFrom n l L = Chained (Made plain (SetsFrom n l L)) (λ v. ChainText (λ (v : Tailed) t. ComparisonLinks (Sets n l) v.1 t.at (kind t)) compared (suc n) v)

comparison_by_links : {On : Type 0} {p r : Reader QueryTree} {L M : Lang Placed QueryTree} → Good On p r L M goes_sets → (at : ℕ) (k : Kind) (o : Option Sign) → comparison_of k ≡ o
    → LinkGood On (comparison_by p at o) (comparison_by r at o) (ComparisonBy L at o) (ComparisonBy M at o) (λ l t. on_sets (kind t)) (on_sets k) (is_some o || on_sets k)
comparison_by_links h at k (Some y) e = (made_good (compared_with at y) (λ l t. on_sets (kind t)) h, refl, comparison_clear k y e)
comparison_by_links h at k None e = (nothing, nothing, refl)

comparison_links : {On : Type 0} {p r : Reader QueryTree} {L M : Lang Placed QueryTree} → Good On p r L M goes_sets → (x : Tail) (at : ℕ) (k : Kind)
    → LinkGood On (comparison_move p x at k) (comparison_move r x at k) (ComparisonLinks L x at k) (ComparisonLinks M x at k) (λ l t. on_sets (kind t)) (on_side x k) (on_not x k)
comparison_links h Plain at k = comparison_by_links h at k (comparison_of k) refl
comparison_links h Compared at k = (nothing, nothing, refl)
comparison_links h OpenPlain at k = (nothing, nothing, refl)
comparison_links h OpenCompared at k = (nothing, nothing, refl)
comparison_links h (Ranged b) at k = (nothing, nothing, refl)
comparison_links h (Labelled y z) at k = (nothing, nothing, refl)

pub cmp_good : {On : Type 0} {n m : ℕ} {o o' : Option Level} {l l' : Inner} {p r : Reader QueryTree} {L M : Lang Placed QueryTree} → (On → n < m) → Inside On o o' l l' → Good On p r L M never
    → Good On (cmp_from n o p) (cmp_from m o' r) (CmpFrom n l L) (CmpFrom m l' M) goes_not
cmp_good {On} {n} {m} {o} {o'} {l} {l'} {p} {r} {L} {M} le z h =
    chained_good On (λ (v : Tailed) t. comparison_move (sets n o) v.1 t.at (kind t)) (λ (v : Tailed) t. comparison_move (sets m o') v.1 t.at (kind t)) (λ (v : Tailed) t. ComparisonLinks (Sets n l) v.1 t.at (kind t)) (λ (v : Tailed) t. ComparisonLinks (Sets m l') v.1 t.at (kind t)) compared
    (λ v t. on_side v.1 (kind t)) goes_not (λ l t. on_sets (kind t)) (λ a l t. refl) (λ v t. comparison_links (sets_good le z) v.1 t.at (kind t))
    (made plain (sets_from n o p)) (made plain (sets_from m o' r)) (Made plain (SetsFrom n l L)) (Made plain (SetsFrom m l' M)) (suc n) (suc m) (λ on. let e = le on in omega (arith, e))
    (made_good plain (λ v t. on_side v.1 (kind t)) (sets_from_good le z h))

-- ---- where there is no first operand, there is nothing that begins with it

pub no_made : {A B : Type 0} (f : A → B) {L : Lang Placed A} → NoText L → NoText (Made f L)
no_made f h y w m = h m.part w m.spells

pub no_chained : {A B : Type 0} {L : Lang Placed A} (M : A → Lang Placed B) → NoText L → NoText (Chained L M)
no_chained M h y w c = h c.mid c.front c.first

pub no_sets_from : (n : ℕ) (l : Inner) (L : Lang Placed QueryTree) → NoText L → NoText (SetsFrom n l L)
no_sets_from n l L h = no_made _ (no_chained _ (no_made _ (no_made _ (no_chained _ (no_made _ (no_made _ (no_chained _ (no_made _ h))))))))

no_cmp : (n : ℕ) (l : Inner) (L : Lang Placed QueryTree) → NoText L → NoText (CmpFrom n l L)
no_cmp n l L h = no_chained _ (no_made _ (no_sets_from n l L h))

-- ---- what goes on a text, said otherwise

reads_on : {A : Type 0} {p : Reader A} {L : Lang Placed A} {K J : A → Placed → Bool} → ((x : A) (t : Placed) → K x t ≡ J x t) → Reads p L K → Reads p L J
reads_on {A} {p} {L} {K} {J} same h = record {
  sound = λ ts x r e. let one = h.sound ts x r e in record { text = one.text; split = one.split; spells = one.spells; ends = move x r one.ends };
  complete = λ x w r l e. h.complete x w r l (back x r e);
  viable = h.viable;
  local = h.local;
  some = h.some;
}
  where
    move : (x : A) (r : List Placed) → Ends (K x) r → Ends (J x) r
    move x [] e = tt
    move x (t ∷ r) e = sym (same x t) ∙ e

    back : (x : A) (r : List Placed) → Ends (J x) r → Ends (K x) r
    back x [] e = tt
    back x (t ∷ r) e = same x t ∙ e

pub good_on : {A On : Type 0} {p r : Reader A} {L M : Lang Placed A} {K J : A → Placed → Bool} → ((x : A) (t : Placed) → K x t ≡ J x t) → Good On p r L M K → Good On p r L M J
good_on same h = record { low = reads_on same h.low; high = reads_on same h.high; wider = h.wider }

-- ---- quantifiers, not

abbrev pub Quantified : Bool → (QueryTree → QueryTree → QueryTree) → Texts → Lang Placed Tailed
Quantified b k L = Ahead (KWord q.In) (Chained L.sets (λ r. Ahead (KSign s.Colon) (Made (with_body k r) (L.full b))))

pub quantified_good : {On : Type 0} {i j : Level} {L M : Texts} (b : Bool) (k : QueryTree → QueryTree → QueryTree) → LevelGood On i j L M → Good On (quantified i b k) (quantified j b k) (Quantified b k L) (Quantified b k M) goes_not
quantified_good b k h = ahead_word q.In refl (after_sign s.Colon (λ r t e. ap on_sets e) h.sets (λ r. made_good (with_body k r) goes_not (good_on (λ v t. sym (opened_not v.1 (kind t))) (h.full b))))

pub level_weaker : {On Off : Type 0} {i j : Level} {L M : Texts} → (Off → On) → LevelGood On i j L M → LevelGood Off i j L M
level_weaker f h = record { sets = weaker f h.sets; opennot = λ b. weaker f (h.opennot b); full = λ b. weaker f (h.full b); ranges = λ b. weaker f (h.ranges b); fields = weaker f h.fields }

pub inside_weaker : {On Off : Type 0} {o o' : Option Level} {l l' : Inner} → (Off → On) → Inside On o o' l l' → Inside Off o o' l l'
inside_weaker f (bare off) = bare (λ x. off (f x))
inside_weaker f (first j M h) = first j M h
inside_weaker f (both i j L M h) = both i j L M (level_weaker f h)

abbrev pub ExistsRest : ℕ → Bool → Inner → Texts → ℕ → Kind → Lang Placed Tailed
ExistsRest n b l L at (KName x) = Quantified b (QExists at x) L
ExistsRest n b l L at (KSign s.Open) = CmpFrom n l (SomeIn at L)
ExistsRest n b l L at _ = no_text

exists_each : {On : Type 0} {n m : ℕ} {o o' : Option Level} {l l' : Inner} {i j : Level} {L M : Texts} (b : Bool) (at : ℕ) → (On → n < m) → Inside On o o' l l' → LevelGood On i j L M → (k : Kind)
    → MoveGood On (exists_move n b o i at k) (exists_move m b o' j at k) (ExistsRest n b l L at k) (ExistsRest m b l' M at k) goes_not
exists_each b at le z h (KName x) = quantified_good b (QExists at x) h
exists_each b at le z h (KSign s.Open) = cmp_good le z (some_in_good at h)
exists_each b at le z h _ = (nothing, nothing)

exists_some : (n : ℕ) (b : Bool) (l : Inner) (L : Texts) (at : ℕ) → Inhabited (Quantified b (QExists at (123 ∷ [])) L) → Inhabited (Led (λ u. ExistsRest n b l L at (kind u)))
exists_some n b l L at h = record { tree = h.tree; text = name_token ∷ h.text; spells = subst (λ k. ExistsRest n b l L at k h.tree h.text) (sym name_token_is) h.spells }

exists_good : {On : Type 0} {n m : ℕ} {o o' : Option Level} {l l' : Inner} {i j : Level} {L M : Texts} (b : Bool) (at : ℕ) → (On → n < m) → Inside On o o' l l' → LevelGood On i j L M
    → Good On (eat (λ u. exists_move n b o i at (kind u))) (eat (λ u. exists_move m b o' j at (kind u))) (Led (λ u. ExistsRest n b l L at (kind u))) (Led (λ u. ExistsRest m b l' M at (kind u))) goes_not
exists_good {On} {n} {m} {o} {o'} {l} {l'} {i} {j} {L} {M} b at le z h =
    let one = quantified_good b (QExists at (123 ∷ [])) h in
    eat_good (λ u. exists_move n b o i at (kind u)) (λ u. exists_move m b o' j at (kind u)) (λ u. ExistsRest n b l L at (kind u)) (λ u. ExistsRest m b l' M at (kind u)) goes_not (λ u. exists_each b at le z h (kind u))
    (exists_some n b l L at one.low.some) (exists_some m b l' M at one.high.some)

abbrev pub ForAll : Bool → ℕ → Texts → Lang Placed Tailed
ForAll b at L = Ahead (KWord q.All) (Chained Variable (λ x. Quantified b (QForAll at x.name) L))

abbrev pub NotRest : ℕ → Bool → Inner → Kind → ℕ → Lang Placed Tailed
NotRest n b l (KWord q.Not) at = Deeper l (λ L. Made (not_tree at) (L.opennot b))
NotRest n b l (KWord q.Exists) at = Deeper l (λ L. Led (λ u. ExistsRest n b l L at (kind u)))
NotRest n b l (KWord q.For) at = Deeper l (ForAll b at)
NotRest n b l k at = CmpFrom n l (PrimRest l k at)

not_each : {On : Type 0} {n m : ℕ} {o o' : Option Level} {l l' : Inner} (b : Bool) → (On → n < m) → Inside On o o' l l' → (k : Kind) (at : ℕ)
    → MoveGood On (opennot_move n b o k at) (opennot_move m b o' k at) (NotRest n b l k at) (NotRest m b l' k at) goes_not
not_each b le z (KWord q.Not) at = deeper_good _ _ _ _ goes_not z (λ Off f i j L M h. made_good (not_tree at) goes_not (h.opennot b))
not_each b le z (KWord q.Exists) at = deeper_good _ _ _ _ goes_not z (λ Off f i j L M h. exists_good b at (λ off. le (f off)) (inside_weaker f z) h)
not_each b le z (KWord q.For) at = deeper_good _ _ _ _ goes_not z (λ Off f i j L M h. ahead_word q.All refl (next_good (variable_good Off) (λ x. quantified_good b (QForAll at x.name) h)))
not_each {On} {n} {m} {o} {o'} {l} {l'} b le z k at =
    led_good On (prim_move o k at) (prim_move o' k at) (PrimRest l k at) (PrimRest l' k at) never (cmp_from n o) (cmp_from m o') (CmpFrom n l) (CmpFrom m l') goes_not
    (λ Off f p r P R h. cmp_good (λ off. le (f off)) (inside_weaker f z) h) (no_cmp n l) (no_cmp m l') (prim_each z k at)

abbrev pub OpenNot : ℕ → Bool → Inner → Lang Placed Tailed
OpenNot n b l = Led (λ t. NotRest n b l (kind t) t.at)

not_some : (n : ℕ) (b : Bool) (l : Inner) → Inhabited (CmpFrom n l (Nothing name_tree)) → Inhabited (OpenNot n b l)
not_some n b l h = record { tree = h.tree; text = name_token ∷ h.text; spells = named_first (NotRest n b l) h.tree h.text h.spells }

pub opennot_good : {On : Type 0} {n m : ℕ} {o o' : Option Level} {l l' : Inner} (b : Bool) → (On → n < m) → Inside On o o' l l' → Good On (opennot n b o) (opennot m b o') (OpenNot n b l) (OpenNot m b l') goes_not
opennot_good {On} {n} {m} {o} {o'} {l} {l'} b le z =
    let one = cmp_good le z (done_good On name_tree) in
    eat_good (λ t. opennot_move n b o (kind t) t.at) (λ t. opennot_move m b o' (kind t) t.at) (λ t. NotRest n b l (kind t) t.at) (λ t. NotRest m b l' (kind t) t.at) goes_not (λ t. not_each b le z (kind t) t.at)
    (not_some n b l one.low.some) (not_some m b l' one.high.some)

-- ---- chains of and, and of or

abbrev pub AndLinks : Lang Placed Tailed → Tail → ℕ → Kind → Lang Placed (ℕ × QueryTree × Tail)
AndLinks L Plain at (KWord q.And) = Made (placed_operand at) L
AndLinks L Compared at (KWord q.And) = Made (placed_operand at) L
AndLinks L _ at _ = no_text

abbrev pub OrLinks : Lang Placed Tailed → Tail → ℕ → Kind → Lang Placed (ℕ × QueryTree × Tail)
OrLinks L Plain at (KWord q.Or) = Made (placed_operand at) L
OrLinks L Compared at (KWord q.Or) = Made (placed_operand at) L
OrLinks L _ at _ = no_text

abbrev pub AndFrom : ℕ → Lang Placed Tailed → Lang Placed Tailed → Lang Placed Tailed
AndFrom n L P = Made (joined QAnd) (Chained (Made first_operand P) (λ x. ChainText (λ (x : OperandsTailed) t. AndLinks L x.2 t.at (kind t)) more_operands n x))

abbrev pub OrFrom : ℕ → Lang Placed Tailed → Lang Placed Tailed → Lang Placed Tailed
OrFrom n L P = Made (joined QOr) (Chained (Made first_operand P) (λ x. ChainText (λ (x : OperandsTailed) t. OrLinks L x.2 t.at (kind t)) more_operands n x))

abbrev link_not : ℕ × QueryTree × Tail → Placed → Bool
link_not l t = on_not l.2 (kind t)

abbrev link_and : ℕ × QueryTree × Tail → Placed → Bool
link_and l t = on_and l.2 (kind t)

abbrev link_full : ℕ × QueryTree × Tail → Placed → Bool
link_full l t = on_full l.2 (kind t)

and_links : {On : Type 0} {p r : Reader Tailed} {L M : Lang Placed Tailed} → Good On p r L M goes_not → (x : Tail) (at : ℕ) (k : Kind)
    → LinkGood On (and_move p x at k) (and_move r x at k) (AndLinks L x at k) (AndLinks M x at k) link_not (on_not x k) (on_and x k)
and_links h Plain at (KWord q.And) = (made_good (placed_operand at) link_not h, refl, refl)
and_links h Plain at _ = (nothing, nothing, refl)
and_links h Compared at (KWord q.And) = (made_good (placed_operand at) link_not h, refl, refl)
and_links h Compared at _ = (nothing, nothing, refl)
and_links h OpenPlain at k = (nothing, nothing, refl)
and_links h OpenCompared at k = (nothing, nothing, refl)
and_links h (Ranged b) at k = (nothing, nothing, refl)
and_links h (Labelled y z) at k = (nothing, nothing, refl)

or_links : {On : Type 0} {p r : Reader Tailed} {L M : Lang Placed Tailed} → Good On p r L M goes_and → (x : Tail) (at : ℕ) (k : Kind)
    → LinkGood On (or_move p x at k) (or_move r x at k) (OrLinks L x at k) (OrLinks M x at k) link_and (on_and x k) (on_full x k)
or_links h Plain at (KWord q.Or) = (made_good (placed_operand at) link_and h, refl, refl)
or_links h Plain at _ = (nothing, nothing, refl)
or_links h Compared at (KWord q.Or) = (made_good (placed_operand at) link_and h, refl, refl)
or_links h Compared at _ = (nothing, nothing, refl)
or_links h OpenPlain at k = (nothing, nothing, refl)
or_links h OpenCompared at k = (nothing, nothing, refl)
or_links h (Ranged b) at k = (nothing, nothing, refl)
or_links h (Labelled y z) at k = (nothing, nothing, refl)

and_good : {On : Type 0} {n m : ℕ} {a c p r : Reader Tailed} {L M P R : Lang Placed Tailed} → (On → n < m) → Good On a c L M goes_not → Good On p r P R goes_not
    → Good On (and_from n a p) (and_from m c r) (AndFrom n L P) (AndFrom m M R) goes_and
and_good {On} {n} {m} {a} {c} {p} {r} {L} {M} {P} {R} le operand h =
    made_good (joined QAnd) goes_and
    (chained_good On (λ (x : OperandsTailed) t. and_move a x.2 t.at (kind t)) (λ (x : OperandsTailed) t. and_move c x.2 t.at (kind t)) (λ (x : OperandsTailed) t. AndLinks L x.2 t.at (kind t)) (λ (x : OperandsTailed) t. AndLinks M x.2 t.at (kind t)) more_operands
    (λ x t. on_not x.2 (kind t)) (λ x t. on_and x.2 (kind t)) link_not (λ x l t. refl) (λ x t. and_links operand x.2 t.at (kind t)) (made first_operand p) (made first_operand r) (Made first_operand P) (Made first_operand R) n m le
    (made_good first_operand (λ x t. on_not x.2 (kind t)) h))

or_good : {On : Type 0} {n m : ℕ} {a c p r : Reader Tailed} {L M P R : Lang Placed Tailed} → (On → n < m) → Good On a c L M goes_and → Good On p r P R goes_and
    → Good On (or_from n a p) (or_from m c r) (OrFrom n L P) (OrFrom m M R) goes_full
or_good {On} {n} {m} {a} {c} {p} {r} {L} {M} {P} {R} le operand h =
    made_good (joined QOr) goes_full
    (chained_good On (λ (x : OperandsTailed) t. or_move a x.2 t.at (kind t)) (λ (x : OperandsTailed) t. or_move c x.2 t.at (kind t)) (λ (x : OperandsTailed) t. OrLinks L x.2 t.at (kind t)) (λ (x : OperandsTailed) t. OrLinks M x.2 t.at (kind t)) more_operands
    (λ x t. on_and x.2 (kind t)) (λ x t. on_full x.2 (kind t)) link_and (λ x l t. refl) (λ x t. or_links operand x.2 t.at (kind t)) (made first_operand p) (made first_operand r) (Made first_operand P) (Made first_operand R) n m le
    (made_good first_operand (λ x t. on_and x.2 (kind t)) h))

abbrev pub OpenAnd : ℕ → Bool → Inner → Lang Placed Tailed
OpenAnd n b l = AndFrom n (OpenNot n b l) (OpenNot n b l)

abbrev pub OpenOrFrom : ℕ → Bool → Inner → Lang Placed Tailed → Lang Placed Tailed
OpenOrFrom n b l P = OrFrom n (OpenAnd n b l) (AndFrom n (OpenNot n b l) P)

openor_good : {On : Type 0} {n m : ℕ} {o o' : Option Level} {l l' : Inner} {p r : Reader Tailed} {P R : Lang Placed Tailed} (b : Bool) → (On → n < m) → Inside On o o' l l' → Good On p r P R goes_not
    → Good On (openor_from n b o p) (openor_from m b o' r) (OpenOrFrom n b l P) (OpenOrFrom m b l' R) goes_full
openor_good b le z h = let one = opennot_good b le z in or_good le (and_good le one one) (and_good le one h)

no_openor : (n : ℕ) (b : Bool) (l : Inner) (P : Lang Placed Tailed) → NoText P → NoText (OpenOrFrom n b l P)
no_openor n b l P h = no_made _ (no_chained _ (no_made _ (no_made _ (no_chained _ (no_made _ h)))))

-- ---- selects

abbrev pub WhereLinks : Lang Placed Tailed → QueryWhere → Tail → ℕ → Kind → Lang Placed (ℕ × QueryTree × Tail)
WhereLinks L NoWhere (Ranged b) at (KWord q.Where) = Made (placed_operand at) L
WhereLinks L _ _ at _ = no_text

abbrev pub SelectRest : ℕ → Bool → Texts → ℕ → QueryTree → Lang Placed Tailed
SelectRest n b L at h = Made (selected at h) (Chained (Made no_where (L.ranges b)) (λ x. ChainText (λ (x : SelectParts) t. WhereLinks (L.full b) x.1 x.2 t.at (kind t)) with_where (suc n) x))

abbrev pub Select : ℕ → Bool → ℕ → Texts → Lang Placed Tailed
Select n b at L = Ahead (KWord q.Distinct) (Chained (L.full false) (λ h. Ahead (KWord q.From) (SelectRest n b L at h.0)))

where_links : {On : Type 0} {p r : Reader Tailed} {L M : Lang Placed Tailed} → Good On p r L M goes_full → (w : QueryWhere) (x : Tail) (at : ℕ) (k : Kind)
    → LinkGood On (where_move p w x at k) (where_move r w x at k) (WhereLinks L w x at k) (WhereLinks M w x at k) link_full (on_part w x k) (on_full x k)
where_links h NoWhere (Ranged b) at (KWord q.Where) = (made_good (placed_operand at) link_full h, refl, range_where b)
  where
    range_where : (b : Bool) → ranges_by b (KWord q.Where) ≡ false
    range_where true = refl
    range_where false = refl
where_links h NoWhere (Ranged b) at _ = (nothing, nothing, refl)
where_links h NoWhere Plain at k = (nothing, nothing, refl)
where_links h NoWhere Compared at k = (nothing, nothing, refl)
where_links h NoWhere OpenPlain at k = (nothing, nothing, refl)
where_links h NoWhere OpenCompared at k = (nothing, nothing, refl)
where_links h NoWhere (Labelled y z) at k = (nothing, nothing, refl)
where_links h (Where p e) x at k = (nothing, nothing, refl)

select_rest_good : {On : Type 0} {n m : ℕ} {i j : Level} {L M : Texts} (b : Bool) (at : ℕ) (e : QueryTree) → (On → n < m) → LevelGood On i j L M
    → Good On (select_rest n i b at e) (select_rest m j b at e) (SelectRest n b L at e) (SelectRest m b M at e) goes_full
select_rest_good {On} {n} {m} {i} {j} {L} {M} b at e le h =
    made_good (selected at e) goes_full
    (chained_good On (λ (x : SelectParts) t. where_move (i.full b) x.1 x.2 t.at (kind t)) (λ (x : SelectParts) t. where_move (j.full b) x.1 x.2 t.at (kind t))
    (λ (x : SelectParts) t. WhereLinks (L.full b) x.1 x.2 t.at (kind t)) (λ (x : SelectParts) t. WhereLinks (M.full b) x.1 x.2 t.at (kind t)) with_where
    (λ x t. on_part x.1 x.2 (kind t)) (λ x t. on_full x.2 (kind t)) link_full (λ x l t. opened_same l.2 (kind t)) (λ x t. where_links (h.full b) x.1 x.2 t.at (kind t))
    (made no_where (i.ranges b)) (made no_where (j.ranges b)) (Made no_where (L.ranges b)) (Made no_where (M.ranges b)) (suc n) (suc m) (λ on. let f = le on in omega (arith, f))
    (made_good no_where (λ x t. on_part x.1 x.2 (kind t)) (h.ranges b)))

pub select_good : {On : Type 0} {n m : ℕ} {i j : Level} {L M : Texts} (b : Bool) (at : ℕ) → (On → n < m) → LevelGood On i j L M → Good On (select n i b at) (select m j b at) (Select n b at L) (Select m b at M) goes_full
select_good b at le h = ahead_word q.Distinct refl (after_word q.From refl (λ v t e. ap (on_full v.1) e ∙ from_full v.1) (h.full false) (λ v. select_rest_good b at v.0 le h))

-- ---- where full stands

abbrev pub FullRest : ℕ → Bool → Inner → Kind → ℕ → Lang Placed Tailed
FullRest n b l (KWord q.Select) at = Deeper l (Select n b at)
FullRest n b l k at = OpenOrFrom n b l (NotRest n b l k at)

full_each : {On : Type 0} {n m : ℕ} {o o' : Option Level} {l l' : Inner} (b : Bool) → (On → n < m) → Inside On o o' l l' → (k : Kind) (at : ℕ)
    → MoveGood On (full_move n b o k at) (full_move m b o' k at) (FullRest n b l k at) (FullRest m b l' k at) goes_full
full_each {On} {n} {m} b le z (KWord q.Select) at = deeper_good _ _ _ _ goes_full z (λ Off f i j L M h. select_good b at (λ off. le (f off)) h)
full_each {On} {n} {m} {o} {o'} {l} {l'} b le z k at =
    led_good On (opennot_move n b o k at) (opennot_move m b o' k at) (NotRest n b l k at) (NotRest m b l' k at) goes_not (openor_from n b o) (openor_from m b o') (OpenOrFrom n b l) (OpenOrFrom m b l') goes_full
    (λ Off f p r P R h. openor_good b (λ off. le (f off)) (inside_weaker f z) h) (no_openor n b l) (no_openor m b l') (not_each b le z k at)

abbrev pub Full : ℕ → Bool → Inner → Lang Placed Tailed
Full n b l = Led (λ t. FullRest n b l (kind t) t.at)

full_some : (n : ℕ) (b : Bool) (l : Inner) → Inhabited (OpenOrFrom n b l (CmpFrom n l (Nothing name_tree))) → Inhabited (Full n b l)
full_some n b l h = record { tree = h.tree; text = name_token ∷ h.text; spells = named_first (FullRest n b l) h.tree h.text h.spells }

pub full_good : {On : Type 0} {n m : ℕ} {o o' : Option Level} {l l' : Inner} (b : Bool) → (On → n < m) → Inside On o o' l l' → Good On (full n b o) (full m b o') (Full n b l) (Full m b l') goes_full
full_good {On} {n} {m} {o} {o'} {l} {l'} b le z =
    let one = openor_good b le z (cmp_good le z (done_good On name_tree)) in
    eat_good (λ t. full_move n b o (kind t) t.at) (λ t. full_move m b o' (kind t) t.at) (λ t. FullRest n b l (kind t) t.at) (λ t. FullRest m b l' (kind t) t.at) goes_full (λ t. full_each b le z (kind t) t.at)
    (full_some n b l one.low.some) (full_some m b l' one.high.some)
