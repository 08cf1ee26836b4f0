-- Which tokens spell a query: one definition for each line of the grammar. n is how many links a chain may have.
use Rattle.std.specs.Prelude.{◌≡◌, ◌⊎◌, ◌≤◌, ℕ, zero, suc, length, Bool, true, false, List, [], ◌∷◌, Some}
use Rattle.kola_base.specs.Named.{NameText}
use Rattle.kola_base.specs.Placed.{Placed}
use Rattle.kola_base.specs.declared.sign.Sign.TheVariants as s
use Rattle.kola_parse.specs.Kinds.{leads}
use Rattle.kola_parse.specs.Listed.{Listed}
use Rattle.kola_parse.specs.Texts.{◌·◌, ends, none}
use Rattle.oql_syntax.specs.Alphabet.{Kind, KSign, KWord, KName, kind}
use Rattle.oql_tree.specs.QueryTrees.{LitTree, QueryTree, QName, QLiteral, QSetOf, QStruct, QFlatten, QSomeMember, QNot, QIntersect, QAnd, QOr, QCompare, QExists, QForAll, QSelect, QueryLinks, QueryWhere, NoWhere, Where, fields, ranges}
use Rattle.oql_syntax.specs.QueryParts.{named, literal_of, path_tree, chain_tree, union_tree, comparison_of}
use Rattle.oql_tree.specs.declared.query.Sign.{Sign}
use Rattle.oql_syntax.specs.declared.word.QueryWord.{QueryWord}
use Rattle.oql_syntax.specs.declared.word.QueryWord.TheVariants as q

abbrev pub Text : Type 1
Text = List Placed → Type 0

-- ---- tokens

infixr 60 ◌▸◌
-- a token of the kind, and then a text of A
abbrev pub ◌▸◌ : Kind → Text → Text
k ▸ A = leads (λ t. kind t ≡ k) A

-- the word at this place, and then a text of A
abbrev pub at : QueryWord → ℕ → Text → Text
at w p A = leads (λ t. (kind t ≡ KWord w) × (t.at ≡ p)) A

abbrev pub VariableText : List ℕ → Text
VariableText x = KName x ▸ ends

-- a name at this place
abbrev pub NameAtText : List ℕ → ℕ → Text
NameAtText x p = leads (λ t. (kind t ≡ KName x) × (t.at ≡ p)) ends

-- any word, as it is written, at this place
abbrev pub LabelText : List ℕ × ℕ → Text
LabelText l = NameText (named l.0 l.1)

abbrev pub LiteralText : LitTree × ℕ → Text
LiteralText l = leads (λ t. (literal_of (kind t) ≡ Some l.0) × (t.at ≡ l.1)) ends

-- the sign of a comparison at this place, and then a text of A
abbrev pub ComparisonAt : Sign → ℕ → Text → Text
ComparisonAt z p A = leads (λ t. (comparison_of (kind t) ≡ Some z) × (t.at ≡ p)) A

-- ---- lists and chains

-- texts of the items, parted by commas, and then the last text
abbrev pub PartedByCommas : {A : Type 0} → (A → Text) → Text → List A → Text
PartedByCommas Item Last [] = none
PartedByCommas Item Last (v ∷ vs) = Item v · Listed (λ v. KSign s.Comma ▸ Item v) Last vs

-- an operand and at most n links, of which make makes the value
pub record LinkedText {A L B : Type 0} (n : ℕ) (Operand : A → Text) (Link : L → Text) (make : A → List L → B) (x : B) (w : List Placed) : Type 0 where
  pub first : A
  pub links : List L
  pub few : length links ≤ n
  pub is : x ≡ make first links
  pub spells : (Operand first · Listed Link ends links) w

-- operands, parted by the word, the last of which may be open where b says so
abbrev pub OperandsText : QueryWord → (Bool → QueryTree → Text) → Bool → QueryTree → List (ℕ × QueryTree) → Text
OperandsText word Operand b e [] = Operand b e
OperandsText word Operand b e (l ∷ ls) = Operand false e · at word l.0 (OperandsText word Operand b l.1 ls)

-- a chain of at most n links, which may end open where b says so
pub record OpenLinkedText (n : ℕ) (word : QueryWord) (Operand : Bool → QueryTree → Text) (make : ℕ → QueryTree → QueryLinks → QueryTree) (b : Bool) (x : QueryTree) (w : List Placed) : Type 0 where
  pub first : QueryTree
  pub links : List (ℕ × QueryTree)
  pub few : length links ≤ n
  pub is : x ≡ chain_tree make first links
  pub spells : OperandsText word Operand b first links w

-- ---- levels

-- the texts one level deeper; negation b are those of `not`, which may end in a quantifier where b says so
pub record Deeper : Type 1 where
  pub sets : QueryTree → Text
  pub negation : Bool → QueryTree → Text
  pub full : QueryTree → Text

-- no text
abbrev pub nowhere : Deeper
nowhere = record { sets = λ e. none; negation = λ b e. none; full = λ e. none }

-- ---- first operands

-- a label, a colon, and its expression
abbrev pub FieldText : Deeper → List ℕ × ℕ × QueryTree → Text
FieldText B f = LabelText (f.0, f.1) · KSign s.Colon ▸ B.full f.2

-- prim, but for parentheses
abbrev pub ItselfText : Deeper → QueryTree → Text
ItselfText B (QName p x) = NameAtText x p
ItselfText B (QLiteral p v) = LiteralText (v, p)
ItselfText B (QSetOf p vs) = at q.Set p (KSign s.Open ▸ PartedByCommas LiteralText (KSign s.Close ▸ ends) vs)
ItselfText B (QStruct p fs) = at q.Struct p (KSign s.Open ▸ PartedByCommas (FieldText B) (KSign s.Close ▸ ends) (fields fs))
ItselfText B (QFlatten p e) = at q.Flatten p (KSign s.Open ▸ (B.full e · KSign s.Close ▸ ends))
ItselfText B (QSomeMember p e) = at q.Exists p (KSign s.Open ▸ (B.full e · KSign s.Close ▸ ends))
ItselfText B _ = none

abbrev pub PrimText : Deeper → QueryTree → Text
PrimText B x w = ItselfText B x w ⊎ (KSign s.Open ▸ (B.full x · KSign s.Close ▸ ends)) w

-- ---- paths, sets, comparisons

abbrev pub PathText : ℕ → Deeper → QueryTree → Text
PathText n B = LinkedText n (PrimText B) (λ l. leads (λ t. (kind t ≡ KSign s.Dot) ⊎ (kind t ≡ KSign s.Arrow)) (LabelText l)) path_tree

abbrev pub MeetText : ℕ → Deeper → QueryTree → Text
MeetText n B = LinkedText n (PathText n B) (λ l. at q.Intersect l.0 (PathText n B l.1)) (chain_tree QIntersect)

abbrev pub union_word : Bool → QueryWord
union_word true = q.Except
union_word false = q.Union

abbrev pub SetsText : ℕ → Deeper → QueryTree → Text
SetsText n B = LinkedText n (MeetText n B) (λ l. at (union_word l.1) l.0 (MeetText n B l.2)) union_tree

abbrev pub ComparedText : ℕ → Deeper → QueryTree → Text
ComparedText n B (QCompare p z a b) = SetsText n B a · ComparisonAt z p (SetsText n B b)
ComparedText n B _ = none

abbrev pub CmpText : ℕ → Deeper → QueryTree → Text
CmpText n B x w = SetsText n B x w ⊎ ComparedText n B x w

-- ---- not, quantifiers, and, or; b says whether a quantifier may stand at the end

abbrev pub PrefixedText : Deeper → Bool → QueryTree → Text
PrefixedText B b (QNot p e) = at q.Not p (B.negation b e)
PrefixedText B true (QExists p x r e) = at q.Exists p (VariableText x · KWord q.In ▸ (B.sets r · KSign s.Colon ▸ B.full e))
PrefixedText B true (QForAll p x r e) = at q.For p (KWord q.All ▸ (VariableText x · KWord q.In ▸ (B.sets r · KSign s.Colon ▸ B.full e)))
PrefixedText B b _ = none

abbrev pub NotText : ℕ → Deeper → Bool → QueryTree → Text
NotText n B b x w = CmpText n B x w ⊎ PrefixedText B b x w

abbrev pub AndText : ℕ → Deeper → Bool → QueryTree → Text
AndText n B = OpenLinkedText n q.And (NotText n B) QAnd

abbrev pub OrText : ℕ → Deeper → Bool → QueryTree → Text
OrText n B = OpenLinkedText n q.Or (AndText n B) QOr

-- ---- selects

abbrev pub RangeText : Deeper → List ℕ × ℕ × QueryTree → Text
RangeText B r w = (NameAtText r.0 r.1 · KWord q.In ▸ B.sets r.2) w ⊎ (B.sets r.2 · KWord q.As ▸ NameAtText r.0 r.1) w

abbrev pub WhereText : Deeper → QueryWhere → Text
WhereText B NoWhere = ends
WhereText B (Where p e) = at q.Where p (B.full e)

abbrev pub SelectText : Deeper → QueryTree → Text
SelectText B (QSelect p h rs c) = at q.Select p (KWord q.Distinct ▸ (B.full h · KWord q.From ▸ PartedByCommas (RangeText B) (WhereText B c) (ranges rs)))
SelectText B _ = none

abbrev pub FullText : ℕ → Deeper → QueryTree → Text
FullText n B x w = SelectText B x w ⊎ OrText n B true x w

-- ---- whole queries

abbrev pub deeper_texts : ℕ → ℕ → Deeper
deeper_texts n zero = nowhere
deeper_texts n (suc d) = record { sets = SetsText n (deeper_texts n d); negation = NotText n (deeper_texts n d); full = FullText n (deeper_texts n d) }

-- a query with chains of n links and d levels below it
abbrev pub QueryText : ℕ → ℕ → QueryTree → Text
QueryText n d x = FullText n (deeper_texts n d) x · (λ w. ends w ⊎ (KSign s.Semicolon ▸ ends) w)
