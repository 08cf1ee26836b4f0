-- The readers of rules read the grammar.
use Rattle.std.proofs.Common.{◌≡◌, ◌⊎◌, inl, inr, ℕ, zero, suc, Bool, true, false, cond, not, List, [], ◌∷◌, ◌++◌, Option, Some, None, pos, arith, refl, sym, ap, subst, ◌∙◌}
use Rattle.std.proofs.lemmas.List.{append-nil}
use Rattle.kola_base.specs.Lexemes.{LNumber}
use Rattle.kola_base.specs.Placed.{Placed}
use Rattle.kola_base.specs.TermWords.{term_word_spelling, term_words, term_word_named}
use Rattle.kola_base.specs.Alphabets.{sign}
use Rattle.kola_base.specs.declared.sign.Sign.{Sign}
use Rattle.kola_base.specs.declared.sign.Sign.TheVariants.{Open, Close, Equal, Comma, Colon, Dot, Arrow}
use Rattle.kola_base.specs.declared.term_word.TermWord.{TermWord}
use Rattle.kola_base.specs.declared.term_word.TermWord.TheVariants as w
use Rattle.kola_base.proofs.SymbolLaws.{word_token, word_is, sign_tests, word_tests, ahead_sign, ahead_word, behind_sign}
use Rattle.kola_base.proofs.TermWordLaws.{term_word_table}
use Rattle.kola_parse.specs.Kinds.{Lang, Deeper, leads}
use Rattle.kola_parse.specs.Listed.{Listed}
use Rattle.kola_parse.specs.Moves.{MoveGood}
use Rattle.kola_parse.specs.Reading.{never, Good}
use Rattle.kola_parse.specs.Texts.{◌·◌, ends, Nothing, Chained, Made, Paired}
use Rattle.kola_parse.proofs.GoodReaders.{done_good, next_good, made_good, pair_good, good_as}
use Rattle.kola_parse.proofs.KindLaws.{Heads, led_good, Inside, deeper_good, Tests}
use Rattle.kola_parse.proofs.LevelLaws.{levels}
use Rattle.kola_parse.proofs.ReaderLaws.{Shrinks, shrinks}
use Rattle.kola_values.specs.Types.{TypeTree, TInt, TStr, TBool, TUnit, TClass, TVar, TSet, TPair, TStruct}
use Rattle.kola_term.specs.Terms.{TermTree}
use Rattle.kola_term.specs.Typing.{MetaTree, MFun, MPred, MConst, Context}
use Rattle.kola_rule.specs.Rules.{StepTree, DraftTree}
use Rattle.kola_text.specs.Alphabet.{Kind, KSign, KWord, KName}
use Rattle.kola_text.specs.Grammar.{Text, kind, ◌▸◌, SideText}
use Rattle.kola_text.specs.TermReaders.{Reader}
use Rattle.kola_text.proofs.WholeLaws.{side_good}
use Rattle.coko_text.specs.Limits.{term_levels}
use Rattle.coko_text.specs.RuleGrammar.{AnyName, is_capital, TypeText, MetaText, VarText, VarsText, InjText, WhenText, child_of, ChildText, PathText, LawText, StepsText, HeadTree, SidesTree, HeadText, SidesText, head_of, sides_of, FileText}
use Rattle.coko_text.specs.LedReaders.{led, items_at}
use Rattle.coko_text.specs.RuleReaders.{is_word, name_move, name_at, leaf_of, leaf_move, pair_type, type_move, type_step, type_at, arrow_at, meta_at, var_at, first_and, more_vars_at, vars_at, inj_at, more_injs_at, when_at, child_move, child_at, path_at, directed, law_at, step_of, step_at, steps_at, head_made, head_at, sides_made, sides_at, draft_with, body_at, draft_at, file_at}
use Rattle.coko_text.proofs.ItemLists.{list_goes, list_clear, done_clear}
use Rattle.coko_text.proofs.LedTexts.{Clear, pair_clear, led_items, LedOr, Others, led_or_good, LedOrNothing, led_or_done_good, closed_clear, closed_list}

-- the tests of signs and words
abbrev sign_passes : (s : Sign) → Tests (sign s) (λ t. kind t ≡ KSign s)
sign_passes = sign_tests term_word_table

abbrev word_passes : (v : TermWord) → Tests (is_word v) (λ t. kind t ≡ KWord v)
word_passes = word_tests term_word_table

abbrev token_of : TermWord → Placed
token_of v = word_token (term_word_spelling v)

-- the first of two texts, neither empty
first_text : {A B : Text} → (A [] → ⊥) → (t : Placed) (v : List Placed) → (A · B) (t ∷ v) → (u : List Placed) × A (t ∷ u)
first_text {A} {B} full t v h = by h.front h.split h.first
  where
    by : (front : List Placed) → t ∷ v ≡ front ++ h.back → A front → (u : List Placed) × A (t ∷ u)
    by [] e a = absurd (full a)
    by (s ∷ front) e a = let same : s ≡ t = cc in (front, subst (λ (z : Placed). A (z ∷ front)) same a)

first_empty : {A B : Text} → (A · B) [] → A []
first_empty {A} {B} h = by h.front h.split h.first
  where
    by : (front : List Placed) → [] ≡ front ++ h.back → A front → A []
    by [] e a = a
    by (s ∷ front) e a = absurd cc

-- ---- names

abbrev NameRest : Kind → Lang Placed (List ℕ)
NameRest (KName n) = Nothing n
NameRest _ = λ x w. ⊥

no_word_is_empty : kind (word_token []) ≡ KName []
unfolding term_word_named term_words
no_word_is_empty = refl

name_heads : Heads kind NameRest AnyName
name_heads = record { to = to; from = from; empty = λ x h. h; some = record { tree = []; text = word_token [] ∷ []; spells = (no_word_is_empty, tt) } }
  where
    to : (k : Kind) (x : List ℕ) (t : Placed) (v : List Placed) → kind t ≡ k → NameRest k x v → AnyName x (t ∷ v)
    to (KName n) x t v e h = (e ∙ ap KName (sym h.0), h.1)
    to _ x t v e h = absurd h

    from : (x : List ℕ) (t : Placed) (v : List Placed) → AnyName x (t ∷ v) → NameRest (kind t) x v
    from x t v h = subst (λ k. NameRest k x v) (sym h.0) (refl, h.1)

name_each : (On : Type 0) (k : Kind) → MoveGood On (name_move k) (name_move k) (NameRest k) (NameRest k) never
name_each On (KName n) = done_good On n
name_each On _ = (λ x w h. h, λ x w h. h)

name_good : (On : Type 0) → Good On name_at name_at AnyName AnyName never
name_good On = led_good kind On name_move name_move NameRest NameRest AnyName AnyName name_heads name_heads (name_each On)

-- ---- types

abbrev LeafRest : Option TypeTree → Lang Placed TypeTree
LeafRest (Some x) = Nothing x
LeafRest None = λ x w. ⊥

abbrev TwoTypes : ℕ → Lang Placed (TypeTree × TypeTree)
TwoTypes d = Paired (λ t. TypeText t d) (λ _ u. KSign Comma ▸ (TypeText u d · KSign Close ▸ ends))

abbrev TypeRest : ℕ → Kind → Lang Placed TypeTree
TypeRest n (KWord w.Set) = Deeper n (λ d. Made TSet (λ x. TypeText x d))
TypeRest n (KSign Open) = Deeper n (λ d. Made pair_type (TwoTypes d))
TypeRest n k = LeafRest (leaf_of k)

named_text : (n : ℕ) (m : List ℕ) (b : Bool) → is_capital m ≡ b → (t : Placed) (v : List Placed) → kind t ≡ KName m → ends v → TypeText (cond b (TClass m) (TVar m)) n (t ∷ v)
named_text n m true i t v e h = ((e, i), h)
named_text n m false i t v e h = ((e, ap not i), h)

set_to : (n : ℕ) (x : TypeTree) (t : Placed) (v : List Placed) → kind t ≡ KWord w.Set → Deeper n (λ d. Made TSet (λ x. TypeText x d)) x v → TypeText x n (t ∷ v)
set_to zero x t v e h = absurd h
set_to (suc n) x t v e h = subst (λ y. TypeText y (suc n) (t ∷ v)) (sym h.is) (e, h.spells)

pair_to : (n : ℕ) (x : TypeTree) (t : Placed) (v : List Placed) → kind t ≡ KSign Open → Deeper n (λ d. Made pair_type (TwoTypes d)) x v → TypeText x n (t ∷ v)
pair_to zero x t v e h = absurd h
pair_to (suc n) x t v e h = subst (λ y. TypeText y (suc n) (t ∷ v)) (sym h.is) (e, h.spells)

small_is : (b : Bool) → not b ≡ true → b ≡ false
small_is true e = absurd cc
small_is false e = refl

type_to : (n : ℕ) (k : Kind) (x : TypeTree) (t : Placed) (v : List Placed) → kind t ≡ k → TypeRest n k x v → TypeText x n (t ∷ v)
type_to n (KWord w.Set) x t v e h = set_to n x t v e h
type_to n (KSign Open) x t v e h = pair_to n x t v e h
type_to n (KWord w.Int) x t v e h = subst (λ y. TypeText y n (t ∷ v)) (sym h.0) (e, h.1)
type_to n (KWord w.String) x t v e h = subst (λ y. TypeText y n (t ∷ v)) (sym h.0) (e, h.1)
type_to n (KWord w.Bool) x t v e h = subst (λ y. TypeText y n (t ∷ v)) (sym h.0) (e, h.1)
type_to n (KWord w.Unit) x t v e h = subst (λ y. TypeText y n (t ∷ v)) (sym h.0) (e, h.1)
type_to n (KName m) x t v e h = subst (λ y. TypeText y n (t ∷ v)) (sym h.0) (named_text n m (is_capital m) refl t v e h.1)
type_to n _ x t v e h = absurd h

type_from : (n : ℕ) (x : TypeTree) (t : Placed) (v : List Placed) → TypeText x n (t ∷ v) → TypeRest n (kind t) x v
type_from n TInt t v h = subst (λ k. TypeRest n k TInt v) (sym h.0) (refl, h.1)
type_from n TStr t v h = subst (λ k. TypeRest n k TStr v) (sym h.0) (refl, h.1)
type_from n TBool t v h = subst (λ k. TypeRest n k TBool v) (sym h.0) (refl, h.1)
type_from n TUnit t v h = subst (λ k. TypeRest n k TUnit v) (sym h.0) (refl, h.1)
type_from n (TClass m) t v h = subst (λ k. TypeRest n k (TClass m) v) (sym h.0.0) (sym (ap (λ b. cond b (TClass m) (TVar m)) h.0.1), h.1)
type_from n (TVar m) t v h = subst (λ k. TypeRest n k (TVar m) v) (sym h.0.0) (sym (ap (λ b. cond b (TClass m) (TVar m)) (small_is (is_capital m) h.0.1)), h.1)
type_from zero (TSet x) t v h = absurd h
type_from (suc n) (TSet x) t v h = subst (λ k. TypeRest (suc n) k (TSet x) v) (sym h.0) (record { part = x; is = refl; spells = h.1 })
type_from zero (TPair x y) t v h = absurd h
type_from (suc n) (TPair x y) t v h = subst (λ k. TypeRest (suc n) k (TPair x y) v) (sym h.0) (record { part = (x, y); is = refl; spells = h.1 })
type_from n (TStruct fs) t v h = absurd h

type_empty : (n : ℕ) (x : TypeTree) → TypeText x n [] → ⊥
type_empty n TInt h = h
type_empty n TStr h = h
type_empty n TBool h = h
type_empty n TUnit h = h
type_empty n (TClass m) h = h
type_empty n (TVar m) h = h
type_empty zero (TSet x) h = h
type_empty (suc n) (TSet x) h = h
type_empty zero (TPair x y) h = h
type_empty (suc n) (TPair x y) h = h
type_empty n (TStruct fs) h = h

type_heads : (n : ℕ) → Heads kind (TypeRest n) (λ x. TypeText x n)
type_heads n = record { to = type_to n; from = type_from n; empty = type_empty n; some = record { tree = TInt; text = token_of w.Int ∷ []; spells = (word_is term_word_table w.Int, tt) } }

-- the readers i and j read types in which d and e constructors may stand round a name
abbrev Level : Type 0 → Reader TypeTree → Reader TypeTree → ℕ → ℕ → Type 0
Level On i j d e = Good On i j (λ x. TypeText x d) (λ x. TypeText x e) never

leaf_each : (On : Type 0) (o : Option TypeTree) → MoveGood On (leaf_move o) (leaf_move o) (LeafRest o) (LeafRest o) never
leaf_each On (Some x) = done_good On x
leaf_each On None = (λ x w h. h, λ x w h. h)

type_each : {On : Type 0} {o o' : Option (Reader TypeTree)} {n m : ℕ} → Inside Level On o o' n m → (k : Kind) → MoveGood On (type_move o k) (type_move o' k) (TypeRest n k) (TypeRest m k) never
type_each b (KWord w.Set) = deeper_good b (λ d. Made TSet (λ x. TypeText x d)) _ (λ On i j d e l. made_good TSet never l)
type_each b (KSign Open) = deeper_good b (λ d. Made pair_type (TwoTypes d)) _ (λ On i j d e l. made_good pair_type never (pair_good never l (λ _. ahead_sign term_word_table Comma (behind_sign term_word_table Close l))))
type_each {On} b k = leaf_each On (leaf_of k)

step_good : (On : Type 0) (o o' : Option (Reader TypeTree)) (n m : ℕ) → Inside Level On o o' n m → Level On (type_step o) (type_step o') n m
step_good On o o' n m b = led_good kind On (type_move o) (type_move o') (TypeRest n) (TypeRest m) (λ x. TypeText x n) (λ x. TypeText x m) (type_heads n) (type_heads m) (type_each b)

type_good : (d : ℕ) → Level (Unit {0}) (type_at d) (type_at (suc d)) d (suc d)
type_good d = levels Level type_step step_good d

-- ---- variables

-- an arrow goes on a type, which may still be a function's input
abbrev on_meta : MetaTree → Placed → Bool
on_meta (MConst t) x = sign Arrow x
on_meta (MPred t) x = false
on_meta (MFun t u) x = false

abbrev on_var : List ℕ × MetaTree → Placed → Bool
on_var v = on_meta v.1

-- a token of another sign is no arrow
sign_apart : (s r : Sign) → (let k : Kind = KSign s in k ≡ KSign r → ⊥) → (t : Placed) → kind t ≡ KSign s → sign r t ≡ false
sign_apart s r apart t e = by (sign r t) refl
  where
    by : (b : Bool) → sign r t ≡ b → sign r t ≡ false
    by false i = i
    by true i = absurd (apart (sym e ∙ (sign_passes r).to t i))

word_sign_apart : (v : TermWord) (r : Sign) (t : Placed) → kind t ≡ KWord v → sign r t ≡ false
word_sign_apart v r t e = by (sign r t) refl
  where
    by : (b : Bool) → sign r t ≡ b → sign r t ≡ false
    by false i = i
    by true i = absurd (let j : KWord v ≡ KSign r = sym e ∙ (sign_passes r).to t i in cc)

no_arrow : (s : Sign) → (let k : Kind = KSign s in k ≡ KSign Arrow → ⊥) → (m : MetaTree) (t : Placed) → kind t ≡ KSign s → on_meta m t ≡ false
no_arrow s apart (MConst x) t e = sign_apart s Arrow apart t e
no_arrow s apart (MPred x) t e = refl
no_arrow s apart (MFun x y) t e = refl

abbrev Arrowed : ℕ → TypeTree → Lang Placed MetaTree
Arrowed d t = LedOrNothing (sign Arrow) (λ t. kind t ≡ KSign Arrow) (sign_passes Arrow) (MConst t) (Made (MFun t) (λ u. TypeText u d))

abbrev Untold : ℕ → Lang Placed MetaTree
Untold d = Chained (λ t. TypeText t d) (Arrowed d)

arrow_good : (d : ℕ) (t : TypeTree) → Good (Unit {0}) (arrow_at d t) (arrow_at (suc d) t) (Arrowed d t) (Arrowed (suc d) t) on_meta
arrow_good d t = led_or_done_good (sign Arrow) (λ t. kind t ≡ KSign Arrow) (sign_passes Arrow) (MConst t) on_meta (λ x. refl) (made_good (MFun t) on_meta (type_good d))

no_type : (d : ℕ) (x : TypeTree) (t : Placed) (v : List Placed) → TypeText x d (t ∷ v) → kind t ≡ KWord w.Pred → ⊥
no_type d x t v h e = subst (λ k. TypeRest d k x v) e (type_from d x t v h)

untold_empty : (d : ℕ) (x : MetaTree) → Untold d x [] → ⊥
untold_empty d x c = by c.front c.split c.first
  where
    by : (front : List Placed) → [] ≡ front ++ c.back → TypeText c.mid d front → ⊥
    by [] e h = type_empty d c.mid h
    by (t ∷ v) e h = cc

untold_first : (d : ℕ) (x : MetaTree) (t : Placed) (v : List Placed) → Untold d x (t ∷ v) → kind t ≡ KWord w.Pred → ⊥
untold_first d x t v c e = by c.front c.split c.first
  where
    by : (front : List Placed) → t ∷ v ≡ front ++ c.back → TypeText c.mid d front → ⊥
    by [] i h = type_empty d c.mid h
    by (s ∷ u) i h = let same : s ≡ t = cc in no_type d c.mid s u h (ap kind same ∙ e)

abbrev MetaCases : ℕ → Lang Placed MetaTree
MetaCases d = LedOr (is_word w.Pred) (λ t. kind t ≡ KWord w.Pred) (word_passes w.Pred) (Made MPred (λ t. TypeText t d)) (Untold d)

meta_to : (d : ℕ) (x : MetaTree) (v : List Placed) → MetaCases d x v → MetaText d x v
meta_to d x [] (inl h) = absurd h
meta_to d x (t ∷ v) (inl h) = subst (λ y. MetaText d y (t ∷ v)) (sym h.1.is) (h.0, h.1.spells)
meta_to d x v (inr c) = by c.second
  where
    function : (back : List Placed) → v ≡ c.front ++ back → leads (λ t. kind t ≡ KSign Arrow) (Made (MFun c.mid) (λ u. TypeText u d) x) back → MetaText d x v
    function [] e h = absurd h
    function (t ∷ back) e h = subst (λ y. MetaText d y v) (sym h.1.is) (record { front = c.front; back = t ∷ back; split = e; first = c.first; second = (h.0, h.1.spells) })

    constant : (back : List Placed) → v ≡ c.front ++ back → Nothing (MConst c.mid) x back → MetaText d x v
    constant [] e h = subst (λ y. MetaText d y v) (sym h.0) (subst (TypeText c.mid d) (sym (e ∙ append-nil c.front)) c.first)
    constant (t ∷ back) e h = absurd h.1

    by : Arrowed d c.mid x c.back → MetaText d x v
    by (inl h) = function c.back c.split h
    by (inr h) = constant c.back c.split h

meta_from : (d : ℕ) (x : MetaTree) (v : List Placed) → MetaText d x v → MetaCases d x v
meta_from d (MPred t) [] h = absurd h
meta_from d (MPred t) (s ∷ v) h = inl (h.0, record { part = t; is = refl; spells = h.1 })
meta_from d (MConst t) v h = inr (record { mid = t; front = v; back = []; split = sym (append-nil v); first = h; second = inr (refl, tt) })
meta_from d (MFun t u) v h = inr (record { mid = t; front = h.front; back = h.back; split = h.split; first = h.first; second = inl (arrow_in h.back h.second) })
  where
    arrow_in : (back : List Placed) → (KSign Arrow ▸ TypeText u d) back → leads (λ t. kind t ≡ KSign Arrow) (Made (MFun t) (λ u. TypeText u d) (MFun t u)) back
    arrow_in [] h = h
    arrow_in (s ∷ back) h = (h.0, record { part = u; is = refl; spells = h.1 })

meta_good : (d : ℕ) → Good (Unit {0}) (meta_at d) (meta_at (suc d)) (MetaText d) (MetaText (suc d)) on_meta
meta_good d =
    good_as (meta_to d) (meta_from d) (meta_to (suc d)) (meta_from (suc d))
    (led_or_good (is_word w.Pred) (λ t. kind t ≡ KWord w.Pred) (word_passes w.Pred) (made_good MPred on_meta (type_good d)) (next_good (type_good d) (arrow_good d))
    (untold_empty d, untold_first d) (untold_empty (suc d), untold_first (suc d)))

var_good : (d : ℕ) → Good (Unit {0}) (var_at d) (var_at (suc d)) (VarText d) (VarText (suc d)) on_var
var_good d = pair_good on_var (name_good (Unit {0})) (λ _. ahead_sign term_word_table Colon (meta_good d))

var_name : (d : ℕ) (x : List ℕ × MetaTree) (t : Placed) (v : List Placed) → VarText d x (t ∷ v) → kind t ≡ KName x.0
var_name d x t v h = let one = first_text (λ e. e) t v h in one.1.0

-- ---- a first item and a list of others, or a token that says there is none

module _ {A : Type 0} (P : Placed → Type 0) (L : Lang Placed A) (R : Lang Placed (List A)) where
  abbrev FirstOr : Lang Placed (List A)
  FirstOr [] = leads P ends
  FirstOr (x ∷ xs) = L x · R xs

  abbrev Firsts : Lang Placed (List A)
  Firsts = Made first_and (Paired L (λ _. R))

  abbrev FirstCases : Lang Placed (List A)
  FirstCases x v = leads P (Nothing [] x) v ⊎ Firsts x v

  firsts_to : (x : List A) (v : List Placed) → FirstCases x v → FirstOr x v
  firsts_to x [] (inl h) = absurd h
  firsts_to x (t ∷ v) (inl h) = subst (λ y. FirstOr y (t ∷ v)) (sym h.1.0) (h.0, h.1.1)
  firsts_to x v (inr h) = subst (λ y. FirstOr y v) (sym h.is) h.spells

  firsts_from : (x : List A) (v : List Placed) → FirstOr x v → FirstCases x v
  firsts_from [] [] h = absurd h
  firsts_from [] (t ∷ v) h = inl (h.0, (refl, h.1))
  firsts_from (x ∷ xs) v h = inr (record { part = (x, xs); is = refl; spells = h })

  firsts_empty : ((x : A) → L x [] → ⊥) → (x : List A) → Firsts x [] → ⊥
  firsts_empty full x h = full h.part.0 (first_empty h.spells)

  firsts_first : ((x : A) → L x [] → ⊥) → {C : Placed → Type 0} → ((x : A) (t : Placed) (v : List Placed) → L x (t ∷ v) → C t → ⊥) → (x : List A) (t : Placed) (v : List Placed) → Firsts x (t ∷ v) → C t → ⊥
  firsts_first full none x t v h c = let one = first_text (full h.part.0) t v h.spells in none h.part.0 t one.0 one.1 c

-- ---- lists of variables

abbrev MoreVars : ℕ → Lang Placed Context
MoreVars d = Listed (λ v. KSign Comma ▸ VarText d v) (KSign Close ▸ ends)

more_vars_good : (d : ℕ) → Good (Unit {0}) (more_vars_at d) (more_vars_at (suc d)) (MoreVars d) (MoreVars (suc d)) never
more_vars_good d =
    closed_list (sign Comma) (sign Close) (λ t. kind t ≡ KSign Comma) (λ t. kind t ≡ KSign Close) (sign_passes Comma) (sign_passes Close)
    on_var (λ v t e. no_arrow Comma (λ i. cc) v.1 t e) (λ v t e. no_arrow Close (λ i. cc) v.1 t e) (λ t e. sign_apart Close Comma (λ i. cc) t e) (var_good d)

vars_clear : (d : ℕ) (v : List ℕ × MetaTree) → Clear (on_var v) (MoreVars d)
vars_clear d v =
    closed_clear (sign Comma) (sign Close) (λ t. kind t ≡ KSign Comma) (λ t. kind t ≡ KSign Close) (sign_passes Comma) (sign_passes Close)
    (on_var v) (VarText d) (λ t e. no_arrow Comma (λ i. cc) v.1 t e) (λ t e. no_arrow Close (λ i. cc) v.1 t e)

var_empty : (d : ℕ) (x : List ℕ × MetaTree) → VarText d x [] → ⊥
var_empty d x h = first_empty h

var_apart : (d : ℕ) (x : List ℕ × MetaTree) (t : Placed) (v : List Placed) → VarText d x (t ∷ v) → kind t ≡ KSign Close → ⊥
var_apart d x t v h e = let i : KName x.0 ≡ KSign Close = sym (var_name d x t v h) ∙ e in cc

vars_to : (d : ℕ) (x : Context) (v : List Placed) → FirstCases (λ t. kind t ≡ KSign Close) (VarText d) (MoreVars d) x v → VarsText d x v
vars_to d [] v h = firsts_to (λ t. kind t ≡ KSign Close) (VarText d) (MoreVars d) [] v h
vars_to d (x ∷ xs) v h = firsts_to (λ t. kind t ≡ KSign Close) (VarText d) (MoreVars d) (x ∷ xs) v h

vars_from : (d : ℕ) (x : Context) (v : List Placed) → VarsText d x v → FirstCases (λ t. kind t ≡ KSign Close) (VarText d) (MoreVars d) x v
vars_from d [] v h = firsts_from (λ t. kind t ≡ KSign Close) (VarText d) (MoreVars d) [] v h
vars_from d (x ∷ xs) v h = firsts_from (λ t. kind t ≡ KSign Close) (VarText d) (MoreVars d) (x ∷ xs) v h

vars_others : (d : ℕ) → Others (sign Close) (λ t. kind t ≡ KSign Close) (sign_passes Close) (Firsts (λ t. kind t ≡ KSign Close) (VarText d) (MoreVars d))
vars_others d = (
  firsts_empty (λ t. kind t ≡ KSign Close) (VarText d) (MoreVars d) (var_empty d),
  firsts_first (λ t. kind t ≡ KSign Close) (VarText d) (MoreVars d) (var_empty d) (var_apart d),
)

vars_good : (d : ℕ) → Good (Unit {0}) (vars_at d) (vars_at (suc d)) (VarsText d) (VarsText (suc d)) never
vars_good d =
    good_as (vars_to d) (vars_from d) (vars_to (suc d)) (vars_from (suc d))
    (led_or_good (sign Close) (λ t. kind t ≡ KSign Close) (sign_passes Close) (done_good (Unit {0}) [])
    (made_good first_and never (pair_clear never (var_good d) (λ _. more_vars_good d) (vars_clear d) (vars_clear (suc d)))) (vars_others d) (vars_others (suc d)))

-- ---- conditions

inj_good : (On : Type 0) → Good On inj_at inj_at InjText InjText never
inj_good On = ahead_word term_word_table w.Inj (ahead_sign term_word_table Open (behind_sign term_word_table Close (name_good On)))

abbrev MoreInjs : Lang Placed (List (List ℕ))
MoreInjs = Listed (λ n. KSign Comma ▸ InjText n) (KSign Colon ▸ ends)

more_injs_good : (On : Type 0) → Good On more_injs_at more_injs_at MoreInjs MoreInjs never
more_injs_good On =
    closed_list (sign Comma) (sign Colon) (λ t. kind t ≡ KSign Comma) (λ t. kind t ≡ KSign Colon) (sign_passes Comma) (sign_passes Colon)
    never (λ v t e. refl) (λ v t e. refl) (λ t e. sign_apart Colon Comma (λ i. cc) t e) (inj_good On)

abbrev Whens : Lang Placed (List (List ℕ))
Whens = Made first_and (Paired InjText (λ _. MoreInjs))

abbrev NoWhen : Lang Placed (List (List ℕ))
NoWhen x = KSign Colon ▸ Nothing [] x

abbrev WhenCases : Lang Placed (List (List ℕ))
WhenCases = LedOr (is_word w.When) (λ t. kind t ≡ KWord w.When) (word_passes w.When) Whens NoWhen

when_to : (x : List (List ℕ)) (v : List Placed) → WhenCases x v → WhenText x v
when_to x [] (inl h) = absurd h
when_to x (t ∷ v) (inl h) = subst (λ y. WhenText y (t ∷ v)) (sym h.1.is) (h.0, h.1.spells)
when_to x [] (inr h) = absurd h
when_to x (t ∷ v) (inr h) = subst (λ y. WhenText y (t ∷ v)) (sym h.1.0) (h.0, h.1.1)

when_from : (x : List (List ℕ)) (v : List Placed) → WhenText x v → WhenCases x v
when_from [] [] h = absurd h
when_from [] (t ∷ v) h = inr (h.0, (refl, h.1))
when_from (n ∷ ns) [] h = absurd h
when_from (n ∷ ns) (t ∷ v) h = inl (h.0, record { part = (n, ns); is = refl; spells = h.1 })

no_when : Others (is_word w.When) (λ t. kind t ≡ KWord w.When) (word_passes w.When) NoWhen
no_when = (λ x h. h, λ x t v h e. let i : KSign Colon ≡ KWord w.When = sym h.0 ∙ e in cc)

when_good : (On : Type 0) → Good On when_at when_at WhenText WhenText never
when_good On =
    good_as when_to when_from when_to when_from
    (led_or_good (is_word w.When) (λ t. kind t ≡ KWord w.When) (word_passes w.When) (made_good first_and never (pair_good never (inj_good On) (λ _. more_injs_good On)))
    (ahead_sign term_word_table Colon (done_good On [])) no_when no_when)

-- ---- paths

abbrev ChildRest : Option ℕ → Lang Placed ℕ
ChildRest (Some n) = Nothing n
ChildRest None = λ x v. ⊥

child_heads : Heads (λ t. child_of (kind t)) ChildRest ChildText
child_heads = record { to = to; from = from; empty = λ x h. h; some = record { tree = 1; text = record { says = LNumber (pos 1); at = 0 } ∷ []; spells = (refl, tt) } }
  where
    to : (k : Option ℕ) (x : ℕ) (t : Placed) (v : List Placed) → child_of (kind t) ≡ k → ChildRest k x v → ChildText x (t ∷ v)
    to (Some n) x t v e h = (e ∙ ap Some (sym h.0), h.1)
    to None x t v e h = absurd h

    from : (x : ℕ) (t : Placed) (v : List Placed) → ChildText x (t ∷ v) → ChildRest (child_of (kind t)) x v
    from x t v h = subst (λ k. ChildRest k x v) (sym h.0) (refl, h.1)

child_each : (On : Type 0) (o : Option ℕ) → MoveGood On (child_move o) (child_move o) (ChildRest o) (ChildRest o) never
child_each On (Some n) = done_good On n
child_each On None = (λ x v h. h, λ x v h. h)

child_good : (On : Type 0) → Good On child_at child_at ChildText ChildText never
child_good On = led_good (λ t. child_of (kind t)) On child_move child_move ChildRest ChildRest ChildText ChildText child_heads child_heads (child_each On)

abbrev Dots : Lang Placed (List ℕ)
Dots = Listed (λ n. KSign Dot ▸ ChildText n) ends

-- a dot goes on a path that has a child
abbrev on_path : List ℕ → Placed → Bool
on_path [] t = false
on_path (n ∷ ns) t = list_goes never (sign Dot) ns t

path_clear : (p : List ℕ) (t : Placed) → sign Dot t ≡ false → on_path p t ≡ false
path_clear [] t e = refl
path_clear (n ∷ ns) t e = list_clear never (sign Dot) ns t (λ x. refl) e

dots_good : (On : Type 0) → Good On (items_at (led (sign Dot) child_at)) (items_at (led (sign Dot) child_at)) Dots Dots (list_goes never (sign Dot))
dots_good On = led_items (sign Dot) (λ t. kind t ≡ KSign Dot) (sign_passes Dot) never (λ x t e. refl) (child_good On)

-- no child is a word
no_child : (n : ℕ) (t : Placed) (v : List Placed) → ChildText n (t ∷ v) → kind t ≡ KWord w.Here → ⊥
no_child n t v h e = let i : None ≡ Some n = sym (ap child_of e) ∙ h.0 in cc

path_to : (x : List ℕ) (v : List Placed) → FirstCases (λ t. kind t ≡ KWord w.Here) ChildText Dots x v → PathText x v
path_to [] v h = firsts_to (λ t. kind t ≡ KWord w.Here) ChildText Dots [] v h
path_to (x ∷ xs) v h = firsts_to (λ t. kind t ≡ KWord w.Here) ChildText Dots (x ∷ xs) v h

path_from : (x : List ℕ) (v : List Placed) → PathText x v → FirstCases (λ t. kind t ≡ KWord w.Here) ChildText Dots x v
path_from [] v h = firsts_from (λ t. kind t ≡ KWord w.Here) ChildText Dots [] v h
path_from (x ∷ xs) v h = firsts_from (λ t. kind t ≡ KWord w.Here) ChildText Dots (x ∷ xs) v h

path_others : Others (is_word w.Here) (λ t. kind t ≡ KWord w.Here) (word_passes w.Here) (Firsts (λ t. kind t ≡ KWord w.Here) ChildText Dots)
path_others = (firsts_empty (λ t. kind t ≡ KWord w.Here) ChildText Dots (λ x h. h), firsts_first (λ t. kind t ≡ KWord w.Here) ChildText Dots (λ x h. h) no_child)

path_good : (On : Type 0) → Good On path_at path_at PathText PathText on_path
path_good On =
    good_as path_to path_from path_to path_from
    (led_or_good (is_word w.Here) (λ t. kind t ≡ KWord w.Here) (word_passes w.Here) (done_clear On [] on_path (λ t. refl))
    (made_good first_and on_path (pair_good (λ (x : ℕ × List ℕ). list_goes never (sign Dot) x.1) (child_good On) (λ _. dots_good On))) path_others path_others)

-- ---- steps

abbrev LawCases : Lang Placed (Bool × List ℕ)
LawCases = LedOr (is_word w.Rev) (λ t. kind t ≡ KWord w.Rev) (word_passes w.Rev) (Made (directed true) AnyName) (Made (directed false) AnyName)

abbrev Law : Lang Placed (Bool × List ℕ)
Law x = LawText x.0 x.1

law_to : (x : Bool × List ℕ) (v : List Placed) → LawCases x v → Law x v
law_to x [] (inl h) = absurd h
law_to x (t ∷ v) (inl h) = subst (λ y. Law y (t ∷ v)) (sym h.1.is) (h.0, h.1.spells)
law_to x v (inr h) = subst (λ y. Law y v) (sym h.is) h.spells

law_from_parts : (b : Bool) (n : List ℕ) (v : List Placed) → LawText b n v → LawCases (b, n) v
law_from_parts true n [] h = absurd h
law_from_parts true n (t ∷ v) h = inl (h.0, record { part = n; is = refl; spells = h.1 })
law_from_parts false n v h = inr (record { part = n; is = refl; spells = h })

law_from : (x : Bool × List ℕ) (v : List Placed) → Law x v → LawCases x v
law_from x v h = law_from_parts x.0 x.1 v h

no_rev : Others (is_word w.Rev) (λ t. kind t ≡ KWord w.Rev) (word_passes w.Rev) (Made (directed false) AnyName)
no_rev = (λ x h. h.spells, λ x t v h e. let i : KName h.part ≡ KWord w.Rev = sym h.spells.0 ∙ e in cc)

law_good : (On : Type 0) → Good On law_at law_at Law Law never
law_good On =
    good_as law_to law_from law_to law_from
    (led_or_good (is_word w.Rev) (λ t. kind t ≡ KWord w.Rev) (word_passes w.Rev) (made_good (directed true) never (name_good On)) (made_good (directed false) never (name_good On)) no_rev no_rev)

-- a step behind its sign
abbrev StepRest : Context → ℕ → Lang Placed StepTree
StepRest c e s = SideText c s.term e · KWord w.By ▸ (LawText s.rev s.law · KWord w.At ▸ PathText s.path)

abbrev StepParts : Context → ℕ → Lang Placed (TermTree × ((Bool × List ℕ) × List ℕ))
StepParts c e = Paired (λ x. SideText c x e) (λ _ y. KWord w.By ▸ Paired Law (λ _ p. KWord w.At ▸ PathText p) y)

step_to : (c : Context) (e : ℕ) (x : StepTree) (v : List Placed) → Made step_of (StepParts c e) x v → StepRest c e x v
step_to c e x v h = subst (λ y. StepRest c e y v) (sym h.is) h.spells

step_from : (c : Context) (e : ℕ) (x : StepTree) (v : List Placed) → StepRest c e x v → Made step_of (StepParts c e) x v
step_from c e x v h = record { part = (x.term, ((x.rev, x.law), x.path)); is = refl; spells = h }

abbrev on_step : StepTree → Placed → Bool
on_step s = on_path s.path

abbrev path_of : (Bool × List ℕ) × List ℕ → List ℕ
path_of x = x.1

step_reads : (c : Context) (e : ℕ) → Good (Unit {0}) (step_at c e) (step_at c (suc e)) (StepRest c e) (StepRest c (suc e)) on_step
step_reads c e =
    good_as (step_to c e) (step_from c e) (step_to c (suc e)) (step_from c (suc e))
    (made_good step_of on_step (pair_good (λ (x : TermTree × ((Bool × List ℕ) × List ℕ)). on_path x.1.1) (side_good c e)
    (λ _. ahead_word term_word_table w.By (pair_good (λ (x : (Bool × List ℕ) × List ℕ). on_path x.1) (law_good (Unit {0})) (λ _. ahead_word term_word_table w.At (path_good (Unit {0})))))))

steps_good : (c : Context) (e : ℕ) → Good (Unit {0}) (steps_at c e) (steps_at c (suc e)) (StepsText c e) (StepsText c (suc e)) never
steps_good c e =
    closed_list (sign Equal) (is_word w.Qed) (λ t. kind t ≡ KSign Equal) (λ t. kind t ≡ KWord w.Qed) (sign_passes Equal) (word_passes w.Qed)
    on_step (λ s t i. path_clear s.path t (sign_apart Equal Dot (λ j. cc) t i)) (λ s t i. path_clear s.path t (word_sign_apart w.Qed Dot t i)) (λ t i. word_sign_apart w.Qed Equal t i) (step_reads c e)

-- ---- rules

abbrev HeadParts : ℕ → Lang Placed (List ℕ × (Context × (TypeTree × List (List ℕ))))
HeadParts d = Paired AnyName (λ _ x. KSign Open ▸ Paired (VarsText d) (λ _ y. KWord w.At ▸ Paired (λ t. TypeText t d) (λ _. WhenText) y) x)

head_to : (d : ℕ) (x : HeadTree) (v : List Placed) → Made head_made (HeadParts d) x v → HeadText d x v
head_to d x v h = subst (λ y. HeadText d y v) (sym h.is) h.spells

head_from : (d : ℕ) (x : HeadTree) (v : List Placed) → HeadText d x v → Made head_made (HeadParts d) x v
head_from d x v h = record { part = (x.name, (x.vars, (x.input, x.when))); is = refl; spells = h }

head_good : (d : ℕ) → Good (Unit {0}) (head_at d) (head_at (suc d)) (HeadText d) (HeadText (suc d)) never
head_good d =
    good_as (head_to d) (head_from d) (head_to (suc d)) (head_from (suc d))
    (made_good head_made never (pair_good never (name_good (Unit {0})) (λ _. ahead_sign term_word_table Open (pair_good never (vars_good d) (λ _. ahead_word term_word_table w.At (pair_good never (type_good d) (λ _. when_good (Unit {0}))))))))

abbrev SideParts : Context → ℕ → Lang Placed (TermTree × (TermTree × TermTree))
SideParts c e = Paired (λ x. SideText c x e) (λ _ x. KSign Equal ▸ Paired (λ y. SideText c y e) (λ _ y. KWord w.Proof ▸ SideText c y e) x)

sides_to : (c : Context) (e : ℕ) (x : SidesTree) (v : List Placed) → Made sides_made (SideParts c e) x v → SidesText c e x v
sides_to c e x v h = subst (λ y. SidesText c e y v) (sym h.is) h.spells

sides_from : (c : Context) (e : ℕ) (x : SidesTree) (v : List Placed) → SidesText c e x v → Made sides_made (SideParts c e) x v
sides_from c e x v h = record { part = (x.left, (x.right, x.first)); is = refl; spells = h }

sides_good : (c : Context) (e : ℕ) → Good (Unit {0}) (sides_at c e) (sides_at c (suc e)) (SidesText c e) (SidesText c (suc e)) never
sides_good c e =
    good_as (sides_to c e) (sides_from c e) (sides_to c (suc e)) (sides_from c (suc e))
    (made_good sides_made never (pair_good never (side_good c e) (λ _. ahead_sign term_word_table Equal (pair_good never (side_good c e) (λ _. ahead_word term_word_table w.Proof (side_good c e))))))

abbrev Body : HeadTree → ℕ → Lang Placed DraftTree
Body h e = Made (draft_with h) (Paired (SidesText h.vars e) (λ _. StepsText h.vars e))

body_good : (h : HeadTree) (e : ℕ) → Good (Unit {0}) (body_at h e) (body_at h (suc e)) (Body h e) (Body h (suc e)) never
body_good h e = made_good (draft_with h) never (pair_good never (sides_good h.vars e) (λ _. steps_good h.vars e))

-- a rule behind its word
abbrev DraftRest : ℕ → Lang Placed DraftTree
DraftRest d r = HeadText d (head_of r) · (SidesText r.rule.vars (term_levels d) (sides_of r) · StepsText r.rule.vars (term_levels d) r.steps)

draft_to : (d : ℕ) (r : DraftTree) (v : List Placed) → Chained (HeadText d) (λ h. Body h (term_levels d)) r v → DraftRest d r v
draft_to d r v c = subst (λ y. DraftRest d y v) (sym c.second.is) (record { front = c.front; back = c.back; split = c.split; first = c.first; second = c.second.spells })

draft_from : (d : ℕ) (r : DraftTree) (v : List Placed) → DraftRest d r v → Chained (HeadText d) (λ h. Body h (term_levels d)) r v
draft_from d r v h = record { mid = head_of r; front = h.front; back = h.back; split = h.split; first = h.first; second = record { part = (sides_of r, r.steps); is = refl; spells = h.second } }

-- one constructor more in a type is one level more in a term
body_deeper : (h : HeadTree) (d : ℕ) → Good (Unit {0}) (body_at h (term_levels d)) (body_at h (term_levels (suc d))) (Body h (term_levels d)) (Body h (term_levels (suc d))) never
body_deeper h d = subst (λ e. Good (Unit {0}) (body_at h (term_levels d)) (body_at h e) (Body h (term_levels d)) (Body h e) never) (omega arith) (body_good h (term_levels d))

draft_chain : (d : ℕ) → Good (Unit {0}) (draft_at d) (draft_at (suc d)) (Chained (HeadText d) (λ h. Body h (term_levels d))) (Chained (HeadText (suc d)) (λ h. Body h (term_levels (suc d)))) never
draft_chain d = next_good (head_good d) (λ h. body_deeper h d)

pub draft_good : (d : ℕ) → Good (Unit {0}) (draft_at d) (draft_at (suc d)) (DraftRest d) (DraftRest (suc d)) never
draft_good d = good_as (draft_to d) (draft_from d) (draft_to (suc d)) (draft_from (suc d)) (draft_chain d)

-- ---- files

-- a rule goes on a file
abbrev pub on_file : List DraftTree → Placed → Bool
on_file = list_goes never (is_word w.Rule)

pub file_good : (d : ℕ) → Good (Unit {0}) (file_at d) (file_at (suc d)) (FileText d) (FileText (suc d)) on_file
file_good d = led_items (is_word w.Rule) (λ t. kind t ≡ KWord w.Rule) (word_passes w.Rule) never (λ x t e. refl) (draft_good d)

-- ---- what is read is taken off

pub var_shrinks : (d : ℕ) → Shrinks (var_at d)
var_shrinks d = shrinks (var_at d) (VarText d) on_var (var_good d).low

pub inj_shrinks : Shrinks inj_at
inj_shrinks = shrinks inj_at InjText never (inj_good ⊥).low

pub child_shrinks : Shrinks child_at
child_shrinks = shrinks child_at ChildText never (child_good ⊥).low

pub step_shrinks : (c : Context) (e : ℕ) → Shrinks (step_at c e)
step_shrinks c e = shrinks (step_at c e) (StepRest c e) on_step (step_reads c e).low

pub draft_shrinks : (d : ℕ) → Shrinks (draft_at d)
draft_shrinks d = shrinks (draft_at d) (DraftRest d) never (draft_good d).low
