-- The readers of schemas read the grammar.
use Rattle.std.proofs.Common.{◌≡◌, inl, inr, ℕ, zero, suc, List, [], ◌∷◌, Option, Some, None, option_map, refl, sym, ap, subst, ◌∙◌}
use Rattle.kola_base.specs.Placed.{Placed}
use Rattle.kola_parse.specs.Reading.{never, Good}
use Rattle.kola_parse.specs.Texts.{◌·◌, ends, Nothing, Chained, Made, Paired}
use Rattle.kola_parse.specs.Moves.{MoveGood}
use Rattle.kola_parse.specs.Kinds.{Lang, Deeper}
use Rattle.kola_parse.proofs.GoodReaders.{done_good, next_good, made_good, pair_good, good_as}
use Rattle.kola_parse.proofs.KindLaws.{Heads, led_good, Inside, deeper_good}
use Rattle.kola_base.specs.declared.sign.Sign.TheVariants.{Open, Close, LeftBrace, RightBrace, Less, Greater, Comma, Semicolon}
use Rattle.kola_base.specs.Alphabets.{KSign, KWord}
use Rattle.kola_base.specs.Named.{name_of, NameText}
use Rattle.kola_base.proofs.SymbolLaws.{sign_token, word_token, sign_is, word_is, ahead_sign, ahead_word, behind_sign, no_name}
use Rattle.kola_base.proofs.NamedLaws.{name_token, some_name, name_good}
use Rattle.kola_parse.proofs.LevelLaws.{levels}
use Rattle.kola_load.specs.declared.schema_alphabet.Word.TheVariants as w
use Rattle.kola_parse.specs.Listed.{Listed}
use Rattle.kola_load.specs.SchemaTree.{Named, TypeAt, AInt, AStr, ABool, ASet, AClass, AttributeAt, ClassAt}
use Rattle.kola_load.specs.SchemaAlphabet.{word_spelling, Kind, kind}
use Rattle.kola_load.specs.SchemaGrammar.{◌▸◌, IsSign, IsWord, leaf_of, leaf, TypeText, KeyText, MayComma, KeysText, AttributesText, BodyText}
use Rattle.kola_load.specs.SchemaReaders.{Reader, leaf_move, type_move, type_step, type_at, next_name_move, next_name, names_at, key_move, key_at, next_key_move, next_key, keys_at, attribute_of, attribute_at, next_attribute_move, next_attribute, attributes_at, class_of, body_at}
use Rattle.kola_parse.proofs.ListedLaws.{ItemOr, Others, IsTaken, IsList, others_good, listed_good}
use Rattle.kola_load.proofs.SchemaSymbols.{schema_words}

-- ---- types

abbrev LeafRest : Option TypeAt → Lang Placed TypeAt
LeafRest (Some x) = Nothing x
LeafRest None = λ x w. ⊥

-- what a type goes by at its first token
abbrev Lead : Type 0
Lead = Kind × Option Named

abbrev lead : Placed → Lead
lead t = (kind t, name_of t)

abbrev TypeRest : ℕ → Kind → Option Named → Lang Placed TypeAt
TypeRest n (KWord w.Set) m = Deeper n (λ d. Made ASet (λ x. IsSign Less ▸ (TypeText x d · IsSign Greater ▸ ends)))
TypeRest n k m = LeafRest (leaf_of k m)

class_only : (m : Option Named) (x : TypeAt) → option_map AClass m ≡ Some (ASet x) → ⊥
class_only None x e = cc
class_only (Some n) x e = cc

-- no token is a set alone
no_set : (k : Kind) (m : Option Named) (x : TypeAt) → leaf_of k m ≡ Some (ASet x) → ⊥
no_set (KWord w.Int) m x e = cc
no_set (KWord w.Long) m x e = cc
no_set (KWord w.String) m x e = cc
no_set (KWord w.Bool) m x e = cc
no_set (KWord w.Boolean) m x e = cc
no_set (KWord w.Set) m x e = cc
no_set _ m x e = class_only m x e

leaf_text : (n : ℕ) (x : TypeAt) (t : Placed) (v : List Placed) → leaf t ≡ Some x → ends v → TypeText x n (t ∷ v)
leaf_text n (ASet x) t v e h = absurd (no_set (kind t) (name_of t) x e)
leaf_text n AInt t v e h = (e, h)
leaf_text n AStr t v e h = (e, h)
leaf_text n ABool t v e h = (e, h)
leaf_text n (AClass m) t v e h = (e, h)

-- a leaf behind its token
leaf_rest : (n : ℕ) (k : Kind) (m : Option Named) (x : TypeAt) (v : List Placed) → leaf_of k m ≡ Some x → ends v → TypeRest n k m x v
leaf_rest n (KWord w.Set) m x v e h = absurd cc
leaf_rest n k m x v e h = subst (λ o. LeafRest o x v) (sym e) (refl, h)

leaf_to : (n : ℕ) (o : Option TypeAt) (x : TypeAt) (t : Placed) (v : List Placed) → leaf t ≡ o → LeafRest o x v → TypeText x n (t ∷ v)
leaf_to n (Some y) x t v e h = leaf_text n x t v (e ∙ ap Some (sym h.0)) h.1
leaf_to n None x t v e h = absurd h

set_to : (n : ℕ) (x : TypeAt) (t : Placed) (v : List Placed) → IsWord w.Set t → Deeper n (λ d. Made ASet (λ x. IsSign Less ▸ (TypeText x d · IsSign Greater ▸ ends))) x v → TypeText x n (t ∷ v)
set_to zero x t v e h = absurd h
set_to (suc n) x t v e h = subst (λ y. TypeText y (suc n) (t ∷ v)) (sym h.is) (e, h.spells)

set_from : (n : ℕ) (x : TypeAt) (t : Placed) (v : List Placed) → TypeText (ASet x) n (t ∷ v) → TypeRest n (kind t) (name_of t) (ASet x) v
set_from zero x t v h = absurd h
set_from (suc n) x t v h = subst (λ k. TypeRest (suc n) k (name_of t) (ASet x) v) (sym h.0) (record { part = x; is = refl; spells = h.1 })

type_heads : (n : ℕ) → Heads lead (λ k. TypeRest n k.0 k.1) (λ x. TypeText x n)
type_heads n = record { to = to; from = from; empty = empty; some = record { tree = AInt; text = word_token (word_spelling w.Int) ∷ []; spells = (int_is, tt) } }
  where
    int_is : leaf (word_token (word_spelling w.Int)) ≡ Some AInt
    int_is = ap (λ k. leaf_of k (name_of (word_token (word_spelling w.Int)))) (word_is schema_words w.Int)

    by : (k : Kind) (m : Option Named) (x : TypeAt) (t : Placed) (v : List Placed) → kind t ≡ k → leaf t ≡ leaf_of k m → TypeRest n k m x v → TypeText x n (t ∷ v)
    by (KWord w.Set) m x t v e i h = set_to n x t v e h
    by k m x t v e i h = leaf_to n (leaf_of k m) x t v i h

    to : (k : Lead) (x : TypeAt) (t : Placed) (v : List Placed) → lead t ≡ k → TypeRest n k.0 k.1 x v → TypeText x n (t ∷ v)
    to k x t v e h = by k.0 k.1 x t v (ap (λ (z : Lead). z.0) e) (ap (λ (z : Lead). leaf_of z.0 z.1) e) h

    from : (x : TypeAt) (t : Placed) (v : List Placed) → TypeText x n (t ∷ v) → TypeRest n (kind t) (name_of t) x v
    from (ASet x) t v h = set_from n x t v h
    from AInt t v h = leaf_rest n (kind t) (name_of t) AInt v h.0 h.1
    from AStr t v h = leaf_rest n (kind t) (name_of t) AStr v h.0 h.1
    from ABool t v h = leaf_rest n (kind t) (name_of t) ABool v h.0 h.1
    from (AClass m) t v h = leaf_rest n (kind t) (name_of t) (AClass m) v h.0 h.1

    empty_set : (n : ℕ) (x : TypeAt) → TypeText (ASet x) n [] → ⊥
    empty_set zero x h = h
    empty_set (suc n) x h = h

    empty : (x : TypeAt) → TypeText x n [] → ⊥
    empty (ASet x) h = empty_set n x h
    empty AInt h = h
    empty AStr h = h
    empty ABool h = h
    empty (AClass m) h = h

-- the readers i and j read types in which d and e sets may nest
abbrev pub Level : Type 0 → Reader TypeAt → Reader TypeAt → ℕ → ℕ → Type 0
Level On i j d e = Good On i j (λ x. TypeText x d) (λ x. TypeText x e) never

leaf_each : (On : Type 0) (o : Option TypeAt) → MoveGood On (leaf_move o) (leaf_move o) (LeafRest o) (LeafRest o) never
leaf_each On (Some x) = done_good On x
leaf_each On None = (λ x w h. h, λ x w h. h)

type_each : {On : Type 0} {o o' : Option (Reader TypeAt)} {n m : ℕ} → Inside Level On o o' n m → (k : Kind) (a : Option Named) → MoveGood On (type_move o k a) (type_move o' k a) (TypeRest n k a) (TypeRest m k a) never
type_each {On} b (KWord w.Set) a =
    deeper_good b (λ d. Made ASet (λ x. IsSign Less ▸ (TypeText x d · IsSign Greater ▸ ends))) _ (λ On i j d e l. made_good ASet never (ahead_sign schema_words Less (behind_sign schema_words Greater l)))
type_each {On} b k a = leaf_each On (leaf_of k a)

step_good : (On : Type 0) (o o' : Option (Reader TypeAt)) (n m : ℕ) → Inside Level On o o' n m → Level On (type_step o) (type_step o') n m
step_good On o o' n m b = led_good lead On (λ k. type_move o k.0 k.1) (λ k. type_move o' k.0 k.1) (λ k. TypeRest n k.0 k.1) (λ k. TypeRest m k.0 k.1) (λ x. TypeText x n) (λ x. TypeText x m) (type_heads n) (type_heads m) (λ k. type_each b k.0 k.1)

pub type_good : (d : ℕ) → Level (Unit {0}) (type_at d) (type_at (suc d)) d (suc d)
type_good d = levels Level type_step step_good d

-- ---- names up to the parenthesis

abbrev CommaName : Lang Placed Named
CommaName n = IsSign Comma ▸ NameText n

abbrev Closed : List Placed → Type 0
Closed = IsSign Close ▸ ends

close_token : Closed (sign_token Close ∷ [])
close_token = (sign_is schema_words Close, tt)

names_taken : IsTaken CommaName Closed
names_taken = record { item = λ n h. h; last = λ h. h; text = sign_token Close ∷ []; is = close_token }

abbrev NextNameRest : Kind → Lang Placed (Option Named)
NextNameRest (KSign Comma) = Made Some NameText
NextNameRest (KSign Close) = Nothing None
NextNameRest _ = λ x w. ⊥

next_name_heads : Heads kind NextNameRest (ItemOr CommaName Closed)
next_name_heads = record { to = to; from = from; empty = empty; some = record { tree = None; text = sign_token Close ∷ []; spells = close_token } }
  where
    to : (k : Kind) (x : Option Named) (t : Placed) (v : List Placed) → kind t ≡ k → NextNameRest k x v → ItemOr CommaName Closed x (t ∷ v)
    to (KSign Comma) x t v e h = subst (λ y. ItemOr CommaName Closed y (t ∷ v)) (sym h.is) (e, h.spells)
    to (KSign Close) x t v e h = subst (λ y. ItemOr CommaName Closed y (t ∷ v)) (sym h.0) (e, h.1)
    to _ x t v e h = absurd h

    from : (x : Option Named) (t : Placed) (v : List Placed) → ItemOr CommaName Closed x (t ∷ v) → NextNameRest (kind t) x v
    from (Some n) t v h = subst (λ k. NextNameRest k (Some n) v) (sym h.0) (record { part = n; is = refl; spells = h.1 })
    from None t v h = subst (λ k. NextNameRest k None v) (sym h.0) (refl, h.1)

    empty : (x : Option Named) → ItemOr CommaName Closed x [] → ⊥
    empty (Some n) h = h
    empty None h = h

next_name_each : (On : Type 0) (k : Kind) → MoveGood On (next_name_move k) (next_name_move k) (NextNameRest k) (NextNameRest k) never
next_name_each On (KSign Comma) = made_good Some never (name_good On)
next_name_each On (KSign Close) = done_good On None
next_name_each On _ = (λ x w h. h, λ x w h. h)

next_name_good : (On : Type 0) → Good On next_name next_name (ItemOr CommaName Closed) (ItemOr CommaName Closed) never
next_name_good On = led_good kind On next_name_move next_name_move NextNameRest NextNameRest (ItemOr CommaName Closed) (ItemOr CommaName Closed) next_name_heads next_name_heads (next_name_each On)

pub name_list : IsList next_name
name_list = record { item = CommaName; last = Closed; reads = (next_name_good ⊥).low; taken = names_taken }

-- names behind the parenthesis that opens them
abbrev Opened : Lang Placed (List Named)
Opened [] w = ⊥
Opened (n ∷ ns) w = (NameText n · Listed CommaName Closed ns) w

opened_to : (ns : List Named) (w : List Placed) → Chained NameText (λ n. Others CommaName Closed (n ∷ [])) ns w → Opened ns w
opened_to ns w c = subst (λ z. Opened z w) (sym c.second.1) (record { front = c.front; back = c.back; split = c.split; first = c.first; second = c.second.2 })

opened_from : (ns : List Named) (w : List Placed) → Opened ns w → Chained NameText (λ n. Others CommaName Closed (n ∷ [])) ns w
opened_from [] w h = absurd h
opened_from (n ∷ ns) w h = record { mid = n; front = h.front; back = h.back; split = h.split; first = h.first; second = (ns, refl, h.second) }

names_good : (On : Type 0) → Good On names_at names_at Opened Opened never
names_good On =
    good_as opened_to opened_from opened_to opened_from
    (next_good (name_good On) (λ n. others_good names_taken names_taken (next_name_good On) (n ∷ [])))

-- ---- keys

abbrev KeyRest : Option Named → Kind → Lang Placed (List Named)
KeyRest (Some n) k = Nothing (n ∷ [])
KeyRest None (KSign Open) = Opened
KeyRest None _ = λ x w. ⊥

-- in parentheses or alone
in_parentheses : (ns : List Named) (t : Placed) (v : List Placed) → IsSign Open t → Opened ns v → KeyText ns (t ∷ v)
in_parentheses [] t v e h = absurd h
in_parentheses (n ∷ []) t v e h = inr (e, h)
in_parentheses (n ∷ m ∷ ns) t v e h = (e, h)

key_heads : Heads lead (λ k. KeyRest k.1 k.0) KeyText
key_heads = record { to = to; from = from; empty = empty; some = record { tree = some_name ∷ []; text = name_token some_name ∷ []; spells = inl (refl, tt) } }
  where
    by : (m : Option Named) (k : Kind) (x : List Named) (t : Placed) (v : List Placed) → name_of t ≡ m → kind t ≡ k → KeyRest m k x v → KeyText x (t ∷ v)
    by (Some n) k x t v i e h = subst (λ y. KeyText y (t ∷ v)) (sym h.0) (inl (i, h.1))
    by None (KSign Open) x t v i e h = in_parentheses x t v e h
    by None _ x t v i e h = absurd h

    to : (k : Lead) (x : List Named) (t : Placed) (v : List Placed) → lead t ≡ k → KeyRest k.1 k.0 x v → KeyText x (t ∷ v)
    to k x t v e h = by k.1 k.0 x t v (ap (λ (z : Lead). z.1) e) (ap (λ (z : Lead). z.0) e) h

    opened : (x : List Named) (t : Placed) (v : List Placed) → IsSign Open t → Opened x v → KeyRest (name_of t) (kind t) x v
    opened x t v e h = subst (λ m. KeyRest m (kind t) x v) (sym (no_name schema_words Open t e)) (subst (λ k. KeyRest None k x v) (sym e) h)

    one : (n : Named) (t : Placed) (v : List Placed) → KeyText (n ∷ []) (t ∷ v) → KeyRest (name_of t) (kind t) (n ∷ []) v
    one n t v (inl h) = subst (λ m. KeyRest m (kind t) (n ∷ []) v) (sym h.0) (refl, h.1)
    one n t v (inr h) = opened (n ∷ []) t v h.0 h.1

    from : (x : List Named) (t : Placed) (v : List Placed) → KeyText x (t ∷ v) → KeyRest (name_of t) (kind t) x v
    from [] t v h = absurd h
    from (n ∷ []) t v h = one n t v h
    from (n ∷ m ∷ ns) t v h = opened (n ∷ m ∷ ns) t v h.0 h.1

    one_empty : (n : Named) → KeyText (n ∷ []) [] → ⊥
    one_empty n (inl h) = h
    one_empty n (inr h) = h

    empty : (x : List Named) → KeyText x [] → ⊥
    empty [] h = h
    empty (n ∷ []) h = one_empty n h
    empty (n ∷ m ∷ ns) h = h

key_each : (On : Type 0) (m : Option Named) (k : Kind) → MoveGood On (key_move m k) (key_move m k) (KeyRest m k) (KeyRest m k) never
key_each On (Some n) k = done_good On (n ∷ [])
key_each On None (KSign Open) = names_good On
key_each On None _ = (λ x w h. h, λ x w h. h)

pub key_good : (On : Type 0) → Good On key_at key_at KeyText KeyText never
key_good On = led_good lead On (λ k. key_move k.1 k.0) (λ k. key_move k.1 k.0) (λ k. KeyRest k.1 k.0) (λ k. KeyRest k.1 k.0) KeyText KeyText key_heads key_heads (λ k. key_each On k.1 k.0)

abbrev NextKey : Lang Placed (List Named)
NextKey k = MayComma (IsWord w.Key ▸ KeyText k)

next_key_taken : (k : List Named) → NextKey k [] → ⊥
next_key_taken k (inl h) = h
next_key_taken k (inr h) = h

keys_taken : IsTaken NextKey Closed
keys_taken = record { item = next_key_taken; last = λ h. h; text = sign_token Close ∷ []; is = close_token }

abbrev NextKeyRest : Kind → Lang Placed (Option (List Named))
NextKeyRest (KSign Comma) = Made Some (λ k. IsWord w.Key ▸ KeyText k)
NextKeyRest (KWord w.Key) = Made Some KeyText
NextKeyRest (KSign Close) = Nothing None
NextKeyRest _ = λ x w. ⊥

next_key_heads : Heads kind NextKeyRest (ItemOr NextKey Closed)
next_key_heads = record { to = to; from = from; empty = empty; some = record { tree = None; text = sign_token Close ∷ []; spells = close_token } }
  where
    to : (k : Kind) (x : Option (List Named)) (t : Placed) (v : List Placed) → kind t ≡ k → NextKeyRest k x v → ItemOr NextKey Closed x (t ∷ v)
    to (KSign Comma) x t v e h = subst (λ y. ItemOr NextKey Closed y (t ∷ v)) (sym h.is) (inl (e, h.spells))
    to (KWord w.Key) x t v e h = subst (λ y. ItemOr NextKey Closed y (t ∷ v)) (sym h.is) (inr (e, h.spells))
    to (KSign Close) x t v e h = subst (λ y. ItemOr NextKey Closed y (t ∷ v)) (sym h.0) (e, h.1)
    to _ x t v e h = absurd h

    one : (k : List Named) (t : Placed) (v : List Placed) → NextKey k (t ∷ v) → NextKeyRest (kind t) (Some k) v
    one k t v (inl h) = subst (λ j. NextKeyRest j (Some k) v) (sym h.0) (record { part = k; is = refl; spells = h.1 })
    one k t v (inr h) = subst (λ j. NextKeyRest j (Some k) v) (sym h.0) (record { part = k; is = refl; spells = h.1 })

    from : (x : Option (List Named)) (t : Placed) (v : List Placed) → ItemOr NextKey Closed x (t ∷ v) → NextKeyRest (kind t) x v
    from (Some k) t v h = one k t v h
    from None t v h = subst (λ k. NextKeyRest k None v) (sym h.0) (refl, h.1)

    empty : (x : Option (List Named)) → ItemOr NextKey Closed x [] → ⊥
    empty (Some k) h = next_key_taken k h
    empty None h = h

next_key_each : (On : Type 0) (k : Kind) → MoveGood On (next_key_move k) (next_key_move k) (NextKeyRest k) (NextKeyRest k) never
next_key_each On (KSign Comma) = made_good Some never (ahead_word schema_words w.Key (key_good On))
next_key_each On (KWord w.Key) = made_good Some never (key_good On)
next_key_each On (KSign Close) = done_good On None
next_key_each On _ = (λ x w h. h, λ x w h. h)

next_key_good : (On : Type 0) → Good On next_key next_key (ItemOr NextKey Closed) (ItemOr NextKey Closed) never
next_key_good On = led_good kind On next_key_move next_key_move NextKeyRest NextKeyRest (ItemOr NextKey Closed) (ItemOr NextKey Closed) next_key_heads next_key_heads (next_key_each On)

pub key_list : IsList next_key
key_list = record { item = NextKey; last = Closed; reads = (next_key_good ⊥).low; taken = keys_taken }

keys_good : (On : Type 0) → Good On keys_at keys_at KeysText KeysText never
keys_good On = listed_good keys_taken keys_taken (next_key_good On)

-- ---- attributes

abbrev AttributeText : ℕ → Lang Placed AttributeAt
AttributeText d a = TypeText a.type d · (NameText a.name · IsSign Semicolon ▸ ends)

abbrev AttributePair : ℕ → Lang Placed (TypeAt × Named)
AttributePair d = Paired (λ x. TypeText x d) (λ x n. NameText n · IsSign Semicolon ▸ ends)

attribute_to : (d : ℕ) (a : AttributeAt) (v : List Placed) → Made attribute_of (AttributePair d) a v → AttributeText d a v
attribute_to d a v h = subst (λ z. AttributeText d z v) (sym h.is) h.spells

attribute_from : (d : ℕ) (a : AttributeAt) (v : List Placed) → AttributeText d a v → Made attribute_of (AttributePair d) a v
attribute_from d a v h = record { part = (a.type, a.name); is = refl; spells = h }

attribute_good : {On : Type 0} {i j : Reader TypeAt} {d e : ℕ} → Level On i j d e → Good On (attribute_at i) (attribute_at j) (AttributeText d) (AttributeText e) never
attribute_good {On} {i} {j} {d} {e} l =
    good_as (attribute_to d) (attribute_from d) (attribute_to e) (attribute_from e) (made_good attribute_of never (pair_good never l (λ x. behind_sign schema_words Semicolon (name_good On))))

abbrev NextAttribute : ℕ → Lang Placed AttributeAt
NextAttribute d a = IsWord w.Attribute ▸ AttributeText d a

abbrev Braced : List Placed → Type 0
Braced = IsSign RightBrace ▸ ends

brace_token : Braced (sign_token RightBrace ∷ [])
brace_token = (sign_is schema_words RightBrace, tt)

attributes_taken : (d : ℕ) → IsTaken (NextAttribute d) Braced
attributes_taken d = record { item = λ a h. h; last = λ h. h; text = sign_token RightBrace ∷ []; is = brace_token }

abbrev NextAttributeRest : ℕ → Kind → Lang Placed (Option AttributeAt)
NextAttributeRest d (KWord w.Attribute) = Made Some (AttributeText d)
NextAttributeRest d (KSign RightBrace) = Nothing None
NextAttributeRest d _ = λ x w. ⊥

next_attribute_heads : (d : ℕ) → Heads kind (NextAttributeRest d) (ItemOr (NextAttribute d) Braced)
next_attribute_heads d = record { to = to; from = from; empty = empty; some = record { tree = None; text = sign_token RightBrace ∷ []; spells = brace_token } }
  where
    to : (k : Kind) (x : Option AttributeAt) (t : Placed) (v : List Placed) → kind t ≡ k → NextAttributeRest d k x v → ItemOr (NextAttribute d) Braced x (t ∷ v)
    to (KWord w.Attribute) x t v e h = subst (λ y. ItemOr (NextAttribute d) Braced y (t ∷ v)) (sym h.is) (e, h.spells)
    to (KSign RightBrace) x t v e h = subst (λ y. ItemOr (NextAttribute d) Braced y (t ∷ v)) (sym h.0) (e, h.1)
    to _ x t v e h = absurd h

    from : (x : Option AttributeAt) (t : Placed) (v : List Placed) → ItemOr (NextAttribute d) Braced x (t ∷ v) → NextAttributeRest d (kind t) x v
    from (Some a) t v h = subst (λ k. NextAttributeRest d k (Some a) v) (sym h.0) (record { part = a; is = refl; spells = h.1 })
    from None t v h = subst (λ k. NextAttributeRest d k None v) (sym h.0) (refl, h.1)

    empty : (x : Option AttributeAt) → ItemOr (NextAttribute d) Braced x [] → ⊥
    empty (Some a) h = h
    empty None h = h

next_attribute_each : {On : Type 0} {i j : Reader TypeAt} {d e : ℕ} → Level On i j d e → (k : Kind) → MoveGood On (next_attribute_move i k) (next_attribute_move j k) (NextAttributeRest d k) (NextAttributeRest e k) never
next_attribute_each {On} l (KWord w.Attribute) = made_good Some never (attribute_good l)
next_attribute_each {On} l (KSign RightBrace) = done_good On None
next_attribute_each {On} l _ = (λ x w h. h, λ x w h. h)

next_attribute_good : {On : Type 0} {i j : Reader TypeAt} {d e : ℕ} → Level On i j d e → Good On (next_attribute i) (next_attribute j) (ItemOr (NextAttribute d) Braced) (ItemOr (NextAttribute e) Braced) never
next_attribute_good {On} {i} {j} {d} {e} l =
    led_good kind On (next_attribute_move i) (next_attribute_move j) (NextAttributeRest d) (NextAttributeRest e) (ItemOr (NextAttribute d) Braced) (ItemOr (NextAttribute e) Braced) (next_attribute_heads d) (next_attribute_heads e) (next_attribute_each l)

pub attribute_list : (d : ℕ) → IsList (next_attribute (type_at d))
attribute_list d = record { item = NextAttribute d; last = Braced; reads = (next_attribute_good (type_good d)).low; taken = attributes_taken d }

attributes_good : {On : Type 0} {i j : Reader TypeAt} {d e : ℕ} → Level On i j d e → Good On (attributes_at i) (attributes_at j) (AttributesText d) (AttributesText e) never
attributes_good {On} {i} {j} {d} {e} l = listed_good (attributes_taken d) (attributes_taken e) (next_attribute_good l)

-- ---- the body of a class

abbrev BodyParts : ℕ → Lang Placed (Named × (Named × (List (List Named) × List AttributeAt)))
BodyParts d = Paired NameText (λ _ x. IsSign Open ▸ IsWord w.Extent ▸ Paired NameText (λ _ y. Paired KeysText (λ _ z. IsSign LeftBrace ▸ AttributesText d z) y) x)

body_to : (d : ℕ) (c : ClassAt) (v : List Placed) → Made class_of (BodyParts d) c v → BodyText d c v
body_to d c v h = subst (λ z. BodyText d z v) (sym h.is) h.spells

body_from : (d : ℕ) (c : ClassAt) (v : List Placed) → BodyText d c v → Made class_of (BodyParts d) c v
body_from d c v h = record { part = (c.name, (c.extent, (c.keys, c.attributes))); is = refl; spells = h }

pub body_good : {On : Type 0} {i j : Reader TypeAt} {d e : ℕ} → Level On i j d e → Good On (body_at i) (body_at j) (BodyText d) (BodyText e) never
body_good {On} {i} {j} {d} {e} l =
    good_as (body_to d) (body_from d) (body_to e) (body_from e)
    (made_good class_of never (pair_good never (name_good On) (λ n. ahead_sign schema_words Open (ahead_word schema_words w.Extent (pair_good never (name_good On) (λ m. pair_good never (keys_good On) (λ k. ahead_sign schema_words LeftBrace (attributes_good l))))))))
