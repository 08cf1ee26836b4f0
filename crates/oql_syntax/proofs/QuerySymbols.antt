-- Single tokens of queries: what the tests of signs and words pass, and what the readers of one token read.
use Rattle.std.proofs.Common.{◌≡◌, ℕ, Bool, true, false, List, [], ◌∷◌, ◌++◌, Option, Some, None, refl, sym, ap, subst, ◌∙◌}
use Rattle.std.specs.List.{find}
use Rattle.std.specs.Str.{bytes_eq, str_to_ascii_lowercase, str_eq_ignore_ascii_case}
use Rattle.kola_base.specs.declared.sign.Sign.{Sign}
use Rattle.kola_base.specs.Alphabets.{sign_or, word_or, says_sign, sign}
use Rattle.kola_base.specs.Lexemes.{Lexeme, LWord, LNumber, LString, LSign}
use Rattle.kola_base.specs.Named.{Named}
use Rattle.kola_base.specs.Placed.{Placed}
use Rattle.kola_base.specs.QueryWords.{words_left_out, is_among}
use Rattle.kola_base.specs.Signs.{sign_spelling, sign_named}
use Rattle.kola_base.proofs.SignLaws.{name_itself, name_equal, sign_again, sign_spells, find_passes}
use Rattle.kola_parse.specs.Kinds.{Lang, leads, ahead}
use Rattle.kola_parse.specs.Moves.{NoText, MoveGood}
use Rattle.kola_parse.specs.Reader.{then, Move, Stray, Deep, Goes}
use Rattle.kola_parse.specs.Reading.{Ends, never, Inhabited, Good}
use Rattle.kola_parse.specs.Texts.{Nothing, Chained, Led}
use Rattle.kola_parse.proofs.GoodReaders.{done_good, then_good, eat_good}
use Rattle.kola_parse.proofs.KindLaws.{Tests, ahead_good}
use Rattle.oql_syntax.specs.declared.word.QueryWord.{QueryWord}
use Rattle.oql_syntax.specs.declared.word.QueryWord.TheVariants as q
use Rattle.oql_syntax.specs.Alphabet.{Kind, KSign, KWord, KName, kind, query_word_spelling, query_words, query_word_named, or_left_out, says_word}
use Rattle.oql_syntax.specs.QueryReaders.{Reader, is_word, named, variable_move, variable, literal_of, literal_move, literal, led}
use Rattle.oql_tree.specs.QueryTrees.{LitTree, LitBool}

-- ---- signs

abbrev pub sign_token : Sign → Placed
sign_token s = record { says = LSign (sign_spelling s); at = 0 }

no_sign : (bs : List ℕ) (o : Option QueryWord) (s : Sign) → word_or bs o ≡ KSign s → ⊥
no_sign bs (Some w) s e = absurd cc
no_sign bs None s e = absurd cc

of_sign : (bs : List ℕ) (o : Option Sign) (s : Sign) → sign_named bs ≡ o → sign_or {W = QueryWord} o ≡ KSign s → sign_spelling s ≡ bs
of_sign bs (Some r) s i e = sign_spells bs s (i ∙ (let same : r ≡ s = cc in ap Some same))
of_sign bs None s i e = absurd cc

sign_to : (s : Sign) (t : Placed) (l : Lexeme) → t.says ≡ l → says_sign s l ≡ true → kind t ≡ KSign s
sign_to s t (LSign bs) i e = rw i (ap (λ (z : List ℕ). sign_or (sign_named z)) (name_equal bs (sign_spelling s) e) ∙ ap sign_or (sign_again s))
sign_to s t (LWord bs) i e = absurd cc
sign_to s t (LNumber z) i e = absurd cc
sign_to s t (LString bs) i e = absurd cc

abbrev kind_of : Lexeme → Kind
kind_of l = kind (record { says = l; at = 0 })

sign_from : (s : Sign) (l : Lexeme) → kind_of l ≡ KSign s → says_sign s l ≡ true
sign_from s (LSign bs) e = ap (λ (z : List ℕ). says_sign s (LSign z)) (sym (of_sign bs (sign_named bs) s refl e)) ∙ name_itself (sign_spelling s)
sign_from s (LWord bs) e = absurd (no_sign bs (query_word_named bs) s e)
sign_from s (LNumber z) e = absurd cc
sign_from s (LString bs) e = absurd cc

pub sign_is : (s : Sign) → kind (sign_token s) ≡ KSign s
sign_is s = ap sign_or (sign_again s)

-- the test of a sign passes its tokens alone
pub sign_tests : (s : Sign) → Tests (sign s) (λ t. kind t ≡ KSign s)
sign_tests s = record { to = λ t e. sign_to s t t.says refl e; from = λ t e. sign_from s t.says e; some = sign_token s; is = sign_is s }

-- ---- words

abbrev pub word_token : List ℕ → Placed
word_token bs = record { says = LWord bs; at = 0 }

-- a word that is read in the same letters is the same one
unfoldable found_as : List ℕ → Option QueryWord
found_as low = find (λ w. bytes_eq low (str_to_ascii_lowercase (query_word_spelling w))) query_words

named_found : (bs : List ℕ) → query_word_named bs ≡ or_left_out (is_among words_left_out bs) (found_as (str_to_ascii_lowercase bs))
unfolding query_word_named found_as
named_found bs = refl

abbrev Listed : QueryWord → Type 0
Listed w = found_as (str_to_ascii_lowercase (query_word_spelling w)) ≡ Some w

abbrev pub is_left_out : QueryWord → Bool
is_left_out q.LeftOut = true
is_left_out _ = false

listed : (w : QueryWord) → is_left_out w ≡ false → Listed w
unfolding found_as query_words
listed q.Select n = refl
listed q.Distinct n = refl
listed q.From n = refl
listed q.Where n = refl
listed q.As n = refl
listed q.In n = refl
listed q.Exists n = refl
listed q.For n = refl
listed q.All n = refl
listed q.And n = refl
listed q.Or n = refl
listed q.Not n = refl
listed q.Union n = refl
listed q.Intersect n = refl
listed q.Except n = refl
listed q.Struct n = refl
listed q.Set n = refl
listed q.Flatten n = refl
listed q.True n = refl
listed q.False n = refl
listed q.LeftOut n = absurd cc

word_found : (w : QueryWord) (bs : List ℕ) → Listed w → str_eq_ignore_ascii_case bs (query_word_spelling w) ≡ true → query_word_named bs ≡ Some w
word_found w bs l e =
    named_found bs ∙ ap (λ (z : List ℕ). or_left_out (is_among words_left_out bs) (found_as z)) (name_equal _ _ e) ∙ ap (or_left_out (is_among words_left_out bs)) l

-- a word of the grammar is written as its spelling, but for the case
found_passes : (bs : List ℕ) (w : QueryWord) → found_as (str_to_ascii_lowercase bs) ≡ Some w → str_eq_ignore_ascii_case bs (query_word_spelling w) ≡ true
unfolding found_as
found_passes bs w e = find_passes (λ v. str_eq_ignore_ascii_case bs (query_word_spelling v)) query_words w e

named_passes : (b : Bool) (bs : List ℕ) (w : QueryWord) (o : Option QueryWord) → found_as (str_to_ascii_lowercase bs) ≡ o → is_left_out w ≡ false → or_left_out b o ≡ Some w → str_eq_ignore_ascii_case bs (query_word_spelling w) ≡ true
named_passes b bs w (Some v) i n e = found_passes bs w (i ∙ e)
named_passes true bs w None i n e = absurd (let left : w ≡ q.LeftOut = cc in let m = sym n ∙ ap is_left_out left in cc)
named_passes false bs w None i n e = absurd cc

of_word : (bs : List ℕ) (o : Option QueryWord) (w : QueryWord) → word_or bs o ≡ KWord w → o ≡ Some w
of_word bs (Some v) w e = let same : v ≡ w = cc in ap Some same
of_word bs None w e = absurd cc

no_word : (o : Option Sign) (w : QueryWord) → sign_or o ≡ KWord w → ⊥
no_word (Some s) w e = absurd cc
no_word None w e = absurd cc

module _ (w : QueryWord) (grammar : is_left_out w ≡ false) where
  word_to : (l : Lexeme) → says_word (query_word_spelling w) l ≡ true → kind_of l ≡ KWord w
  word_to (LWord bs) e = ap (word_or bs) (word_found w bs (listed w grammar) e)
  word_to (LSign bs) e = absurd cc
  word_to (LNumber z) e = absurd cc
  word_to (LString bs) e = absurd cc

  word_from : (l : Lexeme) → kind_of l ≡ KWord w → says_word (query_word_spelling w) l ≡ true
  word_from (LWord bs) e = named_passes (is_among words_left_out bs) bs w (found_as (str_to_ascii_lowercase bs)) refl grammar (sym (named_found bs) ∙ of_word bs (query_word_named bs) w e)
  word_from (LSign bs) e = absurd (no_word (sign_named bs) w e)
  word_from (LNumber z) e = absurd cc
  word_from (LString bs) e = absurd cc

  pub word_is : kind (word_token (query_word_spelling w)) ≡ KWord w
  word_is = ap (word_or (query_word_spelling w)) (word_found w (query_word_spelling w) (listed w grammar) (name_itself (str_to_ascii_lowercase (query_word_spelling w))))

  -- the test of a word of the grammar passes its tokens alone
  pub word_tests : Tests (is_word w) (λ t. kind t ≡ KWord w)
  word_tests = record { to = λ t e. word_to t.says e; from = λ t e. word_from t.says e; some = word_token (query_word_spelling w); is = word_is }

-- ---- a token, and then a text

-- a token of the kind, and then a text of L
abbrev pub Ahead : {A : Type 0} → Kind → Lang Placed A → Lang Placed A
Ahead k L x = leads (λ t. kind t ≡ k) (L x)

pub ahead_sign : {A On : Type 0} {p r : Reader A} {L M : Lang Placed A} {K : A → Placed → Bool} (s : Sign) → Good On p r L M K → Good On (ahead (sign s) p) (ahead (sign s) r) (Ahead (KSign s) L) (Ahead (KSign s) M) K
ahead_sign s h = ahead_good (sign s) (λ t. kind t ≡ KSign s) (sign_tests s) h

pub ahead_word : {A On : Type 0} {p r : Reader A} {L M : Lang Placed A} {K : A → Placed → Bool} (w : QueryWord) → is_left_out w ≡ false → Good On p r L M K → Good On (ahead (is_word w) p) (ahead (is_word w) r) (Ahead (KWord w) L) (Ahead (KWord w) M) K
ahead_word w n h = ahead_good (is_word w) (λ t. kind t ≡ KWord w) (word_tests w n) h

-- such a token ends what it does not go on
pub ahead_clear : {B : Type 0} (k : Kind) (K : Placed → Bool) (L : Lang Placed B) → ((t : Placed) → kind t ≡ k → K t ≡ false) → (y : B) (v r : List Placed) → Ahead k L y v → Ends K (v ++ r)
ahead_clear k K L bar y [] r h = absurd h
ahead_clear k K L bar y (t ∷ v) r h = bar t h.0

-- what p reads, a token that does not go on it, and then more
pub after_sign : {A B On : Type 0} {p r : Reader A} {c d : A → Reader B} {L M : Lang Placed A} {F G : A → Lang Placed B} {K : A → Placed → Bool} {J : B → Placed → Bool} (s : Sign) → ((a : A) (t : Placed) → kind t ≡ KSign s → K a t ≡ false)
    → Good On p r L M K → ((a : A) → Good On (c a) (d a) (F a) (G a) J)
    → Good On (then p (λ a. ahead (sign s) (c a))) (then r (λ a. ahead (sign s) (d a))) (Chained L (λ a. Ahead (KSign s) (F a))) (Chained M (λ a. Ahead (KSign s) (G a))) J
after_sign {A} {B} {On} {p} {r} {c} {d} {L} {M} {F} {G} {K} {J} s bar h go =
    then_good h (λ a. ahead_sign s (go a)) (λ a y v r m e. ahead_clear (KSign s) (K a) (F a) (bar a) y v r m) (λ a y v r m e. ahead_clear (KSign s) (K a) (G a) (bar a) y v r m)

pub after_word : {A B On : Type 0} {p r : Reader A} {c d : A → Reader B} {L M : Lang Placed A} {F G : A → Lang Placed B} {K : A → Placed → Bool} {J : B → Placed → Bool} (w : QueryWord) → is_left_out w ≡ false
    → ((a : A) (t : Placed) → kind t ≡ KWord w → K a t ≡ false) → Good On p r L M K → ((a : A) → Good On (c a) (d a) (F a) (G a) J)
    → Good On (then p (λ a. ahead (is_word w) (c a))) (then r (λ a. ahead (is_word w) (d a))) (Chained L (λ a. Ahead (KWord w) (F a))) (Chained M (λ a. Ahead (KWord w) (G a))) J
after_word {A} {B} {On} {p} {r} {c} {d} {L} {M} {F} {G} {K} {J} w n bar h go =
    then_good h (λ a. ahead_word w n (go a)) (λ a y v r m e. ahead_clear (KWord w) (K a) (F a) (bar a) y v r m) (λ a y v r m e. ahead_clear (KWord w) (K a) (G a) (bar a) y v r m)

-- ---- names and literals

abbrev pub no_text : {A : Type 0} → Lang Placed A
no_text x w = ⊥

pub nothing : {A : Type 0} → NoText {T = Placed} {A = A} no_text
nothing x w h = h

abbrev pub a_name : Named
a_name = named (123 ∷ []) 0

-- no word is written so
abbrev pub name_token : Placed
name_token = word_token (123 ∷ [])

pub name_token_is : kind name_token ≡ KName (123 ∷ [])
unfolding query_word_named query_words is_among
name_token_is = refl

abbrev pub VariableRest : Kind → ℕ → Lang Placed Named
VariableRest (KName x) at = Nothing (named x at)
VariableRest _ at = no_text

abbrev pub Variable : Lang Placed Named
Variable = Led (λ t. VariableRest (kind t) t.at)

variable_each : (On : Type 0) (k : Kind) (at : ℕ) → MoveGood On (variable_move k at) (variable_move k at) (VariableRest k at) (VariableRest k at) never
variable_each On (KName x) at = done_good On (named x at)
variable_each On _ at = (nothing, nothing)

variable_some : Inhabited Variable
variable_some = record { tree = a_name; text = name_token ∷ []; spells = subst (λ k. VariableRest k 0 a_name []) (sym name_token_is) (refl, tt) }

pub variable_good : (On : Type 0) → Good On variable variable Variable Variable never
variable_good On = eat_good (λ t. variable_move (kind t) t.at) (λ t. variable_move (kind t) t.at) (λ t. VariableRest (kind t) t.at) (λ t. VariableRest (kind t) t.at) never (λ t. variable_each On (kind t) t.at) variable_some variable_some

abbrev pub LiteralRest : Option LitTree → ℕ → Lang Placed (LitTree × ℕ)
LiteralRest (Some l) at = Nothing (l, at)
LiteralRest None at = no_text

abbrev pub Literal : Lang Placed (LitTree × ℕ)
Literal = Led (λ t. LiteralRest (literal_of (kind t)) t.at)

literal_each : (On : Type 0) (o : Option LitTree) (at : ℕ) → MoveGood On (literal_move o at) (literal_move o at) (LiteralRest o at) (LiteralRest o at) never
literal_each On (Some l) at = done_good On (l, at)
literal_each On None at = (nothing, nothing)

pub literal_some : Inhabited Literal
literal_some = record { tree = (LitBool true, 0); text = word_token (query_word_spelling q.True) ∷ []; spells = subst (λ k. LiteralRest (literal_of k) 0 (LitBool true, 0) []) (sym (word_is q.True refl)) (refl, tt) }

pub literal_good : (On : Type 0) → Good On literal literal Literal Literal never
literal_good On = eat_good (λ t. literal_move (literal_of (kind t)) t.at) (λ t. literal_move (literal_of (kind t)) t.at) (λ t. LiteralRest (literal_of (kind t)) t.at) (λ t. LiteralRest (literal_of (kind t)) t.at) never
    (λ t. literal_each On (literal_of (kind t)) t.at) literal_some literal_some

-- ---- what is read behind a first token goes on

pub weaker : {A On Off : Type 0} {p r : Reader A} {L M : Lang Placed A} {K : A → Placed → Bool} → (Off → On) → Good On p r L M K → Good Off p r L M K
weaker f h = record { low = h.low; high = h.high; wider = λ on. h.wider (f on) }

pub led_good : {A B : Type 0} (On : Type 0) (m m' : Move Placed A) (F G : Lang Placed A) (K : A → Placed → Bool) (g g' : Reader A → Reader B) (X Y : Lang Placed A → Lang Placed B) (J : B → Placed → Bool)
    → ((Off : Type 0) → (Off → On) → (p r : Reader A) (P R : Lang Placed A) → Good Off p r P R K → Good Off (g p) (g' r) (X P) (Y R) J)
    → ((P : Lang Placed A) → NoText P → NoText (X P)) → ((P : Lang Placed A) → NoText P → NoText (Y P)) → MoveGood On m m' F G K → MoveGood On (led g m) (led g' m') (X F) (Y G) J
led_good On Stray Stray F G K g g' X Y J go nx ny h = (nx F h.0, ny G h.1)
led_good On Deep Deep F G K g g' X Y J go nx ny h = (nx F h.0, ny G h.1, h.2)
led_good On Deep (Goes r) F G K g g' X Y J go nx ny h = (nx F h.0, (go ⊥ (λ off. absurd off) r r G G (record { low = h.1; high = h.1; wider = λ off. absurd off })).high)
led_good On (Goes p) (Goes r) F G K g g' X Y J go nx ny h = go On (λ on. on) p r F G h
led_good On _ _ F G K g g' X Y J go nx ny h = absurd h
