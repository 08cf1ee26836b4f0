-- Reading rules from left to right: what is read by the kind of the first token.
use Rattle.std.specs.Prelude.{ℕ, Bool, true, false, cond, List, [], ◌∷◌, Option, Some, None}
use Rattle.kola_base.specs.Placed.{Placed}
use Rattle.kola_base.specs.Alphabets.{sign, word}
use Rattle.kola_base.specs.TermWords.{term_word_spelling}
use Rattle.kola_base.specs.declared.sign.Sign.TheVariants.{Open, Close, Equal, Comma, Colon, Dot, Arrow}
use Rattle.kola_base.specs.declared.term_word.TermWord.{TermWord}
use Rattle.kola_base.specs.declared.term_word.TermWord.TheVariants as w
use Rattle.kola_parse.specs.Kinds.{ahead, behind, deeper}
use Rattle.kola_parse.specs.Levels.{below}
use Rattle.kola_parse.specs.Reader.{then, Move, Stray, Goes, eat, done, pair, made}
use Rattle.kola_values.specs.Types.{TypeTree, TInt, TStr, TBool, TUnit, TClass, TVar, TSet, TPair}
use Rattle.kola_term.specs.Terms.{TermTree}
use Rattle.kola_term.specs.Typing.{MetaTree, MFun, MPred, MConst, Context}
use Rattle.kola_rule.specs.Rules.{StepTree, DraftTree}
use Rattle.kola_text.specs.Alphabet.{Kind, KSign, KWord, KName}
use Rattle.kola_text.specs.Grammar.{kind}
use Rattle.kola_text.specs.TermReaders.{Reader, side_at}
use Rattle.coko_text.specs.Limits.{term_levels}
use Rattle.coko_text.specs.LedReaders.{led, led_or, led_or_done, items_at}
use Rattle.coko_text.specs.RuleGrammar.{is_capital, child_of, HeadTree, SidesTree, draft_of}

-- a token of the word
abbrev pub is_word : TermWord → Placed → Bool
is_word v = word (term_word_spelling v)

-- ---- names

abbrev pub name_move : Kind → Move Placed (List ℕ)
name_move (KName n) = Goes (done n)
name_move _ = Stray

abbrev pub name_at : Reader (List ℕ)
name_at = eat (λ t. name_move (kind t))

-- ---- types

abbrev pub named_type : List ℕ → TypeTree
named_type n = cond (is_capital n) (TClass n) (TVar n)

-- the type that a token is alone
abbrev pub leaf_of : Kind → Option TypeTree
leaf_of (KWord w.Int) = Some TInt
leaf_of (KWord w.String) = Some TStr
leaf_of (KWord w.Bool) = Some TBool
leaf_of (KWord w.Unit) = Some TUnit
leaf_of (KName n) = Some (named_type n)
leaf_of _ = None

abbrev pub leaf_move : Option TypeTree → Move Placed TypeTree
leaf_move (Some t) = Goes (done t)
leaf_move None = Stray

-- the two types of a pair, up to the parenthesis
abbrev pub two_types : Reader TypeTree → Reader (TypeTree × TypeTree)
two_types i = pair i (λ _. ahead (sign Comma) (behind i (sign Close)))

abbrev pub pair_type : TypeTree × TypeTree → TypeTree
pair_type x = TPair x.0 x.1

abbrev pub type_move : Option (Reader TypeTree) → Kind → Move Placed TypeTree
type_move o (KWord w.Set) = deeper o (made TSet)
type_move o (KSign Open) = deeper o (λ i. made pair_type (two_types i))
type_move o k = leaf_move (leaf_of k)

abbrev pub type_step : Option (Reader TypeTree) → Reader TypeTree
type_step o = eat (λ t. type_move o (kind t))

-- a type in which d constructors may stand round a name
abbrev pub type_at : ℕ → Reader TypeTree
type_at d = type_step (below type_step d)

-- ---- variables

-- behind a type: an arrow and another, or none
abbrev pub arrow_at : ℕ → TypeTree → Reader MetaTree
arrow_at d t = led_or_done (sign Arrow) (made (MFun t) (type_at d)) (MConst t)

abbrev pub meta_at : ℕ → Reader MetaTree
meta_at d = led_or (is_word w.Pred) (made MPred (type_at d)) (then (type_at d) (arrow_at d))

abbrev pub var_at : ℕ → Reader (List ℕ × MetaTree)
var_at d = pair name_at (λ _. ahead (sign Colon) (meta_at d))

abbrev pub first_and : {A : Type 0} → A × List A → List A
first_and x = x.0 ∷ x.1

abbrev pub more_vars_at : ℕ → Reader Context
more_vars_at d = behind (items_at (led (sign Comma) (var_at d))) (sign Close)

-- the variables, up to the parenthesis
abbrev pub vars_at : ℕ → Reader Context
vars_at d = led_or (sign Close) (done []) (made first_and (pair (var_at d) (λ _. more_vars_at d)))

-- ---- conditions

abbrev pub inj_at : Reader (List ℕ)
inj_at = ahead (is_word w.Inj) (ahead (sign Open) (behind name_at (sign Close)))

abbrev pub more_injs_at : Reader (List (List ℕ))
more_injs_at = behind (items_at (led (sign Comma) inj_at)) (sign Colon)

-- the conditions, up to the colon
abbrev pub when_at : Reader (List (List ℕ))
when_at = led_or (is_word w.When) (made first_and (pair inj_at (λ _. more_injs_at))) (ahead (sign Colon) (done []))

-- ---- paths

abbrev pub child_move : Option ℕ → Move Placed ℕ
child_move (Some n) = Goes (done n)
child_move None = Stray

abbrev pub child_at : Reader ℕ
child_at = eat (λ t. child_move (child_of (kind t)))

abbrev pub path_at : Reader (List ℕ)
path_at = led_or (is_word w.Here) (done []) (made first_and (pair child_at (λ _. items_at (led (sign Dot) child_at))))

-- ---- steps

abbrev pub directed : Bool → List ℕ → Bool × List ℕ
directed b n = (b, n)

abbrev pub law_at : Reader (Bool × List ℕ)
law_at = led_or (is_word w.Rev) (made (directed true) name_at) (made (directed false) name_at)

abbrev pub step_of : TermTree × ((Bool × List ℕ) × List ℕ) → StepTree
step_of x = record { term = x.0; law = x.1.0.1; rev = x.1.0.0; path = x.1.1 }

-- a step behind its sign
abbrev pub step_at : Context → ℕ → Reader StepTree
step_at c e = made step_of (pair (side_at c e) (λ _. ahead (is_word w.By) (pair law_at (λ _. ahead (is_word w.At) path_at))))

-- the steps, up to the word behind them
abbrev pub steps_at : Context → ℕ → Reader (List StepTree)
steps_at c e = behind (items_at (led (sign Equal) (step_at c e))) (is_word w.Qed)

-- ---- rules

abbrev pub head_made : List ℕ × (Context × (TypeTree × List (List ℕ))) → HeadTree
head_made x = record { name = x.0; vars = x.1.0; input = x.1.1.0; when = x.1.1.1 }

abbrev pub head_at : ℕ → Reader HeadTree
head_at d = made head_made (pair name_at (λ _. ahead (sign Open) (pair (vars_at d) (λ _. ahead (is_word w.At) (pair (type_at d) (λ _. when_at))))))

abbrev pub sides_made : TermTree × (TermTree × TermTree) → SidesTree
sides_made x = record { left = x.0; right = x.1.0; first = x.1.1 }

abbrev pub sides_at : Context → ℕ → Reader SidesTree
sides_at c e = made sides_made (pair (side_at c e) (λ _. ahead (sign Equal) (pair (side_at c e) (λ _. ahead (is_word w.Proof) (side_at c e)))))

abbrev pub draft_with : HeadTree → SidesTree × List StepTree → DraftTree
draft_with h x = draft_of h x.0 x.1

-- what stands behind the head of a rule
abbrev pub body_at : HeadTree → ℕ → Reader DraftTree
body_at h e = made (draft_with h) (pair (sides_at h.vars e) (λ _. steps_at h.vars e))

-- a rule with its proof, behind its word
abbrev pub draft_at : ℕ → Reader DraftTree
draft_at d = then (head_at d) (λ h. body_at h (term_levels d))

abbrev pub file_at : ℕ → Reader (List DraftTree)
file_at d = items_at (led (is_word w.Rule) (draft_at d))
