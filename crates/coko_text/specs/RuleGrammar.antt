-- Which tokens spell rules with their proofs: one definition for each line of the grammar. d is how many constructors may stand round a name of a type; terms may be as much deeper as the limits say.
use Rattle.std.specs.Prelude.{◌≡◌, ℕ, Bool, true, false, cond, not, ◌&&◌, List, [], ◌∷◌, Option, Some, None, leb, pos}
use Rattle.kola_base.specs.declared.sign.Sign.TheVariants.{Open, Close, Equal, Comma, Colon, Dot, Arrow}
use Rattle.kola_base.specs.declared.term_word.TermWord.TheVariants as w
use Rattle.kola_parse.specs.Kinds.{leads}
use Rattle.kola_parse.specs.Listed.{Listed}
use Rattle.kola_parse.specs.Texts.{◌·◌, ends, none}
use Rattle.kola_values.specs.Types.{TypeTree, TInt, TStr, TBool, TUnit, TClass, TVar, TSet, TPair, TStruct}
use Rattle.kola_term.specs.Terms.{TermTree}
use Rattle.kola_term.specs.Typing.{MetaTree, MFun, MPred, MConst, Context}
use Rattle.kola_rule.specs.Rules.{StepTree, DraftTree}
use Rattle.kola_text.specs.Alphabet.{Kind, KSign, KWord, KName, KNumber}
use Rattle.kola_text.specs.Grammar.{Text, kind, ◌▸◌, inside, NameText, SideText}
use Rattle.coko_text.specs.Limits.{term_levels}

-- a name that is no word of terms or rules
abbrev pub AnyName : List ℕ → Text
AnyName n = KName n ▸ ends

-- ---- types

-- whether the first letter of a name is a capital one
abbrev pub is_capital : List ℕ → Bool
is_capital [] = false
is_capital (b ∷ bs) = leb 65 b && leb b 90

abbrev pub is_small : List ℕ → Bool
is_small n = not (is_capital n)

-- A name that begins with a capital letter is a class, and any other is a type variable.
abbrev pub TypeText : TypeTree → ℕ → Text
TypeText TInt d = KWord w.Int ▸ ends
TypeText TStr d = KWord w.String ▸ ends
TypeText TBool d = KWord w.Bool ▸ ends
TypeText TUnit d = KWord w.Unit ▸ ends
TypeText (TClass n) d = NameText is_capital n
TypeText (TVar n) d = NameText is_small n
TypeText (TSet t) d = inside d (λ d. KWord w.Set ▸ TypeText t d)
TypeText (TPair t u) d = inside d (λ d. KSign Open ▸ (TypeText t d · KSign Comma ▸ (TypeText u d · KSign Close ▸ ends)))
TypeText (TStruct fs) d = none

-- ---- variables

abbrev pub MetaText : ℕ → MetaTree → Text
MetaText d (MPred t) = KWord w.Pred ▸ TypeText t d
MetaText d (MConst t) = TypeText t d
MetaText d (MFun t u) = TypeText t d · KSign Arrow ▸ TypeText u d

abbrev pub VarText : ℕ → List ℕ × MetaTree → Text
VarText d v = AnyName v.0 · KSign Colon ▸ MetaText d v.1

-- the variables, parted by commas, up to the parenthesis
abbrev pub VarsText : ℕ → Context → Text
VarsText d [] = KSign Close ▸ ends
VarsText d (v ∷ vs) = VarText d v · Listed (λ v. KSign Comma ▸ VarText d v) (KSign Close ▸ ends) vs

-- ---- conditions

abbrev pub InjText : List ℕ → Text
InjText n = KWord w.Inj ▸ KSign Open ▸ (AnyName n · KSign Close ▸ ends)

-- the conditions, up to the colon
abbrev pub WhenText : List (List ℕ) → Text
WhenText [] = KSign Colon ▸ ends
WhenText (n ∷ ns) = KWord w.When ▸ (InjText n · Listed (λ n. KSign Comma ▸ InjText n) (KSign Colon ▸ ends) ns)

-- ---- paths

-- the number of a child
abbrev pub is_child : ℕ → Bool
is_child n = leb 1 n && leb n 3

-- the child that a token says
abbrev pub child_of : Kind → Option ℕ
child_of (KNumber (pos n)) = cond (is_child n) (Some n) None
child_of _ = None

abbrev pub ChildText : ℕ → Text
ChildText n = leads (λ t. child_of (kind t) ≡ Some n) ends

abbrev pub PathText : List ℕ → Text
PathText [] = KWord w.Here ▸ ends
PathText (n ∷ ns) = ChildText n · Listed (λ n. KSign Dot ▸ ChildText n) ends ns

-- ---- steps

-- the rule that a step takes, from right to left where it is reversed
abbrev pub LawText : Bool → List ℕ → Text
LawText true n = KWord w.Rev ▸ AnyName n
LawText false n = AnyName n

-- a step over the variables c, in which terms have e levels below
abbrev pub StepText : Context → ℕ → StepTree → Text
StepText c e s = KSign Equal ▸ (SideText c s.term e · KWord w.By ▸ (LawText s.rev s.law · KWord w.At ▸ PathText s.path))

-- the steps, up to the word behind them
abbrev pub StepsText : Context → ℕ → List StepTree → Text
StepsText c e = Listed (StepText c e) (KWord w.Qed ▸ ends)

-- ---- rules

-- what stands before the sides of a rule
pub record HeadTree : Type 0 where
  pub name : List ℕ
  pub vars : Context
  pub input : TypeTree
  pub when : List (List ℕ)

-- the sides of a rule and the first term of its proof
pub record SidesTree : Type 0 where
  pub left : TermTree
  pub right : TermTree
  pub first : TermTree

abbrev pub draft_of : HeadTree → SidesTree → List StepTree → DraftTree
draft_of h s ss = record { rule = record { name = h.name; vars = h.vars; input = h.input; when = h.when; left = s.left; right = s.right }; first = s.first; steps = ss }

abbrev pub HeadText : ℕ → HeadTree → Text
HeadText d h = AnyName h.name · KSign Open ▸ (VarsText d h.vars · KWord w.At ▸ (TypeText h.input d · WhenText h.when))

abbrev pub SidesText : Context → ℕ → SidesTree → Text
SidesText c e s = SideText c s.left e · KSign Equal ▸ (SideText c s.right e · KWord w.Proof ▸ SideText c s.first e)

-- the head of a draft, and its sides with the first term
abbrev pub head_of : DraftTree → HeadTree
head_of r = record { name = r.rule.name; vars = r.rule.vars; input = r.rule.input; when = r.rule.when }

abbrev pub sides_of : DraftTree → SidesTree
sides_of r = record { left = r.rule.left; right = r.rule.right; first = r.first }

-- The names of variables are those of the rule's own head. Of two variables of one name the first counts.
abbrev pub DraftText : ℕ → DraftTree → Text
DraftText d r = KWord w.Rule ▸ (HeadText d (head_of r) · (SidesText r.rule.vars (term_levels d) (sides_of r) · StepsText r.rule.vars (term_levels d) r.steps))

-- ---- files

abbrev pub FileText : ℕ → List DraftTree → Text
FileText d = Listed (DraftText d) ends
