-- What has been found for the variables of a rule, and its substitution.
use Rattle.std.specs.Prelude.{◌≡◌, ℕ, true, List, [], ◌∷◌, Option, Some, None}
use Rattle.kola_values.specs.Types.{TypeTree, TUnit}
use Rattle.kola_values.specs.Databases.{look_up}
use Rattle.kola_term.specs.Terms.{FunTree, FId, PredTree, PEq, ConstTree, CBool, TermTree, TermF, TermP, TermC}
use Rattle.kola_match.specs.Substitutions.{Substitution}

abbrev pub Found : Type 0 → Type 0
Found A = List (List ℕ × A)

-- types for type variables, and terms for variables of each kind
pub record Binds : Type 0 where
  pub types : Found TypeTree
  pub funs : Found FunTree
  pub preds : Found PredTree
  pub consts : Found ConstTree

-- s gives each name what was found for it
abbrev pub GivesFound : {A : Type 0} → (List ℕ → A) → Found A → Type 0
GivesFound s b = (n : List ℕ) (a : _) → look_up n b ≡ Some a → s n ≡ a

abbrev pub Extends : Substitution → Binds → Type 0
Extends s b = GivesFound s.types b.types × GivesFound s.funs b.funs × GivesFound s.preds b.preds × GivesFound s.consts b.consts

abbrev pub or_else : {A : Type 0} → A → Option A → A
or_else d (Some a) = a
or_else d None = d

-- the substitution of what was found; a name of which nothing was found has some term
abbrev pub substitution_of : Binds → Substitution
substitution_of b = record {
  types = λ n. or_else TUnit (look_up n b.types);
  funs = λ n. or_else FId (look_up n b.funs);
  preds = λ n. or_else PEq (look_up n b.preds);
  consts = λ n. or_else (CBool true) (look_up n b.consts);
}

-- ---- terms found for variables, newest last, by their kinds

abbrev pub if_fun : TermTree → List ℕ → Found FunTree → Found FunTree
if_fun (TermF f) n b = (n, f) ∷ b
if_fun _ n b = b

abbrev pub if_pred : TermTree → List ℕ → Found PredTree → Found PredTree
if_pred (TermP p) n b = (n, p) ∷ b
if_pred _ n b = b

abbrev pub if_const : TermTree → List ℕ → Found ConstTree → Found ConstTree
if_const (TermC c) n b = (n, c) ∷ b
if_const _ n b = b

abbrev pub funs_in : Found TermTree → Found FunTree
funs_in [] = []
funs_in (e ∷ es) = if_fun e.1 e.0 (funs_in es)

abbrev pub preds_in : Found TermTree → Found PredTree
preds_in [] = []
preds_in (e ∷ es) = if_pred e.1 e.0 (preds_in es)

abbrev pub consts_in : Found TermTree → Found ConstTree
consts_in [] = []
consts_in (e ∷ es) = if_const e.1 e.0 (consts_in es)

abbrev pub binds : Found TypeTree → Found TermTree → Binds
binds ts es = record { types = ts; funs = funs_in es; preds = preds_in es; consts = consts_in es }
