-- The first fault of a text. A is what is accepted, and U what is accepted without limits.
use Rattle.std.specs.Prelude.{◌≡◌, ℕ, List, [], ◌∷◌, ◌++◌}
use Rattle.kola_parse.specs.declared.why.Why.{Why}
use Rattle.kola_parse.specs.declared.why.Why.TheVariants.{Unexpected, TooDeep}
use Rattle.kola_parse.specs.Reader.{Fault}

-- accepted within the limit n
abbrev pub Accepted : {T A : Type 0} → (ℕ → A → List T → Type 0) → ℕ → List T → Type 0
Accepted L n w = (x : _) × L n x w

-- accepted within some limit
abbrev pub Unlimited : {T A : Type 0} → (ℕ → A → List T → Type 0) → List T → Type 0
Unlimited L w = (n : ℕ) × (x : _) × L n x w

-- some accepted text begins with w
abbrev pub Begins : {T : Type 0} → (List T → Type 0) → List T → Type 0
Begins A w = (u : List _) × A (w ++ u)

-- some accepted text begins with w and the first token of the rest; at the end of the text, w is accepted
abbrev pub Through : {T : Type 0} → (List T → Type 0) → List T → List T → Type 0
Through A w [] = A w
Through A w (t ∷ r) = Begins A (w ++ t ∷ [])

-- why: no text goes through the token, or none within the limits
abbrev pub IsCause : {T : Type 0} → (List T → Type 0) → List T → List T → Why → Type 0
IsCause U w r Unexpected = Through U w r → ⊥
IsCause U w r TooDeep = Through U w r

-- the tokens before the fault begin an accepted text, those up to it do not
pub record IsFirstFault {T : Type 0} (A U : List T → Type 0) (ts : List T) (f : Fault T) : Type 0 where
  pub before : List T
  pub split : ts ≡ before ++ f.rest
  pub begins : Begins A before
  pub no_further : Through A before f.rest → ⊥
  pub cause : IsCause U before f.rest f.why
