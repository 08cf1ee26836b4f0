-- Words of grammars: languages, with the values that their texts spell.
use Rattle.std.specs.Prelude.{◌≡◌, ◌⊎◌, ℕ, zero, suc, List, [], ◌∷◌, ◌++◌}
use Rattle.kola_parse.specs.Reader.{Round, Again, Final}

infixr 60 ◌·◌
-- a text of A, and then one of B
pub record ◌·◌ {T : Type 0} (A B : List T → Type 0) (w : List T) : Type 0 where
  pub front : List T
  pub back : List T
  pub split : w ≡ front ++ back
  pub first : A front
  pub second : B back

-- nothing
abbrev pub ends : {T : Type 0} → List T → Type 0
ends [] = Unit {0}
ends (t ∷ w) = ⊥

-- no text
abbrev pub none : {T : Type 0} → List T → Type 0
none w = ⊥

-- nothing, which spells a
abbrev pub Nothing : {T A : Type 0} → A → A → List T → Type 0
Nothing a x w = (x ≡ a) × ends w

-- a text of L, and then one of M at its value
pub record Chained {T A B : Type 0} (L : A → List T → Type 0) (M : A → B → List T → Type 0) (y : B) (w : List T) : Type 0 where
  pub mid : A
  pub front : List T
  pub back : List T
  pub split : w ≡ front ++ back
  pub first : L mid front
  pub second : M mid y back

-- a text of what the value is made of
pub record Made {T A B : Type 0} (f : A → B) (L : A → List T → Type 0) (y : B) (w : List T) : Type 0 where
  pub part : A
  pub is : y ≡ f part
  pub spells : L part w

-- a text of the first, and then one of the second
abbrev pub Paired : {T A B : Type 0} → (A → List T → Type 0) → (A → B → List T → Type 0) → A × B → List T → Type 0
Paired L F x = L x.0 · F x.0 x.1

-- a token, and then a text that the token decides
abbrev pub Led : {T A : Type 0} → (T → A → List T → Type 0) → A → List T → Type 0
Led F x [] = ⊥
Led F x (t ∷ w) = F t x w

-- nothing, which is a, or a token and then a text that the token decides
abbrev pub Maybe : {T A : Type 0} → A → (T → A → List T → Type 0) → A → List T → Type 0
Maybe a F x [] = x ≡ a
Maybe a F x (t ∷ w) = F t x w

-- a token and a text that it decides, or a text of M
abbrev pub Either : {T A : Type 0} → (T → A → List T → Type 0) → (A → List T → Type 0) → A → List T → Type 0
Either F M x w = Led F x w ⊎ M x w

-- at most n links after a, each of which makes a grow
abbrev pub ChainText : {T A L : Type 0} → (A → T → L → List T → Type 0) → (A → L → A) → ℕ → A → A → List T → Type 0
ChainText F grow zero a = Maybe a (λ t x w. ⊥)
ChainText F grow (suc n) a = Maybe a (λ t. Chained (F a t) (λ l. ChainText F grow n (grow a l)))

-- any number of links
abbrev pub ManyText : {T A L : Type 0} → (A → T → L → List T → Type 0) → (A → L → A) → A → A → List T → Type 0
ManyText F grow a x w = (n : ℕ) × ChainText F grow n a x w

-- another round where the value says so
abbrev pub OnRound : {T A B : Type 0} → (A → Round A B → List T → Type 0) → Round A B → Round A B → List T → Type 0
OnRound F (Again a) = F a
OnRound F (Final b) = Nothing (Final b)

-- at most n rounds more than one
abbrev pub FewText : {T A B : Type 0} → (A → Round A B → List T → Type 0) → ℕ → A → Round A B → List T → Type 0
FewText L zero a = L a
FewText L (suc n) a = Chained (L a) (OnRound (FewText L n))

-- rounds, of which the last has the value
abbrev pub RoundsText : {T A B : Type 0} → (A → Round A B → List T → Type 0) → A → B → List T → Type 0
RoundsText L a b w = (n : ℕ) × FewText L n a (Final b) w
