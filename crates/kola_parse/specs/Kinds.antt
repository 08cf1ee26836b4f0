-- Readers that go by what a token is, and by how many levels are left.
use Rattle.std.specs.Prelude.{ℕ, zero, suc, Bool, true, false, List, [], ◌∷◌, Option, Some, None}
use Rattle.kola_parse.specs.Reader.{Answer, Move, Stray, Deep, Goes, then, eat, done}

-- texts, with the values that they spell
abbrev pub Lang : Type 0 → Type 0 → Type 1
Lang T A = A → List T → Type 0

-- a token that P says, and then a text of A
abbrev pub leads : {T : Type 0} → (T → Type 0) → (List T → Type 0) → List T → Type 0
leads P A [] = ⊥
leads P A (t ∷ w) = P t × A w

-- ---- one token

abbrev pub when : {T A : Type 0} → Bool → (List T → Answer T A) → Move T A
when true p = Goes p
when false p = Stray

-- a token that passes the test
abbrev pub expect : {T : Type 0} → (T → Bool) → List T → Answer T (Unit {0})
expect passes = eat (λ t. when (passes t) (done tt))

-- a token that passes the test, and then what p reads
abbrev pub ahead : {T A : Type 0} → (T → Bool) → (List T → Answer T A) → List T → Answer T A
ahead passes p = then (expect passes) (λ _. p)

-- what p reads, and then a token that passes the test
abbrev pub behind : {T A : Type 0} → (List T → Answer T A) → (T → Bool) → List T → Answer T A
behind p passes = then p (λ a. then (expect passes) (λ _. done a))

-- ---- levels

-- what is read one level below with the readers there, where there is a level
abbrev pub deeper : {T A I : Type 0} → Option I → (I → List T → Answer T A) → Move T A
deeper None p = Deep
deeper (Some i) p = Goes (p i)

-- the texts one level below, where there is a level
abbrev pub Deeper : {T A : Type 0} → ℕ → (ℕ → A → List T → Type 0) → A → List T → Type 0
Deeper zero F x w = ⊥
Deeper (suc d) F x w = F d x w
