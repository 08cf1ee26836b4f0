-- Readers that one token decides, and lists of what such tokens lead.
use Rattle.std.specs.Prelude.{◌≡◌, Bool, true, false, List, [], ◌∷◌, ◌++◌, Option, Some, None}
use Rattle.kola_base.specs.Placed.{Placed}
use Rattle.kola_parse.specs.Kinds.{when}
use Rattle.kola_parse.specs.Reader.{Answer, Move, may, other, made, many}

abbrev pub Reader : Type 0 → Type 0
Reader A = List Placed → Answer Placed A

-- ---- a token that decides

-- what p reads, behind a token that passes the test; else it is stray
abbrev pub led : {A : Type 0} → (Placed → Bool) → Reader A → Placed → Move Placed A
led passes p t = when (passes t) p

-- what p reads behind such a token, and else what q reads
abbrev pub led_or : {A : Type 0} → (Placed → Bool) → Reader A → Reader A → Reader A
led_or passes p q = other (led passes p) q

-- what p reads behind such a token, and else nothing, which is a
abbrev pub led_or_done : {A : Type 0} → (Placed → Bool) → Reader A → A → Reader A
led_or_done passes p a = may a (led passes p)

-- ---- lists of what such tokens lead

abbrev pub grow : {A : Type 0} → List A → A → List A
grow xs x = xs ++ x ∷ []

-- the items that f begins, behind those
abbrev pub items_from : {A : Type 0} → (Placed → Move Placed A) → List A → Reader (List A)
items_from f = many (λ _ t. f t) grow

abbrev pub items_at : {A : Type 0} → (Placed → Move Placed A) → Reader (List A)
items_at f = items_from f []

-- one more item, or none, which takes nothing
abbrev pub next_at : {A : Type 0} → (Placed → Bool) → Reader A → Reader (Option A)
next_at passes p = led_or_done passes (made Some p) None

-- what the code finds: what is left behind a token that passes the test, or that no such token is first
abbrev pub Takes : (Placed → Bool) → List Placed → Option (List Placed) → Type 0
Takes passes ts (Some r) = (t : Placed) × (ts ≡ t ∷ r) × (passes t ≡ true)
Takes passes [] None = Unit {0}
Takes passes (t ∷ ts) None = passes t ≡ false
