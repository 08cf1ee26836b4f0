-- What the moves of a reader at a token read.
use Rattle.std.specs.Prelude.{◌≡◌, ◌⊎◌, Bool, true, false, List, [], ◌∷◌, Ok}
use Rattle.kola_parse.specs.Reader.{Answer, Move, Stray, Deep, Goes}
use Rattle.kola_parse.specs.Reading.{Reads, Good}

-- the language is empty
abbrev pub NoText : {T A : Type 0} → (A → List T → Type 0) → Type 0
NoText {T} {A} F = (x : A) (w : List T) → F x w → ⊥

-- what a move does is read F
abbrev pub MoveReads : {T A : Type 0} → Move T A → (A → List T → Type 0) → (A → T → Bool) → Type 0
MoveReads Stray F K = NoText F
MoveReads Deep F K = NoText F
MoveReads (Goes p) F K = Reads p F K

-- what a move does, where k says whether it is one
abbrev pub MayReads : {T A : Type 0} → Move T A → (A → List T → Type 0) → (A → T → Bool) → Bool → Type 0
MayReads Stray F K k = NoText F × (k ≡ false)
MayReads Deep F K k = NoText F × (k ≡ true)
MayReads (Goes p) F K k = Reads p F K × (k ≡ true)

-- what two moves do
abbrev pub MoveGood : {T A : Type 0} → Type 0 → Move T A → Move T A → (A → List T → Type 0) → (A → List T → Type 0) → (A → T → Bool) → Type 0
MoveGood On Stray Stray F G K = NoText F × NoText G
MoveGood On Stray Deep F G K = ⊥
MoveGood On Stray (Goes q) F G K = ⊥
MoveGood On Deep Stray F G K = ⊥
MoveGood On Deep Deep F G K = NoText F × NoText G × (On → ⊥)
MoveGood On Deep (Goes q) F G K = NoText F × Reads q G K
MoveGood On (Goes p) Stray F G K = ⊥
MoveGood On (Goes p) Deep F G K = ⊥
MoveGood On (Goes p) (Goes q) F G K = Good On p q F G K

-- what two moves do, where k says whether the first is one
abbrev pub MayGood : {T A : Type 0} → Type 0 → Move T A → Move T A → (A → List T → Type 0) → (A → List T → Type 0) → (A → T → Bool) → Bool → Type 0
MayGood On Stray Stray F G K k = NoText F × NoText G × (k ≡ false)
MayGood On Stray Deep F G K k = ⊥
MayGood On Stray (Goes q) F G K k = ⊥
MayGood On Deep Stray F G K k = ⊥
MayGood On Deep Deep F G K k = NoText F × NoText G × (k ≡ true) × (On → ⊥)
MayGood On Deep (Goes q) F G K k = NoText F × Reads q G K × (k ≡ true)
MayGood On (Goes p) Stray F G K k = ⊥
MayGood On (Goes p) Deep F G K k = ⊥
MayGood On (Goes p) (Goes q) F G K k = Good On p q F G K × (k ≡ true)

-- What a move reads as a link of a chain, where j says whether the token goes on what was read, and k whether it goes on the whole.
abbrev pub LinkReads : {T L : Type 0} → Move T L → (L → List T → Type 0) → (L → T → Bool) → Bool → Bool → Type 0
LinkReads Stray F J j k = NoText F × (k ≡ j)
LinkReads Deep F J j k = ⊥
LinkReads (Goes p) F J j k = Reads p F J × (k ≡ true) × (j ≡ false)

-- what two moves read as links
abbrev pub LinkGood : {T L : Type 0} → Type 0 → Move T L → Move T L → (L → List T → Type 0) → (L → List T → Type 0) → (L → T → Bool) → Bool → Bool → Type 0
LinkGood On Stray Stray F G J j k = NoText F × NoText G × (k ≡ j)
LinkGood On (Goes p) (Goes q) F G J j k = Good On p q F G J × (k ≡ true) × (j ≡ false)
LinkGood On _ _ F G J j k = ⊥

-- q reads nothing that begins with a token that f takes
abbrev pub Apart : {T A : Type 0} → (T → Move T A) → (List T → Answer T A) → Type 0
Apart f q = (t : _) → (f t ≡ Stray) ⊎ ((ts : List _) (x : _ × List _) → q (t ∷ ts) ≡ Ok x → ⊥)

-- q does not read the empty list
abbrev pub Needs : {T A : Type 0} → (List T → Answer T A) → Type 0
Needs q = (x : _ × List _) → q [] ≡ Ok x → ⊥
