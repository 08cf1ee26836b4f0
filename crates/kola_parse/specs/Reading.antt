-- What it is for a reader to read a language, and for a second reader to do so within wider limits.
use Rattle.std.specs.Prelude.{◌≡◌, ◌<◌, Bool, false, List, [], ◌∷◌, ◌++◌, length, Ok, Err}
use Rattle.kola_parse.specs.declared.why.Why.{Why}
use Rattle.kola_parse.specs.declared.why.Why.TheVariants.{Unexpected, TooDeep}
use Rattle.kola_parse.specs.Reader.{Fault, fault, Answer}

-- K says which tokens go on a text; what may follow is empty or begins with no such token
abbrev pub Ends : {T : Type 0} → (T → Bool) → List T → Type 0
Ends K [] = Unit {0}
Ends K (t ∷ r) = K t ≡ false

-- no token goes on the text
abbrev pub never : {T A : Type 0} → A → T → Bool
never x t = false

-- a text of the value x was taken from the front of ts, and r is left
pub record Took {T A : Type 0} (L : A → List T → Type 0) (K : A → T → Bool) (ts : List T) (x : A) (r : List T) : Type 0 where
  pub text : List T
  pub split : ts ≡ text ++ r
  pub spells : L x text
  pub ends : Ends (K x) r

-- what stands before r begins a text (a viable prefix)
pub record Begun {T A : Type 0} (L : A → List T → Type 0) (ts : List T) (r : List T) : Type 0 where
  pub text : List T
  pub split : ts ≡ text ++ r
  pub more : List T
  pub tree : A
  pub spells : L tree (text ++ more)

-- some value has a text
pub record Inhabited {T A : Type 0} (L : A → List T → Type 0) : Type 0 where
  pub tree : A
  pub text : List T
  pub spells : L tree text

-- The reader p reads the language L, where K says which tokens go on a text: what it takes is a text of the value that it
-- answers (sound); each text is taken (complete); where it stops, what it took begins a text (viable), and it stops there whatever
-- stands behind the token that it did not take (local).
pub record Reads {T A : Type 0} (p : List T → Answer T A) (L : A → List T → Type 0) (K : A → T → Bool) : Type 0 where
  pub sound : (ts : List T) (x : A) (r : List T) → p ts ≡ Ok (x, r) → Took L K ts x r
  pub complete : (x : A) (w r : List T) → L x w → Ends (K x) r → p (w ++ r) ≡ Ok (x, r)
  pub viable : (ts : List T) (f : Fault T) → p ts ≡ Err f → Begun L ts f.rest
  pub local : (w : List T) (t : T) (r q : List T) (y : Why) → p (w ++ t ∷ r) ≡ Err (fault y (t ∷ r)) → p (w ++ t ∷ q) ≡ Err (fault y (t ∷ q))
  pub some : Inhabited L

-- what an answer leaves of the list
abbrev pub left : {T A : Type 0} → Answer T A → List T
left (Ok x) = x.1
left (Err f) = f.rest

-- z stops there too, or goes on where the other was too deep
abbrev pub WiderAtFault : {T A : Type 0} → Why → List T → Answer T A → Type 0
WiderAtFault Unexpected r z = z ≡ Err (fault Unexpected r)
WiderAtFault TooDeep r z = length (left z) < length r

-- z is the same, but goes on where the other was too deep
abbrev pub Wider : {T A : Type 0} → Answer T A → Answer T A → Type 0
Wider (Ok x) z = z ≡ Ok x
Wider (Err f) z = WiderAtFault f.why f.rest z

-- Both read their languages, and, where On holds, the second has wider limits.
pub record Good {T A : Type 0} (On : Type 0) (p q : List T → Answer T A) (L M : A → List T → Type 0) (K : A → T → Bool) : Type 0 where
  pub low : Reads p L K
  pub high : Reads q M K
  pub wider : On → (ts : List T) → Wider (p ts) (q ts)
