-- Exactly one answer comes of a line of stages where exactly one comes of each.
use Rattle.std.proofs.Common.{◌≡◌, ◌⊎◌, ℕ, List, inl, inr, subst}
use Rattle.kola_top.specs.declared.status.Status.{Status}
use Rattle.kola_top.specs.Staged.{Says, Stage, Then, refused, onward}

-- at most one answer is said
abbrev pub One : Says → Type 0
One A = (s t : Status) (b c : List ℕ) → A s b → A t c → (s ≡ t) × (b ≡ c)

-- some answer is said, to a claim of the type
abbrev pub Some : Type 0 → Says → Type 0
Some Z A = ((s : Status) (b : List ℕ) → A s b → Z) → Z

-- a stage refuses in at most one way, or accepts one thing
pub record IsOne {F R : Type 0} (g : Stage F R) : Type 0 where
  pub one_refusal : (e f : F) → g.refuses e → g.refuses f → (g.status e ≡ g.status f) × (g.bytes e ≡ g.bytes f)
  pub one_thing : (x y : R) → g.accepts x → g.accepts y → x ≡ y
  pub not_both : (e : F) (x : R) → g.refuses e → g.accepts x → ⊥

-- a stage refuses or accepts, to a claim of the type
abbrev pub Goes : {F R : Type 0} → Type 0 → Stage F R → Type 0
Goes {F = F} {R = R} Z g = ((e : F) → g.refuses e → Z) → ((x : R) → g.accepts x → Z) → Z

-- a stage refuses or accepts
abbrev pub Decides : {F R : Type 0} → Stage F R → Type 0
Decides {F = F} {R = R} g = ((e : F) × g.refuses e) ⊎ ((x : R) × g.accepts x)

pub goes_on : {F R : Type 0} (Z : Type 0) (g : Stage F R) → Decides g → Goes Z g
goes_on Z g (inl h) stop on = stop h.0 h.1
goes_on Z g (inr h) stop on = on h.0 h.1

pub one_then : {F R : Type 0} (g : Stage F R) (rest : R → Says) → IsOne g → ((x : R) → g.accepts x → One (rest x)) → One (Then g rest)
one_then g rest h each _ _ _ _ (refused e p) (refused f q) = h.one_refusal e f p q
one_then g rest h each _ _ _ _ (refused e p) (onward x t c q k) = absurd (h.not_both e x p q)
one_then g rest h each _ _ _ _ (onward x s b p k) (refused f q) = absurd (h.not_both f x q p)
one_then g rest h each _ _ _ _ (onward x s b p k) (onward y t c q l) = each y q s t b c (subst (λ z. rest z s b) (h.one_thing x y p q) k) l

pub some_then : {F R : Type 0} (Z : Type 0) (g : Stage F R) (rest : R → Says) → Goes Z g → ((x : R) → g.accepts x → Some Z (rest x)) → Some Z (Then g rest)
some_then Z g rest h each say = h (λ e p. say (g.status e) (g.bytes e) (refused e p)) (λ x p. each x p (λ s b k. say s b (onward x s b p k)))
