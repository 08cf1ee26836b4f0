-- First faults of a small language: ones and then a two, in which at most d ones may stand.
use Rattle.std.proofs.Common.{◌≡◌, ◌⊎◌, inl, inr, ℕ, zero, suc, List, [], ◌∷◌, ◌++◌, refl}
use Rattle.kola_parse.specs.declared.why.Why.TheVariants.{Unexpected, TooDeep}
use Rattle.kola_parse.specs.Reader.{fault}
use Rattle.kola_parse.specs.Texts.{ends}
use Rattle.kola_parse.specs.Faults.{Accepted, Unlimited, Begins, Through, IsFirstFault}

abbrev Ones : ℕ → Unit {0} → List ℕ → Type 0
Ones d x [] = ⊥
Ones zero x (t ∷ w) = (t ≡ 2) × ends w
Ones (suc d) x (t ∷ w) = ((t ≡ 2) × ends w) ⊎ ((t ≡ 1) × Ones d x w)

-- two ones and a two, where one may stand: too deep at the second, as there is a text without the limit
too_deep : IsFirstFault (Accepted Ones 1) (Unlimited Ones) (1 ∷ 1 ∷ 2 ∷ []) (fault TooDeep (1 ∷ 2 ∷ []))
too_deep = record {
  before = 1 ∷ [];
  split = refl;
  begins = (2 ∷ [], (tt, inr (refl, (refl, tt))));
  no_further = further;
  cause = (2 ∷ [], (2, tt, inr (refl, inr (refl, (refl, tt)))));
}
  where
    further : Through (Accepted Ones 1) (1 ∷ []) (1 ∷ 2 ∷ []) → ⊥
    further (u, (x, inl h)) = absurd (let e = h.0 in cc)
    further (u, (x, inr h)) = absurd (let e = h.1.0 in cc)

-- a three goes on no text
stray : IsFirstFault (Accepted Ones 1) (Unlimited Ones) (3 ∷ []) (fault Unexpected (3 ∷ []))
stray = record {
  before = [];
  split = refl;
  begins = (2 ∷ [], (tt, inl (refl, tt)));
  no_further = further;
  cause = cause;
}
  where
    further : Through (Accepted Ones 1) [] (3 ∷ []) → ⊥
    further (u, (x, inl h)) = absurd (let e = h.0 in cc)
    further (u, (x, inr h)) = absurd (let e = h.0 in cc)

    cause : Through (Unlimited Ones) [] (3 ∷ []) → ⊥
    cause (u, (zero, x, h)) = absurd (let e = h.0 in cc)
    cause (u, (suc n, x, inl h)) = absurd (let e = h.0 in cc)
    cause (u, (suc n, x, inr h)) = absurd (let e = h.0 in cc)

-- a text that ends too soon is at fault at its end
cut_short : IsFirstFault (Accepted Ones 1) (Unlimited Ones) (1 ∷ []) (fault Unexpected [])
cut_short = record {
  before = 1 ∷ [];
  split = refl;
  begins = (2 ∷ [], (tt, inr (refl, (refl, tt))));
  no_further = further;
  cause = cause;
}
  where
    further : Through (Accepted Ones 1) (1 ∷ []) [] → ⊥
    further (x, inl h) = absurd (let e = h.0 in cc)
    further (x, inr h) = h.1

    cause : Through (Unlimited Ones) (1 ∷ []) [] → ⊥
    cause (zero, x, h) = absurd (let e = h.0 in cc)
    cause (suc n, x, inl h) = absurd (let e = h.0 in cc)
    cause (suc n, x, inr h) = h.1
