-- What a search for a part of a term says.
use Rattle.std.specs.Prelude.{◌≡◌, ℕ, Bool, true, false, List, ◌∷◌, ◌++◌, Some}
use Rattle.kola_term.specs.Terms.{TermTree}
use Rattle.kola_term.specs.Places.{sub_at}

-- the path has grown by one at which v stands in t; or it stays, and v stands nowhere in t
abbrev pub Leads : Bool → TermTree → TermTree → List ℕ → List ℕ → Type 0
Leads true t v old new = (q : List ℕ) × (new ≡ old ++ q) × (sub_at t q ≡ Some v)
Leads false t v old new = (new ≡ old) × ((q : List ℕ) → sub_at t q ≡ Some v → ⊥)

-- the same for a child with the number n
abbrev pub LeadsBy : ℕ → Bool → TermTree → TermTree → List ℕ → List ℕ → Type 0
LeadsBy n true c v old new = (q : List ℕ) × (new ≡ old ++ n ∷ q) × (sub_at c q ≡ Some v)
LeadsBy n false c v old new = (new ≡ old) × ((q : List ℕ) → sub_at c q ≡ Some v → ⊥)
