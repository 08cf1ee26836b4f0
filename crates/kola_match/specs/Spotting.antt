-- Where the program finds the variables of a rule: each on a side that is given a term.
use Rattle.std.specs.Prelude.{◌≡◌, ◌⊎◌, ℕ, Bool, true, false, List, [], ◌∷◌, Option, Some, None, take}
use Rattle.kola_values.specs.Types.{TypeTree}
use Rattle.kola_values.specs.Databases.{Classes, look_up}
use Rattle.kola_term.specs.Terms.{TermTree}
use Rattle.kola_term.specs.Typing.{Context, MetaTree}
use Rattle.kola_term.specs.Places.{sub_at, place, Typed}
use Rattle.kola_term.specs.Parts.{sub_tree}
use Rattle.kola_match.specs.Substitutions.{Substitution}
use Rattle.kola_match.specs.Binds.{Binds}
use Rattle.kola_match.specs.Finding.{Finds}
use Rattle.kola_match.specs.Pairs.{Sides}
use Rattle.kola_match.specs.Occurring.{variable, Occurs}
use Rattle.kola_match.specs.Demanding.{Demands}
use Rattle.kola_match.specs.declared.declared.Side.{Side}

abbrev pub side_of : Side → TermTree × TermTree
side_of s = (sub_tree s.pattern, sub_tree s.part)

abbrev pub second_of : Option Side → Sides
second_of (Some b) = side_of b ∷ []
second_of None = []

abbrev pub sides_of : Side → Option Side → Sides
sides_of a o = side_of a ∷ second_of o

-- each entry is the first of its name among all
abbrev pub AllDeclared : Context → Context → Type 0
AllDeclared all [] = Unit {0}
AllDeclared all (v ∷ vs) = (look_up v.0 all ≡ Some v.1) × AllDeclared all vs

-- a side, its term, and a path in both at which the variable stands
abbrev pub Spot : Type 0
Spot = TermTree × TermTree × List ℕ

abbrev pub Spots : Type 0
Spots = List ((List ℕ × MetaTree) × Spot)

abbrev pub DemandAt : Classes → Context → TypeTree → (List ℕ × MetaTree) × Spot → Substitution → Type 0
DemandAt S x T e s = Demands S x e.0.1 (sub_at e.1.1 e.1.2) (place S x e.1.1 T e.1.2) s

abbrev pub AllDemand : Classes → Context → TypeTree → Spots → Substitution → Type 0
AllDemand S x T [] s = Unit {0}
AllDemand S x T (e ∷ es) s = DemandAt S x T e s × AllDemand S x T es s

-- the spot is on one of the sides
abbrev pub IsOn : Sides → TermTree → TermTree → Type 0
IsOn [] p t = ⊥
IsOn (a ∷ sides) p t = ((a.0 ≡ p) × (a.1 ≡ t)) ⊎ IsOn sides p t

-- the variable stands at the spot
abbrev pub IsSpot : Sides → List ℕ × MetaTree → Spot → Type 0
IsSpot sides v e = IsOn sides e.0 e.1 × (sub_at e.0 e.2 ≡ Some (variable v.0 v.1))

-- each variable has its spot
abbrev pub Spotted : Sides → Context → Spots → Type 0
Spotted sides [] [] = Unit {0}
Spotted sides (v ∷ vs) (e ∷ es) = (e.0 ≡ v) × IsSpot sides v e.1 × Spotted sides vs es
Spotted sides _ _ = ⊥

-- the variable stands somewhere on a side
abbrev pub OccursOn : Sides → List ℕ × MetaTree → Type 0
OccursOn [] v = ⊥
OccursOn (a ∷ sides) v = Occurs a.0 v ⊎ OccursOn sides v

abbrev pub AllOccurOn : Sides → Context → Type 0
AllOccurOn sides [] = Unit {0}
AllOccurOn sides (v ∷ vs) = OccursOn sides v × AllOccurOn sides vs

-- each side's term is typed
abbrev pub AllTyped : Classes → Context → TypeTree → Sides → Type 0
AllTyped S x T [] = Unit {0}
AllTyped S x T (a ∷ sides) = Typed S x a.1 T × AllTyped S x T sides

-- each side is typed, with the rule's variables
abbrev pub AllPatternsTyped : Classes → Context → TypeTree → Sides → Type 0
AllPatternsTyped S vars input [] = Unit {0}
AllPatternsTyped S vars input (a ∷ sides) = Typed S vars a.0 input × AllPatternsTyped S vars input sides

-- what was found of one variable at a spot
abbrev pub FindsOne : Classes → Context → TypeTree → Sides → List ℕ × MetaTree → Bool → Binds → Binds → Type 0
FindsOne S x T sides v b old new = (e : Spot) × IsSpot sides v e × Finds b old new (DemandAt S x T (v, e))

-- what was found of all variables, or of the first k, at which there is nothing
abbrev pub FindsAll : Classes → Context → TypeTree → Sides → Context → Bool → Binds → Binds → Type 0
FindsAll S x T sides vs true old new = (es : Spots) × Spotted sides vs es × Finds true old new (AllDemand S x T es)
FindsAll S x T sides vs false old new = (k : ℕ) × (es : Spots) × Spotted sides (take k vs) es × Finds false old new (AllDemand S x T es)
