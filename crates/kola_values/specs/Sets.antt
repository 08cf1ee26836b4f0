-- Sets as strictly rising lists.
use Rattle.std.specs.Prelude.{Bool, true, false, ◌||◌, ◌&&◌, List, [], ◌∷◌, ◌≡◌, ◌↔◌, Contains}
use Rattle.std.specs.declared.cmp.Ordering.{Ordering}
use Rattle.std.specs.declared.cmp.Ordering.TheVariants.{Less, Equal, Greater}
use Rattle.kola_values.specs.Values.{ValueTree, VSet, items, of_items}
use Rattle.kola_values.specs.Order.{cmp, same}

-- v is below the head of the list, if there is one
abbrev pub Below : ValueTree → List ValueTree → Type 0
Below v [] = Unit {0}
Below v (w ∷ ws) = cmp v w ≡ Less

abbrev pub Rising : List ValueTree → Type 0
Rising [] = Unit {0}
Rising (v ∷ vs) = Below v vs × Rising vs

-- ws rises strictly and has the members of vs
abbrev pub IsRisingListOf : List ValueTree → List ValueTree → Type 0
IsRisingListOf vs ws = Rising ws × ((v : ValueTree) → (Contains ws v ↔ Contains vs v))

-- v ∷ w ∷ ws, or w ∷ ws, or w ∷ us, as v compares to w
abbrev pub put_at : Ordering → ValueTree → ValueTree → List ValueTree → List ValueTree → List ValueTree
put_at Less v w ws us = v ∷ w ∷ ws
put_at Equal v w ws us = w ∷ ws
put_at Greater v w ws us = w ∷ us

-- a value put in its place in a rising list, unless it is there
abbrev pub put : ValueTree → List ValueTree → List ValueTree
put v [] = v ∷ []
put v (w ∷ ws) = put_at (cmp v w) v w ws (put v ws)

-- the strictly rising list with the same members
abbrev pub canon : List ValueTree → List ValueTree
canon [] = []
canon (v ∷ vs) = put v (canon vs)

-- some value of the list passes the test
unfoldable pub any : {A : Type 0} → (A → Bool) → List A → Bool
any q [] = false
any q (v ∷ vs) = q v || any q vs

-- each value of the list passes the test
unfoldable pub all : (ValueTree → Bool) → List ValueTree → Bool
all q [] = true
all q (v ∷ vs) = q v && all q vs

-- v is a member of the list
abbrev pub has : ValueTree → List ValueTree → Bool
has v vs = any (same v) vs

-- the members of a set
abbrev pub members : ValueTree → List ValueTree
members (VSet vs) = items vs
members _ = []

-- the set with these members
unfoldable pub set_of : List ValueTree → ValueTree
set_of vs = VSet (of_items (canon vs))

-- P holds of each value of the list
abbrev pub Each : {A : Type 0} → (A → Type 0) → List A → Type 0
Each P [] = Unit {0}
Each P (v ∷ vs) = P v × Each P vs
