-- Children, places and paths.
use Rattle.std.specs.Prelude.{ℕ, zero, suc, true, List, [], ◌∷◌, Option, Some, None, option_and_then, option_map, ◌≡◌}
use Rattle.kola_values.specs.Types.{TypeTree, TPair}
use Rattle.kola_values.specs.Databases.{Classes}
use Rattle.kola_term.specs.Terms.{FComp, FPair, FTimes, FK, FC, FIf, FIterate, FIter, FJoin, FNest, FUnnest, PAt, PAnd, POr, PNot, PInv, PCP, PEx, PFa, TermTree, TermF, TermP, TermC}
use Rattle.kola_term.specs.Typing.{Context, out, is_typed, const_type, first_type, second_type, member_type, iter_type, join_type, pair_of}

abbrev pub children : TermTree → List TermTree
children (TermF (FComp f g)) = TermF f ∷ TermF g ∷ []
children (TermF (FPair f g)) = TermF f ∷ TermF g ∷ []
children (TermF (FTimes f g)) = TermF f ∷ TermF g ∷ []
children (TermF (FK c)) = TermC c ∷ []
children (TermF (FC f c)) = TermF f ∷ TermC c ∷ []
children (TermF (FIf p f g)) = TermP p ∷ TermF f ∷ TermF g ∷ []
children (TermF (FIterate p f)) = TermP p ∷ TermF f ∷ []
children (TermF (FIter p f)) = TermP p ∷ TermF f ∷ []
children (TermF (FJoin p f)) = TermP p ∷ TermF f ∷ []
children (TermF (FNest f g)) = TermF f ∷ TermF g ∷ []
children (TermF (FUnnest f g)) = TermF f ∷ TermF g ∷ []
children (TermP (PAt p f)) = TermP p ∷ TermF f ∷ []
children (TermP (PAnd p q)) = TermP p ∷ TermP q ∷ []
children (TermP (POr p q)) = TermP p ∷ TermP q ∷ []
children (TermP (PNot p)) = TermP p ∷ []
children (TermP (PInv p)) = TermP p ∷ []
children (TermP (PCP p c)) = TermP p ∷ TermC c ∷ []
children (TermP (PEx p)) = TermP p ∷ []
children (TermP (PFa p)) = TermP p ∷ []
children _ = []

-- the node with other children of the same kinds
abbrev pub rebuild : TermTree → List TermTree → Option TermTree
rebuild (TermF (FComp _ _)) (TermF f ∷ TermF g ∷ []) = Some (TermF (FComp f g))
rebuild (TermF (FPair _ _)) (TermF f ∷ TermF g ∷ []) = Some (TermF (FPair f g))
rebuild (TermF (FTimes _ _)) (TermF f ∷ TermF g ∷ []) = Some (TermF (FTimes f g))
rebuild (TermF (FK _)) (TermC c ∷ []) = Some (TermF (FK c))
rebuild (TermF (FC _ _)) (TermF f ∷ TermC c ∷ []) = Some (TermF (FC f c))
rebuild (TermF (FIf _ _ _)) (TermP p ∷ TermF f ∷ TermF g ∷ []) = Some (TermF (FIf p f g))
rebuild (TermF (FIterate _ _)) (TermP p ∷ TermF f ∷ []) = Some (TermF (FIterate p f))
rebuild (TermF (FIter _ _)) (TermP p ∷ TermF f ∷ []) = Some (TermF (FIter p f))
rebuild (TermF (FJoin _ _)) (TermP p ∷ TermF f ∷ []) = Some (TermF (FJoin p f))
rebuild (TermF (FNest _ _)) (TermF f ∷ TermF g ∷ []) = Some (TermF (FNest f g))
rebuild (TermF (FUnnest _ _)) (TermF f ∷ TermF g ∷ []) = Some (TermF (FUnnest f g))
rebuild (TermP (PAt _ _)) (TermP p ∷ TermF f ∷ []) = Some (TermP (PAt p f))
rebuild (TermP (PAnd _ _)) (TermP p ∷ TermP q ∷ []) = Some (TermP (PAnd p q))
rebuild (TermP (POr _ _)) (TermP p ∷ TermP q ∷ []) = Some (TermP (POr p q))
rebuild (TermP (PNot _)) (TermP p ∷ []) = Some (TermP (PNot p))
rebuild (TermP (PInv _)) (TermP p ∷ []) = Some (TermP (PInv p))
rebuild (TermP (PCP _ _)) (TermP p ∷ TermC c ∷ []) = Some (TermP (PCP p c))
rebuild (TermP (PEx _)) (TermP p ∷ []) = Some (TermP (PEx p))
rebuild (TermP (PFa _)) (TermP p ∷ []) = Some (TermP (PFa p))
rebuild t _ = None

-- the input types of the children; a constant has any
abbrev pub inputs : Classes → Context → TermTree → TypeTree → List (Option TypeTree)
inputs S x (TermF (FComp f g)) t = out S x g t ∷ Some t ∷ []
inputs S x (TermF (FPair f g)) t = Some t ∷ Some t ∷ []
inputs S x (TermF (FTimes f g)) t = first_type t ∷ second_type t ∷ []
inputs S x (TermF (FK c)) t = Some t ∷ []
inputs S x (TermF (FC f c)) t = option_map (λ u. TPair u t) (const_type S x c) ∷ Some t ∷ []
inputs S x (TermF (FIf p f g)) t = Some t ∷ Some t ∷ Some t ∷ []
inputs S x (TermF (FIterate p f)) t = member_type t ∷ member_type t ∷ []
inputs S x (TermF (FIter p f)) t = iter_type t ∷ iter_type t ∷ []
inputs S x (TermF (FJoin p f)) t = join_type t ∷ join_type t ∷ []
inputs S x (TermF (FNest f g)) t = option_and_then first_type (join_type t) ∷ option_and_then first_type (join_type t) ∷ []
inputs S x (TermF (FUnnest f g)) t = member_type t ∷ member_type t ∷ []
inputs S x (TermP (PAt p f)) t = out S x f t ∷ Some t ∷ []
inputs S x (TermP (PAnd p q)) t = Some t ∷ Some t ∷ []
inputs S x (TermP (POr p q)) t = Some t ∷ Some t ∷ []
inputs S x (TermP (PNot p)) t = Some t ∷ []
inputs S x (TermP (PInv p)) t = pair_of (second_type t) (first_type t) ∷ []
inputs S x (TermP (PCP p c)) t = option_map (λ u. TPair u t) (const_type S x c) ∷ Some t ∷ []
inputs S x (TermP (PEx p)) t = iter_type t ∷ []
inputs S x (TermP (PFa p)) t = iter_type t ∷ []
inputs S x _ t = []

abbrev pub nth : {A : Type 0} → ℕ → List A → Option A
nth n [] = None
nth zero (a ∷ as') = None
nth (suc zero) (a ∷ as') = Some a
nth (suc (suc n)) (a ∷ as') = nth (suc n) as'

abbrev pub with_nth : {A : Type 0} → ℕ → A → List A → List A
with_nth n b [] = []
with_nth zero b (a ∷ as') = a ∷ as'
with_nth (suc zero) b (a ∷ as') = b ∷ as'
with_nth (suc (suc n)) b (a ∷ as') = a ∷ with_nth (suc n) b as'

abbrev pub flatten : {A : Type 0} → Option (Option A) → Option A
flatten (Some o) = o
flatten None = None

-- the subterm at a path
abbrev pub sub_at : TermTree → List ℕ → Option TermTree
sub_at t [] = Some t
sub_at t (n ∷ q) = option_and_then (λ c. sub_at c q) (nth n (children t))

-- the term with r at the path
abbrev pub put_in : TermTree → List ℕ → TermTree → Option TermTree
put_in t [] r = Some r
put_in t (n ∷ q) r = option_and_then (λ c. option_and_then (λ e. rebuild t (with_nth n e (children t))) (put_in c q r)) (nth n (children t))

-- the input type at a path
abbrev pub place : Classes → Context → TermTree → TypeTree → List ℕ → Option TypeTree
place S x t u [] = Some u
place S x t u (n ∷ q) = option_and_then (λ c. option_and_then (λ w. place S x c w q) (flatten (nth n (inputs S x t u)))) (nth n (children t))

abbrev pub Typed : Classes → Context → TermTree → TypeTree → Type 0
Typed S x (TermF f) t = (u : TypeTree) × (out S x f t ≡ Some u)
Typed S x (TermP p) t = is_typed S x p t ≡ true
Typed S x (TermC c) t = (u : TypeTree) × (const_type S x c ≡ Some u)
