-- An exchange of two numbers is typed at pairs of numbers.
use Rattle.std.proofs.Common.{◌≡◌, Some, option_and_then, ap, ◌∙◌}
use Rattle.kola_values.specs.Types.{TInt, TPair}
use Rattle.kola_values.specs.Databases.{Classes}
use Rattle.kola_term.specs.Terms.{FunTree, FPair, FComp}
use Rattle.kola_term.specs.Typing.{Context, out, pair_of}
use Rattle.kola_bench.specs.Swaps.{IsSwap}

pub swap_typed : (S : Classes) (x : Context) (f : FunTree) → IsSwap f → out S x f (TPair TInt TInt) ≡ Some (TPair TInt TInt)
swap_typed S x (FPair f g) h = λ i. pair_of (out S x (h.0 i) (TPair TInt TInt)) (out S x (h.1 i) (TPair TInt TInt))
swap_typed S x (FComp f g) h = ap (option_and_then (λ w. out S x f w)) (swap_typed S x g h.1) ∙ swap_typed S x f h.0
swap_typed S x _ h = absurd h
