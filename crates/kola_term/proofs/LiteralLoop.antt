-- A loop over the members of a set constant: the test of the members from a place on.
use Rattle.std.proofs.Common.{◌≡◌, ℕ, ◌+◌, ◌<◌, ◌≤◌, Bool, true, ◌&&◌, List, ◌∷◌, length, get_or, map, drop, sym, ap, ◌∙◌, arith, refl}
use Rattle.std.proofs.lemmas.List.{drop_all, length-map}
use Rattle.kola_core.proofs.Lists.{left_less}
use Rattle.kola_values.specs.Types.{TypeTree}
use Rattle.kola_values.specs.Values.{ValueTree}
use Rattle.kola_values.specs.Views.{value_tree}
use Rattle.kola_values.specs.declared.value.Value.{Value}
use Rattle.kola_term.specs.Literals.{is_literal_of, each_literal}

one_literal : (t : TypeTree) (b : Bool) (v : ValueTree) (vs : List ValueTree) → is_literal_of t v ≡ b → each_literal t (v ∷ vs) ≡ (b && each_literal t vs)
one_literal t b v vs h = ap (λ c. c && each_literal t vs) h

pub literal_step : (t : TypeTree) (xs : List Value) (i : ℕ) (x : Value) (b : Bool) → i < length xs → x ≡ get_or xs i x → is_literal_of t (value_tree x) ≡ b
    → each_literal t (map value_tree xs) ≡ each_literal t (drop i (map value_tree xs))
    → each_literal t (map value_tree xs) ≡ (b && each_literal t (drop (i + 1) (map value_tree xs)))
literal_step t xs i x b p h e r =
    r ∙ ap (each_literal t) (left_less value_tree xs (map value_tree xs) i x refl p h)
    ∙ one_literal t b (value_tree x) (drop (i + 1) (map value_tree xs)) e

pub literals_end : (t : TypeTree) (xs : List Value) (i : ℕ) → length xs ≤ i
    → each_literal t (map value_tree xs) ≡ each_literal t (drop i (map value_tree xs)) → true ≡ each_literal t (map value_tree xs)
literals_end t xs i p r =
    sym (r ∙ ap (each_literal t) (drop_all i (map value_tree xs) (omega (arith, length-map xs value_tree))))
