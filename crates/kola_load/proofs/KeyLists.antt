-- The keys of the objects of each class, class by class.
use Rattle.std.proofs.Common.{◌≡◌, ℕ, ◌+◌, ◌<◌, ◌≤◌, List, [], ◌∷◌, Some, None, length, get_or, map, drop, refl, sym, ap, ◌∙◌}
use Rattle.std.specs.Option.{option_or}
use Rattle.std.proofs.lemmas.List.{drop_all, drop_more}
use Rattle.kola_values.specs.Databases.{Class, Classes, Objects}
use Rattle.kola_load.specs.KeyViews.{lists_fault}
use Rattle.kola_load.specs.Loading.{first_of, keys_fault}

-- where the lists are those of a function of the class
pub lists_of : (f : Class → Objects) (S : Classes) → lists_fault S (map f S) ≡ first_of (λ k. keys_fault k (f k)) S
lists_of f [] = refl
lists_of f (k ∷ S) = ap (option_or (keys_fault k (f k))) (lists_of f S)

module _ (S : Classes) (oss : List Objects) (i : ℕ) (left : lists_fault (drop i S) (drop i oss) ≡ lists_fault S oss) where
  module _ (k : Class) (os : Objects) (p : i < length S) (q : i < length oss) (e : k ≡ get_or S i k) (f : os ≡ get_or oss i os) where
    step : option_or (keys_fault k os) (lists_fault (drop (i + 1) S) (drop (i + 1) oss)) ≡ lists_fault S oss
    step = sym (λ j. lists_fault ((drop_more S i k p ∙ ap (λ c. c ∷ drop (i + 1) S) (sym e)) j) ((drop_more oss i os q ∙ ap (λ l. l ∷ drop (i + 1) oss) (sym f)) j)) ∙ left

    pub lists_next : keys_fault k os ≡ None → lists_fault (drop (i + 1) S) (drop (i + 1) oss) ≡ lists_fault S oss
    lists_next n = sym (ap (λ o. option_or o (lists_fault (drop (i + 1) S) (drop (i + 1) oss))) n) ∙ step

    pub lists_found : (g : _) → keys_fault k os ≡ Some g → lists_fault S oss ≡ Some g
    lists_found g n = sym step ∙ ap (λ o. option_or o (lists_fault (drop (i + 1) S) (drop (i + 1) oss))) n

  pub lists_end : length S ≤ i → lists_fault S oss ≡ None
  lists_end p = sym left ∙ ap (λ l. lists_fault l (drop i oss)) (drop_all i S p)
