-- A context that agrees part by part is the same.
use Rattle.std.proofs.Common.{◌≡◌, ℕ, List, [], ◌∷◌, map, refl}
use Rattle.kola_term.specs.ContextView.{meta_tree, context_of}
use Rattle.kola_term.specs.declared.meta.MetaTy.{MetaTy}

pub same_context : (xs ys : List (List ℕ × MetaTy)) → map (λ e. e.0) xs ≡ map (λ e. e.0) ys
    → map meta_tree (map (λ e. e.1) xs) ≡ map meta_tree (map (λ e. e.1) ys) → context_of xs ≡ context_of ys
same_context [] [] e h = refl
same_context (x ∷ xs) (y ∷ ys) e h =
    let k : x.0 ≡ y.0 = cc in
    let m : meta_tree x.1 ≡ meta_tree y.1 = cc in
    let r = same_context xs ys (cc) (cc) in
    λ i. (k i, m i) ∷ r i
same_context [] (y ∷ ys) e h = absurd (cc)
same_context (x ∷ xs) [] e h = absurd (cc)
