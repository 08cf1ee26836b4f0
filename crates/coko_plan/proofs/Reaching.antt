-- Which blocks are reached, block by block from the last one on.
use Rattle.std.proofs.Common.{◌≡◌, ℕ, Bool, true, false, cond, ◌||◌, List, [], ◌∷◌, ◌++◌, reverse, refl, sym, ap, ap₂, ◌∙◌}
use Rattle.std.specs.Str.{bytes_eq}
use Rattle.std.specs.List.{flat_map}
use Rattle.std.proofs.lemmas.List.{reverse-append}
use Rattle.kola_core.specs.NameLists.{is_listed}
use Rattle.coko_block.specs.Statements.{BlockTree}
use Rattle.coko_plan.specs.Naming.{uses, wanted, reached}
use Rattle.coko_plan.specs.Working.Seen.{AddsName, AddsNames}
use Rattle.coko_plan.specs.Working.Marks.{marks}
use Rattle.coko_plan.proofs.Covering.{or_false}
use Rattle.coko_plan.proofs.Fitting.{wanted_parts}

-- the names of a table are those of a list
abbrev pub Lists : List (List ℕ) → List (List ℕ) → Type 0
Lists ns ms = (m : List ℕ) → is_listed m ns ≡ is_listed m ms

pub lists_chosen : (c : List ℕ) (w : List (List ℕ)) → AddsName [] w c → Lists w (wanted c [])
lists_chosen c w h = λ m. h m ∙ sym (or_false (bytes_eq m c))

or_swap : (x y z : Bool) → ((x || z) || y) ≡ (x || (y || z))
or_swap true y z = refl
or_swap false true true = refl
or_swap false true false = refl
or_swap false false true = refl
or_swap false false false = refl

pub lists_more : (c : List ℕ) (b : BlockTree) (bs : List BlockTree) (w v : List (List ℕ)) (t : Bool) → t ≡ is_listed b.name w → Lists w (wanted c (reached c bs)) → AddsNames w v (cond t (uses b) []) → Lists v (wanted c (reached c (b ∷ bs)))
lists_more c b bs w v t e h k = λ m. step m t (is_listed b.name (wanted c (reached c bs))) (e ∙ h b.name) (k m)
  where
    step : (m : List ℕ) (t r : Bool) → t ≡ r → is_listed m v ≡ (is_listed m w || is_listed m (cond t (uses b) [])) → is_listed m v ≡ is_listed m (wanted c (cond r (b ∷ reached c bs) (reached c bs)))
    step m true true i j =
        j
        ∙ (ap (λ z. z || is_listed m (uses b)) (h m)
        ∙ (or_swap (bytes_eq m c) (is_listed m (uses b)) (is_listed m (flat_map uses (reached c bs))) ∙ sym (wanted_parts m c b (reached c bs))))
    step m false false i j = j ∙ (or_false (is_listed m w) ∙ h m)
    step m true false i j = absurd (cc)
    step m false true i j = absurd (cc)

pub marks_more : (c : List ℕ) (b : BlockTree) (bs : List BlockTree) (w : List (List ℕ)) (t : Bool) (ms new : List Bool) → t ≡ is_listed b.name w → Lists w (wanted c (reached c bs)) → reverse ms ≡ marks c bs → new ≡ ms ++ t ∷ [] → reverse new ≡ marks c (b ∷ bs)
marks_more c b bs w t ms new e h k n = ap reverse n ∙ (reverse-append ms (t ∷ []) ∙ ap₂ (λ x y. x ∷ y) (e ∙ h b.name) k)
