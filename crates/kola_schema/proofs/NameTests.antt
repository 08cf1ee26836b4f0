-- The tests of names in a list say what they are called after.
use Rattle.std.proofs.Common.{◌≡◌, ◌≢◌, ◌↔◌, ℕ, true, false, not, ◌&&◌, ◌||◌, List, [], ◌∷◌, AllPairs, Contains, refl, ap, ◌∙◌}
use Rattle.std.specs.List.{IsDistinct, AllByRecursion}
use Rattle.std.specs.Str.{bytes_eq}
use Rattle.std.proofs.lemmas.Slice.Eq.{bytes_eq-Decides}
use Rattle.std.proofs.lemmas.List.Folds.{list_any_at}
use Rattle.std.proofs.lemmas.Map.Made.{AllPairs-from_IsDistinct, IsDistinct-from_AllPairs}
use Rattle.std.proofs.lemmas.Map.Views.{Contains-from_any}
use Rattle.kola_core.specs.NameLists.{is_listed}
use Rattle.kola_schema.specs.Schemas.{are_distinct}
use Rattle.kola_values.proofs.Truth.{both_false, not_true}
use Rattle.kola_values.proofs.SameTypes.{both_true, name_equal, name_itself}

none_listed : (n : List ℕ) (ms : List (List ℕ)) → is_listed n ms ≡ false → AllByRecursion (λ m. bytes_eq n m ≡ false) ms
none_listed n [] h = tt
none_listed n (m ∷ ms) h = let p = both_false (bytes_eq n m) (is_listed n ms) h in (p.0, none_listed n ms p.1)

not_listed : (n : List ℕ) (ms : List (List ℕ)) → AllByRecursion (λ m. bytes_eq n m ≡ false) ms → is_listed n ms ≡ false
not_listed n [] a = refl
not_listed n (m ∷ ms) a = λ j. a.0 j || not_listed n ms a.1 j

told_apart : (ns : List (List ℕ)) → are_distinct ns ≡ true → IsDistinct bytes_eq ns
unfolding IsDistinct
told_apart [] h = tt
told_apart (n ∷ ns) h =
    let p = both_true (not (is_listed n ns)) (are_distinct ns) h in
    (none_listed n ns (not_true (is_listed n ns) p.0), told_apart ns p.1)

from_told_apart : (ns : List (List ℕ)) → IsDistinct bytes_eq ns → are_distinct ns ≡ true
unfolding IsDistinct
from_told_apart [] d = refl
from_told_apart (n ∷ ns) d = λ j. not (not_listed n ns d.0 j) && from_told_apart ns d.1 j

pub listed_exactly : (n : List ℕ) (ms : List (List ℕ)) → ((is_listed n ms ≡ true) ↔ Contains ms n)
listed_exactly n ms = (
  λ h. Contains-from_any name_equal n ms h,
  λ c. list_any_at (bytes_eq n) ms c.0 n c.1 (ap (bytes_eq n) c.2 ∙ name_itself n),
)

pub distinct_exactly : (ns : List (List ℕ)) → ((are_distinct ns ≡ true) ↔ AllPairs (λ m n. m ≢ n) ns)
distinct_exactly ns = (
  λ h. AllPairs-from_IsDistinct bytes_eq-Decides ns (told_apart ns h),
  λ p. from_told_apart ns (IsDistinct-from_AllPairs bytes_eq-Decides ns p),
)
