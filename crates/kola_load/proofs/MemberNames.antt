-- The least of the names that pass a test is the first of them where the names rise, as those of an object's members do.
use Rattle.std.proofs.Common.{◌≡◌, ℕ, Bool, true, false, cond, List, [], ◌∷◌, map, filter, Option, Some, None, Bor, Global, nat_cmp, refl, sym, ap, subst, ◌∙◌, Less, Greater, Ordering}
use Rattle.std.specs.Bool.{⊤}
use Rattle.std.specs.List.{AllByRecursion}
use Rattle.std.specs.List.Sorted.{IsStrictlySortedBy}
use Rattle.std.specs.Option.{MatchOption, option_map_or}
use Rattle.std.specs.Ordering.{is_lt, ordering_reverse}
use Rattle.std.specs.Cmp.Lexicographic.{slice_cmp}
use Rattle.std.proofs.lemmas.Cmp.{nat_list_cmp_total}
use Rattle.std.proofs.lemmas.Map.Keys.{sorted_head, sorted_tail}
use Rattle.json.specs.declared.value.Value.{Value}
use Rattle.kola_values.specs.Order.{name_cmp}
use Rattle.kola_load.specs.Json.{names_of_members, lesser, least}
use Rattle.kola_load.specs.JsonViews.{Entries, members_view}

-- ---- the least of a list that rises

all_least : (P : List ℕ → Type 0) (ns : List (List ℕ)) → AllByRecursion P ns → MatchOption (least ns) ⊤ P
all_least P [] h = tt
all_least P (n ∷ ns) h = at (least ns) (all_least P ns h.1)
  where
    lesser_of : (m : List ℕ) → P m → P (lesser n m)
    lesser_of m p = elim (is_lt (name_cmp m n)) as (λ b. P (cond b m n)) [ true ↦ p | false ↦ h.0 ]

    at : (o : Option (List ℕ)) → MatchOption o ⊤ P → P (option_map_or (lesser n) o n)
    at None p = h.0
    at (Some m) p = lesser_of m p

not_less : (o : Ordering) → o ≡ Greater → is_lt o ≡ false
not_less o e = ap is_lt e

pub least_head : (n : List ℕ) (ns : List (List ℕ)) → AllByRecursion (λ m. name_cmp n m ≡ Less) ns → least (n ∷ ns) ≡ Some n
least_head n ns h = at (least ns) (all_least (λ m. name_cmp n m ≡ Less) ns h)
  where
    at : (o : Option (List ℕ)) → MatchOption o ⊤ (λ m. name_cmp n m ≡ Less) → Some (option_map_or (lesser n) o n) ≡ Some n
    at None p = refl
    at (Some m) p = ap (λ b. Some (cond b m n)) (not_less (name_cmp m n) (nat_list_cmp_total.antisymm m n ∙ ap ordering_reverse p))

-- ---- a walk over the members of an object

abbrev str_cmp : Bor (List ℕ) → Bor (List ℕ) → Ordering
str_cmp x y = slice_cmp nat_cmp x.now y.now

abbrev pub named : Entries → List (List ℕ)
named es = names_of_members (members_view es)

rising_names : (es : Entries) → IsStrictlySortedBy str_cmp (map (λ e. e.0) es) → IsStrictlySortedBy name_cmp (named es)
unfolding IsStrictlySortedBy
rising_names [] h = tt
rising_names (e ∷ es) h = (below es h.0, rising_names es h.1)
  where
    below : (ds : Entries) → AllByRecursion (λ k. str_cmp e.0 k ≡ Less) (map (λ d. d.0) ds) → AllByRecursion (λ n. name_cmp e.0.now n ≡ Less) (named ds)
    below [] a = tt
    below (d ∷ ds) a = (a.0, below ds a.1)

all_filter : (q : List ℕ → Bool) (P : List ℕ → Type 0) (ns : List (List ℕ)) → AllByRecursion P ns → AllByRecursion P (filter q ns)
all_filter q P [] h = tt
all_filter q P (n ∷ ns) h = at (q n) (all_filter q P ns h.1)
  where
    at : (b : Bool) → AllByRecursion P (filter q ns) → AllByRecursion P (cond b (n ∷ filter q ns) (filter q ns))
    at true a = (h.0, a)
    at false a = a

-- the members left have the least name that passes
pub record Left (q : List ℕ → Bool) (all rest : Entries) : Type 0 where
  pub same : least (filter q (named rest)) ≡ least (filter q (named all))
  pub rises : IsStrictlySortedBy name_cmp (named rest)

module _ (q : List ℕ → Bool) (all : Entries) where
  pub left_first : (rest : Entries) → rest ≡ all → IsStrictlySortedBy str_cmp (map (λ e. e.0) all) → Left q all rest
  left_first rest e h = record { same = ap (λ l. least (filter q (named l))) e; rises = subst (λ es. IsStrictlySortedBy name_cmp (named es)) (sym e) (rising_names all h) }

  module _ (e : Bor (List ℕ) × Value Global) (rest now : Entries) (is : now ≡ e ∷ rest) (l : Left q all now) where
    pub left_next : q e.0.now ≡ false → Left q all rest
    left_next n = let r = subst (Left q all) is l in record { same = sym (ap (λ b. least (cond b (e.0.now ∷ filter q (named rest)) (filter q (named rest)))) n) ∙ r.same; rises = sorted_tail name_cmp e.0.now (named rest) r.rises }

    pub left_found : q e.0.now ≡ true → Some e.0.now ≡ least (filter q (named all))
    left_found n =
        let r = subst (Left q all) is l in
        sym (least_head e.0.now (filter q (named rest)) (all_filter q (λ m. name_cmp e.0.now m ≡ Less) (named rest) (sorted_head name_cmp e.0.now (named rest) r.rises)))
        ∙ sym (ap (λ b. least (cond b (e.0.now ∷ filter q (named rest)) (filter q (named rest)))) n) ∙ r.same

  pub left_none : (rest : Entries) → rest ≡ [] → Left q all rest → None ≡ least (filter q (named all))
  left_none rest e l = ap (λ ds. least (filter q (named ds))) (sym e) ∙ l.same
