-- Rules that are found by their names.
use Rattle.std.proofs.Common.{◌≡◌, ℕ, Bool, true, false, cond, ◌||◌, List, [], ◌∷◌, Option, Some, None, map, refl, sym, ap, ◌∙◌, position, slice_get, option_map, option_and_then}
use Rattle.std.specs.Borrow.{Bor}
use Rattle.std.specs.List.{find, list_any}
use Rattle.std.specs.Option.{option_copied}
use Rattle.std.specs.Str.{bytes_eq}
use Rattle.kola_core.specs.NameLists.{is_listed}
use Rattle.kola_core.proofs.NameLists.{listed_seen}
use Rattle.kola_schema.proofs.Places.{found_at_place}
use Rattle.kola_rule.specs.RuleViews.{rule_tree, rule_at}
use Rattle.kola_rule.specs.Tables.{rule_names}
use Rattle.kola_rule.specs.declared.rule.Rule.{Rule}
use Rattle.kola_proof.specs.Steps.{rule_named}

one_more : (n : List ℕ) (r : Rule) (rs : List Rule) (b : Bool) → option_map rule_tree (find (λ (q : Rule). bytes_eq n q.name) rs) ≡ rule_named (map rule_tree rs) n
    → option_map rule_tree (cond b (Some r) (find (λ (q : Rule). bytes_eq n q.name) rs)) ≡ cond b (Some (rule_tree r)) (rule_named (map rule_tree rs) n)
one_more n r rs true h = refl
one_more n r rs false h = h

found_tree : (n : List ℕ) (rs : List Rule) → option_map rule_tree (find (λ (q : Rule). bytes_eq n q.name) rs) ≡ rule_named (map rule_tree rs) n
found_tree n [] = refl
found_tree n (r ∷ rs) = one_more n r rs (bytes_eq n r.name) (found_tree n rs)

-- the rule at the place of a name
pub named_at_place : (n : List ℕ) (rs : List Rule) → option_map rule_tree (option_and_then (λ i. slice_get rs i) (position (bytes_eq n) (rule_names rs))) ≡ rule_named (map rule_tree rs) n
named_at_place n rs = ap (option_map rule_tree) (found_at_place (λ (r : Rule). r.name) n rs) ∙ found_tree n rs

none_any : (n : List ℕ) (rs : List Rule) → find (λ (q : Rule). bytes_eq n q.name) rs ≡ None → list_any (λ (q : Rule). bytes_eq n q.name) rs ≡ false
none_any n [] e = refl
none_any n (r ∷ rs) e = at (bytes_eq n r.name) (λ k. none_any n rs k) e
  where
    at : (b : Bool) → (find (λ (q : Rule). bytes_eq n q.name) rs ≡ None → list_any (λ (q : Rule). bytes_eq n q.name) rs ≡ false) → cond b (Some r) (find (λ (q : Rule). bytes_eq n q.name) rs) ≡ None → (b || list_any (λ (q : Rule). bytes_eq n q.name) rs) ≡ false
    at true h k = absurd (cc)
    at false h k = h k

none_found : (o : Option Rule) → option_map rule_tree o ≡ None → o ≡ None
none_found (Some r) e = absurd (cc)
none_found None e = refl

-- a name that no rule has is not listed
pub not_listed : (n : List ℕ) (rs : List Rule) → rule_named (map rule_tree rs) n ≡ None → is_listed n (rule_names rs) ≡ false
not_listed n rs e = sym (listed_seen (λ (r : Rule). r.name) n rs) ∙ none_any n rs (none_found (find (λ (q : Rule). bytes_eq n q.name) rs) (found_tree n rs ∙ e))

-- a rule behind a reference
pub seen_rule : (o : Option (Bor Rule)) → option_map rule_at o ≡ option_map rule_tree (option_copied o)
seen_rule (Some r) = refl
seen_rule None = refl
