-- Loops that add the text of one part of a query after another.
use Rattle.std.proofs.Common.{◌≡◌, ℕ, ◌+◌, ◌<◌, Bool, false, true, List, [], ◌∷◌, ◌++◌, length, get_or, map, drop, refl, sym, ap, ◌∙◌, codes, arith}
use Rattle.std.specs.List.{flat_map}
use Rattle.std.proofs.lemmas.List.{append_assoc, append-nil}
use Rattle.kola_core.specs.declared.name.Name.{Name}
use Rattle.kola_core.proofs.Lists.{left_less}
use Rattle.oql_tree.specs.QueryTrees.{LitTree, QueryTree, of_links, of_set_links, of_fields, of_ranges}
use Rattle.oql_tree.specs.QueryViews.{query_tree, link_entry, named_entry}
use Rattle.oql_tree.specs.Models.Weights.{weight, links_weight, ranges_weight}
use Rattle.oql_print.specs.declared.print.Class.{Class}
use Rattle.oql_print.specs.declared.print.Class.TheVariants.{Sets, Meet}
use Rattle.oql_print.specs.QuerySpelling.{spelling, spelling_at, further_literal, union_spelling, operands_spelling, set_links_spelling, further_fields, further_ranges}
use Rattle.oql_tree.specs.declared.query.Expr.{Expr}
use Rattle.oql_tree.proofs.QueryLoops.{named_falls, ranges_as_fields}

pub further_literals_push : (us : List (LitTree × ℕ)) (u : LitTree × ℕ) → flat_map further_literal (us ++ u ∷ []) ≡ flat_map further_literal us ++ further_literal u
further_literals_push [] u = append-nil (further_literal u)
further_literals_push (w ∷ us) u =
    ap (λ l. further_literal w ++ l) (further_literals_push us u)
    ∙ sym (append_assoc (further_literal w) (flat_map further_literal us) (further_literal u))

abbrev pub set_link_text : ℕ × Bool × QueryTree → List ℕ
set_link_text u = union_spelling u.1 ++ spelling_at Meet false u.2

pub set_links_push : (us : List (ℕ × Bool × QueryTree)) (u : ℕ × Bool × QueryTree) → set_links_spelling (of_set_links (us ++ u ∷ [])) ≡ set_links_spelling (of_set_links us) ++ set_link_text u
set_links_push [] u = append-nil (set_link_text u)
set_links_push (w ∷ us) u =
    ap (λ l. set_link_text w ++ l) (set_links_push us u)
    ∙ sym (append_assoc (set_link_text w) (set_links_spelling (of_set_links us)) (set_link_text u))

abbrev pub field_text : List ℕ × ℕ × QueryTree → List ℕ
field_text u = codes ", " ++ u.0 ++ codes ": " ++ spelling true u.2

pub further_fields_push : (us : List (List ℕ × ℕ × QueryTree)) (u : List ℕ × ℕ × QueryTree) → further_fields (of_fields (us ++ u ∷ [])) ≡ further_fields (of_fields us) ++ field_text u
further_fields_push [] u = append-nil (field_text u)
further_fields_push (w ∷ us) u =
    ap (λ l. field_text w ++ l) (further_fields_push us u)
    ∙ sym (append_assoc (field_text w) (further_fields (of_fields us)) (field_text u))

abbrev pub range_text : List ℕ × ℕ × QueryTree → List ℕ
range_text u = codes ", " ++ u.0 ++ codes " in " ++ spelling_at Sets false u.2

pub further_ranges_push : (us : List (List ℕ × ℕ × QueryTree)) (u : List ℕ × ℕ × QueryTree) → further_ranges (of_ranges (us ++ u ∷ [])) ≡ further_ranges (of_ranges us) ++ range_text u
further_ranges_push [] u = append-nil (range_text u)
further_ranges_push (w ∷ us) u =
    ap (λ l. range_text w ++ l) (further_ranges_push us u)
    ∙ sym (append_assoc (range_text w) (further_ranges (of_ranges us)) (range_text u))

-- five texts added one after another
pub added_in_turn : (out a b c d e : List ℕ) → ((((out ++ a) ++ b) ++ c) ++ d) ++ e ≡ out ++ (a ++ b ++ c ++ d ++ e)
added_in_turn out a b c d e = simp append_assoc

-- ---- the operands of a chain, the last of which is held back

module _ (c : Class) (word : List ℕ) (o : Bool) (first : Bool → List ℕ) where
  -- one operand and its word are added, and the next one is held back
  pub operand_more : (xs : List (ℕ × Expr)) (i : ℕ) (x : ℕ × Expr) (out : List ℕ) → i < length xs → x ≡ get_or xs i x
      → ((out ++ first false) ++ word) ++ operands_spelling c word o (λ o. spelling_at c o (query_tree x.1)) (of_links (drop (i + 1) (map link_entry xs)))
      ≡ out ++ operands_spelling c word o first (of_links (drop i (map link_entry xs)))
  operand_more xs i x out p h =
      let rest = operands_spelling c word o (λ o. spelling_at c o (query_tree x.1)) (of_links (drop (i + 1) (map link_entry xs))) in
      ap (λ l. l ++ rest) (append_assoc out (first false) word)
      ∙ append_assoc out (first false ++ word) rest
      ∙ ap (λ l. out ++ operands_spelling c word o first (of_links l)) (sym (left_less link_entry xs (map link_entry xs) i x refl p h))

pub operand_weight : (xs : List (ℕ × Expr)) (i : ℕ) (x : ℕ × Expr) → i < length xs → x ≡ get_or xs i x → weight (query_tree x.1) + links_weight (of_links (drop (i + 1) (map link_entry xs))) < links_weight (of_links (drop i (map link_entry xs)))
operand_weight xs i x p h = omega (arith, ap (λ l. links_weight (of_links l)) (left_less link_entry xs (map link_entry xs) i x refl p h))
