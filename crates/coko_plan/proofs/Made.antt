-- The plan that is made of a listing.
use Rattle.std.proofs.Common.{◌≡◌, ℕ, true, cond, List, [], Some, None, is_some, option_and_then, position, slice_get, sym, ap, ◌∙◌, subst}
use Rattle.std.specs.Str.{bytes_eq}
use Rattle.kola_core.specs.NameLists.{is_listed}
use Rattle.kola_values.specs.Databases.{look_up}
use Rattle.kola_rule.specs.Rules.{RuleTree}
use Rattle.coko_block.specs.Statements.{BlockTree}
use Rattle.coko_block.specs.WellFormed.{block_names, BlocksOk}
use Rattle.coko_plan.specs.Entries.{EntryTree, AllLower}
use Rattle.coko_plan.specs.Naming.{reached}
use Rattle.coko_plan.specs.Listing.{Listed, or_else, listing}
use Rattle.coko_plan.specs.Faults.{UnknownBlock, names_of_rules, faults_behind, fault_of}
use Rattle.coko_plan.specs.Compiling.{IsPlanOf}
use Rattle.coko_plan.specs.Working.Sites.{numbered}
use Rattle.coko_plan.proofs.Finding.{placed, number_at_place}
use Rattle.coko_plan.proofs.Fitting.{plan_where_faultless}
use Rattle.coko_plan.proofs.Standing.{blocks_kept}

module _ (R : List RuleTree) (c : List ℕ) (bs : List BlockTree) where
  pub chosen_listed : (p : ℕ) → Some p ≡ position (bytes_eq c) (block_names bs) → is_listed c (block_names bs) ≡ true
  chosen_listed p e = sym (placed c (block_names bs)) ∙ ap is_some (sym e)

  pub chosen_missing : None ≡ position (bytes_eq c) (block_names bs) → fault_of R c bs ≡ Some UnknownBlock
  chosen_missing e = ap (λ b. cond b (faults_behind R c [] bs) (Some UnknownBlock)) (sym (placed c (block_names bs)) ∙ ap is_some (sym e))

  pub chosen_fault : is_listed c (block_names bs) ≡ true → faults_behind R c [] bs ≡ fault_of R c bs
  chosen_fault e = sym (ap (λ b. cond b (faults_behind R c [] bs) (Some UnknownBlock)) e)

  pub chosen_start : (p : ℕ) (is : List ℕ) (es : List EntryTree) (start : ℕ) (x : Listed) → Some p ≡ position (bytes_eq c) (block_names bs) → start ≡ or_else (slice_get is p) 0
      → (es, or_else (look_up c (numbered (block_names bs) is)) 0) ≡ x → (es, start) ≡ x
  chosen_start p is es start x e h k =
      ap (λ z. (es, z)) (h ∙ (ap (λ o. or_else (option_and_then (λ i. slice_get is i) o) 0) e ∙ ap (λ o. or_else o 0) (sym (number_at_place c (block_names bs) is)))) ∙ k

  pub plan_made : (es : List EntryTree) (start : ℕ) → BlocksOk bs → is_listed c (block_names bs) ≡ true → faults_behind R c [] bs ≡ None → (es, start) ≡ listing (names_of_rules R) c bs → IsPlanOf R c bs es start
  plan_made es start ok l f m = subst (λ (y : Listed). IsPlanOf R c bs y.0 y.1) (sym m) (plan_where_faultless R c bs ok (sym (chosen_fault l) ∙ f))

  pub plan_lower : (es : List EntryTree) (start : ℕ) → (es, start) ≡ listing (names_of_rules R) c bs → AllLower 0 es
  plan_lower es start m = subst (λ (y : Listed). AllLower 0 y.0) (sym m) (blocks_kept (names_of_rules R) [] [] [] (reached c bs) tt tt).lower
