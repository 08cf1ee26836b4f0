-- The laws by their number and names.
use Rattle.std.specs.Prelude.{◌≡◌, ℕ, List, [], ◌∷◌, length, map, codes, refl}
use Rattle.kola_rule.specs.Rules.{RuleTree}
use Rattle.kola_laws.specs.Composition.{composition}
use Rattle.kola_laws.specs.Choice.{choice}
use Rattle.kola_laws.specs.Restriction.{restriction}
use Rattle.kola_laws.specs.Truth.{truth}
use Rattle.kola_laws.specs.Comparison.{comparison}
use Rattle.kola_laws.specs.Iteration.{iteration}
use Rattle.kola_laws.specs.Joining.{joining}
use Rattle.kola_laws.specs.Nesting.{nesting}
use Rattle.kola_laws.specs.Quantifiers.{quantifiers}
use Rattle.kola_laws.specs.SetOperations.{set_operations}
use Rattle.kola_laws.specs.Injectivity.{injectivity}
use Rattle.kola_laws.specs.Laws.{laws}

number : length laws ≡ 88
number = refl

abbrev names : List RuleTree → List (List ℕ)
names rs = map (λ (r : RuleTree). r.name) rs

composition_names : names composition ≡ codes "id_left" ∷ codes "id_right" ∷ codes "assoc" ∷ codes "fst_pair" ∷ codes "snd_pair" ∷ codes "pair_eta" ∷ codes "pair_id" ∷ codes "pair_comp" ∷ codes "times_def" ∷ codes "times_pair" ∷ codes "fst_times" ∷ codes "snd_times" ∷ codes "const_comp" ∷ codes "curry_def" ∷ []
composition_names = refl

choice_names : names choice ≡ codes "if_true" ∷ codes "if_false" ∷ codes "if_same" ∷ codes "if_not" ∷ codes "if_comp" ∷ []
choice_names = refl

restriction_names : names restriction ≡ codes "at_id" ∷ codes "at_at" ∷ codes "at_and" ∷ codes "at_or" ∷ codes "at_not" ∷ codes "at_true" ∷ codes "at_false" ∷ []
restriction_names = refl

truth_names : names truth ≡ codes "and_true" ∷ codes "and_false" ∷ codes "or_true" ∷ codes "or_false" ∷ codes "and_same" ∷ codes "and_comm" ∷ codes "or_comm" ∷ codes "and_assoc" ∷ codes "or_assoc" ∷ codes "not_not" ∷ codes "not_true" ∷ codes "not_and" ∷ codes "not_or" ∷ codes "and_or" ∷ []
truth_names = refl

comparison_names : names comparison ≡ codes "inv_def" ∷ codes "cp_def" ∷ codes "eq_self" ∷ codes "eq_comm" ∷ codes "not_le" ∷ codes "le_or" ∷ []
comparison_names = refl

iteration_names : names iteration ≡ codes "iterate_id" ∷ codes "iterate_iterate" ∷ codes "iter_snd" ∷ codes "iter_iter" ∷ codes "iter_env" ∷ codes "iter_const" ∷ codes "flat_iterate" ∷ codes "flat_flat" ∷ codes "flat_iter" ∷ codes "iterate_iter" ∷ []
iteration_names = refl

joining_names : names joining ≡ codes "join_def" ∷ codes "join_comm" ∷ codes "join_left" ∷ codes "join_right" ∷ codes "join_select_left" ∷ codes "join_select_right" ∷ codes "iterate_join" ∷ codes "join_isect" ∷ []
joining_names = refl

nesting_names : names nesting ≡ codes "nest_def" ∷ codes "unnest_def" ∷ codes "nest_join" ∷ codes "nest_unnest" ∷ codes "nest_const" ∷ []
nesting_names = refl

quantifiers_names : names quantifiers ≡ codes "not_ex" ∷ codes "not_fa" ∷ codes "in_ex" ∷ codes "ex_or" ∷ codes "fa_and" ∷ codes "ex_and_env" ∷ codes "ex_iter" ∷ codes "ex_env" ∷ codes "fa_env" ∷ []
quantifiers_names = refl

set_operations_names : names set_operations ≡ codes "iterate_union" ∷ codes "iterate_or" ∷ codes "iterate_and_not" ∷ codes "iterate_and" ∷ codes "union_same" ∷ codes "union_comm" ∷ []
set_operations_names = refl

injectivity_names : names injectivity ≡ codes "eq_inj" ∷ codes "in_inj" ∷ codes "isect_inj" ∷ codes "minus_inj" ∷ []
injectivity_names = refl
