use Rattle.std.proofs.Common.{◌≡◌, true, false, sym, subst, map}
use Rattle.kola_term.specs.Terms.{TermF}
use Rattle.kola_term.specs.TermView.{fun_tree, term_tree}
use Rattle.kola_rule.specs.RuleViews.{rule_tree}
use Rattle.coko_plan.specs.Entries.{table, stands_for}
use Rattle.coko_plan.specs.EntryViews.{entries_of, start_of}
use Rattle.kola_schema.specs.Schemas.{is_schema}
use Rattle.coko_run.specs.Claims.{Good}
use Rattle.coko_run.specs.Runs.{Do}
use Rattle.coko_run.specs.Moves.{Reached}
use Rattle.coko_run.specs.Views.{begun, conf}
use Rattle.coko_run.specs.Firing.{world, FitsUnit}
use Rattle.coko_run.proofs.Reported.{fun_of_kind, kept_to_end, answered}
use Rattle.coko_run.proofs.run.run_plan.Goals as goal

pub outcome_of-requires-clause-term : goal.outcome_of-requires-clause-term
outcome_of-requires-clause-term c =
    let a = stands_for (entries_of c.args.plan.now) (start_of c.args.plan.now) in
    let k = kept_to_end c.args.accepted.now.schema (map rule_tree c.args.accepted.now.rules) (table (entries_of c.args.plan.now)) a (TermF (fun_tree c.args.term)) c.args.budget c.in_ok-m.m c.in_ok-m.now (subst (λ z. is_schema z ≡ true) c.schema.ensures c.well_formed-3.ensures) c.well_formed-2.ensures.well_typed c.well_formed-2.ensures.hold c.requires.fits (subst (λ z. Reached (world c.args.accepted.now.schema (map rule_tree z)) (Do (stands_for (entries_of c.args.plan.now) (start_of c.args.plan.now))) (TermF (fun_tree c.args.term)) c.args.budget (begun false) (conf (table (entries_of c.args.plan.now)) c.in_ok-m.m c.in_ok-m.now)) c.rules.ensures
    (subst (λ z. Reached (world z (map rule_tree c.rules.result.now)) (Do (stands_for (entries_of c.args.plan.now) (start_of c.args.plan.now))) (TermF (fun_tree c.args.term)) c.args.budget (begun false) (conf (table (entries_of c.args.plan.now)) c.in_ok-m.m c.in_ok-m.now)) c.schema-2.ensures c.in_ok-m.ensures.reached)) in
    fun_of_kind (TermF (fun_tree c.args.term)) (term_tree c.in_ok-m.m.whole.value) tt k.0.kind

pub returns-clause-outcome : goal.returns-clause-outcome
returns-clause-outcome c =
    let a = stands_for (entries_of c.args.plan.now) (start_of c.args.plan.now) in
    answered c.args.accepted.now.schema (map rule_tree c.args.accepted.now.rules) (table (entries_of c.args.plan.now)) a (TermF (fun_tree c.args.term)) c.args.budget c.in_ok-m.m c.in_ok-m.now c.outcome_of.result (subst (λ z. Reached (world c.args.accepted.now.schema (map rule_tree z)) (Do (stands_for (entries_of c.args.plan.now) (start_of c.args.plan.now))) (TermF (fun_tree c.args.term)) c.args.budget (begun false) (conf (table (entries_of c.args.plan.now)) c.in_ok-m.m c.in_ok-m.now)) c.rules.ensures
    (subst (λ z. Reached (world z (map rule_tree c.rules.result.now)) (Do (stands_for (entries_of c.args.plan.now) (start_of c.args.plan.now))) (TermF (fun_tree c.args.term)) c.args.budget (begun false) (conf (table (entries_of c.args.plan.now)) c.in_ok-m.m c.in_ok-m.now)) c.schema-2.ensures c.in_ok-m.ensures.reached)) c.in_ok-m.ensures.within c.outcome_of.ensures

pub returns-clause-fits : goal.returns-clause-fits
returns-clause-fits c =
    let a = stands_for (entries_of c.args.plan.now) (start_of c.args.plan.now) in
    let k = kept_to_end c.args.accepted.now.schema (map rule_tree c.args.accepted.now.rules) (table (entries_of c.args.plan.now)) a (TermF (fun_tree c.args.term)) c.args.budget c.in_ok-m.m c.in_ok-m.now (subst (λ z. is_schema z ≡ true) c.schema.ensures c.well_formed-3.ensures) c.well_formed-2.ensures.well_typed c.well_formed-2.ensures.hold c.requires.fits (subst (λ z. Reached (world c.args.accepted.now.schema (map rule_tree z)) (Do (stands_for (entries_of c.args.plan.now) (start_of c.args.plan.now))) (TermF (fun_tree c.args.term)) c.args.budget (begun false) (conf (table (entries_of c.args.plan.now)) c.in_ok-m.m c.in_ok-m.now)) c.rules.ensures
    (subst (λ z. Reached (world z (map rule_tree c.rules.result.now)) (Do (stands_for (entries_of c.args.plan.now) (start_of c.args.plan.now))) (TermF (fun_tree c.args.term)) c.args.budget (begun false) (conf (table (entries_of c.args.plan.now)) c.in_ok-m.m c.in_ok-m.now)) c.schema-2.ensures c.in_ok-m.ensures.reached)) in
    subst (FitsUnit c.args.accepted.now.schema) (sym c.outcome_of.ensures.term) k.1

pub returns-clause-keeps : goal.returns-clause-keeps
returns-clause-keeps c =
    let a = stands_for (entries_of c.args.plan.now) (start_of c.args.plan.now) in
    let k = kept_to_end c.args.accepted.now.schema (map rule_tree c.args.accepted.now.rules) (table (entries_of c.args.plan.now)) a (TermF (fun_tree c.args.term)) c.args.budget c.in_ok-m.m c.in_ok-m.now (subst (λ z. is_schema z ≡ true) c.schema.ensures c.well_formed-3.ensures) c.well_formed-2.ensures.well_typed c.well_formed-2.ensures.hold c.requires.fits (subst (λ z. Reached (world c.args.accepted.now.schema (map rule_tree z)) (Do (stands_for (entries_of c.args.plan.now) (start_of c.args.plan.now))) (TermF (fun_tree c.args.term)) c.args.budget (begun false) (conf (table (entries_of c.args.plan.now)) c.in_ok-m.m c.in_ok-m.now)) c.rules.ensures
    (subst (λ z. Reached (world z (map rule_tree c.rules.result.now)) (Do (stands_for (entries_of c.args.plan.now) (start_of c.args.plan.now))) (TermF (fun_tree c.args.term)) c.args.budget (begun false) (conf (table (entries_of c.args.plan.now)) c.in_ok-m.m c.in_ok-m.now)) c.schema-2.ensures c.in_ok-m.ensures.reached)) in
    subst (Good c.args.accepted.now.schema (TermF (fun_tree c.args.term))) (sym c.outcome_of.ensures.term) k.0
