use Rattle.std.proofs.Common.{rules, ◌≡◌, [], ◌∷◌, sym}
use Rattle.std.proofs.lemmas.Result.{on_ok_weaker}
use Rattle.kola_term.specs.Terms.{FMeta, PMeta, CMeta, TermF, TermP, TermC}
use Rattle.kola_term.specs.Parts.{sub_tree}
use Rattle.coko_plan.specs.Working.Seen.{own}
use Rattle.coko_plan.proofs.Seeing.{sees_as, fun_added, pred_added, const_added}
use Rattle.coko_plan.proofs.firing.see_node.Goals as goal

pub returns-in-F-Meta : goal.returns-in-F-Meta
returns-in-F-Meta c =
    let is : own (sub_tree c.args.part) ≡ TermF (FMeta c.in-F-Meta.name) ∷ [] = search rules in
    on_ok_weaker c.add_name.result (λ h. sees_as c.args.seen.now _ _ _ (sym is) (fun_added c.in-F-Meta.name c.args.seen.now.funs c.add_name.new.names c.args.seen.now.preds c.args.seen.now.consts h)) c.add_name.ensures

pub returns-in-P-Meta : goal.returns-in-P-Meta
returns-in-P-Meta c =
    let is : own (sub_tree c.args.part) ≡ TermP (PMeta c.in-P-Meta.name) ∷ [] = search rules in
    on_ok_weaker c.add_name-in-P-Meta.result (λ h. sees_as c.args.seen.now _ _ _ (sym is) (pred_added c.in-P-Meta.name c.args.seen.now.preds c.add_name-in-P-Meta.new.names c.args.seen.now.funs c.args.seen.now.consts h)) c.add_name-in-P-Meta.ensures

pub returns-in-C-Meta : goal.returns-in-C-Meta
returns-in-C-Meta c =
    let is : own (sub_tree c.args.part) ≡ TermC (CMeta c.in-C-Meta.name) ∷ [] = search rules in
    on_ok_weaker c.add_name-in-C-Meta.result (λ h. sees_as c.args.seen.now _ _ _ (sym is) (const_added c.in-C-Meta.name c.args.seen.now.consts c.add_name-in-C-Meta.new.names c.args.seen.now.funs c.args.seen.now.preds h)) c.add_name-in-C-Meta.ensures
