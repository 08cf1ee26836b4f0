-- A rule with a valid proof, and each first fault of its like; two such rules in a file.
use Rattle.std.specs.Prelude.{◌≡◌, ℕ, true, false, List, [], ◌∷◌, ◌++◌, codes, refl}
use Rattle.std.proofs.Common.{sym, subst}
use Rattle.kola_values.specs.Types.{TypeTree, TVar, TPair}
use Rattle.kola_term.specs.Terms.{CBool, FunTree, FId, FFst, FComp, FTimes, FMeta, PEq, PAt, TermTree, TermF, TermP}
use Rattle.kola_term.specs.Typing.{MFun}
use Rattle.kola_term.specs.Faults.{small}
use Rattle.kola_rule.specs.Rules.{RuleTree, StepTree, DraftTree}
use Rattle.kola_match.specs.Substitutions.{Substitution, sub_type}
use Rattle.kola_match.specs.RuleOk.{RuleOk}
use Rattle.kola_match.proofs.RuleTested.{tested}
use Rattle.kola_laws.specs.Laws.{laws}
use Rattle.kola_laws.specs.Composition.{id_left, id_right}
use Rattle.kola_laws.specs.Injectivity.{eq_inj}
use Rattle.kola_injective.specs.Derived.{Derived, of_variable}
use Rattle.kola_injective.specs.Inferring.{infer}
use Rattle.kola_injective.proofs.Exact.{infer_complete}
use Rattle.kola_proof.specs.Steps.{StepOk, unknown_law, no_such_path, step_ill_typed, no_instance, condition_not_shown}
use Rattle.kola_proof.specs.Drafts.{end, more, now, later, last, Valid, FirstBad, name_taken, first_is_not_left, in_the_steps, AreValid, no_draft, valid_draft, FirstBadDraft, bad_draft, later_draft}
use Rattle.kola_proof.specs.declared.fault.StepWhy.TheVariants as why

abbrev a : TypeTree
a = TVar (codes "a")

abbrev f : FunTree
f = FMeta (codes "f")

-- twice (f: a -> a) at a: ((f o id) o f) = (f o f)
abbrev twice_named : List ℕ → RuleTree
twice_named n = record { name = n; vars = (codes "f", MFun a a) ∷ []; input = a; when = []; left = TermF (FComp (FComp f FId) f); right = TermF (FComp f f) }

abbrev twice : RuleTree
twice = twice_named (codes "twice")

twice_ok : (n : List ℕ) → RuleOk [] (twice_named n)
unfolding small
twice_ok n = tested [] (twice_named n) refl

-- to the term, by the law at the path
abbrev by : TermTree → List ℕ → List ℕ → StepTree
by t law q = record { term = t; law = law; rev = false; path = q }

abbrev proof_of : RuleTree → List StepTree → DraftTree
proof_of r ks = record { rule = r; first = r.left; steps = ks }

abbrev s : Substitution
s = record { types = λ n. a; funs = λ n. f; preds = λ n. PEq; consts = λ n. CBool true }

twice_step : StepOk [] laws twice twice.left (by twice.right (codes "id_right") (1 ∷ []))
twice_step = record {
  law = id_right;
  named = refl;
  part = tt;
  fits = (twice_ok (codes "twice")).sides;
  s = s;
  by = record { typed = (refl, tt); at = refl; from = refl; to = refl };
  shown = tt;
}

twice_valid : Valid [] laws (proof_of twice (by twice.right (codes "id_right") (1 ∷ []) ∷ []))
twice_valid = record { free = refl; well_typed = twice_ok (codes "twice"); first = refl; steps = more twice_step (end refl) }

-- the name of a law
taken : FirstBad [] laws (proof_of (twice_named (codes "id_left")) (by twice.right (codes "id_right") (1 ∷ []) ∷ [])) 0 why.NameTaken
taken = name_taken id_left refl

other_first : FirstBad [] laws (record { rule = twice; first = twice.right; steps = by twice.right (codes "id_right") (1 ∷ []) ∷ [] }) 0 why.FirstIsNotLeft
other_first = first_is_not_left refl (twice_ok (codes "twice")) (λ e. absurd (cc))

no_law : FirstBad [] laws (proof_of twice (by twice.right (codes "id_up") (1 ∷ []) ∷ [])) 1 why.UnknownLaw
no_law = in_the_steps refl (twice_ok (codes "twice")) refl (now (unknown_law refl))

no_path : FirstBad [] laws (proof_of twice (by twice.right (codes "id_right") (1 ∷ 3 ∷ []) ∷ [])) 1 why.NoSuchPath
no_path = in_the_steps refl (twice_ok (codes "twice")) refl (now (no_such_path id_right refl (λ p. p)))

ill_typed : FirstBad [] laws (proof_of twice (by (TermF FFst) (codes "id_right") (1 ∷ []) ∷ [])) 1 why.StepIllTyped
ill_typed = in_the_steps refl (twice_ok (codes "twice")) refl (now (step_ill_typed id_right refl tt (λ h. let e = h.2.fine.0 in absurd (cc))))

-- the law at another part than the one that it changes
other_part : FirstBad [] laws (proof_of twice (by twice.right (codes "id_right") (2 ∷ []) ∷ [])) 1 why.NoInstance
other_part = in_the_steps refl (twice_ok (codes "twice")) refl (now (no_instance id_right refl tt (twice_ok (codes "twice")).sides (λ t h. let e = h.from in absurd (cc))))

-- the second step is the first that is wrong
second_step : FirstBad [] laws (proof_of twice (by twice.right (codes "id_right") (1 ∷ []) ∷ by twice.right (codes "id_up") (1 ∷ []) ∷ [])) 2 why.UnknownLaw
second_step = in_the_steps refl (twice_ok (codes "twice")) refl (later twice_step (now (unknown_law refl)))

not_there : FirstBad [] laws (proof_of twice []) 0 why.LastIsNotRight
not_there = in_the_steps refl (twice_ok (codes "twice")) refl (last (λ e. absurd (cc)))

-- keyless (f: a -> b) at (a, a): (eq @ (f * f)) = eq
abbrev keyless_when : List (List ℕ) → RuleTree
keyless_when hyps = record { name = codes "keyless"; vars = (codes "f", MFun a (TVar (codes "b"))) ∷ []; input = TPair a a; when = hyps; left = TermP (PAt PEq (FTimes f f)); right = TermP PEq }

keyless_ok : RuleOk [] (keyless_when [])
unfolding small
keyless_ok = tested [] (keyless_when []) refl

supposed_ok : RuleOk [] (keyless_when (codes "f" ∷ []))
unfolding small
supposed_ok = tested [] (keyless_when (codes "f" ∷ [])) refl

abbrev o : Substitution
o = record { types = λ n. TVar n; funs = λ n. f; preds = λ n. PEq; consts = λ n. CBool true }

supposed_valid : Valid [] laws (proof_of (keyless_when (codes "f" ∷ [])) (by (TermP PEq) (codes "eq_inj") [] ∷ []))
supposed_valid = record {
  free = refl;
  well_typed = supposed_ok;
  first = refl;
  steps = more (record {
    law = eq_inj;
    named = refl;
    part = tt;
    fits = supposed_ok.sides;
    s = o;
    by = record { typed = (refl, tt); at = refl; from = refl; to = refl };
    shown = (of_variable refl refl, tt);
  }) (end refl);
}

not_derived : (g : FunTree) (t : TypeTree) → infer [] (keyless_when []).vars [] g t ≡ false → Derived [] (keyless_when []).vars [] g t → ⊥
not_derived g t e d = let k = infer_complete [] (keyless_when []).vars [] g t d in absurd (cc)

not_supposed : FirstBad [] laws (proof_of (keyless_when []) (by (TermP PEq) (codes "eq_inj") [] ∷ [])) 1 why.ConditionNotShown
not_supposed = in_the_steps refl keyless_ok refl (now (condition_not_shown eq_inj o refl tt keyless_ok.sides (record { typed = (refl, tt); at = refl; from = refl; to = refl }) (λ t h k.
    let e : f ≡ t.funs (codes "f") = cc (h.from) in
    not_derived f (sub_type t.types a) refl (subst (λ z. Derived [] (keyless_when []).vars [] z (sub_type t.types a)) (sym e) k.0))))

-- ---- the drafts of a file

abbrev first_draft : DraftTree
first_draft = proof_of twice (by twice.right (codes "id_right") (1 ∷ []) ∷ [])

-- the same rule under another name, by the first
abbrev second_draft : DraftTree
second_draft = proof_of (twice_named (codes "again")) (by twice.right (codes "twice") [] ∷ [])

second_valid : Valid [] (laws ++ twice ∷ []) second_draft
second_valid = record {
  free = refl;
  well_typed = twice_ok (codes "again");
  first = refl;
  steps = more (record {
    law = twice;
    named = refl;
    part = tt;
    fits = (twice_ok (codes "again")).sides;
    s = s;
    by = record { typed = (refl, tt); at = refl; from = refl; to = refl };
    shown = tt;
  }) (end refl);
}

both_valid : AreValid [] laws (first_draft ∷ second_draft ∷ [])
both_valid = valid_draft twice_valid (valid_draft second_valid no_draft)

-- a rule that comes later is none
too_early : FirstBadDraft [] laws (second_draft ∷ first_draft ∷ []) (codes "again") 1 why.UnknownLaw
too_early = bad_draft (in_the_steps refl (twice_ok (codes "again")) refl (now (unknown_law refl)))

-- the second is the first that is wrong
named_twice : FirstBadDraft [] laws (first_draft ∷ first_draft ∷ []) (codes "twice") 0 why.NameTaken
named_twice = later_draft twice_valid (bad_draft (name_taken twice refl))
