use Rattle.std.proofs.Common.{◌≡◌, ℕ, Bool, List, not, refl, sym, ap, ◌∙◌}
use Rattle.std.proofs.Common.{Some}
use Rattle.kola_core.specs.NameLists.{is_listed}
use Rattle.kola_load.proofs.MemberNames.{left_first, left_next, left_found, left_none}
use Rattle.kola_load.proofs.names.least_unknown.Given.{Over}
use Rattle.kola_load.proofs.names.least_unknown.Goals as goal

abbrev unknown : (g : Over) → g.row.K.Denot → List ℕ → Bool
unknown g k n = not (is_listed n (g.K.Knows.names k))

told : (g : Over) (k : g.row.K.Denot) (b : Bool) (m n : List ℕ) → b ≡ is_listed m (g.K.Knows.names k) → m ≡ n → {c : Bool} → b ≡ c → unknown g k n ≡ not c
told g k b m n e h f = ap not (sym (ap (λ l. is_listed l (g.K.Knows.names k)) h) ∙ sym e ∙ f)

pub loop-name-init : goal.loop-name-init
loop-name-init g c =
    let gives = c.into_iter-name-iterator.ensures.into_iter_gives in
    (tt, tt, left_first (unknown g c.args.known.now) c.args.members.now.entries c.into_iter-name-iterator.result gives.0 gives.5)

pub loop-name-preserved : goal.loop-name-preserved
loop-name-preserved g c =
    (tt, tt, left_next (unknown g c.args.known.now) c.args.members.now.entries (c.in-Some.name.now, c.in-Some.field-0-1.now) c.next.new.self c.loop-name.name-iterator c.in-Some.ensures.steps c.loop-name.invariant.2 (told g c.args.known.now _ _ _ c.knows.ensures refl c.if-not-knows.false))

pub returns-then-not-knows : goal.returns-then-not-knows
returns-then-not-knows g c =
    ap Some c.in_ok-text.ensures
    ∙ left_found (unknown g c.args.known.now) c.args.members.now.entries (c.in-Some.name.now, c.in-Some.field-0-1.now) c.next.new.self c.loop-name.name-iterator c.in-Some.ensures.steps c.loop-name.invariant.2 (told g c.args.known.now _ _ _ c.knows.ensures refl c.if-not-knows.true)

pub returns : goal.returns
returns g c = left_none (unknown g c.args.known.now) c.args.members.now.entries c.loop-name.name-iterator c.in-None.ensures.steps.0 c.loop-name.invariant.2
