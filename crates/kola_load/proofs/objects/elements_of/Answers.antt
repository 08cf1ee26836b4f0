use Rattle.std.proofs.Common.{Some, None, [], map, subst, ap, ◌∙◌}
use Rattle.std.specs.Option.{option_map_or}
use Rattle.kola_load.specs.JsonViews.{view}
use Rattle.kola_load.specs.Json.{elements}
use Rattle.kola_load.specs.Members.{elements_at, AreLeft}
use Rattle.kola_load.proofs.Taken.{member_seen, others_left}
use Rattle.kola_load.proofs.objects.elements_of.Goals as goal

pub returns-in-Some-clause-taken : goal.returns-in-Some-clause-taken
returns-in-Some-clause-taken c =
    c.elements_in.ensures
    ∙ ap (λ r. option_map_or elements r []) (member_seen c.as_text.result.now c.args.members.now (Some c.in-Some.member) c.in-Some.ensures.value)
    ∙ ap (λ n. elements_at n c.args.members.now.entries) c.as_text.ensures.text

pub returns-in-Some-clause-others : goal.returns-in-Some-clause-others
returns-in-Some-clause-others c =
    subst (λ n. AreLeft n c.args.members.now.entries c.remove.new.self.entries) c.as_text.ensures.text (others_left c.as_text.result.now c.args.members.now c.remove.new.self c.in-Some.ensures.updates)

pub returns-in-None-clause-taken : goal.returns-in-None-clause-taken
returns-in-None-clause-taken c =
    ap (map view) c.new.ensures.items
    ∙ ap (λ r. option_map_or elements r []) (member_seen c.as_text.result.now c.args.members.now None c.in-None.ensures.value)
    ∙ ap (λ n. elements_at n c.args.members.now.entries) c.as_text.ensures.text
