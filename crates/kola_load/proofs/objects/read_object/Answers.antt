use Rattle.std.proofs.Common.{ap, ◌∙◌}
use Rattle.kola_load.specs.Ids.{there}
use Rattle.kola_load.specs.JsonViews.{view}
use Rattle.kola_load.specs.Loading.{object_fault}
use Rattle.kola_load.specs.Written.{object_in}
use Rattle.kola_load.proofs.Answering.{finds_for}
use Rattle.kola_load.proofs.JsonViews.{same_fault, same_object}
use Rattle.kola_load.proofs.objects.read_object.Goals as goal

pub returns : goal.returns
returns c =
    let k = c.args.class.now in
    let d = view c.args.element in
    let t = there c.args.ids.now in
    finds_for _ _ _ _ (ap (object_fault t k) c.in_ok-members.ensures ∙ same_fault t k d) (λ o e. e ∙ ap (object_in k) c.in_ok-members.ensures ∙ same_object k d) c.read_members.result c.read_members.ensures
