use Rattle.std.proofs.Common.{sym, ap, ◌∙◌, ◌≡◌, None}
use Rattle.std.specs.Option.{option_map, option_or}
use Rattle.kola_load.specs.JsonViews.{table_view}
use Rattle.kola_values.specs.Databases.{Class}
use Rattle.kola_load.specs.Ids.{there}
use Rattle.kola_load.specs.Loading.{first_of, label_fault, attribute_fault}
use Rattle.kola_load.specs.Written.{id_in, object_in}
use Rattle.kola_load.specs.declared.fault.DbFault.TheVariants.{UnknownAttribute}
use Rattle.kola_load.proofs.Answering.{finds_for}
use Rattle.kola_load.proofs.objects.read_members.Goals as goal

pub returns-in-None : goal.returns-in-None
returns-in-None c =
    let k = c.args.class.now in
    let d = table_view c.args.object.now in
    let t = there c.args.ids.now in
    let none : label_fault k d ≡ None = ap (option_map (UnknownAttribute k.name (id_in d))) (sym c.in_ok-unknown.ensures ∙ c.in-None.is) in
    finds_for _ _ _ _
    (ap (λ (x : Class). first_of (attribute_fault t x d) x.attributes) c.get-in-None.ensures ∙ sym (ap (λ o. option_or o (first_of (attribute_fault t k d) k.attributes)) none))
    (λ o e. e ∙ ap (λ x. object_in x d) c.get-in-None.ensures) c.read_known.result c.read_known.ensures
