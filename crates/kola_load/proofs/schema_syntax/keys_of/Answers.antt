use Rattle.std.proofs.Common.{◌∙◌, option_map}
use Rattle.kola_load.specs.SchemaViews.{key_view}
use Rattle.kola_parse.proofs.ListedLaws.{listed_more, item_shorter}
use Rattle.kola_load.proofs.SchemaLaws.{key_list}
use Rattle.kola_load.proofs.schema_syntax.keys_of.Goals as goal

pub loop-keys-smaller : goal.loop-keys-smaller
loop-keys-smaller c = item_shorter key_list (option_map key_view c.in_ok-next.next) c.loop-keys.rest c.in_ok-next.behind c.in_ok-next.ensures

pub loop-keys-preserved : goal.loop-keys-preserved
loop-keys-preserved c =
    listed_more key_list key_view c.loop-keys.keys.items c.push.new.self.items c.in-Some.key c.loop-keys.rest c.in_ok-next.behind c.in_ok-push-in-Some.ensures.items (rw c.in-Some.is at c.in_ok-next.ensures)
    ∙ c.loop-keys.invariant
