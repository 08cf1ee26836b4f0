-- What the program's parts of rules are.
use Rattle.std.specs.Prelude.{List, map}
use Rattle.std.specs.declared.boxed.Box.{Box}
use Rattle.std.specs.declared.alloc.Global.{Global}
use Rattle.kola_values.specs.Types.{TypeTree}
use Rattle.kola_values.specs.Views.{type_tree}
use Rattle.kola_values.specs.declared.ty.Ty.{Ty}
use Rattle.kola_term.specs.Terms.{TermTree}
use Rattle.kola_term.specs.TermView.{term_tree}
use Rattle.kola_term.specs.Typing.{MetaTree}
use Rattle.kola_term.specs.ContextView.{meta_tree, context_of}
use Rattle.kola_term.specs.declared.meta.MetaTy.{MetaTy}
use Rattle.kola_rule.specs.Rules.{DraftTree}
use Rattle.kola_rule.specs.RuleViews.{draft_tree}
use Rattle.coko_text.specs.RuleGrammar.{HeadTree, SidesTree}
use Rattle.coko_text.specs.declared.rule.Head.{Head}
use Rattle.coko_text.specs.declared.rule.Sides.{Sides}
use Rattle.coko_text.specs.declared.read.RuleFile.{RuleFile}

-- trees in boxes
abbrev pub boxed_type : Box Ty Global → TypeTree
boxed_type t = type_tree t.value

abbrev pub boxed_types : Box Ty Global × Box Ty Global → TypeTree × TypeTree
boxed_types x = (boxed_type x.0, boxed_type x.1)

abbrev pub boxed_meta : Box MetaTy Global → MetaTree
boxed_meta m = meta_tree m.value

abbrev pub head_view : Head → HeadTree
head_view h = record { name = h.name; vars = context_of h.vars; input = type_tree h.input.value; when = h.when }

abbrev pub sides_view : Sides → SidesTree
sides_view s = record { left = term_tree s.left.value; right = term_tree s.right.value; first = term_tree s.first.value }

-- the rules of a file
abbrev pub file_tree : RuleFile → List DraftTree
file_tree f = map draft_tree f.drafts
