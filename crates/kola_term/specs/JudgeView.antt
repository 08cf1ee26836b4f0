-- The typing by what the program types by: the schema, the variables, and whether large types are refused.
use Rattle.std.specs.Prelude.{ℕ, List, Option}
use Rattle.kola_values.specs.Types.{TypeTree}
use Rattle.kola_values.specs.Databases.{look_up}
use Rattle.kola_term.specs.Terms.{ConstTree, FunTree, PredTree}
use Rattle.kola_term.specs.Typing.{MetaTree}
use Rattle.kola_term.specs.Judging.{Checked, sized, consting, typing, checking}
use Rattle.kola_term.specs.ContextView.{context_of}
use Rattle.kola_term.specs.declared.judge.Judge.{Judge}

abbrev pub sized_by : Judge → TypeTree → Checked
sized_by j t = sized j.limited t

abbrev pub typed_by : Judge → FunTree → TypeTree → Checked
typed_by j f t = typing j.schema.now (context_of j.ctx.now) j.limited f t

abbrev pub checked_by : Judge → PredTree → TypeTree → Checked
checked_by j p t = checking j.schema.now (context_of j.ctx.now) j.limited p t

abbrev pub constant_by : Judge → ConstTree → Checked
constant_by j c = consting j.schema.now (context_of j.ctx.now) c

abbrev pub declared_by : Judge → List ℕ → Option MetaTree
declared_by j n = look_up n (context_of j.ctx.now)
