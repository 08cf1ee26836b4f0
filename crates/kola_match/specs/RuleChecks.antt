-- What the parts of the test of a rule say.
use Rattle.std.specs.Prelude.{◌≤◌, ◌⊎◌, ℕ, List, Option, Some, None}
use Rattle.kola_values.specs.Types.{TypeTree}
use Rattle.kola_values.specs.Databases.{Classes}
use Rattle.kola_values.specs.Views.{type_tree}
use Rattle.kola_values.specs.declared.ty.Ty.{Ty}
use Rattle.kola_term.specs.Terms.{TermTree}
use Rattle.kola_term.specs.Typing.{Context, MetaTree}
use Rattle.kola_term.specs.Counts.{nodes, depth}
use Rattle.kola_term.specs.Limits.{node_limit, depth_limit}
use Rattle.kola_term.specs.Faults.{Fine}
use Rattle.kola_term.specs.TypingAnswers.{IsFine}
use Rattle.kola_match.specs.Occurring.{Occurs}

-- no more nodes and no greater depth than the limits
abbrev pub IsWithin : TermTree → Type 0
IsWithin t = (nodes t ≤ node_limit) × (depth t ≤ depth_limit)

-- the output type of a fine term; none where it is not fine
abbrev pub FineType : Classes → Context → TermTree → TypeTree → Option Ty → Type 0
FineType S x t T (Some u) = Fine S x t T (type_tree u)
FineType S x t T None = IsFine S x t T → ⊥

-- both terms are fine, with one output type
abbrev pub AlikeFine : Classes → Context → TermTree → TermTree → TypeTree → Type 0
AlikeFine S x l r T = (u : TypeTree) × Fine S x l T u × Fine S x r T u

-- the variable stands on one of the two sides
abbrev pub OccursOnASide : TermTree → TermTree → List ℕ × MetaTree → Type 0
OccursOnASide l r v = Occurs l v ⊎ Occurs r v
