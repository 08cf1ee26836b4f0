-- What the words of the command line ask for: a command is one word, which names an action; and the section that an action needs.
use Rattle.std.specs.Prelude.{ℕ, List, [], ◌∷◌, Option, Some, None, codes, if◌then◌else◌}
use Rattle.std.specs.Str.{bytes_eq}
use Rattle.kola_top.specs.declared.words.Action.{Action}
use Rattle.kola_top.specs.declared.words.Action.TheVariants.{Check, Translate, Run}
use Rattle.kola_top.specs.declared.section.Section.{Section}
use Rattle.kola_top.specs.declared.section.Section.TheVariants.{Rules, Query}

abbrev pub action_named : List ℕ → Option Action
action_named w =
    if bytes_eq w (codes "check") then Some Check
    else if bytes_eq w (codes "translate") then Some Translate
    else if bytes_eq w (codes "run") then Some Run
    else None

abbrev pub action_of : List (List ℕ) → Option Action
action_of [] = None
action_of (w ∷ []) = action_named w
action_of (w ∷ v ∷ ws) = None

abbrev pub needs : Action → Section
needs Check = Rules
needs Translate = Query
needs Run = Query
