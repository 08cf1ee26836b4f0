-- Lists of items that end in a text of their own, and reading them.
use Rattle.std.specs.Prelude.{List, [], ◌∷◌, ◌++◌, Option, Some, None}
use Rattle.kola_parse.specs.Reader.{Answer, made, Round, Again, Final, rounds}
use Rattle.kola_parse.specs.Texts.{◌·◌}

-- texts of the items, in their order, and then the last text
abbrev pub Listed : {T A : Type 0} → (A → List T → Type 0) → (List T → Type 0) → List A → List T → Type 0
Listed Item Last [] = Last
Listed Item Last (v ∷ vs) = Item v · Listed Item Last vs

-- one more item behind these, or the end
abbrev pub grown : {A : Type 0} → List A → Option A → Round (List A) (List A)
grown vs (Some v) = Again (vs ++ v ∷ [])
grown vs None = Final vs

-- behind the items vs: one item after the other, up to the end
abbrev pub listed : {T A : Type 0} → (List T → Answer T (Option A)) → List A → List T → Answer T (List A)
listed next = rounds (λ vs. made (grown vs) next)
