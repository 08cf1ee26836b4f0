-- The test whether a function is shown to be injective, as the program goes through it.
use Rattle.std.specs.Prelude.{ℕ, Bool, true, false, ◌&&◌, ◌||◌, ◌==◌, List, [], ◌∷◌, Option, Some, None, length, option_map}
use Rattle.std.specs.List.{list_any}
use Rattle.std.specs.Str.{bytes_eq}
use Rattle.kola_core.specs.NameLists.{is_listed}
use Rattle.kola_values.specs.Types.{TypeTree, TClass, TSet, TPair}
use Rattle.kola_values.specs.Databases.{Class, Classes, look_up}
use Rattle.kola_schema.specs.Schemas.{class_named}
use Rattle.kola_term.specs.Terms.{ConstTree, FunTree, FId, FAttr, FComp, FPair, FTimes, FC, FIterate, FMeta, PredTree, PKP}
use Rattle.kola_term.specs.Typing.{Context, out, const_type, when, fun_of, is_some_type}

abbrev pub is_attribute : FunTree → List ℕ → Bool
is_attribute (FAttr a) n = bytes_eq a n
is_attribute _ n = false

-- the function is these attributes, paired to the right
abbrev pub pairs_up : FunTree → List (List ℕ) → Bool
pairs_up f [] = false
pairs_up (FPair f g) (n ∷ ns) = is_attribute f n && pairs_up g ns
pairs_up f (n ∷ ns) = is_attribute f n && (length ns == 0)

abbrev pub is_key_of : FunTree → Option Class → Bool
is_key_of f (Some k) = list_any (λ key. pairs_up f key) k.keys
is_key_of f None = false

abbrev pub is_key : Classes → FunTree → TypeTree → Bool
is_key S f (TClass c) = is_key_of f (class_named S c)
is_key S f _ = false

abbrev pub on_pair : TypeTree → (TypeTree → TypeTree → Bool) → Bool
on_pair (TPair t u) k = k t u
on_pair _ k = false

abbrev pub on_set : TypeTree → (TypeTree → Bool) → Bool
on_set (TSet t) k = k t
on_set _ k = false

abbrev pub is_always : PredTree → Bool
is_always (PKP b) = b
is_always _ = false

-- the constant's type before the input type
abbrev pub after_constant : Classes → Context → ConstTree → TypeTree → Option TypeTree
after_constant S x c t = option_map (λ u. TPair u t) (const_type S x c)

abbrev pub is_supposed : Context → List (List ℕ) → List ℕ → TypeTree → Bool
is_supposed x hyps n t = is_listed n hyps && is_some_type (fun_of (look_up n x) t)

abbrev pub infer : Classes → Context → List (List ℕ) → FunTree → TypeTree → Bool
infer S x hyps FId t = true
infer S x hyps (FAttr a) t = is_key S (FAttr a) t
infer S x hyps (FComp f g) t = infer S x hyps g t && when (out S x g t) (λ u. infer S x hyps f u)
infer S x hyps (FPair f g) t = is_key S (FPair f g) t || (infer S x hyps f t || infer S x hyps g t)
infer S x hyps (FTimes f g) t = on_pair t (λ a b. infer S x hyps f a && infer S x hyps g b)
infer S x hyps (FC f c) t = when (after_constant S x c t) (λ u. infer S x hyps f u)
infer S x hyps (FIterate p f) t = is_always p && on_set t (λ u. infer S x hyps f u)
infer S x hyps (FMeta n) t = is_supposed x hyps n t
infer S x hyps _ t = false
