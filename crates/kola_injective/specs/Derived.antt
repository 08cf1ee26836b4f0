-- When a function is shown to be injective: to take no two values of a type to one.
use Rattle.std.specs.Prelude.{ℕ, true, List, [], ◌∷◌, Some, ◌≡◌}
use Rattle.kola_core.specs.NameLists.{is_listed}
use Rattle.kola_values.specs.Types.{TypeTree, TClass, TSet, TPair}
use Rattle.kola_values.specs.Databases.{Classes, Objects, look_up}
use Rattle.kola_schema.specs.Schemas.{key_at}
use Rattle.kola_schema.specs.Meets.{Meets}
use Rattle.kola_term.specs.Terms.{ConstTree, FunTree, FId, FAttr, FComp, FPair, FTimes, FC, FIterate, FMeta, PKP}
use Rattle.kola_term.specs.Typing.{Context, MFun, out, const_type}
use Rattle.kola_match.specs.Substitutions.{Substitution, sub_type, inst_fun, IsTyped}
use Rattle.kola_match.specs.Holding.{Injective, AllInjective}

-- attributes, paired to the right: `.a`, `<.a, .b>`, `<.a, <.b, .c>>`
abbrev pub paired : List ℕ → List (List ℕ) → FunTree
paired a [] = FAttr a
paired a (b ∷ bs) = FPair (FAttr a) (paired b bs)

-- by the keys of the schema, and where the function variables of these names are supposed to be injective
pub data Derived (S : Classes) (x : Context) (hyps : List (List ℕ)) : FunTree → TypeTree → Type 0 where
  of_id : {t : TypeTree} → Derived S x hyps FId t
  of_key : {c : List ℕ} {f : FunTree} (n : ℕ) (a : List ℕ) (bs : List (List ℕ)) → key_at S c n ≡ Some (a ∷ bs) → paired a bs ≡ f → Derived S x hyps f (TClass c)
  of_comp : {f g : FunTree} {t u : TypeTree} → Derived S x hyps g t → out S x g t ≡ Some u → Derived S x hyps f u → Derived S x hyps (FComp f g) t
  of_first : {f g : FunTree} {t : TypeTree} → Derived S x hyps f t → Derived S x hyps (FPair f g) t
  of_second : {f g : FunTree} {t : TypeTree} → Derived S x hyps g t → Derived S x hyps (FPair f g) t
  of_times : {f g : FunTree} {t u : TypeTree} → Derived S x hyps f t → Derived S x hyps g u → Derived S x hyps (FTimes f g) (TPair t u)
  of_curry : {f : FunTree} {c : ConstTree} {t u : TypeTree} → const_type S x c ≡ Some u → Derived S x hyps f (TPair u t) → Derived S x hyps (FC f c) t
  of_iterate : {f : FunTree} {t : TypeTree} → Derived S x hyps f t → Derived S x hyps (FIterate (PKP true) f) (TSet t)
  of_variable : {n : List ℕ} {t u : TypeTree} → is_listed n hyps ≡ true → look_up n x ≡ Some (MFun t u) → Derived S x hyps (FMeta n) t

-- what it means: the function is injective in every database that meets the schema, under every typed substitution without variables by which the variables of these names are
abbrev pub InjectiveWhere : Classes → Context → List (List ℕ) → FunTree → TypeTree → Type 0
InjectiveWhere S x hyps f t = (d : Objects) → Meets S d → (s : Substitution) → IsTyped S [] s x → AllInjective S d s x hyps → Injective S d (inst_fun s f) (sub_type s.types t)
