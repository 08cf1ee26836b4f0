-- When a rule is well typed under a schema.
use Rattle.std.specs.Prelude.{◌≡◌, ◌⊎◌, ℕ, Bool, true, ◌&&◌, List, Option, Some}
use Rattle.std.specs.List.{list_all}
use Rattle.kola_core.specs.NameLists.{is_listed}
use Rattle.kola_values.specs.Types.{TypeTree, TBool, TClass, TSet, TPair, TStruct, FieldTypes, TEnd, TField}
use Rattle.kola_values.specs.Databases.{Classes, look_up}
use Rattle.kola_values.specs.Sets.{Each}
use Rattle.kola_schema.specs.Schemas.{are_distinct, names_of, class_names}
use Rattle.kola_term.specs.Terms.{TermTree, TermF, TermP}
use Rattle.kola_term.specs.Typing.{Context, MetaTree, MFun, MPred, MConst}
use Rattle.kola_term.specs.Faults.{Fits}
use Rattle.kola_rule.specs.Rules.{RuleTree}
use Rattle.kola_match.specs.Occurring.{Occurs}

-- each class in the type is one of these names
abbrev mutual
  pub knows_type : List (List ℕ) → TypeTree → Bool
  knows_type cs (TClass c) = is_listed c cs
  knows_type cs (TSet t) = knows_type cs t
  knows_type cs (TPair t u) = knows_type cs t && knows_type cs u
  knows_type cs (TStruct fs) = knows_fields cs fs
  knows_type cs _ = true

  pub knows_fields : List (List ℕ) → FieldTypes → Bool
  knows_fields cs TEnd = true
  knows_fields cs (TField l t fs) = knows_type cs t && knows_fields cs fs

-- so is each class in the declared types of a variable
abbrev pub knows_meta : List (List ℕ) → MetaTree → Bool
knows_meta cs (MFun t u) = knows_type cs t && knows_type cs u
knows_meta cs (MPred t) = knows_type cs t
knows_meta cs (MConst t) = knows_type cs t

-- the name is declared as a function
abbrev pub IsFunction : Option MetaTree → Type 0
IsFunction (Some (MFun t u)) = Unit {0}
IsFunction _ = ⊥

-- two functions that fit at the type, with one output type, or two predicates that fit there
abbrev pub SidesFit : Classes → Context → TypeTree → TermTree → TermTree → Type 0
SidesFit S x T (TermF f) (TermF g) = (u : TypeTree) × Fits S x (TermF f) T u × Fits S x (TermF g) T u
SidesFit S x T (TermP p) (TermP q) = Fits S x (TermP p) T TBool × Fits S x (TermP q) T TBool
SidesFit S x T _ _ = ⊥

-- the variables have distinct names, each stands on a side, the conditions name functions, every class is of the schema, and the sides fit
pub record RuleOk (S : Classes) (r : RuleTree) : Type 0 where
  pub distinct : are_distinct (names_of r.vars) ≡ true
  pub occur : Each (λ (v : List ℕ × MetaTree). Occurs r.left v ⊎ Occurs r.right v) r.vars
  pub conditions : Each (λ n. IsFunction (look_up n r.vars)) r.when
  pub known : list_all (λ (v : List ℕ × MetaTree). knows_meta (class_names S) v.1) r.vars ≡ true
  pub input_known : knows_type (class_names S) r.input ≡ true
  pub sides : SidesFit S r.vars r.input r.left r.right
