-- Whether a rule is well typed, as a test.
use Rattle.std.specs.Prelude.{ℕ, Bool, true, false, nat_le, ◌&&◌, ◌||◌, List, Option, Some, None, Ok, Err}
use Rattle.std.specs.List.{list_all}
use Rattle.std.specs.Str.{bytes_eq}
use Rattle.kola_values.specs.Types.{TypeTree, same_type}
use Rattle.kola_values.specs.Databases.{Classes, look_up}
use Rattle.kola_schema.specs.Schemas.{are_distinct, names_of, class_names}
use Rattle.kola_term.specs.Terms.{ConstTree, CMeta, FunTree, FComp, FPair, FTimes, FK, FC, FIf, FIterate, FIter, FJoin, FNest, FUnnest, FMeta, PredTree, PAt, PAnd, POr, PNot, PInv, PCP, PEx, PFa, PMeta, TermTree, TermF, TermP, TermC}
use Rattle.kola_term.specs.Typing.{MetaTree, MFun, MPred, MConst, Context, is_some_type}
use Rattle.kola_term.specs.Counts.{nodes, depth}
use Rattle.kola_term.specs.Limits.{node_limit, depth_limit}
use Rattle.kola_term.specs.Judging.{Checked, judged}
use Rattle.kola_rule.specs.Rules.{RuleTree}
use Rattle.kola_match.specs.RuleOk.{knows_meta, knows_type}

-- the kind that a variable is declared with
abbrev pub is_fun : MetaTree → Bool
is_fun (MFun t u) = true
is_fun _ = false

abbrev pub is_pred : MetaTree → Bool
is_pred (MPred t) = true
is_pred _ = false

abbrev pub is_const : MetaTree → Bool
is_const (MConst t) = true
is_const _ = false

abbrev pub Variable : Type 0
Variable = List ℕ × MetaTree

-- the node is the variable
abbrev pub is_variable_at : TermTree → Variable → Bool
is_variable_at (TermF (FMeta n)) v = is_fun v.1 && bytes_eq n v.0
is_variable_at (TermP (PMeta n)) v = is_pred v.1 && bytes_eq n v.0
is_variable_at (TermC (CMeta n)) v = is_const v.1 && bytes_eq n v.0
is_variable_at _ v = false

abbrev pub const_has : Variable → ConstTree → Bool
const_has v c = is_variable_at (TermC c) v

abbrev mutual
  -- the variable v stands somewhere in the term
  pub fun_has : Variable → FunTree → Bool
  fun_has v (FComp f g) = fun_has v f || fun_has v g
  fun_has v (FPair f g) = fun_has v f || fun_has v g
  fun_has v (FTimes f g) = fun_has v f || fun_has v g
  fun_has v (FK c) = const_has v c
  fun_has v (FC f c) = fun_has v f || const_has v c
  fun_has v (FIf p f g) = pred_has v p || (fun_has v f || fun_has v g)
  fun_has v (FIterate p f) = pred_has v p || fun_has v f
  fun_has v (FIter p f) = pred_has v p || fun_has v f
  fun_has v (FJoin p f) = pred_has v p || fun_has v f
  fun_has v (FNest f g) = fun_has v f || fun_has v g
  fun_has v (FUnnest f g) = fun_has v f || fun_has v g
  fun_has v f = is_variable_at (TermF f) v

  pub pred_has : Variable → PredTree → Bool
  pred_has v (PAt p f) = pred_has v p || fun_has v f
  pred_has v (PAnd p q) = pred_has v p || pred_has v q
  pred_has v (POr p q) = pred_has v p || pred_has v q
  pred_has v (PNot p) = pred_has v p
  pred_has v (PInv p) = pred_has v p
  pred_has v (PCP p c) = pred_has v p || const_has v c
  pred_has v (PEx p) = pred_has v p
  pred_has v (PFa p) = pred_has v p
  pred_has v p = is_variable_at (TermP p) v

abbrev pub has_variable : Variable → TermTree → Bool
has_variable v (TermF f) = fun_has v f
has_variable v (TermP p) = pred_has v p
has_variable v (TermC c) = const_has v c

abbrev pub is_used : RuleTree → Variable → Bool
is_used r v = has_variable v r.left || has_variable v r.right

abbrev pub is_function : Option MetaTree → Bool
is_function (Some (MFun t u)) = true
is_function _ = false

abbrev pub checked_type : Checked → Option TypeTree
checked_type (Ok u) = Some u
checked_type (Err e) = None

abbrev pub is_within : TermTree → Bool
is_within t = nat_le (nodes t) node_limit && nat_le (depth t) depth_limit

abbrev pub same_output : Option TypeTree → Option TypeTree → Bool
same_output (Some t) (Some u) = same_type t u
same_output _ _ = false

abbrev pub sides_fit : Classes → Context → TypeTree → TermTree → TermTree → Bool
sides_fit S x T (TermF f) (TermF g) = is_within (TermF f) && (is_within (TermF g) && same_output (checked_type (judged S x (TermF f) T)) (checked_type (judged S x (TermF g) T)))
sides_fit S x T (TermP p) (TermP q) = is_within (TermP p) && (is_within (TermP q) && (is_some_type (checked_type (judged S x (TermP p) T)) && is_some_type (checked_type (judged S x (TermP q) T))))
sides_fit S x T _ _ = false

abbrev pub declares_well : Classes → RuleTree → Bool
declares_well S r =
    are_distinct (names_of r.vars)
    && (list_all (λ (v : Variable). knows_meta (class_names S) v.1) r.vars && knows_type (class_names S) r.input)

abbrev pub uses_well : RuleTree → Bool
uses_well r = list_all (is_used r) r.vars && list_all (λ n. is_function (look_up n r.vars)) r.when

abbrev pub rule_test : Classes → RuleTree → Bool
rule_test S r = declares_well S r && (uses_well r && sides_fit S r.vars r.input r.left r.right)
