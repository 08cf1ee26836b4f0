-- From the answers of the walk to what they say of the term.
use Rattle.std.proofs.Common.{true, Result, Ok, Err, subst}
use Rattle.kola_values.specs.Types.{TypeTree, TBool}
use Rattle.kola_values.specs.Databases.{Classes}
use Rattle.kola_values.specs.Views.{type_tree}
use Rattle.kola_values.specs.declared.ty.Ty.{Ty}
use Rattle.kola_term.specs.Terms.{FunTree, PredTree, TermF, TermP}
use Rattle.kola_term.specs.Typing.{Context}
use Rattle.kola_term.specs.Judging.{Says, typing, checking}
use Rattle.kola_term.specs.declared.typing.TypeFault.{TypeFault}
use Rattle.kola_term.specs.declared.typing.TypeFault.TheVariants.{At, Memory}
use Rattle.kola_term.specs.TypingAnswers.{why_tree, IsTyping, IsCheck, TypeOf, CheckOf}
use Rattle.kola_term.proofs.Faulty.{says, pred_ok_says}
use Rattle.kola_term.proofs.Unique.{no_fault}

module _ (S : Classes) (x : Context) where
  pub type_judged : (f : FunTree) (T : TypeTree) (r : Result Ty TypeFault) → IsTyping r (typing S x true f T) → TypeOf S x (TermF f) T r
  type_judged f T (Ok u) e =
      let h = subst (Says S x (TermF f) T) e (says S x f T) in
      (h, λ g. no_fault S x (TermF f) T (type_tree u) g.0 g.1 g.2 h)
  type_judged f T (Err (At path why)) e =
      let h = subst (Says S x (TermF f) T) e (says S x f T) in
      (h, λ g. no_fault S x (TermF f) T g.0 path (why_tree why) h g.1)
  type_judged f T (Err Memory) e = tt

  pub check_judged : {A : Type 0} (p : PredTree) (T : TypeTree) (r : Result A TypeFault) → IsCheck r (checking S x true p T) → CheckOf S x (TermP p) T r
  check_judged p T (Ok u) e =
      let h = subst (Says S x (TermP p) T) e (pred_ok_says S x p T) in
      ((TBool, h), λ g. no_fault S x (TermP p) T TBool g.0 g.1 g.2 h)
  check_judged p T (Err (At path why)) e =
      let h = subst (Says S x (TermP p) T) e (pred_ok_says S x p T) in
      (h, λ g. no_fault S x (TermP p) T g.0 path (why_tree why) h g.1)
  check_judged p T (Err Memory) e = tt
