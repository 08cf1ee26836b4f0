-- The demands on a variable, by its kind.
use Rattle.std.proofs.Common.{◌≡◌, Bool, Option, Some, sym, subst}
use Rattle.kola_values.specs.Types.{TypeTree}
use Rattle.kola_values.specs.Databases.{Classes}
use Rattle.kola_term.specs.Terms.{FunTree, PredTree, ConstTree, TermTree, TermF, TermP, TermC}
use Rattle.kola_term.specs.Typing.{Context, MetaTree, MFun, MPred, MConst}
use Rattle.kola_match.specs.Substitutions.{sub_type}
use Rattle.kola_match.specs.Binds.{Binds}
use Rattle.kola_match.specs.Finding.{Finds}
use Rattle.kola_match.specs.Demanding.{FunDemand, ConstDemand}
use Rattle.kola_match.specs.Demanding.{Demands}

module _ (S : Classes) (x : Context) (r : Bool) (old new : Binds) (m : MetaTree) (o : Option TermTree) (w : Option TypeTree) where
  pub fun_demands : (a c : TypeTree) (f : FunTree) (v : TypeTree) → m ≡ MFun a c → Some (TermF f) ≡ o → w ≡ Some v → Finds r old new (FunDemand S x a c f v) → Finds r old new (Demands S x m o w)
  fun_demands a c f v d e h k =
      subst (λ z. Finds r old new (Demands S x z o w)) (sym d) (subst (λ z. Finds r old new (Demands S x (MFun a c) z w)) e (subst (λ z. Finds r old new (Demands S x (MFun a c) (Some (TermF f)) z)) (sym h) k))

  pub pred_demands : (a : TypeTree) (p : PredTree) (v : TypeTree) → m ≡ MPred a → Some (TermP p) ≡ o → w ≡ Some v → Finds r old new (λ s. sub_type s.types a ≡ v) → Finds r old new (Demands S x m o w)
  pred_demands a p v d e h k =
      subst (λ z. Finds r old new (Demands S x z o w)) (sym d) (subst (λ z. Finds r old new (Demands S x (MPred a) z w)) e (subst (λ z. Finds r old new (Demands S x (MPred a) (Some (TermP p)) z)) (sym h) k))

  pub const_demands : (a : TypeTree) (c : ConstTree) → m ≡ MConst a → Some (TermC c) ≡ o → Finds r old new (ConstDemand S x a c) → Finds r old new (Demands S x m o w)
  const_demands a c d e k =
      subst (λ z. Finds r old new (Demands S x z o w)) (sym d) (subst (λ z. Finds r old new (Demands S x (MConst a) z w)) e k)
