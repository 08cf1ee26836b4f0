-- An instance of a pattern has its form.
use Rattle.std.proofs.Common.{◌≡◌, refl, subst, [], ◌∷◌}
use Rattle.kola_term.specs.Terms.{ConstTree, CInt, CBool, CStr, CSet, CExtent, CMeta, FunTree, FId, FFst, FSnd, FFlat, FUnion, FIsect, FMinus, FAttr, FComp, FPair, FTimes, FK, FC, FIf, FIterate, FIter, FJoin, FNest, FUnnest, FMeta, PredTree, PEq, PLt, PLe, PMember, PAt, PAnd, POr, PNot, PInv, PKP, PCP, PEx, PFa, PMeta, TermTree, TermF, TermP, TermC}
use Rattle.kola_match.specs.Substitutions.{Substitution, inst, inst_fun, inst_pred, inst_const}
use Rattle.kola_match.proofs.NodeLaws.{node_itself}
use Rattle.coko_run.specs.Forms.{HasForm, of_variable, of_node, HaveForms, no_forms, more_forms}

module _ (s : Substitution) where
  form_const : (c : ConstTree) → HasForm (TermC c) (TermC (inst_const s c))
  form_const (CInt n) = of_node refl (node_itself (TermC (CInt n))) no_forms
  form_const (CBool b) = of_node refl (node_itself (TermC (CBool b))) no_forms
  form_const (CStr t) = of_node refl (node_itself (TermC (CStr t))) no_forms
  form_const (CSet vs) = of_node refl (node_itself (TermC (CSet vs))) no_forms
  form_const (CExtent e) = of_node refl (node_itself (TermC (CExtent e))) no_forms
  form_const (CMeta n) = of_variable refl refl

  two : {a b c d : TermTree} → HasForm a b → HasForm c d → HaveForms (a ∷ c ∷ []) (b ∷ d ∷ [])
  two x y = more_forms x (more_forms y no_forms)

  mutual
    form_fun : (f : FunTree) → HasForm (TermF f) (TermF (inst_fun s f))
    form_fun (FComp f g) = of_node refl refl (two (form_fun f) (form_fun g))
    form_fun (FPair f g) = of_node refl refl (two (form_fun f) (form_fun g))
    form_fun (FTimes f g) = of_node refl refl (two (form_fun f) (form_fun g))
    form_fun (FK c) = of_node refl refl (more_forms (form_const c) no_forms)
    form_fun (FC f c) = of_node refl refl (two (form_fun f) (form_const c))
    form_fun (FIf p f g) = of_node refl refl (more_forms (form_pred p) (two (form_fun f) (form_fun g)))
    form_fun (FIterate p f) = of_node refl refl (two (form_pred p) (form_fun f))
    form_fun (FIter p f) = of_node refl refl (two (form_pred p) (form_fun f))
    form_fun (FJoin p f) = of_node refl refl (two (form_pred p) (form_fun f))
    form_fun (FNest f g) = of_node refl refl (two (form_fun f) (form_fun g))
    form_fun (FUnnest f g) = of_node refl refl (two (form_fun f) (form_fun g))
    form_fun (FMeta n) = of_variable refl refl
    form_fun FId = of_node refl refl no_forms
    form_fun FFst = of_node refl refl no_forms
    form_fun FSnd = of_node refl refl no_forms
    form_fun FFlat = of_node refl refl no_forms
    form_fun FUnion = of_node refl refl no_forms
    form_fun FIsect = of_node refl refl no_forms
    form_fun FMinus = of_node refl refl no_forms
    form_fun (FAttr n) = of_node refl (node_itself (TermF (FAttr n))) no_forms

    form_pred : (p : PredTree) → HasForm (TermP p) (TermP (inst_pred s p))
    form_pred (PAt p f) = of_node refl refl (two (form_pred p) (form_fun f))
    form_pred (PAnd p q) = of_node refl refl (two (form_pred p) (form_pred q))
    form_pred (POr p q) = of_node refl refl (two (form_pred p) (form_pred q))
    form_pred (PNot p) = of_node refl refl (more_forms (form_pred p) no_forms)
    form_pred (PInv p) = of_node refl refl (more_forms (form_pred p) no_forms)
    form_pred (PCP p c) = of_node refl refl (two (form_pred p) (form_const c))
    form_pred (PEx p) = of_node refl refl (more_forms (form_pred p) no_forms)
    form_pred (PFa p) = of_node refl refl (more_forms (form_pred p) no_forms)
    form_pred (PMeta n) = of_variable refl refl
    form_pred PEq = of_node refl refl no_forms
    form_pred PLt = of_node refl refl no_forms
    form_pred PLe = of_node refl refl no_forms
    form_pred PMember = of_node refl refl no_forms
    form_pred (PKP b) = of_node refl (node_itself (TermP (PKP b))) no_forms

  pub instance_form : (p : TermTree) → HasForm p (inst s p)
  instance_form (TermF f) = form_fun f
  instance_form (TermP p) = form_pred p
  instance_form (TermC c) = form_const c

  pub has_instance_form : (p t : TermTree) → inst s p ≡ t → HasForm p t
  has_instance_form p t e = subst (HasForm p) e (instance_form p)
