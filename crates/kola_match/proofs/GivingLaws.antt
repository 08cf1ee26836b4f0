-- What an instance gives for the declared variables is that instance: copied variable by variable, it says what was found.
use Rattle.std.proofs.Common.{◌≡◌, ℕ, Bool, true, false, cond, ◌&&◌, refl, sym, ap, ◌∙◌, subst, List, [], ◌∷◌, map, Option, Some, None, option_map}
use Rattle.std.specs.Str.{bytes_eq}
use Rattle.kola_core.specs.declared.name.Name.{Name}
use Rattle.kola_values.specs.Types.{TypeTree, TUnit, TField, of_type_fields}
use Rattle.kola_values.specs.Views.{type_tree, type_entry}
use Rattle.kola_values.specs.declared.ty.Ty.{Ty}
use Rattle.kola_values.specs.Databases.{Classes, look_up}
use Rattle.kola_term.specs.Terms.{FunTree, FId, FMeta, PredTree, PEq, PMeta, ConstTree, CBool, CMeta, TermTree, TermF, TermP, TermC}
use Rattle.kola_term.specs.Typing.{Context, MetaTree, MFun, MPred, MConst, out, is_typed, const_type}
use Rattle.kola_term.specs.ContextView.{meta_entry, context_of}
use Rattle.kola_term.specs.declared.meta.MetaTy.{MetaTy}
use Rattle.kola_term.proofs.Inversions.{some_same, same_name-equal}
use Rattle.kola_match.specs.Substitutions.{Substitution, sub_type, sub_types, inst, HasMetaType, IsTyped}
use Rattle.kola_match.specs.Occurring.{variable}
use Rattle.kola_match.specs.Binds.{Found, GivesFound, Extends, or_else, substitution_of, funs_in, preds_in, consts_in, binds}
use Rattle.kola_match.specs.Pairs.{Sides, AllGive}
use Rattle.kola_match.specs.Alike.{first_like, same_kind}
use Rattle.kola_match.specs.Instances.{Instance, Decided, HasVariables, input_under, given_by}
use Rattle.kola_match.specs.Giving.{given, given_entry}
use Rattle.kola_match.specs.Spotting.{AllDeclared, AllOccurOn, AllPatternsTyped}
use Rattle.kola_match.specs.SubstViews.{terms_of}
use Rattle.kola_match.proofs.BindLaws.{like_fun, like_pred, like_const}
use Rattle.kola_match.proofs.AgreeingLaws.{same_inst, AgreeOnAll, agree_on_all, declared_where}

-- ---- one by one

-- a field with its type under s
abbrev pub field_under : Substitution → List ℕ × TypeTree → List ℕ × TypeTree
field_under s e = (e.0, sub_type s.types e.1)

pub fields_given : (s : Substitution) (xs : List (Name × Ty)) → of_type_fields (map (λ x. field_under s (type_entry x)) xs) ≡ sub_types s.types (of_type_fields (map type_entry xs))
fields_given s [] = refl
fields_given s (x ∷ xs) = ap (TField x.0 (sub_type s.types (type_tree x.1))) (fields_given s xs)

pub given_seen : (s : Substitution) (ms : List (Name × MetaTy)) → map (λ m. given_entry s (meta_entry m)) ms ≡ given s (context_of ms)
given_seen s [] = refl
given_seen s (m ∷ ms) = ap (λ l. given_entry s (meta_entry m) ∷ l) (given_seen s ms)

-- ---- a variable is told by its name and its kind

same_variable : (n k : List ℕ) (m p : MetaTree) (s : Substitution) → same_kind (variable n m) (inst s (variable k p)) ≡ true → variable n m ≡ variable n p
same_variable n k (MFun a b) (MFun c d) s e = refl
same_variable n k (MPred a) (MPred c) s e = refl
same_variable n k (MConst a) (MConst c) s e = refl
same_variable n k (MFun a b) (MPred c) s e = absurd (cc)
same_variable n k (MFun a b) (MConst c) s e = absurd (cc)
same_variable n k (MPred a) (MFun c d) s e = absurd (cc)
same_variable n k (MPred a) (MConst c) s e = absurd (cc)
same_variable n k (MConst a) (MFun c d) s e = absurd (cc)
same_variable n k (MConst a) (MPred c) s e = absurd (cc)

kind_given : (n k : List ℕ) (m : MetaTree) (s : Substitution) → same_kind (variable n m) (inst s (variable k m)) ≡ true
kind_given n k (MFun a b) s = refl
kind_given n k (MPred a) s = refl
kind_given n k (MConst a) s = refl

-- ---- the terms of one kind

fun_look : (t f : FunTree) (n : List ℕ) (es : Found TermTree) → first_like (TermF t) n es ≡ Some (TermF f) → look_up n (funs_in es) ≡ Some f
fun_look t f n es e = back (look_up n (funs_in es)) (sym (like_fun t n es) ∙ e)
  where
    back : (o : Option FunTree) → option_map TermF o ≡ Some (TermF f) → o ≡ Some f
    back (Some g) h = cc
    back None h = absurd (cc)

pred_look : (t f : PredTree) (n : List ℕ) (es : Found TermTree) → first_like (TermP t) n es ≡ Some (TermP f) → look_up n (preds_in es) ≡ Some f
pred_look t f n es e = back (look_up n (preds_in es)) (sym (like_pred t n es) ∙ e)
  where
    back : (o : Option PredTree) → option_map TermP o ≡ Some (TermP f) → o ≡ Some f
    back (Some g) h = cc
    back None h = absurd (cc)

const_look : (t f : ConstTree) (n : List ℕ) (es : Found TermTree) → first_like (TermC t) n es ≡ Some (TermC f) → look_up n (consts_in es) ≡ Some f
const_look t f n es e = back (look_up n (consts_in es)) (sym (like_const t n es) ∙ e)
  where
    back : (o : Option ConstTree) → option_map TermC o ≡ Some (TermC f) → o ≡ Some f
    back (Some g) h = cc
    back None h = absurd (cc)

-- ---- what s gives

module _ (s : Substitution) where
  given_found : (n : List ℕ) (vs : Context) → look_up n (given s vs) ≡ option_map (given_by s n) (look_up n vs)
  given_found n [] = refl
  given_found n (v ∷ vs) = at (given_found n vs) (bytes_eq n v.0) refl
    where
      at : look_up n (given s vs) ≡ option_map (given_by s n) (look_up n vs) → (c : Bool) → bytes_eq n v.0 ≡ c
          → cond c (Some (given_by s v.0 v.1)) (look_up n (given s vs)) ≡ option_map (given_by s n) (cond c (Some v.1) (look_up n vs))
      at r true q = ap (λ z. Some (given_by s z v.1)) (sym (same_name-equal n v.0 q))
      at r false q = r

  like_given : (n : List ℕ) (m : MetaTree) (vs : Context) → look_up n vs ≡ Some m → first_like (variable n m) n (terms_of (given s vs)) ≡ Some (inst s (variable n m))
  like_given n m [] e = absurd (cc)
  like_given n m (v ∷ vs) e = at (λ q. like_given n m vs q) (bytes_eq n v.0) refl e
    where
      at : (look_up n vs ≡ Some m → first_like (variable n m) n (terms_of (given s vs)) ≡ Some (inst s (variable n m))) → (c : Bool) → bytes_eq n v.0 ≡ c → cond c (Some v.1) (look_up n vs) ≡ Some m
          → cond (c && same_kind (variable n m) (inst s (variable v.0 v.1))) (Some (inst s (variable v.0 v.1))) (first_like (variable n m) n (terms_of (given s vs))) ≡ Some (inst s (variable n m))
      at r true q e =
          let rest = first_like (variable n m) n (terms_of (given s vs)) in
          subst (λ z. cond (same_kind (variable n m) (inst s (variable z v.1))) (Some (inst s (variable z v.1))) rest ≡ Some (inst s (variable n m))) (same_name-equal n v.0 q)
          (subst (λ z. cond (same_kind (variable n m) (inst s (variable n z))) (Some (inst s (variable n z))) rest ≡ Some (inst s (variable n m))) (sym (some_same v.1 m e))
          (ap (λ c. cond c (Some (inst s (variable n m))) rest) (kind_given n n m s)))
      at r false q e = r e

  given_like : (o : Substitution) (n : List ℕ) (m : MetaTree) (u : TermTree) (vs : Context) → first_like (variable n m) n (terms_of (given s vs)) ≡ Some u → AgreeOnAll o s vs → inst o (variable n m) ≡ u
  given_like o n m u [] e h = absurd (cc)
  given_like o n m u (v ∷ vs) e h = at (λ q. given_like o n m u vs q h.1) (bytes_eq n v.0) refl (same_kind (variable n m) (inst s (variable v.0 v.1))) refl e
    where
      at : (first_like (variable n m) n (terms_of (given s vs)) ≡ Some u → inst o (variable n m) ≡ u) → (c : Bool) → bytes_eq n v.0 ≡ c → (d : Bool) → same_kind (variable n m) (inst s (variable v.0 v.1)) ≡ d
          → cond (c && d) (Some (inst s (variable v.0 v.1))) (first_like (variable n m) n (terms_of (given s vs))) ≡ Some u → inst o (variable n m) ≡ u
      at r true q true k e =
          ap (inst o) (same_variable n v.0 m v.1 s k ∙ ap (λ z. variable z v.1) (same_name-equal n v.0 q)) ∙ (h.0 ∙ some_same (inst s (variable v.0 v.1)) u e)
      at r true q false k e = r e
      at r false q d k e = r e

  -- a substitution that agrees with s extends what s gives
  extends_given : (o : Substitution) (ts : Found TypeTree) (vs : Context) → GivesFound o.types ts → AgreeOnAll o s vs → Extends o (binds ts (terms_of (given s vs)))
  extends_given o ts vs t h =
      let es = terms_of (given s vs) in (
        t,
        λ n f e. let p : TermF (o.funs n) ≡ TermF f = given_like o n (MFun TUnit TUnit) (TermF f) vs (like_fun (FMeta n) n es ∙ ap (option_map TermF) e) h in cc,
        λ n f e. let p : TermP (o.preds n) ≡ TermP f = given_like o n (MPred TUnit) (TermP f) vs (like_pred (PMeta n) n es ∙ ap (option_map TermP) e) h in cc,
        λ n f e. let p : TermC (o.consts n) ≡ TermC f = given_like o n (MConst TUnit) (TermC f) vs (like_const (CMeta n) n es ∙ ap (option_map TermC) e) h in cc,
      )

  -- the substitution of what s gives is s on the declared variables
  given_is : (ts : Found TypeTree) (n : List ℕ) (m : MetaTree) (vs : Context) → look_up n vs ≡ Some m → inst (substitution_of (binds ts (terms_of (given s vs)))) (variable n m) ≡ inst s (variable n m)
  given_is ts n (MFun a c) vs e = ap (λ o. TermF (or_else FId o)) (fun_look (FMeta n) (s.funs n) n (terms_of (given s vs)) (like_given n (MFun a c) vs e))
  given_is ts n (MPred a) vs e = ap (λ o. TermP (or_else PEq o)) (pred_look (PMeta n) (s.preds n) n (terms_of (given s vs)) (like_given n (MPred a) vs e))
  given_is ts n (MConst a) vs e = ap (λ o. TermC (or_else (CBool true) o)) (const_look (CMeta n) (s.consts n) n (terms_of (given s vs)) (like_given n (MConst a) vs e))

-- ---- what was found

module _ (S : Classes) (x vars : Context) (input T : TypeTree) (sides : Sides) (patterns : AllPatternsTyped S vars input sides) (occur : AllOccurOn sides vars) (declared : AllDeclared vars vars) (ts : Found TypeTree) (es : Found TermTree) where
  abbrev s : Substitution
  s = substitution_of (binds ts es)

  abbrev copied : Substitution
  copied = substitution_of (binds ts (terms_of (given s vars)))

  meta_given : (n : List ℕ) (m : MetaTree) → inst copied (variable n m) ≡ inst s (variable n m) → HasMetaType S x s n m → HasMetaType S x copied n m
  meta_given n (MFun a c) e h = let p : copied.funs n ≡ s.funs n = cc in ap (λ f. out S x f (sub_type s.types a)) p ∙ h
  meta_given n (MPred a) e h = let p : copied.preds n ≡ s.preds n = cc in ap (λ f. is_typed S x f (sub_type s.types a)) p ∙ h
  meta_given n (MConst a) e h = let p : copied.consts n ≡ s.consts n = cc in ap (const_type S x) p ∙ h

  typed_given : (vs : Context) → AllDeclared vars vs → IsTyped S x s vs → IsTyped S x copied vs
  typed_given [] d h = tt
  typed_given (v ∷ vs) d h = (meta_given v.0 v.1 (given_is s ts v.0 v.1 vars d.0) h.0, typed_given vs d.1 h.1)

  gives_given : (as' : Sides) → AllPatternsTyped S vars input as' → AllGive s as' → AllGive copied as'
  gives_given [] p h = tt
  gives_given (a ∷ as') p h = (
    same_inst copied s a.0 (λ v e.
        let d = declared_where S vars e.0 a.0 input v.0 v.1 p.0 e.1 in
        ap (inst copied) d.2 ∙ (given_is s ts v.0 d.0 vars d.1 ∙ ap (inst s) (sym d.2))) ∙ h.0,
    gives_given as' p.1 h.1,
  )

  pub given_decided : Decided S x vars input T sides (Some (binds ts es)) → Decided S x vars input T sides (Some (binds ts (terms_of (given s vars))))
  given_decided d = (
    record { typed = typed_given vars declared d.0.typed; input_is = d.0.input_is; gives = gives_given sides patterns d.0.gives },
    λ o (i : Instance S x vars input T sides o). extends_given s o ts vars (d.1 o i).0 (agree_on_all o s sides vars i.gives d.0.gives occur),
  )

  input_same : (m : MetaTree) → input_under s m ≡ input_under copied m
  input_same (MFun a c) = refl
  input_same (MPred a) = refl
  input_same (MConst a) = refl

  pub given_variables : HasVariables vars copied (given s vars)
  given_variables n = given_found s n vars ∙ same (look_up n vars) refl
    where
      same : (o : Option MetaTree) → look_up n vars ≡ o → option_map (given_by s n) o ≡ option_map (given_by copied n) o
      same (Some m) e = λ i. Some (sym (given_is s ts n m vars e) i, input_same m i)
      same None e = refl
