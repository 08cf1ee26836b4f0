-- Answers of the typing made of those of the parts.
use Rattle.std.proofs.Common.{◌≡◌, ℕ, Bool, true, false, cond, ◌&&◌, Option, Some, None, refl, ap, ap₂, ◌∙◌, option_and_then, List}
use Rattle.std.specs.Str.{bytes_eq}
use Rattle.std.proofs.lemmas.Slice.Eq.{bytes_eq-Decides}
use Rattle.kola_values.specs.Types.{TypeTree, TInt, TStr, TBool, TUnit, TClass, TVar, TSet, TPair, TStruct, FieldTypes, TEnd, TField, same_type, same_types}
use Rattle.kola_term.specs.Typing.{MetaTree, MFun, MPred, MConst, the_if, pair_of, one_of, nest_of, when, is_some_type, fun_of, pred_of}
use Rattle.kola_term.proofs.Inversions.{same_ty-equal, some_same}

pub same_name_itself : (n : List ℕ) → bytes_eq n n ≡ true
same_name_itself n = (bytes_eq-Decides n n).1 refl

mutual
  pub same_ty_itself : (t : TypeTree) → same_type t t ≡ true
  same_ty_itself TInt = refl
  same_ty_itself TStr = refl
  same_ty_itself TBool = refl
  same_ty_itself TUnit = refl
  same_ty_itself (TClass a) = same_name_itself a
  same_ty_itself (TVar a) = same_name_itself a
  same_ty_itself (TSet t) = same_ty_itself t
  same_ty_itself (TPair t u) = ap₂ (λ a b. a && b) (same_ty_itself t) (same_ty_itself u)
  same_ty_itself (TStruct f) = same_fields_itself f

  pub same_fields_itself : (f : FieldTypes) → same_types f f ≡ true
  same_fields_itself TEnd = refl
  same_fields_itself (TField l t f) = ap₂ (λ a b. a && b) (ap₂ (λ a b. a && b) (same_name_itself l) (same_ty_itself t)) (same_fields_itself f)

pub bind : {A B : Type 0} (k : A → Option B) (o : Option A) (a : A) (r : Option B) → o ≡ Some a → k a ≡ r → option_and_then k o ≡ r
bind k o a r e h = ap (option_and_then k) e ∙ h

pub then_if : (b : Bool) (o : Option TypeTree) (t : TypeTree) → b ≡ true → o ≡ Some t → the_if b o ≡ Some t
then_if b o t e h = ap₂ the_if e h

pub pair_is : (o p : Option TypeTree) (t u : TypeTree) → o ≡ Some t → p ≡ Some u → pair_of o p ≡ Some (TPair t u)
pair_is o p t u e h = ap₂ pair_of e h

pub one_is : (o p : Option TypeTree) (t : TypeTree) → o ≡ Some t → p ≡ Some t → one_of o p ≡ Some t
one_is o p t e h = ap₂ one_of e h ∙ ap (λ b. cond b (Some t) None) (same_ty_itself t)

pub nest_is : (o p : Option TypeTree) (x u v : TypeTree) → o ≡ Some u → p ≡ Some v → nest_of o p (TPair x u) ≡ Some (TSet (TPair u (TSet v)))
nest_is o p x u v e h = ap₂ (λ a b. nest_of a b (TPair x u)) e h ∙ ap (λ b. cond b (Some (TSet (TPair u (TSet v)))) None) (same_ty_itself u)

pub when_is : (o : Option TypeTree) (k : TypeTree → Bool) (t : TypeTree) → o ≡ Some t → k t ≡ true → when o k ≡ true
when_is o k t e h = ap (λ a. when a k) e ∙ h

pub some_ty : (o : Option TypeTree) → is_some_type o ≡ true → (t : TypeTree) × (o ≡ Some t)
some_ty (Some t) e = (t, refl)
some_ty None e = absurd (cc)

pub fun_some : (o : Option MetaTree) (t u : TypeTree) → fun_of o t ≡ Some u → (o ≡ Some (MFun t u))
fun_some (Some (MFun a b)) t u e = at (same_type a t) refl e
  where
    at : (c : Bool) → same_type a t ≡ c → cond c (Some b) None ≡ Some u → Some (MFun a b) ≡ Some (MFun t u)
    at true q k = ap Some (ap₂ MFun (same_ty-equal a t q) (some_same b u k))
    at false q k = absurd (cc)
fun_some (Some (MPred a)) t u e = absurd (cc)
fun_some (Some (MConst a)) t u e = absurd (cc)
fun_some None t u e = absurd (cc)

pub pred_some : (o : Option MetaTree) (t : TypeTree) → pred_of o t ≡ true → (o ≡ Some (MPred t))
pred_some (Some (MPred a)) t e = ap (λ z. Some (MPred z)) (same_ty-equal a t e)
pred_some (Some (MFun a b)) t e = absurd (cc)
pred_some (Some (MConst a)) t e = absurd (cc)
pred_some None t e = absurd (cc)
