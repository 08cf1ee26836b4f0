-- Substitutions of samples.
use Rattle.std.proofs.Common.{pos}
use Rattle.std.specs.Prelude.{◌≡◌, true, Some, None, [], ◌∷◌, codes, refl}
use Rattle.kola_values.specs.Types.{TInt, TStr, TClass, TVar, TSet, TPair, TStruct, TEnd, TField}
use Rattle.kola_values.specs.Databases.{Classes}
use Rattle.kola_term.specs.Terms.{CInt, CExtent, CMeta, FId, FFst, FSnd, FAttr, FComp, FPair, FK, FC, FIf, FIterate, FNest, FMeta, PEq, PLt, PAt, POr, PNot, PKP, PCP, PMeta, TermF, TermP, TermC}
use Rattle.kola_term.specs.Typing.{MFun, MPred, MConst}
use Rattle.kola_match.specs.Substitutions.{Substitution, sub_type, inst, IsTyped}
use Rattle.kola_match.specs.Instances.{given_by}

-- each type variable is pairs of it with numbers, each variable is made of its name
abbrev s : Substitution
s = record { types = λ n. TPair TInt (TVar n); funs = λ n. FComp FFst (FAttr n); preds = λ n. PAt PEq (FPair (FAttr n) FId); consts = λ n. CExtent n }

type_under : sub_type s.types (TSet (TPair (TVar (codes "a")) (TStruct (TField (codes "l") (TVar (codes "b")) TEnd)))) ≡ TSet (TPair (TPair TInt (TVar (codes "a"))) (TStruct (TField (codes "l") (TPair TInt (TVar (codes "b"))) TEnd)))
type_under = refl

class_under : sub_type s.types (TPair (TClass (codes "a")) TStr) ≡ TPair (TClass (codes "a")) TStr
class_under = refl

fun_under : inst s (TermF (FComp (FMeta (codes "f")) (FPair (FC FSnd (CMeta (codes "x"))) (FK (CInt (pos 5)))))) ≡ TermF (FComp (FComp FFst (FAttr (codes "f"))) (FPair (FC FSnd (CExtent (codes "x"))) (FK (CInt (pos 5)))))
fun_under = refl

loops_under : inst s (TermF (FIf (PKP true) (FIterate (PMeta (codes "p")) FId) (FNest (FMeta (codes "f")) (FAttr (codes "g"))))) ≡ TermF (FIf (PKP true) (FIterate (PAt PEq (FPair (FAttr (codes "p")) FId)) FId) (FNest (FComp FFst (FAttr (codes "f"))) (FAttr (codes "g"))))
loops_under = refl

pred_under : inst s (TermP (POr (PNot (PMeta (codes "p"))) (PCP PLt (CMeta (codes "x"))))) ≡ TermP (POr (PNot (PAt PEq (FPair (FAttr (codes "p")) FId))) (PCP PLt (CExtent (codes "x"))))
pred_under = refl

-- a name of one kind is not touched by what stands for another
const_under : inst s (TermC (CExtent (codes "x"))) ≡ TermC (CExtent (codes "x"))
const_under = refl

abbrev schema : Classes
schema = record { name = codes "Person"; extent = codes "Persons"; attributes = (codes "ssn", TStr) ∷ []; keys = [] } ∷ []

abbrev typed : Substitution
typed = record { types = λ n. TClass (codes "Person"); funs = λ n. FAttr (codes "ssn"); preds = λ n. PAt PEq (FPair FId FId); consts = λ n. CExtent (codes "Persons") }

is_typed : IsTyped schema [] typed ((codes "f", MFun (TVar (codes "a")) TStr) ∷ (codes "p", MPred (TVar (codes "a"))) ∷ (codes "x", MConst (TSet (TVar (codes "a")))) ∷ [])
is_typed = (refl, (refl, (refl, tt)))

-- the attribute has another type
not_typed : IsTyped schema [] typed ((codes "f", MFun (TVar (codes "a")) TInt) ∷ []) → ⊥
not_typed t = absurd (cc)

-- what a substitution gives for variables: the term, and the input type of a function or predicate
given_fun : given_by s (codes "f") (MFun (TSet (TVar (codes "a"))) TStr) ≡ (TermF (FComp FFst (FAttr (codes "f"))), Some (TSet (TPair TInt (TVar (codes "a")))))
given_fun = refl

given_pred : given_by s (codes "p") (MPred (TVar (codes "b"))) ≡ (TermP (PAt PEq (FPair (FAttr (codes "p")) FId)), Some (TPair TInt (TVar (codes "b"))))
given_pred = refl

given_const : given_by s (codes "x") (MConst (TVar (codes "b"))) ≡ (TermC (CExtent (codes "x")), None)
given_const = refl
