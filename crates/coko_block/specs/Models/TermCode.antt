-- How a proof tells terms apart: a term as a tree of numbers, and back.
use Rattle.std.specs.Prelude.{◌≡◌, ℕ, ℤ, pos, negsuc, Bool, true, false, List, [], ◌∷◌, refl}
use Rattle.std.proofs.Common.{ap, zero, suc}
use base.Stored.{Gv, gnil, gnum, gcons, Coded}
use Rattle.kola_values.specs.Values.{ValueTree, VUnit, VInt, VBool, VStr, VObj, VPair, VStruct, VSet, MemberValues, VNone, VMore, FieldValues, VEnd, VField}
use Rattle.kola_term.specs.Terms.{ConstTree, CInt, CBool, CStr, CSet, CExtent, CMeta, FunTree, FId, FFst, FSnd, FFlat, FUnion, FIsect, FMinus, FAttr, FComp, FPair, FTimes, FK, FC, FIf, FIterate, FIter, FJoin, FNest, FUnnest, FMeta, PredTree, PEq, PLt, PLe, PMember, PAt, PAnd, POr, PNot, PInv, PKP, PCP, PEx, PFa, PMeta, TermTree, TermF, TermP, TermC}

abbrev pub gv_code : Coded Gv
gv_code = record { code = λ g. g; inj = λ x y p. p }

-- ---- numbers, texts, truth values

abbrev pub stored_bytes : List ℕ → Gv
stored_bytes [] = gnil
stored_bytes (b ∷ bs) = gcons (gnum b) (stored_bytes bs)

abbrev number : Gv → ℕ
number (gnum n) = n
number _ = zero

abbrev pub read_bytes : Gv → List ℕ
read_bytes (gcons b bs) = number b ∷ read_bytes bs
read_bytes _ = []

abbrev stored_int : ℤ → Gv
stored_int (pos n) = gnum n
stored_int (negsuc n) = gcons (gnum n) gnil

abbrev read_int : Gv → ℤ
read_int (gnum n) = pos n
read_int (gcons n _) = negsuc (number n)
read_int _ = pos zero

abbrev pub stored_bit : Bool → Gv
stored_bit false = gnum 0
stored_bit true = gnum 1

abbrev pub read_bit : Gv → Bool
read_bit (gnum zero) = false
read_bit _ = true

pub read_bytes-stored : (bs : List ℕ) → read_bytes (stored_bytes bs) ≡ bs
read_bytes-stored [] = refl
read_bytes-stored (b ∷ bs) = ap (λ l. b ∷ l) (read_bytes-stored bs)

read_int-stored : (n : ℤ) → read_int (stored_int n) ≡ n
read_int-stored (pos n) = refl
read_int-stored (negsuc n) = refl

pub read_bit-stored : (b : Bool) → read_bit (stored_bit b) ≡ b
read_bit-stored false = refl
read_bit-stored true = refl

-- ---- values

abbrev mutual
  stored_value : ValueTree → Gv
  stored_value VUnit = gnum 0
  stored_value (VInt n) = gcons (gnum 0) (stored_int n)
  stored_value (VBool b) = gcons (gnum 1) (stored_bit b)
  stored_value (VStr s) = gcons (gnum 2) (stored_bytes s)
  stored_value (VObj c i) = gcons (gnum 3) (gcons (stored_bytes c) (gnum i))
  stored_value (VPair v w) = gcons (gnum 4) (gcons (stored_value v) (stored_value w))
  stored_value (VStruct fs) = gcons (gnum 5) (stored_fields fs)
  stored_value (VSet vs) = gcons (gnum 6) (stored_members vs)

  stored_members : MemberValues → Gv
  stored_members VNone = gnil
  stored_members (VMore v vs) = gcons (stored_value v) (stored_members vs)

  stored_fields : FieldValues → Gv
  stored_fields VEnd = gnil
  stored_fields (VField l v fs) = gcons (gcons (stored_bytes l) (stored_value v)) (stored_fields fs)

abbrev mutual
  read_value : Gv → ValueTree
  read_value (gcons (gnum zero) n) = VInt (read_int n)
  read_value (gcons (gnum (suc zero)) b) = VBool (read_bit b)
  read_value (gcons (gnum (suc (suc zero))) s) = VStr (read_bytes s)
  read_value (gcons (gnum (suc (suc (suc zero)))) (gcons c i)) = VObj (read_bytes c) (number i)
  read_value (gcons (gnum (suc (suc (suc (suc zero))))) (gcons v w)) = VPair (read_value v) (read_value w)
  read_value (gcons (gnum (suc (suc (suc (suc (suc zero)))))) fs) = VStruct (read_fields fs)
  read_value (gcons (gnum (suc (suc (suc (suc (suc (suc zero))))))) vs) = VSet (read_members vs)
  read_value _ = VUnit

  read_members : Gv → MemberValues
  read_members (gcons v vs) = VMore (read_value v) (read_members vs)
  read_members _ = VNone

  read_fields : Gv → FieldValues
  read_fields (gcons (gcons l v) fs) = VField (read_bytes l) (read_value v) (read_fields fs)
  read_fields _ = VEnd

mutual
  read_value-stored : (v : ValueTree) → read_value (stored_value v) ≡ v
  read_value-stored VUnit = refl
  read_value-stored (VInt n) = λ i. VInt (read_int-stored n i)
  read_value-stored (VBool b) = λ i. VBool (read_bit-stored b i)
  read_value-stored (VStr s) = λ i. VStr (read_bytes-stored s i)
  read_value-stored (VObj c n) = λ i. VObj (read_bytes-stored c i) n
  read_value-stored (VPair v w) = λ i. VPair (read_value-stored v i) (read_value-stored w i)
  read_value-stored (VStruct fs) = λ i. VStruct (read_fields-stored fs i)
  read_value-stored (VSet vs) = λ i. VSet (read_members-stored vs i)

  read_members-stored : (vs : MemberValues) → read_members (stored_members vs) ≡ vs
  read_members-stored VNone = refl
  read_members-stored (VMore v vs) = λ i. VMore (read_value-stored v i) (read_members-stored vs i)

  read_fields-stored : (fs : FieldValues) → read_fields (stored_fields fs) ≡ fs
  read_fields-stored VEnd = refl
  read_fields-stored (VField l v fs) = λ i. VField (read_bytes-stored l i) (read_value-stored v i) (read_fields-stored fs i)

abbrev stored_values : List ValueTree → Gv
stored_values [] = gnil
stored_values (v ∷ vs) = gcons (stored_value v) (stored_values vs)

abbrev read_values : Gv → List ValueTree
read_values (gcons v vs) = read_value v ∷ read_values vs
read_values _ = []

read_values-stored : (vs : List ValueTree) → read_values (stored_values vs) ≡ vs
read_values-stored [] = refl
read_values-stored (v ∷ vs) = λ i. read_value-stored v i ∷ read_values-stored vs i

-- ---- terms

abbrev stored_const : ConstTree → Gv
stored_const (CInt n) = gcons (gnum 0) (stored_int n)
stored_const (CBool b) = gcons (gnum 1) (stored_bit b)
stored_const (CStr s) = gcons (gnum 2) (stored_bytes s)
stored_const (CSet vs) = gcons (gnum 3) (stored_values vs)
stored_const (CExtent n) = gcons (gnum 4) (stored_bytes n)
stored_const (CMeta n) = gcons (gnum 5) (stored_bytes n)

abbrev read_const : Gv → ConstTree
read_const (gcons (gnum zero) n) = CInt (read_int n)
read_const (gcons (gnum (suc zero)) b) = CBool (read_bit b)
read_const (gcons (gnum (suc (suc zero))) s) = CStr (read_bytes s)
read_const (gcons (gnum (suc (suc (suc zero)))) vs) = CSet (read_values vs)
read_const (gcons (gnum (suc (suc (suc (suc zero))))) n) = CExtent (read_bytes n)
read_const (gcons _ n) = CMeta (read_bytes n)
read_const _ = CBool true

read_const-stored : (c : ConstTree) → read_const (stored_const c) ≡ c
read_const-stored (CInt n) = λ i. CInt (read_int-stored n i)
read_const-stored (CBool b) = λ i. CBool (read_bit-stored b i)
read_const-stored (CStr s) = λ i. CStr (read_bytes-stored s i)
read_const-stored (CSet vs) = λ i. CSet (read_values-stored vs i)
read_const-stored (CExtent n) = λ i. CExtent (read_bytes-stored n i)
read_const-stored (CMeta n) = λ i. CMeta (read_bytes-stored n i)

abbrev mutual
  stored_fun : FunTree → Gv
  stored_fun FId = gnum 0
  stored_fun FFst = gnum 1
  stored_fun FSnd = gnum 2
  stored_fun FFlat = gnum 3
  stored_fun FUnion = gnum 4
  stored_fun FIsect = gnum 5
  stored_fun FMinus = gnum 6
  stored_fun (FAttr n) = gcons (gnum 0) (stored_bytes n)
  stored_fun (FComp f g) = gcons (gnum 1) (gcons (stored_fun f) (stored_fun g))
  stored_fun (FPair f g) = gcons (gnum 2) (gcons (stored_fun f) (stored_fun g))
  stored_fun (FTimes f g) = gcons (gnum 3) (gcons (stored_fun f) (stored_fun g))
  stored_fun (FK c) = gcons (gnum 4) (stored_const c)
  stored_fun (FC f c) = gcons (gnum 5) (gcons (stored_fun f) (stored_const c))
  stored_fun (FIf p f g) = gcons (gnum 6) (gcons (stored_pred p) (gcons (stored_fun f) (stored_fun g)))
  stored_fun (FIterate p f) = gcons (gnum 7) (gcons (stored_pred p) (stored_fun f))
  stored_fun (FIter p f) = gcons (gnum 8) (gcons (stored_pred p) (stored_fun f))
  stored_fun (FJoin p f) = gcons (gnum 9) (gcons (stored_pred p) (stored_fun f))
  stored_fun (FNest f g) = gcons (gnum 10) (gcons (stored_fun f) (stored_fun g))
  stored_fun (FUnnest f g) = gcons (gnum 11) (gcons (stored_fun f) (stored_fun g))
  stored_fun (FMeta n) = gcons (gnum 12) (stored_bytes n)

  stored_pred : PredTree → Gv
  stored_pred PEq = gnum 0
  stored_pred PLt = gnum 1
  stored_pred PLe = gnum 2
  stored_pred PMember = gnum 3
  stored_pred (PAt p f) = gcons (gnum 0) (gcons (stored_pred p) (stored_fun f))
  stored_pred (PAnd p q) = gcons (gnum 1) (gcons (stored_pred p) (stored_pred q))
  stored_pred (POr p q) = gcons (gnum 2) (gcons (stored_pred p) (stored_pred q))
  stored_pred (PNot p) = gcons (gnum 3) (stored_pred p)
  stored_pred (PInv p) = gcons (gnum 4) (stored_pred p)
  stored_pred (PKP b) = gcons (gnum 5) (stored_bit b)
  stored_pred (PCP p c) = gcons (gnum 6) (gcons (stored_pred p) (stored_const c))
  stored_pred (PEx p) = gcons (gnum 7) (stored_pred p)
  stored_pred (PFa p) = gcons (gnum 8) (stored_pred p)
  stored_pred (PMeta n) = gcons (gnum 9) (stored_bytes n)

abbrev mutual
  read_fun : Gv → FunTree
  read_fun (gnum zero) = FId
  read_fun (gnum (suc zero)) = FFst
  read_fun (gnum (suc (suc zero))) = FSnd
  read_fun (gnum (suc (suc (suc zero)))) = FFlat
  read_fun (gnum (suc (suc (suc (suc zero))))) = FUnion
  read_fun (gnum (suc (suc (suc (suc (suc zero)))))) = FIsect
  read_fun (gnum (suc (suc (suc (suc (suc (suc zero))))))) = FMinus
  read_fun (gcons (gnum zero) n) = FAttr (read_bytes n)
  read_fun (gcons (gnum (suc zero)) (gcons f g)) = FComp (read_fun f) (read_fun g)
  read_fun (gcons (gnum (suc (suc zero))) (gcons f g)) = FPair (read_fun f) (read_fun g)
  read_fun (gcons (gnum (suc (suc (suc zero)))) (gcons f g)) = FTimes (read_fun f) (read_fun g)
  read_fun (gcons (gnum (suc (suc (suc (suc zero))))) c) = FK (read_const c)
  read_fun (gcons (gnum (suc (suc (suc (suc (suc zero)))))) (gcons f c)) = FC (read_fun f) (read_const c)
  read_fun (gcons (gnum (suc (suc (suc (suc (suc (suc zero))))))) (gcons p (gcons f g))) = FIf (read_pred p) (read_fun f) (read_fun g)
  read_fun (gcons (gnum (suc (suc (suc (suc (suc (suc (suc zero)))))))) (gcons p f)) = FIterate (read_pred p) (read_fun f)
  read_fun (gcons (gnum (suc (suc (suc (suc (suc (suc (suc (suc zero))))))))) (gcons p f)) = FIter (read_pred p) (read_fun f)
  read_fun (gcons (gnum (suc (suc (suc (suc (suc (suc (suc (suc (suc zero)))))))))) (gcons p f)) = FJoin (read_pred p) (read_fun f)
  read_fun (gcons (gnum (suc (suc (suc (suc (suc (suc (suc (suc (suc (suc zero))))))))))) (gcons f g)) = FNest (read_fun f) (read_fun g)
  read_fun (gcons (gnum (suc (suc (suc (suc (suc (suc (suc (suc (suc (suc (suc zero)))))))))))) (gcons f g)) = FUnnest (read_fun f) (read_fun g)
  read_fun (gcons (gnum (suc (suc (suc (suc (suc (suc (suc (suc (suc (suc (suc (suc zero))))))))))))) n) = FMeta (read_bytes n)
  read_fun _ = FId

  read_pred : Gv → PredTree
  read_pred (gnum zero) = PEq
  read_pred (gnum (suc zero)) = PLt
  read_pred (gnum (suc (suc zero))) = PLe
  read_pred (gnum (suc (suc (suc zero)))) = PMember
  read_pred (gcons (gnum zero) (gcons p f)) = PAt (read_pred p) (read_fun f)
  read_pred (gcons (gnum (suc zero)) (gcons p q)) = PAnd (read_pred p) (read_pred q)
  read_pred (gcons (gnum (suc (suc zero))) (gcons p q)) = POr (read_pred p) (read_pred q)
  read_pred (gcons (gnum (suc (suc (suc zero)))) p) = PNot (read_pred p)
  read_pred (gcons (gnum (suc (suc (suc (suc zero))))) p) = PInv (read_pred p)
  read_pred (gcons (gnum (suc (suc (suc (suc (suc zero)))))) b) = PKP (read_bit b)
  read_pred (gcons (gnum (suc (suc (suc (suc (suc (suc zero))))))) (gcons p c)) = PCP (read_pred p) (read_const c)
  read_pred (gcons (gnum (suc (suc (suc (suc (suc (suc (suc zero)))))))) p) = PEx (read_pred p)
  read_pred (gcons (gnum (suc (suc (suc (suc (suc (suc (suc (suc zero))))))))) p) = PFa (read_pred p)
  read_pred (gcons (gnum (suc (suc (suc (suc (suc (suc (suc (suc (suc zero)))))))))) n) = PMeta (read_bytes n)
  read_pred _ = PEq

mutual
  read_fun-stored : (f : FunTree) → read_fun (stored_fun f) ≡ f
  read_fun-stored FId = refl
  read_fun-stored FFst = refl
  read_fun-stored FSnd = refl
  read_fun-stored FFlat = refl
  read_fun-stored FUnion = refl
  read_fun-stored FIsect = refl
  read_fun-stored FMinus = refl
  read_fun-stored (FAttr n) = λ i. FAttr (read_bytes-stored n i)
  read_fun-stored (FComp f g) = λ i. FComp (read_fun-stored f i) (read_fun-stored g i)
  read_fun-stored (FPair f g) = λ i. FPair (read_fun-stored f i) (read_fun-stored g i)
  read_fun-stored (FTimes f g) = λ i. FTimes (read_fun-stored f i) (read_fun-stored g i)
  read_fun-stored (FK c) = λ i. FK (read_const-stored c i)
  read_fun-stored (FC f c) = λ i. FC (read_fun-stored f i) (read_const-stored c i)
  read_fun-stored (FIf p f g) = λ i. FIf (read_pred-stored p i) (read_fun-stored f i) (read_fun-stored g i)
  read_fun-stored (FIterate p f) = λ i. FIterate (read_pred-stored p i) (read_fun-stored f i)
  read_fun-stored (FIter p f) = λ i. FIter (read_pred-stored p i) (read_fun-stored f i)
  read_fun-stored (FJoin p f) = λ i. FJoin (read_pred-stored p i) (read_fun-stored f i)
  read_fun-stored (FNest f g) = λ i. FNest (read_fun-stored f i) (read_fun-stored g i)
  read_fun-stored (FUnnest f g) = λ i. FUnnest (read_fun-stored f i) (read_fun-stored g i)
  read_fun-stored (FMeta n) = λ i. FMeta (read_bytes-stored n i)

  read_pred-stored : (p : PredTree) → read_pred (stored_pred p) ≡ p
  read_pred-stored PEq = refl
  read_pred-stored PLt = refl
  read_pred-stored PLe = refl
  read_pred-stored PMember = refl
  read_pred-stored (PAt p f) = λ i. PAt (read_pred-stored p i) (read_fun-stored f i)
  read_pred-stored (PAnd p q) = λ i. PAnd (read_pred-stored p i) (read_pred-stored q i)
  read_pred-stored (POr p q) = λ i. POr (read_pred-stored p i) (read_pred-stored q i)
  read_pred-stored (PNot p) = λ i. PNot (read_pred-stored p i)
  read_pred-stored (PInv p) = λ i. PInv (read_pred-stored p i)
  read_pred-stored (PKP b) = λ i. PKP (read_bit-stored b i)
  read_pred-stored (PCP p c) = λ i. PCP (read_pred-stored p i) (read_const-stored c i)
  read_pred-stored (PEx p) = λ i. PEx (read_pred-stored p i)
  read_pred-stored (PFa p) = λ i. PFa (read_pred-stored p i)
  read_pred-stored (PMeta n) = λ i. PMeta (read_bytes-stored n i)

abbrev pub stored_term : TermTree → Gv
stored_term (TermF f) = gcons (gnum 0) (stored_fun f)
stored_term (TermP p) = gcons (gnum 1) (stored_pred p)
stored_term (TermC c) = gcons (gnum 2) (stored_const c)

abbrev pub read_term : Gv → TermTree
read_term (gcons (gnum zero) f) = TermF (read_fun f)
read_term (gcons (gnum (suc zero)) p) = TermP (read_pred p)
read_term (gcons _ c) = TermC (read_const c)
read_term _ = TermF FId

pub read_term-stored : (t : TermTree) → read_term (stored_term t) ≡ t
read_term-stored (TermF f) = λ i. TermF (read_fun-stored f i)
read_term-stored (TermP p) = λ i. TermP (read_pred-stored p i)
read_term-stored (TermC c) = λ i. TermC (read_const-stored c i)
