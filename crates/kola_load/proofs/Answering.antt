-- A fault that a call hands on.
use Rattle.std.proofs.Common.{◌≡◌, Some, Result, Ok, Err, subst, sym, ◌∙◌}
use Rattle.std.specs.Result.{IsErrAnd, IfErr}
use Rattle.std.proofs.lemmas.Result.{err_from_is_err_and}
use Rattle.kola_load.specs.Calls.{Finds}
use Rattle.kola_load.specs.Loading.{Test}
use Rattle.kola_load.specs.declared.fault.DbFault.{DbFault}
use Rattle.kola_load.specs.declared.fault.DbFault.TheVariants.{Memory}

pub handed_on : {T : Type 0} (fault : Test) (P : T → Type 0) (r : Result T DbFault) (e : DbFault) → IsErrAnd r (λ y. y ≡ e) → ((e ≡ Memory → ⊥) → fault ≡ Some e) → Finds fault P r
handed_on fault P r e h k =
    let p = err_from_is_err_and r h in
    subst (Finds fault P) (sym p.1) (λ n. subst (λ f. fault ≡ Some f) (sym p.2) (k (λ m. n (p.2 ∙ m))))

-- the same answer to another question with the same fault
pub finds_for : {T : Type 0} (fault test : Test) (P Q : T → Type 0) → fault ≡ test → ((x : T) → P x → Q x) → (r : Result T DbFault) → Finds fault P r → Finds test Q r
finds_for fault test P Q e f (Ok x) h = (sym e ∙ h.0, f x h.1)
finds_for fault test P Q e f (Err y) h = λ n. sym e ∙ h n

-- what is said of a fault is said of it where it is handed on
pub said_of : {T : Type 0} (Q : DbFault → Type 0) (r : Result T DbFault) (e : DbFault) → IsErrAnd r (λ y. y ≡ e) → Q e → IfErr r Q
said_of Q r e h q =
    let p = err_from_is_err_and r h in
    subst (λ s. IfErr s Q) (sym p.1) (subst Q (sym p.2) q)
