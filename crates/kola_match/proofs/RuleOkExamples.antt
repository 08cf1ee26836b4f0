-- Rules that are well typed, and rules that are not.
use Rattle.std.specs.Prelude.{ℕ, List, [], ◌∷◌, codes, refl}
use Rattle.std.proofs.Common.{true≢false, sym, inl, inr}
use Rattle.kola_values.specs.Types.{TypeTree, TInt, TStr, TClass, TVar, TPair}
use Rattle.kola_values.specs.Databases.{Classes}
use Rattle.kola_term.specs.Terms.{FFst, FSnd, FComp, FMeta, PEq, TermF, TermP}
use Rattle.kola_term.specs.Typing.{MFun}
use Rattle.kola_term.specs.Faults.{small}
use Rattle.kola_rule.specs.Rules.{RuleTree}
use Rattle.kola_match.specs.RuleOk.{RuleOk}
use Rattle.kola_match.proofs.Occurring.{is_found}
use Rattle.kola_match.proofs.RuleTested.{tested}

abbrev schema : Classes
schema = record { name = codes "Person"; extent = codes "Persons"; attributes = (codes "ssn", TStr) ∷ []; keys = [] } ∷ []

abbrev f : List ℕ
f = codes "f"

abbrev person : TypeTree
person = TClass (codes "Person")

-- same (f: Person -> a) at (Person, int) when inj(f): (f o fst) = (f o fst)
abbrev good : RuleTree
good = record { name = codes "same"; vars = (f, MFun person (TVar (codes "a"))) ∷ []; input = TPair person TInt; when = f ∷ []; left = TermF (FComp (FMeta f) FFst); right = TermF (FComp (FMeta f) FFst) }

good_is : RuleOk schema good
unfolding small
good_is = tested schema good refl

-- the class is not of this schema
unknown_class : RuleOk [] good → ⊥
unknown_class r = true≢false (sym r.known)

-- the variable stands on no side
abbrev unused : RuleTree
unused = record good { left = TermF FFst; right = TermF FFst; when = [] }

unused_variable : RuleOk schema unused → ⊥
unused_variable r = elim r.occur.0 [
  | inl o ↦ true≢false (sym (is_found f (MFun person (TVar (codes "a"))) o.0 (TermF FFst) o.1))
  | inr o ↦ true≢false (sym (is_found f (MFun person (TVar (codes "a"))) o.0 (TermF FFst) o.1))
]

-- the sides have different output types
abbrev unlike : RuleTree
unlike = record good { vars = []; when = []; left = TermF FFst; right = TermF FSnd }

outputs_differ : RuleOk schema unlike → ⊥
outputs_differ r = absurd (let p = r.sides.1.fine.0 in let q = r.sides.2.fine.0 in cc)

-- a function beside a predicate
abbrev mixed : RuleTree
mixed = record good { vars = []; when = []; left = TermF FFst; right = TermP PEq }

kinds_differ : RuleOk schema mixed → ⊥
kinds_differ r = r.sides

-- the condition names no variable
abbrev no_function : RuleTree
no_function = record good { when = codes "g" ∷ [] }

condition_of_none : RuleOk schema no_function → ⊥
condition_of_none r = r.conditions.0
