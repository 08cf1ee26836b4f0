-- When a translation fits at the unit, by its counts and by its types.
use Rattle.std.proofs.Common.{◌≡◌, ℕ, List, [], Some, None, sym, subst}
use Rattle.kola_values.specs.Types.{TypeTree, TUnit}
use Rattle.kola_values.specs.Databases.{Classes}
use Rattle.kola_term.specs.Terms.{FunTree, TermF}
use Rattle.kola_term.specs.ContextView.{context_of}
use Rattle.kola_term.specs.Faults.{Fine}
use Rattle.kola_term.specs.TypingAnswers.{IsFine}
use Rattle.kola_term.specs.declared.meta.MetaTy.{MetaTy}
use Rattle.oql_tree.specs.QueryTrees.{QueryTree}
use Rattle.kola_translate.specs.Translation.{translation}
use Rattle.kola_translate.specs.Building.{and_then, function_of, build}
use Rattle.kola_translate.specs.TranslationAnswers.{FitsAtUnit, IsCountable}
use Rattle.kola_translate.proofs.Answered.{way_made, way_refused}

pub counted_ok : (S : Classes) (e : QueryTree) (f : FunTree) (d m : ℕ) → and_then (build S [] e 0) (λ x k. function_of x.0 x.1 k) ≡ Some ((f, d), m) → (f ≡ translation S e) × IsCountable (translation S e)
counted_ok S e f d m h = let c = way_made S e f d m h in (c.is, (c.few, c.shallow))

pub counted_err : (S : Classes) (e : QueryTree) → and_then (build S [] e 0) (λ x k. function_of x.0 x.1 k) ≡ None → IsCountable (translation S e) → ⊥
counted_err S e h p = way_refused S e h p.0 p.1

pub fits_at : (S : Classes) (e : QueryTree) (f : FunTree) → (f ≡ translation S e) × IsCountable (translation S e) → IsFine S [] (TermF f) TUnit → (f ≡ translation S e) × FitsAtUnit S (translation S e)
fits_at S e f c h =
    let k = subst (λ g. IsFine S [] (TermF g) TUnit) c.0 h in
    (c.0, (k.0, record { few = c.1.0; shallow = c.1.1; fine = k.1 }))

pub not_counted : (S : Classes) (g : FunTree) → (IsCountable g → ⊥) → FitsAtUnit S g → ⊥
not_counted S g h k = h (k.1.few, k.1.shallow)

pub not_judged : (S : Classes) (f g : FunTree) → f ≡ g → (IsFine S [] (TermF f) TUnit → ⊥) → FitsAtUnit S g → ⊥
not_judged S f g e h k = h (subst (λ z. IsFine S [] (TermF z) TUnit) (sym e) (k.0, k.1.fine))

-- ---- typed without variables

pub fine_without : (S : Classes) (ms : List (List ℕ × MetaTy)) (f : FunTree) (u : TypeTree) → ms ≡ [] → Fine S (context_of ms) (TermF f) TUnit u → IsFine S [] (TermF f) TUnit
fine_without S ms f u e h = (u, subst (λ l. Fine S (context_of l) (TermF f) TUnit u) e h)

pub not_fine_without : (S : Classes) (ms : List (List ℕ × MetaTy)) (f : FunTree) → ms ≡ [] → (IsFine S (context_of ms) (TermF f) TUnit → ⊥) → IsFine S [] (TermF f) TUnit → ⊥
not_fine_without S ms f e h k = h (subst (λ l. IsFine S (context_of l) (TermF f) TUnit) (sym e) k)
