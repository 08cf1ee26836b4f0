-- From what each stage answers to the answer of the line.
use Rattle.std.proofs.Common.{◌≡◌, ℕ, List, true, Result, Ok, Err, IfErr, refl, sym, subst}
use Rattle.kola_top.specs.declared.refusal.Refusal.{Refusal}
use Rattle.kola_top.specs.declared.refusal.Refusal.TheVariants.{Layout, Missing, Schema, Rules, Rule, Query, QueryType, TermTooLarge, Database, Visits, Memory}
use Rattle.kola_top.specs.declared.status.Status.{Status}
use Rattle.kola_top.specs.Staged.{Says, Stage, Then, refused, onward, Nothing}
use Rattle.kola_top.specs.declared.asked.Asked.{Asked}
use Rattle.kola_top.specs.AskedViews.{IsAsked}
use Rattle.kola_top.specs.StageLine.{at_schema, at_rules_text, at_rules, at_query_text, at_query_type, at_size, FromQueryText}
use Rattle.kola_top.specs.Refusals.{of_schema, of_rules, of_file, of_query, of_check, of_translate, is_told, status_of, line_of, Refuses, Replies, IsOf, Passes}
use Rattle.std.specs.Result.{IsErrAnd}
use Rattle.kola_load.specs.SchemaAccepted.{greatest_nesting, IsFault}
use Rattle.kola_load.specs.declared.schema_fault.SchemaFault.{SchemaFault}
use Rattle.kola_load.specs.declared.schema_fault.SchemaFault.TheVariants.{At}
use Rattle.kola_load.specs.declared.schema_fault.SchemaFault.TheVariants as fault
use Rattle.kola_base.specs.Spelled.{IsFault as IsTextFault}
use Rattle.kola_base.specs.declared.text_fault.TextFault.{TextFault}
use Rattle.kola_base.specs.declared.text_fault.TextFault.TheVariants as text
use Rattle.kola_values.specs.Types.{TypeTree}
use Rattle.kola_values.specs.Databases.{Classes}
use Rattle.kola_rule.specs.Rules.{DraftTree}
use Rattle.kola_laws.specs.Laws.{laws}
use Rattle.coko_text.specs.RuleGrammar.{FileText}
use Rattle.coko_text.specs.Limits.{greatest_nesting as greatest_type_nesting}
use Rattle.kola_proof.specs.Accepting.{IsFileVerdict}
use Rattle.kola_proof.specs.declared.fault.FileFault.{FileFault}
use Rattle.kola_proof.specs.declared.fault.FileFault.TheVariants as file
use Rattle.oql_tree.specs.QueryTrees.{QueryTree}
use Rattle.oql_check.specs.CheckAnswers.{FaultOf}
use Rattle.oql_check.specs.declared.fault.CheckFault.{CheckFault}
use Rattle.oql_check.specs.declared.fault.CheckFault.TheVariants as check
use Rattle.kola_translate.specs.TranslationAnswers.{IsTranslated}
use Rattle.kola_translate.specs.declared.fault.TranslateFault.{TranslateFault}
use Rattle.kola_translate.specs.declared.fault.TranslateFault.TheVariants as translate
use Rattle.oql_syntax.specs.QueryAnswers.{IsQueryRefusal, why_cause, fault_refusal}
use Rattle.oql_syntax.specs.declared.read.QueryFault.{QueryFault}
use Rattle.oql_syntax.specs.declared.read.QueryFault.TheVariants as query

-- what is said of one is said of the other
pub refuses_too : (A B : Says) → ((s : Status) (b : List ℕ) → A s b → B s b) → (r : Refusal) → Refuses A r → Refuses B r
refuses_too A B f (Layout x) h = f _ _ h
refuses_too A B f (Missing x y) h = f _ _ h
refuses_too A B f (Schema x y) h = f _ _ h
refuses_too A B f (Rules x y) h = f _ _ h
refuses_too A B f (Rule x y z) h = f _ _ h
refuses_too A B f (Query x y) h = f _ _ h
refuses_too A B f (QueryType x y) h = f _ _ h
refuses_too A B f TermTooLarge h = f _ _ h
refuses_too A B f (Database x) h = f _ _ h
refuses_too A B f (Visits n) h = f _ _ h
refuses_too A B f Memory h = tt

pub replies_too : {T : Type 0} (view : T → List ℕ) (A B : Says) → ((s : Status) (b : List ℕ) → A s b → B s b) → (r : Result T Refusal) → Replies view A r → Replies view B r
replies_too view A B f (Ok x) h = f _ _ h
replies_too view A B f (Err r) h = refuses_too A B f r h

-- a stage refuses, so the line does
pub stops : {F R : Type 0} (g : Stage F R) (rest : R → Says) (r : Refusal) → Refuses (IsOf g) r → Refuses (Then g rest) r
stops {F} {R} g rest r = refuses_too (IsOf g) (Then g rest) is r
  where
    is : (s : Status) (b : List ℕ) → IsOf g s b → Then g rest s b
    is s b h = subst (λ t. Then g rest t b) (sym h.2) (subst (Then g rest (g.status h.0)) (sym h.3) (refused h.0 h.1))

-- a stage accepts, so the line goes on
pub goes : {F R : Type 0} (g : Stage F R) (rest : R → Says) (x : R) → g.accepts x → (r : Refusal) → Refuses (rest x) r → Refuses (Then g rest) r
goes g rest x h r = refuses_too (rest x) (Then g rest) (λ s b k. onward x s b h k) r

-- what a call that was refused hands on
pub handed : {T : Type 0} (view : T → List ℕ) (A : Says) (r : Result T Refusal) (P : Refusal → Type 0) → IsErrAnd r P → ((e : Refusal) → P e → Refuses A e) → Replies view A r
handed view A (Ok x) P h f = absurd h
handed view A (Err e) P h f = f e h

pub handed_pass : {F R T : Type 0} (g : Stage F R) (view : T → R) (r : Result T Refusal) (P : Refusal → Type 0) → IsErrAnd r P → ((e : Refusal) → P e → Refuses (IsOf g) e) → Passes g view r
handed_pass g view (Ok x) P h f = absurd h
handed_pass g view (Err e) P h f = f e h

pub handed_on : {T : Type 0} (A : Says) (r : Result T Refusal) (P : Refusal → Type 0) → IsErrAnd r P → ((e : Refusal) → P e → Refuses A e) → IfErr r (Refuses A)
handed_on A (Ok x) P h f = tt
handed_on A (Err e) P h f = f e h

-- a query that is refused is refused whatever comes behind its term
module _ (text : List ℕ) (S : Classes) (rest : QueryTree → TypeTree → Says) where
  early : (s : Status) (b : List ℕ) → FromQueryText text S (λ _ _. Nothing) s b → FromQueryText text S rest s b
  early _ _ (refused e p) = refused e p
  early s b (onward q _ _ p (refused e h)) = onward q s b p (refused e h)
  early s b (onward q _ _ p (onward t _ _ h (refused e k))) = onward q s b p (onward t s b h (refused e k))
  early s b (onward q _ _ p (onward t _ _ h (onward u _ _ k n))) = elim n [ ]

  pub refused_early : (r : Refusal) → Refuses (FromQueryText text S (λ _ _. Nothing)) r → Refuses (FromQueryText text S rest) r
  refused_early r h = refuses_too (FromQueryText text S (λ _ _. Nothing)) (FromQueryText text S rest) early r h

pub asked_on : (S : Classes) (text : List ℕ) (a : Asked) (rest : QueryTree → TypeTree → Says) → IsAsked S text a → (s : Status) (b : List ℕ) → rest a.typed.value.0 a.typed.value.1 s b → FromQueryText text S rest s b
asked_on S text a rest i s b k = onward a.typed.value.0 s b i.spells (onward a.typed.value.1 s b i.ready.typed (onward tt s b i.ready.fits k))

pub schema_refused : (text : List ℕ) (f : SchemaFault) → IsFault greatest_nesting text f → Refuses (IsOf (at_schema text)) (of_schema f)
schema_refused text (At at why) h = ((at, why), h, refl, refl)
schema_refused text fault.Memory h = tt

pub rules_refused : (t : List ℕ) (f : TextFault) → IsTextFault FileText greatest_type_nesting t f → Refuses (IsOf (at_rules_text t)) (of_rules f)
rules_refused t (text.At at why) h = ((at, why), h, refl, refl)
rules_refused t text.Memory h = tt

pub file_refused : (S : Classes) (ds : List DraftTree) (f : FileFault) → IsFileVerdict {A = Unit {0}} S laws ds (Err f) → Refuses (IsOf (at_rules S ds)) (of_file f)
file_refused S ds (file.Refused name step why) h = ((name, step, why), h.0, refl, refl)
file_refused S ds file.Memory h = tt

pub query_refused : (text : List ℕ) (f : QueryFault) → IsQueryRefusal text (fault_refusal f) → Refuses (IsOf (at_query_text text)) (of_query f)
query_refused text (query.At at why) h = ((at, why_cause why), h, refl, refl)
query_refused text query.Memory h = tt

pub type_refused : (S : Classes) (q : QueryTree) (f : CheckFault) → FaultOf S q f → Refuses (IsOf (at_query_type S q)) (of_check f)
type_refused S q (check.At at why) h = ((at, why), h.0, refl, refl)
type_refused S q check.Memory h = tt

pub size_refused : (S : Classes) (q : QueryTree) (f : TranslateFault) → IsTranslated S q (Err f) → Refuses (IsOf (at_size S q)) (of_translate f)
size_refused S q translate.TooLarge h = (tt, h, refl, refl)
size_refused S q translate.Memory h = tt

-- a refusal that is told says its answer
pub told_refuses : (A : Says) (r : Refusal) → is_told r ≡ true → Refuses A r → A (status_of r) (line_of r)
told_refuses A (Layout x) t h = h
told_refuses A (Missing x y) t h = h
told_refuses A (Schema x y) t h = h
told_refuses A (Rules x y) t h = h
told_refuses A (Rule x y z) t h = h
told_refuses A (Query x y) t h = h
told_refuses A (QueryType x y) t h = h
told_refuses A TermTooLarge t h = h
told_refuses A (Database x) t h = h
told_refuses A (Visits n) t h = h
told_refuses A Memory t h = cc
