-- What every firing keeps, every run keeps; and that firings by rules that hold keep the value and the type at `unit`.
use Rattle.std.proofs.Common.{◌≡◌, ℕ, Bool, true, false, cond, refl, sym, ap, ap₂, ◌∙◌, subst, List, [], ◌∷◌, Option, Some, None}
use Rattle.kola_values.specs.Types.{TypeTree, FieldTypes, TEnd, TField, TVar, TSet, TPair, TStruct, TUnit, TBool}
use Rattle.kola_values.specs.Databases.{Classes, Objects, look_up}
use Rattle.kola_values.specs.Sets.{Each}
use Rattle.kola_schema.specs.Schemas.{is_schema}
use Rattle.kola_schema.specs.Meets.{Meets}
use Rattle.kola_term.specs.Terms.{ConstTree, CMeta, FunTree, FComp, FPair, FTimes, FK, FC, FIf, FIterate, FIter, FJoin, FNest, FUnnest, FMeta, PredTree, PAt, PAnd, POr, PNot, PInv, PCP, PEx, PFa, PMeta, TermTree, TermF, TermP, TermC}
use Rattle.kola_term.specs.Typing.{Context, MetaTree, MFun, MPred, MConst, is_typed}
use Rattle.kola_term.specs.Agreement.{Agree, kind_out, SameKind, Serves}
use Rattle.kola_term.proofs.Inversions.{some_same}
use Rattle.kola_term.proofs.Kept.{kept_at}
use Rattle.kola_term.proofs.Paths.{at_place}
use Rattle.kola_rule.specs.Rules.{RuleTree}
use Rattle.kola_match.specs.Substitutions.{Substitution, sub_type, sub_types, inst, inst_fun, inst_pred, inst_const}
use Rattle.kola_match.specs.Holding.{Injective, InjectiveAt, AllInjective, Holds}
use Rattle.kola_match.specs.RuleOk.{RuleOk, SidesFit}
use Rattle.kola_match.specs.Instances.{pattern_side, other_side}
use Rattle.kola_match.proofs.Closed.{schema_closed}
use Rattle.kola_match.proofs.KindOut.{kind_inst}
use Rattle.kola_injective.proofs.Sound.{injective_under}
use Rattle.kola_proof.specs.Steps.{ShownAt}
use Rattle.coko_run.specs.Outcomes.{Event, Outcome, Done, Stop, joined, When, term_of}
use Rattle.coko_run.specs.Runs.{World, Job, Runs, step_spent, step, fire_spent, fire_hit, fire_size, fire_miss, skip_spent, skip, fail_spent, fail, seq, then_, else_, bu, td, turns, given_spent, given_no, given, at_kids, walk_end, walk, Next, halt, go, stay}
use Rattle.coko_run.specs.Firing.{HitBy, world, FitsUnit}
use Rattle.coko_run.specs.Claims.{Good, RunsKeep}
use Rattle.coko_run.proofs.Armed.{each_at}
use Rattle.coko_run.proofs.Fired.{rule_kinds, whole_typed}
use Rattle.coko_run.proofs.Fired as hit

term_joined : (k : Bool) (f : List Event) (o : Outcome) → term_of (joined k f o) ≡ term_of o
term_joined k f (Done w j g m) = refl
term_joined k f (Stop w y g m) = refl

module _ (G : World) (R : TermTree → TermTree → Type 0) (itself : (w : TermTree) → R w w) (then' : (a b c : TermTree) → R a b → R b c → R a c) (fired : (r : ℕ) (v : Bool) (w : TermTree) (q : List ℕ) (w' : TermTree) → G.hits r v w q w' → G.fit w' → R w w') where
  mutual
    pub kept : {j : Job} {w : TermTree} {q : List ℕ} {m : ℕ} {o : Outcome} → Runs G j w q m o → R w (term_of o)
    kept (step_spent {w = w}) = itself w
    kept (step x) = kept x
    kept (fire_spent {w = w}) = itself w
    kept (fire_hit {r = r} {v = v} {w = w} {q = q} {w' = w'} h i) = fired r v w q w' h i
    kept (fire_size {w = w} h i) = itself w
    kept (fire_miss {w = w} n) = itself w
    kept (skip_spent {w = w}) = itself w
    kept (skip {w = w}) = itself w
    kept (fail_spent {w = w}) = itself w
    kept (fail {w = w}) = itself w
    kept (seq {w = w} x y) = kept_next w (kept x) y
    kept (then_ {w = w} x y) = kept_next w (kept x) y
    kept (else_ {w = w} x y) = kept_next w (kept x) y
    kept (bu {w = w} x y) = kept_next w (kept x) y
    kept (td {w = w} x y) = kept_next w (kept x) y
    kept (turns {w = w} x y) = kept_next w (kept x) y
    kept (given_spent {w = w}) = itself w
    kept (given_no {w = w} i) = itself w
    kept (given i x) = kept x
    kept (at_kids x) = kept x
    kept (walk_end {w = w}) = itself w
    kept (walk {w = w} x y) = kept_next w (kept x) y

    pub kept_next : (w : TermTree) {c : When} {j : Job} {q : List ℕ} {e o : Outcome} → R w (term_of e) → Next G c j q e o → R w (term_of o)
    kept_next w h halt = h
    kept_next w h (go {w = b} {k = k} {f = f} {o = o} i x) = subst (R w) (sym (term_joined k f o)) (then' w b (term_of o) h (kept x))
    kept_next w h (stay i) = h

-- ---- the substitution of each variable by itself

abbrev ident : Substitution
ident = record { types = TVar; funs = FMeta; preds = PMeta; consts = CMeta }

mutual
  type_id : (t : TypeTree) → sub_type TVar t ≡ t
  type_id (TSet t) = ap TSet (type_id t)
  type_id (TPair t u) = ap₂ TPair (type_id t) (type_id u)
  type_id (TStruct ts) = ap TStruct (types_id ts)
  type_id _ = refl

  types_id : (ts : FieldTypes) → sub_types TVar ts ≡ ts
  types_id TEnd = refl
  types_id (TField l t ts) = ap₂ (TField l) (type_id t) (types_id ts)

const_id : (c : ConstTree) → inst_const ident c ≡ c
const_id (CMeta n) = refl
const_id _ = refl

mutual
  fun_id : (f : FunTree) → inst_fun ident f ≡ f
  fun_id (FComp f g) = ap₂ FComp (fun_id f) (fun_id g)
  fun_id (FPair f g) = ap₂ FPair (fun_id f) (fun_id g)
  fun_id (FTimes f g) = ap₂ FTimes (fun_id f) (fun_id g)
  fun_id (FK c) = ap FK (const_id c)
  fun_id (FC f c) = ap₂ FC (fun_id f) (const_id c)
  fun_id (FIf p f g) = let a = pred_id p in let b = fun_id f in let c = fun_id g in cc
  fun_id (FIterate p f) = ap₂ FIterate (pred_id p) (fun_id f)
  fun_id (FIter p f) = ap₂ FIter (pred_id p) (fun_id f)
  fun_id (FJoin p f) = ap₂ FJoin (pred_id p) (fun_id f)
  fun_id (FNest f g) = ap₂ FNest (fun_id f) (fun_id g)
  fun_id (FUnnest f g) = ap₂ FUnnest (fun_id f) (fun_id g)
  fun_id _ = refl

  pred_id : (p : PredTree) → inst_pred ident p ≡ p
  pred_id (PAt p f) = ap₂ PAt (pred_id p) (fun_id f)
  pred_id (PAnd p q) = ap₂ PAnd (pred_id p) (pred_id q)
  pred_id (POr p q) = ap₂ POr (pred_id p) (pred_id q)
  pred_id (PNot p) = ap PNot (pred_id p)
  pred_id (PInv p) = ap PInv (pred_id p)
  pred_id (PCP p c) = ap₂ PCP (pred_id p) (const_id c)
  pred_id (PEx p) = ap PEx (pred_id p)
  pred_id (PFa p) = ap PFa (pred_id p)
  pred_id _ = refl

-- ---- values of two terms

agree_itself : (S : Classes) (d : Objects) (t : TypeTree) (b : TermTree) → Agree S d t b b
agree_itself S d t (TermF f) = λ v h. refl
agree_itself S d t (TermP f) = λ v h. refl
agree_itself S d t (TermC f) = refl

agree_back : (S : Classes) (d : Objects) (t : TypeTree) (b c : TermTree) → Agree S d t b c → Agree S d t c b
agree_back S d t (TermF f) (TermF g) h = λ v k. sym (h v k)
agree_back S d t (TermP f) (TermP g) h = λ v k. sym (h v k)
agree_back S d t (TermC f) (TermC g) h = sym h
agree_back S d t (TermF f) (TermP g) h = absurd h
agree_back S d t (TermF f) (TermC g) h = absurd h
agree_back S d t (TermP f) (TermF g) h = absurd h
agree_back S d t (TermP f) (TermC g) h = absurd h
agree_back S d t (TermC f) (TermF g) h = absurd h
agree_back S d t (TermC f) (TermP g) h = absurd h

agree_on : (S : Classes) (d : Objects) (t : TypeTree) (b c e : TermTree) → Agree S d t b c → Agree S d t c e → Agree S d t b e
agree_on S d t (TermF f) (TermF g) (TermF h) k l = λ v i. k v i ∙ l v i
agree_on S d t (TermP f) (TermP g) (TermP h) k l = λ v i. k v i ∙ l v i
agree_on S d t (TermC f) (TermC g) (TermC h) k l = k ∙ l
agree_on S d t (TermF f) (TermF g) (TermP h) k l = absurd l
agree_on S d t (TermF f) (TermF g) (TermC h) k l = absurd l
agree_on S d t (TermP f) (TermP g) (TermF h) k l = absurd l
agree_on S d t (TermP f) (TermP g) (TermC h) k l = absurd l
agree_on S d t (TermC f) (TermC g) (TermF h) k l = absurd l
agree_on S d t (TermC f) (TermC g) (TermP h) k l = absurd l
agree_on S d t (TermF f) (TermP g) e k l = absurd k
agree_on S d t (TermF f) (TermC g) e k l = absurd k
agree_on S d t (TermP f) (TermF g) e k l = absurd k
agree_on S d t (TermP f) (TermC g) e k l = absurd k
agree_on S d t (TermC f) (TermF g) e k l = absurd k
agree_on S d t (TermC f) (TermP g) e k l = absurd k

kind_itself : (a : TermTree) → SameKind a a
kind_itself (TermF f) = tt
kind_itself (TermP f) = tt
kind_itself (TermC f) = tt

kind_on : (a b c : TermTree) → SameKind a b → SameKind b c → SameKind a c
kind_on (TermF f) (TermF g) (TermF h) k l = tt
kind_on (TermP f) (TermP g) (TermP h) k l = tt
kind_on (TermC f) (TermC g) (TermC h) k l = tt
kind_on (TermF f) (TermF g) (TermP h) k l = absurd l
kind_on (TermF f) (TermF g) (TermC h) k l = absurd l
kind_on (TermP f) (TermP g) (TermF h) k l = absurd l
kind_on (TermP f) (TermP g) (TermC h) k l = absurd l
kind_on (TermC f) (TermC g) (TermF h) k l = absurd l
kind_on (TermC f) (TermC g) (TermP h) k l = absurd l
kind_on (TermF f) (TermP g) c k l = absurd k
kind_on (TermF f) (TermC g) c k l = absurd k
kind_on (TermP f) (TermF g) c k l = absurd k
kind_on (TermP f) (TermC g) c k l = absurd k
kind_on (TermC f) (TermF g) c k l = absurd k
kind_on (TermC f) (TermP g) c k l = absurd k

-- ---- one firing

truth_out : (S : Classes) (x : Context) (T : TypeTree) (p : PredTree) → is_typed S x p T ≡ true → kind_out S x (TermP p) T ≡ Some TBool
truth_out S x T p e = ap (λ b. cond b (Some TBool) None) e

both_out : (S : Classes) (x : Context) (T : TypeTree) (l r : TermTree) → SidesFit S x T l r → (u : TypeTree) × (kind_out S x l T ≡ Some u) × (kind_out S x r T ≡ Some u)
both_out S x T (TermF f) (TermF g) h = (h.0, h.1.fine.0, h.2.fine.0)
both_out S x T (TermP p) (TermP q) h = (TBool, truth_out S x T p h.0.fine.0, truth_out S x T q h.1.fine.0)
both_out S x T _ _ h = absurd h

rule_out : (S : Classes) (r : RuleTree) (rev : Bool) → RuleOk S r → (u : TypeTree) × (kind_out S r.vars (pattern_side r rev) r.input ≡ Some u) × (kind_out S r.vars (other_side r rev) r.input ≡ Some u)
rule_out S r true ok = let h = both_out S r.vars r.input r.left r.right ok.sides in (h.0, h.2, h.1)
rule_out S r false ok = both_out S r.vars r.input r.left r.right ok.sides

module _ (S : Classes) (k : is_schema S ≡ true) where
  shown_injective : (d : Objects) → Meets S d → (vars : Context) (s : Substitution) (ns : List (List ℕ)) → Each (λ n. ShownAt S [] [] s n (look_up n vars)) ns → AllInjective S d s vars ns
  shown_injective d m vars s [] h = tt
  shown_injective d m vars s (n ∷ ns) h = (at (look_up n vars) h.0, shown_injective d m vars s ns h.1)
    where
      at : (o : Option MetaTree) → ShownAt S [] [] s n o → InjectiveAt S d s n o
      at (Some (MFun t u)) h =
          subst (λ z. Injective S d z (sub_type s.types t)) (fun_id (s.funs n)) (subst (λ z. Injective S d (inst_fun ident (s.funs n)) z) (type_id (sub_type s.types t))
          (injective_under S d m (schema_closed S k) [] [] ident tt tt (s.funs n) (sub_type s.types t) h))
      at (Some (MPred t)) h = tt
      at (Some (MConst t)) h = tt
      at None h = tt

  sides_agree : (d : Objects) (r : RuleTree) (s : Substitution) (rev : Bool) → Agree S d (sub_type s.types r.input) (inst s r.left) (inst s r.right) → Agree S d (sub_type s.types r.input) (inst s (pattern_side r rev)) (inst s (other_side r rev))
  sides_agree d r s true h = agree_back S d (sub_type s.types r.input) (inst s r.left) (inst s r.right) h
  sides_agree d r s false h = h

  hit_good : (r : RuleTree) (rev : Bool) → RuleOk S r → Holds S r → (w : TermTree) (q : List ℕ) (c : TermTree) → FitsUnit S w → HitBy S r rev w q c → Good S w c
  hit_good r rev ok holds w q c fits h =
      let s = h.s in
      let l = inst s (pattern_side r rev) in
      let o = inst s (other_side r rev) in
      let T = sub_type s.types r.input in
      let u = rule_out S r rev ok in
      let el = kind_inst S (schema_closed S k) r.vars [] s h.by.typed (pattern_side r rev) r.input u.0 u.1 in
      let eo = kind_inst S (schema_closed S k) r.vars [] s h.by.typed (other_side r rev) r.input u.0 u.2 in
      let serve : Serves S [] (Some T) l o = (hit.kind_inst s (pattern_side r rev) (other_side r rev) (rule_kinds S r rev ok), λ z e. subst (λ y. kind_out S [] l y ≡ kind_out S [] o y) (some_same T z e) (el ∙ sym eo)) in
      let whole = kept_at S [] q w TUnit l o c T h.by.from h.by.at h.by.to serve in
      record {
        kind = whole.0;
        type = whole.1 TUnit refl;
        value = λ d m. at_place S d m q w TUnit l o c T (whole_typed S w fits) h.by.from h.by.at h.by.to (sides_agree d r s rev (holds d m s h.by.typed (shown_injective d m r.vars s r.when h.shown)));
      }

-- ---- all firings

good_itself : (S : Classes) (w : TermTree) → Good S w w
good_itself S w = record { kind = kind_itself w; type = refl; value = λ d m. agree_itself S d TUnit w }

good_on : (S : Classes) (a b c : TermTree) → Good S a b → Good S b c → Good S a c
good_on S a b c h k = record { kind = kind_on a b c h.kind k.kind; type = h.type ∙ k.type; value = λ d m. agree_on S d TUnit a b c (h.value d m) (k.value d m) }

-- good, and fitting where it was fitting before
abbrev Keeps : Classes → TermTree → TermTree → Type 0
Keeps S a b = FitsUnit S a → Good S a b × FitsUnit S b

pub runs_keep : RunsKeep
runs_keep = λ S k A ok holds s w q m o f x.
    kept (world S A) (Keeps S) (λ a i. (good_itself S a, i)) (λ a b c y z i. (good_on S a b c (y i).0 (z (y i).1).0, (z (y i).1).1))
    (λ n v a p b h i j. (hit_good S k h.rule v (each_at (RuleOk S) A n h.rule ok h.is) (each_at (Holds S) A n h.rule holds h.is) a p b j h.by, i)) x f
