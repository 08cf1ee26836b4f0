-- A rule with a valid proof by rules that hold, holds.
use Rattle.std.proofs.Common.{◌≡◌, ℕ, Bool, true, false, cond, Option, Some, None, refl, sym, ◌∙◌, subst, List, [], ◌∷◌}
use Rattle.std.specs.Str.{bytes_eq}
use Rattle.kola_values.specs.Types.{TypeTree}
use Rattle.kola_values.specs.Databases.{Classes, Objects, look_up}
use Rattle.kola_values.specs.Sets.{Each}
use Rattle.kola_schema.specs.Schemas.{is_schema}
use Rattle.kola_schema.specs.Meets.{Meets}
use Rattle.kola_term.specs.Terms.{TermTree, TermF, TermP, TermC}
use Rattle.kola_term.specs.Typing.{Context, MetaTree, MFun, MPred, MConst}
use Rattle.kola_term.specs.Places.{Typed}
use Rattle.kola_term.specs.Agreement.{Agree}
use Rattle.kola_term.proofs.Inversions.{some_same}
use Rattle.kola_term.proofs.Paths.{at_place}
use Rattle.kola_rule.specs.Rules.{RuleTree, StepTree, DraftTree}
use Rattle.kola_match.specs.Substitutions.{Substitution, sub_type, inst, inst_fun, IsTyped}
use Rattle.kola_match.specs.Holding.{Injective, InjectiveAt, AllInjective, Holds}
use Rattle.kola_match.specs.RuleOk.{SidesFit}
use Rattle.kola_match.specs.Instances.{pattern_side, other_side}
use Rattle.kola_match.proofs.Closed.{AttributesClosed, schema_closed}
use Rattle.kola_match.proofs.Commute.{sub_inst, put_inst, place_inst, typed_inst, followed, sub_sub, term_term, followed_typed}
use Rattle.kola_injective.proofs.Sound.{injective_under}
use Rattle.kola_proof.specs.Steps.{rule_named, ByInstance, ShownAt, AllShown}
use Rattle.kola_proof.specs.Drafts.{StepsOk, end, more, Valid}
use Rattle.kola_proof.proofs.ByLaw.{second_typed, left_fits}

agree_back : (S : Classes) (d : Objects) (t : TypeTree) (b c : TermTree) → Agree S d t b c → Agree S d t c b
agree_back S d t (TermF f) (TermF g) h = λ v k. sym (h v k)
agree_back S d t (TermP f) (TermP g) h = λ v k. sym (h v k)
agree_back S d t (TermC f) (TermC g) h = sym h
agree_back S d t (TermF f) (TermP g) h = absurd h
agree_back S d t (TermF f) (TermC g) h = absurd h
agree_back S d t (TermP f) (TermF g) h = absurd h
agree_back S d t (TermP f) (TermC g) h = absurd h
agree_back S d t (TermC f) (TermF g) h = absurd h
agree_back S d t (TermC f) (TermP g) h = absurd h

agree_on_both : (S : Classes) (d : Objects) (t : TypeTree) (b c e : TermTree) → Agree S d t b c → Agree S d t c e → Agree S d t b e
agree_on_both S d t (TermF f) (TermF g) (TermF h) k l = λ v i. k v i ∙ l v i
agree_on_both S d t (TermP f) (TermP g) (TermP h) k l = λ v i. k v i ∙ l v i
agree_on_both S d t (TermC f) (TermC g) (TermC h) k l = k ∙ l
agree_on_both S d t (TermF f) (TermF g) (TermP h) k l = absurd l
agree_on_both S d t (TermF f) (TermF g) (TermC h) k l = absurd l
agree_on_both S d t (TermP f) (TermP g) (TermF h) k l = absurd l
agree_on_both S d t (TermP f) (TermP g) (TermC h) k l = absurd l
agree_on_both S d t (TermC f) (TermC g) (TermF h) k l = absurd l
agree_on_both S d t (TermC f) (TermC g) (TermP h) k l = absurd l
agree_on_both S d t (TermF f) (TermP g) e k l = absurd k
agree_on_both S d t (TermF f) (TermC g) e k l = absurd k
agree_on_both S d t (TermP f) (TermF g) e k l = absurd k
agree_on_both S d t (TermP f) (TermC g) e k l = absurd k
agree_on_both S d t (TermC f) (TermF g) e k l = absurd k
agree_on_both S d t (TermC f) (TermP g) e k l = absurd k

agree_itself : (S : Classes) (d : Objects) (t : TypeTree) (b : TermTree) → Agree S d t b b
agree_itself S d t (TermF f) = λ v h. refl
agree_itself S d t (TermP f) = λ v h. refl
agree_itself S d t (TermC f) = refl

-- ---- the rules that a step may take

first_named : (P : RuleTree → Type 0) (r l : RuleTree) (o : Option RuleTree) (b : Bool) → P r → (o ≡ Some l → P l) → cond b (Some r) o ≡ Some l → P l
first_named P r l o true h k e = subst P (some_same r l e) h
first_named P r l o false h k e = k e

pub each_named : (P : RuleTree → Type 0) (rs : List RuleTree) (n : List ℕ) (l : RuleTree) → Each P rs → rule_named rs n ≡ Some l → P l
each_named P [] n l h e = absurd (cc)
each_named P (r ∷ rs) n l h e = first_named P r l (rule_named rs n) (bytes_eq n r.name) h.0 (λ k. each_named P rs n l h.1 k) e

-- the sides of a rule that holds, in the order of a step
sides_agree : (S : Classes) (d : Objects) (law : RuleTree) (s : Substitution) → Agree S d (sub_type s.types law.input) (inst s law.left) (inst s law.right) → (rev : Bool) → Agree S d (sub_type s.types law.input) (inst s (pattern_side law rev)) (inst s (other_side law rev))
sides_agree S d law s h true = agree_back S d (sub_type s.types law.input) (inst s law.left) (inst s law.right) h
sides_agree S d law s h false = h

module _ (S : Classes) (d : Objects) (m : Meets S d) (closed : AttributesClosed S) (x : Context) (hyps : List (List ℕ)) (o : Substitution) (typed : IsTyped S [] o x) (given : AllInjective S d o x hyps) where
  -- conditions that are shown hold under the closing substitution
  conditions_hold : (vars : Context) (s : Substitution) (ns : List (List ℕ)) → Each (λ n. ShownAt S x hyps s n (look_up n vars)) ns → AllInjective S d (followed s o) vars ns
  conditions_hold vars s [] h = tt
  conditions_hold vars s (n ∷ ns) h = (at (look_up n vars) h.0, conditions_hold vars s ns h.1)
    where
      at : (k : Option MetaTree) → ShownAt S x hyps s n k → InjectiveAt S d (followed s o) n k
      at (Some (MFun t u)) h = subst (Injective S d (inst_fun o (s.funs n))) (sub_sub s.types o.types t) (injective_under S d m closed x hyps o typed given (s.funs n) (sub_type s.types t) h)
      at (Some (MPred t)) h = tt
      at (Some (MConst t)) h = tt
      at None h = tt

  step_agrees : (input : TypeTree) (law : RuleTree) (rev : Bool) (q : List ℕ) (b c : TermTree) (s : Substitution) → Holds S law → Typed S x b input → ByInstance S x input law rev q b c s → AllShown S x hyps law s → Agree S d (sub_type o.types input) (inst o b) (inst o c)
  step_agrees input law rev q b c s holds before p shown =
      let P = pattern_side law rev in
      let R = other_side law rev in
      let w = sub_type s.types law.input in
      let there = sides_agree S d law (followed s o) (holds d m (followed s o) (followed_typed S closed x [] s o typed law.vars p.typed) (conditions_hold law.vars s law.when shown)) rev in
      let one : Agree S d (sub_type o.types w) (inst (followed s o) P) (inst (followed s o) R) = subst (λ z. Agree S d z (inst (followed s o) P) (inst (followed s o) R)) (sym (sub_sub s.types o.types law.input)) there in
      let two : Agree S d (sub_type o.types w) (inst o (inst s P)) (inst (followed s o) R) = subst (λ z. Agree S d (sub_type o.types w) z (inst (followed s o) R)) (sym (term_term s o P)) one in
      let three : Agree S d (sub_type o.types w) (inst o (inst s P)) (inst o (inst s R)) = subst (λ z. Agree S d (sub_type o.types w) (inst o (inst s P)) z) (sym (term_term s o R)) two in
      at_place S d m q (inst o b) (sub_type o.types input) (inst o (inst s P)) (inst o (inst s R)) (inst o c) (sub_type o.types w)
      (typed_inst S closed x [] o typed b input before) (sub_inst o q b (inst s P) p.from) (place_inst S closed x [] o typed q b input w p.at) (put_inst o q b (inst s R) c p.to) three

steps_agree : (S : Classes) (d : Objects) → Meets S d → AttributesClosed S → (rules : List RuleTree) → Each (Holds S) rules → (r : RuleTree) (o : Substitution) → IsTyped S [] o r.vars → AllInjective S d o r.vars r.when
    → {b : TermTree} {ks : List StepTree} → SidesFit S r.vars r.input r.left b → StepsOk S rules r b ks → Agree S d (sub_type o.types r.input) (inst o b) (inst o r.right)
steps_agree S d m closed rules h r o i a f (end {b = b} e) = subst (λ z. Agree S d (sub_type o.types r.input) (inst o b) (inst o z)) e (agree_itself S d (sub_type o.types r.input) (inst o b))
steps_agree S d m closed rules h r o i a f (more {b = b} {k = k} p q) =
    agree_on_both S d (sub_type o.types r.input) (inst o b) (inst o k.term) (inst o r.right)
    (step_agrees S d m closed r.vars r.when o i a r.input p.law k.rev k.path b k.term p.s (each_named (Holds S) rules k.law p.law h p.named) (second_typed S r.vars r.input r.left b f) p.by p.shown)
    (steps_agree S d m closed rules h r o i a p.fits q)

pub proved_rules_hold : (S : Classes) → is_schema S ≡ true → (rules : List RuleTree) (d : DraftTree) → Each (Holds S) rules → Valid S rules d → Holds S d.rule
proved_rules_hold S ok rules t h v = λ d m s i a.
    let r = t.rule in
    subst (λ z. Agree S d (sub_type s.types r.input) (inst s z) (inst s r.right)) v.first
    (steps_agree S d m (schema_closed S ok) rules h r s i a (subst (λ z. SidesFit S r.vars r.input r.left z) (sym v.first) (left_fits S r.vars r.input r.left r.right v.well_typed.sides)) v.steps)
