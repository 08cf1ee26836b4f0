-- Firings, by the instances that are found.
use Rattle.std.proofs.Common.{◌≡◌, ◌⊎◌, inl, inr, ℕ, zero, suc, Bool, true, false, refl, sym, ap, ◌∙◌, subst, List, [], ◌∷◌, Some, None, map, slice_get, IfOk, Result, Ok, Err}
use Rattle.kola_values.specs.Types.{TypeTree, TUnit}
use Rattle.kola_values.specs.Databases.{Classes}
use Rattle.kola_values.specs.Sets.{Each}
use Rattle.kola_schema.specs.Schemas.{is_schema}
use Rattle.kola_term.specs.Terms.{TermTree, TermF, TermP, TermC}
use Rattle.kola_term.specs.Typing.{Context, MetaTree}
use Rattle.kola_term.specs.Places.{Typed, sub_at, put_in, place}
use Rattle.kola_term.specs.Agreement.{SameKind}
use Rattle.kola_term.proofs.Inversions.{some_same}
use Rattle.kola_term.proofs.Paths.{typed_at}
use Rattle.kola_rule.specs.Rules.{RuleTree}
use Rattle.kola_rule.specs.RuleViews.{rule_tree}
use Rattle.kola_rule.specs.declared.rule.Rule.{Rule}
use Rattle.kola_match.specs.Substitutions.{Substitution, sub_type, inst}
use Rattle.kola_match.specs.Occurring.{variable, Occurs}
use Rattle.kola_match.specs.Binds.{Binds, substitution_of}
use Rattle.kola_match.specs.Instances.{pattern_side, other_side, Decided}
use Rattle.kola_match.specs.RuleOk.{RuleOk, SidesFit}
use Rattle.kola_match.proofs.Closed.{schema_closed}
use Rattle.kola_match.proofs.Commute.{sub_inst}
use Rattle.kola_match.proofs.AgreeingLaws.{same_inst}
use Rattle.kola_proof.specs.Steps.{IsPlace, AllShown}
use Rattle.coko_run.proofs.SameShown.{same_shown}
use Rattle.coko_plan.specs.Variables.{Covers}
use Rattle.coko_run.specs.Forms.{HasForm}
use Rattle.coko_run.specs.Firing.{Hit, HitBy, IsInstance, FitsUnit}
use Rattle.coko_run.specs.Fires.{MayFire, IsShooting}
use Rattle.coko_run.specs.declared.fire.Shooting.{Shooting}
use Rattle.coko_run.specs.declared.fire.Shooting.TheVariants as shooting
use Rattle.coko_run.proofs.Formed.{has_instance_form}

-- ---- both sides of a rule are functions, or predicates

sides_kind : (S : Classes) (x : Context) (T : TypeTree) (l r : TermTree) → SidesFit S x T l r → SameKind l r × SameKind r l
sides_kind S x T (TermF f) (TermF g) h = (tt, tt)
sides_kind S x T (TermP f) (TermP g) h = (tt, tt)
sides_kind S x T _ _ h = absurd h

pub rule_kinds : (S : Classes) (r : RuleTree) (rev : Bool) → RuleOk S r → SameKind (pattern_side r rev) (other_side r rev)
rule_kinds S r true ok = (sides_kind S r.vars r.input r.left r.right ok.sides).1
rule_kinds S r false ok = (sides_kind S r.vars r.input r.left r.right ok.sides).0

pub kind_inst : (s : Substitution) (a b : TermTree) → SameKind a b → SameKind (inst s a) (inst s b)
kind_inst s (TermF f) (TermF g) k = tt
kind_inst s (TermP f) (TermP g) k = tt
kind_inst s (TermC f) (TermC g) k = tt
kind_inst s (TermF f) (TermP g) k = absurd k
kind_inst s (TermF f) (TermC g) k = absurd k
kind_inst s (TermP f) (TermF g) k = absurd k
kind_inst s (TermP f) (TermC g) k = absurd k
kind_inst s (TermC f) (TermF g) k = absurd k
kind_inst s (TermC f) (TermP g) k = absurd k

sides_place : (S : Classes) (x : Context) (T : TypeTree) (s : Substitution) (l r : TermTree) → SidesFit S x T l r → IsPlace (Some (inst s l)) × IsPlace (Some (inst s r))
sides_place S x T s (TermF f) (TermF g) h = (tt, tt)
sides_place S x T s (TermP f) (TermP g) h = (tt, tt)
sides_place S x T s _ _ h = absurd h

pattern_place : (S : Classes) (r : RuleTree) (rev : Bool) (s : Substitution) → RuleOk S r → IsPlace (Some (inst s (pattern_side r rev)))
pattern_place S r true s ok = (sides_place S r.vars r.input s r.left r.right ok.sides).1
pattern_place S r false s ok = (sides_place S r.vars r.input s r.left r.right ok.sides).0

-- ---- each variable stands on the pattern side

occurs_there : (r : RuleTree) (rev : Bool) → Covers r rev → (v : List ℕ × MetaTree) → Occurs r.left v ⊎ Occurs r.right v → Occurs (pattern_side r rev) v
occurs_there r true c v (inl h) = c v h
occurs_there r true c v (inr h) = h
occurs_there r false c v (inl h) = h
occurs_there r false c v (inr h) = c v h

occur_each : (r : RuleTree) (rev : Bool) → Covers r rev → (vs : Context) → Each (λ (v : List ℕ × MetaTree). Occurs r.left v ⊎ Occurs r.right v) vs → Each (λ (v : List ℕ × MetaTree). Occurs (pattern_side r rev) v) vs
occur_each r rev c [] h = tt
occur_each r rev c (v ∷ vs) h = (occurs_there r rev c v h.0, occur_each r rev c vs h.1)

pub all_occur : (S : Classes) (r : RuleTree) (rev : Bool) → RuleOk S r → Covers r rev → Each (λ (v : List ℕ × MetaTree). Occurs (pattern_side r rev) v) r.vars
all_occur S r rev ok c = occur_each r rev c r.vars ok.occur

-- ---- two instances put in the same

one_agrees : (s o : Substitution) (p : TermTree) (v : List ℕ × MetaTree) → inst s p ≡ inst o p → Occurs p v → inst s (variable v.0 v.1) ≡ inst o (variable v.0 v.1)
one_agrees s o p v e h =
    let w = variable v.0 v.1 in
    some_same (inst s w) (inst o w) (sym (sub_inst s h.0 p w h.1) ∙ (ap (λ z. sub_at z h.0) e ∙ sub_inst o h.0 p w h.1))

pub same_other : (r : RuleTree) (rev : Bool) → Covers r rev → (s o : Substitution) → inst s (pattern_side r rev) ≡ inst o (pattern_side r rev) → inst s (other_side r rev) ≡ inst o (other_side r rev)
same_other r rev c s o e = same_inst s o (other_side r rev) (λ v h. one_agrees s o (pattern_side r rev) v e (c v h))

pub one_hit : (S : Classes) (r : RuleTree) (rev : Bool) (w : TermTree) (q : List ℕ) (a b : TermTree) → Covers r rev → HitBy S r rev w q a → HitBy S r rev w q b → a ≡ b
one_hit S r rev w q a b c x y =
    let e : inst x.s (pattern_side r rev) ≡ inst y.s (pattern_side r rev) = some_same _ _ (sym x.by.from ∙ y.by.from) in
    some_same a b (sym x.by.to ∙ (ap (put_in w q) (same_other r rev c x.s y.s e) ∙ y.by.to))

-- ---- what is found

module _ (S : Classes) (r : RuleTree) (rev : Bool) (w : TermTree) (q : List ℕ) where
  pub hit_with : (s : Substitution) (side c : TermTree) → IsInstance S r rev w q s → AllShown S [] [] r s → side ≡ inst s (other_side r rev) → put_in w q side ≡ Some c → HitBy S r rev w q c
  hit_with s side c i h e p = record { s = s; by = record { typed = i.typed; at = i.at; from = i.from; to = ap (put_in w q) (sym e) ∙ p }; shown = h }

  pub side_kind : (s : Substitution) (side : TermTree) → RuleOk S r → side ≡ inst s (other_side r rev) → SameKind (inst s (pattern_side r rev)) side
  side_kind s side ok e = subst (SameKind (inst s (pattern_side r rev))) (sym e) (kind_inst s (pattern_side r rev) (other_side r rev) (rule_kinds S r rev ok))

  pub hit_place : (c : TermTree) → RuleOk S r → HitBy S r rev w q c → IsPlace (sub_at w q)
  hit_place c ok h = subst IsPlace (sym h.by.from) (pattern_place S r rev h.s ok)

  pub hit_form : (part c : TermTree) → sub_at w q ≡ Some part → HitBy S r rev w q c → HasForm (pattern_side r rev) part
  hit_form part c e h = has_instance_form h.s (pattern_side r rev) part (some_same _ _ (sym h.by.from ∙ e))

  pub found_instance : (T : TypeTree) (part : TermTree) (b : Binds) → place S [] w TUnit q ≡ Some T → sub_at w q ≡ Some part → Decided S [] r.vars r.input T ((pattern_side r rev, part) ∷ []) (Some b) → IsInstance S r rev w q (substitution_of b)
  found_instance T part b at e d = record { typed = d.0.typed; at = at ∙ ap Some (sym d.0.input_is); from = e ∙ ap Some (sym d.0.gives.0) }

  pub found_none : (T : TypeTree) (part : TermTree) → place S [] w TUnit q ≡ Some T → sub_at w q ≡ Some part → Decided S [] r.vars r.input T ((pattern_side r rev, part) ∷ []) None → (c : TermTree) → HitBy S r rev w q c → ⊥
  found_none T part at e d c h = d h.s (record { typed = h.by.typed; input_is = some_same _ _ (sym h.by.at ∙ at); gives = (some_same _ _ (sym h.by.from ∙ e), tt) })

  pub not_shown : (s : Substitution) → is_schema S ≡ true → RuleOk S r → Covers r rev → IsInstance S r rev w q s → (AllShown S [] [] r s → ⊥) → (c : TermTree) → HitBy S r rev w q c → ⊥
  not_shown s k ok covers i n c h =
      let e : inst h.s (pattern_side r rev) ≡ inst s (pattern_side r rev) = some_same _ _ (sym h.by.from ∙ i.from) in
      let at : sub_type h.s.types r.input ≡ sub_type s.types r.input = some_same _ _ (sym h.by.at ∙ i.at) in
      n (same_shown S (schema_closed S k) [] r ok rev (all_occur S r rev ok covers) h.s s h.by.typed i.typed e at [] h.shown)

-- ---- types

fits_typed : (S : Classes) (w : TermTree) → FitsUnit S w → Typed S [] w TUnit
fits_typed S (TermF f) h = (h.0, h.1.fine.0)
fits_typed S (TermP p) h = h.1.fine.0
fits_typed S (TermC c) h = (h.0, h.1.fine)

pub whole_typed : (S : Classes) (w : TermTree) → FitsUnit S w → Typed S [] w TUnit
whole_typed S w h = fits_typed S w h

pub part_typed : (S : Classes) (w part : TermTree) (q : List ℕ) (T : TypeTree) → FitsUnit S w → sub_at w q ≡ Some part → place S [] w TUnit q ≡ Some T → Typed S [] part T
part_typed S w part q T h e at =
    let p = typed_at S [] q w part TUnit (fits_typed S w h) e in
    subst (λ z. Typed S [] part z) (some_same p.0 T (sym p.1 ∙ at)) p.2

-- ---- the rule of a number

pub shooting_as : {E : Type 0} (S : Classes) (P Q : TermTree → Type 0) → ((c : TermTree) → P c → Q c) → ((c : TermTree) → Q c → P c) → (r : Result Shooting E) → IfOk r (λ x. IsShooting S P x) → IfOk r (λ x. IsShooting S Q x)
shooting_as S P Q f g (Ok (shooting.Hit t)) h = (f _ h.0, h.1)
shooting_as S P Q f g (Ok shooting.Size) h = (h.0, f h.0 h.1, h.2)
shooting_as S P Q f g (Ok shooting.Miss) h = λ c k. h c (g c k)
shooting_as S P Q f g (Err e) h = tt

pub got : (rs : List Rule) (n : ℕ) (r : Rule) → Some r ≡ slice_get rs n → slice_get (map rule_tree rs) n ≡ Some (rule_tree r)
got [] n r e = absurd (cc)
got (x ∷ rs) zero r e = ap (λ z. Some (rule_tree z)) (some_same x r (sym e))
got (x ∷ rs) (suc n) r e = got rs n r e

pub gone : (rs : List Rule) (n : ℕ) → None ≡ slice_get rs n → slice_get (map rule_tree rs) n ≡ None
gone [] n e = refl
gone (x ∷ rs) zero e = absurd (cc)
gone (x ∷ rs) (suc n) e = gone rs n e

module _ (S : Classes) (rules : List RuleTree) (n : ℕ) (rev : Bool) (w : TermTree) (q : List ℕ) where
  pub no_rule : slice_get rules n ≡ None → (c : TermTree) → Hit S rules n rev w q c → ⊥
  no_rule e c h = let k : Some h.rule ≡ None = sym h.is ∙ e in absurd (cc)

  pub by_rule : (r : RuleTree) → slice_get rules n ≡ Some r → (c : TermTree) → Hit S rules n rev w q c → HitBy S r rev w q c
  by_rule r e c h = subst (λ z. HitBy S z rev w q c) (some_same h.rule r (sym h.is ∙ e)) h.by

  pub of_rule : (r : RuleTree) → slice_get rules n ≡ Some r → (c : TermTree) → HitBy S r rev w q c → Hit S rules n rev w q c
  of_rule r e c h = record { rule = r; is = e; by = h }

  pub one_result : MayFire rules n rev → (a b : TermTree) → Hit S rules n rev w q a → Hit S rules n rev w q b → a ≡ b
  one_result m a b x y = one_hit S y.rule rev w q a b (m y.rule y.is) (by_rule y.rule y.is a x) y.by

  -- no part, or one of another form
  pub no_part : (r : RuleTree) → slice_get rules n ≡ Some r → sub_at w q ≡ None → (c : TermTree) → Hit S rules n rev w q c → ⊥
  no_part r e k c h = let i : Some (inst h.by.s (pattern_side h.rule rev)) ≡ None = sym h.by.by.from ∙ k in absurd (cc)

  pub no_form : (r : RuleTree) (part : TermTree) → slice_get rules n ≡ Some r → sub_at w q ≡ Some part → (HasForm (pattern_side r rev) part → ⊥) → (c : TermTree) → Hit S rules n rev w q c → ⊥
  no_form r part e k f c h = f (hit_form S r rev w q part c k (by_rule r e c h))
