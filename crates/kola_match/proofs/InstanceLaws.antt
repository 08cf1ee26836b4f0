-- Instances by the demands of the variables: what meets the demands at one spot of each variable is typed, and what is typed meets them.
use Rattle.std.proofs.Common.{◌≡◌, ℕ, Option, Some, None, refl, sym, ap, ◌∙◌, subst, List, [], ◌∷◌}
use Rattle.kola_values.specs.Types.{TypeTree}
use Rattle.kola_values.specs.Databases.{Classes, look_up}
use Rattle.kola_term.specs.Terms.{FMeta, PMeta, CMeta, TermTree, TermF, TermP, TermC}
use Rattle.kola_term.specs.Typing.{Context, MetaTree, MFun, MPred, MConst, out, is_typed}
use Rattle.kola_term.specs.Places.{sub_at, place, Typed}
use Rattle.kola_term.proofs.Introductions.{fun_some, pred_some}
use Rattle.kola_term.proofs.Paths.{typed_at}
use Rattle.kola_match.specs.Substitutions.{Substitution, sub_type, inst, IsTyped, HasMetaType}
use Rattle.kola_match.specs.Pairs.{Sides, AllGive}
use Rattle.kola_match.specs.Occurring.{variable}
use Rattle.kola_match.specs.Demanding.{Demands}
use Rattle.kola_match.specs.Spotting.{Spot, Spots, AllDemand}
use Rattle.kola_match.proofs.Closed.{AttributesClosed}
use Rattle.kola_match.proofs.Commute.{sub_inst, place_inst}

-- the variable stands at the spot, in a side and a term that are typed
abbrev FoundAt : Classes → Context → Context → TypeTree → TypeTree → Sides → (List ℕ × MetaTree) × Spot → Type 0
FoundAt S x vars input T sides e =
    Typed S vars e.1.0 input × Typed S x e.1.1 T × (look_up e.0.0 vars ≡ Some e.0.1) × (sub_at e.1.0 e.1.2 ≡ Some (variable e.0.0 e.0.1)) × ((s : Substitution) → AllGive s sides → inst s e.1.0 ≡ e.1.1)

-- each variable has a spot
abbrev pub AllFound : Classes → Context → Context → TypeTree → TypeTree → Sides → Context → Spots → Type 0
AllFound S x vars input T sides [] [] = Unit {0}
AllFound S x vars input T sides (v ∷ vs) (e ∷ es) = (e.0 ≡ v) × FoundAt S x vars input T sides e × AllFound S x vars input T sides vs es
AllFound S x vars input T sides _ _ = ⊥

-- ---- one variable

module _ (S : Classes) (k : AttributesClosed S) (x vars : Context) (input T : TypeTree) (s : Substitution) where
  -- an instance meets the demand
  meets_demand : (n : List ℕ) (m : MetaTree) (L t : TermTree) (q : List ℕ) → Typed S vars L input → look_up n vars ≡ Some m → sub_at L q ≡ Some (variable n m)
      → IsTyped S x s vars → HasMetaType S x s n m → sub_type s.types input ≡ T → inst s L ≡ t → Demands S x m (sub_at t q) (place S x t T q) s
  meets_demand n (MFun a c) L t q h d e i j u g =
      let p = typed_at S vars q L (TermF (FMeta n)) input h e in
      let a_is : a ≡ p.0 = (let z = sym d ∙ fun_some (look_up n vars) p.0 p.2.0 p.2.1 in cc) in
      let here : sub_at t q ≡ Some (TermF (s.funs n)) = subst (λ z. sub_at z q ≡ Some (TermF (s.funs n))) g (sub_inst s q L (TermF (FMeta n)) e) in
      let spot : place S x t T q ≡ Some (sub_type s.types a) = subst (λ z. place S x z T q ≡ Some (sub_type s.types a)) g (subst (λ z. place S x (inst s L) z q ≡ Some (sub_type s.types a)) u (subst (λ z. place S x (inst s L) (sub_type s.types input) q ≡ Some (sub_type s.types z)) (sym a_is) (place_inst S k vars x s i q L input p.0 p.1))) in
      subst (λ z. Demands S x (MFun a c) z (place S x t T q) s) (sym here) (subst (λ z. Demands S x (MFun a c) (Some (TermF (s.funs n))) z s) (sym spot) (refl, j))
  meets_demand n (MPred a) L t q h d e i j u g =
      let p = typed_at S vars q L (TermP (PMeta n)) input h e in
      let a_is : a ≡ p.0 = (let z = sym d ∙ pred_some (look_up n vars) p.0 p.2 in cc) in
      let here : sub_at t q ≡ Some (TermP (s.preds n)) = subst (λ z. sub_at z q ≡ Some (TermP (s.preds n))) g (sub_inst s q L (TermP (PMeta n)) e) in
      let spot : place S x t T q ≡ Some (sub_type s.types a) = subst (λ z. place S x z T q ≡ Some (sub_type s.types a)) g (subst (λ z. place S x (inst s L) z q ≡ Some (sub_type s.types a)) u (subst (λ z. place S x (inst s L) (sub_type s.types input) q ≡ Some (sub_type s.types z)) (sym a_is) (place_inst S k vars x s i q L input p.0 p.1))) in
      subst (λ z. Demands S x (MPred a) z (place S x t T q) s) (sym here) (subst (λ z. Demands S x (MPred a) (Some (TermP (s.preds n))) z s) (sym spot) refl)
  meets_demand n (MConst a) L t q h d e i j u g =
      let here : sub_at t q ≡ Some (TermC (s.consts n)) = subst (λ z. sub_at z q ≡ Some (TermC (s.consts n))) g (sub_inst s q L (TermC (CMeta n)) e) in
      subst (λ z. Demands S x (MConst a) z (place S x t T q) s) (sym here) j

  -- what meets the demand is typed
  typed_by : (n : List ℕ) (m : MetaTree) (L t : TermTree) (q : List ℕ) → Typed S x t T → sub_at L q ≡ Some (variable n m) → inst s L ≡ t → Demands S x m (sub_at t q) (place S x t T q) s → HasMetaType S x s n m
  typed_by n (MFun a c) L t q h e g =
      let here : sub_at t q ≡ Some (TermF (s.funs n)) = subst (λ z. sub_at z q ≡ Some (TermF (s.funs n))) g (sub_inst s q L (TermF (FMeta n)) e) in
      at (place S x t T q) here
    where
      at : (w : Option TypeTree) → sub_at t q ≡ Some (TermF (s.funs n)) → Demands S x (MFun a c) (sub_at t q) w s → HasMetaType S x s n (MFun a c)
      at w r j = on w (subst (λ z. Demands S x (MFun a c) z w s) r j)
        where
          on : (w : Option TypeTree) → Demands S x (MFun a c) (Some (TermF (s.funs n))) w s → HasMetaType S x s n (MFun a c)
          on (Some w) j = ap (out S x (s.funs n)) j.0 ∙ j.1
          on None j = absurd j
  typed_by n (MPred a) L t q h e g =
      let here : sub_at t q ≡ Some (TermP (s.preds n)) = subst (λ z. sub_at z q ≡ Some (TermP (s.preds n))) g (sub_inst s q L (TermP (PMeta n)) e) in
      let p = typed_at S x q t (TermP (s.preds n)) T h here in
      λ j. let i : sub_type s.types a ≡ p.0 = subst (λ z. Demands S x (MPred a) (Some (TermP (s.preds n))) z s) p.1 (subst (λ z. Demands S x (MPred a) z (place S x t T q) s) here j) in
      ap (is_typed S x (s.preds n)) i ∙ p.2
  typed_by n (MConst a) L t q h e g =
      let here : sub_at t q ≡ Some (TermC (s.consts n)) = subst (λ z. sub_at z q ≡ Some (TermC (s.consts n))) g (sub_inst s q L (TermC (CMeta n)) e) in
      λ j. subst (λ z. Demands S x (MConst a) z (place S x t T q) s) here j

  pub all_meet : (sides : Sides) (vs : Context) (es : Spots) → AllFound S x vars input T sides vs es → AllGive s sides → IsTyped S x s vars → sub_type s.types input ≡ T → IsTyped S x s vs → AllDemand S x T es s
  all_meet sides [] [] a g i u j = tt
  all_meet sides (v ∷ vs) (e ∷ es) a g i u j =
      (meets_demand e.0.0 e.0.1 e.1.0 e.1.1 e.1.2 a.1.0 a.1.2 a.1.3 i (subst (λ (z : List ℕ × MetaTree). HasMetaType S x s z.0 z.1) (sym a.0) j.0) u (a.1.4 s g), all_meet sides vs es a.2 g i u j.1)
  all_meet sides [] (e ∷ es) a g i u j = absurd a
  all_meet sides (v ∷ vs) [] a g i u j = absurd a

  pub all_typed : (sides : Sides) (vs : Context) (es : Spots) → AllFound S x vars input T sides vs es → AllGive s sides → AllDemand S x T es s → IsTyped S x s vs
  all_typed sides [] [] a g j = tt
  all_typed sides (v ∷ vs) (e ∷ es) a g j =
      (subst (λ (z : List ℕ × MetaTree). HasMetaType S x s z.0 z.1) a.0 (typed_by e.0.0 e.0.1 e.1.0 e.1.1 e.1.2 a.1.1 a.1.3 (a.1.4 s g) j.0), all_typed sides vs es a.2 g j.1)
  all_typed sides [] (e ∷ es) a g j = absurd a
  all_typed sides (v ∷ vs) [] a g j = absurd a
