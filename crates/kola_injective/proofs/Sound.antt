-- What is shown to be injective takes no two values to one.
use Rattle.std.proofs.Common.{◌≡◌, ℕ, Bool, true, false, ◌&&◌, ◌||◌, refl, sym, ap, ap₂, ◌∙◌, subst, List, [], ◌∷◌, ◌++◌}
use Rattle.std.specs.Str.{bytes_eq}
use mathlib.Core.Bool.{or-true}
use Rattle.kola_core.specs.NameLists.{is_listed}
use Rattle.kola_values.specs.Values.{ValueTree, VPair}
use Rattle.kola_values.specs.Types.{TypeTree, TSet, TPair}
use Rattle.kola_values.specs.Order.{same}
use Rattle.kola_values.specs.Sets.{any, has, members, Each}
use Rattle.kola_values.specs.Databases.{Classes, Objects, HasType, attribute_of, look_up}
use Rattle.kola_values.proofs.Anys.{any_agree, any_append, any_where, each_from, each_has, set_ext, anys, bool_same, equal, same_itself}
use Rattle.kola_values.proofs.Each.{each_append}
use Rattle.kola_values.proofs.Typed.{members_typed, remake}
use Rattle.kola_schema.specs.Schemas.{is_schema}
use Rattle.kola_schema.specs.Meets.{Meets, agree_on}
use Rattle.kola_term.specs.Terms.{FunTree, FAttr, FPair, FIterate, PKP}
use Rattle.kola_term.specs.Meaning.{den, left, right, constant}
use Rattle.kola_term.specs.Typing.{Context}
use Rattle.kola_term.proofs.Attributes.{constant_typed}
use Rattle.kola_term.proofs.Inversions.{same_name-equal}
use Rattle.kola_term.proofs.Sound.{sound, left_typed, right_typed}
use Rattle.kola_match.specs.Substitutions.{Substitution, sub_type, inst_fun, inst_const, IsTyped}
use Rattle.kola_match.specs.Holding.{Injective, InjectiveAt, AllInjective}
use Rattle.kola_match.proofs.Closed.{AttributesClosed, schema_closed}
use Rattle.kola_match.proofs.Instances.{out_inst, const_inst}
use Rattle.kola_injective.specs.Derived.{paired, Derived, InjectiveWhere, of_id, of_key, of_comp, of_first, of_second, of_times, of_curry, of_iterate, of_variable}

-- ---- pairs

pair_made : (d : Objects) (t u : TypeTree) (v : ValueTree) → HasType d v (TPair t u) → v ≡ VPair (left v) (right v)
pair_made d t u (VPair a b) h = refl
pair_made d t u _ h = absurd h

-- ---- keys

inst_paired : (s : Substitution) (a : List ℕ) (bs : List (List ℕ)) → inst_fun s (paired a bs) ≡ paired a bs
inst_paired s a [] = refl
inst_paired s a (b ∷ bs) = ap (FPair (FAttr a)) (inst_paired s b bs)

paired_agree : (S : Classes) (d : Objects) (a : List ℕ) (bs : List (List ℕ)) (v w : ValueTree) → den S d (paired a bs) v ≡ den S d (paired a bs) w → agree_on d (a ∷ bs) v w ≡ true
paired_agree S d a [] v w e = ap (λ z. same z (attribute_of a d w) && true) e ∙ ap (λ b. b && true) (same_itself (attribute_of a d w))
paired_agree S d a (b ∷ bs) v w e = ap₂ (λ x y. x && y) (ap (λ z. same (left z) (attribute_of a d w)) e ∙ same_itself (attribute_of a d w)) (paired_agree S d b bs v w (ap right e))

-- ---- sets

each_both : (P Q : ValueTree → Type 0) (vs : List ValueTree) → Each P vs → Each Q vs → Each (λ v. P v × Q v) vs
each_both P Q [] h k = tt
each_both P Q (v ∷ vs) h k = ((h.0, k.0), each_both P Q vs h.1 k.1)

has_left : (x : ValueTree) (vs ws : List ValueTree) → has x vs ≡ true → has x (vs ++ ws) ≡ true
has_left x vs ws h = any_append (same x) vs ws ∙ ap (λ b. b || has x ws) h

has_right : (x : ValueTree) (vs ws : List ValueTree) → has x ws ≡ true → has x (vs ++ ws) ≡ true
has_right x vs ws h = any_append (same x) vs ws ∙ (ap (λ b. has x vs || b) h ∙ or-true (has x vs))

module _ (S : Classes) (d : Objects) (f : FunTree) (t : TypeTree) (i : Injective S d f t) where
  same_image : (v w : ValueTree) → HasType d v t → HasType d w t → same (den S d f v) (den S d f w) ≡ same v w
  same_image v w h k =
      bool_same (same (den S d f v) (den S d f w)) (same v w)
      (λ e. rw (i v w h k (equal (den S d f v) (den S d f w) e)) (same_itself w))
      (λ e. rw (equal v w e) (same_itself (den S d f w)))

  -- the test of images that comes back to q
  pulled : (q : ValueTree → Bool) (us : List ValueTree) → Each (λ v. HasType d v t) us → (vs : List ValueTree) → Each (λ v. HasType d v t × (has v us ≡ true)) vs
      → any (λ x. any (λ z. q z && same (den S d f x) (den S d f z)) us) vs ≡ any q vs
  pulled q us h vs k = any_agree (λ v. HasType d v t × (has v us ≡ true)) _ q vs k
      (λ x g. any_agree (λ v. HasType d v t) _ (λ z. q z && same x z) us h (λ z l. ap (λ b. q z && b) (same_image x z g.0 l)) ∙ (any_where x q us ∙ ap (λ b. b && q x) g.1))

  images : (r : ValueTree → Bool) (v : ValueTree) → any r (members (den S d (FIterate (PKP true) f) v)) ≡ any (λ x. r (den S d f x)) (members v)
  images r v = simp anys

  set_apart : Injective S d (FIterate (PKP true) f) (TSet t)
  set_apart v w h k e =
      let vs = members_typed d t v h in
      let ws = members_typed d t w k in
      let both : Each (λ x. HasType d x t) (members v ++ members w) = each_append (λ x. HasType d x t) (members v) (members w) vs ws in
      sym (remake d t v h) ∙ (set_ext (members v) (members w) (λ q.
      let r : ValueTree → Bool = λ y. any (λ z. q z && same y (den S d f z)) (members v ++ members w) in
      sym (pulled q (members v ++ members w) both (members v) (each_both _ _ (members v) vs (each_from _ _ (members v) (λ x. has_left x (members v) (members w)) (each_has (members v)))))
      ∙ (sym (images r v) ∙ (ap (λ z. any r (members z)) e ∙ (images r w
      ∙ pulled q (members v ++ members w) both (members w) (each_both _ _ (members w) ws (each_from _ _ (members w) (λ x. has_right x (members v) (members w)) (each_has (members w))))))))
      ∙ remake d t w k)

-- ---- what is supposed

first_given : (S : Classes) (d : Objects) (s : Substitution) (vars : Context) (n m : List ℕ) (ms : List (List ℕ)) (b : Bool) → bytes_eq n m ≡ b → InjectiveAt S d s m (look_up m vars)
    → (is_listed n ms ≡ true → InjectiveAt S d s n (look_up n vars)) → (b || is_listed n ms) ≡ true → InjectiveAt S d s n (look_up n vars)
first_given S d s vars n m ms true e h k l = subst (λ z. InjectiveAt S d s z (look_up z vars)) (sym (same_name-equal n m e)) h
first_given S d s vars n m ms false e h k l = k l

given_at : (S : Classes) (d : Objects) (s : Substitution) (vars : Context) (n : List ℕ) (hyps : List (List ℕ)) → is_listed n hyps ≡ true → AllInjective S d s vars hyps → InjectiveAt S d s n (look_up n vars)
given_at S d s vars n [] l h = absurd (cc)
given_at S d s vars n (m ∷ ms) l h = first_given S d s vars n m ms (bytes_eq n m) refl h.0 (λ k. given_at S d s vars n ms k h.1) l

derived_sound : (S : Classes) (d : Objects) → Meets S d → AttributesClosed S → (x : Context) (hyps : List (List ℕ)) (s : Substitution) → IsTyped S [] s x → AllInjective S d s x hyps → {f : FunTree} {t : TypeTree} → Derived S x hyps f t → Injective S d (inst_fun s f) (sub_type s.types t)
derived_sound S d m c x hyps s i a of_id v w h k e = e
derived_sound S d m c x hyps s i a (of_key {c = n} j as1 as2 y p) v w h k e =
    m.keys n j (as1 ∷ as2) v w y h k (paired_agree S d as1 as2 v w (subst (λ g. den S d g v ≡ den S d g w) (sym (ap (inst_fun s) p) ∙ inst_paired s as1 as2) e))
derived_sound S d m c x hyps s i a (of_comp {f = f} {g = g} {t = t} {u = u} p o q) v w h k e =
    derived_sound S d m c x hyps s i a p v w h k (derived_sound S d m c x hyps s i a q (den S d (inst_fun s g) v) (den S d (inst_fun s g) w)
    (sound S d m (inst_fun s g) (sub_type s.types t) (sub_type s.types u) v (out_inst S c x [] s i g t u o) h) (sound S d m (inst_fun s g) (sub_type s.types t) (sub_type s.types u) w (out_inst S c x [] s i g t u o) k) e)
derived_sound S d m c x hyps s i a (of_first p) v w h k e = derived_sound S d m c x hyps s i a p v w h k (ap left e)
derived_sound S d m c x hyps s i a (of_second p) v w h k e = derived_sound S d m c x hyps s i a p v w h k (ap right e)
derived_sound S d m c x hyps s i a (of_times {t = t} {u = u} p q) v w h k e =
    pair_made d (sub_type s.types t) (sub_type s.types u) v h
    ∙ (ap₂ VPair (derived_sound S d m c x hyps s i a p (left v) (left w) (left_typed d (sub_type s.types t) (sub_type s.types u) v h) (left_typed d (sub_type s.types t) (sub_type s.types u) w k) (ap left e))
    (derived_sound S d m c x hyps s i a q (right v) (right w) (right_typed d (sub_type s.types t) (sub_type s.types u) v h) (right_typed d (sub_type s.types t) (sub_type s.types u) w k) (ap right e))
    ∙ sym (pair_made d (sub_type s.types t) (sub_type s.types u) w k))
derived_sound S d m c x hyps s i a (of_curry {f = f} {c = b} {t = t} {u = u} o p) v w h k e =
    let l = constant_typed S d (inst_const s b) (sub_type s.types u) (const_inst S x [] s i b u o) in
    ap right (derived_sound S d m c x hyps s i a p (VPair (constant S d (inst_const s b)) v) (VPair (constant S d (inst_const s b)) w) (l, h) (l, k) e)
derived_sound S d m c x hyps s i a (of_iterate {f = f} {t = t} p) v w h k e = set_apart S d (inst_fun s f) (sub_type s.types t) (derived_sound S d m c x hyps s i a p) v w h k e
derived_sound S d m c x hyps s i a (of_variable {n = n} {t = t} {u = u} l o) v w h k e = subst (InjectiveAt S d s n) o (given_at S d s x n hyps l a) v w h k e

pub injective_where : (S : Classes) → is_schema S ≡ true → (x : Context) (hyps : List (List ℕ)) (f : FunTree) (t : TypeTree) → Derived S x hyps f t → InjectiveWhere S x hyps f t
injective_where S k x hyps f t p = λ d m s i a. derived_sound S d m (schema_closed S k) x hyps s i a p

-- the same under attributes without type variables
pub injective_under : (S : Classes) (d : Objects) → Meets S d → AttributesClosed S → (x : Context) (hyps : List (List ℕ)) (s : Substitution) → IsTyped S [] s x → AllInjective S d s x hyps → (f : FunTree) (t : TypeTree) → Derived S x hyps f t → Injective S d (inst_fun s f) (sub_type s.types t)
injective_under S d m c x hyps s i a f t p = derived_sound S d m c x hyps s i a p
