-- What holds of each value of a list.
use Rattle.std.proofs.Common.{◌≡◌, Bool, true, false, cond, ◌&&◌, ap₂, List, [], ◌∷◌, ◌++◌, map, filter, flat_map, refl}
use Rattle.std.specs.declared.cmp.Ordering.{Ordering}
use Rattle.std.specs.declared.cmp.Ordering.TheVariants.{Less, Equal, Greater}
use Rattle.kola_values.specs.Values.{ValueTree}
use Rattle.kola_values.specs.Types.{TypeTree, TSet}
use Rattle.kola_values.specs.Databases.{Objects, HasType}
use Rattle.kola_values.specs.Order.{cmp}
use Rattle.kola_values.specs.Sets.{Each, all, put, put_at, canon, set_of}
use Rattle.kola_values.proofs.Anys.{rising, items-of_items}

pub each_append : {A : Type 0} (P : A → Type 0) (vs ws : List A) → Each P vs → Each P ws → Each P (vs ++ ws)
each_append P [] ws h k = k
each_append P (v ∷ vs) ws h k = (h.0, each_append P vs ws h.1 k)

pub each_filter : {A : Type 0} (P : A → Type 0) (p : A → Bool) (vs : List A) → Each P vs → Each P (filter p vs)
each_filter P p [] h = tt
each_filter {A} P p (v ∷ vs) h = at (p v) (each_filter P p vs h.1)
  where
    at : (b : Bool) → Each P (filter p vs) → Each P (cond b (v ∷ filter p vs) (filter p vs))
    at true k = (h.0, k)
    at false k = k

pub each_map : {A B : Type 0} (P : B → Type 0) (Q : A → Type 0) (f : A → B) (vs : List A) → Each Q vs → ((v : A) → Q v → P (f v)) → Each P (map f vs)
each_map P Q f [] h k = tt
each_map P Q f (v ∷ vs) h k = (k v h.0, each_map P Q f vs h.1 k)

pub each_flat_map : {A B : Type 0} (P : B → Type 0) (Q : A → Type 0) (f : A → List B) (vs : List A) → Each Q vs → ((v : A) → Q v → Each P (f v)) → Each P (flat_map f vs)
each_flat_map P Q f [] h k = tt
each_flat_map P Q f (v ∷ vs) h k = each_append P (f v) (flat_map f vs) (k v h.0) (each_flat_map P Q f vs h.1 k)

module _ (P : ValueTree → Type 0) where
  pub each_put : (v : ValueTree) (vs : List ValueTree) → P v → Each P vs → Each P (put v vs)
  each_put v [] h k = (h, tt)
  each_put v (w ∷ ws) h k = at (cmp v w) (each_put v ws h k.1)
    where
      at : (o : Ordering) → Each P (put v ws) → Each P (put_at o v w ws (put v ws))
      at Less i = (h, k)
      at Equal i = k
      at Greater i = (k.0, i)

  pub each_canon : (vs : List ValueTree) → Each P vs → Each P (canon vs)
  each_canon [] h = tt
  each_canon (v ∷ vs) h = each_put v (canon vs) h.0 (each_canon vs h.1)

pub set_typed : (d : Objects) (t : TypeTree) (vs : List ValueTree) → Each (λ v. HasType d v t) vs → HasType d (set_of vs) (TSet t)
unfolding set_of
set_typed d t vs h = rw (items-of_items (canon vs)) (rising vs, each_canon (λ v. HasType d v t) vs h)

-- ---- lists made in two ways that agree at the values in hand

kept_at : {A B : Type 0} (f f' : A → B) (b b' : Bool) (v : A) (vs ws : List A) → b ≡ b' → f v ≡ f' v → map f vs ≡ map f' ws → map f (cond b (v ∷ vs) vs) ≡ map f' (cond b' (v ∷ ws) ws)
kept_at f f' true true v vs ws e h k = ap₂ (λ x y. x ∷ y) h k
kept_at f f' false false v vs ws e h k = k
kept_at f f' _ _ v vs ws e h k = absurd (cc)

pub kept_agree : {A B : Type 0} (P : A → Type 0) (p p' : A → Bool) (f f' : A → B) (vs : List A) → Each P vs → ((v : A) → P v → p v ≡ p' v) → ((v : A) → P v → f v ≡ f' v) → map f (filter p vs) ≡ map f' (filter p' vs)
kept_agree P p p' f f' [] h a b = refl
kept_agree P p p' f f' (v ∷ vs) h a b = kept_at f f' (p v) (p' v) v (filter p vs) (filter p' vs) (a v h.0) (b v h.0) (kept_agree P p p' f f' vs h.1 a b)

pub map_agree : {A B : Type 0} (P : A → Type 0) (f f' : A → B) (vs : List A) → Each P vs → ((v : A) → P v → f v ≡ f' v) → map f vs ≡ map f' vs
map_agree P f f' [] h b = refl
map_agree P f f' (v ∷ vs) h b = ap₂ (λ x y. x ∷ y) (b v h.0) (map_agree P f f' vs h.1 b)

pub flat_map_agree : {A B : Type 0} (P : A → Type 0) (f f' : A → List B) (vs : List A) → Each P vs → ((v : A) → P v → f v ≡ f' v) → flat_map f vs ≡ flat_map f' vs
flat_map_agree P f f' [] h b = refl
flat_map_agree P f f' (v ∷ vs) h b = ap₂ (λ x y. x ++ y) (b v h.0) (flat_map_agree P f f' vs h.1 b)

module _ (P : ValueTree → Type 0) where
  pub all_agree : (p q : ValueTree → Bool) (vs : List ValueTree) → Each P vs → ((v : ValueTree) → P v → p v ≡ q v) → all p vs ≡ all q vs
  unfolding all
  all_agree p q [] h f = refl
  all_agree p q (v ∷ vs) h f = ap₂ (λ x y. x && y) (f v h.0) (all_agree p q vs h.1 f)
