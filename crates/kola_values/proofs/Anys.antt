-- A set is known by which tests some member of it passes.
use Rattle.std.proofs.Common.{◌≡◌, Bool, true, false, not, cond, ◌&&◌, ◌||◌, List, [], ◌∷◌, ◌++◌, map, filter, flat_map, sym, ◌∙◌, ap, refl, Ordering, Less, Equal, Greater, is_eq, is_gt, is_lt, is_le, true≢false}
use mathlib.Core.Bool.{or_assoc, or_comm, or_self, or_self_left, and_assoc, and_comm, and-or_distrib_left, or-false, and-false, and-true, or-true, and_self, and_self_left, not-not}
use mathlib.Core.Path.{fun_ext}
use Rattle.std.specs.Ordering.{ordering_reverse}
use Rattle.std.proofs.lemmas.Cmp.{tied_itself}
use Rattle.kola_values.specs.Values.{ValueTree, VSet, MemberValues, VNone, VMore, items, of_items}
use Rattle.kola_values.specs.Order.{cmp, same}
use Rattle.kola_values.specs.Sets.{Below, Rising, put, put_at, canon, any, all, has, members, set_of, Each}
use Rattle.kola_values.specs.Models.Total.{cmp_total}
use Rattle.kola_values.specs.Models.Exact.{exact}

-- ---- the order

pub itself : (v : ValueTree) → cmp v v ≡ Equal
itself v = tied_itself cmp_total v

pub same_itself : (v : ValueTree) → same v v ≡ true
unfolding same
same_itself v = rw (itself v)

same_at : (v w : ValueTree) (o : Ordering) → cmp v w ≡ o → is_eq o ≡ true → v ≡ w
same_at v w Less e h = absurd (cc)
same_at v w Equal e h = exact v w e
same_at v w Greater e h = absurd (cc)

-- the test answers true exactly at equal values
pub equal : (v w : ValueTree) → same v w ≡ true → v ≡ w
unfolding same
equal v w h = same_at v w (cmp v w) refl h

pub bool_same : (a b : Bool) → (a ≡ true → b ≡ true) → (b ≡ true → a ≡ true) → a ≡ b
bool_same true true f g = refl
bool_same true false f g = sym (f refl)
bool_same false true f g = g refl
bool_same false false f g = refl

pub same_comm : (v w : ValueTree) → same v w ≡ same w v
same_comm v w = bool_same (same v w) (same w v)
    (λ h. rw (equal v w h) (same_itself w))
    (λ h. rw (equal w v h) (same_itself v))

pub reversed : (v w : ValueTree) → cmp v w ≡ Greater → cmp w v ≡ Less
reversed v w h = cmp_total.antisymm w v ∙ ap ordering_reverse h

-- ---- rising lists

below_put : (u v : ValueTree) (vs : List ValueTree) → cmp u v ≡ Less → Below u vs → Below u (put v vs)
below_put u v [] h b = h
below_put u v (w ∷ ws) h b = at (cmp v w)
  where
    at : (o : Ordering) → Below u (put_at o v w ws (put v ws))
    at Less = h
    at Equal = b
    at Greater = b

pub rising_put : (v : ValueTree) (vs : List ValueTree) → Rising vs → Rising (put v vs)
rising_put v [] r = (tt, tt)
rising_put v (w ∷ ws) r = at (cmp v w) refl (rising_put v ws r.1)
  where
    at : (o : Ordering) → cmp v w ≡ o → Rising (put v ws) → Rising (put_at o v w ws (put v ws))
    at Less e h = (e, r)
    at Equal e h = r
    at Greater e h = (below_put w v ws (reversed v w e) r.0, h)

pub rising : (vs : List ValueTree) → Rising (canon vs)
rising [] = tt
rising (v ∷ vs) = rising_put v (canon vs) (rising vs)

-- ---- some member passes a test

pub any_put : (q : ValueTree → Bool) (v : ValueTree) (vs : List ValueTree) → any q (put v vs) ≡ (q v || any q vs)
unfolding any all
any_put q v [] = refl
any_put q v (w ∷ ws) = at (cmp v w) refl (any_put q v ws)
  where
    at : (o : Ordering) → cmp v w ≡ o → any q (put v ws) ≡ (q v || any q ws) → any q (put_at o v w ws (put v ws)) ≡ (q v || (q w || any q ws))
    at Less e h = refl
    at Equal e h = rw (exact v w e) (sym (or_self_left (q w) (any q ws)))
    at Greater e h = rw h (sym (or_assoc (q w) (q v) (any q ws)) ∙ (ap (λ b. b || any q ws) (or_comm (q w) (q v)) ∙ or_assoc (q v) (q w) (any q ws)))

pub any_canon : (q : ValueTree → Bool) (vs : List ValueTree) → any q (canon vs) ≡ any q vs
unfolding any all
any_canon q [] = refl
any_canon q (v ∷ vs) = any_put q v (canon vs) ∙ ap (λ b. q v || b) (any_canon q vs)

pub any_append : {A : Type 0} (q : A → Bool) (vs ws : List A) → any q (vs ++ ws) ≡ (any q vs || any q ws)
unfolding any all
any_append q [] ws = refl
any_append q (v ∷ vs) ws = ap (λ b. q v || b) (any_append q vs ws) ∙ sym (or_assoc (q v) (any q vs) (any q ws))

pub any_map : {A B : Type 0} (q : B → Bool) (f : A → B) (vs : List A) → any q (map f vs) ≡ any (λ v. q (f v)) vs
unfolding any all
any_map q f [] = refl
any_map q f (v ∷ vs) = ap (λ b. q (f v) || b) (any_map q f vs)

any_cond : {A : Type 0} (q : A → Bool) (b : Bool) (v : A) (vs : List A) → any q (cond b (v ∷ vs) vs) ≡ (b && q v || any q vs)
unfolding any all
any_cond q true v vs = refl
any_cond q false v vs = refl

pub any_filter : {A : Type 0} (q p : A → Bool) (vs : List A) → any q (filter p vs) ≡ any (λ v. p v && q v) vs
unfolding any all
any_filter q p [] = refl
any_filter q p (v ∷ vs) = any_cond q (p v) v (filter p vs) ∙ ap (λ b. p v && q v || b) (any_filter q p vs)

pub any_flat_map : {A B : Type 0} (q : B → Bool) (f : A → List B) (vs : List A) → any q (flat_map f vs) ≡ any (λ v. any q (f v)) vs
unfolding any all
any_flat_map q f [] = refl
any_flat_map q f (v ∷ vs) = any_append q (f v) (flat_map f vs) ∙ ap (λ b. any q (f v) || b) (any_flat_map q f vs)

pub any_or : (p q : ValueTree → Bool) (vs : List ValueTree) → any (λ v. p v || q v) vs ≡ (any p vs || any q vs)
unfolding any all
any_or p q [] = refl
any_or p q (v ∷ vs) = rw (any_or p q vs) (four (p v) (q v) (any p vs) (any q vs))
  where
    four : (a b c d : Bool) → ((a || b) || (c || d)) ≡ ((a || c) || (b || d))
    four true b c d = refl
    four false true c d = sym (or-true c)
    four false false c d = refl

pub any_false : (vs : List ValueTree) → any (λ _. false) vs ≡ false
unfolding any all
any_false [] = refl
any_false (v ∷ vs) = any_false vs

-- a part that does not look at the member
pub any_and_left : (c : Bool) (q : ValueTree → Bool) (vs : List ValueTree) → any (λ v. c && q v) vs ≡ (c && any q vs)
unfolding any all
any_and_left true q vs = refl
any_and_left false q vs = any_false vs

pub any_and_right : (q : ValueTree → Bool) (c : Bool) (vs : List ValueTree) → any (λ v. q v && c) vs ≡ (any q vs && c)
any_and_right q c vs = simp (and_comm) (any_and_left c q vs)

pub each_from : {A : Type 0} (P Q : A → Type 0) (vs : List A) → ((v : A) → P v → Q v) → Each P vs → Each Q vs
each_from P Q [] f h = tt
each_from P Q (v ∷ vs) f h = (f v h.0, each_from P Q vs f h.1)

-- each is a member
pub each_has : (vs : List ValueTree) → Each (λ v. has v vs ≡ true) vs
unfolding any all
each_has [] = tt
each_has (v ∷ vs) = (rw (same_itself v), each_from (λ w. has w vs ≡ true) (λ w. has w (v ∷ vs) ≡ true) vs (λ w h. rw h (or-true (same w v))) (each_has vs))

-- tests that agree at the members
pub any_agree : {A : Type 0} (P : A → Type 0) (p q : A → Bool) (vs : List A) → Each P vs → ((v : A) → P v → p v ≡ q v) → any p vs ≡ any q vs
unfolding any all
any_agree P p q [] h f = refl
any_agree P p q (v ∷ vs) h f = rw (f v h.0, any_agree P p q vs h.1 f)

-- the one member that is v
pub any_same : (v : ValueTree) (q : ValueTree → Bool) (vs : List ValueTree) → any (λ w. same v w && q w) vs ≡ (has v vs && q v)
any_same v q vs = any_agree (λ _. Unit {0}) (λ w. same v w && q w) (λ w. same v w && q v) vs (all_unit vs) (λ w _. at w (same v w) refl) ∙ any_and_right (same v) (q v) vs
  where
    all_unit : (vs : List ValueTree) → Each (λ _. Unit {0}) vs
    all_unit [] = tt
    all_unit (u ∷ us) = (tt, all_unit us)

    at : (w : ValueTree) (b : Bool) → same v w ≡ b → (b && q w) ≡ (b && q v)
    at w true e = ap q (sym (equal v w e))
    at w false e = refl

-- ---- extensionality

-- what is above the head is above it throughout
pub above : (x : ValueTree) (xs : List ValueTree) → Below x xs → Rising xs → Each (λ z. cmp x z ≡ Less) xs
above x [] b r = tt
above x (y ∷ ys) b r = (b, each_from (λ z. cmp y z ≡ Less) (λ z. cmp x z ≡ Less) ys (λ z h. cmp_total.trans x y z b h) (above y ys r.0 r.1))

less_from : (x y : ValueTree) → cmp x y ≡ Less → is_gt (cmp y x) ≡ true
less_from x y h = rw (cmp_total.antisymm y x ∙ ap ordering_reverse h)

not_above_itself : (x : ValueTree) → is_gt (cmp x x) ≡ false
not_above_itself x = rw (itself x)

any_above : (x : ValueTree) (q : ValueTree → Bool) (xs : List ValueTree) → Below x xs → Rising xs → any (λ z. is_gt (cmp z x) && q z) (x ∷ xs) ≡ any q xs
unfolding any all
any_above x q xs b r = rw (not_above_itself x) (any_agree (λ z. cmp x z ≡ Less) (λ z. is_gt (cmp z x) && q z) q xs (above x xs b r) (λ z h. rw (less_from x z h)))

-- nothing in ys is x, where x is below the head
pub absent : (x y : ValueTree) (ys : List ValueTree) → cmp x y ≡ Less → Rising (y ∷ ys) → has x (y ∷ ys) ≡ false
unfolding same any all
absent x y ys h r = any_agree (λ z. cmp x z ≡ Less) (same x) (λ _. false) (y ∷ ys) (above x (y ∷ ys) h r) (λ z k. rw k) ∙ any_false (y ∷ ys)

pub has_head : (x : ValueTree) (xs : List ValueTree) → has x (x ∷ xs) ≡ true
unfolding any all
has_head x xs = rw (same_itself x)

-- two rising lists of which the same tests hold are one list
pub one_list : (xs ys : List ValueTree) → Rising xs → Rising ys → ((q : ValueTree → Bool) → any q xs ≡ any q ys) → xs ≡ ys
unfolding any all
one_list [] [] r s h = refl
one_list [] (y ∷ ys) r s h = absurd (true≢false (sym (h (λ _. true))))
one_list (x ∷ xs) [] r s h = absurd (true≢false (h (λ _. true)))
one_list (x ∷ xs) (y ∷ ys) r s h = at (cmp x y) refl (one_list xs ys r.1 s.1)
  where
    at : (o : Ordering) → cmp x y ≡ o → (((q : ValueTree → Bool) → any q xs ≡ any q ys) → xs ≡ ys) → x ∷ xs ≡ y ∷ ys
    at Less e k = absurd (true≢false (sym (has_head x xs) ∙ (h (same x) ∙ absent x y ys e s)))
    at Equal e k =
        let p : x ≡ y = exact x y e in
        let t : xs ≡ ys = k (λ q. sym (any_above x q xs r.0 r.1) ∙ (h (λ z. is_gt (cmp z x) && q z) ∙ (ap (λ u. any (λ z. is_gt (cmp z u) && q z) (y ∷ ys)) p ∙ any_above y q ys s.0 s.1))) in
        cc
    at Greater e k = absurd (true≢false (sym (has_head y ys) ∙ (sym (h (same y)) ∙ absent y x xs (reversed x y e) r)))

pub canon_ext : (xs ys : List ValueTree) → ((q : ValueTree → Bool) → any q xs ≡ any q ys) → canon xs ≡ canon ys
canon_ext xs ys h = one_list (canon xs) (canon ys) (rising xs) (rising ys) (λ q. any_canon q xs ∙ (h q ∙ sym (any_canon q ys)))

pub set_ext : (xs ys : List ValueTree) → ((q : ValueTree → Bool) → any q xs ≡ any q ys) → set_of xs ≡ set_of ys
unfolding set_of
set_ext xs ys h = ap (λ l. VSet (of_items l)) (canon_ext xs ys h)

pub items-of_items : (xs : List ValueTree) → items (of_items xs) ≡ xs
items-of_items [] = refl
items-of_items (x ∷ xs) = ap (λ l. x ∷ l) (items-of_items xs)

pub any_members : (q : ValueTree → Bool) (xs : List ValueTree) → any q (members (set_of xs)) ≡ any q xs
unfolding set_of
any_members q xs = ap (any q) (items-of_items (canon xs)) ∙ any_canon q xs

pub of_items-items : (vs : MemberValues) → of_items (items vs) ≡ vs
of_items-items VNone = refl
of_items-items (VMore v vs) = ap (VMore v) (of_items-items vs)

pub canon_rising : (xs : List ValueTree) → Rising xs → canon xs ≡ xs
canon_rising xs r = one_list (canon xs) xs (rising xs) r (λ q. any_canon q xs)

pub set_of_items : (vs : MemberValues) → Rising (items vs) → set_of (items vs) ≡ VSet vs
unfolding set_of
set_of_items vs r = ap VSet (ap of_items (canon_rising (items vs) r) ∙ of_items-items vs)

pub all_any : (q : ValueTree → Bool) (vs : List ValueTree) → all q vs ≡ not (any (λ v. not (q v)) vs)
unfolding any all
all_any q [] = refl
all_any q (v ∷ vs) = rw (all_any q vs) (at (q v) (any (λ w. not (q w)) vs))
  where
    at : (a b : Bool) → (a && not b) ≡ not (not a || b)
    at true b = refl
    at false b = refl

-- what brings a test of some member of a set to tests of what it was made from
pub ruleset anys = (any_members, any_map, any_filter, any_flat_map, any_append)

-- ---- more on tests

pub any_swap : (h : ValueTree → ValueTree → Bool) (vs ws : List ValueTree) → any (λ v. any (λ w. h v w) ws) vs ≡ any (λ w. any (λ v. h v w) vs) ws
unfolding any all
any_swap h [] ws = sym (any_false ws)
any_swap h (v ∷ vs) ws = rw (any_swap h vs ws) (sym (any_or (λ w. h v w) (λ w. any (λ u. h u w) vs) ws))

pub and_any : (c : Bool) (q : ValueTree → Bool) (vs : List ValueTree) → (c && any q vs) ≡ any (λ v. c && q v) vs
and_any c q vs = sym (any_and_left c q vs)

pub any_and : (q : ValueTree → Bool) (c : Bool) (vs : List ValueTree) → (any q vs && c) ≡ any (λ v. q v && c) vs
any_and q c vs = sym (any_and_right q c vs)

pub and_left_comm : (a b c : Bool) → (a && (b && c)) ≡ (b && (a && c))
and_left_comm true b c = refl
and_left_comm false b c = sym (and-false b)

pub all_and : (p q : ValueTree → Bool) (vs : List ValueTree) → all (λ v. p v && q v) vs ≡ (all p vs && all q vs)
unfolding any all
all_and p q [] = refl
all_and p q (v ∷ vs) = rw (all_and p q vs) (four (p v) (q v) (all p vs) (all q vs))
  where
    four : (a b c d : Bool) → ((a && b) && (c && d)) ≡ ((a && c) && (b && d))
    four true b c d = and_left_comm b c d
    four false b c d = refl

-- members that are v alone count, where v is a member
pub any_at : (v : ValueTree) (q : ValueTree → Bool) (vs : List ValueTree) → has v vs ≡ true → any (λ w. same w v && q w) vs ≡ q v
any_at v q vs h = ap (λ k. any k vs) (fun_ext (λ w. ap (λ b. b && q w) (same_comm w v))) ∙ (any_same v q vs ∙ ap (λ b. b && q v) h)

pub any_members_agree : (p q : ValueTree → Bool) (vs : List ValueTree) → ((v : ValueTree) → has v vs ≡ true → p v ≡ q v) → any p vs ≡ any q vs
any_members_agree p q vs f = any_agree (λ v. has v vs ≡ true) p q vs (each_has vs) f

le_at : (o : Ordering) → is_le o ≡ (is_lt o || is_eq o)
le_at Less = refl
le_at Equal = refl
le_at Greater = refl

pub le_or : (v w : ValueTree) → is_le (cmp v w) ≡ (is_lt (cmp v w) || same v w)
unfolding same
le_or v w = le_at (cmp v w)

not_le_at : (o : Ordering) → not (is_le o) ≡ is_lt (ordering_reverse o)
not_le_at Less = refl
not_le_at Equal = refl
not_le_at Greater = refl

pub not_le : (v w : ValueTree) → not (is_le (cmp v w)) ≡ is_lt (cmp w v)
not_le v w = rw (cmp_total.antisymm w v) (not_le_at (cmp v w))

-- conjunctions inside, sorted
pub ruleset inward = (anys, and_any, any_and, and_assoc, and_comm, and_left_comm)

-- ---- two lists at once

-- with `any` read as a function of the test, agreement at each value
pub any_same_tests : (p q : ValueTree → Bool) (vs : List ValueTree) → ((v : ValueTree) → p v ≡ q v) → any p vs ≡ any q vs
any_same_tests p q vs f = ap (λ k. any k vs) (fun_ext f)

module _ (r : ValueTree → Bool) (h k : ValueTree → ValueTree → Bool) (vs ws : List ValueTree) where
  pub select_first : any (λ x. any (λ y. (r x && h x y) && k x y) ws) vs ≡ any (λ x. r x && any (λ y. h x y && k x y) ws) vs
  select_first = simp (and_assoc, any_and_left)

  pub select_first_after : any (λ x. any (λ y. (h x y && r x) && k x y) ws) vs ≡ any (λ x. r x && any (λ y. h x y && k x y) ws) vs
  select_first_after = simp (and_assoc, and_left_comm, any_and_left)

  pub select_second : any (λ x. any (λ y. (r y && h x y) && k x y) ws) vs ≡ any (λ x. any (λ y. r y && (h x y && k x y)) ws) vs
  select_second = simp and_assoc

  pub select_second_after : any (λ x. any (λ y. (h x y && r y) && k x y) ws) vs ≡ any (λ x. any (λ y. r y && (h x y && k x y)) ws) vs
  select_second_after = any_same_tests _ _ vs (λ x. any_same_tests _ _ ws (λ y. and_assoc (h x y) (r y) (k x y) ∙ and_left_comm (h x y) (r y) (k x y)))

pub isect_tests : (q : ValueTree → Bool) (vs ws : List ValueTree) → any (λ x. any (λ y. same x y && q x) ws) vs ≡ any (λ x. has x ws && q x) vs
isect_tests q vs ws = any_same_tests _ _ vs (λ x. any_and_right (same x) (q x) ws)

-- x is among those that pass r
pub any_where : (x : ValueTree) (r : ValueTree → Bool) (vs : List ValueTree) → any (λ y. r y && same x y) vs ≡ (has x vs && r x)
any_where x r vs = any_same_tests _ _ vs (λ y. and_comm (r y) (same x y)) ∙ any_same x r vs

pub minus_tests : (p r q : ValueTree → Bool) (vs : List ValueTree) → any (λ x. (p x && not (r x)) && q x) vs ≡ any (λ x. p x && (not (any (λ y. r y && same x y) vs) && q x)) vs
minus_tests p r q vs = any_members_agree _ _ vs (λ x h. rw (any_where x r vs, h) (and_assoc (p x) (not (r x)) (q x)))

pub both_tests : (p r q : ValueTree → Bool) (vs : List ValueTree) → any (λ x. (p x && r x) && q x) vs ≡ any (λ x. p x && (any (λ y. r y && same x y) vs && q x)) vs
both_tests p r q vs = any_members_agree _ _ vs (λ x h. rw (any_where x r vs, h) (and_assoc (p x) (r x) (q x)))

-- the members of a list of pairs that belong to x
pub picked : (x : ValueTree) (h k : ValueTree → ValueTree → Bool) (vs ws : List ValueTree) → has x vs ≡ true → any (λ u. any (λ y. h u y && (same u x && k u y)) ws) vs ≡ any (λ y. h x y && k x y) ws
picked x h k vs ws e =
    any_same_tests _ _ vs (λ u. any_same_tests _ _ ws (λ y. and_left_comm (h u y) (same u x) (k u y)) ∙ any_and_left (same u x) (λ y. h u y && k u y) ws)
    ∙ any_at x (λ u. any (λ y. h u y && k u y) ws) vs e

pub picked_sets : (x : ValueTree) (h : ValueTree → ValueTree → Bool) (made : ValueTree → ValueTree → List ValueTree) (r : ValueTree → Bool) (vs ws : List ValueTree) → has x vs ≡ true → any (λ u. any (λ y. h u y && any (λ w. same u x && r w) (made u y)) ws) vs ≡ any (λ y. h x y && any r (made x y)) ws
picked_sets x h made r vs ws e =
    any_same_tests _ _ vs (λ u. any_same_tests _ _ ws (λ y. ap (λ b. h u y && b) (any_and_left (same u x) r (made u y))))
    ∙ picked x h (λ u y. any r (made u y)) vs ws e
