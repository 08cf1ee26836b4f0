-- A merge of two rising lists, step by step.
use Rattle.std.proofs.Common.{◌≡◌, ℕ, zero, suc, ◌+◌, ◌-◌, ◌<◌, ◌≤◌, add-zero, Bool, true, false, not, cond, ◌&&◌, ◌||◌, List, [], ◌∷◌, ◌++◌, length, get_or, map, filter, take, drop, sym, ◌∙◌, ap, refl, subst, arith, Less, Equal, Greater}
use mathlib.Core.Bool.{or_assoc, or-false, or_self, and-true, and-false}
use Rattle.std.specs.Ordering.{is_eq, ordering_reverse}
use Rattle.std.proofs.lemmas.List.{append_assoc, append-nil, drop_all, length-drop, take_more, get_or-drop}
use Rattle.kola_core.proofs.Lists.{left_less, longer}
use Rattle.kola_values.specs.Values.{ValueTree}
use Rattle.kola_values.specs.Order.{cmp, same}
use Rattle.kola_values.specs.Sets.{Below, Rising, canon, any, has, Each}
use Rattle.kola_values.specs.Merging.{is_kept, merged}
use Rattle.kola_values.specs.Models.Exact.{exact}
use Rattle.kola_values.specs.Models.Total.{cmp_total}
use Rattle.kola_values.specs.Views.{value_tree}
use Rattle.kola_values.specs.declared.value.Value.{Value}
use Rattle.kola_values.proofs.Anys.{one_list, rising, any_canon, any_filter, any_append, any_agree, any_and_left, any_members_agree, any_same_tests, any_false, any_swap, isect_tests, above, absent, has_head, reversed, equal, same_comm}
use Rattle.kola_values.proofs.Each.{each_append, each_filter, each_canon}

abbrev AllAbove : ValueTree → List ValueTree → Type 0
AllAbove u l = Each (λ z. cmp u z ≡ Less) l

not_same_above : (u x : ValueTree) → cmp u x ≡ Less → same x u ≡ false
unfolding same
not_same_above u x h = ap is_eq (cmp_total.antisymm x u ∙ ap ordering_reverse h)

has_skip : (u x : ValueTree) (l : List ValueTree) → cmp u x ≡ Less → has x (u ∷ l) ≡ has x l
unfolding any
has_skip u x l h = ap (λ b. b || has x l) (not_same_above u x h)

below_all : (u : ValueTree) (l : List ValueTree) → AllAbove u l → Below u l
below_all u [] h = tt
below_all u (v ∷ l) h = h.0

above_later : (u v : ValueTree) (vs : List ValueTree) → cmp u v ≡ Less → Rising (v ∷ vs) → AllAbove u (v ∷ vs)
above_later u v vs h r = above u (v ∷ vs) h r

rising_cond : (c : Bool) (u : ValueTree) (m : List ValueTree) → AllAbove u m → Rising m → Rising (cond c (u ∷ m) m)
rising_cond true u m a r = (below_all u m a, r)
rising_cond false u m a r = r

any_cond : (q : ValueTree → Bool) (c : Bool) (u : ValueTree) (m : List ValueTree) → any q (cond c (u ∷ m) m) ≡ ((c && q u) || any q m)
unfolding any
any_cond q true u m = refl
any_cond q false u m = refl

rising_wanted : (c : Bool) (us : List ValueTree) → Rising us → Rising (cond c us [])
rising_wanted true us r = r
rising_wanted false us r = tt

any_wanted : (q : ValueTree → Bool) (c : Bool) (us : List ValueTree) → any q (cond c us []) ≡ (c && any q us)
unfolding any
any_wanted q true us = refl
any_wanted q false us = refl

module _ (f b s : Bool) where
  any_merged : (q : ValueTree → Bool) (us vs : List ValueTree) → any q (merged f b s us vs) ≡ (any (λ x. is_kept f b s us vs x && q x) us || any (λ x. is_kept f b s us vs x && q x) vs)
  any_merged q us vs =
      any_canon q (filter (is_kept f b s us vs) (us ++ vs))
      ∙ any_filter q (is_kept f b s us vs) (us ++ vs)
      ∙ any_append (λ x. is_kept f b s us vs x && q x) us vs

  pub rising_merged : (us vs : List ValueTree) → Rising (merged f b s us vs)
  rising_merged us vs = rising (filter (is_kept f b s us vs) (us ++ vs))

  merged_above : (u : ValueTree) (us vs : List ValueTree) → AllAbove u us → AllAbove u vs → AllAbove u (merged f b s us vs)
  merged_above u us vs h k =
      each_canon (λ z. cmp u z ≡ Less) _ (each_filter (λ z. cmp u z ≡ Less) (is_kept f b s us vs) (us ++ vs) (each_append (λ z. cmp u z ≡ Less) us vs h k))

  -- values above u are kept alike with and without u
  agree_above : (p p' q : ValueTree → Bool) (u : ValueTree) (l : List ValueTree) → AllAbove u l → ((x : ValueTree) → cmp u x ≡ Less → p x ≡ p' x) → any (λ x. p x && q x) l ≡ any (λ x. p' x && q x) l
  agree_above p p' q u l h e = any_agree (λ z. cmp u z ≡ Less) (λ x. p x && q x) (λ x. p' x && q x) l h (λ x k. ap (λ c. c && q x) (e x k))

  pub merged_less : (u v : ValueTree) (us vs : List ValueTree) → cmp u v ≡ Less → Rising (u ∷ us) → Rising (v ∷ vs) → merged f b s (u ∷ us) (v ∷ vs) ≡ cond f (u ∷ merged f b s us (v ∷ vs)) (merged f b s us (v ∷ vs))
  unfolding any
  merged_less u v us vs e r t = one_list _ _ (rising_merged (u ∷ us) (v ∷ vs)) (rising_cond f u m (merged_above u us (v ∷ vs) left right) (rising_merged us (v ∷ vs))) tests
    where
      m : List ValueTree
      m = merged f b s us (v ∷ vs)

      left : AllAbove u us
      left = above u us r.0 r.1

      right : AllAbove u (v ∷ vs)
      right = above_later u v vs e t

      kept : is_kept f b s (u ∷ us) (v ∷ vs) u ≡ f
      kept = λ i. cond (has_head u us i) (cond (absent u v vs e t i) b f) s

      alike : (x : ValueTree) → cmp u x ≡ Less → is_kept f b s (u ∷ us) (v ∷ vs) x ≡ is_kept f b s us (v ∷ vs) x
      alike x h = λ i. cond (has_skip u x us h i) (cond (has x (v ∷ vs)) b f) s

      tests : (q : ValueTree → Bool) → any q (merged f b s (u ∷ us) (v ∷ vs)) ≡ any q (cond f (u ∷ m) m)
      tests q =
          any_merged q (u ∷ us) (v ∷ vs)
          ∙ (λ i. ((kept i && q u) || agree_above _ _ q u us left alike i) || agree_above _ _ q u (v ∷ vs) right alike i)
          ∙ or_assoc (f && q u) (any (λ x. is_kept f b s us (v ∷ vs) x && q x) us) (any (λ x. is_kept f b s us (v ∷ vs) x && q x) (v ∷ vs))
          ∙ ap (λ c. (f && q u) || c) (sym (any_merged q us (v ∷ vs)))
          ∙ sym (any_cond q f u m)

  pub merged_equal : (u : ValueTree) (us vs : List ValueTree) → Rising (u ∷ us) → Rising (u ∷ vs) → merged f b s (u ∷ us) (u ∷ vs) ≡ cond b (u ∷ merged f b s us vs) (merged f b s us vs)
  unfolding any
  merged_equal u us vs r t = one_list _ _ (rising_merged (u ∷ us) (u ∷ vs)) (rising_cond b u m (merged_above u us vs left right) (rising_merged us vs)) tests
    where
      m : List ValueTree
      m = merged f b s us vs

      left : AllAbove u us
      left = above u us r.0 r.1

      right : AllAbove u vs
      right = above u vs t.0 t.1

      kept : is_kept f b s (u ∷ us) (u ∷ vs) u ≡ b
      kept = λ i. cond (has_head u us i) (cond (has_head u vs i) b f) s

      alike : (x : ValueTree) → cmp u x ≡ Less → is_kept f b s (u ∷ us) (u ∷ vs) x ≡ is_kept f b s us vs x
      alike x h = λ i. cond (has_skip u x us h i) (cond (has_skip u x vs h i) b f) s

      twice : (x y z : Bool) → ((x || y) || (x || z)) ≡ (x || (y || z))
      twice true y z = refl
      twice false y z = refl

      tests : (q : ValueTree → Bool) → any q (merged f b s (u ∷ us) (u ∷ vs)) ≡ any q (cond b (u ∷ m) m)
      tests q =
          any_merged q (u ∷ us) (u ∷ vs)
          ∙ (λ i. ((kept i && q u) || agree_above _ _ q u us left alike i) || ((kept i && q u) || agree_above _ _ q u vs right alike i))
          ∙ twice (b && q u) (any (λ x. is_kept f b s us vs x && q x) us) (any (λ x. is_kept f b s us vs x && q x) vs)
          ∙ ap (λ c. (b && q u) || c) (sym (any_merged q us vs))
          ∙ sym (any_cond q b u m)

  pub merged_greater : (u v : ValueTree) (us vs : List ValueTree) → cmp v u ≡ Less → Rising (u ∷ us) → Rising (v ∷ vs) → merged f b s (u ∷ us) (v ∷ vs) ≡ cond s (v ∷ merged f b s (u ∷ us) vs) (merged f b s (u ∷ us) vs)
  unfolding any
  merged_greater u v us vs e r t = one_list _ _ (rising_merged (u ∷ us) (v ∷ vs)) (rising_cond s v m (merged_above v (u ∷ us) vs left right) (rising_merged (u ∷ us) vs)) tests
    where
      m : List ValueTree
      m = merged f b s (u ∷ us) vs

      left : AllAbove v (u ∷ us)
      left = above_later v u us e r

      right : AllAbove v vs
      right = above v vs t.0 t.1

      kept : is_kept f b s (u ∷ us) (v ∷ vs) v ≡ s
      kept = λ i. cond (absent v u us e r i) (cond (has v (v ∷ vs)) b f) s

      alike : (x : ValueTree) → cmp v x ≡ Less → is_kept f b s (u ∷ us) (v ∷ vs) x ≡ is_kept f b s (u ∷ us) vs x
      alike x h = λ i. cond (has x (u ∷ us)) (cond (has_skip v x vs h i) b f) s

      first : (x y z : Bool) → (x || (y || z)) ≡ (y || (x || z))
      first true true z = refl
      first true false z = refl
      first false y z = refl

      tests : (q : ValueTree → Bool) → any q (merged f b s (u ∷ us) (v ∷ vs)) ≡ any q (cond s (v ∷ m) m)
      tests q =
          any_merged q (u ∷ us) (v ∷ vs)
          ∙ (λ i. agree_above _ _ q v (u ∷ us) left alike i || ((kept i && q v) || agree_above _ _ q v vs right alike i))
          ∙ first (any (λ x. is_kept f b s (u ∷ us) vs x && q x) (u ∷ us)) (s && q v) (any (λ x. is_kept f b s (u ∷ us) vs x && q x) vs)
          ∙ ap (λ c. (s && q v) || c) (sym (any_merged q (u ∷ us) vs))
          ∙ sym (any_cond q s v m)

  pub merged_none : (us : List ValueTree) → Rising us → merged f b s us [] ≡ cond f us []
  unfolding any
  merged_none us r = one_list _ _ (rising_merged us []) (rising_wanted f us r) tests
    where
      tests : (q : ValueTree → Bool) → any q (merged f b s us []) ≡ any q (cond f us [])
      tests q =
          any_merged q us []
          ∙ or-false (any (λ x. is_kept f b s us [] x && q x) us)
          ∙ any_members_agree (λ x. is_kept f b s us [] x && q x) (λ x. f && q x) us (λ x h. ap (λ c. cond c f s && q x) h)
          ∙ any_and_left f q us
          ∙ sym (any_wanted q f us)

  pub none_merged : (vs : List ValueTree) → Rising vs → merged f b s [] vs ≡ cond s vs []
  unfolding any
  none_merged vs r = one_list _ _ (rising_merged [] vs) (rising_wanted s vs r) tests
    where
      tests : (q : ValueTree → Bool) → any q (merged f b s [] vs) ≡ any q (cond s vs [])
      tests q =
          any_merged q [] vs
          ∙ any_and_left s q vs
          ∙ sym (any_wanted q s vs)

rising_drop : (us : List ValueTree) (i : ℕ) → Rising us → Rising (drop i us)
rising_drop us zero r = r
rising_drop [] (suc i) r = tt
rising_drop (u ∷ us) (suc i) r = rising_drop us i r.1

cond_append : (c : Bool) (done : List ValueTree) (u : ValueTree) (m : List ValueTree) → done ++ cond c (u ∷ m) m ≡ (done ++ cond c (u ∷ []) []) ++ m
cond_append true done u m = sym (append_assoc done (u ∷ []) m)
cond_append false done u m = ap (λ l. l ++ m) (sym (append-nil done))

-- what is merged so far, from the first i of us and the first j of vs
pub record IsMerged (f b s : Bool) (us vs done : List ValueTree) (i j : ℕ) : Type 0 where
  pub first_within : i ≤ length us
  pub second_within : j ≤ length vs
  pub whole : merged f b s us vs ≡ done ++ merged f b s (drop i us) (drop j vs)

-- the slice of one value
pub one_taken : (c : Bool) (xs : List Value) (i : ℕ) (x : Value) → i < length xs → x ≡ get_or xs i x → cond c (map value_tree (take ((i + 1) - i) (drop i xs))) [] ≡ cond c (value_tree x ∷ []) []
one_taken c xs i x p h =
    let one : (i + 1) - i ≡ 0 + 1 = omega arith in
    let long : 0 < length (drop i xs) = omega (arith, length-drop i xs) in
    ap (λ l. cond c (map value_tree l) [])
    (ap (λ n. take n (drop i xs)) one ∙ take_more (drop i xs) 0 x long ∙ ap (λ y. y ∷ []) (get_or-drop i xs 0 x ∙ ap (λ n. get_or xs n x) (add-zero i) ∙ sym h))

-- a loop over two lists of values
module _ (f b s : Bool) (xs ys : List Value) (us vs done : List ValueTree) (i j : ℕ) (x y : Value) (e : map value_tree xs ≡ us) (g : map value_tree ys ≡ vs) (p : i < length xs) (o : j < length ys) (h : x ≡ get_or xs i x) (k : y ≡ get_or ys j y) (r : Rising us) (t : Rising vs) (w : IsMerged f b s us vs done i j) where
  first_left : drop i us ≡ value_tree x ∷ drop (i + 1) us
  first_left = left_less value_tree xs us i x e p h

  second_left : drop j vs ≡ value_tree y ∷ drop (j + 1) vs
  second_left = left_less value_tree ys vs j y g o k

  first_rises : Rising (value_tree x ∷ drop (i + 1) us)
  first_rises = subst Rising first_left (rising_drop us i r)

  second_rises : Rising (value_tree y ∷ drop (j + 1) vs)
  second_rises = subst Rising second_left (rising_drop vs j t)

  at_heads : merged f b s us vs ≡ done ++ merged f b s (value_tree x ∷ drop (i + 1) us) (value_tree y ∷ drop (j + 1) vs)
  at_heads = w.whole ∙ (λ z. done ++ merged f b s (first_left z) (second_left z))

  pub merge_less : cmp (value_tree x) (value_tree y) ≡ Less → IsMerged f b s us vs (done ++ cond f (value_tree x ∷ []) []) (i + 1) j
  merge_less c = record {
    first_within = let l = longer value_tree xs us i e p in omega arith;
    second_within = w.second_within;
    whole = at_heads
        ∙ ap (λ l. done ++ l) (merged_less f b s (value_tree x) (value_tree y) (drop (i + 1) us) (drop (j + 1) vs) c first_rises second_rises)
        ∙ cond_append f done (value_tree x) (merged f b s (drop (i + 1) us) (value_tree y ∷ drop (j + 1) vs))
        ∙ ap (λ l. (done ++ cond f (value_tree x ∷ []) []) ++ merged f b s (drop (i + 1) us) l) (sym second_left);
  }

  pub merge_greater : cmp (value_tree x) (value_tree y) ≡ Greater → IsMerged f b s us vs (done ++ cond s (value_tree y ∷ []) []) i (j + 1)
  merge_greater c = record {
    first_within = w.first_within;
    second_within = let l = longer value_tree ys vs j g o in omega arith;
    whole = at_heads
        ∙ ap (λ l. done ++ l) (merged_greater f b s (value_tree x) (value_tree y) (drop (i + 1) us) (drop (j + 1) vs) (reversed (value_tree x) (value_tree y) c) first_rises second_rises)
        ∙ cond_append s done (value_tree y) (merged f b s (value_tree x ∷ drop (i + 1) us) (drop (j + 1) vs))
        ∙ ap (λ l. (done ++ cond s (value_tree y ∷ []) []) ++ merged f b s l (drop (j + 1) vs)) (sym first_left);
  }

  pub merge_equal : cmp (value_tree x) (value_tree y) ≡ Equal → IsMerged f b s us vs (done ++ cond b (value_tree x ∷ []) []) (i + 1) (j + 1)
  merge_equal c =
      let q : value_tree y ≡ value_tree x = sym (exact (value_tree x) (value_tree y) c) in
      record {
        first_within = let l = longer value_tree xs us i e p in omega arith;
        second_within = let l = longer value_tree ys vs j g o in omega arith;
        whole = at_heads
            ∙ ap (λ v. done ++ merged f b s (value_tree x ∷ drop (i + 1) us) (v ∷ drop (j + 1) vs)) q
            ∙ ap (λ l. done ++ l) (merged_equal f b s (value_tree x) (drop (i + 1) us) (drop (j + 1) vs) first_rises (subst (λ v. Rising (v ∷ drop (j + 1) vs)) q second_rises))
            ∙ cond_append b done (value_tree x) (merged f b s (drop (i + 1) us) (drop (j + 1) vs));
      }

nothing : (c : Bool) (l : List ValueTree) → l ≡ [] → cond c l [] ≡ []
nothing true l h = h
nothing false l h = refl

-- one of the two lists is at its end
module _ (f b s : Bool) (us vs done : List ValueTree) (i j : ℕ) (r : Rising us) (t : Rising vs) (w : IsMerged f b s us vs done i j) where
  pub first_ended : length us ≤ i → merged f b s us vs ≡ (done ++ cond f (drop i us) []) ++ cond s (drop j vs) []
  first_ended h =
      let e = drop_all i us h in
      w.whole
      ∙ ap (λ l. done ++ merged f b s l (drop j vs)) e
      ∙ ap (λ l. done ++ l) (none_merged f b s (drop j vs) (rising_drop vs j t))
      ∙ ap (λ l. l ++ cond s (drop j vs) []) (sym (append-nil done) ∙ ap (λ l. done ++ l) (sym (nothing f (drop i us) e)))

  pub second_ended : length vs ≤ j → merged f b s us vs ≡ (done ++ cond f (drop i us) []) ++ cond s (drop j vs) []
  second_ended h =
      let e = drop_all j vs h in
      w.whole
      ∙ ap (λ l. done ++ merged f b s (drop i us) l) e
      ∙ ap (λ l. done ++ l) (merged_none f b s (drop i us) (rising_drop us i r))
      ∙ sym (append-nil (done ++ cond f (drop i us) []))
      ∙ ap (λ l. (done ++ cond f (drop i us) []) ++ l) (sym (nothing s (drop j vs) e))

-- ---- the three operations

pub merged_union : (us vs : List ValueTree) → merged true true true us vs ≡ canon (us ++ vs)
merged_union us vs = ap canon (all_kept (us ++ vs))
  where
    always : (x : ValueTree) → is_kept true true true us vs x ≡ true
    always x = at (has x us) (has x vs)
      where
        at : (c d : Bool) → cond c (cond d true true) true ≡ true
        at true true = refl
        at true false = refl
        at false d = refl

    all_kept : (l : List ValueTree) → filter (is_kept true true true us vs) l ≡ l
    all_kept [] = refl
    all_kept (x ∷ l) = ap (λ c. cond c (x ∷ filter (is_kept true true true us vs) l) (filter (is_kept true true true us vs) l)) (always x) ∙ ap (λ l. x ∷ l) (all_kept l)

below_filter : (p : ValueTree → Bool) (u : ValueTree) (us : List ValueTree) → Rising (u ∷ us) → Below u (filter p us)
below_filter p u us r = below_all u (filter p us) (each_filter (λ z. cmp u z ≡ Less) p us (above u us r.0 r.1))

-- what passes a test still rises
pub rising_filter : (p : ValueTree → Bool) (us : List ValueTree) → Rising us → Rising (filter p us)
rising_filter p [] r = tt
rising_filter p (u ∷ us) r = at (p u) (rising_filter p us r.1)
  where
    at : (c : Bool) → Rising (filter p us) → Rising (cond c (u ∷ filter p us) (filter p us))
    at true h = (below_filter p u us r, h)
    at false h = h

both_of : (c d : Bool) → cond c (cond d true false) false ≡ (c && d)
both_of true true = refl
both_of true false = refl
both_of false d = refl

first_of_two : (c d : Bool) → cond c (cond d false true) false ≡ (c && not d)
first_of_two true true = refl
first_of_two true false = refl
first_of_two false d = refl

pub merged_isect : (us vs : List ValueTree) → Rising us → merged false true false us vs ≡ filter (λ v. has v vs) us
merged_isect us vs r = one_list _ _ (rising_merged false true false us vs) (rising_filter (λ v. has v vs) us r) tests
  where
    -- counted from the second list
    swapped : (q : ValueTree → Bool) → any (λ x. has x us && q x) vs ≡ any (λ x. has x vs && q x) us
    swapped q =
        sym (isect_tests q vs us)
        ∙ any_swap (λ x y. same x y && q x) vs us
        ∙ any_same_tests _ _ us (λ y. any_same_tests _ _ vs (λ x. alike x y (same x y) refl ∙ ap (λ c. c && q y) (same_comm x y)))
        ∙ isect_tests q us vs
      where
        alike : (x y : ValueTree) (c : Bool) → same x y ≡ c → (c && q x) ≡ (c && q y)
        alike x y true e = ap q (equal x y e)
        alike x y false e = refl

    tests : (q : ValueTree → Bool) → any q (merged false true false us vs) ≡ any q (filter (λ v. has v vs) us)
    tests q =
        any_merged false true false q us vs
        ∙ (λ i. any_members_agree (λ x. is_kept false true false us vs x && q x) (λ x. has x vs && q x) us (λ x h. ap (λ c. c && q x) (both_of (has x us) (has x vs) ∙ ap (λ c. c && has x vs) h)) i
        || any_members_agree (λ x. is_kept false true false us vs x && q x) (λ x. has x us && q x) vs (λ x h. ap (λ c. c && q x) (both_of (has x us) (has x vs) ∙ ap (λ c. has x us && c) h ∙ and-true (has x us))) i)
        ∙ ap (λ c. any (λ x. has x vs && q x) us || c) (swapped q)
        ∙ or_self (any (λ x. has x vs && q x) us)
        ∙ sym (any_filter q (λ v. has v vs) us)

pub merged_minus : (us vs : List ValueTree) → Rising us → merged true false false us vs ≡ filter (λ v. not (has v vs)) us
merged_minus us vs r = one_list _ _ (rising_merged true false false us vs) (rising_filter (λ v. not (has v vs)) us r) tests
  where
    tests : (q : ValueTree → Bool) → any q (merged true false false us vs) ≡ any q (filter (λ v. not (has v vs)) us)
    tests q =
        any_merged true false false q us vs
        ∙ (λ i. any_members_agree (λ x. is_kept true false false us vs x && q x) (λ x. not (has x vs) && q x) us (λ x h. ap (λ c. c && q x) (first_of_two (has x us) (has x vs) ∙ ap (λ c. c && not (has x vs)) h)) i
        || any_members_agree (λ x. is_kept true false false us vs x && q x) (λ x. false) vs (λ x h. ap (λ c. c && q x) (first_of_two (has x us) (has x vs) ∙ ap (λ c. has x us && not c) h ∙ and-false (has x us))) i)
        ∙ ap (λ c. any (λ x. not (has x vs) && q x) us || c) (any_false vs)
        ∙ or-false (any (λ x. not (has x vs) && q x) us)
        ∙ sym (any_filter q (λ v. not (has v vs)) us)
