-- A table of what objects say at a key finds the first object that says the same.
use Rattle.std.proofs.Common.{◌≡◌, ℕ, Bool, true, false, cond, ◌&&◌, List, [], ◌∷◌, ◌++◌, Option, Some, None, map, option_map, refl, sym, ap, ◌∙◌, Less, Equal, Greater, Ordering}
use Rattle.std.specs.List.{find, list_all}
use Rattle.std.specs.Option.{option_or}
use Rattle.std.specs.Ordering.{is_eq, ordering_then}
use Rattle.std.specs.Map.{lookup}
use Rattle.std.specs.BTreeMap as tree
use Rattle.std.proofs.lemmas.Cmp.{tied_itself}
use Rattle.std.proofs.lemmas.List.Folds.{find-append}
use Rattle.kola_values.specs.Values.{ValueTree}
use Rattle.kola_values.specs.Order.{cmp, same}
use Rattle.kola_values.specs.Databases.{Class, Object, Objects}
use Rattle.kola_database.specs.KeyedObjects.{value_at_name, cmp_keyed, same_keyed}
use Rattle.kola_database.specs.MeetsTests.{agree_at}
use Rattle.kola_database.proofs.KeyedObjects.{cmp_keyed_total, same_keyed_flips}
use Rattle.kola_load.proofs.NoFault.{none_mapped}
use Rattle.kola_load.specs.KeyViews.{key_tree, key_cmp}
use Rattle.kola_load.specs.Loading.{repeat_fault}
use Rattle.kola_load.specs.declared.fault.DbFault.TheVariants.{KeyRepeats}
use Rattle.kola_load.specs.declared.keys.KeyOf.{KeyOf}

-- ---- finding by tests that agree

find_alike : {A : Type 0} (p q : A → Bool) (xs : List A) → ((x : A) → p x ≡ q x) → find p xs ≡ find q xs
find_alike p q [] f = refl
find_alike p q (x ∷ xs) f = λ j. cond (f x j) (Some x) (find_alike p q xs f j)

or_none : {A : Type 0} (o : Option A) → option_or o None ≡ o
or_none None = refl
or_none (Some x) = refl

-- ---- keys

then_eq : (a b : Ordering) → is_eq (ordering_then a b) ≡ (is_eq a && is_eq b)
then_eq Less b = refl
then_eq Equal b = refl
then_eq Greater b = refl

equal_from : (o : Ordering) → is_eq o ≡ true → o ≡ Equal
equal_from Less e = absurd (cc)
equal_from Equal e = refl
equal_from Greater e = absurd (cc)

module _ (key : List (List ℕ)) where
  -- what an object says at the key
  abbrev pub said : Object → List ValueTree
  said o = map (λ a. value_at_name o a) key

  same_said : (o p : Object) (names : List (List ℕ)) → same_keyed (map (λ a. value_at_name o a) names) (map (λ a. value_at_name p a) names) ≡ list_all (agree_at o p) names
  unfolding same
  same_said o p [] = refl
  same_said o p (a ∷ names) =
      then_eq (cmp (value_at_name o a) (value_at_name p a)) (cmp_keyed (map (λ b. value_at_name o b) names) (map (λ b. value_at_name p b) names))
      ∙ ap (λ b. same (value_at_name o a) (value_at_name p a) && b) (same_said o p names)

  -- the first of some objects that says the same
  abbrev pub first_alike : List ValueTree → Objects → Option Object
  first_alike vs os = find (λ p. same_keyed vs (said p)) os

  -- the table finds its id
  abbrev pub IsSeen : tree.BTreeMap KeyOf ℕ → Objects → Type 0
  IsSeen m os = (q : KeyOf) → tree.get key_cmp m q ≡ option_map (λ (p : Object). p.id) (first_alike (key_tree q) os)

  module _ (m : tree.BTreeMap KeyOf ℕ) (os : Objects) (s : IsSeen m os) (o : Object) (k : KeyOf) (e : key_tree k ≡ said o) where
    agreeing : find (λ (p : Object). list_all (agree_at p o) key) os ≡ first_alike (key_tree k) os
    agreeing = find_alike (λ (p : Object). list_all (agree_at p o) key) (λ p. same_keyed (key_tree k) (said p)) os (λ p. sym (ap (λ vs. same_keyed vs (said p)) e ∙ same_keyed_flips (said o) (said p) ∙ same_said p o key))

    pub not_repeated : (c : Class) (n : ℕ) → tree.get key_cmp m k ≡ None → repeat_fault c n key os o ≡ None
    not_repeated c n h = ap (option_map (λ (p : Object). KeyRepeats c.name n p.id o.id)) (agreeing ∙ none_mapped (λ (p : Object). p.id) (first_alike (key_tree k) os) (sym (s k) ∙ h))

    pub repeated : (c : Class) (n i : ℕ) → tree.get key_cmp m k ≡ Some i → repeat_fault c n key os o ≡ Some (KeyRepeats c.name n i o.id)
    repeated c n i h = ap (option_map (λ (p : Object). KeyRepeats c.name n p.id o.id)) agreeing ∙ at (first_alike (key_tree k) os) (sym (s k) ∙ h)
      where
        at : (r : Option Object) → option_map (λ (p : Object). p.id) r ≡ Some i → option_map (λ (p : Object). KeyRepeats c.name n p.id o.id) r ≡ Some (KeyRepeats c.name n i o.id)
        at None f = absurd (cc)
        at (Some p) f = let g : p.id ≡ i = cc in ap (λ j. Some (KeyRepeats c.name n j o.id)) g

    pub seen_more : (n : tree.BTreeMap KeyOf ℕ) → tree.get key_cmp m k ≡ None → tree.Updates key_cmp m n k (Some o.id) → IsSeen n (os ++ o ∷ [])
    seen_more n h u q = u.0 q ∙ at (is_eq (key_cmp k q)) refl ∙ sym (ap (option_map (λ (p : Object). p.id)) (find-append (λ p. same_keyed (key_tree q) (said p)) os (o ∷ [])))
      where
        at : (b : Bool) → is_eq (key_cmp k q) ≡ b → cond b (Some o.id) (tree.get key_cmp m q) ≡ option_map (λ (p : Object). p.id) (option_or (first_alike (key_tree q) os) (cond (same_keyed (key_tree q) (said o)) (Some o) None))
        at true f =
            let tied = λ (vs : List ValueTree). ap is_eq (cmp_keyed_total.congr (key_tree k) (key_tree q) vs (equal_from (key_cmp k q) f)) in
            let none : first_alike (key_tree q) os ≡ None = sym (find_alike (λ p. same_keyed (key_tree k) (said p)) (λ p. same_keyed (key_tree q) (said p)) os (λ p. tied (said p))) ∙ none_mapped (λ (p : Object). p.id) (first_alike (key_tree k) os) (sym (s k) ∙ h) in
            let here : same_keyed (key_tree q) (said o) ≡ true = sym (tied (said o)) ∙ ap (λ vs. same_keyed vs (said o)) e ∙ ap is_eq (tied_itself cmp_keyed_total (said o)) in
            sym (λ j. option_map (λ (p : Object). p.id) (option_or (none j) (cond (here j) (Some o) None)))
        at false f =
            let apart : same_keyed (key_tree q) (said o) ≡ false = same_keyed_flips (key_tree q) (said o) ∙ ap (λ vs. same_keyed vs (key_tree q)) (sym e) ∙ f in
            s q ∙ sym (ap (λ b. option_map (λ (p : Object). p.id) (option_or (first_alike (key_tree q) os) (cond b (Some o) None))) apart ∙ ap (option_map (λ (p : Object). p.id)) (or_none (first_alike (key_tree q) os)))

pub seen_none : (key : List (List ℕ)) (m : tree.BTreeMap KeyOf ℕ) → tree.IsEmpty m → IsSeen key m []
seen_none key m e q = ap (λ es. lookup (tree.is_at (key_cmp q)) es) e
