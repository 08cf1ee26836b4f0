-- Tables of variables: what names and variables they have after others are added, and the variables of a node by those of its children.
use Rattle.std.proofs.Common.{◌≡◌, ℕ, Bool, true, false, cond, ◌||◌, ◌&&◌, List, [], ◌∷◌, ◌++◌, append-nil, refl, sym, ap, ap₂, ◌∙◌}
use Rattle.std.specs.List.{list_all, flat_map}
use Rattle.std.specs.Str.{bytes_eq}
use Rattle.std.proofs.lemmas.List.Folds.{list_all-append}
use Rattle.kola_core.specs.NameLists.{is_listed, with_name}
use Rattle.kola_term.specs.Terms.{FComp, FPair, FTimes, FK, FC, FIf, FIterate, FIter, FJoin, FNest, FUnnest, FMeta, PAt, PAnd, POr, PNot, PInv, PCP, PEx, PFa, PMeta, CMeta, TermTree, TermF, TermP, TermC}
use Rattle.kola_term.specs.Places.{children}
use Rattle.kola_term.proofs.Inversions.{same_name-equal}
use Rattle.kola_term.proofs.Introductions.{same_name_itself}
use Rattle.coko_plan.specs.Variables.{variables, fun_variables, pred_variables, const_variables, is_among, same_variable}
use Rattle.coko_plan.specs.Working.Seen.{AddsName, knows, has_seen, Sees, own}
use Rattle.coko_plan.specs.declared.firing.Variables.{Variables}
use Rattle.coko_plan.proofs.Covering.{any_append, or_assoc, or_false}

-- ---- names

pub flip : (a b : List ℕ) → bytes_eq a b ≡ true → bytes_eq b a ≡ true
flip a b e = ap (λ z. bytes_eq z a) (sym (same_name-equal a b e)) ∙ same_name_itself a

pub flipped : (a b : List ℕ) → bytes_eq a b ≡ bytes_eq b a
flipped a b = decide (bytes_eq a b) (bytes_eq b a) refl refl
  where
    decide : (x y : Bool) → bytes_eq a b ≡ x → bytes_eq b a ≡ y → x ≡ y
    decide true true e h = refl
    decide false false e h = refl
    decide true false e h = sym (flip a b e) ∙ h
    decide false true e h = sym e ∙ flip b a h

listed_too : (ns : List (List ℕ)) (m n : List ℕ) → is_listed n ns ≡ true → is_listed m ns ≡ (is_listed m ns || bytes_eq m n)
listed_too ns m n h = decide (bytes_eq m n) refl
  where
    decide : (b : Bool) → bytes_eq m n ≡ b → is_listed m ns ≡ (is_listed m ns || b)
    decide true e = let k = ap (λ z. is_listed z ns) (same_name-equal m n e) ∙ h in k ∙ ap (λ z. z || true) (sym k)
    decide false e = sym (or_false (is_listed m ns))

pub name_added : (ns : List (List ℕ)) (n : List ℕ) → AddsName ns (with_name ns n) n
name_added ns n = λ m. decide m (is_listed n ns) refl
  where
    decide : (m : List ℕ) (b : Bool) → is_listed n ns ≡ b → is_listed m (cond b ns (ns ++ n ∷ [])) ≡ (is_listed m ns || bytes_eq m n)
    decide m true e = listed_too ns m n e
    decide m false e = any_append (bytes_eq m) ns (n ∷ []) ∙ ap (λ z. is_listed m ns || z) (or_false (bytes_eq m n))

-- ---- one variable

one_more : (n m : List ℕ) (old new : List (List ℕ)) → AddsName old new n → is_listed m new ≡ (is_listed m old || (bytes_eq n m || false))
one_more n m old new h = h m ∙ ap (λ z. is_listed m old || z) (flipped m n ∙ sym (or_false (bytes_eq n m)))

none_more : (b : Bool) → b ≡ (b || (false || false))
none_more true = refl
none_more false = refl

pub fun_added : (n : List ℕ) (old new preds consts : List (List ℕ)) → AddsName old new n → (w : TermTree) → knows new preds consts w ≡ (knows old preds consts w || is_among (TermF (FMeta n) ∷ []) w)
fun_added n old new preds consts h (TermF (FMeta m)) = one_more n m old new h
fun_added n old new preds consts h (TermP (PMeta m)) = none_more (is_listed m preds)
fun_added n old new preds consts h (TermC (CMeta m)) = none_more (is_listed m consts)
fun_added n old new preds consts h w = refl

pub pred_added : (n : List ℕ) (old new funs consts : List (List ℕ)) → AddsName old new n → (w : TermTree) → knows funs new consts w ≡ (knows funs old consts w || is_among (TermP (PMeta n) ∷ []) w)
pred_added n old new funs consts h (TermP (PMeta m)) = one_more n m old new h
pred_added n old new funs consts h (TermF (FMeta m)) = none_more (is_listed m funs)
pred_added n old new funs consts h (TermC (CMeta m)) = none_more (is_listed m consts)
pred_added n old new funs consts h w = refl

pub const_added : (n : List ℕ) (old new funs preds : List (List ℕ)) → AddsName old new n → (w : TermTree) → knows funs preds new w ≡ (knows funs preds old w || is_among (TermC (CMeta n) ∷ []) w)
const_added n old new funs preds h (TermC (CMeta m)) = one_more n m old new h
const_added n old new funs preds h (TermF (FMeta m)) = none_more (is_listed m funs)
const_added n old new funs preds h (TermP (PMeta m)) = none_more (is_listed m preds)
const_added n old new funs preds h w = refl

-- ---- more variables

pub sees_none : (a : Variables) → Sees a a []
sees_none a = λ w. sym (or_false (has_seen a w))

pub sees_more : (a b c : Variables) (xs ys : List TermTree) → Sees a b xs → Sees b c ys → Sees a c (xs ++ ys)
sees_more a b c xs ys h k = λ w. k w ∙ (ap (λ z. z || is_among ys w) (h w) ∙ (sym (or_assoc (has_seen a w) (is_among xs w) (is_among ys w)) ∙ ap (λ z. has_seen a w || z) (sym (any_append (λ v. same_variable v w) xs ys))))

pub sees_as : (a b : Variables) (xs ys : List TermTree) → xs ≡ ys → Sees a b xs → Sees a b ys
sees_as a b xs ys e h = λ w. h w ∙ ap (λ z. has_seen a w || is_among z w) e

-- ---- the variables of a node

two_lists : (xs ys : List TermTree) → xs ++ ys ≡ xs ++ (ys ++ [])
two_lists xs ys = ap (λ z. xs ++ z) (sym (append-nil ys))

three_lists : (xs ys zs : List TermTree) → xs ++ (ys ++ zs) ≡ xs ++ (ys ++ (zs ++ []))
three_lists xs ys zs = ap (λ z. xs ++ z) (two_lists ys zs)

pub by_children : (t : TermTree) → variables t ≡ own t ++ flat_map variables (children t)
by_children (TermF (FComp f g)) = two_lists (fun_variables f) (fun_variables g)
by_children (TermF (FPair f g)) = two_lists (fun_variables f) (fun_variables g)
by_children (TermF (FTimes f g)) = two_lists (fun_variables f) (fun_variables g)
by_children (TermF (FK c)) = sym (append-nil (const_variables c))
by_children (TermF (FC f c)) = two_lists (fun_variables f) (const_variables c)
by_children (TermF (FIf p f g)) = three_lists (pred_variables p) (fun_variables f) (fun_variables g)
by_children (TermF (FIterate p f)) = two_lists (pred_variables p) (fun_variables f)
by_children (TermF (FIter p f)) = two_lists (pred_variables p) (fun_variables f)
by_children (TermF (FJoin p f)) = two_lists (pred_variables p) (fun_variables f)
by_children (TermF (FNest f g)) = two_lists (fun_variables f) (fun_variables g)
by_children (TermF (FUnnest f g)) = two_lists (fun_variables f) (fun_variables g)
by_children (TermP (PAt p f)) = two_lists (pred_variables p) (fun_variables f)
by_children (TermP (PAnd p q)) = two_lists (pred_variables p) (pred_variables q)
by_children (TermP (POr p q)) = two_lists (pred_variables p) (pred_variables q)
by_children (TermP (PNot p)) = sym (append-nil (pred_variables p))
by_children (TermP (PInv p)) = sym (append-nil (pred_variables p))
by_children (TermP (PCP p c)) = two_lists (pred_variables p) (const_variables c)
by_children (TermP (PEx p)) = sym (append-nil (pred_variables p))
by_children (TermP (PFa p)) = sym (append-nil (pred_variables p))
by_children (TermC (CMeta n)) = refl
by_children (TermC c) = refl
by_children _ = refl

pub leaf_has : (t : TermTree) → [] ≡ children t → own t ≡ variables t
leaf_has t e = sym (by_children t ∙ (ap (λ cs. own t ++ flat_map variables cs) (sym e) ∙ append-nil (own t)))

pub one_has : (t a : TermTree) → a ∷ [] ≡ children t → own t ++ variables a ≡ variables t
one_has t a e = sym (by_children t ∙ (ap (λ cs. own t ++ flat_map variables cs) (sym e) ∙ ap (λ z. own t ++ z) (append-nil (variables a))))

pub two_have : (t a b : TermTree) → a ∷ b ∷ [] ≡ children t → own t ++ (variables a ++ variables b) ≡ variables t
two_have t a b e = sym (by_children t ∙ (ap (λ cs. own t ++ flat_map variables cs) (sym e) ∙ ap (λ z. own t ++ z) (sym (two_lists (variables a) (variables b)))))

pub three_have : (t a b c : TermTree) → a ∷ b ∷ c ∷ [] ≡ children t → own t ++ (variables a ++ (variables b ++ variables c)) ≡ variables t
three_have t a b c e = sym (by_children t ∙ (ap (λ cs. own t ++ flat_map variables cs) (sym e) ∙ ap (λ z. own t ++ z) (sym (three_lists (variables a) (variables b) (variables c)))))

-- ---- a test of all variables

module _ (p : TermTree → Bool) where
  pub all_leaf : (t : TermTree) → [] ≡ children t → list_all p (own t) ≡ list_all p (variables t)
  all_leaf t e = ap (list_all p) (leaf_has t e)

  pub all_one : (t a : TermTree) → a ∷ [] ≡ children t → (list_all p (own t) && list_all p (variables a)) ≡ list_all p (variables t)
  all_one t a e = sym (list_all-append p (own t) (variables a)) ∙ ap (list_all p) (one_has t a e)

  pub all_two : (t a b : TermTree) → a ∷ b ∷ [] ≡ children t → (list_all p (own t) && (list_all p (variables a) && list_all p (variables b))) ≡ list_all p (variables t)
  all_two t a b e =
      ap (λ z. list_all p (own t) && z) (sym (list_all-append p (variables a) (variables b))) ∙ (sym (list_all-append p (own t) (variables a ++ variables b)) ∙ ap (list_all p) (two_have t a b e))

  pub all_three : (t a b c : TermTree) → a ∷ b ∷ c ∷ [] ≡ children t → (list_all p (own t) && (list_all p (variables a) && (list_all p (variables b) && list_all p (variables c)))) ≡ list_all p (variables t)
  all_three t a b c e =
      ap (λ z. list_all p (own t) && (list_all p (variables a) && z)) (sym (list_all-append p (variables b) (variables c)))
      ∙ (ap (λ z. list_all p (own t) && z) (sym (list_all-append p (variables a) (variables b ++ variables c)))
      ∙ (sym (list_all-append p (own t) (variables a ++ (variables b ++ variables c))) ∙ ap (list_all p) (three_have t a b c e)))

  pub none_at : (t : TermTree) (cs : List TermTree) → cs ≡ children t → list_all p (own t) ≡ false → false ≡ list_all p (variables t)
  none_at t cs e h = sym (ap (list_all p) (by_children t) ∙ (list_all-append p (own t) (flat_map variables (children t)) ∙ ap (λ z. z && list_all p (flat_map variables (children t))) h))

-- ---- whether a rule may fire

none_known : (w : TermTree) → knows [] [] [] w ≡ false
none_known (TermF (FMeta n)) = refl
none_known (TermP (PMeta n)) = refl
none_known (TermC (CMeta n)) = refl
none_known w = refl

all_alike : (p q : TermTree → Bool) → ((w : TermTree) → p w ≡ q w) → (xs : List TermTree) → list_all p xs ≡ list_all q xs
all_alike p q h [] = refl
all_alike p q h (x ∷ xs) = ap₂ (λ a b. a && b) (h x) (all_alike p q h xs)

-- what is seen after the one side, from nothing on, stands in it
pub all_stand : (funs preds consts : List (List ℕ)) (s : Variables) (old new a b : TermTree) → funs ≡ [] → preds ≡ [] → consts ≡ [] → Sees (record { funs = funs; preds = preds; consts = consts }) s (variables old)
    → old ≡ a → new ≡ b → list_all (has_seen s) (variables new) ≡ list_all (is_among (variables a)) (variables b)
all_stand funs preds consts s old new a b e f g h i j =
    all_alike (has_seen s) (is_among (variables old)) (λ w. h w ∙ ap (λ z. z || is_among (variables old) w) (ap (λ z. knows z preds consts w) e ∙ (ap (λ z. knows [] z consts w) f ∙ (ap (λ z. knows [] [] z w) g ∙ none_known w)))) (variables new)
    ∙ ap₂ (λ x y. list_all (is_among (variables x)) (variables y)) i j
