-- The names by which statements may run blocks, statement by statement.
use Rattle.std.proofs.Common.{◌≡◌, ℕ, zero, suc, ◌+◌, ◌<◌, Bool, true, false, cond, ◌||◌, List, [], ◌∷◌, ◌++◌, length, get_or, map, take, append_assoc, append-nil, refl, sym, ap, ◌∙◌, subst, arith, ◌⊎◌, inl, inr}
use Rattle.std.specs.Str.{bytes_eq}
use Rattle.std.proofs.lemmas.List.{take_more, map_push}
use Rattle.kola_core.specs.NameLists.{is_listed}
use Rattle.coko_block.specs.Statements.{StmtTree, of_stmts, of_arms}
use Rattle.coko_block.specs.StmtViews.{stmt_tree, arm_entry}
use Rattle.coko_block.specs.Models.Weights.{weight, stmts_weight, arms_weight, entries_weight, arm_entries_weight}
use Rattle.coko_block.specs.declared.stmt.Stmt.{Stmt}
use Rattle.coko_block.specs.declared.stmt.Stmt.TheVariants as stmt
use Rattle.coko_plan.specs.Naming.{names_in, names_among, names_in_arms, forward}
use Rattle.coko_plan.specs.Working.Seen.{AddsName, AddsNames}
use Rattle.coko_plan.proofs.Covering.{any_append, or_assoc, or_false}

-- ---- lists of names

pub forward_append : (xs ys : List (List ℕ × Bool)) → forward (xs ++ ys) ≡ forward xs ++ forward ys
forward_append [] ys = refl
forward_append (x ∷ xs) ys = decide x.1 (forward_append xs ys)
  where
    decide : (b : Bool) → forward (xs ++ ys) ≡ forward xs ++ forward ys → cond b (forward (xs ++ ys)) (x.0 ∷ forward (xs ++ ys)) ≡ cond b (forward xs) (x.0 ∷ forward xs) ++ forward ys
    decide true h = h
    decide false h = ap (λ z. x.0 ∷ z) h

pub among_more : (ss : List StmtTree) (s : StmtTree) → names_among (of_stmts (ss ++ s ∷ [])) ≡ names_among (of_stmts ss) ++ names_in s
among_more [] s = append-nil (names_in s)
among_more (a ∷ ss) s = ap (λ z. names_in a ++ z) (among_more ss s) ∙ sym (append_assoc (names_in a) (names_among (of_stmts ss)) (names_in s))

pub in_arms_more : (as' : List (List ℕ × StmtTree)) (a : List ℕ × StmtTree) → names_in_arms (of_arms (as' ++ a ∷ [])) ≡ names_in_arms (of_arms as') ++ names_in a.1
in_arms_more [] a = append-nil (names_in a.1)
in_arms_more (b ∷ as') a = ap (λ z. names_in b.1 ++ z) (in_arms_more as' a) ∙ sym (append_assoc (names_in b.1) (names_in_arms (of_arms as')) (names_in a.1))

pub taken_item : {X : Type 0} (xs : List X) (i : ℕ) (x : X) → i < length xs → x ≡ get_or xs i x → take (i + 1) xs ≡ take i xs ++ x ∷ []
taken_item xs i x p h = take_more xs i x p ∙ ap (λ z. take i xs ++ z ∷ []) (sym h)

-- ---- names that were added

pub adds_none : (a : List (List ℕ)) → AddsNames a a []
adds_none a = λ m. sym (or_false (is_listed m a))

pub adds_one : (a b : List (List ℕ)) (n : List ℕ) → AddsName a b n → AddsNames a b (n ∷ [])
adds_one a b n h = λ m. h m ∙ ap (λ z. is_listed m a || z) (sym (or_false (bytes_eq m n)))

pub adds_more : (a b c xs ys : List (List ℕ)) → AddsNames a b xs → AddsNames b c ys → AddsNames a c (xs ++ ys)
adds_more a b c xs ys h k = λ m. k m ∙ (ap (λ z. z || is_listed m ys) (h m) ∙ (sym (or_assoc (is_listed m a) (is_listed m xs) (is_listed m ys)) ∙ ap (λ z. is_listed m a || z) (sym (any_append (bytes_eq m) xs ys))))

pub adds_as : (a b xs ys : List (List ℕ)) → xs ≡ ys → AddsNames a b xs → AddsNames a b ys
adds_as a b xs ys e h = subst (AddsNames a b) e h

-- after one statement more
pub adds_part : (a b c : List (List ℕ)) (xs : List Stmt) (i : ℕ) (x : Stmt) → i < length xs → x ≡ get_or xs i x → AddsNames a b (forward (names_among (of_stmts (map stmt_tree (take i xs))))) → AddsNames b c (forward (names_in (stmt_tree x)))
    → AddsNames a c (forward (names_among (of_stmts (map stmt_tree (take (i + 1) xs)))))
adds_part a b c xs i x p e h k =
    let done = map stmt_tree (take i xs) in
    adds_as a c (forward (names_among (of_stmts done)) ++ forward (names_in (stmt_tree x))) _
    (sym (ap (λ l. forward (names_among (of_stmts (map stmt_tree l)))) (taken_item xs i x p e)
    ∙ (ap (λ l. forward (names_among (of_stmts l))) (map_push stmt_tree (take i xs) x)
    ∙ (ap forward (among_more done (stmt_tree x)) ∙ forward_append (names_among (of_stmts done)) (names_in (stmt_tree x))))))
    (adds_more a b c (forward (names_among (of_stmts done))) (forward (names_in (stmt_tree x))) h k)

pub adds_arm : (a b c : List (List ℕ)) (xs : List (List ℕ × Stmt)) (i : ℕ) (x : List ℕ × Stmt) → i < length xs → x ≡ get_or xs i x → AddsNames a b (forward (names_in_arms (of_arms (map arm_entry (take i xs))))) → AddsNames b c (forward (names_in (stmt_tree x.1)))
    → AddsNames a c (forward (names_in_arms (of_arms (map arm_entry (take (i + 1) xs)))))
adds_arm a b c xs i x p e h k =
    let done = map arm_entry (take i xs) in
    adds_as a c (forward (names_in_arms (of_arms done)) ++ forward (names_in (stmt_tree x.1))) _
    (sym (ap (λ l. forward (names_in_arms (of_arms (map arm_entry l)))) (taken_item xs i x p e)
    ∙ (ap (λ l. forward (names_in_arms (of_arms l))) (map_push arm_entry (take i xs) x)
    ∙ (ap forward (in_arms_more done (arm_entry x)) ∙ forward_append (names_in_arms (of_arms done)) (names_in (stmt_tree x.1))))))
    (adds_more a b c (forward (names_in_arms (of_arms done))) (forward (names_in (stmt_tree x.1))) h k)

-- ---- weights of parts

pub part_weighs : (xs : List Stmt) (i : ℕ) (x : Stmt) → i < length xs → x ≡ get_or xs i x → weight (stmt_tree x) < entries_weight (map stmt_tree xs)
part_weighs [] i x p e = absurd (omega (arith, p))
part_weighs (y ∷ xs) zero x p e = let h = ap (λ z. weight (stmt_tree z)) e in omega (arith, h)
part_weighs (y ∷ xs) (suc i) x p e = let h = part_weighs xs i x (omega (arith, p)) e in omega (arith, h)

pub arm_weighs : (xs : List (List ℕ × Stmt)) (i : ℕ) (x : List ℕ × Stmt) → i < length xs → x ≡ get_or xs i x → weight (stmt_tree x.1) < arm_entries_weight (map arm_entry xs)
arm_weighs [] i x p e = absurd (omega (arith, p))
arm_weighs (y ∷ xs) zero x p e = let h = ap (λ (z : List ℕ × Stmt). weight (stmt_tree z.1)) e in omega (arith, h)
arm_weighs (y ∷ xs) (suc i) x p e = let h = arm_weighs xs i x (omega (arith, p)) e in omega (arith, h)

pub parts_weigh : (ss : List StmtTree) → stmts_weight (of_stmts ss) ≡ entries_weight ss
parts_weigh [] = refl
parts_weigh (s ∷ ss) = ap (λ n. 1 + weight s + n) (parts_weigh ss)

pub arms_weigh : (as' : List (List ℕ × StmtTree)) → arms_weight (of_arms as') ≡ arm_entries_weight as'
arms_weigh [] = refl
arms_weigh (a ∷ as') = ap (λ n. 1 + weight a.1 + n) (arms_weigh as')

pub walk_weight : (s : Stmt) (p : StmtTree) → (s ≡ stmt.Bu p) ⊎ ((s ≡ stmt.Td p) ⊎ (s ≡ stmt.Repeat p)) → weight (stmt_tree s) ≡ 1 + weight p
walk_weight s p (inl e) = ap (λ z. weight (stmt_tree z)) e
walk_weight s p (inr (inl e)) = ap (λ z. weight (stmt_tree z)) e
walk_weight s p (inr (inr e)) = ap (λ z. weight (stmt_tree z)) e

pub group_weight : (s : Stmt) (ps : List StmtTree) → (s ≡ stmt.Seq ps) ⊎ ((s ≡ stmt.Then ps) ⊎ (s ≡ stmt.Else ps)) → weight (stmt_tree s) ≡ 1 + entries_weight ps
group_weight s ps (inl e) = ap (λ z. weight (stmt_tree z)) e ∙ ap (λ n. 1 + n) (parts_weigh ps)
group_weight s ps (inr (inl e)) = ap (λ z. weight (stmt_tree z)) e ∙ ap (λ n. 1 + n) (parts_weigh ps)
group_weight s ps (inr (inr e)) = ap (λ z. weight (stmt_tree z)) e ∙ ap (λ n. 1 + n) (parts_weigh ps)
