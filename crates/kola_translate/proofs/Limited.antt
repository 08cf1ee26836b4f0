-- What is made within the limits: sequences of makings, by the nodes and the depth of what they make.
use Rattle.std.proofs.Common.{◌≡◌, ℕ, ◌+◌, ◌≤◌, nat_le, ◌&&◌, Bool, true, false, cond, Some, None, refl, sym, ap, ap₂, ◌∙◌, arith}
use Rattle.std.proofs.lemmas.Bool.Decides.{nat_tests}
use Rattle.kola_term.specs.Limits.{node_limit, depth_limit}
use Rattle.kola_term.specs.Counts.{fun_nodes, pred_nodes, fun_depth, pred_depth}
use Rattle.kola_term.specs.Terms.{FunTree, PredTree}
use Rattle.kola_term.proofs.Inversions.{and_true}
use Rattle.kola_translate.specs.Translation.{Translated, Function, Test, Truth}
use Rattle.kola_translate.specs.Building.{Building, and_then, node, as_function_part, as_test_part}

abbrev pub within : ℕ → ℕ → Bool
within n d = nat_le n node_limit && nat_le d depth_limit

abbrev pub made_if : {A : Type 0} → Bool → A → ℕ → ℕ → Building (A × ℕ)
made_if b x d n = cond b (Some ((x, d), n)) None

-- a thing of so many nodes and this depth, behind n nodes
abbrev pub limited : {A : Type 0} → A → ℕ → ℕ → ℕ → Building (A × ℕ)
limited x k d n = cond (within (n + k) d) (Some ((x, d), n + k)) None

-- ---- what comes behind

pub behind_test : {A B : Type 0} (c : Bool) (a : A × ℕ) (k : A → ℕ → Building B) → and_then (cond c (Some a) None) k ≡ cond c (k a.0 a.1) None
behind_test true a k = refl
behind_test false a k = refl

pub in_turn : {A B C : Type 0} (r : Building A) (k : A → ℕ → Building B) (l : B → ℕ → Building C) → and_then (and_then r k) l ≡ and_then r (λ a m. and_then (k a m) l)
in_turn (Some a) k l = refl
in_turn None k l = refl

pub and_nothing : {A : Type 0} (r : Building A) → and_then r (λ a m. Some (a, m)) ≡ r
and_nothing (Some a) = refl
and_nothing None = refl

less_too : (a b : ℕ) (l : ℕ) → a ≤ b → nat_le b l ≡ true → nat_le a l ≡ true
less_too a b l p h = grind (arith, nat_tests)

within_too : (a b d e : ℕ) → a ≤ b → d ≤ e → within b e ≡ true → within a d ≡ true
within_too a b d e p q h =
    let r = and_true (nat_le b node_limit) (nat_le e depth_limit) h in
    ap₂ (λ x y. x && y) (less_too a b node_limit p r.0) (less_too d e depth_limit q r.1)

once : {A : Type 0} (c e : Bool) (r : A) → (e ≡ true → c ≡ true) → cond c (cond e (Some r) None) None ≡ cond e (Some r) None
once true e r f = refl
once false false r f = refl
once false true r f = absurd (no (f refl))
  where
    no : false ≡ true → ⊥
    no h = cc

moved : {A : Type 0} (x : A) (n k j d : ℕ) → limited x j d (n + k) ≡ limited x (k + j) d n
moved x n k j d = let e : n + k + j ≡ n + (k + j) = omega arith in ap (λ z. cond (within z d) (Some ((x, d), z)) None) e

-- a thing is made, and of it another, of so many nodes more and no less depth
pub then_limited : {A B : Type 0} (x : A) (k d n : ℕ) (next : A × ℕ → ℕ → Building (B × ℕ)) (w : B) (j e : ℕ) → ((m : ℕ) → next (x, d) m ≡ limited w j e m) → d ≤ e → and_then (limited x k d n) next ≡ limited w (k + j) e n
then_limited x k d n next w j e f p =
    behind_test (within (n + k) d) ((x, d), n + k) next
    ∙ ap (λ r. cond (within (n + k) d) r None) (f (n + k) ∙ moved w n k j e)
    ∙ once (within (n + k) d) (within (n + (k + j)) e) ((w, e), n + (k + j)) (λ h. within_too (n + k) (n + (k + j)) d e (omega arith) p h)

-- the same where the nodes and the depth are written in another way
pub as_limited : {A B : Type 0} (x : A) (k d n : ℕ) (next : A × ℕ → ℕ → Building (B × ℕ)) (w : B) (j e : ℕ) (nodes depth : ℕ) → ((m : ℕ) → next (x, d) m ≡ limited w j e m) → d ≤ e → nodes ≡ k + j → depth ≡ e
    → and_then (limited x k d n) next ≡ limited w nodes depth n
as_limited x k d n next w j e nodes depth f p h i = then_limited x k d n next w j e f p ∙ ap₂ (λ a b. limited w a b n) (sym h) (sym i)

pub counted : {A : Type 0} (x : A) (k j d e n : ℕ) → k ≡ j → d ≡ e → limited x k d n ≡ limited x j e n
counted x k j d e n h i = ap₂ (λ a b. limited x a b n) h i

abbrev charged_if : Bool → ℕ → ℕ → Building ℕ
charged_if b d n = cond b (Some (d, n)) None

charged_node : {A : Type 0} (c : Bool) (x : A) (d m : ℕ) → and_then {B = A × ℕ} (charged_if c d m) (λ e k. Some ((x, e), k)) ≡ made_if c x d m
charged_node true x d m = refl
charged_node false x d m = refl

pub node_is : {A : Type 0} (x : A) (more levels below n : ℕ) → node x more levels below n ≡ limited x more (levels + below) n
node_is x more levels below n = charged_node (within (n + more) (levels + below)) x (levels + below) (n + more)

-- ---- parts

pub function_part : (f : FunTree) (k d n : ℕ) → as_function_part (limited f k d n) ≡ limited (Function f) k d n
function_part f k d n = at (within (n + k) d)
  where
    at : (c : Bool) → as_function_part (cond c (Some ((f, d), n + k)) None) ≡ cond c (Some ((Function f, d), n + k)) None
    at true = refl
    at false = refl

pub test_part : (p : PredTree) (k d n : ℕ) → as_test_part (limited p k d n) ≡ limited (Test p) k d n
test_part p k d n = at (within (n + k) d)
  where
    at : (c : Bool) → as_test_part (cond c (Some ((p, d), n + k)) None) ≡ cond c (Some ((Test p, d), n + k)) None
    at true = refl
    at false = refl

-- of a truth value nothing is made yet
abbrev pub part_nodes : Translated → ℕ
part_nodes (Function f) = fun_nodes f
part_nodes (Test p) = pred_nodes p
part_nodes (Truth b) = 0

abbrev pub part_depth : Translated → ℕ
part_depth (Function f) = fun_depth f
part_depth (Test p) = pred_depth p
part_depth (Truth b) = 0

abbrev pub limited_part : Translated → ℕ → Building (Translated × ℕ)
limited_part x n = limited x (part_nodes x) (part_depth x) n

abbrev pub limited_fun : FunTree → ℕ → Building (FunTree × ℕ)
limited_fun f n = limited f (fun_nodes f) (fun_depth f) n

abbrev pub limited_pred : PredTree → ℕ → Building (PredTree × ℕ)
limited_pred p n = limited p (pred_nodes p) (pred_depth p) n

-- past the limit on depth nothing is made
pub too_deep : {A : Type 0} (x : A) (k d n c : ℕ) → c ≤ d → nat_le c depth_limit ≡ false → limited x k d n ≡ None
too_deep x k d n c p h =
    let q : nat_le d depth_limit ≡ false = grind (arith, nat_tests) in
    ap (λ b. made_if (nat_le (n + k) node_limit && b) x d (n + k)) q ∙ at (nat_le (n + k) node_limit)
  where
    at : (b : Bool) → made_if (b && false) x d (n + k) ≡ None
    at true = refl
    at false = refl
