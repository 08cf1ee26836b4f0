-- From what makes a rule well typed to what the search for an instance asks for.
use Rattle.std.proofs.Common.{◌≡◌, ◌↔◌, ℕ, Bool, true, false, cond, not, ◌||◌, refl, sym, ap, ◌∙◌, List, [], ◌∷◌, Some, ◌⊎◌, inl, inr}
use Rattle.std.specs.Str.{bytes_eq}
use Rattle.kola_core.specs.NameLists.{is_listed}
use Rattle.kola_values.specs.Types.{TypeTree}
use Rattle.kola_values.specs.Databases.{Classes, look_up}
use Rattle.kola_values.specs.Sets.{Each}
use Rattle.kola_schema.specs.Schemas.{are_distinct, names_of}
use Rattle.kola_term.specs.Terms.{TermTree, TermF, TermP}
use Rattle.kola_term.specs.Typing.{Context, MetaTree}
use Rattle.kola_term.specs.Places.{Typed}
use Rattle.kola_term.proofs.Inversions.{and_true, same_name-equal}
use Rattle.kola_term.proofs.Introductions.{same_name_itself}
use Rattle.kola_rule.specs.Rules.{RuleTree}
use Rattle.kola_match.specs.Occurring.{Occurs}
use Rattle.kola_match.specs.RuleOk.{RuleOk, SidesFit}
use Rattle.kola_match.specs.RuleChecks.{OccursOnASide}
use Rattle.kola_match.specs.Instances.{pattern_side, other_side}
use Rattle.kola_match.specs.Spotting.{AllDeclared}
use Rattle.kola_match.specs.Spotting.{OccursOn, AllOccurOn}

apart : (a b : Bool) → not (a || b) ≡ true → (a ≡ false) × (not b ≡ true)
apart true b e = absurd (cc)
apart false b e = (refl, e)

turned : (m n : List ℕ) (c : Bool) → bytes_eq m n ≡ c → bytes_eq n m ≡ false → c ≡ false
turned m n true e h =
    let p = same_name-equal m n e in
    let q : true ≡ false = sym (same_name_itself n) ∙ (ap (bytes_eq n) (sym p) ∙ h) in absurd (cc)
turned m n false e h = refl

later : (v : List ℕ × MetaTree) (all vs : Context) → not (is_listed v.0 (names_of vs)) ≡ true → AllDeclared all vs → AllDeclared (v ∷ all) vs
later v all [] h d = tt
later v all (u ∷ vs) h d =
    let p = apart (bytes_eq v.0 u.0) (is_listed v.0 (names_of vs)) h in
    let q : bytes_eq u.0 v.0 ≡ false = turned u.0 v.0 (bytes_eq u.0 v.0) refl p.0 in
    (ap (λ c. cond c (Some v.1) (look_up u.0 all)) q ∙ d.0, later v all vs p.1 d.1)

-- variables with distinct names are found by their names
pub all_declared : (vs : Context) → are_distinct (names_of vs) ≡ true → AllDeclared vs vs
all_declared [] h = tt
all_declared (v ∷ vs) h =
    let p = and_true (not (is_listed v.0 (names_of vs))) (are_distinct (names_of vs)) h in
    (ap (λ c. cond c (Some v.1) (look_up v.0 vs)) (same_name_itself v.0), later v vs vs p.0 (all_declared vs p.1))

both_typed : (S : Classes) (x : Context) (T : TypeTree) (l r : TermTree) → SidesFit S x T l r → Typed S x l T × Typed S x r T
both_typed S x T (TermF f) (TermF g) h = ((h.0, h.1.fine.0), (h.0, h.2.fine.0))
both_typed S x T (TermP p) (TermP q) h = (h.0.fine.0, h.1.fine.0)
both_typed S x T _ _ h = absurd h

-- the sides of a well-typed rule are typed
pub pattern_typed : (S : Classes) (r : RuleTree) (rev : Bool) → RuleOk S r → Typed S r.vars (pattern_side r rev) r.input
pattern_typed S r true ok = (both_typed S r.vars r.input r.left r.right ok.sides).1
pattern_typed S r false ok = (both_typed S r.vars r.input r.left r.right ok.sides).0

pub other_typed : (S : Classes) (r : RuleTree) (rev : Bool) → RuleOk S r → Typed S r.vars (other_side r rev) r.input
other_typed S r true ok = (both_typed S r.vars r.input r.left r.right ok.sides).0
other_typed S r false ok = (both_typed S r.vars r.input r.left r.right ok.sides).1

-- variables that stand in a side
pub occur_on : (p t : TermTree) (vs : Context) → Each (λ (v : List ℕ × MetaTree). Occurs p v) vs → AllOccurOn ((p, t) ∷ []) vs
occur_on p t [] h = tt
occur_on p t (v ∷ vs) h = (inl h.0, occur_on p t vs h.1)

on_either : (r : RuleTree) (rev : Bool) (t u : TermTree) (v : List ℕ × MetaTree) → Occurs r.left v ⊎ Occurs r.right v → OccursOn ((pattern_side r rev, t) ∷ (other_side r rev, u) ∷ []) v
on_either r true t u v (inl h) = inr (inl h)
on_either r true t u v (inr h) = inl h
on_either r false t u v (inl h) = inl h
on_either r false t u v (inr h) = inr (inl h)

pub occur_on_either : (r : RuleTree) (rev : Bool) (t u : TermTree) (vs : Context) → Each (λ (v : List ℕ × MetaTree). Occurs r.left v ⊎ Occurs r.right v) vs → AllOccurOn ((pattern_side r rev, t) ∷ (other_side r rev, u) ∷ []) vs
occur_on_either r rev t u [] h = tt
occur_on_either r rev t u (v ∷ vs) h = (on_either r rev t u v h.0, occur_on_either r rev t u vs h.1)

-- a side twice is one side
pub either_way : (p : TermTree) (vs : Context) → (Each (OccursOnASide p p) vs ↔ Each (λ (v : List ℕ × MetaTree). Occurs p v) vs)
either_way p [] = (λ _. tt, λ _. tt)
either_way p (v ∷ vs) =
    let r = either_way p vs in
    (λ h. (elim h.0 [ inl i ↦ i | inr i ↦ i ], r.0 h.1), λ h. (inl h.0, r.1 h.1))
