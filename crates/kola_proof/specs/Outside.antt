-- How the program compares two terms outside of a path: what its calls of that compute.
use Rattle.std.specs.Prelude.{◌≡◌, ℕ, List, Option, Some, None}
use Rattle.kola_term.specs.Terms.{TermTree}
use Rattle.kola_term.specs.Places.{children, rebuild, nth, with_nth, sub_at, put_in}
use Rattle.kola_term.specs.Parts.{sub_tree}
use Rattle.kola_term.specs.declared.part.SubTerm.{SubTerm}

-- the two parts of a pair
abbrev pub both_trees : SubTerm × SubTerm → TermTree × TermTree
both_trees p = (sub_tree p.0, sub_tree p.1)

-- the children with the number k are the same, but for n
abbrev pub SameUnless : ℕ → ℕ → TermTree → TermTree → Type 0
SameUnless n k b c = (n ≡ k → ⊥) → nth k (children b) ≡ nth k (children c)

-- the children of both nodes with the number n, where c is b with another child there
abbrev pub AreChildren : TermTree → TermTree → ℕ → Option (TermTree × TermTree) → Type 0
AreChildren b c n (Some p) = (nth n (children b) ≡ Some p.0) × (nth n (children c) ≡ Some p.1) × (rebuild b (with_nth n p.1 (children b)) ≡ Some c)
AreChildren b c n None = (z y : TermTree) → nth n (children b) ≡ Some z → rebuild b (with_nth n y (children b)) ≡ Some c → ⊥

-- the parts of both terms at the path, where c is b with another part there
abbrev pub AreParts : TermTree → TermTree → List ℕ → Option (TermTree × TermTree) → Type 0
AreParts b c q (Some p) = (sub_at b q ≡ Some p.0) × (put_in b q p.1 ≡ Some c)
AreParts b c q None = (y : TermTree) → put_in b q y ≡ Some c → ⊥
