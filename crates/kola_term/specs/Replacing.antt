-- What it says that a part was put at a path of a term.
use Rattle.std.specs.Prelude.{◌≡◌, ℕ, List, [], ◌∷◌, Option, Some, None, option_and_then, Result, Ok, Err}
use Rattle.kola_term.specs.Terms.{TermTree}
use Rattle.kola_term.specs.Places.{nth, with_nth, sub_at, put_in}
use Rattle.kola_term.specs.Agreement.{SameKind}
use Rattle.kola_term.specs.PlaceAnswers.{OtherKind}
use Rattle.kola_term.specs.TermView.{term_tree}
use Rattle.kola_term.specs.declared.term.Term.{Term}
use Rattle.kola_term.specs.declared.place.PlaceFault.{PlaceFault}
use Rattle.kola_term.specs.declared.place.PlaceFault.TheVariants as fault

-- the code's answer is the definition's, unless memory was wanted
abbrev pub IsAnswer : {A B : Type 0} → (A → B) → Result A PlaceFault → Result B PlaceFault → Type 0
IsAnswer v (Ok x) r = r ≡ Ok (v x)
IsAnswer v (Err fault.NoSuchPath) r = r ≡ Err fault.NoSuchPath
IsAnswer v (Err fault.WrongKind) r = r ≡ Err fault.WrongKind
IsAnswer v (Err fault.Memory) r = Unit {0}

-- b is t with r for a part of the same kind at the path
pub record PutAt (t : TermTree) (q : List ℕ) (r b : TermTree) : Type 0 where
  pub part : TermTree
  pub is : sub_at t q ≡ Some part
  pub kind : SameKind part r
  pub put : put_in t q r ≡ Some b

-- why it was refused: no such path, or another kind there; want of memory says nothing
abbrev pub Refused : Option TermTree → TermTree → PlaceFault → Type 0
Refused o r fault.NoSuchPath = o ≡ None
Refused o r fault.WrongKind = OtherKind o r
Refused o r fault.Memory = Unit {0}

-- b stands where t stood, or it was refused
abbrev pub IsPut : {A : Type 0} → TermTree → List ℕ → TermTree → TermTree → Result A PlaceFault → Type 0
IsPut t q r b (Ok x) = PutAt t q r b
IsPut t q r b (Err e) = Refused (sub_at t q) r e

-- ds is the list cs with r at the path of the entry that has the number
pub record PutAmong (cs : List TermTree) (n : ℕ) (q : List ℕ) (r : TermTree) (ds : List TermTree) : Type 0 where
  pub c : TermTree
  pub e : TermTree
  pub is : nth n cs ≡ Some c
  pub put : PutAt c q r e
  pub others : with_nth n e cs ≡ ds

-- the part at the path of the entry that has the number
abbrev pub part_among : List TermTree → ℕ → List ℕ → Option TermTree
part_among cs n q = option_and_then (λ c. sub_at c q) (nth n cs)

abbrev pub IsPutAmong : {A : Type 0} → List TermTree → ℕ → List ℕ → TermTree → List TermTree → Result A PlaceFault → Type 0
IsPutAmong cs n q r ds (Ok x) = PutAmong cs n q r ds
IsPutAmong cs n q r ds (Err e) = Refused (part_among cs n q) r e

-- the answer is t with r at the path, or it was refused
abbrev pub IsReplaced : TermTree → List ℕ → TermTree → Result Term PlaceFault → Type 0
IsReplaced t q r (Ok b) = PutAt t q r (term_tree b)
IsReplaced t q r (Err e) = Refused (sub_at t q) r e
