-- What it says that a part was put at a path: of a node by its children, of the children by their numbers, and of the whole term.
use Rattle.std.proofs.Common.{◌≡◌, ℕ, zero, suc, Option, Some, None, Result, Ok, Err, List, [], ◌∷◌, refl, sym, ◌∙◌, ap, subst, option_and_then}
use Rattle.std.specs.Prelude.{◌↔◌, IfOk}
use Rattle.kola_term.specs.Terms.{ConstTree, FunTree, PredTree, TermTree, TermF, TermP, TermC}
use Rattle.kola_term.specs.Places.{children, rebuild, nth, with_nth, sub_at, put_in}
use Rattle.kola_term.specs.Agreement.{SameKind}
use Rattle.kola_term.specs.PlaceAnswers.{OtherKind, UnlessMemory}
use Rattle.kola_term.specs.Replacing.{PutAt, Refused, IsPut, PutAmong, part_among, IsPutAmong, IsReplaced}
use Rattle.kola_term.specs.TermView.{term_tree}
use Rattle.kola_term.specs.declared.term.Term.{Term}
use Rattle.kola_term.specs.declared.place.PlaceFault.{PlaceFault}
use Rattle.kola_term.specs.declared.place.PlaceFault.TheVariants as fault

-- a node whose children have it
pub among : (t b : TermTree) (n : ℕ) (q : List ℕ) (r : TermTree) (result : Result Unit PlaceFault) → rebuild t (children b) ≡ Some b
    → IsPutAmong (children t) n q r (children b) result → IsPut t (n ∷ q) r b result
among t b n q r (Ok u) o h = record {
  part = h.put.part;
  is = ap (option_and_then (λ z. sub_at z q)) h.is ∙ h.put.is;
  kind = h.put.kind;
  put = ap (option_and_then (λ z. option_and_then (λ y. rebuild t (with_nth n y (children t))) (put_in z q r))) h.is
      ∙ ap (option_and_then (λ y. rebuild t (with_nth n y (children t)))) h.put.put ∙ ap (rebuild t) h.others ∙ o;
}
among t b n q r (Err e) o h = h

-- the entry with the number is c, and e in its place makes the other list
entry : (cs ds : List TermTree) (c e : TermTree) (n : ℕ) (q : List ℕ) (r : TermTree) (result : Result Unit PlaceFault) → nth n cs ≡ Some c
    → with_nth n e cs ≡ ds → IsPut c q r e result → IsPutAmong cs n q r ds result
entry cs ds c e n q r (Ok u) i o h = record { c = c; e = e; is = i; put = h; others = o }
entry cs ds c e n q r (Err f) i o h = subst (λ z. Refused z r f) (sym (ap (option_and_then (λ y. sub_at y q)) i)) h

pub first : (c e : TermTree) (cs : List TermTree) (q : List ℕ) (r : TermTree) (result : Result Unit PlaceFault) → IsPut c q r e result
    → IsPutAmong (c ∷ cs) 1 q r (e ∷ cs) result
first c e cs q r result h = entry (c ∷ cs) (e ∷ cs) c e 1 q r result refl refl h

pub second : (a c e : TermTree) (cs : List TermTree) (q : List ℕ) (r : TermTree) (result : Result Unit PlaceFault) → IsPut c q r e result
    → IsPutAmong (a ∷ c ∷ cs) 2 q r (a ∷ e ∷ cs) result
second a c e cs q r result h = entry (a ∷ c ∷ cs) (a ∷ e ∷ cs) c e 2 q r result refl refl h

pub third : (a b c e : TermTree) (cs : List TermTree) (q : List ℕ) (r : TermTree) (result : Result Unit PlaceFault) → IsPut c q r e result
    → IsPutAmong (a ∷ b ∷ c ∷ cs) 3 q r (a ∷ b ∷ e ∷ cs) result
third a b c e cs q r result h = entry (a ∷ b ∷ c ∷ cs) (a ∷ b ∷ e ∷ cs) c e 3 q r result refl refl h

-- there is no entry with the number
pub not_of_one : (a : TermTree) (n : ℕ) (q : List ℕ) → (n ≡ 1 → ⊥) → part_among (a ∷ []) n q ≡ None
not_of_one a zero q h = refl
not_of_one a (suc zero) q h = absurd (h refl)
not_of_one a (suc (suc n)) q h = refl

pub not_of_two : (a b : TermTree) (n : ℕ) (q : List ℕ) → (n ≡ 1 → ⊥) → (n ≡ 2 → ⊥) → part_among (a ∷ b ∷ []) n q ≡ None
not_of_two a b zero q h k = refl
not_of_two a b (suc zero) q h k = absurd (h refl)
not_of_two a b (suc (suc zero)) q h k = absurd (k refl)
not_of_two a b (suc (suc (suc n))) q h k = refl

pub not_of_three : (a b c : TermTree) (n : ℕ) (q : List ℕ) → (n ≡ 1 → ⊥) → (n ≡ 2 → ⊥) → (n ≡ 3 → ⊥) → part_among (a ∷ b ∷ c ∷ []) n q ≡ None
not_of_three a b c zero q h k l = refl
not_of_three a b c (suc zero) q h k l = absurd (h refl)
not_of_three a b c (suc (suc zero)) q h k l = absurd (k refl)
not_of_three a b c (suc (suc (suc zero))) q h k l = absurd (l refl)
not_of_three a b c (suc (suc (suc (suc n)))) q h k l = refl

pub ruleset numbered = (first, second, third, not_of_one, not_of_two, not_of_three)

-- ---- the whole term

whole_put : (t r b : TermTree) → SameKind t r → b ≡ r → PutAt t [] r b
whole_put t r b k e = record { part = t; is = refl; kind = k; put = ap Some (sym e) }

pub whole_fun : (t r : TermTree) (f g b : FunTree) → t ≡ TermF f → r ≡ TermF g → b ≡ g → PutAt t [] r (TermF b)
whole_fun t r f g b i j e = whole_put t r (TermF b) (subst (λ z. SameKind z r) (sym i) (subst (SameKind (TermF f)) (sym j) tt)) (ap TermF e ∙ sym j)

pub whole_pred : (t r : TermTree) (p q b : PredTree) → t ≡ TermP p → r ≡ TermP q → b ≡ q → PutAt t [] r (TermP b)
whole_pred t r p q b i j e = whole_put t r (TermP b) (subst (λ z. SameKind z r) (sym i) (subst (SameKind (TermP p)) (sym j) tt)) (ap TermP e ∙ sym j)

pub whole_const : (t r : TermTree) (k l b : ConstTree) → t ≡ TermC k → r ≡ TermC l → b ≡ l → PutAt t [] r (TermC b)
whole_const t r k l b i j e = whole_put t r (TermC b) (subst (λ z. SameKind z r) (sym i) (subst (SameKind (TermC k)) (sym j) tt)) (ap TermC e ∙ sym j)

pub put_is : (t : TermTree) (q : List ℕ) (r : TermTree) (result : Result Term PlaceFault) → IsReplaced t q r result
    → IfOk result (λ b. put_in t q r ≡ Some (term_tree b))
put_is t q r (Ok b) h = h.put
put_is t q r (Err e) h = tt

pub no_such_path : (t : TermTree) (q : List ℕ) (r : TermTree) (result : Result Term PlaceFault) → IsReplaced t q r result
    → UnlessMemory result ((result ≡ Err fault.NoSuchPath) ↔ (sub_at t q ≡ None))
no_such_path t q r (Ok b) h = (λ e. absurd (cc), λ e. absurd (cc (h.is)))
no_such_path t q r (Err fault.NoSuchPath) h = (λ e. h, λ e. refl)
no_such_path t q r (Err fault.WrongKind) h = (λ e. absurd (cc), λ e. absurd (subst (λ o. OtherKind o r) e h))
no_such_path t q r (Err fault.Memory) h = tt

pub wrong_kind : (t : TermTree) (q : List ℕ) (r : TermTree) (result : Result Term PlaceFault) → IsReplaced t q r result
    → UnlessMemory result ((result ≡ Err fault.WrongKind) ↔ OtherKind (sub_at t q) r)
wrong_kind t q r (Ok b) h = (λ e. absurd (cc), λ k. absurd (subst (λ o. OtherKind o r) h.is k h.kind))
wrong_kind t q r (Err fault.NoSuchPath) h = (λ e. absurd (cc), λ k. absurd (subst (λ o. OtherKind o r) h k))
wrong_kind t q r (Err fault.WrongKind) h = (λ e. h, λ k. refl)
wrong_kind t q r (Err fault.Memory) h = tt
