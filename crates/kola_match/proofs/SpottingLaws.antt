-- The variables of a rule, taken one by one.
use Rattle.std.proofs.Common.{◌≡◌, ◌↔◌, ℕ, zero, suc, ◌+◌, ◌<◌, ◌≤◌, Bool, true, false, refl, sym, subst, List, [], ◌∷◌, ◌++◌, length, take, drop, get_or, arith}
use Rattle.std.proofs.lemmas.List.{take_all}
use Rattle.kola_core.specs.declared.name.Name.{Name}
use Rattle.kola_core.proofs.Lists.{left_less, taken_more, length_seen}
use Rattle.kola_values.specs.Types.{TypeTree}
use Rattle.kola_values.specs.Databases.{Classes}
use Rattle.kola_term.specs.Typing.{Context, MetaTree}
use Rattle.kola_term.specs.ContextView.{meta_entry, context_of}
use Rattle.kola_term.specs.declared.meta.MetaTy.{MetaTy}
use Rattle.kola_match.specs.Substitutions.{Substitution}
use Rattle.kola_match.specs.Binds.{Binds}
use Rattle.kola_match.specs.Finding.{Finds}
use Rattle.kola_match.specs.Pairs.{Sides}
use Rattle.kola_match.specs.Spotting.{Spot, Spots, DemandAt, AllDemand}
use Rattle.kola_match.specs.Spotting.{IsSpot, Spotted, OccursOn, AllOccurOn, FindsOne, FindsAll}
use Rattle.kola_match.proofs.BindLaws.{finds_same, finds_then, finds_nothing_more}

module _ (S : Classes) (x : Context) (T : TypeTree) (sides : Sides) where
  occur_left : (i : ℕ) (vs : Context) → AllOccurOn sides vs → AllOccurOn sides (drop i vs)
  occur_left zero vs h = h
  occur_left (suc i) [] h = h
  occur_left (suc i) (v ∷ vs) h = occur_left i vs h.1

  pub occurs_at : (ms : List (Name × MetaTy)) (i : ℕ) (m : Name × MetaTy) → AllOccurOn sides (context_of ms) → i < length ms → m ≡ get_or ms i m → OccursOn sides (meta_entry m)
  occurs_at ms i m h p e = (subst (AllOccurOn sides) (left_less meta_entry ms (context_of ms) i m refl p e) (occur_left i (context_of ms) h)).0

  spotted_push : (vs : Context) (v : List ℕ × MetaTree) (es : Spots) (e : Spot) → Spotted sides vs es → IsSpot sides v e → Spotted sides (vs ++ v ∷ []) (es ++ (v, e) ∷ [])
  spotted_push [] v [] e h k = (refl, k, tt)
  spotted_push (u ∷ vs) v (f ∷ es) e h k = (h.0, h.1, spotted_push vs v es e h.2 k)
  spotted_push [] v (f ∷ es) e h k = absurd h
  spotted_push (u ∷ vs) v [] e h k = absurd h

  demand_push : (es : Spots) (e : (List ℕ × MetaTree) × Spot) (s : Substitution) → ((AllDemand S x T es s × DemandAt S x T e s) ↔ AllDemand S x T (es ++ e ∷ []) s)
  demand_push [] e s = (λ h. (h.1, tt), λ h. (tt, h.0))
  demand_push (f ∷ es) e s = let r = demand_push es e s in (λ h. (h.0.0, r.0 (h.0.1, h.1)), λ h. let k = r.1 h.1 in ((h.0, k.0), k.1))

  -- what was found of the first k
  abbrev pub FindsFirst : Context → ℕ → Binds → Binds → Type 0
  FindsFirst vs k old now = (es : Spots) × Spotted sides (take k vs) es × Finds true old now (AllDemand S x T es)

  pub first_none : (vs : Context) (old : Binds) → FindsFirst vs 0 old old
  first_none vs old = ([], tt, finds_nothing_more old (λ s. Unit {0}) (λ s. tt))

  more : (ms : List (Name × MetaTy)) (i : ℕ) (m : Name × MetaTy) (r : Bool) (old now next : Binds) → i < length ms → m ≡ get_or ms i m → FindsFirst (context_of ms) i old now → FindsOne S x T sides (meta_entry m) r now next
      → (es : Spots) × Spotted sides (take (i + 1) (context_of ms)) es × Finds r old next (AllDemand S x T es)
  more ms i m r old now next p e l f =
      let es = l.0 ++ (meta_entry m, f.0) ∷ [] in (
        es,
        subst (λ z. Spotted sides z es) (sym (taken_more meta_entry ms (context_of ms) i m refl p e)) (spotted_push (take i (context_of ms)) (meta_entry m) l.0 f.0 l.1 f.1),
        finds_same r old next (λ s. AllDemand S x T l.0 s × DemandAt S x T (meta_entry m, f.0) s) (AllDemand S x T es) (demand_push l.0 (meta_entry m, f.0)) (finds_then r old now next (AllDemand S x T l.0) (DemandAt S x T (meta_entry m, f.0)) l.2 f.2),
      )

  pub first_more : (ms : List (Name × MetaTy)) (i : ℕ) (m : Name × MetaTy) (old now next : Binds) → i < length ms → m ≡ get_or ms i m → FindsFirst (context_of ms) i old now → FindsOne S x T sides (meta_entry m) true now next → FindsFirst (context_of ms) (i + 1) old next
  first_more ms i m old now next p e l f = more ms i m true old now next p e l f

  pub first_fails : (ms : List (Name × MetaTy)) (i : ℕ) (m : Name × MetaTy) (old now next : Binds) → i < length ms → m ≡ get_or ms i m → FindsFirst (context_of ms) i old now → FindsOne S x T sides (meta_entry m) false now next → FindsAll S x T sides (context_of ms) false old next
  first_fails ms i m old now next p e l f = let r = more ms i m false old now next p e l f in (i + 1, r.0, r.1, r.2)

  pub first_all : (ms : List (Name × MetaTy)) (i : ℕ) (old now : Binds) → length ms ≤ i → FindsFirst (context_of ms) i old now → FindsAll S x T sides (context_of ms) true old now
  first_all ms i old now p l =
      let k = length_seen meta_entry ms (context_of ms) refl in
      (l.0, subst (λ z. Spotted sides z l.0) (take_all i (context_of ms) (omega (arith, k, p))) l.1, l.2)
