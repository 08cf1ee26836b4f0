-- A set of literals of one type is a set constant, and has the value of the set.
use Rattle.std.proofs.Common.{◌≡◌, ℕ, true, cond, ◌&&◌, List, [], ◌∷◌, Some, None, map, refl, sym, ap, ap₂, ◌∙◌, subst}
use Rattle.std.specs.declared.cmp.Ordering.{Ordering}
use Rattle.std.specs.declared.cmp.Ordering.TheVariants.{Less, Equal, Greater}
use Rattle.kola_core.proofs.Integers.{in_range}
use Rattle.kola_values.specs.Values.{ValueTree, VInt, VBool, VStr}
use Rattle.kola_values.specs.Types.{TypeTree, TInt, TStr, TBool, TSet}
use Rattle.kola_values.specs.Order.{cmp}
use Rattle.kola_values.specs.Sets.{Rising, put, put_at, canon, Each, set_of}
use Rattle.kola_values.specs.Databases.{Classes, Objects, HasType}
use Rattle.kola_values.proofs.Anys.{set_ext, any_canon, rising}
use Rattle.kola_values.proofs.Each.{each_map, each_canon}
use Rattle.kola_canon.specs.Encoding.{enc}
use Rattle.kola_term.specs.Literals.{literal_type, is_literal_of, each_literal, set_type_of, set_type}
use Rattle.kola_term.proofs.SetConstants.{rising_from}
use Rattle.oql_tree.specs.QueryTrees.{LitTree, LitInt, LitStr, LitBool}
use Rattle.oql_check.specs.TypedQueries.{IsLiteral}
use Rattle.oql_check.specs.QueryMeaning.{literal_value}
use Rattle.oql_check.proofs.Means.{literal_typed}
use Rattle.kola_translate.specs.Translation.{literal_values, set_term}
use Rattle.kola_translate.proofs.Encoded.{set_enc}
use Rattle.kola_translate.proofs.Meant.{IsMeant}

is_literal : (t : TypeTree) (l : LitTree) → IsLiteral t l → is_literal_of t (literal_value l) ≡ true
is_literal TInt (LitInt n) h = in_range n h
is_literal TStr (LitStr s) h = refl
is_literal TBool (LitBool b) h = refl
is_literal _ _ h = absurd h

of_type : (t : TypeTree) (v : ValueTree) → is_literal_of t v ≡ true → literal_type v ≡ Some t
of_type TInt (VInt n) h = refl
of_type TStr (VStr s) h = refl
of_type TBool (VBool b) h = refl
of_type _ _ h = absurd (cc)

each_of_type : (t : TypeTree) (vs : List ValueTree) → Each (λ v. is_literal_of t v ≡ true) vs → each_literal t vs ≡ true
each_of_type t [] h = refl
each_of_type t (v ∷ vs) h = ap₂ (λ a b. a && b) h.0 (each_of_type t vs h.1)

type_of_set : (t : TypeTree) (vs : List ValueTree) → Each (λ v. is_literal_of t v ≡ true) vs → Rising vs → (vs ≡ [] → ⊥) → set_type vs ≡ Some (TSet t)
type_of_set t [] h r n = absurd (n refl)
type_of_set t (v ∷ vs) h r n =
    ap (λ o. set_type_of o v vs) (of_type t v h.0)
    ∙ ap₂ (λ a b. cond (a && b) (Some (TSet t)) None) (each_of_type t (v ∷ vs) h) (rising_from v vs r)

put_some : (v : ValueTree) (vs : List ValueTree) → put v vs ≡ [] → ⊥
put_some v [] e = cc
put_some v (w ∷ ws) e = at (cmp v w) e
  where
    at : (o : Ordering) → put_at o v w ws (put v ws) ≡ [] → ⊥
    at Less e = cc
    at Equal e = cc
    at Greater e = cc

-- the type of the constant
pub literals_type : (t : TypeTree) (l : LitTree × ℕ) (ls : List (LitTree × ℕ)) → Each (λ (m : LitTree × ℕ). IsLiteral t m.0) (l ∷ ls) → set_type (canon (literal_values (l ∷ ls))) ≡ Some (TSet t)
literals_type t l ls h =
    type_of_set t (canon (literal_values (l ∷ ls)))
    (each_canon (λ v. is_literal_of t v ≡ true) (literal_values (l ∷ ls)) (each_map (λ v. is_literal_of t v ≡ true) (λ (m : LitTree × ℕ). IsLiteral t m.0) (λ (m : LitTree × ℕ). literal_value m.0) (l ∷ ls) h (λ m k. is_literal t m.0 k)))
    (rising (literal_values (l ∷ ls))) (put_some (literal_value l.0) (canon (literal_values ls)))

plain_literal : (l : LitTree) → enc (literal_value l) ≡ literal_value l
plain_literal (LitInt n) = refl
plain_literal (LitStr s) = refl
plain_literal (LitBool b) = refl

plain_literals : (ls : List (LitTree × ℕ)) → map enc (literal_values ls) ≡ literal_values ls
plain_literals [] = refl
plain_literals (l ∷ ls) = ap₂ (λ v vs. v ∷ vs) (plain_literal l.0) (plain_literals ls)

pub set_meant : (S : Classes) (d : Objects) (w : ValueTree) (t : TypeTree) (l : LitTree × ℕ) (ls : List (LitTree × ℕ)) → Each (λ (m : LitTree × ℕ). IsLiteral t m.0) (l ∷ ls)
    → IsMeant S d w (set_term (set_type (canon (literal_values (l ∷ ls)))) (canon (literal_values (l ∷ ls)))) (set_of (literal_values (l ∷ ls)))
set_meant S d w t l ls h =
    let vs = literal_values (l ∷ ls) in
    subst (λ o. IsMeant S d w (set_term o (canon vs)) (set_of vs)) (sym (literals_type t l ls h))
    (set_ext (canon vs) vs (λ q. any_canon q vs)
    ∙ sym (set_enc d t vs (each_map (λ v. HasType d v t) (λ (m : LitTree × ℕ). IsLiteral t m.0) (λ (m : LitTree × ℕ). literal_value m.0) (l ∷ ls) h (λ m k. literal_typed d t m.0 k)) ∙ ap set_of (plain_literals (l ∷ ls))))
