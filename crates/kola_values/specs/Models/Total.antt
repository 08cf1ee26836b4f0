-- The order of values is total: a value as a list of whole numbers, whose lexicographic order is that of the values.
use Rattle.std.proofs.Common.{◌≡◌, ℕ, ℤ, pos, Bool, true, false, List, [], ◌∷◌, sym, ◌∙◌, ap, refl, subst, Ordering, nat_cmp, int_cmp, arith}
use mathlib.Core.Path.{fun_ext}
use base.Stored.{Coded, coded_list, coded_ℤ, coded_via}
use Rattle.std.specs.Ordering.{ordering_then, bool_cmp}
use Rattle.std.specs.Cmp.{IsTotalOrder}
use Rattle.std.specs.Cmp.Lexicographic.{slice_cmp}
use Rattle.std.proofs.lemmas.Cmp.{int_cmp_total, lists_total, on_total, tied_itself}
use Rattle.std.proofs.lemmas.Bool.Decides.{nat_tests}
use Rattle.kola_core.proofs.Compare.{then_assoc, then_equal}
use Rattle.kola_values.specs.Values.{ValueTree, VUnit, VInt, VBool, VStr, VObj, VPair, VStruct, VSet, MemberValues, VNone, VMore, FieldValues, VEnd, VField}
use Rattle.kola_values.specs.Order.{cmp, cmp_members, cmp_fields, name_cmp}
use Rattle.kola_values.specs.Models.Exact.{exact}

abbrev lists_cmp : List ℤ → List ℤ → Ordering
lists_cmp = slice_cmp int_cmp

-- bytes before the rest r, each with a mark before it, and a mark at the end
abbrev spelt : List ℕ → List ℤ → List ℤ
spelt [] r = pos 0 ∷ r
spelt (b ∷ s) r = pos 1 ∷ pos b ∷ spelt s r

abbrev bit : Bool → ℤ
bit false = pos 0
bit true = pos 1

abbrev mutual
  -- a value's form and its parts, before the rest r
  pub encoded : ValueTree → List ℤ → List ℤ
  encoded VUnit r = pos 0 ∷ r
  encoded (VInt n) r = pos 1 ∷ n ∷ r
  encoded (VBool b) r = pos 2 ∷ bit b ∷ r
  encoded (VStr s) r = pos 3 ∷ spelt s r
  encoded (VObj c i) r = pos 4 ∷ spelt c (pos i ∷ r)
  encoded (VPair v w) r = pos 5 ∷ encoded v (encoded w r)
  encoded (VStruct fs) r = pos 6 ∷ encoded_fields fs r
  encoded (VSet vs) r = pos 7 ∷ encoded_members vs r

  encoded_members : MemberValues → List ℤ → List ℤ
  encoded_members VNone r = pos 0 ∷ r
  encoded_members (VMore v vs) r = pos 1 ∷ encoded v (encoded_members vs r)

  encoded_fields : FieldValues → List ℤ → List ℤ
  encoded_fields VEnd r = pos 0 ∷ r
  encoded_fields (VField l v fs) r = pos 1 ∷ spelt l (encoded v (encoded_fields fs r))

pos_order : (a b : ℕ) → int_cmp (pos a) (pos b) ≡ nat_cmp a b
pos_order a b = grind (arith, nat_tests)

bit_order : (a b : Bool) → int_cmp (bit a) (bit b) ≡ bool_cmp a b
bit_order false false = refl
bit_order false true = refl
bit_order true false = refl
bit_order true true = refl

spelt_order : (x y : List ℕ) (r s : List ℤ) → lists_cmp (spelt x r) (spelt y s) ≡ ordering_then (name_cmp x y) (lists_cmp r s)
spelt_order [] [] r s = refl
spelt_order [] (b ∷ y) r s = refl
spelt_order (a ∷ x) [] r s = refl
spelt_order (a ∷ x) (b ∷ y) r s = rw (pos_order a b, spelt_order x y r s) (sym (then_assoc (nat_cmp a b) (name_cmp x y) (lists_cmp r s)))

mutual
  encoded_order : (v w : ValueTree) (r s : List ℤ) → lists_cmp (encoded v r) (encoded w s) ≡ ordering_then (cmp v w) (lists_cmp r s)
  encoded_order VUnit VUnit r s = refl
  encoded_order (VInt m) (VInt n) r s = refl
  encoded_order (VBool a) (VBool b) r s = rw (bit_order a b)
  encoded_order (VStr x) (VStr y) r s = spelt_order x y r s
  encoded_order (VObj c i) (VObj d j) r s = rw (spelt_order c d (pos i ∷ r) (pos j ∷ s), pos_order i j) (sym (then_assoc (name_cmp c d) (nat_cmp i j) (lists_cmp r s)))
  encoded_order (VPair a b) (VPair c d) r s = rw (encoded_order a c (encoded b r) (encoded d s), encoded_order b d r s) (sym (then_assoc (cmp a c) (cmp b d) (lists_cmp r s)))
  encoded_order (VStruct fs) (VStruct gs) r s = fields_order fs gs r s
  encoded_order (VSet vs) (VSet ws) r s = members_order vs ws r s
  encoded_order _ _ r s = refl

  members_order : (vs ws : MemberValues) (r s : List ℤ) → lists_cmp (encoded_members vs r) (encoded_members ws s) ≡ ordering_then (cmp_members vs ws) (lists_cmp r s)
  members_order VNone VNone r s = refl
  members_order VNone (VMore w ws) r s = refl
  members_order (VMore v vs) VNone r s = refl
  members_order (VMore v vs) (VMore w ws) r s = rw (encoded_order v w (encoded_members vs r) (encoded_members ws s), members_order vs ws r s) (sym (then_assoc (cmp v w) (cmp_members vs ws) (lists_cmp r s)))

  fields_order : (fs gs : FieldValues) (r s : List ℤ) → lists_cmp (encoded_fields fs r) (encoded_fields gs s) ≡ ordering_then (cmp_fields fs gs) (lists_cmp r s)
  fields_order VEnd VEnd r s = refl
  fields_order VEnd (VField m w gs) r s = refl
  fields_order (VField l v fs) VEnd r s = refl
  fields_order (VField l v fs) (VField m w gs) r s =
      rw (spelt_order l m (encoded v (encoded_fields fs r)) (encoded w (encoded_fields gs s)), encoded_order v w (encoded_fields fs r) (encoded_fields gs s), fields_order fs gs r s)
      (sym (then_assoc (name_cmp l m) (ordering_then (cmp v w) (cmp_fields fs gs)) (lists_cmp r s) ∙ ap (ordering_then (name_cmp l m)) (then_assoc (cmp v w) (cmp_fields fs gs) (lists_cmp r s))))

plain_order : (v w : ValueTree) → lists_cmp (encoded v []) (encoded w []) ≡ cmp v w
plain_order v w = encoded_order v w [] [] ∙ then_equal (cmp v w)

pub cmp_total : IsTotalOrder cmp
cmp_total = subst IsTotalOrder (fun_ext (λ v. fun_ext (λ w. plain_order v w))) (on_total (λ (v : ValueTree). encoded v []) (lists_total int_cmp_total))

pub encoded_apart : (v w : ValueTree) → encoded v [] ≡ encoded w [] → v ≡ w
encoded_apart v w e = exact v w (sym (plain_order v w) ∙ ap (λ l. lists_cmp l (encoded w [])) e ∙ tied_itself (lists_total int_cmp_total) (encoded w []))

-- how a proof tells values apart
abbrev pub value_code : Coded ValueTree
value_code = coded_via (coded_list coded_ℤ) (λ v. encoded v []) encoded_apart
