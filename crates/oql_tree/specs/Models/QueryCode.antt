-- How a proof tells queries apart: a query as a tree of numbers, and back.
use Rattle.std.specs.Prelude.{◌≡◌, ℕ, pos, negsuc, Bool, true, false, List, [], ◌∷◌, refl}
use Rattle.std.proofs.Common.{ap, zero, suc}
use base.Stored.{Gv, gnil, gnum, gcons, Coded, coded_list, coded×, coded_ℕ, coded_bool}
use Rattle.std.specs.Coded.{code_by}
use Rattle.oql_tree.specs.QueryTrees.{LitTree, LitInt, LitStr, LitBool, QueryTree, QName, QLiteral, QSetOf, QPath, QStruct, QFlatten, QSomeMember, QNot, QIntersect, QAnd, QOr, QUnionExcept, QCompare, QExists, QForAll, QSelect, QueryLinks, NoLinks, Link, SetLinks, NoSets, SetLink, QueryFields, NoFields, QField, QueryRanges, NoRanges, QRange, QueryWhere, NoWhere, Where}
use Rattle.oql_tree.specs.declared.query.Sign.{Sign}
use Rattle.oql_tree.specs.declared.query.Sign.TheVariants as sign

abbrev gv_code : Coded Gv
gv_code = record { code = λ g. g; inj = λ x y p. p }

abbrev stored_bytes : List ℕ → Gv
stored_bytes [] = gnil
stored_bytes (b ∷ bs) = gcons (gnum b) (stored_bytes bs)

abbrev number : Gv → ℕ
number (gnum n) = n
number _ = zero

abbrev read_bytes : Gv → List ℕ
read_bytes (gcons b bs) = number b ∷ read_bytes bs
read_bytes _ = []

abbrev stored_bit : Bool → Gv
stored_bit false = gnum 0
stored_bit true = gnum 1

abbrev read_bit : Gv → Bool
read_bit (gnum zero) = false
read_bit _ = true

abbrev stored_lit : LitTree → Gv
stored_lit (LitInt (pos n)) = gcons (gnum 0) (gnum n)
stored_lit (LitInt (negsuc n)) = gcons (gnum 1) (gnum n)
stored_lit (LitStr s) = gcons (gnum 2) (stored_bytes s)
stored_lit (LitBool b) = gcons (gnum 3) (stored_bit b)

abbrev read_lit : Gv → LitTree
read_lit (gcons (gnum zero) n) = LitInt (pos (number n))
read_lit (gcons (gnum (suc zero)) n) = LitInt (negsuc (number n))
read_lit (gcons (gnum (suc (suc zero))) s) = LitStr (read_bytes s)
read_lit (gcons _ b) = LitBool (read_bit b)
read_lit _ = LitBool true

abbrev stored_lits : List (LitTree × ℕ) → Gv
stored_lits [] = gnil
stored_lits (l ∷ ls) = gcons (gcons (stored_lit l.0) (gnum l.1)) (stored_lits ls)

abbrev read_lits : Gv → List (LitTree × ℕ)
read_lits (gcons (gcons l at) ls) = (read_lit l, number at) ∷ read_lits ls
read_lits _ = []

abbrev stored_labels : List (List ℕ × ℕ) → Gv
stored_labels [] = gnil
stored_labels (l ∷ ls) = gcons (gcons (stored_bytes l.0) (gnum l.1)) (stored_labels ls)

abbrev read_labels : Gv → List (List ℕ × ℕ)
read_labels (gcons (gcons l at) ls) = (read_bytes l, number at) ∷ read_labels ls
read_labels _ = []

abbrev stored_sign : Sign → Gv
stored_sign sign.Eq = gnum 0
stored_sign sign.Ne = gnum 1
stored_sign sign.Lt = gnum 2
stored_sign sign.Le = gnum 3
stored_sign sign.Gt = gnum 4
stored_sign sign.Ge = gnum 5
stored_sign sign.Member = gnum 6

abbrev read_sign : Gv → Sign
read_sign (gnum zero) = sign.Eq
read_sign (gnum (suc zero)) = sign.Ne
read_sign (gnum (suc (suc zero))) = sign.Lt
read_sign (gnum (suc (suc (suc zero)))) = sign.Le
read_sign (gnum (suc (suc (suc (suc zero))))) = sign.Gt
read_sign (gnum (suc (suc (suc (suc (suc zero)))))) = sign.Ge
read_sign _ = sign.Member

-- a node: its form's number, its place, its parts
abbrev node : ℕ → ℕ → Gv → Gv
node form at parts = gcons (gnum form) (gcons (gnum at) parts)

abbrev mutual
  stored : QueryTree → Gv
  stored (QName at n) = node 0 at (stored_bytes n)
  stored (QLiteral at l) = node 1 at (stored_lit l)
  stored (QSetOf at ls) = node 2 at (stored_lits ls)
  stored (QPath at e ls) = node 3 at (gcons (stored e) (stored_labels ls))
  stored (QStruct at fs) = node 4 at (stored_fields fs)
  stored (QFlatten at e) = node 5 at (stored e)
  stored (QSomeMember at e) = node 6 at (stored e)
  stored (QNot at e) = node 7 at (stored e)
  stored (QIntersect at e ls) = node 8 at (gcons (stored e) (stored_links ls))
  stored (QAnd at e ls) = node 9 at (gcons (stored e) (stored_links ls))
  stored (QOr at e ls) = node 10 at (gcons (stored e) (stored_links ls))
  stored (QUnionExcept at e ls) = node 11 at (gcons (stored e) (stored_set_links ls))
  stored (QCompare at s a b) = node 12 at (gcons (stored_sign s) (gcons (stored a) (stored b)))
  stored (QExists at x r b) = node 13 at (gcons (stored_bytes x) (gcons (stored r) (stored b)))
  stored (QForAll at x r b) = node 14 at (gcons (stored_bytes x) (gcons (stored r) (stored b)))
  stored (QSelect at h rs w) = node 15 at (gcons (stored h) (gcons (stored_ranges rs) (stored_where w)))

  stored_links : QueryLinks → Gv
  stored_links NoLinks = gnil
  stored_links (Link at e ls) = gcons (gcons (gnum at) (stored e)) (stored_links ls)

  stored_set_links : SetLinks → Gv
  stored_set_links NoSets = gnil
  stored_set_links (SetLink at b e ls) = gcons (gcons (gnum at) (gcons (stored_bit b) (stored e))) (stored_set_links ls)

  stored_fields : QueryFields → Gv
  stored_fields NoFields = gnil
  stored_fields (QField l at e fs) = gcons (gcons (stored_bytes l) (gcons (gnum at) (stored e))) (stored_fields fs)

  stored_ranges : QueryRanges → Gv
  stored_ranges NoRanges = gnil
  stored_ranges (QRange x at e rs) = gcons (gcons (stored_bytes x) (gcons (gnum at) (stored e))) (stored_ranges rs)

  stored_where : QueryWhere → Gv
  stored_where NoWhere = gnil
  stored_where (Where at e) = gcons (gnum at) (stored e)

abbrev mutual
  read : Gv → QueryTree
  read (gcons (gnum zero) (gcons (gnum at) n)) = QName at (read_bytes n)
  read (gcons (gnum (suc zero)) (gcons (gnum at) l)) = QLiteral at (read_lit l)
  read (gcons (gnum (suc (suc zero))) (gcons (gnum at) ls)) = QSetOf at (read_lits ls)
  read (gcons (gnum (suc (suc (suc zero)))) (gcons (gnum at) (gcons (e) (ls)))) = QPath at (read e) (read_labels ls)
  read (gcons (gnum (suc (suc (suc (suc zero))))) (gcons (gnum at) fs)) = QStruct at (read_fields fs)
  read (gcons (gnum (suc (suc (suc (suc (suc zero)))))) (gcons (gnum at) e)) = QFlatten at (read e)
  read (gcons (gnum (suc (suc (suc (suc (suc (suc zero))))))) (gcons (gnum at) e)) = QSomeMember at (read e)
  read (gcons (gnum (suc (suc (suc (suc (suc (suc (suc zero)))))))) (gcons (gnum at) e)) = QNot at (read e)
  read (gcons (gnum (suc (suc (suc (suc (suc (suc (suc (suc zero))))))))) (gcons (gnum at) (gcons (e) (ls)))) = QIntersect at (read e) (read_links ls)
  read (gcons (gnum (suc (suc (suc (suc (suc (suc (suc (suc (suc zero)))))))))) (gcons (gnum at) (gcons (e) (ls)))) = QAnd at (read e) (read_links ls)
  read (gcons (gnum (suc (suc (suc (suc (suc (suc (suc (suc (suc (suc zero))))))))))) (gcons (gnum at) (gcons (e) (ls)))) = QOr at (read e) (read_links ls)
  read (gcons (gnum (suc (suc (suc (suc (suc (suc (suc (suc (suc (suc (suc zero)))))))))))) (gcons (gnum at) (gcons (e) (ls)))) = QUnionExcept at (read e) (read_set_links ls)
  read (gcons (gnum (suc (suc (suc (suc (suc (suc (suc (suc (suc (suc (suc (suc zero))))))))))))) (gcons (gnum at) (gcons (s) (gcons (a) (b))))) = QCompare at (read_sign s) (read a) (read b)
  read (gcons (gnum (suc (suc (suc (suc (suc (suc (suc (suc (suc (suc (suc (suc (suc zero)))))))))))))) (gcons (gnum at) (gcons (x) (gcons (r) (b))))) = QExists at (read_bytes x) (read r) (read b)
  read (gcons (gnum (suc (suc (suc (suc (suc (suc (suc (suc (suc (suc (suc (suc (suc (suc zero))))))))))))))) (gcons (gnum at) (gcons (x) (gcons (r) (b))))) = QForAll at (read_bytes x) (read r) (read b)
  read (gcons (gnum (suc (suc (suc (suc (suc (suc (suc (suc (suc (suc (suc (suc (suc (suc (suc zero)))))))))))))))) (gcons (gnum at) (gcons (h) (gcons (rs) (w))))) = QSelect at (read h) (read_ranges rs) (read_where w)
  read _ = QName 0 []

  read_links : Gv → QueryLinks
  read_links (gcons (gcons (gnum at) e) ls) = Link at (read e) (read_links ls)
  read_links _ = NoLinks

  read_set_links : Gv → SetLinks
  read_set_links (gcons (gcons (gnum at) (gcons b e)) ls) = SetLink at (read_bit b) (read e) (read_set_links ls)
  read_set_links _ = NoSets

  read_fields : Gv → QueryFields
  read_fields (gcons (gcons l (gcons (gnum at) e)) fs) = QField (read_bytes l) at (read e) (read_fields fs)
  read_fields _ = NoFields

  read_ranges : Gv → QueryRanges
  read_ranges (gcons (gcons x (gcons (gnum at) e)) rs) = QRange (read_bytes x) at (read e) (read_ranges rs)
  read_ranges _ = NoRanges

  read_where : Gv → QueryWhere
  read_where (gcons (gnum at) e) = Where at (read e)
  read_where _ = NoWhere

read_bytes-stored : (bs : List ℕ) → read_bytes (stored_bytes bs) ≡ bs
read_bytes-stored [] = refl
read_bytes-stored (b ∷ bs) = ap (λ l. b ∷ l) (read_bytes-stored bs)

read_bit-stored : (b : Bool) → read_bit (stored_bit b) ≡ b
read_bit-stored false = refl
read_bit-stored true = refl

read_lit-stored : (l : LitTree) → read_lit (stored_lit l) ≡ l
read_lit-stored (LitInt (pos n)) = refl
read_lit-stored (LitInt (negsuc n)) = refl
read_lit-stored (LitStr s) = ap LitStr (read_bytes-stored s)
read_lit-stored (LitBool b) = ap LitBool (read_bit-stored b)

read_lits-stored : (ls : List (LitTree × ℕ)) → read_lits (stored_lits ls) ≡ ls
read_lits-stored [] = refl
read_lits-stored (l ∷ ls) = λ i. (read_lit-stored l.0 i, l.1) ∷ read_lits-stored ls i

read_labels-stored : (ls : List (List ℕ × ℕ)) → read_labels (stored_labels ls) ≡ ls
read_labels-stored [] = refl
read_labels-stored (l ∷ ls) = λ i. (read_bytes-stored l.0 i, l.1) ∷ read_labels-stored ls i

read_sign-stored : (s : Sign) → read_sign (stored_sign s) ≡ s
read_sign-stored sign.Eq = refl
read_sign-stored sign.Ne = refl
read_sign-stored sign.Lt = refl
read_sign-stored sign.Le = refl
read_sign-stored sign.Gt = refl
read_sign-stored sign.Ge = refl
read_sign-stored sign.Member = refl

mutual
  pub read-stored : (q : QueryTree) → read (stored q) ≡ q
  read-stored (QName at n) = λ i. QName at (read_bytes-stored n i)
  read-stored (QLiteral at l) = λ i. QLiteral at (read_lit-stored l i)
  read-stored (QSetOf at ls) = λ i. QSetOf at (read_lits-stored ls i)
  read-stored (QPath at e ls) = λ i. QPath at (read-stored e i) (read_labels-stored ls i)
  read-stored (QStruct at fs) = λ i. QStruct at (read_fields-stored fs i)
  read-stored (QFlatten at e) = λ i. QFlatten at (read-stored e i)
  read-stored (QSomeMember at e) = λ i. QSomeMember at (read-stored e i)
  read-stored (QNot at e) = λ i. QNot at (read-stored e i)
  read-stored (QIntersect at e ls) = λ i. QIntersect at (read-stored e i) (read_links-stored ls i)
  read-stored (QAnd at e ls) = λ i. QAnd at (read-stored e i) (read_links-stored ls i)
  read-stored (QOr at e ls) = λ i. QOr at (read-stored e i) (read_links-stored ls i)
  read-stored (QUnionExcept at e ls) = λ i. QUnionExcept at (read-stored e i) (read_set_links-stored ls i)
  read-stored (QCompare at s a b) = λ i. QCompare at (read_sign-stored s i) (read-stored a i) (read-stored b i)
  read-stored (QExists at x r b) = λ i. QExists at (read_bytes-stored x i) (read-stored r i) (read-stored b i)
  read-stored (QForAll at x r b) = λ i. QForAll at (read_bytes-stored x i) (read-stored r i) (read-stored b i)
  read-stored (QSelect at h rs w) = λ i. QSelect at (read-stored h i) (read_ranges-stored rs i) (read_where-stored w i)

  read_links-stored : (ls : QueryLinks) → read_links (stored_links ls) ≡ ls
  read_links-stored NoLinks = refl
  read_links-stored (Link at e ls) = λ i. Link at (read-stored e i) (read_links-stored ls i)

  read_set_links-stored : (ls : SetLinks) → read_set_links (stored_set_links ls) ≡ ls
  read_set_links-stored NoSets = refl
  read_set_links-stored (SetLink at b e ls) = λ i. SetLink at (read_bit-stored b i) (read-stored e i) (read_set_links-stored ls i)

  read_fields-stored : (fs : QueryFields) → read_fields (stored_fields fs) ≡ fs
  read_fields-stored NoFields = refl
  read_fields-stored (QField l at e fs) = λ i. QField (read_bytes-stored l i) at (read-stored e i) (read_fields-stored fs i)

  read_ranges-stored : (rs : QueryRanges) → read_ranges (stored_ranges rs) ≡ rs
  read_ranges-stored NoRanges = refl
  read_ranges-stored (QRange x at e rs) = λ i. QRange (read_bytes-stored x i) at (read-stored e i) (read_ranges-stored rs i)

  read_where-stored : (w : QueryWhere) → read_where (stored_where w) ≡ w
  read_where-stored NoWhere = refl
  read_where-stored (Where at e) = λ i. Where at (read-stored e i)

abbrev pub query_code : Coded QueryTree
query_code = code_by Gv gv_code stored read read-stored

abbrev pub set_entry_code : Coded (ℕ × Bool × QueryTree)
set_entry_code = code_by (ℕ × (Bool × QueryTree)) (coded× coded_ℕ (coded× coded_bool query_code)) (λ l. (l.0, (l.1, l.2))) (λ l. (l.0, l.1.0, l.1.1)) (λ l. refl)

abbrev pub named_entry_code : Coded (List ℕ × ℕ × QueryTree)
named_entry_code = code_by (List ℕ × (ℕ × QueryTree)) (coded× (coded_list coded_ℕ) (coded× coded_ℕ query_code)) (λ f. (f.0, (f.1, f.2))) (λ f. (f.0, f.1.0, f.1.1)) (λ f. refl)
