-- A spelling that fits where so many levels stand below fits where one more does, and one that fits an open end fits a closed one then.
use Rattle.std.proofs.Common.{◌≡◌, ◌≤◌, ℕ, zero, suc, Bool, true, false, not, ◌&&◌, ◌||◌, refl, sym, subst, arith, leb-true, le-leb}
use Rattle.std.specs.Prelude.{nat_le}
use Rattle.std.proofs.lemmas.Bool.{and_parts, and_from}
use Rattle.oql_print.specs.QuerySpelling.{class_number, class_of, is_quantifier}
use Rattle.oql_tree.specs.QueryTrees.{QueryTree, QName, QLiteral, QSetOf, QPath, QStruct, QFlatten, QSomeMember, QNot, QIntersect, QAnd, QOr, QUnionExcept, QCompare, QExists, QForAll, QSelect, QueryLinks, NoLinks, Link, SetLinks, NoSets, SetLink, QueryFields, NoFields, QField, QueryRanges, NoRanges, QRange, QueryWhere, NoWhere, Where}
use Rattle.oql_laws.proofs.Places.{Place, place_number, taken}
use Rattle.oql_laws.proofs.Places as class
use Rattle.oql_laws.proofs.Printable.{Inside, FitsBy, open_before, Fits, FitLinks, FitSets, FitFields, FitRanges, FitWhere, FitsAt}

-- ---- one level more

inside_to : (d : ℕ) (F G : ℕ → Type 0) → ((d : ℕ) → F d → G (suc d)) → Inside d F → Inside (suc d) G
inside_to zero F G go h = absurd h
inside_to (suc d) F G go h = go d h

by_more : (t : Bool) (d : ℕ) (o : Bool) (F : ℕ → Bool → Type 0) → ((d : ℕ) (o : Bool) → F d o → F (suc d) o) → FitsBy t d o F → FitsBy t (suc d) o F
by_more true d o F go h = go d o h
by_more false d o F go h = inside_to d (λ d. F d true) (λ d. F d true) (λ d k. go d true k) h

at_more : (n : ℕ) (c : Place) (d : ℕ) (o : Bool) (e : QueryTree) → ((d : ℕ) (o : Bool) → Fits n d o e → Fits n (suc d) o e) → FitsAt n c d o e → FitsAt n c (suc d) o e
at_more n c d o e go h = by_more (taken c o e) d o (λ d o. Fits n d o e) go h

full_more : (n d : ℕ) (e : QueryTree) → ((d : ℕ) (o : Bool) → Fits n d o e → Fits n (suc d) o e) → Inside d (λ d. Fits n d true e) → Inside (suc d) (λ d. Fits n d true e)
full_more n d e go h = inside_to d (λ d. Fits n d true e) (λ d. Fits n d true e) (λ d k. go d true k) h

inner_more : (n : ℕ) (c : Place) (d : ℕ) (o : Bool) (e : QueryTree) → ((d : ℕ) (o : Bool) → Fits n d o e → Fits n (suc d) o e) → Inside d (λ d. FitsAt n c d o e) → Inside (suc d) (λ d. FitsAt n c d o e)
inner_more n c d o e go h = inside_to d (λ d. FitsAt n c d o e) (λ d. FitsAt n c d o e) (λ d k. at_more n c d o e go k) h

mutual
  pub more : (n d : ℕ) (o : Bool) (x : QueryTree) → Fits n d o x → Fits n (suc d) o x
  more n d o (QName p x) h = h
  more n d o (QLiteral p v) h = h
  more n d o (QSetOf p vs) h = h
  more n d o (QPath p e ls) h = (at_more n class.Prim d false e (λ d o k. more n d o e k) h.0, h.1, h.2, h.3)
  more n d o (QStruct p fs) h = (h.0, more_fields n d fs h.1)
  more n d o (QFlatten p e) h = full_more n d e (λ d o k. more n d o e k) h
  more n d o (QSomeMember p e) h = full_more n d e (λ d o k. more n d o e k) h
  more n d o (QNot p e) h = inner_more n class.Not d o e (λ d o k. more n d o e k) h
  more n d o (QIntersect p e ls) h = (h.0, h.1, at_more n class.Path d (open_before false ls) e (λ d o k. more n d o e k) h.2, more_links n class.Path d false ls h.3)
  more n d o (QAnd p e ls) h = (h.0, h.1, at_more n class.Not d (open_before o ls) e (λ d o k. more n d o e k) h.2, more_links n class.Not d o ls h.3)
  more n d o (QOr p e ls) h = (h.0, h.1, at_more n class.And d (open_before o ls) e (λ d o k. more n d o e k) h.2, more_links n class.And d o ls h.3)
  more n d o (QUnionExcept p e ls) h = (h.0, h.1, at_more n class.Meet d false e (λ d o k. more n d o e k) h.2, more_sets n d ls h.3)
  more n d o (QCompare p s a b) h = (at_more n class.Sets d false a (λ d o k. more n d o a k) h.0, at_more n class.Sets d false b (λ d o k. more n d o b k) h.1)
  more n d o (QExists p x r e) h = (h.0, h.1, inner_more n class.Sets d false r (λ d o k. more n d o r k) h.2, full_more n d e (λ d o k. more n d o e k) h.3)
  more n d o (QForAll p x r e) h = (h.0, h.1, inner_more n class.Sets d false r (λ d o k. more n d o r k) h.2, full_more n d e (λ d o k. more n d o e k) h.3)
  more n d o (QSelect p e rs c) h = (full_more n d e (λ d o k. more n d o e k) h.0, h.1, more_ranges n d rs h.2, more_where n d c h.3)

  more_links : (n : ℕ) (c : Place) (d : ℕ) (o : Bool) (ls : QueryLinks) → FitLinks n c d o ls → FitLinks n c (suc d) o ls
  more_links n c d o NoLinks h = tt
  more_links n c d o (Link p e ls) h = (at_more n c d (open_before o ls) e (λ d o k. more n d o e k) h.0, more_links n c d o ls h.1)

  more_sets : (n d : ℕ) (ls : SetLinks) → FitSets n d ls → FitSets n (suc d) ls
  more_sets n d NoSets h = tt
  more_sets n d (SetLink p b e ls) h = (at_more n class.Meet d false e (λ d o k. more n d o e k) h.0, more_sets n d ls h.1)

  more_fields : (n d : ℕ) (fs : QueryFields) → FitFields n d fs → FitFields n (suc d) fs
  more_fields n d NoFields h = tt
  more_fields n d (QField l p e fs) h = (h.0, full_more n d e (λ d o k. more n d o e k) h.1, more_fields n d fs h.2)

  more_ranges : (n d : ℕ) (rs : QueryRanges) → FitRanges n d rs → FitRanges n (suc d) rs
  more_ranges n d NoRanges h = tt
  more_ranges n d (QRange x p e rs) h = (h.0, inner_more n class.Sets d false e (λ d o k. more n d o e k) h.1, more_ranges n d rs h.2)

  more_where : (n d : ℕ) (c : QueryWhere) → FitWhere n d c → FitWhere n (suc d) c
  more_where n d NoWhere h = tt
  more_where n d (Where p e) h = full_more n d e (λ d o k. more n d o e k) h

-- ---- a closed end, one level more

by_closes : (l q : Bool) (d : ℕ) (F : ℕ → Bool → Type 0) → ((d : ℕ) → F d true → F (suc d) true) → ((d : ℕ) → q ≡ false → F d true → F (suc d) false) → FitsBy (l && (true || not q)) d true F → FitsBy (l && (false || not q)) (suc d) false F
by_closes true true d F m go h = h
by_closes true false d F m go h = go d refl h
by_closes false q d F m go h = inside_to d (λ d. F d true) (λ d. F d true) m h

at_closes : (n : ℕ) (c : Place) (d : ℕ) (e : QueryTree) → ((d : ℕ) → is_quantifier e ≡ false → Fits n d true e → Fits n (suc d) false e) → FitsAt n c d true e → FitsAt n c (suc d) false e
at_closes n c d e go h = by_closes (nat_le (place_number c) (class_number (class_of e))) (is_quantifier e) d (λ d o. Fits n d o e) (λ d k. more n d true e k) go h

first_closes : (n : ℕ) (c : Place) (d : ℕ) (e : QueryTree) (ls : QueryLinks) → ((d : ℕ) → is_quantifier e ≡ false → Fits n d true e → Fits n (suc d) false e) → FitsAt n c d (open_before true ls) e → FitsAt n c (suc d) (open_before false ls) e
first_closes n c d e NoLinks go h = at_closes n c d e go h
first_closes n c d e (Link p f ls) go h = at_more n c d false e (λ d o k. more n d o e k) h

mutual
  pub closes : (n d : ℕ) (x : QueryTree) → is_quantifier x ≡ false → Fits n d true x → Fits n (suc d) false x
  closes n d (QNot p e) q h = inside_to d (λ d. FitsAt n class.Not d true e) (λ d. FitsAt n class.Not d false e) (λ d k. at_closes n class.Not d e (λ d i k. closes n d e i k) k) h
  closes n d (QAnd p e ls) q h = (h.0, h.1, first_closes n class.Not d e ls (λ d i k. closes n d e i k) h.2, links_close n class.Not d ls h.3)
  closes n d (QOr p e ls) q h = (h.0, h.1, first_closes n class.And d e ls (λ d i k. closes n d e i k) h.2, links_close n class.And d ls h.3)
  closes n d (QExists p x r e) q h = absurd cc
  closes n d (QForAll p x r e) q h = absurd cc
  closes n d (QName p x) q h = h
  closes n d (QLiteral p v) q h = h
  closes n d (QSetOf p vs) q h = h
  closes n d (QPath p e ls) q h = more n d false (QPath p e ls) h
  closes n d (QStruct p fs) q h = more n d false (QStruct p fs) h
  closes n d (QFlatten p e) q h = more n d false (QFlatten p e) h
  closes n d (QSomeMember p e) q h = more n d false (QSomeMember p e) h
  closes n d (QIntersect p e ls) q h = more n d false (QIntersect p e ls) h
  closes n d (QUnionExcept p e ls) q h = more n d false (QUnionExcept p e ls) h
  closes n d (QCompare p s a b) q h = more n d false (QCompare p s a b) h
  closes n d (QSelect p e rs c) q h = more n d false (QSelect p e rs c) h

  links_close : (n : ℕ) (c : Place) (d : ℕ) (ls : QueryLinks) → FitLinks n c d true ls → FitLinks n c (suc d) false ls
  links_close n c d NoLinks h = tt
  links_close n c d (Link p e ls) h = (first_closes n c d e ls (λ d i k. closes n d e i k) h.0, links_close n c d ls h.1)

-- ---- parentheses that the spelling leaves out

not_true : (q : Bool) → not q ≡ true → q ≡ false
not_true true e = sym e
not_true false e = refl

pub opened : (n d : ℕ) (o : Bool) (x : QueryTree) → (o || not (is_quantifier x)) ≡ true → Inside d (λ d. Fits n d true x) → Fits n d o x
opened n zero o x q h = absurd h
opened n (suc d) true x q h = more n d true x h
opened n (suc d) false x q h = closes n d x (not_true (is_quantifier x) q) h

-- what fits in parentheses fits
pub bracketed : (n d : ℕ) (o : Bool) (c : Place) (x : QueryTree) → Inside d (λ d. Fits n d true x) → FitsAt n c d o x
bracketed n d o c x h = by (taken c o x) refl
  where
    by : (t : Bool) → taken c o x ≡ t → FitsBy t d o (λ d o. Fits n d o x)
    by true e = opened n d o x (and_parts (nat_le (place_number c) (class_number (class_of x))) (o || not (is_quantifier x)) e).1 h
    by false e = h

-- ---- other places

-- a place that takes more
pub widened : (n d : ℕ) (o : Bool) (c k : Place) (x : QueryTree) → place_number c ≤ place_number k → FitsAt n k d o x → FitsAt n c d o x
widened n d o c k x l h = by (taken k o x) refl h
  where
    also : taken k o x ≡ true → taken c o x ≡ true
    also e =
        let p = and_parts (nat_le (place_number k) (class_number (class_of x))) (o || not (is_quantifier x)) e in
        and_from (nat_le (place_number c) (class_number (class_of x))) (o || not (is_quantifier x)) (le-leb (place_number c) (class_number (class_of x)) (let m = leb-true (place_number k) (class_number (class_of x)) p.0 in omega (arith, l, m))) p.1

    by : (t : Bool) → taken k o x ≡ t → FitsBy t d o (λ d o. Fits n d o x) → FitsAt n c d o x
    by true e i = subst (λ t. FitsBy t d o (λ d o. Fits n d o x)) (sym (also e)) i
    by false e i = bracketed n d o c x i

-- what ends in no quantifier fits at both ends
either : (n d : ℕ) (o : Bool) (x : QueryTree) → nat_le 4 (class_number (class_of x)) ≡ true → Fits n d false x → Fits n d o x
either n d o (QSelect p e rs c) l h = absurd cc
either n d o (QOr p e ls) l h = absurd cc
either n d o (QAnd p e ls) l h = absurd cc
either n d o (QNot p e) l h = absurd cc
either n d o (QExists p x r e) l h = absurd cc
either n d o (QForAll p x r e) l h = absurd cc
either n d o (QCompare p s a b) l h = h
either n d o (QUnionExcept p e ls) l h = h
either n d o (QIntersect p e ls) l h = h
either n d o (QPath p e ls) l h = h
either n d o (QName p x) l h = h
either n d o (QLiteral p v) l h = h
either n d o (QSetOf p vs) l h = h
either n d o (QStruct p fs) l h = h
either n d o (QFlatten p e) l h = h
either n d o (QSomeMember p e) l h = h

or_right : (a b : Bool) → b ≡ true → (a || b) ≡ true
or_right true b e = refl
or_right false b e = e

pub compared_at : (n d : ℕ) (o : Bool) (c : Place) (x : QueryTree) → place_number c ≤ 4 → FitsAt n class.Compared d false x → FitsAt n c d o x
compared_at n d o c x l h = by (taken class.Compared false x) refl h
  where
    by : (t : Bool) → taken class.Compared false x ≡ t → FitsBy t d false (λ d o. Fits n d o x) → FitsAt n c d o x
    by true e i =
        let p = and_parts (nat_le 4 (class_number (class_of x))) (false || not (is_quantifier x)) e in
        let also : taken c o x ≡ true = and_from (nat_le (place_number c) (class_number (class_of x))) (o || not (is_quantifier x)) (le-leb (place_number c) (class_number (class_of x)) (let m = leb-true 4 (class_number (class_of x)) p.0 in omega (arith, l, m))) (or_right o (not (is_quantifier x)) p.1) in
        subst (λ t. FitsBy t d o (λ d o. Fits n d o x)) (sym also) (either n d o x p.0 i)
    by false e i = bracketed n d o c x i
