-- Where a fault names the word `select`.
use Rattle.std.proofs.Common.{◌≡◌, ℕ, Bool, true, false, List, [], ◌∷◌, Option, Some, None, codes, refl, sym, ap, ◌∙◌}
use Rattle.std.specs.Prelude.{◌&&◌, not, ◌↔◌}
use Rattle.kola_base.specs.Lexemes.{Lexeme, LWord, LNumber, LString, LSign}
use Rattle.kola_base.specs.Alphabets.{word_or, symbol_by}
use Rattle.kola_base.specs.Placed.{Placed}
use Rattle.kola_base.specs.QueryWords.{is_among}
use Rattle.kola_parse.specs.Faults.{Accepted, Unlimited, Begins}
use Rattle.kola_parse.specs.declared.why.Why.{Why}
use Rattle.kola_parse.specs.declared.why.Why.TheVariants as why
use Rattle.oql_syntax.specs.Alphabet.{Kind, KWord, KOther, kind, query_words, query_word_named}
use Rattle.oql_syntax.specs.Limits.{QueryWithin}
use Rattle.oql_syntax.specs.QueryFaults.{QueryCause, CNotInProfile, is_label_behind, is_select, ends_in_select, last_is_select, DistinctMayFollow, left_out, left_out_first, select_or, cause_by, QueryFaultsAt}
use Rattle.oql_syntax.specs.declared.word.QueryWord.TheVariants as q
use Rattle.oql_syntax.proofs.SelectLaws.{select_wants_distinct, only_a_select_does}

-- ---- the word `select` is none that is left out

select_is : query_word_named (codes "select") ≡ Some q.Select
unfolding query_word_named query_words is_among
select_is = refl

left_out_as : (b bs : List ℕ) (k : Kind) → left_out k (LWord b) ≡ Some bs → (k ≡ KWord q.LeftOut) × (b ≡ bs)
left_out_as b bs (KWord q.LeftOut) e = (refl, let i = e in cc)
left_out_as b bs _ e = absurd cc

not_select : (b : List ℕ) → left_out (word_or b (query_word_named b)) (LWord b) ≡ Some (codes "select") → ⊥
not_select b e = absurd (let both = left_out_as b (codes "select") (word_or b (query_word_named b)) e in let i = sym both.0 ∙ ap (λ (z : List ℕ). word_or z (query_word_named z)) both.1 ∙ ap (word_or (codes "select")) select_is in cc)

says_no_select : (k : Kind) (l : Lexeme) → ((b : List ℕ) → l ≡ LWord b → k ≡ word_or b (query_word_named b)) → left_out k l ≡ Some (codes "select") → ⊥
says_no_select k (LWord b) h e = not_select b (ap (λ z. left_out z (LWord b)) (sym (h b refl)) ∙ e)
says_no_select (KWord q.LeftOut) (LNumber z) h e = absurd cc
says_no_select (KWord q.LeftOut) (LString z) h e = absurd cc
says_no_select (KWord q.LeftOut) (LSign z) h e = absurd cc
says_no_select _ _ h e = absurd cc

first_no_select : (ts : List Placed) → left_out_first ts ≡ Some (codes "select") → ⊥
first_no_select [] e = absurd cc
first_no_select (t ∷ ts) e = says_no_select (kind t) t.says (λ b i. ap (λ (l : Lexeme). symbol_by query_word_named l) i) e

-- ---- what a fault names

named_select : (w : Why) (b : Bool) (rest : List Placed) → cause_by w (select_or b (left_out_first rest)) ≡ CNotInProfile (codes "select") → (w ≡ why.Unexpected) × (b ≡ true)
named_select w b rest e = by w b (left_out_first rest) refl e
  where
    by : (w : Why) (b : Bool) (o : Option (List ℕ)) → left_out_first rest ≡ o → cause_by w (select_or b o) ≡ CNotInProfile (codes "select") → (w ≡ why.Unexpected) × (b ≡ true)
    by why.TooDeep b o i e = absurd cc
    by why.Unexpected true o i e = (refl, refl)
    by why.Unexpected false None i e = absurd cc
    by why.Unexpected false (Some v) i e = absurd (first_no_select rest (i ∙ ap Some (name_of e)))
      where
        name_of : CNotInProfile v ≡ CNotInProfile (codes "select") → v ≡ codes "select"
        name_of e = cc

names_select : (w : Why) (b : Bool) (o : Option (List ℕ)) → w ≡ why.Unexpected → b ≡ true → cause_by w (select_or b o) ≡ CNotInProfile (codes "select")
names_select w b o i j = ap (λ (y : Why). cause_by y (select_or b o)) i ∙ ap (λ (z : Bool). cause_by why.Unexpected (select_or z o)) j

bare_is_last : (b c : Bool) → (b && not c) ≡ true → b ≡ true
bare_is_last true c e = refl
bare_is_last false c e = absurd cc

ends_is_last : (j k : Kind) (w : List Placed) → ends_in_select j k w ≡ true → last_is_select w ≡ true
ends_is_last j k [] e = absurd cc
ends_is_last j k (t ∷ []) e = bare_is_last (is_select (kind t)) (is_label_behind j k) e
ends_is_last j k (t ∷ u ∷ w) e = ends_is_last k (kind t) (u ∷ w) e

begins_some : (n : ℕ) (w : List Placed) → Begins (Accepted QueryWithin n) w → Begins (Unlimited QueryWithin) w
begins_some n w (u, (x, h)) = (u, (n, x, h))

pub named_where : (n : ℕ) (ts : List Placed) (end at : ℕ) (c : QueryCause) (h : QueryFaultsAt QueryWithin n ts end at c) → (c ≡ CNotInProfile (codes "select")) ↔ ((h.fault.why ≡ why.Unexpected) × (last_is_select h.first.before ≡ true) × DistinctMayFollow (Unlimited QueryWithin) h.first.before)
named_where n ts end at c h = (to, from)
  where
    to : c ≡ CNotInProfile (codes "select") → (h.fault.why ≡ why.Unexpected) × (last_is_select h.first.before ≡ true) × DistinctMayFollow (Unlimited QueryWithin) h.first.before
    to e =
        let both = named_select h.fault.why (ends_in_select KOther KOther h.first.before) h.fault.rest (sym h.is_cause ∙ e) in
        (both.0, ends_is_last KOther KOther h.first.before both.1, select_wants_distinct h.first.before (begins_some n h.first.before h.first.begins) both.1)

    from : (h.fault.why ≡ why.Unexpected) × (last_is_select h.first.before ≡ true) × DistinctMayFollow (Unlimited QueryWithin) h.first.before → c ≡ CNotInProfile (codes "select")
    from g = h.is_cause ∙ names_select h.fault.why (ends_in_select KOther KOther h.first.before) (left_out_first h.fault.rest) g.0 (only_a_select_does h.first.before g.1 g.2)
