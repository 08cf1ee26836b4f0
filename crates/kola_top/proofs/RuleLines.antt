-- The lines of the rules behind the laws, one after another.
use Rattle.std.proofs.Common.{◌≡◌, ℕ, zero, suc, ◌+◌, ◌-◌, ◌≤◌, List, [], ◌∷◌, ◌++◌, Some, None, drop, length, map, slice_get, refl, sym, ap, ◌∙◌, arith}
use Rattle.std.specs.List.{flat_map}
use Rattle.std.proofs.lemmas.List.{append-nil, append_assoc, drop_more, drop_all, length-append, length-drop, length-map}
use Rattle.std.proofs.lemmas.Option.{slice_get_within, get_or_from_slice_get}
use Rattle.kola_rule.specs.Rules.{DraftTree}
use Rattle.kola_rule.specs.RuleViews.{draft_tree}
use Rattle.kola_rule.specs.declared.rule.Rule.{Rule}
use Rattle.kola_rule.specs.declared.rule.Draft.{Draft}
use Rattle.kola_proof.specs.Accepting.{rules_of}
use Rattle.kola_top.specs.Report.{accepted_line}
use Rattle.kola_top.specs.RulesViews.{names_behind}

-- where a list has no entry, it is over
pub past_none : {X : Type 0} (xs : List X) (i : ℕ) → slice_get xs i ≡ None → length xs ≤ i
past_none [] i e = omega arith
past_none (x ∷ xs) zero e = absurd (cc)
past_none (x ∷ xs) (suc i) e = let h = past_none xs i e in omega (arith, h)

names_more : (rs : List Rule) (i : ℕ) (r : Rule) → slice_get rs i ≡ Some r → names_behind i rs ≡ r.name ∷ names_behind (i + 1) rs
names_more rs i r e = ap (map (λ (q : Rule). q.name)) (drop_more rs i r (slice_get_within rs i r e) ∙ ap (λ q. q ∷ drop (i + 1) rs) (get_or_from_slice_get rs i r r e))

-- one more line was added
pub line_more : (rs : List Rule) (i : ℕ) (r : Rule) (old new all : List ℕ) → slice_get rs i ≡ Some r → new ≡ old ++ accepted_line r.name
    → old ++ flat_map accepted_line (names_behind i rs) ≡ all → new ++ flat_map accepted_line (names_behind (i + 1) rs) ≡ all
line_more rs i r old new all e added h =
    ap (λ z. z ++ flat_map accepted_line (names_behind (i + 1) rs)) added
    ∙ append_assoc old (accepted_line r.name) (flat_map accepted_line (names_behind (i + 1) rs))
    ∙ ap (λ z. old ++ flat_map accepted_line z) (sym (names_more rs i r e))
    ∙ h

-- no line is left
pub lines_all : (rs : List Rule) (i : ℕ) (out all : List ℕ) → length rs ≤ i → out ++ flat_map accepted_line (names_behind i rs) ≡ all → out ≡ all
lines_all rs i out all past h = sym (append-nil out) ∙ ap (λ z. out ++ flat_map accepted_line (map (λ (q : Rule). q.name) z)) (sym (drop_all i rs past)) ∙ h

pub count_behind : (rs : List Rule) (n : ℕ) → length (names_behind n rs) ≡ length rs - n
count_behind rs n = length-map (drop n rs) (λ (q : Rule). q.name) ∙ length-drop n rs

-- ---- the rules of drafts, behind those that stood before

drop_behind : (old more : List Rule) → drop (length old) (old ++ more) ≡ more
drop_behind [] more = refl
drop_behind (r ∷ rs) more = drop_behind rs more

names_of_drafts : (ds : List Draft) → map (λ (r : Rule). r.name) (rules_of ds) ≡ map (λ (d : DraftTree). d.rule.name) (map draft_tree ds)
names_of_drafts [] = refl
names_of_drafts (d ∷ ds) = ap (λ z. d.rule.name ∷ z) (names_of_drafts ds)

pub names_added : (old new : List Rule) (ds : List Draft) (n : ℕ) → n ≡ length old → new ≡ old ++ rules_of ds → names_behind n new ≡ map (λ (d : DraftTree). d.rule.name) (map draft_tree ds)
names_added old new ds n e added =
    ap (λ k. names_behind k new) e ∙ ap (names_behind (length old)) added ∙ ap (map (λ (r : Rule). r.name)) (drop_behind old (rules_of ds)) ∙ names_of_drafts ds

pub behind_within : (old new : List Rule) (ds : List Draft) (n : ℕ) → n ≡ length old → new ≡ old ++ rules_of ds → n ≤ length new
behind_within old new ds n e added = let l = ap length added ∙ length-append old (rules_of ds) in omega (arith, e, l)
