-- How the text of a plan is written piece by piece.
use Rattle.std.proofs.Common.{◌≡◌, ℕ, suc, ◌+◌, ◌<◌, ◌≤◌, List, [], ◌∷◌, ◌++◌, Option, Some, length, get_or, map, drop, codes, decimal, option_map, slice_get, append_assoc, append-nil, sym, ap, ◌∙◌, arith}
use Rattle.std.proofs.lemmas.List.{drop_more, drop_all}
use Rattle.std.proofs.lemmas.Option.{slice_get-map, slice_get_within, get_or_from_slice_get}
use Rattle.kola_rule.specs.RuleViews.{rule_tree}
use Rattle.kola_rule.specs.declared.rule.Rule.{Rule}
use Rattle.coko_plan.specs.Entries.{EntryTree}
use Rattle.coko_plan.specs.Faults.{names_of_rules}
use Rattle.coko_plan.specs.Listing.{or_else}
use Rattle.coko_plan.specs.Spelling.{further_children, arm_spelling, further_arms, entry_spelling, lines_from}
use Rattle.coko_plan.proofs.Finding.{names_seen}

-- a piece is written, and the others are left
written : (out new piece rest whole all : List ℕ) → new ≡ out ++ piece → whole ≡ piece ++ rest → out ++ whole ≡ all → new ++ rest ≡ all
written out new piece rest whole all h w k = ap (λ z. z ++ rest) h ∙ (append_assoc out piece rest ∙ (ap (λ z. out ++ z) (sym w) ∙ k))

pub all_written : (out rest all : List ℕ) → rest ≡ [] → out ++ rest ≡ all → out ≡ all
all_written out rest all e h = sym (append-nil out) ∙ (ap (λ z. out ++ z) (sym e) ∙ h)

dropped : {X : Type 0} (xs : List X) (i : ℕ) (x : X) → i < length xs → x ≡ get_or xs i x → drop i xs ≡ x ∷ drop (i + 1) xs
dropped xs i x l e = drop_more xs i x l ∙ ap (λ y. y ∷ drop (i + 1) xs) (sym e)

pub child_written : (out new all : List ℕ) (path : List ℕ) (i n : ℕ) → i < length path → n ≡ get_or path i n → new ≡ out ++ (codes "." ++ decimal n) → out ++ further_children (drop i path) ≡ all → new ++ further_children (drop (i + 1) path) ≡ all
child_written out new all path i n l e h k = written out new (codes "." ++ decimal n) (further_children (drop (i + 1) path)) (further_children (drop i path)) all h (ap further_children (dropped path i n l e)) k

pub arm_written : (out mid new all : List ℕ) (arms : List (List ℕ × ℕ)) (i : ℕ) (a : List ℕ × ℕ) → i < length arms → a ≡ get_or arms i a → mid ≡ out ++ codes ", " → new ≡ mid ++ arm_spelling a → out ++ further_arms (drop i arms) ≡ all → new ++ further_arms (drop (i + 1) arms) ≡ all
arm_written out mid new all arms i a l e h m k =
    written out new (codes ", " ++ arm_spelling a) (further_arms (drop (i + 1) arms)) (further_arms (drop i arms)) all
    (m ∙ (ap (λ z. z ++ arm_spelling a) h ∙ append_assoc out (codes ", ") (arm_spelling a)))
    (ap further_arms (dropped arms i a l e))
    k

pub line_written : (rules : List (List ℕ)) (out new all : List ℕ) (es : List EntryTree) (n : ℕ) (e : EntryTree) → slice_get es n ≡ Some e → new ≡ out ++ (decimal n ++ codes ": " ++ entry_spelling rules e ++ codes "\n")
    → out ++ lines_from n rules (drop n es) ≡ all → new ++ lines_from (n + 1) rules (drop (n + 1) es) ≡ all
line_written rules out new all es n e g h k =
    let next : suc n ≡ n + 1 = omega arith in
    written out new (decimal n ++ codes ": " ++ entry_spelling rules e ++ codes "\n") (lines_from (n + 1) rules (drop (n + 1) es)) (lines_from n rules (drop n es)) all h
    (ap (lines_from n rules) (dropped es n e (slice_get_within es n e g) (sym (get_or_from_slice_get es n e e g)))
    ∙ ap (λ m. decimal n ++ codes ": " ++ entry_spelling rules e ++ codes "\n" ++ lines_from m rules (drop (n + 1) es)) next)
    k

pub lines_written : (rules : List (List ℕ)) (out all : List ℕ) (es : List EntryTree) (n : ℕ) → length es ≤ n → out ++ lines_from n rules (drop n es) ≡ all → out ≡ all
lines_written rules out all es n l k = all_written out (lines_from n rules (drop n es)) all (ap (lines_from n rules) (drop_all n es l)) k

-- the name of the rule at a place
pub rule_word : (rs : List Rule) (n : ℕ) (o : Option Rule) → o ≡ slice_get rs n → or_else (option_map (λ (r : Rule). r.name) o) [] ≡ or_else (slice_get (names_of_rules (map rule_tree rs)) n) []
rule_word rs n o e =
    ap (λ q. or_else q []) (ap (option_map (λ (r : Rule). r.name)) e
    ∙ (sym (slice_get-map (λ (r : Rule). r.name) rs n) ∙ ap (λ l. slice_get l n) (sym (names_seen rs))))
