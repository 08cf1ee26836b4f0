-- What is printed of a query that a text spells, spells it again.
use Rattle.std.proofs.Common.{◌≡◌, ℕ, true, List, [], ◌++◌, inl, refl, sym, subst}
use Rattle.std.proofs.lemmas.List.{append-nil}
use Rattle.kola_base.specs.Placed.{placed}
use Rattle.kola_base.specs.Spelled.{Spells}
use Rattle.kola_base.proofs.Alone.{opens, apart}
use Rattle.kola_base.proofs.Printed.{Says, says_nothing, tokens_said}
use Rattle.oql_syntax.specs.Grammar.{QueryText, deeper_texts}
use Rattle.oql_print.specs.QuerySpelling.{spelling, query_spelling}
use Rattle.oql_tree.specs.QueryTrees.{QueryTree}
use Rattle.oql_laws.specs.Unplaced.{unplaced}
use Rattle.oql_laws.proofs.Printable.{Fits}
use Rattle.oql_laws.proofs.Sounding.{first_of, tokens_sounding}
use Rattle.oql_laws.proofs.TextsPrintable.{texts_fit}
use Rattle.oql_laws.proofs.SpeltBy.{SpeltBy, as_value}
use Rattle.oql_laws.proofs.SpeltParts.{Like}
use Rattle.oql_laws.proofs.QuerySpelt.{spelt}
use Rattle.oql_laws.proofs.Bare.{to_full}
use Rattle.oql_syntax.specs.Grammar.{FullText}
use Rattle.oql_laws.proofs.Places.{place_of}

-- a text within these limits spells a query that is x up to places
abbrev pub SpellsLike : ℕ → ℕ → List ℕ → QueryTree → Type 0
SpellsLike n d text x = (y : QueryTree) × Spells (QueryText n d) text y × (unplaced y ≡ unplaced x)

whole : (n d : ℕ) (x : QueryTree) (bs : List ℕ) → SpeltBy opens apart bs (Like x) (λ y. FullText n (deeper_texts n d) y.0) → SpellsLike n d bs x
whole n d x bs r =
    let s : Says bs r.lexemes = subst (λ y. Says y r.lexemes) (append-nil bs) (subst (Says (bs ++ [])) (append-nil r.lexemes) (r.goes [] [] refl says_nothing)) in
    let t = tokens_said bs r.lexemes s in
    let v = r.spells (placed bs t.tokens) t.say in
    (v.0.0, record { tokens = t.tokens; are = t.are; spells = record { front = placed bs t.tokens; back = []; split = sym (append-nil (placed bs t.tokens)); first = v.1; second = inl tt } }, v.0.1)

pub printed_again : (n d : ℕ) (text : List ℕ) (x : QueryTree) → Spells (QueryText n d) text x → SpellsLike n d (query_spelling x) x
printed_again n d text x h =
    let f = first_of h.spells (tokens_sounding text h.tokens h.are) in
    let fits : Fits n d true x = (texts_fit n d).full x f.tokens f.spells f.sounding in
    whole n d x (spelling true x) (as_value (spelt n d true x fits) (λ y. y) (λ y w k. to_full n (deeper_texts n d) (place_of x) y.0 w k))
