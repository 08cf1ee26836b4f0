-- How first operands go on behind what begins them, and what the program's readers answer.
use Rattle.std.specs.Prelude.{◌≡◌, Bool, true, false, ℕ, ◌+◌, List, [], ◌∷◌, Option, Some, None}
use Rattle.std.specs.Borrow.{Bor}
use Rattle.std.specs.Option.{option_map}
use Rattle.kola_base.specs.declared.named.Named as named
use Rattle.kola_base.specs.Named.{Named}
use Rattle.kola_base.specs.NamedViews.{named_view}
use Rattle.kola_base.specs.Placed.{Placed}
use Rattle.kola_base.specs.declared.sign.Sign.TheVariants as s
use Rattle.kola_parse.specs.Kinds.{deeper}
use Rattle.kola_parse.specs.Reader.{Move, Stray, Goes, done, eat, made, other}
use Rattle.oql_tree.specs.QueryTrees.{QueryTree, LitBool, QName, QLiteral}
use Rattle.oql_syntax.specs.QueryReaders.{Reader, Level, level, below, closed, set_in, struct_in, flatten_in, some_in, in_move, as_from, range_from, Next, ARange}
use Rattle.oql_syntax.specs.Alphabet.{Kind, KSign, KWord, KName, kind}
use Rattle.oql_syntax.specs.declared.word.QueryWord.TheVariants as q
use Rattle.oql_syntax.specs.declared.link.Lead.{Lead}
use Rattle.oql_syntax.specs.declared.link.Lead.TheVariants as leads
use Rattle.oql_syntax.specs.declared.link.WordForm.{WordForm}
use Rattle.oql_syntax.specs.declared.link.WordForm.TheVariants as forms
use Rattle.oql_syntax.specs.declared.operand.Parts.{Parts}
use Rattle.oql_syntax.specs.declared.operand.Parts.TheVariants as parts
use Rattle.oql_syntax.specs.declared.operand.Operand.{Operand}
use Rattle.oql_syntax.specs.declared.operand.Operand.TheVariants as operand

-- what is read in the parentheses, up to the closing one
abbrev pub parts_of : Parts → Level → Reader QueryTree
parts_of (parts.Struct at) i = struct_in i at
parts_of (parts.Flatten at) i = flatten_in i at
parts_of (parts.SomeMember at) i = some_in i at
parts_of parts.Plain i = closed (i.full false)

abbrev pub operand_rest : Operand → ℕ → Reader QueryTree
operand_rest (operand.Whole e) n = done e
operand_rest (operand.Parts p inner) n = parts_of p (level n (below n inner))

-- the parts stand one level below
abbrev pub IsOperandBelow : ℕ → Operand → Type 0
IsOperandBelow levels (operand.Whole e) = Unit {0}
IsOperandBelow levels (operand.Parts p inner) = inner + 1 ≡ levels

abbrev pub some_label : Option (named.Named × List Placed) → Option (Named × List Placed)
some_label o = option_map (λ x. (named_view x.0, x.1)) o

-- what an operand of `and` begins with
abbrev pub lead : Kind → Lead
lead (KWord q.Not) = leads.Not
lead (KWord q.Exists) = leads.Exists
lead (KWord q.For) = leads.All
lead _ = leads.Other

abbrev pub is_select : Kind → Bool
is_select (KWord q.Select) = true
is_select _ = false

abbrev pub kind_name : Kind → Option (List ℕ)
kind_name (KName x) = Some x
kind_name _ = None

-- what a reference points to
abbrev pub now : Bor (List ℕ) → List ℕ
now r = r.now

abbrev pub behind_word : Kind → List Placed → Option (List Placed)
behind_word (KWord q.In) r = Some r
behind_word _ r = None

-- what stands behind `in`, where that word comes first
abbrev pub behind_in : List Placed → Option (List Placed)
behind_in [] = None
behind_in (t ∷ r) = behind_word (kind t) r

-- ---- behind a comma in a field of a struct

abbrev pub behind_sign : Kind → List Placed → Option (List Placed)
behind_sign (KSign s.Colon) r = Some r
behind_sign _ r = None

-- what stands behind a colon, where it comes first
abbrev pub behind_colon : List Placed → Option (List Placed)
behind_colon [] = None
behind_colon (t ∷ r) = behind_sign (kind t) r

abbrev pub word_form : Kind → WordForm
word_form (KName x) = forms.Name
word_form (KWord q.True) = forms.Truth true
word_form (KWord q.False) = forms.Truth false
word_form (KWord q.Set) = forms.Set
word_form (KWord q.Struct) = forms.Struct
word_form (KWord q.Flatten) = forms.Flatten
word_form (KWord q.Exists) = forms.SomeMember
word_form _ = forms.Other

abbrev pub set_paren : ℕ → Option Level → ℕ → Kind → Move Placed Next
set_paren n o at (KSign s.Open) = Goes (range_from n o (set_in at))
set_paren n o at _ = Stray

abbrev pub parts_paren : ℕ → Option Level → Parts → Kind → Move Placed Next
parts_paren n o p (KSign s.Open) = deeper o (λ i. range_from n o (parts_of p i))
parts_paren n o p _ = Stray

-- a range that begins with the word l of the form, where no colon stands behind it
abbrev pub word_range : ℕ → Option Level → Named → WordForm → Reader Next
word_range n o l forms.Name = made ARange (other (λ u. in_move n o l (kind u)) (as_from n o (done (QName l.at l.name))))
word_range n o l (forms.Truth b) = range_from n o (done (QLiteral l.at (LitBool b)))
word_range n o l forms.Set = eat (λ u. set_paren n o l.at (kind u))
word_range n o l forms.Struct = eat (λ u. parts_paren n o (parts.Struct l.at) (kind u))
word_range n o l forms.Flatten = eat (λ u. parts_paren n o (parts.Flatten l.at) (kind u))
word_range n o l forms.SomeMember = eat (λ u. parts_paren n o (parts.SomeMember l.at) (kind u))
word_range n o l forms.Other = eat (λ u. Stray)
