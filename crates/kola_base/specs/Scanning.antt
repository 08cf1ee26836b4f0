-- The first piece as it is found from left to right, over the classes of the bytes.
use Rattle.std.specs.Prelude.{ℕ, suc, Bool, true, false, not, cond, ◌&&◌, List, [], ◌∷◌, Option, Some, None, option_map}
use Rattle.std.specs.List.{prefix_len}
use Rattle.kola_base.specs.declared.class.Class.{Class}
use Rattle.kola_base.specs.declared.class.Class.TheVariants.{Blank, LineEnd, Letter, Digit, Minus, Slash, Less, Greater, Equal, Bang, Bar, Quote, Backslash, Single, Other}
use Rattle.kola_base.specs.declared.scan.Sort.{Sort}
use Rattle.kola_base.specs.declared.scan.Sort.TheVariants as sorts
use Rattle.kola_base.specs.Pieces.{goes_on}

-- the class of the next byte, and that of no piece at the end
abbrev pub next_class : List Class → Class
next_class [] = Other
next_class (k ∷ ks) = k

abbrev pub is_line_end : Class → Bool
is_line_end LineEnd = true
is_line_end _ = false

abbrev pub is_quote : Class → Bool
is_quote Quote = true
is_quote _ = false

abbrev pub is_backslash : Class → Bool
is_backslash Backslash = true
is_backslash _ = false

-- how many bytes end a string, of which a backslash may have taken the first
abbrev pub string_len : Bool → List Class → Option ℕ
string_len taken [] = None
string_len taken (k ∷ ks) = cond (is_line_end k) None (cond (not taken && is_quote k) (Some 1) (option_map suc (string_len (not taken && is_backslash k) ks)))

-- the sort of the first piece and how many bytes it has, by the classes of its first two bytes
abbrev pub first_by : Class → Class → List Class → Option (Sort × ℕ)
first_by Blank _ ks = Some (sorts.Blank, 1)
first_by LineEnd _ ks = Some (sorts.Blank, 1)
first_by Slash Slash ks = Some (sorts.Comment, suc (prefix_len (goes_on sorts.Comment) ks))
first_by Letter _ ks = Some (sorts.Word, suc (prefix_len (goes_on sorts.Word) ks))
first_by Digit _ ks = Some (sorts.Number, suc (prefix_len (goes_on sorts.Number) ks))
first_by Minus Digit ks = Some (sorts.Number, suc (prefix_len (goes_on sorts.Number) ks))
first_by Quote _ ks = option_map (λ n. (sorts.Quoted, suc n)) (string_len false ks)
first_by Minus Greater ks = Some (sorts.Sign, 2)
first_by Single _ ks = Some (sorts.Sign, 1)
first_by Less Equal ks = Some (sorts.Sign, 2)
first_by Less _ ks = Some (sorts.Sign, 1)
first_by Greater Equal ks = Some (sorts.Sign, 2)
first_by Greater _ ks = Some (sorts.Sign, 1)
first_by Equal _ ks = Some (sorts.Sign, 1)
first_by Bang Equal ks = Some (sorts.Sign, 2)
first_by Bar Bar ks = Some (sorts.Sign, 2)
first_by Bar _ ks = Some (sorts.Sign, 1)
first_by _ _ ks = None

abbrev pub first_piece : List Class → Option (Sort × ℕ)
first_piece [] = None
first_piece (k ∷ ks) = first_by k (next_class ks) ks
