-- What tokens are to a `select` that stands behind them.
use Rattle.std.specs.Prelude.{◌&&◌, not, Bool, true, false, List, [], ◌∷◌}
use Rattle.kola_base.specs.Placed.{Placed}
use Rattle.kola_base.specs.declared.sign.Sign.TheVariants as s
use Rattle.oql_syntax.specs.Alphabet.{Kind, KSign, KWord, kind}
use Rattle.oql_syntax.specs.declared.word.QueryWord.TheVariants as q
use Rattle.oql_syntax.specs.declared.outside.Role.{Role}
use Rattle.oql_syntax.specs.declared.outside.Role.TheVariants as roles

abbrev pub role : Kind → Role
role (KWord q.Select) = roles.Select
role (KWord q.Struct) = roles.Struct
role (KSign s.Open) = roles.Open
role (KSign s.Dot) = roles.BeforeLabel
role (KSign s.Arrow) = roles.BeforeLabel
role (KSign s.Comma) = roles.BeforeLabel
role _ = roles.Other

-- a word behind two tokens of these roles is a label
abbrev pub labels_next : Role → Role → Bool
labels_next j roles.BeforeLabel = true
labels_next roles.Struct roles.Open = true
labels_next _ _ = false

abbrev pub is_select_role : Role → Bool
is_select_role roles.Select = true
is_select_role _ = false

-- whether the last of these tokens is a `select` that is no label, behind two tokens of the roles j and k; where there is none, b
abbrev pub ends_so : Bool → Role → Role → List Placed → Bool
ends_so b j k [] = b
ends_so b j k (t ∷ ts) = ends_so (is_select_role (role (kind t)) && not (labels_next j k)) k (role (kind t)) ts
