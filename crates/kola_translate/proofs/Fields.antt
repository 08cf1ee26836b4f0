-- Fields of a typed struct: some where its type has some, none where it has none.
use Rattle.std.proofs.Common.{◌≡◌, ℕ, List, refl}
use Rattle.kola_values.specs.Types.{TypeTree, FieldTypes, TEnd, TField}
use Rattle.kola_values.specs.Databases.{Classes}
use Rattle.oql_tree.specs.QueryTrees.{QueryTree, QueryFields, NoFields, QField}
use Rattle.oql_check.specs.QueryTypes.{Scope}
use Rattle.oql_check.specs.TypedQueries.{HaveQueryTypes, f_end, f_field}

pub no_type : {l : List ℕ} {t : TypeTree} {ts : FieldTypes} → TField l t ts ≡ TEnd → ⊥
no_type h = cc

pub no_fields : {S : Classes} {ns : Scope} {before : List (List ℕ)} {ts : FieldTypes} → HaveQueryTypes S ns before NoFields ts → ts ≡ TEnd
no_fields f_end = refl

pub some_field : {S : Classes} {ns : Scope} {before : List (List ℕ)} {l : List ℕ} {at : ℕ} {e : QueryTree} {fs : QueryFields} {ts : FieldTypes} → HaveQueryTypes S ns before (QField l at e fs) ts → ts ≡ TEnd → ⊥
some_field (f_field n w q k) h = cc
