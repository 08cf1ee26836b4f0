-- From the value of a query's term to the value of the query. The objects of the database may be written in any order.
use Rattle.std.proofs.Common.{◌≡◌, ℕ, List, [], true, sym, ap, ◌∙◌, subst, IsPermutation}
use Rattle.std.proofs.lemmas.List.Sorted.{IsPermutation-sym}
use Rattle.kola_values.specs.Values.{ValueTree, VUnit}
use Rattle.kola_values.specs.Types.{TypeTree}
use Rattle.kola_values.specs.Shapes.{Shaped}
use Rattle.kola_values.specs.Databases.{Classes, Objects}
use Rattle.kola_schema.specs.Meets.{Meets}
use Rattle.kola_schema.specs.Schemas.{is_schema}
use Rattle.kola_database.proofs.Reordered.{meets_reordered}
use Rattle.kola_canon.specs.Encoding.{enc, enc_type}
use Rattle.kola_canon.specs.Spelling.{value_spelling}
use Rattle.kola_canon.proofs.EncodingOrder.{enc_exact}
use Rattle.kola_canon.proofs.EncodingInverse.{typed_shaped, enc_shaped}
use Rattle.kola_term.specs.Meaning.{den}
use Rattle.oql_tree.specs.QueryTrees.{QueryTree}
use Rattle.oql_check.specs.TypedQueries.{HasQueryType}
use Rattle.oql_check.specs.QueryMeaning.{mean}
use Rattle.oql_check.proofs.Means.{mean_typed}
use Rattle.kola_translate.specs.Translation.{translation}
use Rattle.kola_translate.proofs.Valued.{tr_meant}
use Rattle.kola_top.specs.Valued.{IsText}

module _ (S : Classes) (os d : Objects) (q : QueryTree) (t : TypeTree) (good : is_schema S ≡ true) (meets : Meets S d) (h : HasQueryType S [] q t) (order : IsPermutation os d) where
  written_meets : Meets S os
  written_meets = meets_reordered S d os (IsPermutation-sym os d order) meets

  shaped : Shaped (mean S os q []) t
  shaped = typed_shaped os t (mean S os q []) (mean_typed os S written_meets h [] tt)

  -- the value of the term in the database as it is kept is the encoding of the query's value over the objects as they are written
  module _ (v : ValueTree) (is : v ≡ den S d (translation S q) VUnit) (same : den S d (translation S q) VUnit ≡ den S os (translation S q) VUnit) where
    encoded : v ≡ enc (mean S os q [])
    encoded = is ∙ (same ∙ tr_meant S os written_meets good h [] tt)

    pub value_shaped : Shaped v (enc_type t)
    value_shaped = subst (λ z. Shaped z (enc_type t)) (sym encoded) (enc_shaped t (mean S os q []) shaped)

    pub text_is : (text : List ℕ) → IsText t v text → text ≡ value_spelling (mean S os q [])
    text_is text k = k.spelled ∙ ap value_spelling (enc_exact t k.value (mean S os q []) k.shaped shaped (k.encoded ∙ encoded))
