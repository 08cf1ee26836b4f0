-- The phases one after the other, as the program goes through them.
use Rattle.std.proofs.Common.{◌≡◌, ℕ, Bool, List, [], ◌∷◌, ◌++◌, Some, None, Result, Ok, Err, Vec, Global, map, flat_map, refl, sym, ap, ◌∙◌}
use Rattle.std.specs.Option.{option_or}
use Rattle.serde_json.specs.Data.{Data}
use Rattle.kola_values.specs.Databases.{Classes, Objects}
use Rattle.kola_database.specs.declared.object.ObjectDef.{ObjectDef}
use Rattle.kola_load.specs.Calls.{Finds, FindsLists, lists_tree}
use Rattle.kola_load.specs.KeyViews.{lists_fault}
use Rattle.kola_load.specs.Loading.{Test, members_fault, extent_fault, objects_fault, keys_fault, first_of, db_fault}
use Rattle.kola_load.specs.Written.{is_there, objects_in}
use Rattle.kola_load.specs.declared.fault.DbFault.{DbFault}
use Rattle.kola_load.proofs.KeyLists.{lists_of}

module _ (S : Classes) (j : Data) (one : members_fault S j ≡ None) (two : first_of (extent_fault j) S ≡ None) (there : List ℕ × ℕ → Bool) (same : (r : List ℕ × ℕ) → there r ≡ is_there S j r) where
  -- what is left of the phases after the second
  left : db_fault S j ≡ option_or (first_of (objects_fault there j) S) (first_of (λ k. keys_fault k (objects_in j k)) S)
  left = λ i. option_or (one i) (option_or (two i) (option_or (first_of (objects_fault (λ r. sym (same r) i) j) S) (first_of (λ k. keys_fault k (objects_in j k)) S)))

  pub in_third : (o : Test) → first_of (objects_fault there j) S ≡ o → db_fault S j ≡ option_or o (first_of (λ k. keys_fault k (objects_in j k)) S)
  in_third o e = left ∙ ap (λ t. option_or t (first_of (λ k. keys_fault k (objects_in j k)) S)) e

  pub in_fourth : first_of (objects_fault there j) S ≡ None → (oss : List Objects) → oss ≡ map (objects_in j) S → (o : Test) → lists_fault S oss ≡ o → db_fault S j ≡ o
  in_fourth e oss f o g = in_third None e ∙ sym (lists_of (objects_in j) S) ∙ ap (lists_fault S) (sym f) ∙ g

  -- what the third phase finds, as what all phases find but for the keys
  pub lists_found : (r : Result (Vec (Vec ObjectDef Global) Global) DbFault) → Finds (first_of (objects_fault there j) S) (λ v. lists_tree v ≡ map (objects_in j) S) r → FindsLists S j r
  lists_found (Ok v) h = (h.1, in_fourth h.0 (lists_tree v) h.1 (lists_fault S (lists_tree v)) refl)
  lists_found (Err e) h = λ n. in_third (Some e) (h n)

-- lists made alike are joined alike
pub joined_alike : {X Y A : Type 0} (f : X → List A) (g : Y → List A) (xs : List X) (ys : List Y) → map f xs ≡ map g ys → flat_map f xs ≡ flat_map g ys
joined_alike f g [] [] e = refl
joined_alike f g [] (y ∷ ys) e = absurd (cc)
joined_alike f g (x ∷ xs) [] e = absurd (cc)
joined_alike f g (x ∷ xs) (y ∷ ys) e = let h : f x ≡ g y = cc in let r : map f xs ≡ map g ys = cc in λ i. h i ++ joined_alike f g xs ys r i
