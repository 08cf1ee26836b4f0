-- What is lent for a constant and an attribute.
use Rattle.std.proofs.Common.{◌≡◌, ℕ, Bool, true, false, true≢false, cond, List, [], ◌∷◌, Option, Some, None, option_map, refl, sym, ap, ◌∙◌}
use Rattle.kola_values.specs.Values.{ValueTree, VUnit, VInt, VBool, VStr, VObj, VPair, VStruct, VSet, VNone}
use Rattle.kola_values.specs.Order.{same}
use Rattle.kola_values.specs.Sets.{Rising, canon, set_of}
use Rattle.kola_values.specs.Databases.{Classes, Objects, look_up, value_or_unit, attribute_of, objects_of, extent_class}
use Rattle.kola_values.proofs.Anys.{canon_rising}
use Rattle.kola_database.specs.Stored.{Database, extents_of, extent_in}
use Rattle.kola_database.proofs.Stored.{extent_meant}
use Rattle.kola_term.specs.Meaning.{extent_objects}
use Rattle.kola_eval.specs.Lending.{set_tree}

-- a rising list is the set of its members
pub set_of_rising : (vs : List ValueTree) → Rising vs → set_tree vs ≡ set_of vs
unfolding set_of
set_of_rising vs r = ap set_tree (sym (canon_rising vs r))

pub set_of_canon : (vs : List ValueTree) → set_tree (canon vs) ≡ set_of vs
unfolding set_of
set_of_canon vs = refl

-- ---- extents

abbrev pub extent_value : Option (List ValueTree) → ValueTree
extent_value (Some vs) = set_tree vs
extent_value None = VSet VNone

of_class : (d : Objects) (o : Option (List ℕ)) → extent_value (option_map (λ c. canon (objects_of c d)) o) ≡ set_of (extent_objects o d)
unfolding set_of
of_class d (Some c) = refl
of_class d None = refl

pub extent_found : (S : Classes) (db : Database) (e : List ℕ) (r : Option (List ValueTree)) → db.extents ≡ extents_of S → r ≡ extent_in db e → extent_value r ≡ set_of (extent_objects (extent_class S e) db.objects)
extent_found S db e r u h =
    ap extent_value h
    ∙ of_class db.objects (look_up e db.extents)
    ∙ ap (λ o. set_of (extent_objects o db.objects)) (ap (look_up e) u ∙ extent_meant S e)

-- ---- attributes

abbrev pub is_object : ValueTree → Bool
is_object (VObj c i) = true
is_object _ = false

-- what is no object has no attribute
module _ (a : List ℕ) where
  none_of : (v : ValueTree) → ((c : List ℕ) (i : ℕ) → same v (VObj c i) ≡ false) → (d : Objects) → attribute_of a d v ≡ VUnit
  none_of v h [] = refl
  none_of v h (o ∷ d) = ap (λ b. cond b (value_or_unit (look_up a o.values)) (attribute_of a d v)) (h o.class o.id) ∙ none_of v h d

  pub no_attribute : (v : ValueTree) → is_object v ≡ false → (d : Objects) → attribute_of a d v ≡ VUnit
  unfolding same
  no_attribute VUnit h d = none_of VUnit (λ c i. refl) d
  no_attribute (VInt n) h d = none_of (VInt n) (λ c i. refl) d
  no_attribute (VBool b) h d = none_of (VBool b) (λ c i. refl) d
  no_attribute (VStr s) h d = none_of (VStr s) (λ c i. refl) d
  no_attribute (VObj c i) h d = absurd (true≢false h)
  no_attribute (VPair v w) h d = none_of (VPair v w) (λ c i. refl) d
  no_attribute (VStruct fs) h d = none_of (VStruct fs) (λ c i. refl) d
  no_attribute (VSet vs) h d = none_of (VSet vs) (λ c i. refl) d
