-- What a name more does to a list of names, computed.
use Rattle.std.proofs.Common.{◌≡◌, true, false, [], ◌∷◌, codes, refl}
use Rattle.kola_core.specs.NameLists.{is_listed, with_name}

a_name_of_the_list : is_listed (codes "age") (codes "name" ∷ codes "age" ∷ []) ≡ true
a_name_of_the_list = refl

a_front_of_a_name : is_listed (codes "ag") (codes "name" ∷ codes "age" ∷ []) ≡ false
a_front_of_a_name = refl

a_name_more : with_name (codes "name" ∷ []) (codes "age") ≡ codes "name" ∷ codes "age" ∷ []
a_name_more = refl

a_name_twice : with_name (codes "name" ∷ codes "age" ∷ []) (codes "name") ≡ codes "name" ∷ codes "age" ∷ []
a_name_twice = refl
