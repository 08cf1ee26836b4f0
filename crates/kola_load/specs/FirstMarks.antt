-- The first of the faults of a schema, computed.
use Rattle.std.specs.Prelude.{ℕ, nat_lt, nat_le, nat_eq, ◌&&◌, ◌||◌, not, cond, Bool, List, [], ◌∷◌, Option, Some, None, fold}
use Rattle.kola_core.specs.NameLists.{is_listed, with_name}
use Rattle.kola_load.specs.Names.{is_extent_name}
use Rattle.kola_load.specs.SchemaTree.{Named, TypeAt, ASet, AClass, AttributeAt, ClassAt}
use Rattle.kola_load.specs.SchemaFaults.{mark, starts_with_capital, names, class_names, extents, attributes, rank}
use Rattle.kola_load.specs.declared.schema_fault.Mark.{Mark}
use Rattle.kola_load.specs.declared.schema_fault.NameWhy.{NameWhy}
use Rattle.kola_load.specs.declared.schema_fault.NameWhy.TheVariants.{NotAllowed, TwiceDefined, UnknownClass, UnknownKeyAttribute}

abbrev pub goes_before : Mark → Mark → Bool
goes_before m n = nat_lt m.at n.at || (nat_eq m.at n.at && nat_le (rank m.why) (rank n.why))

abbrev pub earlier : Option Mark → Option Mark → Option Mark
earlier None b = b
earlier (Some m) None = Some m
earlier (Some m) (Some n) = cond (goes_before m n) (Some m) (Some n)

abbrev pub unless : Bool → NameWhy → Named → Option Mark
unless passes why n = cond passes None (Some (mark why n))

-- the first one of what f finds
abbrev pub first_of : {A : Type 0} → (A → Option Mark) → List A → Option Mark
first_of f xs = fold (λ best x. earlier best (f x)) None xs

abbrev pub not_allowed : ClassAt → Option Mark
not_allowed c = earlier (unless (starts_with_capital c.name.name) NotAllowed c.name) (unless (is_extent_name c.extent.name) NotAllowed c.extent)

-- the names that are seen, each once
abbrev pub names_from : List (List ℕ) → List Named → List (List ℕ)
names_from seen [] = seen
names_from seen (n ∷ ns) = names_from (with_name seen n.name) ns

abbrev pub twice_from : List (List ℕ) → Option Mark → List Named → Option Mark
twice_from seen best [] = best
twice_from seen best (n ∷ ns) = twice_from (with_name seen n.name) (earlier best (unless (not (is_listed n.name seen)) TwiceDefined n)) ns

abbrev pub twice : List Named → Option Mark
twice ns = twice_from [] None ns

abbrev pub unknown_class : List (List ℕ) → TypeAt → Option Mark
unknown_class cs (ASet t) = unknown_class cs t
unknown_class cs (AClass n) = unless (is_listed n.name cs) UnknownClass n
unknown_class cs _ = None

abbrev pub unknown_key : List (List ℕ) → List Named → Option Mark
unknown_key known k = first_of (λ n. unless (is_listed n.name known) UnknownKeyAttribute n) k

abbrev pub unknown_keys : List (List ℕ) → List (List Named) → Option Mark
unknown_keys known ks = first_of (unknown_key known) ks

abbrev pub unknown_types : List (List ℕ) → List AttributeAt → Option Mark
unknown_types cs bs = first_of (λ (a : AttributeAt). unknown_class cs a.type) bs

abbrev pub first_in_class : List (List ℕ) → ClassAt → Option Mark
first_in_class cs c = earlier (not_allowed c) (earlier (twice (attributes c)) (earlier (unknown_types cs c.attributes) (unknown_keys (names (attributes c)) c.keys)))

abbrev pub first_mark : List ClassAt → Option Mark
first_mark cs = earlier (twice (class_names cs)) (earlier (twice (extents cs)) (first_of (first_in_class (names (class_names cs))) cs))
