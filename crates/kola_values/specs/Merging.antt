-- Operations on two sets: the members of either that are kept, by which of the two they are in.
use Rattle.std.specs.Prelude.{Bool, cond, List, ◌++◌, filter}
use Rattle.kola_values.specs.Values.{ValueTree}
use Rattle.kola_values.specs.Sets.{canon, has}

-- whether a value is kept: in the first alone, in both, or in the second alone
abbrev pub is_kept : Bool → Bool → Bool → List ValueTree → List ValueTree → ValueTree → Bool
is_kept first both second vs ws v = cond (has v vs) (cond (has v ws) both first) second

abbrev pub merged : Bool → Bool → Bool → List ValueTree → List ValueTree → List ValueTree
merged first both second vs ws = canon (filter (is_kept first both second vs ws) (vs ++ ws))
