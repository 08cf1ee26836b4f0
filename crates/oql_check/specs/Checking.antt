-- What the parts of the check answer each other.
use Rattle.std.specs.Prelude.{ℕ, ◌++◌, Result, Ok, Err, ◌≡◌}
use Rattle.kola_values.specs.Types.{TypeTree, TInt, TStr, TBool}
use Rattle.oql_tree.specs.QueryTrees.{LitTree, LitInt, LitStr, LitBool}
use Rattle.oql_check.specs.QueryTypes.{Scope, Checked, sets_type, bools_type}
use Rattle.oql_check.specs.declared.join.Join.{Join}
use Rattle.oql_check.specs.declared.join.Join.TheVariants.{Sets, Bools}
use Rattle.oql_check.specs.declared.fault.CheckFault.{CheckFault}
use Rattle.oql_check.specs.declared.fault.CheckFault.TheVariants.{At, Memory}

-- the fault is that of the typing; want of memory says nothing
abbrev pub IsFault : {A : Type 0} → CheckFault → Checked A → Type 0
IsFault (At at c) r = r ≡ Err (at, c)
IsFault Memory r = Unit {0}

-- what is answered, as it is seen, is what the typing finds
abbrev pub Finds : {A B : Type 0} → (A → B) → Result A CheckFault → Checked B → Type 0
Finds view (Ok a) r = r ≡ Ok (view a)
Finds view (Err f) r = IsFault f r

abbrev pub IsType : Result TypeTree CheckFault → Checked TypeTree → Type 0
IsType (Ok t) r = r ≡ Ok t
IsType (Err f) r = IsFault f r

-- the scope that stands afterwards is what the typing finds
abbrev pub Binds : {A : Type 0} → Result A CheckFault → Scope → Checked Scope → Type 0
Binds (Ok a) ms r = r ≡ Ok ms
Binds (Err f) ms r = IsFault f r

-- a scope with newer variables before another
abbrev pub EndsIn : Scope → Scope → Type 0
EndsIn ms ns = (ps : Scope) × (ms ≡ ps ++ ns)

-- the type of a literal's form
abbrev pub literal_form : LitTree → TypeTree
literal_form (LitInt n) = TInt
literal_form (LitStr s) = TStr
literal_form (LitBool b) = TBool

-- how the operands of a chain are joined
abbrev pub join_type : Join → ℕ → TypeTree → TypeTree → Checked TypeTree
join_type Sets at t u = sets_type at t u
join_type Bools at t u = bools_type at t u
