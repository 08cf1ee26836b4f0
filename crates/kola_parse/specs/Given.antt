-- What a function of the code answers, and what reading gives.
use Rattle.std.specs.Prelude.{◌≡◌, List, Result, Ok, Err}
use Rattle.kola_parse.specs.declared.why.Why.TheVariants.{TooDeep}
use Rattle.kola_parse.specs.declared.stop.Stop.{Stop}
use Rattle.kola_parse.specs.declared.stop.Stop.TheVariants.{Memory, Before}
use Rattle.kola_parse.specs.Reader.{Fault, fault}

-- What a function returned, seen by view, is what reading gives, unless memory ran out.
abbrev pub Fails : {T Y : Type 0} → Stop (List T) → Result Y (Fault T) → Type 0
Fails Memory read = Unit {0}
Fails (Before why rest) read = read ≡ Err (fault why rest)

abbrev pub Gives : {T X Y : Type 0} → (X → Y) → Result X (Stop (List T)) → Result Y (Fault T) → Type 0
Gives view (Ok x) read = read ≡ Ok (view x)
Gives view (Err e) read = Fails e read

-- it stopped before these tokens, since they go too deep
abbrev pub StoppedDeep : {T : Type 0} → Stop (List T) → List T → Type 0
StoppedDeep Memory ts = ⊥
StoppedDeep (Before why rest) ts = (why ≡ TooDeep) × (rest ≡ ts)

-- A reading goes on from what a function of the code returned, unless it stopped there, or memory ran out.
abbrev pub GoesOn : {T X Y : Type 0} → (X → Result Y (Fault T)) → Result X (Stop (List T)) → Result Y (Fault T) → Type 0
GoesOn go (Ok x) read = read ≡ go x
GoesOn go (Err e) read = Fails e read
