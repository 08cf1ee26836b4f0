-- Answers that build what is written in another way.
use Rattle.std.proofs.Common.{◌≡◌, ℕ, subst}
use Rattle.std.specs.Prelude.{Result}
use Rattle.kola_translate.specs.Building.{Building}
use Rattle.kola_translate.specs.Parts.{Builds}
use Rattle.kola_translate.specs.declared.fault.TranslateFault.{TranslateFault}

pub built_as : {A B : Type 0} (view : A → B) (r : Result A TranslateFault) (n : ℕ) (x y : Building B) → x ≡ y → Builds view r n x → Builds view r n y
built_as view r n x y e h = subst (λ z. Builds view r n z) e h
