-- An instance of a typed term of any kind is typed.
use Rattle.std.proofs.Common.{◌≡◌, Bool, true, false, cond, Some, None, refl, ap, ◌∙◌}
use Rattle.kola_values.specs.Types.{TypeTree, TBool}
use Rattle.kola_values.specs.Databases.{Classes}
use Rattle.kola_term.specs.Terms.{TermTree, TermF, TermP, TermC}
use Rattle.kola_term.specs.Typing.{Context, is_typed}
use Rattle.kola_term.specs.Agreement.{kind_out}
use Rattle.kola_term.proofs.Inversions.{some_same}
use Rattle.kola_match.specs.Substitutions.{Substitution, sub_type, inst, IsTyped}
use Rattle.kola_match.proofs.Closed.{AttributesClosed}
use Rattle.kola_match.proofs.Instances.{out_inst, ok_inst, const_inst}

if_typed : (b : Bool) (w : TypeTree) → cond b (Some TBool) None ≡ Some w → (b ≡ true) × (TBool ≡ w)
if_typed true w e = (refl, some_same TBool w e)
if_typed false w e = absurd (cc)

pub kind_inst : (S : Classes) → AttributesClosed S → (x y : Context) (s : Substitution) → IsTyped S y s x → (t : TermTree) (u w : TypeTree) → kind_out S x t u ≡ Some w → kind_out S y (inst s t) (sub_type s.types u) ≡ Some (sub_type s.types w)
kind_inst S c x y s i (TermF f) u w e = out_inst S c x y s i f u w e
kind_inst S c x y s i (TermP p) u w e =
    let k = if_typed (is_typed S x p u) w e in
    ap (λ b. cond b (Some TBool) None) (ok_inst S c x y s i p u k.0) ∙ ap (λ z. Some (sub_type s.types z)) k.1
kind_inst S c x y s i (TermC k) u w e = const_inst S x y s i k w e
