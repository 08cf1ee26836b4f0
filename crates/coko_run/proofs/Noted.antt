-- What is kept, after no events and after events in two parts.
use Rattle.std.proofs.Common.{◌≡◌, ℕ, ◌+◌, refl, sym, ap, ◌∙◌, List, [], ◌∷◌, ◌++◌, length, Option, Some, None, option_map, arith}
use Rattle.std.proofs.lemmas.List.{append_assoc, append-nil, length-append}
use Rattle.coko_run.specs.Outcomes.{Event, Fired, Missed}
use Rattle.coko_run.specs.Notes.{Notes, noted, fired}

pub fired_both : (f g : List Event) → fired (f ++ g) ≡ fired f ++ fired g
fired_both [] g = refl
fired_both (Fired r v q ∷ f) g = ap (λ z. Fired r v q ∷ z) (fired_both f g)
fired_both (Missed t i r v ∷ f) g = fired_both f g

same_notes : (a b : ℕ) (x y : Option (List Event)) → a ≡ b → x ≡ y → (let p : Notes = record { count = a; list = x } in p) ≡ record { count = b; list = y }
same_notes a b x y i j = ap (λ z. let p : Notes = record { count = z; list = x } in p) i ∙ ap (λ z. let p : Notes = record { count = b; list = z } in p) j

list_none : (x : Option (List Event)) → option_map (λ g. g ++ []) x ≡ x
list_none None = refl
list_none (Some f) = ap Some (append-nil f)

list_both : (x : Option (List Event)) (f g : List Event) → option_map (λ h. h ++ fired g) (option_map (λ h. h ++ fired f) x) ≡ option_map (λ h. h ++ fired (f ++ g)) x
list_both None f g = refl
list_both (Some h) f g = ap Some (append_assoc h (fired f) (fired g) ∙ sym (ap (λ z. h ++ z) (fired_both f g)))

pub noted_none : (l : Notes) → noted l [] ≡ l
unfolding noted
noted_none l = same_notes (l.count + 0) l.count _ l.list (omega arith) (list_none l.list)

pub noted_both : (l : Notes) (f g : List Event) → noted (noted l f) g ≡ noted l (f ++ g)
unfolding noted
noted_both l f g = same_notes _ _ _ _ (omega (arith, ap length (fired_both f g), length-append (fired f) (fired g))) (list_both l.list f g)
