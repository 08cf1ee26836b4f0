-- The stack's frames, and the log.
use Rattle.std.proofs.Common.{◌≡◌, ℕ, ◌+◌, Bool, true, false, ◌||◌, refl, sym, ap, ◌∙◌, List, [], ◌∷◌, ◌++◌, Option, Some, None, option_map, IfSome, IfNone, IfOk, Result, Ok, Err, MatchOption, option_to_list, length, map}
use Rattle.std.proofs.lemmas.List.{map-append, append-nil}
use Rattle.coko_plan.specs.Wholes.{WholeTree}
use Rattle.coko_run.specs.Outcomes.{Event, Fired, When}
use Rattle.coko_run.specs.Runs.{Job}
use Rattle.coko_run.specs.Notes.{Notes, noted}
use Rattle.coko_run.specs.Moves.{Fr, FOr, FAfter, merged}
use Rattle.coko_run.specs.declared.machine.Frame.{Frame}
use Rattle.coko_run.specs.declared.machine.Shot.{Shot}
use Rattle.coko_run.specs.Views.{frame_of, frames_on, frames, shot_of, kept}

pushed_on : (t : List WholeTree) (fs : List Fr) (as' : List Frame) (a : Frame) → frames_on t fs (as' ++ (a ∷ [])) ≡ frame_of t a ∷ frames_on t fs as'
pushed_on t fs [] a = refl
pushed_on t fs (b ∷ as') a = pushed_on t (frame_of t b ∷ fs) as' a

pub pushed_frames : (t : List WholeTree) (as' : List Frame) (a : Frame) → frames t (as' ++ (a ∷ [])) ≡ frame_of t a ∷ frames t as'
unfolding frames
pushed_frames t as' a = pushed_on t [] as' a

last_on : (t : List WholeTree) (all as' : List Frame) (a : Frame) → all ≡ as' ++ (a ∷ []) → frames t all ≡ frame_of t a ∷ frames t as'
last_on t all as' a e = ap (frames t) e ∙ pushed_frames t as' a

pub pop_some : (t : List WholeTree) (xs ys : List Frame) (r : Option Frame) → xs ≡ ys ++ option_to_list r → IfSome r (λ f. frames t xs ≡ frame_of t f ∷ frames t ys)
pop_some t xs ys (Some f) e = last_on t xs ys f e
pop_some t xs ys None e = tt

none_on : (t : List WholeTree) (xs : List Frame) → length xs ≡ 0 → frames t xs ≡ []
unfolding frames
none_on t [] e = refl
none_on t (x ∷ xs) e = absurd (cc)

pub pop_none : (t : List WholeTree) (xs ys : List Frame) (n : ℕ) (r : Option Frame) (B : Type 0) (C : Frame → Type 0) → ys ≡ xs → length ys ≡ n → MatchOption r ((n ≡ 0) × B) C → IfNone r (frames t xs ≡ [])
pop_none t xs ys n (Some f) B C i k e = tt
pop_none t xs ys n None B C i k e = none_on t xs (sym (ap length i) ∙ (k ∙ e.0))

pub pop_still : (t : List WholeTree) (xs ys : List Frame) (n : ℕ) (r : Option Frame) (B : Type 0) (C : Frame → Type 0) (zs : List Frame) → zs ≡ xs → length zs ≡ n → MatchOption r ((n ≡ 0) × B) C → xs ≡ ys ++ option_to_list r → IfNone r (frames t ys ≡ [])
pop_still t xs ys n (Some f) B C zs i k e h = tt
pop_still t xs ys n None B C zs i k e h = ap (frames t) (sym (append-nil ys)) ∙ (sym (ap (frames t) h) ∙ none_on t xs (sym (ap length i) ∙ (k ∙ e.0)))

-- an or on the stack is merged
pub push_none : {V E : Type 0} (b : Bool) (fs hs new : List Fr) (r : Result V E) → IfOk r (λ v. new ≡ FOr b ∷ fs) → fs ≡ [] → hs ≡ [] → IfOk r (λ v. new ≡ merged b hs)
push_none b fs hs new (Ok v) e i j = e ∙ (ap (λ z. FOr b ∷ z) i ∙ sym (ap (merged b) j))
push_none b fs hs new (Err x) e i j = tt

pub push_or_or : {V E : Type 0} (b k d : Bool) (fs hs new : List Fr) (r : Result V E) → IfOk r (λ v. new ≡ FOr d ∷ fs) → d ≡ (k || b) → hs ≡ FOr k ∷ fs → IfOk r (λ v. new ≡ merged b hs)
push_or_or b k d fs hs new (Ok v) e i j = e ∙ (ap (λ z. FOr z ∷ fs) i ∙ sym (ap (merged b) j))
push_or_or b k d fs hs new (Err x) e i j = tt

pub push_or_after : {V E : Type 0} (b : Bool) (c : When) (j : Job) (q : List ℕ) (fs gs hs new : List Fr) (r : Result V E) → IfOk r (λ v. new ≡ FOr b ∷ gs) → gs ≡ FAfter c j q ∷ fs → hs ≡ FAfter c j q ∷ fs → IfOk r (λ v. new ≡ merged b hs)
push_or_after b c j q fs gs hs new (Ok v) e i k = e ∙ (ap (λ z. FOr b ∷ z) i ∙ sym (ap (merged b) k))
push_or_after b c j q fs gs hs new (Err x) e i k = tt

-- the log
kept_more : (b : Bool) (xs ys : List Shot) (a : Shot) (e : Event) → b ≡ true → ys ≡ xs ++ (a ∷ []) → shot_of a ≡ e → kept b (map shot_of ys) ≡ option_map (λ g. g ++ (e ∷ [])) (kept b (map shot_of xs))
kept_more true xs ys a e h i j = ap Some (ap (map shot_of) i ∙ (map-append shot_of xs (a ∷ []) ∙ ap (λ z. map shot_of xs ++ (z ∷ [])) j))
kept_more false xs ys a e h i j = absurd (cc)

kept_none : (b : Bool) (xs : List Shot) (e : Event) → b ≡ false → kept b (map shot_of xs) ≡ option_map (λ g. g ++ (e ∷ [])) (kept b (map shot_of xs))
kept_none true xs e h = absurd (cc)
kept_none false xs e h = refl

pub note_more : (n : ℕ) (b : Bool) (xs ys : List Shot) (r : ℕ) (v : Bool) (q : List ℕ) (a : Shot) → b ≡ true → ys ≡ xs ++ (a ∷ []) → shot_of a ≡ Fired r v q → (let p : Notes = record { count = n + 1; list = kept b (map shot_of ys) } in p) ≡ noted (record { count = n; list = kept b (map shot_of xs) }) (Fired r v q ∷ [])
unfolding noted
note_more n b xs ys r v q a h i j = ap (λ z. let p : Notes = record { count = n + 1; list = z } in p) (kept_more b xs ys a (Fired r v q) h i j)

pub note_none : (n : ℕ) (b : Bool) (xs : List Shot) (r : ℕ) (v : Bool) (q : List ℕ) → b ≡ false → (let p : Notes = record { count = n + 1; list = kept b (map shot_of xs) } in p) ≡ noted (record { count = n; list = kept b (map shot_of xs) }) (Fired r v q ∷ [])
unfolding noted
note_none n b xs r v q h = ap (λ z. let p : Notes = record { count = n + 1; list = z } in p) (kept_none b xs (Fired r v q) h)
