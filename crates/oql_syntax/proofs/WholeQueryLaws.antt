-- The fields of a struct, all levels, and whole queries: what is read of them, and the first fault.
use Rattle.std.proofs.Common.{◌≡◌, ℕ, zero, suc, ◌<◌, Bool, true, false, List, [], ◌∷◌, ◌++◌, Option, None, refl, sym, ap, subst, ◌∙◌, arith}
use Rattle.std.proofs.lemmas.List.{append-nil}
use Rattle.kola_base.specs.Named.{NameText}
use Rattle.kola_base.specs.Placed.{Placed}
use Rattle.kola_base.specs.declared.sign.Sign.TheVariants as s
use Rattle.kola_base.proofs.NamedLaws.{name_good}
use Rattle.kola_parse.specs.Kinds.{Lang}
use Rattle.kola_parse.specs.Moves.{MoveGood, MayGood}
use Rattle.kola_parse.specs.Reader.{eat, may, Again, Final}
use Rattle.kola_parse.specs.Reading.{Ends, never, Inhabited, Good}
use Rattle.kola_parse.specs.Texts.{ends, Nothing, Chained, Made, Led, Maybe, ChainText, RoundsText}
use Rattle.kola_parse.proofs.ReaderLaws.{ends_none, nil_of}
use Rattle.kola_parse.proofs.GoodReaders.{done_good, next_good, then_good, eat_good}
use Rattle.kola_parse.proofs.Options.{may_good, stop_good}
use Rattle.kola_parse.proofs.Rounds.{rounds_good}
use Rattle.oql_syntax.specs.Alphabet.{Kind, KSign, kind}
use Rattle.oql_tree.specs.QueryTrees.{QueryTree}
use Rattle.oql_syntax.specs.QueryReaders.{Reader, Tailed, FieldParts, Level, FieldState, FieldRound, next_field, field_move, last_move, field_end, add_field, field, first_field, fields, level, below, Closing, semicolon_move, ending, full, query, no_labels, no_operands, no_set_operands, first_operand}
use Rattle.oql_syntax.specs.Tails.{Tail, Plain, Compared, OpenPlain, OpenCompared, Ranged, Labelled}
use Rattle.oql_syntax.proofs.QuerySymbols.{sign_token, sign_is, Ahead, ahead_sign, no_text, nothing, name_token}
use Rattle.oql_syntax.proofs.GoesOn.{on_full, semicolon_full}
use Rattle.oql_syntax.proofs.LevelLaws.{Texts, goes_full, LevelGood, Inner, Nowhere, Level_of, Inside, bare, first, both, name_tree, named_first, SetsFrom, Sets, CmpFrom, OpenNot, OpenOrFrom, FullRest, Full, sets_good, opennot_good, full_good}
use Rattle.oql_syntax.proofs.RangeLaws.{Ranges, ranges_good, done_on}

-- ---- a first operand alone is a text of everything above it

stays_chain : {A L : Type 0} (F : A → Placed → Lang Placed L) (grow : A → L → A) (n : ℕ) (a : A) → ChainText F grow n a a []
stays_chain F grow zero a = refl
stays_chain F grow (suc n) a = refl

-- an operand and no link
alone : {A B C L : Type 0} (out : B → C) (start : A → B) (F : B → Placed → Lang Placed L) (grow : B → L → B) (n : ℕ) (P : Lang Placed A) (x : A) (w : List Placed) → P x w
    → Made out (Chained (Made start P) (λ b. ChainText F grow n b)) (out (start x)) w
alone out start F grow n P x w h =
    record { part = start x; is = refl; spells = record { mid = start x; front = w; back = []; split = sym (append-nil w); first = record { part = x; is = refl; spells = h }; second = stays_chain F grow n (start x) } }

sets_bare : (n : ℕ) (l : Inner) (L : Lang Placed QueryTree) (x : QueryTree) (w : List Placed) → L x w → SetsFrom n l L x w
sets_bare n l L x w h = alone _ no_set_operands _ _ n _ x w (alone _ no_operands _ _ n _ x w (alone _ no_labels _ _ n L x w h))

cmp_bare : (n : ℕ) (l : Inner) (L : Lang Placed QueryTree) (x : QueryTree) (w : List Placed) → L x w → CmpFrom n l L (x, Plain) w
cmp_bare n l L x w h = record { mid = (x, Plain); front = w; back = []; split = sym (append-nil w); first = record { part = x; is = refl; spells = sets_bare n l L x w h }; second = refl }

openor_bare : (n : ℕ) (b : Bool) (l : Inner) (P : Lang Placed Tailed) (v : Tailed) (w : List Placed) → P v w → OpenOrFrom n b l P v w
openor_bare n b l P v w h = alone _ first_operand _ _ n _ v w (alone _ first_operand _ _ n P v w h)

a_full : (n : ℕ) (b : Bool) (l : Inner) → Full n b l (name_tree, Plain) (name_token ∷ [])
a_full n b l = named_first (FullRest n b l) (name_tree, Plain) [] (openor_bare n b l _ (name_tree, Plain) [] (cmp_bare n l (Nothing name_tree) name_tree [] (refl, tt)))

-- ---- fields

abbrev pub NextLabel : List FieldParts → Lang Placed FieldRound
NextLabel fs = Chained NameText (λ x. Ahead (KSign s.Colon) (Nothing (next_field fs x)))

abbrev pub FieldRest : List FieldParts → Kind → Lang Placed FieldRound
FieldRest fs (KSign s.Close) = Nothing (Final fs)
FieldRest fs (KSign s.Comma) = NextLabel fs
FieldRest fs _ = no_text

abbrev pub LastRest : List FieldParts → Kind → Lang Placed FieldRound
LastRest fs (KSign s.Close) = Nothing (Final fs)
LastRest fs _ = no_text

field_each : (On : Type 0) (fs : List FieldParts) (k : Kind) → MoveGood On (field_move fs k) (field_move fs k) (FieldRest fs k) (FieldRest fs k) never
field_each On fs (KSign s.Close) = done_good On (Final fs)
field_each On fs (KSign s.Comma) = next_good (name_good On) (λ x. ahead_sign s.Colon (done_good On (next_field fs x)))
field_each On fs _ = (nothing, nothing)

last_each : (On : Type 0) (fs : List FieldParts) (k : Kind) → MoveGood On (last_move fs k) (last_move fs k) (LastRest fs k) (LastRest fs k) never
last_each On fs (KSign s.Close) = done_good On (Final fs)
last_each On fs _ = (nothing, nothing)

abbrev pub FieldEnd : List FieldParts → Tail → Lang Placed FieldRound
FieldEnd fs (Labelled x at) = Nothing (let r : FieldRound = Again (fs, x, at) in r)
FieldEnd fs (Ranged b) = Led (λ t. LastRest fs (kind t))
FieldEnd fs _ = Led (λ t. FieldRest fs (kind t))

-- the parenthesis alone
by_close : (fs : List FieldParts) (F : Kind → Lang Placed FieldRound) → F (KSign s.Close) (Final fs) [] → Inhabited (Led (λ t. F (kind t)))
by_close fs F h = record { tree = Final fs; text = sign_token s.Close ∷ []; spells = subst (λ k. F k (Final fs) []) (sym (sign_is s.Close)) h }

any_end : (On : Type 0) (fs : List FieldParts) → Good On (eat (λ t. field_move fs (kind t))) (eat (λ t. field_move fs (kind t))) (Led (λ t. FieldRest fs (kind t))) (Led (λ t. FieldRest fs (kind t))) never
any_end On fs =
    eat_good (λ t. field_move fs (kind t)) (λ t. field_move fs (kind t)) (λ t. FieldRest fs (kind t)) (λ t. FieldRest fs (kind t)) never (λ t. field_each On fs (kind t)) (by_close fs (FieldRest fs) (refl, tt)) (by_close fs (FieldRest fs) (refl, tt))

end_good : (On : Type 0) (fs : List FieldParts) (x : Tail) → Good On (field_end fs x) (field_end fs x) (FieldEnd fs x) (FieldEnd fs x) never
end_good On fs (Labelled x at) = done_good On (Again (fs, x, at))
end_good On fs (Ranged b) =
    eat_good (λ t. last_move fs (kind t)) (λ t. last_move fs (kind t)) (λ t. LastRest fs (kind t)) (λ t. LastRest fs (kind t)) never (λ t. last_each On fs (kind t)) (by_close fs (LastRest fs) (refl, tt)) (by_close fs (LastRest fs) (refl, tt))
end_good On fs Plain = any_end On fs
end_good On fs Compared = any_end On fs
end_good On fs OpenPlain = any_end On fs
end_good On fs OpenCompared = any_end On fs

-- what ends a field does not go on it
any_bar : (K : Kind → Bool) → K (KSign s.Close) ≡ false → K (KSign s.Comma) ≡ false → (fs : List FieldParts) (y : FieldRound) (k : Kind) (v : List Placed) → FieldRest fs k y v → K k ≡ false
any_bar K e c fs y (KSign s.Close) v h = e
any_bar K e c fs y (KSign s.Comma) v h = c
any_bar K e c fs y _ v h = absurd h

last_bar : (b : Bool) (fs : List FieldParts) (y : FieldRound) (k : Kind) (v : List Placed) → LastRest fs k y v → on_full (Ranged b) k ≡ false
last_bar true fs y (KSign s.Close) v h = refl
last_bar false fs y (KSign s.Close) v h = refl
last_bar b fs y _ v h = absurd h

any_clear : (x : Tail) → on_full x (KSign s.Close) ≡ false → on_full x (KSign s.Comma) ≡ false → (fs : List FieldParts) (y : FieldRound) (v r : List Placed) → Led (λ t. FieldRest fs (kind t)) y v → Ends (λ (t : Placed). on_full x (kind t)) (v ++ r)
any_clear x e c fs y [] r h = absurd h
any_clear x e c fs y (t ∷ v) r h = any_bar (on_full x) e c fs y (kind t) v h

last_clear : (b : Bool) (fs : List FieldParts) (y : FieldRound) (v r : List Placed) → Led (λ t. LastRest fs (kind t)) y v → Ends (λ (t : Placed). on_full (Ranged b) (kind t)) (v ++ r)
last_clear b fs y [] r h = absurd h
last_clear b fs y (t ∷ v) r h = last_bar b fs y (kind t) v h

end_clear : (fs : List FieldParts) (x : Tail) (y : FieldRound) (v r : List Placed) → FieldEnd fs x y v → Ends (λ (t : Placed). on_full x (kind t)) (v ++ r)
end_clear fs (Labelled x at) y v r h = ends_none (v ++ r)
end_clear fs (Ranged b) y v r h = last_clear b fs y v r h
end_clear fs Plain y v r h = any_clear Plain refl refl fs y v r h
end_clear fs Compared y v r h = any_clear Compared refl refl fs y v r h
end_clear fs OpenPlain y v r h = any_clear OpenPlain refl refl fs y v r h
end_clear fs OpenCompared y v r h = any_clear OpenCompared refl refl fs y v r h

abbrev pub FieldText : Lang Placed Tailed → FieldState → Lang Placed FieldRound
FieldText L x = Chained L (λ v. FieldEnd (add_field x v.0) v.1)

field_good : {On : Type 0} {p r : Reader Tailed} {L M : Lang Placed Tailed} → Good On p r L M goes_full → (x : FieldState) → Good On (field p x) (field r x) (FieldText L x) (FieldText M x) never
field_good {On} h x = then_good h (λ v. end_good On (add_field x v.0) v.1) (λ v y w r m e. end_clear (add_field x v.0) v.1 y w r m) (λ v y w r m e. end_clear (add_field x v.0) v.1 y w r m)

field_full : (n : ℕ) (l : Inner) (x : FieldState) (y : FieldRound) → FieldText (Full n true l) x y [] → ⊥
field_full n l x y c = by c.front c.back c.split c.first
  where
    by : (v w : List Placed) → [] ≡ v ++ w → Full n true l c.mid v → ⊥
    by [] w e h = h
    by (t ∷ v) w e h = cc

field_finish : (n : ℕ) (l : Inner) (x : FieldState) → Inhabited (RoundsText (FieldText (Full n true l)) x)
unfolding by_close
field_finish n l x =
    let close = by_close (add_field x name_tree) (FieldRest (add_field x name_tree)) (refl, tt) in
    record { tree = add_field x name_tree; text = name_token ∷ sign_token s.Close ∷ []; spells = (0, record { mid = (name_tree, Plain); front = name_token ∷ []; back = sign_token s.Close ∷ []; split = refl; first = a_full n true l; second = close.spells }) }

abbrev pub Fields : ℕ → Inner → Lang Placed (List FieldParts)
Fields n l = Chained NameText (λ x. Ahead (KSign s.Colon) (RoundsText (FieldText (Full n true l)) (first_field x)))

fields_good : {On : Type 0} {n m : ℕ} {o o' : Option Level} {l l' : Inner} → (On → n < m) → Inside On o o' l l' → Good On (fields (full n true o)) (fields (full m true o')) (Fields n l) (Fields m l') never
fields_good {On} {n} {m} {o} {o'} {l} {l'} le z =
    next_good (name_good On) (λ x. ahead_sign s.Colon (rounds_good (field (full n true o)) (field (full m true o')) (FieldText (Full n true l)) (FieldText (Full m true l')) (λ f. field_good (full_good true le z) f)
    (field_full n l) (field_finish n l) (field_full m l') (field_finish m l') (first_field x)))

-- ---- all levels

abbrev pub texts : ℕ → Inner → Texts
texts n l = record { sets = Sets n l; opennot = λ b. OpenNot n b l; full = λ b. Full n b l; ranges = λ b. Ranges n l b; fields = Fields n l }

level_good : {On : Type 0} {n m : ℕ} {o o' : Option Level} {l l' : Inner} → (On → n < m) → Inside On o o' l l' → LevelGood On (level n o) (level m o') (texts n l) (texts m l')
level_good le z = record { sets = sets_good le z; opennot = λ b. opennot_good b le z; full = λ b. full_good b le z; ranges = λ b. ranges_good le z b; fields = fields_good le z }

-- the languages one level below, where d levels are left
abbrev pub inner : ℕ → ℕ → Inner
inner n zero = Nowhere
inner n (suc d) = Level_of (texts n (inner n d))

inside : (n d : ℕ) → Inside (Unit {0}) (below n d) (below (suc n) (suc d)) (inner n d) (inner (suc n) (suc d))
inside n zero = first (level (suc n) None) (texts (suc n) Nowhere) (level_good {n = suc n} {m = suc n} (λ h. absurd h) (bare (λ h. h)))
inside n (suc d) = both (level n (below n d)) (level (suc n) (below (suc n) (suc d))) (texts n (inner n d)) (texts (suc n) (inner (suc n) (suc d))) (level_good {n = n} {m = suc n} (λ h. omega arith) (inside n d))

-- ---- whole queries

abbrev is_semicolon : Kind → Bool
is_semicolon (KSign s.Semicolon) = true
is_semicolon _ = false

-- a final sign may stand where none was taken
abbrev goes_sign : Bool → Kind → Bool
goes_sign true k = false
goes_sign false k = is_semicolon k

abbrev goes_closing : Closing → Placed → Bool
goes_closing x t = goes_sign x.1 (kind t)

abbrev pub always : {A : Type 0} → A → Placed → Bool
always x t = true

abbrev pub SemicolonRest : QueryTree → Kind → Lang Placed Closing
SemicolonRest e (KSign s.Semicolon) = Nothing (let c : Closing = (e, true) in c)
SemicolonRest e _ = no_text

unit : Unit {0}
unit = tt

semicolon_each : (On : Type 0) (e : QueryTree) (k : Kind) → MayGood On (semicolon_move e k) (semicolon_move e k) (SemicolonRest e k) (SemicolonRest e k) goes_closing (goes_sign false k)
semicolon_each On e (KSign s.Semicolon) = (done_on (e, true) goes_closing (done_good On unit), refl)
semicolon_each On e _ = (nothing, nothing, refl)

abbrev pub Semicolon : QueryTree → Lang Placed Closing
Semicolon e = Maybe (let c : Closing = (e, false) in c) (λ t. SemicolonRest e (kind t))

semicolon_good : (On : Type 0) (e : QueryTree) → Good On (may (e, false) (λ t. semicolon_move e (kind t))) (may (e, false) (λ t. semicolon_move e (kind t))) (Semicolon e) (Semicolon e) goes_closing
semicolon_good On e = may_good (e, false) (λ t. semicolon_move e (kind t)) (λ t. semicolon_move e (kind t)) (λ t. SemicolonRest e (kind t)) (λ t. SemicolonRest e (kind t)) goes_closing (λ t. semicolon_each On e (kind t))

abbrev pub Ending : QueryTree → Lang Placed QueryTree
Ending e = Chained (Semicolon e) (λ x. Nothing x.0)

-- nothing may stand behind the end
nothing_behind : (r : List Placed) → Ends (λ (t : Placed). true) r → r ≡ []
nothing_behind [] e = refl
nothing_behind (t ∷ r) e = absurd cc

closed_clear : {A B : Type 0} (K : A → Placed → Bool) (a : A) (x y : B) (v r : List Placed) → Nothing x y v → Ends (λ (t : Placed). true) r → Ends (K a) (v ++ r)
closed_clear K a x y v r h e = subst (Ends (K a)) (sym (ap (λ (z : List Placed). z ++ r) (nil_of v h.1) ∙ nothing_behind r e)) tt

ending_good : (On : Type 0) (e : QueryTree) → Good On (ending e) (ending e) (Ending e) (Ending e) always
ending_good On e = then_good (semicolon_good On e) (λ x. stop_good On (λ t. true) x.0) (λ x y v r h i. closed_clear goes_closing x x.0 y v r h i) (λ x y v r h i. closed_clear goes_closing x x.0 y v r h i)

semicolon_bar : (x : Tail) (e : QueryTree) (y : Closing) (k : Kind) (v : List Placed) → SemicolonRest e k y v → on_full x k ≡ false
semicolon_bar x e y (KSign s.Semicolon) v h = semicolon_full x
semicolon_bar x e y _ v h = absurd h

ending_clear_at : (x : Tail) (e : QueryTree) (y : Closing) (u v r : List Placed) → Semicolon e y u → ends v → r ≡ [] → Ends (λ (t : Placed). on_full x (kind t)) ((u ++ v) ++ r)
ending_clear_at x e y [] v r h i j = subst (Ends (λ (t : Placed). on_full x (kind t))) (sym (ap (λ (z : List Placed). z ++ r) (nil_of v i) ∙ j)) tt
ending_clear_at x e y (t ∷ u) v r h i j = semicolon_bar x e y (kind t) u h

ending_clear : (x : Tail) (e y : QueryTree) (v r : List Placed) → Ending e y v → Ends (λ (t : Placed). true) r → Ends (λ (t : Placed). on_full x (kind t)) (v ++ r)
ending_clear x e y v r c i = subst (λ z. Ends (λ (t : Placed). on_full x (kind t)) (z ++ r)) (sym c.split) (ending_clear_at x e c.mid c.front c.back r c.first c.second.1 (nothing_behind r i))

-- what a query is written with: n links, d levels
abbrev pub QueryTextOf : ℕ → ℕ → Lang Placed QueryTree
QueryTextOf n d = Chained (Full n false (inner n d)) (λ v. Ending v.0)

pub query_good : (n d : ℕ) → Good (Unit {0}) (query n d) (query (suc n) (suc d)) (QueryTextOf n d) (QueryTextOf (suc n) (suc d)) always
query_good n d =
    then_good (full_good {n = n} {m = suc n} false (λ h. omega arith) (inside n d)) (λ v. ending_good (Unit {0}) v.0) (λ v y w r h e. ending_clear v.1 v.0 y w r h e) (λ v y w r h e. ending_clear v.1 v.0 y w r h e)
