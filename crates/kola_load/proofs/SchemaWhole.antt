-- The reader of whole schemas reads the grammar, at every limit of nesting.
use Rattle.std.proofs.Common.{◌≡◌, inl, inr, ℕ, zero, suc, Bool, true, false, List, [], ◌∷◌, ◌++◌, Ok, Err, refl, sym, ap, subst, ◌∙◌, append_assoc}
use Rattle.std.proofs.lemmas.List.{append-nil}
use Rattle.kola_base.specs.Placed.{Placed}
use Rattle.kola_parse.specs.Reader.{then, done, whole, Fault}
use Rattle.kola_parse.specs.Faults.{Accepted, Unlimited, IsFirstFault}
use Rattle.kola_parse.specs.Reading.{Ends, never, Reads, Good}
use Rattle.kola_parse.specs.Texts.{◌·◌, ends, Nothing, Chained, Maybe, ChainText, ManyText}
use Rattle.kola_parse.specs.Moves.{MayGood, LinkGood}
use Rattle.kola_parse.specs.Kinds.{Lang}
use Rattle.kola_parse.proofs.ReaderLaws.{ends_none, done_reads}
use Rattle.kola_parse.proofs.GoodReaders.{next_good, good_as, whole_sound, whole_complete, whole_fault}
use Rattle.kola_parse.proofs.Options.{may_good, stop_good}
use Rattle.kola_parse.proofs.ManyChains.{manied_good}
use Rattle.kola_base.specs.declared.sign.Sign.TheVariants.{Semicolon}
use Rattle.kola_base.specs.Alphabets.{KSign, KWord}
use Rattle.kola_load.specs.declared.schema_alphabet.Word.TheVariants as w
use Rattle.kola_load.specs.SchemaTree.{TypeAt, ClassAt}
use Rattle.kola_load.specs.SchemaAlphabet.{Kind, kind}
use Rattle.kola_load.specs.SchemaGrammar.{BodyText, EndText, ClassText, SchemaText}
use Rattle.kola_load.specs.SchemaAccepted.{Schemas}
use Rattle.kola_load.specs.SchemaReaders.{Reader, is_semicolon, body_at, end_move, end_at, class_move, grow, classes_at, schema_at}
use Rattle.kola_load.proofs.SchemaLaws.{Level, type_good, body_good}

-- ---- a semicolon or none

-- a semicolon goes on a class, whatever its text, since a second one is refused
abbrev pub on_class : ClassAt → Placed → Bool
on_class c t = is_semicolon (kind t)

abbrev EndRest : ClassAt → Kind → Lang Placed ClassAt
EndRest c (KSign Semicolon) = Nothing c
EndRest c _ = λ x w. ⊥

abbrev Ended : ClassAt → Lang Placed ClassAt
Ended c = Maybe c (λ t. EndRest c (kind t))

end_each : (On : Type 0) (c : ClassAt) (k : Kind) → MayGood On (end_move c k) (end_move c k) (EndRest c k) (EndRest c k) on_class (is_semicolon k)
end_each On c (KSign Semicolon) = (stop_good On (λ t. is_semicolon (kind t)) c, refl)
end_each On c _ = (λ x w h. h, λ x w h. h, refl)

end_good : (On : Type 0) (c : ClassAt) → Good On (end_at c) (end_at c) (Ended c) (Ended c) on_class
end_good On c = may_good c (λ t. end_move c (kind t)) (λ t. end_move c (kind t)) (λ t. EndRest c (kind t)) (λ t. EndRest c (kind t)) on_class (λ t. end_each On c (kind t))

-- the text of a class behind its word
abbrev pub Rest : ℕ → Lang Placed ClassAt
Rest d c = BodyText d c · EndText

ended_to : (c x : ClassAt) (t : Placed) (k : Kind) (v : List Placed) → kind t ≡ k → EndRest c k x v → (x ≡ c) × EndText (t ∷ v)
ended_to c x t (KSign Semicolon) v e h = (h.0, inl (e, h.1))
ended_to c x t _ v e h = absurd h

rest_at : (d : ℕ) (c x : ClassAt) (front back : List Placed) → BodyText d c front → Ended c x back → Rest d x (front ++ back)
rest_at d c x front [] b h = record { front = front; back = []; split = refl; first = subst (λ z. BodyText d z front) (sym h) b; second = inr tt }
rest_at d c x front (t ∷ back) b h =
    let one = ended_to c x t (kind t) back refl h in
    record { front = front; back = t ∷ back; split = refl; first = subst (λ z. BodyText d z front) (sym one.0) b; second = one.1 }

rest_to : (d : ℕ) (x : ClassAt) (v : List Placed) → Chained (BodyText d) Ended x v → Rest d x v
rest_to d x v c = subst (Rest d x) (sym c.split) (rest_at d c.mid x c.front c.back c.first c.second)

ended_from : (x : ClassAt) (v : List Placed) → EndText v → Ended x x v
ended_from x [] (inl h) = absurd h
ended_from x (t ∷ v) (inl h) = subst (λ k. EndRest x k x v) (sym h.0) (refl, h.1)
ended_from x [] (inr h) = refl
ended_from x (t ∷ v) (inr h) = absurd h

rest_from : (d : ℕ) (x : ClassAt) (v : List Placed) → Rest d x v → Chained (BodyText d) Ended x v
rest_from d x v h = record { mid = x; front = h.front; back = h.back; split = h.split; first = h.first; second = ended_from x h.back h.second }

pub rest_good : {On : Type 0} {i j : Reader TypeAt} {d e : ℕ} → Level On i j d e → Good On (then (body_at i) end_at) (then (body_at j) end_at) (Rest d) (Rest e) on_class
rest_good {On} {i} {j} {d} {e} l = good_as (rest_to d) (rest_from d) (rest_to e) (rest_from e) (next_good (body_good l) (λ c. end_good On c))

-- ---- the classes

abbrev ClassRest : ℕ → Kind → Lang Placed ClassAt
ClassRest d (KWord w.Class) = Rest d
ClassRest d _ = λ x w. ⊥

-- a semicolon goes on a list of classes where there is one, and a class always does
abbrev behind_last : List ClassAt → Kind → Bool
behind_last [] k = false
behind_last (c ∷ cs) k = is_semicolon k

abbrev goes_on : List ClassAt → Kind → Bool
goes_on cs (KWord w.Class) = true
goes_on cs k = behind_last cs k

word_apart : (cs : List ClassAt) → behind_last cs (KWord w.Class) ≡ false
word_apart [] = refl
word_apart (c ∷ cs) = refl

class_link : {On : Type 0} {i j : Reader TypeAt} {d e : ℕ} → Level On i j d e → (cs : List ClassAt) (k : Kind) → LinkGood On (class_move i k) (class_move j k) (ClassRest d k) (ClassRest e k) on_class (behind_last cs k) (goes_on cs k)
class_link l cs (KWord w.Class) = (rest_good l, refl, word_apart cs)
class_link l cs _ = (λ x w h. h, λ x w h. h, refl)

last_is : (cs : List ClassAt) (c : ClassAt) (t : Placed) → behind_last (grow cs c) (kind t) ≡ on_class c t
last_is [] c t = refl
last_is (b ∷ cs) c t = refl

-- no classes, on which no semicolon goes
none_reads : Reads {T = Placed} (done []) (Nothing []) (λ cs t. behind_last cs (kind t))
none_reads = under (done_reads [])
  where
    nothing_goes : (x : List ClassAt) (r : List Placed) → x ≡ [] → Ends (λ t. behind_last x (kind t)) r
    nothing_goes x r e = subst (λ z. Ends (λ t. behind_last z (kind t)) r) (sym e) (ends_none r)

    under : Reads {T = Placed} {A = List ClassAt} (done []) (Nothing []) never → Reads {T = Placed} {A = List ClassAt} (done []) (Nothing []) (λ cs t. behind_last cs (kind t))
    under h = record {
      sound = λ ts x r e. let one = h.sound ts x r e in record { text = one.text; split = one.split; spells = one.spells; ends = nothing_goes x r one.spells.0 };
      complete = λ x w r l k. h.complete x w r l (ends_none r);
      viable = h.viable;
      local = h.local;
      some = h.some;
    }

abbrev Chain : ℕ → List ClassAt → Placed → Lang Placed ClassAt
Chain d cs t = ClassRest d (kind t)

class_of_rest : (d : ℕ) (c : ClassAt) (t : Placed) (k : Kind) (v : List Placed) → kind t ≡ k → ClassRest d k c v → ClassText d c (t ∷ v)
class_of_rest d c t (KWord w.Class) v e h = (e, h)
class_of_rest d c t _ v e h = absurd h

chain_to : (d n : ℕ) (a x : List ClassAt) (v : List Placed) → ChainText (Chain d) grow n a x v → (cs : List ClassAt) × (x ≡ a ++ cs) × SchemaText cs d v
chain_to d zero a x [] h = ([], h ∙ sym (append-nil a), tt)
chain_to d zero a x (t ∷ v) h = absurd h
chain_to d (suc n) a x [] h = ([], h ∙ sym (append-nil a), tt)
chain_to d (suc n) a x (t ∷ v) h =
    let more = chain_to d n (grow a h.mid) x h.back h.second in (
      h.mid ∷ more.0,
      more.1 ∙ append_assoc a (h.mid ∷ []) more.0,
      record {
        front = t ∷ h.front;
        back = h.back;
        split = ap (λ (z : List Placed). t ∷ z) h.split;
        first = class_of_rest d h.mid t (kind t) h.front refl h.first;
        second = more.2;
      },
    )

chain_from : (d : ℕ) (cs a : List ClassAt) (v : List Placed) → SchemaText cs d v → ManyText (Chain d) grow a (a ++ cs) v
chain_from d [] a [] h = (zero, append-nil a)
chain_from d [] a (t ∷ v) h = absurd h
chain_from d (c ∷ cs) a v h = led h.front h.back h.split h.first (chain_from d cs (grow a c) h.back h.second)
  where
    led : (front back : List Placed) → v ≡ front ++ back → ClassText d c front → ManyText (Chain d) grow (grow a c) (grow a c ++ cs) back → ManyText (Chain d) grow a (a ++ c ∷ cs) v
    led [] back e f more = absurd f
    led (t ∷ front) back e f more = (
      suc more.0,
      subst (ChainText (Chain d) grow (suc more.0) a (a ++ c ∷ cs)) (sym e) (record {
        mid = c;
        front = front;
        back = back;
        split = refl;
        first = subst (λ k. ClassRest d k c front) (sym f.0) f.1;
        second = subst (λ z. ChainText (Chain d) grow more.0 (grow a c) z back) (append_assoc a (c ∷ []) cs) more.1;
      }),
    )

abbrev Whole : ℕ → Lang Placed (List ClassAt)
Whole d = Chained (Nothing []) (λ a. ManyText (Chain d) grow a)

whole_at : (d : ℕ) (a cs : List ClassAt) (front back : List Placed) → a ≡ [] → ends front → ManyText (Chain d) grow a cs back → SchemaText cs d (front ++ back)
whole_at d a cs [] back e f h =
    let all = chain_to d h.0 a cs back h.1 in
    subst (λ z. SchemaText z d back) (sym (all.1 ∙ ap (λ (z : List ClassAt). z ++ all.0) e)) all.2
whole_at d a cs (t ∷ front) back e f h = absurd f

whole_to : (d : ℕ) (cs : List ClassAt) (v : List Placed) → Whole d cs v → SchemaText cs d v
whole_to d cs v c = subst (SchemaText cs d) (sym c.split) (whole_at d c.mid cs c.front c.back c.first.0 c.first.1 c.second)

whole_from : (d : ℕ) (cs : List ClassAt) (v : List Placed) → SchemaText cs d v → Whole d cs v
whole_from d cs v h = record { mid = []; front = []; back = v; split = refl; first = (refl, tt); second = chain_from d cs [] v h }

abbrev pub on_schema : List ClassAt → Placed → Bool
on_schema cs t = goes_on cs (kind t)

classes_good : {On : Type 0} {i j : Reader TypeAt} {d e : ℕ} → Level On i j d e → Good On (classes_at i) (classes_at j) (λ cs. SchemaText cs d) (λ cs. SchemaText cs e) on_schema
classes_good {On} {i} {j} {d} {e} l =
    good_as (whole_to d) (whole_from d) (whole_to e) (whole_from e)
    (manied_good On (λ cs t. class_move i (kind t)) (λ cs t. class_move j (kind t)) (Chain d) (Chain e) grow (λ cs t. behind_last cs (kind t)) on_schema on_class last_is (λ cs t. class_link l cs (kind t))
    (done []) (done []) (Nothing []) (Nothing []) (record { low = none_reads; high = none_reads; wider = λ on ts. refl }))

pub schema_good : (d : ℕ) → Good (Unit {0}) (schema_at d) (schema_at (suc d)) (λ cs. SchemaText cs d) (λ cs. SchemaText cs (suc d)) on_schema
schema_good d = classes_good (type_good d)

-- ---- what is read on the whole, and where a text is refused

pub schema_sound : (d : ℕ) (ts : List Placed) (cs : List ClassAt) → whole (schema_at d) ts ≡ Ok cs → SchemaText cs d ts
schema_sound = whole_sound schema_at Schemas on_schema schema_good

pub schema_complete : (d : ℕ) (ts : List Placed) (cs : List ClassAt) → SchemaText cs d ts → whole (schema_at d) ts ≡ Ok cs
schema_complete = whole_complete schema_at Schemas on_schema schema_good

pub schema_fault : (d : ℕ) (ts : List Placed) (f : Fault Placed) → whole (schema_at d) ts ≡ Err f → IsFirstFault (Accepted Schemas d) (Unlimited Schemas) ts f
schema_fault = whole_fault schema_at Schemas on_schema schema_good
