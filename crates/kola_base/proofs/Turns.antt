-- One turn more of a loop that reads a source or writes to a sink.
use Rattle.std.proofs.Common.{◌≡◌, ◌≤◌, Vec, Ok, arith, length-take, ◌↔◌, IfSome, subst, ℕ, ◌+◌, ◌-◌, ◌<◌, List, [], ◌++◌, length, take, drop, None, Some, refl, sym, ap, ◌∙◌, append_assoc}
use Rattle.std.proofs.Math.Seq.{take-add}
use Rattle.std.proofs.lemmas.List.{take_rest}
use Rattle.std.specs.Io.KnownBytes.{prepend_known, append_known, IsAtEnd}
use Rattle.std.specs.declared.option.Option.{Option}
use Rattle.std.specs.declared.alloc.Global.{Global}
use Rattle.kola_base.specs.Streams.{Reads, Writes}
use Rattle.kola_base.specs.ReadToEnd.{Taking}

prepended : (bs cs : List ℕ) (o : Option (List ℕ)) → prepend_known bs (prepend_known cs o) ≡ prepend_known (bs ++ cs) o
prepended bs cs None = refl
prepended bs cs (Some left) = ap Some (sym (append_assoc bs cs left))

appended : (o : Option (List ℕ)) (bs cs : List ℕ) → append_known (append_known o bs) cs ≡ append_known o (bs ++ cs)
appended None bs cs = refl
appended (Some written) bs cs = ap Some (append_assoc written bs cs)

-- n bytes more were written of those behind the first w
pub wrote_more : (a b c : Option (List ℕ)) (bytes : List ℕ) (w n : ℕ) → b ≡ append_known a (take w bytes)
    → Writes b c (take (length bytes - w) (drop w bytes)) n → c ≡ append_known a (take (w + n) bytes)
wrote_more a b c bytes w n before wrote =
    wrote.added ∙ (λ i. append_known (before i) (take n (take_rest bytes w i)))
    ∙ appended a (take w bytes) (take n (drop w bytes)) ∙ ap (append_known a) (sym (take-add w n bytes))

-- n bytes more were read behind the first f, which stayed
pub read_more : (a b c : Option (List ℕ)) (old new : List ℕ) (f n : ℕ) → take f new ≡ take f old
    → a ≡ prepend_known (take f old) b → Reads b c (drop f new) n → a ≡ prepend_known (take (f + n) new) c
read_more a b c old new f n front before read =
    before ∙ (λ i. prepend_known (sym front i) (read.taken i))
    ∙ prepended (take f new) (take n (drop f new)) c ∙ ap (λ l. prepend_known l c) (sym (take-add f n new))

-- where no byte was read into room, none is left
pub at_end : (b c : Option (List ℕ)) (buf : List ℕ) (n : ℕ) → 0 < length buf → n ≡ 0 → Reads b c buf n → IsAtEnd c
at_end b None buf n room none read = tt
at_end b (Some rest) buf n room none read =
    let at : Option (List ℕ) → Type 0 = λ o. IfSome o (λ left. (n ≡ 0) ↔ (left ≡ [])) in
    let end : (n ≡ 0) ↔ (take n buf ++ rest ≡ []) = subst at read.taken (read.end room) in
    subst (λ k. take k buf ++ rest ≡ []) none (end.0 none)

-- a last read took no byte, so the first f bytes are all
pub all_taken : (limit : ℕ) (a b c : Option (List ℕ)) (old new : List ℕ) (f n : ℕ) (bytes : Vec ℕ Global) → f ≤ limit
    → take f new ≡ take f old → a ≡ prepend_known (take f old) b → Reads b c (drop f new) n → n ≡ 0
    → 0 < length (drop f new) → bytes.items ≡ take f new → Taking limit a c (Ok bytes)
all_taken limit a b c old new f n bytes within front before read none room whole =
    let same : f + n ≡ f = omega arith in
    let all : take (f + n) new ≡ bytes.items = ap (λ k. take k new) same ∙ sym whole in
    record {
      taken = bytes.items;
      front = read_more a b c old new f n front before read ∙ ap (λ l. prepend_known l c) all;
      answer = (refl, omega (arith, ap length whole, length-take f new), at_end b c (drop f new) n room none read);
    }
