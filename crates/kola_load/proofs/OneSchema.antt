-- What reading a schema answers: each text writes one schema or has one first fault.
use Rattle.std.proofs.Common.{◌≡◌, ◌⊎◌, inl, inr, ℕ, List, length, Option, Some, None, Result, Ok, Err, IfOk, IfErr, refl, sym, ap, subst, ◌∙◌}
use Rattle.kola_base.specs.declared.lex.Token.{Token}
use Rattle.kola_base.specs.declared.lex.LexFault.{LexFault}
use Rattle.kola_base.specs.declared.lex.LexFault.TheVariants as lex
use Rattle.kola_base.specs.declared.text_fault.TextWhy.{TextWhy}
use Rattle.kola_base.specs.declared.text_fault.TextWhy.TheVariants as texts
use Rattle.kola_base.specs.Tokens.{AreTokens, IsFaultOf}
use Rattle.kola_base.specs.Placed.{Placed, placed, place}
use Rattle.kola_base.specs.Spelled.{Spells, FaultOfText, of_lexer, is_stopped}
use Rattle.kola_base.proofs.SpelledLaws.{is_found, is_fault, one_spelled, spelled_or_fault, one_text_fault, read_once}
use Rattle.kola_parse.specs.declared.stop.Stop.{Stop}
use Rattle.kola_parse.specs.declared.stop.Stop.TheVariants as stop
use Rattle.kola_parse.specs.declared.why.Why.TheVariants as why
use Rattle.kola_parse.specs.Given.{Fails}
use Rattle.kola_parse.specs.Reader.{whole}
use Rattle.kola_values.specs.Databases.{Classes}
use Rattle.kola_load.specs.SchemaTree.{ClassAt}
use Rattle.kola_load.specs.SchemaReaders.{schema_at}
use Rattle.kola_load.specs.SchemaFaults.{Stands, IsFirst}
use Rattle.kola_load.specs.FirstMarks.{first_mark}
use Rattle.kola_load.specs.PlainSchemas.{plain, HaveKeys}
use Rattle.kola_load.specs.SchemaAccepted.{Schemas, Writes, NameAt, FaultOf, IsFault, IsSchema, IsAt, IsMarked, of_text, of_cause, name_why}
use Rattle.kola_load.specs.declared.schema_fault.Mark.{Mark}
use Rattle.kola_load.specs.declared.schema_fault.NameWhy.{NameWhy}
use Rattle.kola_load.specs.declared.schema_fault.NameWhy.TheVariants as name
use Rattle.kola_load.specs.declared.schema_fault.SchemaWhy.{SchemaWhy}
use Rattle.kola_load.specs.declared.schema_fault.SchemaWhy.TheVariants.{Lex, Unexpected, TooDeep, NameNotAllowed, TwiceDefined, UnknownClass, UnknownKeyAttribute}
use Rattle.kola_load.specs.declared.schema_fault.SchemaFault.{SchemaFault}
use Rattle.kola_load.specs.declared.schema_fault.SchemaFault.TheVariants.{At, Memory}
use Rattle.kola_load.proofs.FirstMarkLaws.{one_first, found_first, found_none}
use Rattle.kola_load.proofs.PlainLaws.{spelled_keys}
use Rattle.kola_load.proofs.SchemaWhole.{on_schema, schema_good, schema_sound}

module _ (d : ℕ) (text : List ℕ) where
  -- ---- the two kinds of faults

  -- a text is at fault in its tokens or its syntax, or in the names of what it spells
  data Part (at : ℕ) (w : SchemaWhy) : Type 0 where
    in_text : (y : TextWhy) → w ≡ of_cause y → FaultOfText Schemas d text at y → Part at w
    in_names : (y : NameWhy) → w ≡ name_why y → NameAt d text at y → Part at w

  part : (at : ℕ) (w : SchemaWhy) → FaultOf d text at w → Part at w
  part at (Lex y) h = in_text (texts.Lex y) refl h
  part at Unexpected h = in_text texts.Unexpected refl h
  part at TooDeep h = in_text texts.TooDeep refl h
  part at NameNotAllowed h = in_names name.NotAllowed refl h
  part at TwiceDefined h = in_names name.TwiceDefined refl h
  part at UnknownClass h = in_names name.UnknownClass refl h
  part at UnknownKeyAttribute h = in_names name.UnknownKeyAttribute refl h

  text_part : (at : ℕ) (w : TextWhy) → FaultOfText Schemas d text at w → FaultOf d text at (of_cause w)
  text_part at (texts.Lex y) h = h
  text_part at texts.Unexpected h = h
  text_part at texts.TooDeep h = h

  name_part : (at : ℕ) (w : NameWhy) → NameAt d text at w → FaultOf d text at (name_why w)
  name_part at name.NotAllowed h = h
  name_part at name.TwiceDefined h = h
  name_part at name.UnknownClass h = h
  name_part at name.UnknownKeyAttribute h = h

  -- ---- one schema or one fault

  one_tree : (a b : List ClassAt) → Spells (Schemas d) text a → Spells (Schemas d) text b → a ≡ b
  one_tree = one_spelled schema_at Schemas on_schema schema_good d text

  pub one_schema : (S T : Classes) → Writes d text S → Writes d text T → S ≡ T
  one_schema S T h k = h.is ∙ ap plain (one_tree h.tree k.tree h.spells k.spells) ∙ sym k.is

  no_part : (S : Classes) (at : ℕ) (w : SchemaWhy) → Writes d text S → Part at w → ⊥
  no_part S at w h (in_text y e k) = spelled_or_fault schema_at Schemas on_schema schema_good d text h.tree at y h.spells k
  no_part S at w h (in_names y e k) = h.fine (record { at = at; why = y }) (subst (λ cs. Stands cs (record { at = at; why = y })) (one_tree k.tree h.tree k.spells h.spells) k.first.stands)

  pub schema_or_fault : (S : Classes) (at : ℕ) (w : SchemaWhy) → Writes d text S → FaultOf d text at w → ⊥
  schema_or_fault S at w h k = no_part S at w h (part at w k)

  one_name_fault : (at to : ℕ) (v w : NameWhy) → NameAt d text at v → NameAt d text to w → (at ≡ to) × (v ≡ w)
  one_name_fault at to v w h k =
      let first = subst (λ cs. IsFirst cs (record { at = at; why = v })) (one_tree h.tree k.tree h.spells k.spells) h.first in
      let same = one_first k.tree (record { at = at; why = v }) (record { at = to; why = w }) first k.first in
      (ap (λ (x : Mark). x.at) same, ap (λ (x : Mark). x.why) same)

  one_part : (at to : ℕ) (v w : SchemaWhy) → Part at v → Part to w → (at ≡ to) × (v ≡ w)
  one_part at to v w (in_text x e h) (in_text y i k) = let same = one_text_fault schema_at Schemas on_schema schema_good d text at to x y h k in (same.0, e ∙ ap of_cause same.1 ∙ sym i)
  one_part at to v w (in_text x e h) (in_names y i k) = absurd (spelled_or_fault schema_at Schemas on_schema schema_good d text k.tree at x k.spells h)
  one_part at to v w (in_names x e h) (in_text y i k) = absurd (spelled_or_fault schema_at Schemas on_schema schema_good d text h.tree to y h.spells k)
  one_part at to v w (in_names x e h) (in_names y i k) = let same = one_name_fault at to x y h k in (same.0, e ∙ ap name_why same.1 ∙ sym i)

  pub one_schema_fault : (at to : ℕ) (v w : SchemaWhy) → FaultOf d text at v → FaultOf d text to w → (at ≡ to) × (v ≡ w)
  one_schema_fault at to v w h k = one_part at to v w (part at v h) (part to w k)

  -- the names of what a text spells have no fault or a first one
  named_once : (cs : List ClassAt) → Spells (Schemas d) text cs → (o : Option Mark) → first_mark cs ≡ o → ((S : Classes) × Writes d text S) ⊎ ((at : ℕ) × (w : SchemaWhy) × FaultOf d text at w)
  named_once cs h None e = inl (plain cs, record { tree = cs; spells = h; fine = found_none cs e; is = refl })
  named_once cs h (Some m) e = inr (m.at, name_why m.why, name_part m.at m.why (record { tree = cs; spells = h; first = found_first cs m e }))

  pub schema_once : ((S : Classes) × Writes d text S) ⊎ ((at : ℕ) × (w : SchemaWhy) × FaultOf d text at w)
  schema_once = by (read_once schema_at Schemas on_schema schema_good d text)
    where
      by : ((cs : List ClassAt) × Spells (Schemas d) text cs) ⊎ ((at : ℕ) × (w : TextWhy) × FaultOfText Schemas d text at w) → ((S : Classes) × Writes d text S) ⊎ ((at : ℕ) × (w : SchemaWhy) × FaultOf d text at w)
      by (inl (cs, h)) = named_once cs h (first_mark cs) refl
      by (inr (at, w, h)) = inr (at, of_cause w, text_part at w h)

  -- ---- the answer where the text has no tokens

  pub lexed_fault : (f : LexFault) → IsFaultOf text f → IsFault d text (of_text (of_lexer f))
  lexed_fault lex.Memory h = tt
  lexed_fault (lex.At at w) h = h

  module _ (toks : List Token) (l : List Placed) (are : AreTokens toks text) (i : l ≡ placed text toks) where
    -- ---- the answer where the syntax stopped

    pub stop_fault : (s : Stop (List Placed)) → Fails s (whole (schema_at d) l) → IsFault d text (of_text (is_stopped (length text) s))
    stop_fault stop.Memory e = tt
    stop_fault (stop.Before why.Unexpected r) e = is_fault schema_at Schemas on_schema schema_good d text toks l (place (length text) r) why.Unexpected r are i e refl
    stop_fault (stop.Before why.TooDeep r) e = is_fault schema_at Schemas on_schema schema_good d text toks l (place (length text) r) why.TooDeep r are i e refl

    -- ---- the answer on classes that were read

    module _ (cs : List ClassAt) (e : whole (schema_at d) l ≡ Ok cs) where
      pub read_keys : HaveKeys cs
      read_keys = spelled_keys d cs l (schema_sound d l cs e)

      spelled : Spells (Schemas d) text cs
      spelled = is_found schema_at Schemas on_schema schema_good d text toks l cs are i e

      pub answer_found : (r : Result Classes SchemaFault) → IfOk r (λ S. (S ≡ plain cs) × ((m : Mark) → Stands cs m → ⊥)) → IfOk r (Writes d text)
      answer_found (Ok S) h = record { tree = cs; spells = spelled; fine = h.1; is = h.0 }
      answer_found (Err f) h = tt

      pub answer_fault : (r : Result Classes SchemaFault) → IfErr r (IsMarked cs) → IfErr r (IsFault d text)
      answer_fault (Ok S) k = tt
      answer_fault (Err Memory) k = tt
      answer_fault (Err (At at w)) k = subst (FaultOf d text at) (sym k.1) (name_part at k.0 (record { tree = cs; spells = spelled; first = k.2 }))

  -- ---- what is answered where a text writes a schema, and where it has a fault

  pub answer_only : (r : Result Classes SchemaFault) → IfOk r (Writes d text) → IfErr r (IsFault d text) → (S : Classes) → Writes d text S → IsSchema S r
  answer_only (Ok T) h k S w = one_schema T S h w
  answer_only (Err Memory) h k S w = tt
  answer_only (Err (At at y)) h k S w = absurd (schema_or_fault S at y w k)

  pub answer_at : (r : Result Classes SchemaFault) → IfOk r (Writes d text) → IfErr r (IsFault d text) → (at : ℕ) (w : SchemaWhy) → FaultOf d text at w → IsAt at w r
  answer_at (Ok S) h k at w f = schema_or_fault S at w h f
  answer_at (Err Memory) h k at w f = tt
  answer_at (Err (At b v)) h k at w f = one_schema_fault b at v w k f
