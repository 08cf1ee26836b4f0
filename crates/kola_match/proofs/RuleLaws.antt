-- The conditions on a rule, as the program goes through them.
use Rattle.std.proofs.Common.{◌≡◌, ◌<◌, ◌↔◌, ℕ, zero, suc, ◌+◌, Bool, true, false, cond, ◌&&◌, ◌||◌, List, [], ◌∷◌, length, drop, map, get_or, Option, Some, None, is_some, option_map, refl, sym, ap, ◌∙◌, subst, arith}
use Rattle.std.specs.Borrow.{Bor}
use Rattle.std.specs.List.{find, list_all}
use Rattle.std.specs.Option.{option_copied}
use Rattle.std.specs.Str.{bytes_eq}
use Rattle.std.proofs.lemmas.List.{drop_more}
use Rattle.std.proofs.lemmas.List.Folds.{list_all-map}
use Rattle.kola_core.specs.NameLists.{is_listed}
use Rattle.kola_core.specs.declared.name.Name.{Name}
use Rattle.kola_core.proofs.Lists.{left_less}
use Rattle.kola_values.specs.Types.{TypeTree, TBool, of_type_fields}
use Rattle.kola_values.specs.Databases.{Class, Classes, look_up}
use Rattle.kola_values.specs.Sets.{Each}
use Rattle.kola_values.specs.Views.{type_tree, type_entry}
use Rattle.kola_values.specs.declared.ty.Ty.{Ty}
use Rattle.kola_schema.specs.Schemas.{class_names, class_named, names_of}
use Rattle.kola_schema.proofs.Schemas.{choose}
use Rattle.kola_term.specs.Terms.{FunTree, PredTree, TermTree, TermF, TermP}
use Rattle.kola_term.specs.Typing.{Context, MetaTree}
use Rattle.kola_term.specs.ContextView.{context_of, meta_tree, meta_entry}
use Rattle.kola_term.specs.Faults.{Fine}
use Rattle.kola_term.specs.TypingAnswers.{IsFine}
use Rattle.kola_term.specs.declared.meta.MetaTy.{MetaTy}
use Rattle.kola_term.proofs.Inversions.{some_same}
use Rattle.kola_match.specs.RuleOk.{knows_type, knows_fields, knows_meta, SidesFit}
use Rattle.kola_match.specs.RuleChecks.{IsWithin, AlikeFine}

-- ---- something of each entry of a list

module _ {A : Type 0} (P : A → Type 0) where
  -- what holds of each entry from the i-th on holds of all
  abbrev pub AllFrom : List A → ℕ → Type 0
  AllFrom us i = Each P (drop i us) → Each P us

  pub one_more : (us : List A) (i : ℕ) (x : A) → i < length us → get_or us i x ≡ x → P x → AllFrom us i → AllFrom us (i + 1)
  one_more us i x p e h k = λ r. k (subst (λ l. Each P l) (sym (drop_more us i x p ∙ ap (λ y. y ∷ drop (i + 1) us) e)) (h, r))

  pub at_place : (us : List A) (i : ℕ) (x : A) → i < length us → get_or us i x ≡ x → Each P us → P x
  at_place [] i x p e h = absurd (omega arith)
  at_place (u ∷ us) zero x p e h = subst P e h.0
  at_place (u ∷ us) (suc i) x p e h = at_place us i x (omega arith) e h.1

-- ---- variables

pub names_seen : (ms : List (List ℕ × MetaTy)) → map (λ (e : List ℕ × MetaTy). e.0) ms ≡ names_of (context_of ms)
names_seen [] = refl
names_seen (m ∷ ms) = ap (λ l. m.0 ∷ l) (names_seen ms)

-- the first entry of a name has what the context says of it
pub entry_seen : (ms : List (List ℕ × MetaTy)) (n : List ℕ) → option_map (λ (e : List ℕ × MetaTy). meta_tree e.1) (find (λ (e : List ℕ × MetaTy). bytes_eq n e.0) ms) ≡ look_up n (context_of ms)
entry_seen [] n = refl
entry_seen (m ∷ ms) n = choose (λ (e : List ℕ × MetaTy). meta_tree e.1) (bytes_eq n m.0) m (find (λ (e : List ℕ × MetaTy). bytes_eq n e.0) ms) (look_up n (context_of ms)) (entry_seen ms n)

-- what was found of a name, as the context says it
pub declared_as : (ms ns : List (List ℕ × MetaTy)) (n : List ℕ) (o q : Option (Bor (List ℕ × MetaTy))) → option_copied o ≡ find (λ (e : List ℕ × MetaTy). bytes_eq n e.0) ms → ms ≡ ns → o ≡ q
    → option_map (λ (b : Bor (List ℕ × MetaTy)). meta_tree b.now.1) q ≡ look_up n (context_of ns)
declared_as ms ns n o q e f g =
    ap (option_map (λ (b : Bor (List ℕ × MetaTy)). meta_tree b.now.1)) (sym g)
    ∙ (copied o ∙ (ap (option_map (λ (e : List ℕ × MetaTy). meta_tree e.1)) e ∙ (entry_seen ms n ∙ ap (λ l. look_up n (context_of l)) f)))
  where
    copied : (o : Option (Bor (List ℕ × MetaTy))) → option_map (λ (b : Bor (List ℕ × MetaTy)). meta_tree b.now.1) o ≡ option_map (λ (e : List ℕ × MetaTy). meta_tree e.1) (option_copied o)
    copied (Some b) = refl
    copied None = refl

-- ---- classes in types

pub named_is_listed : (S : Classes) (n : List ℕ) → is_some (class_named S n) ≡ is_listed n (class_names S)
named_is_listed [] n = refl
named_is_listed (k ∷ S) n = at (bytes_eq n k.name) (class_named S n) (is_listed n (class_names S)) (named_is_listed S n)
  where
    at : (b : Bool) (o : Option Class) (c : Bool) → is_some o ≡ c → is_some (cond b (Some k) o) ≡ (b || c)
    at true o c e = refl
    at false o c e = e

pub some_seen : {A B : Type 0} (f : A → B) (o : Option A) → is_some o ≡ is_some (option_map f o)
some_seen f (Some a) = refl
some_seen f None = refl

pub field_left : (cs : List (List ℕ)) (xs : List (Name × Ty)) (us : List (List ℕ × TypeTree)) (i : ℕ) (x : Name × Ty) → map type_entry xs ≡ us → i < length xs → x ≡ get_or xs i x
    → knows_fields cs (of_type_fields (drop i us)) ≡ (knows_type cs (type_tree x.1) && knows_fields cs (of_type_fields (drop (i + 1) us)))
field_left cs xs us i x e p h = ap (λ l. knows_fields cs (of_type_fields l)) (left_less type_entry xs us i x e p h)

pub variables_seen : (cs : List (List ℕ)) (ms ns : List (List ℕ × MetaTy)) → ms ≡ ns → list_all (λ (e : List ℕ × MetaTy). knows_meta cs (meta_tree e.1)) ms ≡ list_all (λ (v : List ℕ × MetaTree). knows_meta cs v.1) (context_of ns)
variables_seen cs ms ns e = ap (list_all (λ (e : List ℕ × MetaTy). knows_meta cs (meta_tree e.1))) e ∙ sym (list_all-map (λ (v : List ℕ × MetaTree). knows_meta cs v.1) meta_entry ns)

-- ---- sides

-- two outputs of one function are one
one_output : (S : Classes) (x : Context) (f : FunTree) (T u w : TypeTree) → Fine S x (TermF f) T u → Fine S x (TermF f) T w → u ≡ w
one_output S x f T u w a b = some_same u w (sym a.0 ∙ b.0)

pub same_outputs : (S : Classes) (x : Context) (f g : FunTree) (T u w : TypeTree) → Fine S x (TermF f) T u → Fine S x (TermF g) T w → ((u ≡ w) ↔ AlikeFine S x (TermF f) (TermF g) T)
same_outputs S x f g T u w a b = (
  λ e. (u, a, subst (Fine S x (TermF g) T) (sym e) b),
  λ h. one_output S x f T u h.0 a h.1 ∙ one_output S x g T h.0 w h.2 b,
)

pub functions_fit : (S : Classes) (x : Context) (f g : FunTree) (T : TypeTree) → IsWithin (TermF f) → IsWithin (TermF g) → (AlikeFine S x (TermF f) (TermF g) T ↔ SidesFit S x T (TermF f) (TermF g))
functions_fit S x f g T a b = (
  λ h. (h.0, record { few = a.0; shallow = a.1; fine = h.1 }, record { few = b.0; shallow = b.1; fine = h.2 }),
  λ h. (h.0, h.1.fine, h.2.fine),
)

pub predicates_fit : (S : Classes) (x : Context) (p q : PredTree) (T : TypeTree) → IsWithin (TermP p) → IsWithin (TermP q) → ((IsFine S x (TermP p) T × IsFine S x (TermP q) T) ↔ SidesFit S x T (TermP p) (TermP q))
predicates_fit S x p q T a b = (
  λ h. (record { few = a.0; shallow = a.1; fine = h.0.1 }, record { few = b.0; shallow = b.1; fine = h.1.1 }),
  λ h. ((TBool, h.0.fine), (TBool, h.1.fine)),
)

-- ---- sides that a program holds

module _ (S : Classes) (x : Context) (T : TypeTree) (l r : TermTree) where
  moved : (m n : TermTree) → l ≡ m → r ≡ n → (SidesFit S x T m n ↔ SidesFit S x T l r)
  moved m n e f = (
    λ h. subst (λ z. SidesFit S x T z r) (sym e) (subst (λ z. SidesFit S x T m z) (sym f) h),
    λ h. subst (λ z. SidesFit S x T m z) f (subst (λ z. SidesFit S x T z r) e h),
  )

  pub functions_are : (f g : FunTree) → l ≡ TermF f → r ≡ TermF g → IsWithin l → IsWithin r → (AlikeFine S x (TermF f) (TermF g) T ↔ SidesFit S x T l r)
  functions_are f g e h a b =
      let k = functions_fit S x f g T (subst IsWithin e a) (subst IsWithin h b) in
      let m = moved (TermF f) (TermF g) e h in
      (λ z. m.0 (k.0 z), λ z. k.1 (m.1 z))

  pub predicates_are : (p q : PredTree) → l ≡ TermP p → r ≡ TermP q → IsWithin l → IsWithin r → ((IsFine S x (TermP p) T × IsFine S x (TermP q) T) ↔ SidesFit S x T l r)
  predicates_are p q e h a b =
      let k = predicates_fit S x p q T (subst IsWithin e a) (subst IsWithin h b) in
      let m = moved (TermP p) (TermP q) e h in
      (λ z. m.0 (k.0 z), λ z. k.1 (m.1 z))
