-- What it is to take a term for a variable, or a type for a type variable.
use Rattle.std.proofs.Common.{◌≡◌, ◌↔◌, ℕ, Bool, true, false, cond, ◌&&◌, refl, sym, ap, ◌∙◌, subst, List, [], ◌∷◌, ◌++◌, Option, Some, None, option_map, ◌⊎◌, inl, inr, IfOk, Result, Ok, Err}
use Rattle.std.specs.Str.{bytes_eq}
use Rattle.kola_values.specs.Types.{TypeTree, same_type}
use Rattle.kola_values.specs.Databases.{look_up}
use Rattle.kola_term.specs.Terms.{FunTree, FId, PredTree, PEq, ConstTree, CBool, TermTree, TermF, TermP, TermC}
use Rattle.kola_term.proofs.Inversions.{some_same, same_name-equal, same_ty-equal}
use Rattle.kola_term.proofs.Introductions.{same_name_itself, same_ty_itself}
use Rattle.kola_match.specs.Substitutions.{Substitution, inst}
use Rattle.kola_match.specs.Binds.{Found, Binds, GivesFound, Extends, or_else, substitution_of, funs_in, preds_in, consts_in, binds}
use Rattle.kola_match.specs.Finding.{Finds}
use Rattle.kola_match.specs.Alike.{first_like, variable_like, same_kind}

-- ---- a new name at the end

look_new : {A : Type 0} (n : List ℕ) (a : A) (b : Found A) → look_up n b ≡ None → look_up n (b ++ (n, a) ∷ []) ≡ Some a
look_new n a [] e = ap (λ c. cond c (Some a) None) (same_name_itself n)
look_new n a (f ∷ b) e = at (λ q. look_new n a b q) (bytes_eq n f.0) e
  where
    at : (look_up n b ≡ None → look_up n (b ++ (n, a) ∷ []) ≡ Some a) → (c : Bool) → cond c (Some f.1) (look_up n b) ≡ None → cond c (Some f.1) (look_up n (b ++ (n, a) ∷ [])) ≡ Some a
    at r true e = absurd (cc)
    at r false e = r e

look_old : {A : Type 0} (n m : List ℕ) (a x : A) (b : Found A) → look_up m b ≡ Some x → look_up m (b ++ (n, a) ∷ []) ≡ Some x
look_old n m a x [] e = absurd (cc)
look_old n m a x (f ∷ b) e = at (λ q. look_old n m a x b q) (bytes_eq m f.0) e
  where
    at : (look_up m b ≡ Some x → look_up m (b ++ (n, a) ∷ []) ≡ Some x) → (c : Bool) → cond c (Some f.1) (look_up m b) ≡ Some x → cond c (Some f.1) (look_up m (b ++ (n, a) ∷ [])) ≡ Some x
    at r true e = e
    at r false e = r e

look_back : {A : Type 0} (n m : List ℕ) (a x : A) (b : Found A) → look_up m (b ++ (n, a) ∷ []) ≡ Some x → (look_up m b ≡ Some x) ⊎ ((m ≡ n) × (a ≡ x))
look_back n m a x [] e = at (bytes_eq m n) refl e
  where
    at : (c : Bool) → bytes_eq m n ≡ c → cond c (Some a) None ≡ Some x → (None ≡ Some x) ⊎ ((m ≡ n) × (a ≡ x))
    at true q e = inr (same_name-equal m n q, some_same a x e)
    at false q e = inl e
look_back n m a x (f ∷ b) e = at (λ q. look_back n m a x b q) (bytes_eq m f.0) e
  where
    at : (look_up m (b ++ (n, a) ∷ []) ≡ Some x → (look_up m b ≡ Some x) ⊎ ((m ≡ n) × (a ≡ x))) → (c : Bool) → cond c (Some f.1) (look_up m (b ++ (n, a) ∷ [])) ≡ Some x → (cond c (Some f.1) (look_up m b) ≡ Some x) ⊎ ((m ≡ n) × (a ≡ x))
    at r true e = inl e
    at r false e = r e

put_new : {A : Type 0} (s : List ℕ → A) (n : List ℕ) (a : A) (b : Found A) → look_up n b ≡ None → (GivesFound s (b ++ (n, a) ∷ []) ↔ (GivesFound s b × (s n ≡ a)))
put_new {A = A} s n a b fresh = (
  λ h. (λ m x e. h m x (look_old n m a x b e), h n a (look_new n a b fresh)),
  λ h m x e. elim (look_back n m a x b e) [ inl p ↦ h.0 m x p | inr p ↦ ap s p.0 ∙ (h.1 ∙ p.1) ],
)

given : {A : Type 0} (d : A) (o : Option A) (a : A) → o ≡ Some a → or_else d o ≡ a
given d o a e = ap (or_else d) e

-- what was found has a substitution
pub found_extends : (b : Binds) → Extends (substitution_of b) b
found_extends b = (λ n a e. given _ (look_up n b.types) a e, λ n a e. given _ (look_up n b.funs) a e, λ n a e. given _ (look_up n b.preds) a e, λ n a e. given _ (look_up n b.consts) a e)

-- ---- the terms by their kinds

funs_put : (n : List ℕ) (f : FunTree) (es : Found TermTree) → funs_in (es ++ (n, TermF f) ∷ []) ≡ funs_in es ++ (n, f) ∷ []
funs_put n f [] = refl
funs_put n f ((m, TermF g) ∷ es) = ap (λ l. (m, g) ∷ l) (funs_put n f es)
funs_put n f ((m, TermP g) ∷ es) = funs_put n f es
funs_put n f ((m, TermC g) ∷ es) = funs_put n f es

funs_keep : (n : List ℕ) (t : TermTree) (es : Found TermTree) → same_kind (TermF FId) t ≡ false → funs_in (es ++ (n, t) ∷ []) ≡ funs_in es
funs_keep n (TermF f) [] e = absurd (cc)
funs_keep n (TermP f) [] e = refl
funs_keep n (TermC f) [] e = refl
funs_keep n t ((m, TermF g) ∷ es) e = ap (λ l. (m, g) ∷ l) (funs_keep n t es e)
funs_keep n t ((m, TermP g) ∷ es) e = funs_keep n t es e
funs_keep n t ((m, TermC g) ∷ es) e = funs_keep n t es e

preds_put : (n : List ℕ) (f : PredTree) (es : Found TermTree) → preds_in (es ++ (n, TermP f) ∷ []) ≡ preds_in es ++ (n, f) ∷ []
preds_put n f [] = refl
preds_put n f ((m, TermP g) ∷ es) = ap (λ l. (m, g) ∷ l) (preds_put n f es)
preds_put n f ((m, TermF g) ∷ es) = preds_put n f es
preds_put n f ((m, TermC g) ∷ es) = preds_put n f es

preds_keep : (n : List ℕ) (t : TermTree) (es : Found TermTree) → same_kind (TermP PEq) t ≡ false → preds_in (es ++ (n, t) ∷ []) ≡ preds_in es
preds_keep n (TermP f) [] e = absurd (cc)
preds_keep n (TermF f) [] e = refl
preds_keep n (TermC f) [] e = refl
preds_keep n t ((m, TermP g) ∷ es) e = ap (λ l. (m, g) ∷ l) (preds_keep n t es e)
preds_keep n t ((m, TermF g) ∷ es) e = preds_keep n t es e
preds_keep n t ((m, TermC g) ∷ es) e = preds_keep n t es e

consts_put : (n : List ℕ) (f : ConstTree) (es : Found TermTree) → consts_in (es ++ (n, TermC f) ∷ []) ≡ consts_in es ++ (n, f) ∷ []
consts_put n f [] = refl
consts_put n f ((m, TermC g) ∷ es) = ap (λ l. (m, g) ∷ l) (consts_put n f es)
consts_put n f ((m, TermF g) ∷ es) = consts_put n f es
consts_put n f ((m, TermP g) ∷ es) = consts_put n f es

consts_keep : (n : List ℕ) (t : TermTree) (es : Found TermTree) → same_kind (TermC (CBool true)) t ≡ false → consts_in (es ++ (n, t) ∷ []) ≡ consts_in es
consts_keep n (TermC f) [] e = absurd (cc)
consts_keep n (TermF f) [] e = refl
consts_keep n (TermP f) [] e = refl
consts_keep n t ((m, TermC g) ∷ es) e = ap (λ l. (m, g) ∷ l) (consts_keep n t es e)
consts_keep n t ((m, TermF g) ∷ es) e = consts_keep n t es e
consts_keep n t ((m, TermP g) ∷ es) e = consts_keep n t es e

same_like : {A : Type 0} (C : A → TermTree) (a : A) (c : Bool) (o : Option TermTree) (q : Option A) → o ≡ option_map C q → cond (c && true) (Some (C a)) o ≡ option_map C (cond c (Some a) q)
same_like C a true o q e = refl
same_like C a false o q e = e

other_like : (c : Bool) (a : TermTree) (o q : Option TermTree) → o ≡ q → cond (c && false) (Some a) o ≡ q
other_like true a o q e = e
other_like false a o q e = e

pub like_fun : (f : FunTree) (n : List ℕ) (es : Found TermTree) → first_like (TermF f) n es ≡ option_map TermF (look_up n (funs_in es))
like_fun f n [] = refl
like_fun f n ((m, TermF g) ∷ es) = same_like TermF g (bytes_eq n m) (first_like (TermF f) n es) (look_up n (funs_in es)) (like_fun f n es)
like_fun f n ((m, TermP g) ∷ es) = other_like (bytes_eq n m) (TermP g) (first_like (TermF f) n es) (option_map TermF (look_up n (funs_in es))) (like_fun f n es)
like_fun f n ((m, TermC g) ∷ es) = other_like (bytes_eq n m) (TermC g) (first_like (TermF f) n es) (option_map TermF (look_up n (funs_in es))) (like_fun f n es)

pub like_pred : (f : PredTree) (n : List ℕ) (es : Found TermTree) → first_like (TermP f) n es ≡ option_map TermP (look_up n (preds_in es))
like_pred f n [] = refl
like_pred f n ((m, TermF g) ∷ es) = other_like (bytes_eq n m) (TermF g) (first_like (TermP f) n es) (option_map TermP (look_up n (preds_in es))) (like_pred f n es)
like_pred f n ((m, TermP g) ∷ es) = same_like TermP g (bytes_eq n m) (first_like (TermP f) n es) (look_up n (preds_in es)) (like_pred f n es)
like_pred f n ((m, TermC g) ∷ es) = other_like (bytes_eq n m) (TermC g) (first_like (TermP f) n es) (option_map TermP (look_up n (preds_in es))) (like_pred f n es)

pub like_const : (f : ConstTree) (n : List ℕ) (es : Found TermTree) → first_like (TermC f) n es ≡ option_map TermC (look_up n (consts_in es))
like_const f n [] = refl
like_const f n ((m, TermF g) ∷ es) = other_like (bytes_eq n m) (TermF g) (first_like (TermC f) n es) (option_map TermC (look_up n (consts_in es))) (like_const f n es)
like_const f n ((m, TermP g) ∷ es) = other_like (bytes_eq n m) (TermP g) (first_like (TermC f) n es) (option_map TermC (look_up n (consts_in es))) (like_const f n es)
like_const f n ((m, TermC g) ∷ es) = same_like TermC g (bytes_eq n m) (first_like (TermC f) n es) (look_up n (consts_in es)) (like_const f n es)

-- ---- one kind

module _ {A : Type 0} (C : A → TermTree) (un : TermTree → A) (un_is : (a : A) → un (C a) ≡ a) where
  known_at : (n : List ℕ) (f : A) (u : TermTree) (o : Option A) → Some u ≡ option_map C o → (g : A) × (o ≡ Some g) × (u ≡ C g)
  known_at n f u (Some g) e = (g, refl, some_same u (C g) e)
  known_at n f u None e = absurd (cc)

  one : (a b : A) → C a ≡ C b → a ≡ b
  one a b e = sym (un_is a) ∙ (ap un e ∙ un_is b)

  known_kind : (get : Substitution → List ℕ → A) (found : Found A) (B : Binds) → ((s : Substitution) → Extends s B → GivesFound (get s) found) → (n : List ℕ) (f : A) (u : TermTree) (b : Bool)
      → Some u ≡ option_map C (look_up n found) → ((b ≡ true) ↔ (u ≡ C f)) → Finds b B B (λ s. C (get s n) ≡ C f)
  known_kind get found B ext n f u true e h =
      let k = known_at n f u (look_up n found) e in
      λ s. (λ x. (x, ap C (ext s x n k.0 k.1) ∙ (sym k.2 ∙ h.0 refl)), λ x. x.0)
  known_kind get found B ext n f u false e h =
      let k = known_at n f u (look_up n found) e in
      λ s x y. let p : false ≡ true = h.1 (k.2 ∙ ap C (sym (ext s x n k.0 k.1) ∙ one (get s n) f y)) in absurd (cc)

  none_at : (o : Option A) → None ≡ option_map C o → o ≡ None
  none_at (Some g) e = absurd (cc)
  none_at None e = refl

un_fun : TermTree → FunTree
un_fun (TermF f) = f
un_fun _ = FId

un_pred : TermTree → PredTree
un_pred (TermP p) = p
un_pred _ = PEq

un_const : TermTree → ConstTree
un_const (TermC c) = c
un_const _ = CBool true

-- ---- a term for a variable

-- where one was found before
pub taken_known : (ts : Found TypeTree) (es : Found TermTree) (n : List ℕ) (t u : TermTree) (b : Bool) → Some u ≡ first_like t n es → ((b ≡ true) ↔ (u ≡ t))
    → Finds b (binds ts es) (binds ts es) (λ s. inst s (variable_like t n) ≡ t)
unfolding un_fun un_pred un_const
taken_known ts es n (TermF f) u b e h = known_kind TermF un_fun (λ a. refl) (λ s. s.funs) (funs_in es) (binds ts es) (λ s x. x.1) n f u b (e ∙ like_fun f n es) h
taken_known ts es n (TermP f) u b e h = known_kind TermP un_pred (λ a. refl) (λ s. s.preds) (preds_in es) (binds ts es) (λ s x. x.2) n f u b (e ∙ like_pred f n es) h
taken_known ts es n (TermC f) u b e h = known_kind TermC un_const (λ a. refl) (λ s. s.consts) (consts_in es) (binds ts es) (λ s x. x.3) n f u b (e ∙ like_const f n es) h

-- where none was
pub taken_new : (ts : Found TypeTree) (es : Found TermTree) (n : List ℕ) (t : TermTree) → None ≡ first_like t n es → Finds true (binds ts es) (binds ts (es ++ (n, t) ∷ [])) (λ s. inst s (variable_like t n) ≡ t)
unfolding un_fun un_pred un_const
taken_new ts es n (TermF f) e = λ s.
    let p = put_new s.funs n f (funs_in es) (none_at TermF un_fun (λ a. refl) (look_up n (funs_in es)) (e ∙ like_fun f n es)) in
    subst (λ l. GivesFound s.types ts × GivesFound s.funs l × GivesFound s.preds (preds_in (es ++ (n, TermF f) ∷ [])) × GivesFound s.consts (consts_in (es ++ (n, TermF f) ∷ [])) ↔ Extends s (binds ts es) × (TermF (s.funs n) ≡ TermF f)) (sym (funs_put n f es))
    (subst (λ l. GivesFound s.types ts × GivesFound s.funs (funs_in es ++ (n, f) ∷ []) × GivesFound s.preds l × GivesFound s.consts (consts_in (es ++ (n, TermF f) ∷ [])) ↔ Extends s (binds ts es) × (TermF (s.funs n) ≡ TermF f)) (sym (preds_keep n (TermF f) es refl))
    (subst (λ l. GivesFound s.types ts × GivesFound s.funs (funs_in es ++ (n, f) ∷ []) × GivesFound s.preds (preds_in es) × GivesFound s.consts l ↔ Extends s (binds ts es) × (TermF (s.funs n) ≡ TermF f)) (sym (consts_keep n (TermF f) es refl))
    (λ x. let q = p.0 x.1 in ((x.0, q.0, x.2, x.3), ap TermF q.1), λ x. (x.0.0, p.1 (x.0.1, one TermF un_fun (λ a. refl) (s.funs n) f x.1), x.0.2, x.0.3))))
taken_new ts es n (TermP f) e = λ s.
    let p = put_new s.preds n f (preds_in es) (none_at TermP un_pred (λ a. refl) (look_up n (preds_in es)) (e ∙ like_pred f n es)) in
    subst (λ l. GivesFound s.types ts × GivesFound s.funs l × GivesFound s.preds (preds_in (es ++ (n, TermP f) ∷ [])) × GivesFound s.consts (consts_in (es ++ (n, TermP f) ∷ [])) ↔ Extends s (binds ts es) × (TermP (s.preds n) ≡ TermP f)) (sym (funs_keep n (TermP f) es refl))
    (subst (λ l. GivesFound s.types ts × GivesFound s.funs (funs_in es) × GivesFound s.preds l × GivesFound s.consts (consts_in (es ++ (n, TermP f) ∷ [])) ↔ Extends s (binds ts es) × (TermP (s.preds n) ≡ TermP f)) (sym (preds_put n f es))
    (subst (λ l. GivesFound s.types ts × GivesFound s.funs (funs_in es) × GivesFound s.preds (preds_in es ++ (n, f) ∷ []) × GivesFound s.consts l ↔ Extends s (binds ts es) × (TermP (s.preds n) ≡ TermP f)) (sym (consts_keep n (TermP f) es refl))
    (λ x. let q = p.0 x.2 in ((x.0, x.1, q.0, x.3), ap TermP q.1), λ x. (x.0.0, x.0.1, p.1 (x.0.2, one TermP un_pred (λ a. refl) (s.preds n) f x.1), x.0.3))))
taken_new ts es n (TermC f) e = λ s.
    let p = put_new s.consts n f (consts_in es) (none_at TermC un_const (λ a. refl) (look_up n (consts_in es)) (e ∙ like_const f n es)) in
    subst (λ l. GivesFound s.types ts × GivesFound s.funs l × GivesFound s.preds (preds_in (es ++ (n, TermC f) ∷ [])) × GivesFound s.consts (consts_in (es ++ (n, TermC f) ∷ [])) ↔ Extends s (binds ts es) × (TermC (s.consts n) ≡ TermC f)) (sym (funs_keep n (TermC f) es refl))
    (subst (λ l. GivesFound s.types ts × GivesFound s.funs (funs_in es) × GivesFound s.preds l × GivesFound s.consts (consts_in (es ++ (n, TermC f) ∷ [])) ↔ Extends s (binds ts es) × (TermC (s.consts n) ≡ TermC f)) (sym (preds_keep n (TermC f) es refl))
    (subst (λ l. GivesFound s.types ts × GivesFound s.funs (funs_in es) × GivesFound s.preds (preds_in es) × GivesFound s.consts l ↔ Extends s (binds ts es) × (TermC (s.consts n) ≡ TermC f)) (sym (consts_put n f es))
    (λ x. let q = p.0 x.3 in ((x.0, x.1, x.2, q.0), ap TermC q.1), λ x. (x.0.0, x.0.1, x.0.2, p.1 (x.0.3, one TermC un_const (λ a. refl) (s.consts n) f x.1)))))

-- ---- a type for a type variable

pub type_known : (ts : Found TypeTree) (es : Found TermTree) (n : List ℕ) (t u : TypeTree) (b : Bool) → Some u ≡ look_up n ts → b ≡ same_type u t → Finds b (binds ts es) (binds ts es) (λ s. s.types n ≡ t)
type_known ts es n t u true e h = λ s. (λ x. (x, x.0 n u (sym e) ∙ same_ty-equal u t (sym h)), λ x. x.0)
type_known ts es n t u false e h = λ s x y. let p : false ≡ true = h ∙ (ap (same_type u) (sym y ∙ x.0 n u (sym e)) ∙ same_ty_itself u) in absurd (cc)

pub type_new : (ts : Found TypeTree) (es : Found TermTree) (n : List ℕ) (t : TypeTree) → None ≡ look_up n ts → Finds true (binds ts es) (binds (ts ++ (n, t) ∷ []) es) (λ s. s.types n ≡ t)
type_new ts es n t e = λ s. let p = put_new s.types n t ts (sym e) in (λ x. let q = p.0 x.0 in ((q.0, x.1, x.2, x.3), q.1), λ x. (p.1 (x.0.0, x.1), x.0.1, x.0.2, x.0.3))

-- ---- demands one after the other

pub finds_nothing_more : (b : Binds) (Q : Substitution → Type 0) → ((s : Substitution) → Q s) → Finds true b b Q
finds_nothing_more b Q h = λ s. (λ x. (x, h s), λ x. x.0)

pub finds_same : (r : Bool) (a b : Binds) (P Q : Substitution → Type 0) → ((s : Substitution) → (P s ↔ Q s)) → Finds r a b P → Finds r a b Q
finds_same true a b P Q h f = λ s. (λ x. let p = (f s).0 x in (p.0, (h s).0 p.1), λ x. (f s).1 (x.0, (h s).1 x.1))
finds_same false a b P Q h f = λ s x q. f s x ((h s).1 q)

pub finds_then : (r : Bool) (a b c : Binds) (P Q : Substitution → Type 0) → Finds true a b P → Finds r b c Q → Finds r a c (λ s. P s × Q s)
finds_then true a b c P Q f g = λ s. (λ x. let q = (g s).0 x in let p = (f s).0 q.0 in (p.0, (p.1, q.1)), λ x. (g s).1 ((f s).1 (x.0, x.1.0), x.1.1))
finds_then false a b c P Q f g = λ s x y. g s ((f s).1 (x, y.0)) y.1

pub finds_not : (a b c : Binds) (P Q : Substitution → Type 0) → Finds false a b P → Finds false a c (λ s. P s × Q s)
finds_not a b c P Q f = λ s x y. f s x y.0

pub if_ok : {A E : Type 0} (P Q : A → Type 0) (r : Result A E) → IfOk r P → ((a : A) → P a → Q a) → IfOk r Q
if_ok P Q (Ok a) h f = f a h
if_ok P Q (Err e) h f = tt
