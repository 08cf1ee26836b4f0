-- Where no label of a struct may follow, no text ends in one.
use Rattle.std.proofs.Common.{◌≡◌, inl, inr, ℕ, zero, suc, Bool, true, false, List, [], ◌∷◌, refl, ap, ◌∙◌}
use Rattle.kola_base.specs.Placed.{Placed}
use Rattle.kola_base.specs.declared.sign.Sign.TheVariants as s
use Rattle.kola_parse.specs.Kinds.{Lang, leads}
use Rattle.kola_parse.specs.Texts.{Chained, Made, Led, ChainText}
use Rattle.oql_syntax.specs.Alphabet.{Kind, KSign, KWord, KName, kind}
use Rattle.oql_tree.specs.QueryTrees.{QueryTree, QueryLinks, QNot, QAnd, QOr, QExists, QForAll}
use Rattle.oql_syntax.specs.QueryReaders.{Tailed, RangesTailed, Next, more_ranges, OperandsTailed, first_operand, more_operands, joined}
use Rattle.oql_syntax.specs.Tails.{Tail, Plain, Compared, OpenPlain, OpenCompared, Ranged, Labelled, opened}
use Rattle.oql_syntax.specs.declared.word.QueryWord.{QueryWord}
use Rattle.oql_syntax.specs.declared.word.QueryWord.TheVariants as q
use Rattle.oql_syntax.proofs.QuerySymbols.{Variable}
use Rattle.oql_syntax.proofs.LevelLaws.{Texts, Inner, Nowhere, Level_of, Deeper, CmpFrom, SomeIn, PrimRest, Quantified, ExistsRest, NotRest, OpenNot, AndLinks, OrLinks, AndFrom, OpenAnd, OpenOrFrom, SelectRest, FullRest, Full}
use Rattle.oql_syntax.proofs.RangeLaws.{NextText, CommaLinks, Ranges}
use Rattle.oql_syntax.proofs.WholeQueryLaws.{texts, inner}
use Rattle.oql_syntax.proofs.LinkedTexts.{is_open, OpenLinkTo}
use Rattle.oql_syntax.proofs.Modes.{kept, opening}
use Rattle.oql_syntax.proofs.ModeLaws.{cmp_closed, and_out, or_out, comma_out, BehindRanges, SelectForm, select_to}

abbrev pub is_labelled : Tail → Bool
is_labelled (Labelled x p) = true
is_labelled _ = false

pub record Unlabelled {A : Type 0} (M : Lang Placed (A × Tail)) : Type 0 where
  pub is : (a : A) (x : Tail) (w : List Placed) → M (a, x) w → is_labelled x ≡ false

opened_unlabelled : (x : Tail) → is_labelled x ≡ false → is_labelled (opened x) ≡ false
opened_unlabelled Plain e = refl
opened_unlabelled Compared e = refl
opened_unlabelled OpenPlain e = e
opened_unlabelled OpenCompared e = e
opened_unlabelled (Ranged b) e = e
opened_unlabelled (Labelled y p) e = e

closed_unlabelled : (x : Tail) → is_open x ≡ false → is_labelled x ≡ false
closed_unlabelled Plain e = refl
closed_unlabelled Compared e = refl
closed_unlabelled OpenPlain e = refl
closed_unlabelled OpenCompared e = refl
closed_unlabelled (Ranged b) e = refl
closed_unlabelled (Labelled y p) e = absurd cc

un_ahead : {A : Type 0} (Q : Placed → Type 0) (M : Lang Placed (A × Tail)) → Unlabelled M → Unlabelled (λ v. leads Q (M v))
un_ahead {A} Q M h = record { is = is }
  where
    is : (a : A) (x : Tail) (w : List Placed) → leads Q (M (a, x)) w → is_labelled x ≡ false
    is a x [] g = absurd g
    is a x (t ∷ w) g = h.is a x w g.1

un_led : {A : Type 0} (M : Placed → Lang Placed (A × Tail)) → ((t : Placed) → Unlabelled (M t)) → Unlabelled (Led M)
un_led {A} M h = record { is = is }
  where
    is : (a : A) (x : Tail) (w : List Placed) → Led M (a, x) w → is_labelled x ≡ false
    is a x [] g = absurd g
    is a x (t ∷ w) g = (h t).is a x w g

un_chained : {A B : Type 0} (L : Lang Placed A) (M : A → Lang Placed (B × Tail)) → ((a : A) → Unlabelled (M a)) → Unlabelled (Chained L M)
un_chained L M h = record { is = λ b x w c. (h c.mid).is b x c.back c.second }

un_kept : {A B : Type 0} (f : A → B) (M : Lang Placed (A × Tail)) → Unlabelled M → Unlabelled (Made (kept f) M)
un_kept {A} {B} f M h = record { is = λ b x w m. ap (λ (z : B × Tail). is_labelled z.1) m.is ∙ h.is m.part.0 m.part.1 w m.spells }

un_opening : {A B : Type 0} (f : A → B) (M : Lang Placed (A × Tail)) → Unlabelled M → Unlabelled (Made (opening f) M)
un_opening {A} {B} f M h = record { is = λ b x w m. ap (λ (z : B × Tail). is_labelled z.1) m.is ∙ opened_unlabelled m.part.1 (h.is m.part.0 m.part.1 w m.spells) }

un_chain : (word : QueryWord) (L : Lang Placed Tailed) (Links : Tail → ℕ → Kind → Lang Placed (ℕ × QueryTree × Tail)) → OpenLinkTo word L Links → Unlabelled L → (n : ℕ) (a y : OperandsTailed) (w : List Placed) → is_labelled a.2 ≡ false
    → ChainText (λ (x : OperandsTailed) t. Links x.2 t.at (kind t)) more_operands n a y w → is_labelled y.2 ≡ false
un_chain word L Links out h zero a y [] e g = ap (λ (z : OperandsTailed). is_labelled z.2) g ∙ e
un_chain word L Links out h zero a y (t ∷ w) e g = absurd g
un_chain word L Links out h (suc n) a y [] e g = ap (λ (z : OperandsTailed). is_labelled z.2) g ∙ e
un_chain word L Links out h (suc n) a y (t ∷ w) e g =
    let i = out a.2 t.at (kind t) g.mid g.front g.first in
    un_chain word L Links out h n (more_operands a g.mid) y g.back (h.is g.mid.1 g.mid.2 g.front i.3) g.second

un_linked : (word : QueryWord) (build : ℕ → QueryTree → QueryLinks → QueryTree) (n : ℕ) (L P : Lang Placed Tailed) (Links : Tail → ℕ → Kind → Lang Placed (ℕ × QueryTree × Tail)) → OpenLinkTo word L Links → Unlabelled L → Unlabelled P
    → Unlabelled (Made (joined build) (Chained (Made first_operand P) (λ x. ChainText (λ (x : OperandsTailed) t. Links x.2 t.at (kind t)) more_operands n x)))
un_linked word build n L P Links out h g = record {
  is = λ e x w m.
      let c = m.spells in
      let v = c.first.part in
      ap (λ (z : Tailed). is_labelled z.1) m.is ∙ un_chain word L Links out h n c.mid m.part c.back (ap (λ (z : OperandsTailed). is_labelled z.2) c.first.is ∙ g.is v.0 v.1 c.front c.first.spells) c.second;
}

-- ---- levels

pub record AllUnlabelled (L : Texts) : Type 0 where
  pub opennot : Unlabelled (L.opennot false)
  pub full : Unlabelled (L.full false)
  pub ranges : Unlabelled (L.ranges false)

pub data UnlabelledIn : Inner → Type 1 where
  un_none : UnlabelledIn Nowhere
  un_level : (L : Texts) → AllUnlabelled L → UnlabelledIn (Level_of L)

un_deeper : {A : Type 0} {l : Inner} → UnlabelledIn l → (F : Texts → Lang Placed (A × Tail)) → ((L : Texts) → AllUnlabelled L → Unlabelled (F L)) → Unlabelled (Deeper l F)
un_deeper un_none F h = record { is = λ a x w g. absurd g }
un_deeper (un_level L m) F h = h L m

un_quantified : (k : QueryTree → QueryTree → QueryTree) (L : Texts) → AllUnlabelled L → Unlabelled (Quantified false k L)
un_quantified k L m = un_ahead _ _ (un_chained L.sets _ (λ r. un_ahead _ _ (un_opening (k r) (L.full false) m.full)))

un_cmp : (n : ℕ) (l : Inner) (L : Lang Placed QueryTree) → Unlabelled (CmpFrom n l L)
un_cmp n l L = record { is = λ e x w h. closed_unlabelled x (cmp_closed n l L e x w h) }

un_exists : (n : ℕ) (l : Inner) (L : Texts) (at : ℕ) (k : Kind) → AllUnlabelled L → Unlabelled (ExistsRest n false l L at k)
un_exists n l L at (KName y) m = un_quantified (QExists at y) L m
un_exists n l L at (KSign s.Open) m = un_cmp n l (SomeIn at L)
un_exists n l L at _ m = record { is = λ a x w g. absurd g }

un_not_rest : (n : ℕ) (l : Inner) → UnlabelledIn l → (k : Kind) (at : ℕ) → Unlabelled (NotRest n false l k at)
un_not_rest n l m (KWord q.Not) at = un_deeper m _ (λ L m. un_kept (QNot at) (L.opennot false) m.opennot)
un_not_rest n l m (KWord q.Exists) at = un_deeper m _ (λ L m. un_led (λ u. ExistsRest n false l L at (kind u)) (λ u. un_exists n l L at (kind u) m))
un_not_rest n l m (KWord q.For) at = un_deeper m _ (λ L m. un_ahead _ _ (un_chained Variable _ (λ x. un_quantified (QForAll at x.name) L m)))
un_not_rest n l m k at = un_cmp n l (PrimRest l k at)

un_not : (n : ℕ) (l : Inner) → UnlabelledIn l → Unlabelled (OpenNot n false l)
un_not n l m = un_led (λ t. NotRest n false l (kind t) t.at) (λ t. un_not_rest n l m (kind t) t.at)

un_and_from : (n : ℕ) (l : Inner) → UnlabelledIn l → (P : Lang Placed Tailed) → Unlabelled P → Unlabelled (AndFrom n (OpenNot n false l) P)
un_and_from n l m P h = un_linked q.And QAnd n (OpenNot n false l) P (AndLinks (OpenNot n false l)) (and_out (OpenNot n false l)) (un_not n l m) h

un_or_from : (n : ℕ) (l : Inner) → UnlabelledIn l → (P : Lang Placed Tailed) → Unlabelled P → Unlabelled (OpenOrFrom n false l P)
un_or_from n l m P h =
    un_linked q.Or QOr n (OpenAnd n false l) (AndFrom n (OpenNot n false l) P) (OrLinks (OpenAnd n false l)) (or_out (OpenAnd n false l)) (un_and_from n l m (OpenNot n false l) (un_not n l m)) (un_and_from n l m P h)

un_commas : (n : ℕ) (l : Inner) (m : ℕ) (a y : RangesTailed) (w : List Placed) → is_labelled a.1 ≡ false → ChainText (λ (x : RangesTailed) t. CommaLinks (NextText n l false) x.1 (kind t)) more_ranges m a y w → is_labelled y.1 ≡ false
un_commas n l zero a y [] e g = ap (λ (z : RangesTailed). is_labelled z.1) g ∙ e
un_commas n l zero a y (t ∷ w) e g = absurd g
un_commas n l (suc m) a y [] e g = ap (λ (z : RangesTailed). is_labelled z.1) g ∙ e
un_commas n l (suc m) a y (t ∷ w) e g =
    let i = comma_out (NextText n l false) a.1 (kind t) g.mid g.front g.first in
    un_commas n l m (more_ranges a g.mid) y g.back (ap (λ (c : Next). is_labelled (more_ranges a c).1) i.3.is) g.second

un_ranges : (n : ℕ) (l : Inner) → Unlabelled (Ranges n l false)
un_ranges n l = record { is = λ rs x w c. un_commas n l c.second.0 c.mid (rs, x) c.back (ap (λ (z : RangesTailed). is_labelled z.1) c.first.is) c.second.1 }

un_form : (R : Lang Placed RangesTailed) (F : Lang Placed Tailed) (at : ℕ) (h : QueryTree) → Unlabelled R → Unlabelled F → (e : QueryTree) (x : Tail) (w : List Placed) → SelectForm R F at h (e, x) w → is_labelled x ≡ false
un_form R F at h r f e x w c = by c.back c.second
  where
    by : (back : List Placed) → BehindRanges F at h c.mid (e, x) back → is_labelled x ≡ false
    by back (inl g) = ap (λ (z : Tailed). is_labelled z.1) g.0 ∙ r.is c.mid.0 c.mid.1 c.front c.first
    by [] (inr g) = absurd g
    by (t ∷ u) (inr g) = ap (λ (z : Tailed). is_labelled z.1) g.2.is ∙ opened_unlabelled g.2.part.1 (f.is g.2.part.0 g.2.part.1 u g.2.spells)

un_rest : (n : ℕ) (L : Texts) (at : ℕ) (h : QueryTree) → AllUnlabelled L → Unlabelled (SelectRest n false L at h)
un_rest n L at h m = record { is = λ e x w g. un_form (L.ranges false) (L.full false) at h m.ranges m.full e x w (select_to n false L at h (e, x) w g) }

un_full_rest : (n : ℕ) (l : Inner) → UnlabelledIn l → (k : Kind) (at : ℕ) → Unlabelled (FullRest n false l k at)
un_full_rest n l m (KWord q.Select) at = un_deeper m _ (λ L m. un_ahead _ _ (un_chained (L.full false) _ (λ h. un_ahead _ _ (un_rest n L at h.0 m))))
un_full_rest n l m k at = un_or_from n l m (NotRest n false l k at) (un_not_rest n l m k at)

pub un_full : (n : ℕ) (l : Inner) → UnlabelledIn l → Unlabelled (Full n false l)
un_full n l m = un_led (λ t. FullRest n false l (kind t) t.at) (λ t. un_full_rest n l m (kind t) t.at)

pub all_unlabelled : (n d : ℕ) → UnlabelledIn (inner n d)
all_unlabelled n zero = un_none
all_unlabelled n (suc d) =
    let m = all_unlabelled n d in
    un_level (texts n (inner n d)) (record { opennot = un_not n (inner n d) m; full = un_full n (inner n d) m; ranges = un_ranges n (inner n d) })
