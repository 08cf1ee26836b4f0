use Rattle.kola_base.specs.Named.{Named}
use Rattle.kola_base.specs.NamedViews.{named_view}
use Rattle.kola_base.specs.Placed.{Placed}
use Rattle.kola_parse.proofs.Loops.{Fails-along, chain_ends}
use Rattle.kola_parse.specs.Kinds.{ahead}
use Rattle.kola_parse.specs.Reader.{Again, Final, Move, done, eat, eat_at, few_rounds, final, rounds, then, ◌>>=◌}
use Rattle.oql_syntax.proofs.LinkLoops.{link_stops}
use Rattle.oql_syntax.proofs.LoopSteps.{field_end_stops, field_stops, one_field, range_more, rounds_end, rounds_more, rounds_out, rounds_stop}
use Rattle.oql_syntax.proofs.NextSteps.{name_same, no_colon}
use Rattle.oql_syntax.proofs.ReadingSteps.{ahead_goes, as_runs, cmp_ends, cmp_runs, deeper_as, eat_as, exists_led, for_led, gives_along, led_goes, name_is, no_in, no_name, no_select, openor_runs, or_runs, other_led, quantified_ends, quantified_stops, range_runs, runs_stops, select_ends, select_is}
use Rattle.oql_syntax.specs.Alphabet.{KSign, KWord, Kind, kind}
use Rattle.oql_syntax.specs.QueryForms.{behind_colon, is_select, kind_name, lead, now, parts_of, parts_paren, word_form, word_range}
use Rattle.oql_syntax.specs.QueryReaders.{FieldParts, FieldState, Operands, OperandsTailed, RangeRead, RangesTailed, SetOperands, Tailed, add_operand, add_set_operand, and_from, and_move, as_from, at_place, below, comma_move, exists_move, field, first_field, full, full_move, intersect_move, is_word, level, meet_from, more_operands, more_ranges, next, next_move, openand, opennot, opennot_move, openor_from, or_move, path_by, prim, prim_move, quantified, range_from, range_move, select, some_in, union_move, variable}
use Rattle.oql_tree.specs.QueryTrees.{QForAll, QName, QueryTree}
use Rattle.oql_syntax.specs.TailViews.{next_view, quantifier_form, range_view, tail_view}
use Rattle.oql_syntax.specs.Tails.{Compared}
use Rattle.oql_syntax.specs.declared.link.WordForm.{WordForm}
use Rattle.std.proofs.Common.{List, Ok, Option, [], ap, arith, sym, true, ℕ, ◌++◌, ◌-◌, ◌∙◌, ◌∷◌}
use Rattle.std.proofs.lemmas.Result.{err_from_is_err_and}
use Rattle.std.specs.Option.{option_map}
use Rattle.oql_syntax.specs.declared.word.QueryWord.TheVariants as words
use Rattle.oql_syntax.proofs.reading.+queries.Goals as goal

pub opennot_of-returns-in_ok-inner-in-Exists : goal.opennot_of-returns-in_ok-inner-in-Exists
opennot_of-returns-in_ok-inner-in-Exists t c =
    let n = c.args.links in
    let o = below n c.args.levels in
    let f = c.args.first.now in
    let k = exists_led (kind f.0) (ap lead (sym c.symbol.ensures) ∙ sym c.in-Exists.ensures) in
    gives_along (λ x. ((x.0, tail_view x.1), x.2)) c.exists_of.result _ _
    (ap (λ (k : Kind). eat_at (opennot_move n c.args.field o k f.0.at) f.0 f.1) k
    ∙ deeper_as o (level n (below n c.in_ok-inner-in-Exists.inner)) (λ i. eat (λ u. exists_move n c.args.field o i f.0.at (kind u))) f.0 f.1 (ap (below n) c.in_ok-inner-in-Exists.ensures.ok.0))
    (rw (c.at-in-Exists.ensures, c.rest-in-Exists.ensures) at c.exists_of.ensures)

pub opennot_of-returns-in_ok-inner-in-All : goal.opennot_of-returns-in_ok-inner-in-All
opennot_of-returns-in_ok-inner-in-All t c =
    let n = c.args.links in
    let o = below n c.args.levels in
    let f = c.args.first.now in
    let k = for_led (kind f.0) (ap lead (sym c.symbol.ensures) ∙ sym c.in-All.ensures) in
    gives_along (λ x. ((x.0, tail_view x.1), x.2)) c.for_all_of.result _ _
    (ap (λ (k : Kind). eat_at (opennot_move n c.args.field o k f.0.at) f.0 f.1) k
    ∙ deeper_as o (level n (below n c.in_ok-inner-in-All.inner)) (λ i. ahead (is_word words.All) (then variable (λ x. quantified i c.args.field (QForAll f.0.at x.name)))) f.0 f.1 (ap (below n) c.in_ok-inner-in-All.ensures.ok.0))
    (rw (c.at-in-All.ensures, c.rest-in-All.ensures) at c.for_all_of.ensures)

pub opennot_of-returns-in_ok-e-in-Other : goal.opennot_of-returns-in_ok-e-in-Other
opennot_of-returns-in_ok-e-in-Other t c =
    let n = c.args.links in
    let o = below n c.args.levels in
    let f = c.args.first.now in
    let k = other_led n c.args.field o f.0.at (kind f.0) (ap lead (sym c.symbol.ensures) ∙ sym c.in-Other.ensures) in
    gives_along (λ x. ((x.0, tail_view x.1), x.2)) c.cmp_of.result _ _
    (ap (λ m. eat_at m f.0 f.1) k ∙ led_goes (cmp_runs n o) f.0 f.1 (prim_move o (kind f.0) f.0.at) c.in_ok-e-in-Other.e c.in_ok-e-in-Other.rest c.in_ok-e-in-Other.ensures)
    c.cmp_of.ensures

pub ands_of-returns : goal.ands_of-returns
ands_of-returns t c =
    sym c.loop-operands.invariant
    ∙ chain_ends (λ (x : OperandsTailed) t. and_move (opennot c.args.links c.args.field (below c.args.links c.args.levels)) x.2 t.at (kind t)) more_operands c.loop-operands.left (c.args._e.now, c.loop-operands.operands, tail_view c.loop-operands.tail) c.loop-operands.rest (rw c.in_default.is at c.in_ok-at.ensures.link)

pub cmp_of-returns-in_ok-e-in-Some : goal.cmp_of-returns-in_ok-e-in-Some
cmp_of-returns-in_ok-e-in-Some t c =
    cmp_ends c.args.links (below c.args.links c.args.levels) (done c.args.e) c.args.tokens c.in_ok-a.rest c.in-Some.behind c.in_ok-a.a (c.in-Some.at, c.in-Some.sign, c.in-Some.b) c.in_ok-a.ensures (rw c.in-Some.is at c.in_ok-at.ensures)
    ∙ (let e = c.in_ok-e-in-Some.ensures in λ j. Ok ((sym e j, Compared), c.in-Some.behind))

pub exists_of-returns-in-Name : goal.exists_of-returns-in-Name
exists_of-returns-in-Name t c =
    let o = below c.args.links c.args.levels in
    let i = level c.args.links (below c.args.links c.args.inner) in
    let f = c.in_ok-first.first in
    gives_along (λ x. ((x.0, tail_view x.1), x.2)) c.quantified_of.result _ _
    (eat_as (λ u. exists_move c.args.links c.args.field o i c.args.at (kind u)) f.0 f.1 c.args.tokens c.in_ok-first.ensures.ok
    ∙ ap (λ (k : Kind). eat_at (exists_move c.args.links c.args.field o i c.args.at k) f.0 f.1) (sym c.in-Name.ensures)
    ∙ ap (λ (k : QueryTree → QueryTree → QueryTree). quantified i c.args.field k f.1) (sym c.some-by.ensures)
    ∙ ap (λ (r : List Placed). quantified i c.args.field (quantifier_form c.some-by.result) r) (sym c.rest.ensures))
    c.quantified_of.ensures

pub exists_of-returns-in_ok-e-in-Sign-Open : goal.exists_of-returns-in_ok-e-in-Sign-Open
exists_of-returns-in_ok-e-in-Sign-Open t c =
    let o = below c.args.links c.args.levels in
    let i = level c.args.links (below c.args.links c.args.inner) in
    let f = c.in_ok-first.first in
    gives_along (λ x. ((x.0, tail_view x.1), x.2)) c.cmp_of.result _ _
    (eat_as (λ u. exists_move c.args.links c.args.field o i c.args.at (kind u)) f.0 f.1 c.args.tokens c.in_ok-first.ensures.ok
    ∙ ap (λ (k : Kind). eat_at (exists_move c.args.links c.args.field o i c.args.at k) f.0 f.1) (sym c.in-Sign-Open.ensures ∙ ap KSign c.in-Sign-Open.field-0-is)
    ∙ (cmp_runs c.args.links o).goes (some_in i c.args.at) f.1 c.in_ok-e-in-Sign-Open.rest c.in_ok-e-in-Sign-Open.e (rw c.rest-in-Sign-Open.ensures at c.in_ok-e-in-Sign-Open.ensures))
    c.cmp_of.ensures

pub for_all_of-returns : goal.for_all_of-returns
for_all_of-returns t c =
    let i = level c.args.links (below c.args.links c.args.levels) in
    gives_along (λ x. ((x.0, tail_view x.1), x.2)) c.quantified_of.result _ _
    (ahead_goes (is_word words.All) variable (λ x. quantified i c.args.field (QForAll c.args.at x.name)) c.args.tokens c.in_ok-rest.rest c.in_ok-x.rest (named_view c.in_ok-x.x) c.in_ok-rest.ensures c.in_ok-x.ensures
    ∙ ap (λ (k : QueryTree → QueryTree → QueryTree). quantified i c.args.field k c.in_ok-x.rest) (sym c.every-by.ensures))
    c.quantified_of.ensures

pub full_at-returns-then-is_select : goal.full_at-returns-then-is_select
full_at-returns-then-is_select t c =
    let n = c.args.links in
    let b = c.args.field in
    let o = below n c.args.levels in
    let f = c.in_ok-first.first in
    let k = select_is (kind f.0) (ap is_select (sym c.symbol.ensures) ∙ sym c.is_select.ensures ∙ c.if-is_select.true) in
    gives_along (λ x. ((x.0, tail_view x.1), x.2)) c.select_of.result _ _
    (eat_as (λ t. full_move n b o (kind t) t.at) f.0 f.1 c.args.tokens c.in_ok-first.ensures.ok
    ∙ ap (λ (k : Kind). eat_at (full_move n b o k f.0.at) f.0 f.1) k
    ∙ deeper_as o (level n (below n c.in_ok-inner.inner)) (λ i. select n i b f.0.at) f.0 f.1 (ap (below n) c.in_ok-inner.ensures.ok.0))
    (rw (c.at.ensures, c.rest.ensures) at c.select_of.ensures)

pub full_at-returns-in_err-e-2 : goal.full_at-returns-in_err-e-2
full_at-returns-in_err-e-2 t c =
    let n = c.args.links in
    let b = c.args.field in
    let o = below n c.args.levels in
    let f = c.in_ok-first.first in
    let v : Tailed = (c.in_ok-e.e, tail_view c.in_ok-e.tail) in
    let k = no_select n b o f.0.at (kind f.0) (ap is_select (sym c.symbol.ensures) ∙ sym c.is_select.ensures ∙ c.if-is_select.false) in
    let p = err_from_is_err_and c.from_residual-in_err-e-2.result c.from_residual-in_err-e-2.ensures.1 in
    let whole =
    eat_as (λ t. full_move n b o (kind t) t.at) f.0 f.1 c.args.tokens c.in_ok-first.ensures.ok
    ∙ ap (λ (m : Move Placed Tailed). eat_at m f.0 f.1) k
    ∙ led_goes (openor_runs n b o) f.0 f.1 (opennot_move n b o (kind f.0) f.0.at) v c.in_ok-e.rest c.in_ok-e.ensures in
    rw (p.1, p.2) (Fails-along c.in_err-e-2.field-0.0 (openor_from n b o (done v) c.in_ok-e.rest) (full n b o c.args.tokens) (sym whole)
    (runs_stops (or_runs n (openand n b o)) (and_from n (opennot n b o) (done v)) c.in_ok-e.rest c.in_err-e-2.field-0.0 c.in_err-e-2.ensures))

pub full_at-returns : goal.full_at-returns
full_at-returns t c =
    let n = c.args.links in
    let b = c.args.field in
    let o = below n c.args.levels in
    let f = c.in_ok-first.first in
    let v : Tailed = (c.in_ok-e.e, tail_view c.in_ok-e.tail) in
    let k = no_select n b o f.0.at (kind f.0) (ap is_select (sym c.symbol.ensures) ∙ sym c.is_select.ensures ∙ c.if-is_select.false) in
    gives_along (λ x. ((x.0, tail_view x.1), x.2)) c.or_of.result _ _
    (eat_as (λ t. full_move n b o (kind t) t.at) f.0 f.1 c.args.tokens c.in_ok-first.ensures.ok
    ∙ ap (λ (m : Move Placed Tailed). eat_at m f.0 f.1) k
    ∙ led_goes (openor_runs n b o) f.0 f.1 (opennot_move n b o (kind f.0) f.0.at) v c.in_ok-e.rest c.in_ok-e.ensures
    ∙ (or_runs n (openand n b o)).goes (and_from n (opennot n b o) (done v)) c.in_ok-e.rest c.in_ok-e-2.rest (c.in_ok-e-2.e, tail_view c.in_ok-e-2.tail) c.in_ok-e-2.ensures)
    c.or_of.ensures

pub intersects_of-returns : goal.intersects_of-returns
intersects_of-returns t c =
    sym c.loop-operands.invariant
    ∙ chain_ends (λ (x : Operands) t. intersect_move (path_by c.args.links (prim (below c.args.links c.args.levels))) t.at (kind t)) add_operand c.loop-operands.left (c.args._e.now, c.loop-operands.operands) c.loop-operands.rest (rw c.in_default.is at c.in_ok-at.ensures.link)

pub next_intersect-returns-in_err-e-clause-link : goal.next_intersect-returns-in_err-e-clause-link
next_intersect-returns-in_err-e-clause-link t c =
    let p = err_from_is_err_and c.from_residual.result c.from_residual.ensures.1 in
    let path = path_by c.args.links (prim (below c.args.links c.args.levels)) in
    rw (p.1, p.2) (link_stops (at_place c.in-Some.first.0.at) path c.in_err-e.field-0.0 (λ t. intersect_move path t.at (kind t)) c.args.left c.in-Some.first.0 c.in-Some.first.1 c.args.tokens.now
    c.in-Some.ensures.some (ap (intersect_move path c.in-Some.first.0.at) (sym c.in-Word-Intersect.ensures ∙ ap KWord c.in-Word-Intersect.field-0-is)) (omega (arith, c.if-left-eq0.false)) (rw c.rest.ensures at c.in_err-e.ensures))

pub ors_of-returns : goal.ors_of-returns
ors_of-returns t c =
    sym c.loop-operands.invariant
    ∙ chain_ends (λ (x : OperandsTailed) t. or_move (openand c.args.links c.args.field (below c.args.links c.args.levels)) x.2 t.at (kind t)) more_operands c.loop-operands.left (c.args._e.now, c.loop-operands.operands, tail_view c.loop-operands.tail) c.loop-operands.rest (rw c.in_default.is at c.in_ok-at.ensures.link)

pub quantified_of-returns-in_err-body : goal.quantified_of-returns-in_err-body
quantified_of-returns-in_err-body t c =
    let p = err_from_is_err_and c.from_residual-in_err-body.result c.from_residual-in_err-body.ensures.1 in
    let i = level c.args.links (below c.args.links c.args.levels) in
    rw (p.1, p.2) (quantified_stops i c.args.field (quantifier_form c.args.by) c.args.tokens c.in_ok-rest.rest c.in_ok-range.rest c.in_ok-rest-2.rest c.in_ok-range.range c.in_ok-rest.ensures c.in_ok-range.ensures (rw c.tokens.ensures at c.in_ok-rest-2.ensures) c.in_err-body.field-0.0 c.in_err-body.ensures)

pub quantified_of-returns : goal.quantified_of-returns
quantified_of-returns t c =
    let i = level c.args.links (below c.args.links c.args.levels) in
    quantified_ends i c.args.field (quantifier_form c.args.by) c.args.tokens c.in_ok-rest.rest c.in_ok-range.rest c.in_ok-rest-2.rest c.in_ok-range.range c.in_ok-rest.ensures c.in_ok-range.ensures (rw c.tokens.ensures at c.in_ok-rest-2.ensures) (c.in_ok-body.body, tail_view c.in_ok-body.tail) c.in_ok-body.rest c.in_ok-body.ensures
    ∙ (let e = c.in_ok-e.ensures in λ j. Ok ((sym e j, sym c.opened.ensures j), c.in_ok-body.rest))

pub select_rest_of-returns-in_ok-e-in-Some : goal.select_rest_of-returns-in_ok-e-in-Some
select_rest_of-returns-in_ok-e-in-Some t c =
    let n = c.args.links in
    select_ends n (level n (below n c.args.levels)) c.args.field c.args.at c.args.head c.args.tokens c.in_ok-ranges.rest c.in-Some.behind c.in_ok-ranges.ranges (tail_view c.in_ok-ranges.tail) (c.in-Some.place, c.in-Some.condition, tail_view c.in-Some.ended) c.in_ok-ranges.ensures (rw c.in-Some.is at c.in_ok-place.ensures)
    ∙ (let e = c.in_ok-e-in-Some.ensures in λ j. Ok ((sym e j, sym c.opened.ensures j), c.in-Some.behind))

pub unions_of-returns : goal.unions_of-returns
unions_of-returns t c =
    sym c.loop-operands.invariant
    ∙ chain_ends (λ (x : SetOperands) t. union_move (meet_from c.args.links (below c.args.links c.args.levels) (prim (below c.args.links c.args.levels))) t.at (kind t)) add_set_operand c.loop-operands.left (c.args._e.now, c.loop-operands.operands) c.loop-operands.rest (rw c.in_default.is at c.in_ok-at.ensures.link)

pub more_fields_of-returns-in_err-e : goal.more_fields_of-returns-in_err-e
more_fields_of-returns-in_err-e t c =
    let p = full c.args.links true (below c.args.links c.args.levels) in
    let a : FieldState = (c.loop-fields.fields, c.loop-fields.label.name.now, c.loop-fields.label.at) in
    let x = err_from_is_err_and c.from_residual.result c.from_residual.ensures.1 in
    rw (x.1, x.2) (Fails-along c.in_err-e.field-0.0 (few_rounds (field p) c.loop-fields.left a c.loop-fields.rest >>= λ x. final x.0 x.1) (rounds (field p) (first_field (named_view c.args.first)) c.args.tokens) c.loop-fields.invariant
    (rounds_stop (field p) c.loop-fields.left a c.loop-fields.rest c.in_err-e.field-0.0 (field_stops p a c.loop-fields.rest c.in_err-e.field-0.0 c.in_err-e.ensures)))

pub more_fields_of-returns-in_err-next : goal.more_fields_of-returns-in_err-next
more_fields_of-returns-in_err-next t c =
    let p = full c.args.links true (below c.args.links c.args.levels) in
    let a : FieldState = (c.loop-fields.fields, c.loop-fields.label.name.now, c.loop-fields.label.at) in
    let v : Tailed = (c.in_ok-e.e, tail_view c.in_ok-e.tail) in
    let fs : List FieldParts = a.0 ++ (a.1, a.2, v.0) ∷ [] in
    let x = err_from_is_err_and c.from_residual-in_err-next.result c.from_residual-in_err-next.ensures.1 in
    rw (x.1, x.2) (Fails-along c.in_err-next.field-0.0 (few_rounds (field p) c.loop-fields.left a c.loop-fields.rest >>= λ x. final x.0 x.1) (rounds (field p) (first_field (named_view c.args.first)) c.args.tokens) c.loop-fields.invariant
    (rounds_stop (field p) c.loop-fields.left a c.loop-fields.rest c.in_err-next.field-0.0 (field_end_stops p a c.loop-fields.rest c.in_ok-e.behind v c.in_err-next.field-0.0 c.in_ok-e.ensures (rw c.tokens.ensures at (c.in_err-next.ensures fs)))))

pub more_fields_of-returns-in_default : goal.more_fields_of-returns-in_default
more_fields_of-returns-in_default t c =
    let p = full c.args.links true (below c.args.links c.args.levels) in
    let a : FieldState = (c.loop-fields.fields, c.loop-fields.label.name.now, c.loop-fields.label.at) in
    let v : Tailed = (c.in_ok-e.e, tail_view c.in_ok-e.tail) in
    let fs : List FieldParts = a.0 ++ (a.1, a.2, v.0) ∷ [] in
    let name = c.in_ok-from_text.ensures in
    let pushed = c.in_ok-push.ensures.ok ∙ ap (λ (x : List ℕ). c.loop-fields.fields ++ (x, c.loop-fields.label.at, c.in_ok-e.e) ∷ []) name in
    sym c.loop-fields.invariant
    ∙ rounds_end (field p) c.loop-fields.left a fs c.loop-fields.rest c.in_ok-next.behind (one_field p a c.loop-fields.rest c.in_ok-e.behind c.in_ok-next.behind v (Final fs) c.in_ok-e.ensures (rw (c.tokens.ensures, c.in_default.is) at (c.in_ok-next.ensures fs)))
    ∙ ap (λ (z : List FieldParts). Ok (z, c.in_ok-next.behind)) (sym pushed)

pub more_fields_of-returns-then-left-eq0 : goal.more_fields_of-returns-then-left-eq0
more_fields_of-returns-then-left-eq0 t c =
    let p = full c.args.links true (below c.args.links c.args.levels) in
    let a : FieldState = (c.loop-fields.fields, c.loop-fields.label.name.now, c.loop-fields.label.at) in
    let v : Tailed = (c.in_ok-e.e, tail_view c.in_ok-e.tail) in
    let fs : List FieldParts = a.0 ++ (a.1, a.2, v.0) ∷ [] in
    let d : FieldState = (fs, c.in-Some.named.name.now, c.in-Some.named.at) in
    rw c.stray.ensures
    (sym c.loop-fields.invariant
    ∙ rounds_out (field p) c.loop-fields.left a d c.loop-fields.rest c.in_ok-next.behind (omega (arith, c.if-left-eq0.true)) (one_field p a c.loop-fields.rest c.in_ok-e.behind c.in_ok-next.behind v (Again d) c.in_ok-e.ensures (rw (c.tokens.ensures, c.in-Some.is) at (c.in_ok-next.ensures fs))))

pub more_fields_of-loop-fields-preserved : goal.more_fields_of-loop-fields-preserved
more_fields_of-loop-fields-preserved t c =
    let p = full c.args.links true (below c.args.links c.args.levels) in
    let a : FieldState = (c.loop-fields.fields, c.loop-fields.label.name.now, c.loop-fields.label.at) in
    let v : Tailed = (c.in_ok-e.e, tail_view c.in_ok-e.tail) in
    let fs : List FieldParts = a.0 ++ (a.1, a.2, v.0) ∷ [] in
    let d : FieldState = (fs, c.in-Some.named.name.now, c.in-Some.named.at) in
    let name = c.in_ok-from_text.ensures in
    let pushed = c.in_ok-push.ensures.ok ∙ ap (λ (x : List ℕ). c.loop-fields.fields ++ (x, c.loop-fields.label.at, c.in_ok-e.e) ∷ []) name in
    ap (λ (z : List FieldParts). few_rounds (field p) (c.loop-fields.left - 1) (z, c.in-Some.named.name.now, c.in-Some.named.at) c.in_ok-next.behind >>= λ x. final x.0 x.1) pushed
    ∙ sym (rounds_more (field p) c.loop-fields.left a d c.loop-fields.rest c.in_ok-next.behind (omega (arith, c.if-left-eq0.false)) (one_field p a c.loop-fields.rest c.in_ok-e.behind c.in_ok-next.behind v (Again d) c.in_ok-e.ensures (rw (c.tokens.ensures, c.in-Some.is) at (c.in_ok-next.ensures fs))))
    ∙ c.loop-fields.invariant

pub more_ranges_of-loop-ranges-preserved : goal.more_ranges_of-loop-ranges-preserved
more_ranges_of-loop-ranges-preserved t c =
    range_more (next c.args.links (below c.args.links c.args.levels) c.args.field) c.loop-ranges.left c.loop-ranges.ranges c.take_next-in-Some.new.ranges (tail_view c.loop-ranges.tail) (tail_view c.in_ok-tail-2.tail) c.loop-ranges.rest c.in-Some.behind (next_view c.in-Some.next) (rw c.in-Some.is at c.in_ok-next.ensures.link) c.in_ok-tail-2.ensures.taken c.in_ok-tail-2.ensures.ended
    ∙ c.loop-ranges.invariant

pub more_ranges_of-returns : goal.more_ranges_of-returns
more_ranges_of-returns t c =
    sym c.loop-ranges.invariant
    ∙ chain_ends (λ (x : RangesTailed) t. comma_move (next c.args.links (below c.args.links c.args.levels) c.args.field) x.1 (kind t)) more_ranges c.loop-ranges.left (c.loop-ranges.ranges, tail_view c.loop-ranges.tail) c.loop-ranges.rest (rw c.in_default.is at c.in_ok-next.ensures.link)

pub named_range_of-returns : goal.named_range_of-returns
named_range_of-returns t c =
    let n = c.args.links in
    let o = below n c.args.levels in
    let e = c.in_ok-e-2.ensures in
    gives_along (λ x. (range_view x.0, x.1)) c.as_of.result _ _
    (no_in n o (named_view c.args.x) (as_from n o (done (QName c.args.x.at c.args.x.name.now))) c.args.tokens (sym c.behind_in.ensures ∙ c.in_default.is)
    ∙ ap (λ (e : QueryTree). as_from n o (done e) c.args.tokens) (sym e)
    ∙ ap (λ (r : List Placed). as_from n o (done c.in_ok-e-2.e) r) (sym c.tokens.ensures))
    c.as_of.ensures

pub next_of-returns : goal.next_of-returns
next_of-returns t c =
    let n = c.args.links in
    let o = below n c.args.levels in
    let f = c.args.first.now in
    let l = named_view c.in-Some.l in
    let name = sym c.word.ensures ∙ ap (option_map named_view) c.in-Some.is in
    let rest = c.of-rest.ensures ∙ c.rest.ensures in
    let form = c.word_form.ensures ∙ ap word_form c.symbol.ensures in
    gives_along (λ x. (next_view x.0, x.1)) c.word_range_of.result _ _
    (ap (λ (x : Option Named). eat_at (next_move n o x (kind f.0) f.0.at) f.0 f.1) name
    ∙ no_colon n o l (kind f.0) f.1 (name_same f.0 l name) (ap behind_colon (sym rest) ∙ sym c.behind_colon.ensures ∙ c.in_default-behind_colon.is)
    ∙ ap (λ (k : WordForm). word_range n o l k f.1) (sym form)
    ∙ ap (λ (r : List Placed). word_range n o l c.word_form.result r) (sym rest))
    c.word_range_of.ensures

pub next_parts_of-returns : goal.next_parts_of-returns
next_parts_of-returns t c =
    let n = c.args.links in
    let o = below n c.args.levels in
    let f = c.in_ok-first.first in
    let i = level n (below n c.in_ok-inner.inner) in
    gives_along (λ x. (next_view x.0, x.1)) c.next_range_of.result _ _
    (eat_as (λ u. parts_paren n o c.args.parts (kind u)) f.0 f.1 c.args.tokens c.in_ok-first.ensures.ok
    ∙ ap (λ (k : Kind). eat_at (parts_paren n o c.args.parts k) f.0 f.1) (sym c.in-Sign-Open.ensures ∙ ap KSign c.in-Sign-Open.field-0-is)
    ∙ deeper_as o i (λ i. range_from n o (parts_of c.args.parts i)) f.0 f.1 (ap (below n) c.in_ok-inner.ensures.ok.0)
    ∙ (range_runs n o).goes (parts_of c.args.parts i) f.1 c.in_ok-e.rest c.in_ok-e.e (rw c.rest.ensures at c.in_ok-e.ensures))
    c.next_range_of.ensures

pub range_of-returns-in-Some : goal.range_of-returns-in-Some
range_of-returns-in-Some t c =
    let n = c.args.links in
    let o = below n c.args.levels in
    let f = c.args.first.now in
    let k = name_is (kind f.0) c.in-Some.name.now (ap kind_name (sym c.symbol.ensures) ∙ sym c.name_in.ensures ∙ ap (option_map now) c.in-Some.is) in
    gives_along (λ x. (range_view x.0, x.1)) c.named_range_of.result _ _
    (ap (λ (k : Kind). eat_at (range_move n o k f.0.at) f.0 f.1) k)
    (rw (c.at-at.ensures, c.of.ensures, c.rest.ensures) at c.named_range_of.ensures)

pub range_of-returns : goal.range_of-returns
range_of-returns t c =
    let n = c.args.links in
    let o = below n c.args.levels in
    let f = c.args.first.now in
    let k = no_name n o f.0.at (kind f.0) (ap kind_name (sym c.symbol.ensures) ∙ sym c.name_in.ensures ∙ ap (option_map now) c.in_default.is) in
    gives_along (λ x. (range_view x.0, x.1)) c.as_of.result _ _
    (ap (λ (m : Move Placed RangeRead). eat_at m f.0 f.1) k ∙ led_goes (as_runs n o) f.0 f.1 (prim_move o (kind f.0) f.0.at) c.in_ok-e.e c.in_ok-e.rest c.in_ok-e.ensures)
    c.as_of.ensures
