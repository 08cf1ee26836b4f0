use Rattle.std.proofs.Common.{◌-◌, ◌≤◌, sym, subst, length, drop, rules, arith}
use Rattle.std.specs.Ordering.{is_lt}
use Rattle.std.specs.Str.{bytes_eq}
use Rattle.std.specs.List.Sorted.{IsPartitionedBy}
use Rattle.std.proofs.lemmas.Fn.{always_returns_same}
use Rattle.std.proofs.lemmas.List.{take_all, length-drop}
use Rattle.kola_values.specs.Order.{name_cmp}
use Rattle.kola_database.specs.declared.object.ObjectDef.{ObjectDef}
use Rattle.kola_database.proofs.Runs.{less_parted, equal_parted, run_is, of_class, classes_rise}
use Rattle.kola_database.proofs.db.range_of.Goals as goal

pub returns : goal.returns
returns c =
    let xs = c.args.objects.now in
    let n = c.args.class.now in
    let s = c.partition_point-start.result in
    let t = c.partition_point-count.result in
    let bound = c.partition_point-start.ensures.bound in
    let m = λ (o : ObjectDef). name_cmp o.class n in
    let q = λ (o : ObjectDef). bytes_eq n o.class in
    let up = classes_rise xs n c.requires in
    let first = c.partition_point-start.ensures.partitioned (λ o. is_lt (m o)) (always_returns_same _ _ _ (λ a r f' k. search rules)) (less_parted m xs up) in
    let long = length-drop s xs in
    let whole = take_all (length xs - s) (drop s xs) (omega (arith, long)) in
    let parted = equal_parted m xs up q (of_class n) s bound first in
    let last = c.partition_point-count.ensures.partitioned q (always_returns_same _ _ _ (λ a r f' k. search rules)) (subst (IsPartitionedBy q) (sym whole) parted) in
    let short = subst (λ l. t ≤ length l) whole c.partition_point-count.ensures.bound in
    run_is m xs up q (of_class n) s bound first t short (rw whole at last)
