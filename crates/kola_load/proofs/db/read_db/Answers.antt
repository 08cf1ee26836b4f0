use Rattle.std.proofs.Common.{◌≡◌, map, sym, subst, ap, ◌∙◌}
use Rattle.std.specs.Prelude.{IsPermutation}
use Rattle.kola_values.specs.Sets.{Each}
use Rattle.kola_schema.specs.Meets.{Meets}
use Rattle.kola_database.specs.MeetsTests.{IsHeld}
use Rattle.kola_database.specs.ObjectViews.{object_tree}
use Rattle.kola_load.specs.JsonViews.{view}
use Rattle.kola_load.specs.KeyViews.{AreOfClasses}
use Rattle.kola_load.specs.Loaded.{IsFirstFault}
use Rattle.kola_load.specs.Loading.{or_objects}
use Rattle.kola_load.specs.Written.{objects_in, written}
use Rattle.kola_load.proofs.Accepted.{accepted}
use Rattle.kola_load.proofs.Answering.{said_of}
use Rattle.kola_load.proofs.FirstFault.{first_fault}
use Rattle.kola_load.proofs.KeyPlaces.{all_of_classes}
use Rattle.kola_load.proofs.Phases.{joined_alike}
use Rattle.kola_load.proofs.db.read_db.Goals as goal

pub returns-in_err-lists-clause-fault : goal.returns-in_err-lists-clause-fault
returns-in_err-lists-clause-fault c =
    said_of (IsFirstFault c.args.schema.now c.args.text.now) c.from_residual-in_err-lists.result _ c.from_residual-in_err-lists.ensures.1
    (first_fault c.args.schema.now c.args.text.now (view c.in_ok-value.value) c.in_ok-value.ensures.ok _ (λ n. c.in_err-lists.ensures n))

pub objects_of-requires : goal.objects_of-requires
objects_of-requires c =
    let S = c.args.schema.now in
    subst (AreOfClasses S) (sym c.in_ok-lists.ensures.0) (all_of_classes (view c.in_ok-value.value) S)

pub returns-in_err-objects-clause-fault : goal.returns-in_err-objects-clause-fault
returns-in_err-objects-clause-fault c =
    said_of (IsFirstFault c.args.schema.now c.args.text.now) c.from_residual-in_err-objects.result _ c.from_residual-in_err-objects.ensures.1
    (first_fault c.args.schema.now c.args.text.now (view c.in_ok-value.value) c.in_ok-value.ensures.ok _ (λ n. c.in_ok-lists.ensures.1 ∙ c.in_err-objects.ensures n))

pub make-requires : goal.make-requires
make-requires c =
    let S = c.args.schema.now in
    let j = view c.in_ok-value.value in
    let same : map object_tree c.in_ok-objects.objects.items ≡ written S j =
    c.in_ok-objects.ensures.1 ∙ joined_alike (λ os. map object_tree os.items) (objects_in j) c.in_ok-lists.lists.items S c.in_ok-lists.ensures.0 in
    let held = subst (Each IsHeld) (ap (map object_tree) c.as_slice.ensures.value ∙ same) c.all_held.ensures in
    subst (Meets S) (sym same) (accepted S j c.well_formed-2.ensures (c.in_ok-lists.ensures.1 ∙ c.in_ok-objects.ensures.0) held)

pub returns-clause-loaded : goal.returns-clause-loaded
returns-clause-loaded c =
    let S = c.args.schema.now in
    let j = view c.in_ok-value.value in
    let same : map object_tree c.in_ok-objects.objects.items ≡ written S j =
    c.in_ok-objects.ensures.1 ∙ joined_alike (λ os. map object_tree os.items) (objects_in j) c.in_ok-lists.lists.items S c.in_ok-lists.ensures.0 in
    record {
      value = j;
      reads = c.in_ok-value.ensures.ok;
      objects = written S j;
      writes = ap (λ o. or_objects o (written S j)) (c.in_ok-lists.ensures.1 ∙ c.in_ok-objects.ensures.0);
      exactly = subst (λ os. IsPermutation os c.in_ok-db.db.objects) same c.in_ok-db.ensures.objects;
      under = c.in_ok-db.ensures.under;
    }
