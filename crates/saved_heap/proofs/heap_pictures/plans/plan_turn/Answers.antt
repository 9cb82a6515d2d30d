use Rattle.std.proofs.Common.{Result, Ok, Err, OnOk, arith}
use Rattle.saved_heap.specs.heap_pictures.Pictures.{content_of, view}
use Rattle.saved_heap.proofs.heap_pictures.Turns.{content_next, count_is, object_at, object_next, object_short}
use Rattle.saved_heap.proofs.heap_pictures.plans.plan_turn.Goals as goal

pub plan_object-requires : goal.plan_object-requires
plan_object-requires c =
    object_short c.args.picture.now c.requires.sound _ c.index.result.now
    (omega (arith, c.if-done-eq0.false, c.if-done-objects.true, c.len-objects.ensures)) c.index.ensures

on_ok : {A E : Type 0} {P Q : Type 0} → (P → Q) → (r : Result A E) → OnOk r P → OnOk r Q
on_ok f (Ok x) p = f p
on_ok f (Err e) p = tt

pub returns-then-done-objects : goal.returns-then-done-objects
returns-then-done-objects c =
    let p = content_of c.args.picture.now in
    let n = count_is c.args.picture.now in
    on_ok (object_next p c.args.done (view c.index.result.now) (omega (arith, c.if-done-eq0.false))
    (omega (arith, c.if-done-objects.true, c.len-objects.ensures, n))
    (object_at c.args.picture.now _ c.index.result.now c.index.ensures)
    c.args.plan.now.items c.plan_object.new.plan.items) c.plan_object.result c.plan_object.ensures

pub returns-then-done-objects-2 : goal.returns-then-done-objects-2
returns-then-done-objects-2 c =
    let p = content_of c.args.picture.now in
    let n = count_is c.args.picture.now in
    on_ok (content_next p c.args.done _ (view c.index-then-done-objects-2.result.now)
    (omega (arith, c.if-done-objects.false, c.len-objects.ensures, n))
    (omega (arith, c.if-done-objects-2.true, c.len-objects.ensures, n))
    (omega (arith, c.len-objects.ensures, n))
    (object_at c.args.picture.now _ c.index-then-done-objects-2.result.now c.index-then-done-objects-2.ensures)
    c.args.plan.now.items c.plan_content.new.plan.items) c.plan_content.result c.plan_content.ensures
