use Rattle.std.proofs.Common.{◌<◌, refl, length, map, subst, sym, ◌≡◌, ◌∙◌, [], arith}
use Rattle.std.proofs.lemmas.List.{length-map, get_or_default}
use Rattle.array_scripts.specs.Kinds.{AreOfThread}
use Rattle.array_scripts.proofs.EachThread.{one_more}
use Rattle.array_scripts.proofs.Items.{items_at, pushed_items}
use Rattle.array_scripts.proofs.jobs.traces.Goals as goal

pub trace_of-requires : goal.trace_of-requires
trace_of-requires g c =
    let ops = map (λ ops. ops.items) c.args.scripts.now in
    let low : c.loop-t.t < length ops =
    omega (arith, c.loop-t-test.true, length-map c.args.scripts.now (λ ops. ops.items)) in
    subst (AreOfThread g.K.Scripted.kind)
    (sym (c.deref.ensures.value
    ∙ items_at c.args.scripts.now c.loop-t.t c.index-scripts-t.result c.index-scripts-t.is (λ ops. ops.items)
    ∙ get_or_default ops c.loop-t.t c.index-scripts-t.result.items [] low)) (c.requires.fit c.loop-t.t)

pub loop-t-preserved : goal.loop-t-preserved
loop-t-preserved g c =
    let ops = map (λ ops. ops.items) c.args.scripts.now in
    let low : c.loop-t.t < length ops =
    omega (arith, c.loop-t-test.true, length-map c.args.scripts.now (λ ops. ops.items)) in
    one_more g.K.Runnable.commands ops c.loop-t.t c.index-scripts-t.result.items
    c.in_ok-trace_of.field-0.items (map (λ v. v.items) c.loop-t.traces.items)
    (map (λ v. v.items) c.push.new.self.items) _ low
    (items_at c.args.scripts.now c.loop-t.t c.index-scripts-t.result c.index-scripts-t.is
    (λ ops. ops.items))
    (subst (λ ops. c.in_ok-trace_of.field-0.items ≡ g.K.Runnable.commands c.loop-t.t ops)
    c.deref.ensures.value c.in_ok-trace_of.ensures)
    (pushed_items c.loop-t.traces.items c.push.new.self.items c.in_ok-trace_of.field-0
    c.in_ok-trace_of.field-0.items c.in_ok-push.ensures.items (λ v. v.items) refl)
    c.loop-t.invariant
