use Rattle.std.proofs.Common.{◌≡◌, ◌≤◌, ◌<◌, [], refl, length, map, slice_index_or, subst, sym, arith}
use Rattle.std.proofs.lemmas.List.{length-map}
use Rattle.never_heap.specs.declared.Entry.{Entry}
use Rattle.array_scripts.proofs.EachThread.{one_more, all_made, enough, logs_count}
use Rattle.array_scripts.proofs.Items.{items_at, pushed_items}
use Rattle.array_scripts.proofs.jobs.all_answers.Goals as goal

pub answers-requires : goal.answers-requires
answers-requires g c =
    subst (λ ops. length (g.K.Runnable.commands c.loop-t.t ops) ≤ length c.entries.result.now)
    (sym c.deref.ensures.value)
    (enough g.K.Runnable.commands (map (λ ops. ops.items) c.args.scripts.now)
    (g.L.Logs.logs c.args.run.now) c.requires c.loop-t.t c.index-scripts-t.result.items
    c.entries.result.now (omega (arith, c.loop-t-test.true, c.threads-t-end.ensures))
    (items_at c.args.scripts.now c.loop-t.t c.index-scripts-t.result c.index-scripts-t.is
    (λ ops. ops.items)) c.entries.ensures)

pub bounds-scripts-t : goal.bounds-scripts-t
bounds-scripts-t g c =
    omega (
      arith,
      c.loop-t-test.true,
      c.threads-t-end.ensures,
      logs_count g.K.Runnable.commands (map (λ ops. ops.items) c.args.scripts.now)
          (g.L.Logs.logs c.args.run.now) c.requires,
      length-map c.args.scripts.now (λ ops. ops.items),
    )

pub loop-t-preserved : goal.loop-t-preserved
loop-t-preserved g c =
    let logs = g.L.Logs.logs c.args.run.now in
    let scripts = map (λ ops. ops.items) c.args.scripts.now in
    let there : c.loop-t.t < length logs =
    omega (arith, c.loop-t-test.true, c.threads-t-end.ensures) in
    one_more (λ t ops. g.K.Runnable.told t ops (map (λ (e : Entry). e.reply) (slice_index_or logs t [])))
    scripts c.loop-t.t c.index-scripts-t.result.items c.in_ok-answers.field-0.items
    (map (λ v. v.items) c.loop-t.told.items) (map (λ v. v.items) c.push.new.self.items) _
    (omega (arith, there, logs_count g.K.Runnable.commands scripts logs c.requires))
    (items_at c.args.scripts.now c.loop-t.t c.index-scripts-t.result c.index-scripts-t.is
    (λ ops. ops.items))
    (subst (λ log. c.in_ok-answers.field-0.items ≡ g.K.Runnable.told c.loop-t.t
    c.index-scripts-t.result.items (map (λ (e : Entry). e.reply) log)) c.entries.ensures
    (subst (λ ops. c.in_ok-answers.field-0.items ≡ g.K.Runnable.told c.loop-t.t ops
    (map (λ (e : Entry). e.reply) c.entries.result.now)) c.deref.ensures.value c.in_ok-answers.ensures))
    (pushed_items c.loop-t.told.items c.push.new.self.items c.in_ok-answers.field-0
    c.in_ok-answers.field-0.items c.in_ok-push.ensures.items (λ v. v.items) refl)
    c.loop-t.invariant

pub returns : goal.returns
returns g c =
    let logs = g.L.Logs.logs c.args.run.now in
    let scripts = map (λ ops. ops.items) c.args.scripts.now in
    all_made (λ t ops. g.K.Runnable.told t ops (map (λ (e : Entry). e.reply) (slice_index_or logs t [])))
    scripts c.loop-t.t (map (λ v. v.items) c.loop-t.told.items) _
    (omega (
      arith,
      c.loop-t-test.false,
      c.threads-t-end.ensures,
      logs_count g.K.Runnable.commands scripts logs c.requires,
    )) c.loop-t.invariant
