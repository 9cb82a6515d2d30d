use Rattle.std.proofs.Common.{◌≡◌, refl, sym, ap, ◌∙◌, subst, arith}
use Rattle.heap_machine.specs.declared.Outcome.{Outcome}
use Rattle.sweep_steps.specs.Rows.{SweepState, sweep_nothing}
use Rattle.heap_system.specs.declared.local.Local.TheInside.{Inside}
use Rattle.heap_system.specs.declared.rows.Row.TheVariants as rows
use Rattle.heap_system.specs.declared.Turn.TheVariants.{Went}
use Rattle.heap_system.specs.Parts.{Sweep}
use Rattle.heap_system.specs.ThreadMemories.{HasRunIn, MayRun}
use Rattle.heap_system.specs.Locals.{is_last}
use Rattle.heap_system.proofs.accounting.OwedAndPaid.{part_of, view_of}
use Rattle.heap_system.proofs.accounting.UnitMade.{units_few, spent_few, unit_owed, over_part, units_read, swept_owes}
use Rattle.heap_system.proofs.work.EventsInARow.{allowed, reads_well, leads_on, leads_at, going_in, none_made}
use Rattle.heap_system.proofs.work.RunEvents.{sweep_counted, behind_at, begins, ends, goes, sweep_stays}
use Rattle.heap_system.proofs.local.Local.sweeps.Goals as goal

pub event-step-requires-clause-may : goal.event-step-requires-clause-may
event-step-requires-clause-may g c =
    let inv = c.loop.invariant in
    let i : Inside = record c.loop.self-inside { row = rows.Sweep c.in-Sweep.owed c.loop.pass.row } in
    let at : part_of i ≡ Sweep c.loop.pass = sym (ap Sweep inv.3) in
    let lead = leads_at g.M.Memory.may g.M.Memory.acts c.args.most c.loop.counter (omega (arith, c.loop-test.true)) c.loop.memory
    c.args.shared.now (view_of i) inv.1 (going_in (view_of i) inv.0.fits refl) in
    allowed c.new-places.result (Sweep c.loop.pass) inv.2 at lead

pub event-step-requires-clause-reads : goal.event-step-requires-clause-reads
event-step-requires-clause-reads g c =
    let inv = c.loop.invariant in
    let i : Inside = record c.loop.self-inside { row = rows.Sweep c.in-Sweep.owed c.loop.pass.row } in
    let at : part_of i ≡ Sweep c.loop.pass = sym (ap Sweep inv.3) in
    let lead = leads_at g.M.Memory.may g.M.Memory.acts c.args.most c.loop.counter (omega (arith, c.loop-test.true)) c.loop.memory
    c.args.shared.now (view_of i) inv.1 (going_in (view_of i) inv.0.fits refl) in
    reads_well c.new-places.result (Sweep c.loop.pass) inv.2 at lead

pub count-requires-clause-owed : goal.count-requires-clause-owed
count-requires-clause-owed g c =
    let inv = c.loop.invariant in
    let i : Inside = record c.loop.self-inside { row = rows.Sweep c.in-Sweep.owed c.loop.pass.row } in
    let at : part_of i ≡ Sweep c.loop.pass = sym (ap Sweep inv.3) in
    let acted = c.event-step.ensures.acted in
    unit_owed i inv.0.fits inv.0.rate inv.0.object _ c.event-step.result.unit _
    (units_read (view_of i) _ _ c.deref.ensures.value c.deref-in-loop.ensures.value)
    (swept_owes i inv.0.fits c.loop.pass c.event-step.new.self at c.new-places.result acted.0 c.event-step.result.unit acted.2.0 (ap (λ (x : Outcome). x.unit) acted.2.1) c.event-step.ensures.fits)

pub count-requires-clause-few : goal.count-requires-clause-few
count-requires-clause-few g c =
    let k = c.loop.invariant.0 in
    let i : Inside = record c.loop.self-inside { row = rows.Sweep c.in-Sweep.owed c.loop.pass.row } in
    units_few i k.fits k.rate k.object

pub count-requires-clause-spent : goal.count-requires-clause-spent
count-requires-clause-spent g c =
    let k = c.loop.invariant.0 in
    let i : Inside = record c.loop.self-inside { row = rows.Sweep c.in-Sweep.owed c.loop.pass.row } in
    spent_few i k.fits k.rate k.object

pub invariant_of-self : goal.invariant_of-self
invariant_of-self g c =
    let inv = c.loop.invariant in
    let i : Inside = record c.loop.self-inside { row = rows.Sweep c.in-Sweep.owed c.loop.pass.row } in
    let at : part_of i ≡ Sweep c.loop.pass = sym (ap Sweep inv.3) in
    let acted = c.event-step.ensures.acted in
    let told = units_read (view_of i) _ _ c.deref.ensures.value c.deref-in-loop.ensures.value in
    let is = sweep_counted i inv.0.fits inv.0.rate inv.0.object c.new-places.result inv.2 acted.0 c.event-step.result c.count.new.account _
    c.count.new.spent c.count.ensures.account told c.count.ensures.spent c.loop.pass c.event-step.new.self at acted.2.0 acted.2.1 c.event-step.ensures.fits in
    let stays = sweep_stays i.pass.thread i.pass.cycle i.config.blocks c.in-Sweep.owed acted.0 c.loop.pass c.event-step.new.self acted.2.0 inv.3 in
    let back : over_part i (rows.Sweep c.in-Sweep.owed c.event-step.new.self.row) ≡ Sweep c.event-step.new.self = sym (ap Sweep stays) in
    let part = behind_at i (is_last c.event-step.result.step) (sweep_nothing c.event-step.new.self.row) (rows.Sweep c.in-Sweep.owed c.event-step.new.self.row) c.behind-self-inside.result (Sweep c.event-step.new.self) c.behind-self-inside.ensures back in
    (is.fits (over_part i c.behind-self-inside.result) part, is.rate, is.object, inv.0.room, inv.0.price)

pub returns-then-not-goes_on : goal.returns-then-not-goes_on
returns-then-not-goes_on g c =
    let inv = c.loop.invariant in
    let i : Inside = record c.loop.self-inside { row = rows.Sweep c.in-Sweep.owed c.loop.pass.row } in
    let at : part_of i ≡ Sweep c.loop.pass = sym (ap Sweep inv.3) in
    let lead = leads_at g.M.Memory.may g.M.Memory.acts c.args.most c.loop.counter (omega (arith, c.loop-test.true)) c.loop.memory
    c.args.shared.now (view_of i) inv.1 (going_in (view_of i) inv.0.fits refl) in
    let acted = c.event-step.ensures.acted in
    let told = units_read (view_of i) _ _ c.deref.ensures.value c.deref-in-loop.ensures.value in
    let is = sweep_counted i inv.0.fits inv.0.rate inv.0.object c.new-places.result inv.2 acted.0 c.event-step.result c.count.new.account _
    c.count.new.spent c.count.ensures.account told c.count.ensures.spent c.loop.pass c.event-step.new.self at acted.2.0 acted.2.1 c.event-step.ensures.fits in
    let by = (leads_on c.new-places.result (Sweep c.loop.pass) inv.2 at lead acted.0 c.event-step.new.memory acted.1).0 in
    let stays = sweep_stays i.pass.thread i.pass.cycle i.config.blocks c.in-Sweep.owed acted.0 c.loop.pass c.event-step.new.self acted.2.0 inv.3 in
    let back : over_part i (rows.Sweep c.in-Sweep.owed c.event-step.new.self.row) ≡ Sweep c.event-step.new.self = sym (ap Sweep stays) in
    let part = behind_at i (is_last c.event-step.result.step) (sweep_nothing c.event-step.new.self.row) (rows.Sweep c.in-Sweep.owed c.event-step.new.self.row) c.behind-self-inside.result (Sweep c.event-step.new.self) c.behind-self-inside.ensures back in
    ends g.M.Memory.may inv.0 c.args.most c.loop.counter inv.4 (omega (arith, c.loop-test.true)) inv.1 refl by is c.behind-self-inside.result part c.turn_after.result c.turn_after.ensures

pub loop-preserved : goal.loop-preserved
loop-preserved g c =
    let inv = c.loop.invariant in
    let i : Inside = record c.loop.self-inside { row = rows.Sweep c.in-Sweep.owed c.loop.pass.row } in
    let at : part_of i ≡ Sweep c.loop.pass = sym (ap Sweep inv.3) in
    let lead = leads_at g.M.Memory.may g.M.Memory.acts c.args.most c.loop.counter (omega (arith, c.loop-test.true)) c.loop.memory
    c.args.shared.now (view_of i) inv.1 (going_in (view_of i) inv.0.fits refl) in
    let acted = c.event-step.ensures.acted in
    let told = units_read (view_of i) _ _ c.deref.ensures.value c.deref-in-loop.ensures.value in
    let is = sweep_counted i inv.0.fits inv.0.rate inv.0.object c.new-places.result inv.2 acted.0 c.event-step.result c.count.new.account _
    c.count.new.spent c.count.ensures.account told c.count.ensures.spent c.loop.pass c.event-step.new.self at acted.2.0 acted.2.1 c.event-step.ensures.fits in
    let by = (leads_on c.new-places.result (Sweep c.loop.pass) inv.2 at lead acted.0 c.event-step.new.memory acted.1).0 in
    let stays = sweep_stays i.pass.thread i.pass.cycle i.config.blocks c.in-Sweep.owed acted.0 c.loop.pass c.event-step.new.self acted.2.0 inv.3 in
    let back : over_part i (rows.Sweep c.in-Sweep.owed c.event-step.new.self.row) ≡ Sweep c.event-step.new.self = sym (ap Sweep stays) in
    let on = goes g.M.Memory.may inv.0 c.args.most c.loop.counter inv.4 (omega (arith, c.loop-test.true)) inv.1 refl by is
    (rows.Sweep c.in-Sweep.owed c.event-step.new.self.row) back (sym c.goes_on.ensures ∙ c.if-not-goes_on.false) in
    (on.0, on.1, inv.2, stays, on.2)

pub loop-init : goal.loop-init
loop-init g c =
    let k = c.self.invariant in
    let row : over_part c.self.inside (rows.Sweep c.in-Sweep.owed c.at_row-pass.result.row) ≡ part_of c.self.inside =
    ap (λ (s : SweepState). over_part c.self.inside (rows.Sweep c.in-Sweep.owed s.row)) c.at_row-pass.ensures ∙ sym (ap (over_part c.self.inside) c.in-Sweep.is) in
    let first = begins g.M.Memory.acts c.args.shared.now c.args.memory.now c.args.self.now c.self.inside
    (rows.Sweep c.in-Sweep.owed c.at_row-pass.result.row) k.0 k.1 k.2 k.3 k.4 c.self.view_is row in (
      first.0,
      none_made g.M.Memory.may g.M.Memory.acts c.args.most c.args.memory.now c.args.shared.now _ (subst (MayRun g.M.Memory.may g.M.Memory.acts c.args.most c.args.memory.now c.args.shared.now)
          (sym ((λ j. record (view_of c.self.inside) { part = row j }) ∙ c.self.view_is)) c.requires.may),
      c.new-places.ensures,
      c.at_row-pass.ensures ∙ (λ j. record {
        thread = c.self.inside.pass.thread;
        cycle = c.self.inside.pass.cycle;
        blocks = c.self.inside.config.blocks;
        owed = c.in-Sweep.owed;
        row = ap (λ (s : SweepState). s.row) (sym c.at_row-pass.ensures) j;
      }),
      first.1,
    )

pub returns : goal.returns
returns g c =
    let inv = c.loop.invariant in
    let here = ap (λ r. view_of (record c.loop.self-inside { row = rows.Sweep c.in-Sweep.owed r })) (sym c.row-row.ensures) in
    subst (λ l. HasRunIn c.args.most g.M.Memory.acts c.args.shared.now c.args.memory.now c.args.self.now c.loop.memory l Went) here
    (inv.0.run, omega (arith, inv.4, c.loop-test.false, c.requires.some), omega (arith, inv.4, c.loop-test.false))
