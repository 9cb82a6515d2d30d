use Rattle.std.proofs.Common.{◌≡◌, ◌+◌, ap, sym, subst, ◌∙◌, arith}
use Rattle.heap_system.specs.Lives.{objects_of}
use Rattle.shared_heap.specs.declared.port.Port.{Port}
use Rattle.shared_heap.specs.Pending.{pending_of, start_pending}
use Rattle.shared_heap.specs.Shared.{held_of}
use Rattle.shared_heap.specs.Workers.{HeapState, WorkerState, IsMirrored}
use Rattle.shared_heap.proofs.Answering.{Events, HasEnded, ended, entry_now, has_thread, kept_now, made_whole, worker_at}
use Rattle.shared_heap.proofs.Asking.{may_announce}
use Rattle.shared_heap.proofs.ThreadAfterEvents.{ran_on}
use Rattle.shared_heap.proofs.heap.SharedHeap.request.Given.{Over}
use Rattle.shared_heap.proofs.heap.SharedHeap.request.Goals as goal
use Rattle.shared_heap.proofs.heap.SharedHeap.request.Goals.{After-drives}

pub announce-requires-clause-table : goal.announce-requires-clause-table
announce-requires-clause-table g c =
    (ap (λ (x : WorkerState). x.heap) c.who.view_is ∙ c.requires.heap ∙ sym (ap (λ (x : HeapState). x.id) c.self.view_is), c.self.invariant.1, omega (arith, c.self.invariant.2))

pub announce-requires-clause-may : goal.announce-requires-clause-may
announce-requires-clause-may g c =
    let w = c.who.inside in
    may_announce w.port.seat.me w.port.seat.table_id w.local w.count w.objects c.who.invariant.0 c.args.who.now c.args.command c.who.view_is c.requires.bounds c.requires.left

pub drives-requires : goal.drives-requires
drives-requires g c =
    let w = c.who.inside in
    let begun = c.announce.new in
    let same = c.announce.ensures.table ∙ ap (λ (x : WorkerState). x.heap) c.who.view_is ∙ c.requires.heap ∙ sym (ap (λ (x : HeapState). x.id) c.self.view_is) in
    (search, has_thread begun.port.seat.me begun.port.seat.table_id begun.local (w.count + 1) (w.objects + objects_of c.args.command) (c.announce.ensures.pending w.count w.objects c.who.invariant.0) c.self.inside.table.shared.table_id same)

-- the events that it makes
abbrev events : (g : Over) (c : After-drives g)
    → Events c.announce.new.port c.announce.new.local (c.who.inside.count + 1)
    (c.who.inside.objects + objects_of c.args.command) c.drives.new.memory c.drives.new.local
events g c =
    let w = c.who.inside in
    let shared = c.self.inside.table.shared in
    let begun = c.announce.new in
    let z = c.drives.new in
    let run = c.drives.ensures.driven in
    record {
      is = c.announce.ensures.pending w.count w.objects c.who.invariant.0;
      shared = shared.table_id;
      same = c.announce.ensures.table ∙ ap (λ (x : WorkerState). x.heap) c.who.view_is ∙ c.requires.heap ∙ sym (ap (λ (x : HeapState). x.id) c.self.view_is);
      has = c.drives.ensures.stands;
      words = run.words;
      on = ran_on _ (λ (p : Port). p.seat.me) (λ p. p.seat.table_id) (λ p. p.seat.id) (λ m s o w n turned. turned) shared begun.port begun.local run.words z.memory z.local run.ran;
    }

-- the value that it was announced with
began : (g : Over) (c : After-drives g)
    → pending_of c.announce.new.port.seat.table_id
    (held_of c.announce.new.local c.announce.new.port.seat.me.0.threads)
    ≡ start_pending c.args.who.now c.args.command
began g c = c.announce.ensures.value ∙ ap (λ x. start_pending x c.args.command) c.who.view_is

at_end : (g : Over) (c : After-drives g)
    → HasEnded (start_pending c.args.who.now c.args.command) c.drives.new.local
    (worker_at c.drives.new.memory c.drives.new.local)
at_end g c = ended (events g c) c.drives.ensures.done (start_pending c.args.who.now c.args.command) (began g c)

pub reply_of-requires : goal.reply_of-requires
reply_of-requires g c = entry_now (events g (goal.at.reply_of-requires g c).After-drives) c.drives.ensures.done

pub invariant_of-who : goal.invariant_of-who
invariant_of-who g c =
    let w = c.who.inside in
    let z = c.drives.new in (
      subst (λ n. IsMirrored z.memory.seat.me z.memory.seat.table_id z.local (w.count + 1) (w.objects + n)) (sym c.objects_of.ensures)
          (kept_now (events g (goal.at.invariant_of-who g c).After-drives) c.drives.ensures.done),
      c.who.invariant.1 ∙ sym ((events g (goal.at.invariant_of-who g c).After-drives).on.config ∙ c.announce.ensures.config),
    )

pub returns-clause-same : goal.returns-clause-same
returns-clause-same g c = (at_end g (goal.at.returns-clause-same g c).After-drives).is_same

pub returns-clause-answered : goal.returns-clause-answered
returns-clause-answered g c = (at_end g (goal.at.returns-clause-answered g c).After-drives).has_answered _ c.reply_of.ensures

pub returns-clause-made : goal.returns-clause-made
returns-clause-made g c =
    let past = (goal.at.returns-clause-made g c).After-drives in
    made_whole (events g past) c.args.who.now c.args.command (began g past)

pub returns-clause-in_time : goal.returns-clause-in_time
returns-clause-in_time g c = (at_end g (goal.at.returns-clause-in_time g c).After-drives).is_in_time
