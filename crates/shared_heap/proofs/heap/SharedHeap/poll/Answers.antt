use Rattle.std.proofs.Common.{◌≡◌, true, ap, sym, ◌∙◌}
use Rattle.heap_system.specs.Locals.{is_done}
use Rattle.shared_heap.specs.declared.port.Port.{Port}
use Rattle.shared_heap.specs.Pending.{PendingState}
use Rattle.shared_heap.specs.Workers.{HeapState}
use Rattle.shared_heap.proofs.Answering.{Events, HasEnded, ended, entry_now, has_thread, kept_now, made_more, pending_now, still_pending, worker_at}
use Rattle.shared_heap.proofs.ThreadAfterEvents.{ran_on}
use Rattle.shared_heap.proofs.heap.SharedHeap.poll.Goals as goal
use Rattle.shared_heap.proofs.heap.SharedHeap.poll.Goals.{After-drives_some}

pub drives_some-requires : goal.drives_some-requires
drives_some-requires c =
    let w = c.pending.inside in
    record { stands = has_thread w.port.seat.me w.port.seat.table_id w.local w.count w.objects c.pending.invariant.0 c.self.inside.table.shared.table_id (ap (λ (x : PendingState). x.heap) c.pending.view_is ∙ c.requires ∙ sym (ap (λ (x : HeapState). x.id) c.self.view_is)) }

-- the events that it makes
abbrev events : (c : After-drives_some)
    → Events c.pending.inside.port c.pending.inside.local c.pending.inside.count
    c.pending.inside.objects c.drives_some.new.memory c.drives_some.new.local
events c =
    let w = c.pending.inside in
    let shared = c.self.inside.table.shared in
    let z = c.drives_some.new in
    let run = c.drives_some.ensures.driven in
    record {
      is = c.pending.invariant.0;
      shared = shared.table_id;
      same = ap (λ (x : PendingState). x.heap) c.pending.view_is ∙ c.requires ∙ sym (ap (λ (x : HeapState). x.id) c.self.view_is);
      has = c.drives_some.ensures.stands;
      words = run.words;
      on = ran_on _ (λ (p : Port). p.seat.me) (λ p. p.seat.table_id) (λ p. p.seat.id) (λ m s o w n turned. turned) shared w.port w.local run.words z.memory z.local run.ran;
    }

pub invariant_of-result : goal.invariant_of-result
invariant_of-result c = (pending_now (events (goal.at.invariant_of-result c).After-drives_some), c.pending.invariant.1 ∙ sym (events (goal.at.invariant_of-result c).After-drives_some).on.config)

pub returns-then-not-done-clause-still : goal.returns-then-not-done-clause-still
returns-then-not-done-clause-still c =
    let run = c.drives_some.ensures.driven in
    still_pending (events (goal.at.returns-then-not-done-clause-still c).After-drives_some) c.args.pending c.pending.view_is c.args.most run.few run.far (sym c.done.ensures ∙ c.if-not-done.true)

pub reply_of-reply-requires : goal.reply_of-reply-requires
reply_of-reply-requires c = entry_now (events (goal.at.reply_of-reply-requires c).After-drives_some) (sym c.done.ensures ∙ c.if-not-done.false)

pub invariant_of-worker : goal.invariant_of-worker
invariant_of-worker c = (kept_now (events (goal.at.invariant_of-worker c).After-drives_some) (sym c.done.ensures ∙ c.if-not-done.false), c.pending.invariant.1 ∙ sym (events (goal.at.invariant_of-worker c).After-drives_some).on.config)

at_end : (c : After-drives_some) → is_done c.drives_some.new.local ≡ true
    → HasEnded c.args.pending c.drives_some.new.local
    (worker_at c.drives_some.new.memory c.drives_some.new.local)
at_end c done = ended (events c) done c.args.pending c.pending.view_is

pub returns-clause-same : goal.returns-clause-same
returns-clause-same c = (at_end (goal.at.returns-clause-same c).After-drives_some (sym c.done.ensures ∙ c.if-not-done.false)).is_same

pub returns-clause-answered : goal.returns-clause-answered
returns-clause-answered c = (at_end (goal.at.returns-clause-answered c).After-drives_some (sym c.done.ensures ∙ c.if-not-done.false)).has_answered _ c.reply_of-reply.ensures

pub returns-clause-made : goal.returns-clause-made
returns-clause-made c =
    let run = c.drives_some.ensures.driven in
    made_more (events (goal.at.returns-clause-made c).After-drives_some) c.args.pending c.pending.view_is c.args.most run.few run.far

pub returns-clause-in_time : goal.returns-clause-in_time
returns-clause-in_time c = (at_end (goal.at.returns-clause-in_time c).After-drives_some (sym c.done.ensures ∙ c.if-not-done.false)).is_in_time
