use Rattle.std.proofs.Common.{◌+◌, sym, subst, ◌∙◌}
use Rattle.shared_heap.specs.Pending.{IsPending}
use Rattle.shared_heap.proofs.Asking.{may_announce}
use Rattle.shared_heap.proofs.heap.SharedHeap.started.Goals as goal

pub announce-requires-clause-may : goal.announce-requires-clause-may
announce-requires-clause-may c =
    let w = c.who.inside in
    may_announce w.port.seat.me w.port.seat.table_id w.local w.count w.objects c.who.invariant.0 c.args.who c.args.command c.who.view_is c.requires.bounds c.requires.left

pub invariant_of-result : goal.invariant_of-result
invariant_of-result c =
    let w = c.who.inside in
    let z = c.announce.new in (
      subst (λ n. IsPending z.port.seat.me z.port.seat.table_id z.local (w.count + 1) (w.objects + n)) (sym c.objects_of.ensures) (c.announce.ensures.pending w.count w.objects c.who.invariant.0),
      c.who.invariant.1 ∙ sym c.announce.ensures.config,
    )
