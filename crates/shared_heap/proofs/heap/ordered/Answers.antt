use Rattle.std.proofs.Common.{◌<◌, arith, length, ap, subst, sym, List}
use Rattle.shared_heap.specs.Workers.{WorkerState}
use Rattle.shared_heap.proofs.WorkersInOrder.{is_at, sorted_none, sorted_more}
use Rattle.shared_heap.proofs.heap.ordered.Goals as goal

pub loop-t-init : goal.loop-t-init
loop-t-init c = (omega arith, sorted_none c.args.threads c.args.who.items c.requires.count c.requires.each)

pub place_of-at-requires : goal.place_of-at-requires
place_of-at-requires c =
    let s = c.loop-t.invariant.1 in
    let j = s.later c.loop-t.t (omega arith) c.loop-t-test.true in
    let low : j.0 < length c.deref.result.now = omega (arith, j.2, s.count, ap length c.deref.ensures.value) in
    (j.0, j.1, low, subst (λ (hs : List WorkerState). is_at hs j.0 c.loop-t.t) (sym c.deref.ensures.value) j.3)

pub loop-t-preserved : goal.loop-t-preserved
loop-t-preserved c =
    let s = c.loop-t.invariant.1 in
    let below : c.place_of-at.result < c.args.threads = omega (arith, c.place_of-at.ensures.low.1, s.count, ap length c.deref.ensures.value) in (
      omega (arith, c.loop-t-test.true),
      sorted_more c.loop-t.t c.place_of-at.result c.args.threads c.loop-t.workers.items c.swap.new.self.items c.args.who.items s c.loop-t-test.true c.place_of-at.ensures.low.0 below
          (subst (λ (hs : List WorkerState). is_at hs c.place_of-at.result c.loop-t.t) c.deref.ensures.value c.place_of-at.ensures.here) (omega (arith, c.swap.ensures.len, c.swap.new.self.ok.0, c.loop-t.workers.ok.0)) c.swap.ensures.by_index,
    )
