use Rattle.saved_heap.specs.Walks.{state_of}
use Rattle.saved_heap.proofs.Walking.{read_more}
use Rattle.saved_heap.proofs.walk.Found.values.Goals as goal

pub loop-one-preserved : goal.loop-one-preserved
loop-one-preserved c =
    read_more (state_of c.args.self.now) (state_of c.loop-one.self) (state_of c.value.new.self) c.args.seen.now c.loop-one.one-index _
    c.loop-one.values.items c.push.new.self.items c.in_ok-value.field-0 c.loop-one-test.true c.in_ok-push.ensures.items c.loop-one.invariant c.in_ok-value.ensures
