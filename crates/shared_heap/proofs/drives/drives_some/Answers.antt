use Rattle.std.proofs.Common.{arith}
use Rattle.shared_heap.proofs.Driven.{driven_waits, made_more}
use Rattle.shared_heap.proofs.drives.drives_some.Goals as goal

pub returns-then-has_waited-clause-driven : goal.returns-then-has_waited-clause-driven
returns-then-has_waited-clause-driven g c = driven_waits g.C.Memory.acts c.args.shared.now c.args.memory.now c.args.local.now c.loop-made.memory c.loop-made.local c.loop-made._made c.loop-made.invariant.0 c.one_event-turn.new.memory c.one_event-turn.new.local c.one_event-turn.result c.one_event-turn.ensures.run c.args.most (omega (arith, c.loop-made-test.true)) (search)

pub loop-made-preserved : goal.loop-made-preserved
loop-made-preserved g c = (
  made_more g.C.Memory.acts c.args.shared.now c.args.memory.now c.args.local.now c.loop-made.memory c.loop-made.local c.loop-made._made c.loop-made.invariant.0 c.one_event-turn.new.memory c.one_event-turn.new.local c.one_event-turn.result c.one_event-turn.ensures.run,
  c.one_event-turn.ensures.stands,
  omega (arith, c.loop-made-test.true),
)
