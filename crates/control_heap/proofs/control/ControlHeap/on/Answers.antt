use Rattle.std.proofs.Common.{ap, ◌∙◌}
use Rattle.never_heap.specs.declared.Command.TheVariants as commands
use Rattle.heap_system.specs.Locals.{at_start}
use Rattle.control_heap.proofs.OpeningRun.{stands_first}
use Rattle.control_heap.proofs.control.ControlHeap.on.Goals as goal

pub invariant_of-result : goal.invariant_of-result
invariant_of-result g c =
    let all = stands_first c.args.memory c.args.c c.requires.can.bounds c.requires.can.plan c.requires.can.single (g.M.Store.shows c.args.memory) c.requires.count c.requires.words c.in_ok-thread.thread (commands.Nil 0) c.in_ok-thread.ensures.0 c.in_ok-thread.ensures.1
    (c.in_ok-thread.ensures.2 ∙ ap (at_start c.args.c c.in_ok-thread.thread.rate c.in_ok-thread.thread.space 0) c.in_ok-first.ensures.items) in (all.0, all.1)

pub returns-clause-stands : goal.returns-clause-stands
returns-clause-stands g c = stands_first c.args.memory c.args.c c.requires.can.bounds c.requires.can.plan c.requires.can.single (g.M.Store.shows c.args.memory) c.requires.count c.requires.words c.in_ok-thread.thread (commands.Nil 0) c.in_ok-thread.ensures.0 c.in_ok-thread.ensures.1
    (c.in_ok-thread.ensures.2 ∙ ap (at_start c.args.c c.in_ok-thread.thread.rate c.in_ok-thread.thread.space 0) c.in_ok-first.ensures.items)
