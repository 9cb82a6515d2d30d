use Rattle.std.proofs.Common.{ap, ◌∙◌, refl}
use Rattle.heap_system.specs.Locals.{is_done, op_wanted}
use Rattle.heap_system.specs.Machines.{State}
use Rattle.heap_system.proofs.work.TurnFacts.{cell_here, sum_here, reads_here, turn_made}
use Rattle.heap_system.proofs.system.event.Goals as goal

pub event-requires-clause-may : goal.event-requires-clause-may
event-requires-clause-may c =
    let s : State = record { words = c.args.words.now; locals = c.args.locals.now.items } in
    let op = op_wanted c.index_mut.result.now in (
      cell_here c.args.c.now s c.args.thread c.index_mut.result.now c.requires.reached c.requires.thread c.index_mut.ensures.value op refl,
      sum_here c.args.c.now s c.args.thread c.index_mut.result.now c.requires.reached c.requires.thread c.index_mut.ensures.value op refl,
    )

pub event-requires-clause-reads : goal.event-requires-clause-reads
event-requires-clause-reads c w new acted =
    reads_here c.args.c.now (record { words = c.args.words.now; locals = c.args.locals.now.items }) c.args.thread c.index_mut.result.now c.requires.reached c.requires.thread c.index_mut.ensures.value (op_wanted c.index_mut.result.now) refl w acted.0

pub returns-clause-state : goal.returns-clause-state
returns-clause-state c = (turn_made c.args.c.now (record { words = c.args.words.now; locals = c.args.locals.now.items }) c.args.thread c.index_mut.result.now c.requires.reached c.requires.thread c.index_mut.ensures.value (op_wanted c.index_mut.result.now) refl c.event.ensures.0 c.event.ensures.1.0 (ap is_done c.index_mut.ensures.value ∙ c.requires.open c.index_mut.result.now) c.event.new.memory c.event.new.self c.event.result c.event.ensures.1.1 c.event.ensures.2.0 c.event.ensures.2.1).state

pub returns-clause-answer : goal.returns-clause-answer
returns-clause-answer c = (turn_made c.args.c.now (record { words = c.args.words.now; locals = c.args.locals.now.items }) c.args.thread c.index_mut.result.now c.requires.reached c.requires.thread c.index_mut.ensures.value (op_wanted c.index_mut.result.now) refl c.event.ensures.0 c.event.ensures.1.0 (ap is_done c.index_mut.ensures.value ∙ c.requires.open c.index_mut.result.now) c.event.new.memory c.event.new.self c.event.result c.event.ensures.1.1 c.event.ensures.2.0 c.event.ensures.2.1).answered
