use Rattle.heap_system.proofs.history.OrderKept.{long_here, phase_here, long_after, phase_after, room_met, kept_on, order_on}
use Rattle.heap_system.proofs.system.ordered_event.Goals as goal

pub cycle_in-cycle-requires-clause-there : goal.cycle_in-cycle-requires-clause-there
cycle_in-cycle-requires-clause-there c = long_here c.args.c.now (record { words = c.args.words.now; locals = c.args.locals.now.items }) c.requires.kept.reached

pub cycle_in-cycle-requires-clause-phase : goal.cycle_in-cycle-requires-clause-phase
cycle_in-cycle-requires-clause-phase c = phase_here c.args.c.now (record { words = c.args.words.now; locals = c.args.locals.now.items }) c.requires.kept.reached

pub cycle_in-requires-clause-there : goal.cycle_in-requires-clause-there
cycle_in-requires-clause-there c = long_after c.args.c.now (record { words = c.args.words.now; locals = c.args.locals.now.items }) c.requires.kept.reached c.args.thread (record { words = c.event-turn.new.words; locals = c.event-turn.new.locals.items }) c.event-turn.ensures.state

pub cycle_in-requires-clause-phase : goal.cycle_in-requires-clause-phase
cycle_in-requires-clause-phase c = phase_after c.args.c.now (record { words = c.args.words.now; locals = c.args.locals.now.items }) c.requires.kept.reached c.args.thread (record { words = c.event-turn.new.words; locals = c.event-turn.new.locals.items }) c.event-turn.ensures.state

pub add-requires-clause-room : goal.add-requires-clause-room
add-requires-clause-room c = room_met c.args.c.now (record { words = c.args.words.now; locals = c.args.locals.now.items }) c.requires.kept.reached c.args.thread c.requires.thread c.requires.open c.args.order.now c.requires.kept.kept c.requires.left (record { words = c.event-turn.new.words; locals = c.event-turn.new.locals.items }) c.event-turn.ensures.state c.index.result.now c.index-2.result.now c.index.ensures c.index-2.ensures c.commands_decided-decided.result c.commands_decided.result c.cycle_in-cycle.result c.cycle_in.result c.commands_decided-decided.ensures c.commands_decided.ensures c.cycle_in-cycle.ensures c.cycle_in.ensures

pub returns-clause-kept : goal.returns-clause-kept
returns-clause-kept c = kept_on c.args.c.now (record { words = c.args.words.now; locals = c.args.locals.now.items }) c.requires.kept.reached c.args.thread c.requires.thread c.requires.open c.args.order.now c.requires.kept.kept c.requires.left (record { words = c.event-turn.new.words; locals = c.event-turn.new.locals.items }) c.event-turn.ensures.state c.index.result.now c.index-2.result.now c.index.ensures c.index-2.ensures c.commands_decided-decided.result c.commands_decided.result c.cycle_in-cycle.result c.cycle_in.result c.commands_decided-decided.ensures c.commands_decided.ensures c.cycle_in-cycle.ensures c.cycle_in.ensures c.add.new.self c.add.ensures.items c.add.ensures.room c.add.ensures.left

pub returns-clause-order : goal.returns-clause-order
returns-clause-order c = order_on c.args.c.now (record { words = c.args.words.now; locals = c.args.locals.now.items }) c.requires.kept.reached c.args.thread c.requires.thread c.requires.open c.args.order.now c.requires.kept.kept c.requires.left (record { words = c.event-turn.new.words; locals = c.event-turn.new.locals.items }) c.event-turn.ensures.state c.index.result.now c.index-2.result.now c.index.ensures c.index-2.ensures c.commands_decided-decided.result c.commands_decided.result c.cycle_in-cycle.result c.cycle_in.result c.commands_decided-decided.ensures c.commands_decided.ensures c.cycle_in-cycle.ensures c.cycle_in.ensures c.add.new.self c.add.ensures.items c.add.ensures.room c.add.ensures.left
