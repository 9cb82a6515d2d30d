use Rattle.std.proofs.Common.{◌∙◌, ◌-◌, sym, ap, arith}
use Rattle.heap_system.specs.Systems.{Whole}
use Rattle.rtheap_core.specs.schedules.Nexts.{after_next}
use Rattle.rtheap_core.proofs.schedules.LeftTurns.{left_turns, next_after, below_stays, goes_on, stopped, room_stays, room_left}
use Rattle.rtheap_core.proofs.schedules.replaying.replay.Goals as goal

pub returns-in_err-least-clause-state : goal.returns-in_err-least-clause-state
returns-in_err-least-clause-state c = stopped c.args.schedule c.loop-turn.system (left_turns c.args.schedule c.args.system.now 0 c.args.turns) c.loop-turn._turn (c.args.turns - c.loop-turn._turn) c.in_err-least.ensures.done c.loop-turn.invariant.5

pub loop-turn-preserved : goal.loop-turn-preserved
loop-turn-preserved c = (
  c.loop-turn.invariant.0,
  c.loop-turn.invariant.1 ∙ sym (ap (λ (w : Whole). w.config.threads) c.turn.ensures.state),
  c.thread-thread.ensures.next ∙ ap (after_next c.config.result.now.threads) c.loop-turn.invariant.2 ∙ next_after c.args.schedule c.config.result.now.threads c.loop-turn._turn c.loop-turn.invariant.0,
  below_stays c.loop-turn.system c.turn.new.self c.thread-thread.result c.in_ok-least.least c.turn.ensures.state c.in_ok-least.ensures.undone.least,
  room_stays c.loop-turn.system c.turn.new.self c.thread-thread.result c.args.turns c.loop-turn._turn (omega arith) c.turn.ensures.state c.loop-turn.invariant.4,
  goes_on c.args.schedule c.loop-turn.system c.turn.new.self (left_turns c.args.schedule c.args.system.now 0 c.args.turns) c.loop-turn.next c.config.result.now.threads c.loop-turn._turn c.args.turns c.in_ok-least.least c.thread-thread.result
      c.loop-turn.invariant.1 (omega arith) (sym c.in_ok-least.ensures.value) c.loop-turn.invariant.2 c.thread-thread.ensures.thread c.turn.ensures.state c.loop-turn.invariant.5,
)

pub turn-requires-clause-left : goal.turn-requires-clause-left
turn-requires-clause-left c = room_left 0 (c.args.turns - c.loop-turn._turn) c.loop-turn.system.ordered (omega arith) c.loop-turn.invariant.4
