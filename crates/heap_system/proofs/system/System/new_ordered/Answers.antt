use Rattle.std.proofs.Common.{◌≡◌, ◌≤◌, List, map, sym, ap, subst, arith, Vec, Global}
use Rattle.never_heap.specs.declared.Command.{Command}
use Rattle.heap_system.specs.Machines.{IsOpening}
use Rattle.heap_system.specs.Systems.{Whole, commands_in}
use Rattle.heap_system.proofs.history.OrderKept.{opening_in_order}
use Rattle.heap_system.proofs.system.System.new_ordered.Goals as goal

-- the trace of a vector
abbrev items_of : Vec Command Global → List Command
items_of v = v.items

pub room_for-requires-clause-commands : goal.room_for-requires-clause-commands
room_for-requires-clause-commands c = subst (λ xs. commands_in (map items_of xs) ≤ 4294967296) (sym c.deref.ensures.value) c.requires.few

pub invariant_of-result : goal.invariant_of-result
invariant_of-result c =
    let same : commands_in (map items_of c.deref.result.now) ≡ commands_in (map items_of c.args.traces.items) = ap (λ xs. commands_in (map items_of xs)) c.deref.ensures.value in
    opening_in_order c.args.c (record { words = c.system.inside.words; locals = c.system.inside.locals.items }) (map items_of c.args.traces.items) c.requires.job (subst (λ (w : Whole). IsOpening c.args.c (map items_of c.args.traces.items) w.state) (sym c.system.view_is) c.in_ok-system.ensures.opening) c.args.turns c.in_ok-order.order c.in_ok-order.ensures.order (omega (arith, same, c.room_for.ensures, c.in_ok-order.ensures.room))
