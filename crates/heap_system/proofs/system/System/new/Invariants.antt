use Rattle.std.proofs.Common.{◌≡◌, ◌++◌, length, map}
use Rattle.std.specs.Vec.Iter.{into_iter_items, into_iter_len}
use Rattle.heap_system.proofs.openings.SystemStart.{AllStart}
use Rattle.heap_system.proofs.system.System.new.Given as goal

abbrev pub invariant-loop-trace : goal.invariant-loop-trace
invariant-loop-trace l =
    (l.yielded ++ into_iter_items l.trace-iterator ≡ l.fn.traces.items)
    × (into_iter_len l.trace-iterator ≡ length (into_iter_items l.trace-iterator))
    × AllStart l.c l.locals.items (map (λ v. v.items) l.yielded)
    × ((goal.iterator-loop-trace).can_next l.trace-iterator) × ((goal.iterator-loop-trace).is_finite l.trace-iterator)
