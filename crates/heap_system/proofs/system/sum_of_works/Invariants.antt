use Rattle.std.proofs.Common.{◌≡◌, ◌≤◌, ◌*◌, length, map, take}
use Rattle.heap_system.specs.Locals.{LocalState}
use Rattle.heap_system.specs.Systems.{units_of}
use Rattle.heap_system.proofs.system.sum_of_works.Given as goal

abbrev pub invariant-loop-local : goal.invariant-loop-local
invariant-loop-local l = (l.sum ≡ units_of (map (λ (x : LocalState). x.log) (take l.local-index l.locals))) × (l.sum ≤ l.local-index * 35184372088832) × (l.local-index ≤ length l.locals)
