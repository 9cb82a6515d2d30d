use Rattle.std.proofs.Common.{◌≡◌, ◌-◌, length, true}
use Rattle.heap_system.specs.declared.Turn.TheVariants.{Went}
use Rattle.heap_system.specs.ThreadMemories.{HasRun, MayRun, longest}
use Rattle.heap_system.specs.Locals.{is_build}
use Rattle.heap_system.proofs.local.Local.builds_on.Given as goal

abbrev pub invariant-loop : goal.invariant-loop
invariant-loop g l =
    (run : HasRun g.M.Memory.acts l.shared l.fn.memory l.fn.self l.memory l.self Went)
    × MayRun g.M.Memory.may g.M.Memory.acts (longest - l.counter) l.memory l.shared l.self
    × (is_build l.self.part ≡ true) × (length run.words ≡ l.counter)
