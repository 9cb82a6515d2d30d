-- What a thread knows since it went in.
use Rattle.std.specs.Prelude.{◌-◌, ◌^◌, ◌<◌, ◌≤◌}
use Rattle.heap_machine.specs.declared.pass.Pass.{Pass}

-- the numbers of a pass are in range
pub record IsPass (p : Pass) : Type 0 where
  pub thread : p.thread < p.threads
  pub few : p.threads ≤ 16
  pub first : 1 ≤ p.cycle
  pub last : p.cycle ≤ 2 ^ 54 - 2
