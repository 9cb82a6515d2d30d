use Rattle.std.proofs.Common.{refl}
use Rattle.heap_system.specs.Machines.{local_at, word_read}
use Rattle.heap_system.proofs.work.WaitingTurns.{part_waits, done_stays}
use Rattle.heap_system.proofs.laws.turns_wait.Goals as goal

pub returns-clause-waits : goal.returns-clause-waits
returns-clause-waits _ c t s e = rw e (part_waits c (local_at c s t).part (word_read c s (local_at c s t)))

pub returns-clause-rows : goal.returns-clause-rows
returns-clause-rows _ c p w = part_waits c p w

pub returns-clause-done : goal.returns-clause-done
returns-clause-done _ c t s e = (rw e refl, done_stays c t s e)
