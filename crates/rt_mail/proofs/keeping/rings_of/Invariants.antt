-- The traces so far and those of the threads that are left are all traces.
use Rattle.std.proofs.Common.{◌≡◌, ◌++◌, drop, map}
use Rattle.array_tables.specs.number_rings.Rings.{ring_traces}
use Rattle.rt_mail.proofs.RingJob.{traces_from}
use Rattle.rt_mail.proofs.keeping.rings_of.Given as goal

abbrev pub invariant-loop-t : goal.invariant-loop-t
invariant-loop-t l =
    map (λ v. v.items) l.traces.items ++ traces_from l.t (drop l.t l.taken.taken)
    ≡ ring_traces l.taken.taken
