use Rattle.std.proofs.Common.{map, sym, subst, Vec, Global}
use Rattle.never_heap.specs.declared.Command.{Command}
use Rattle.heap_system.specs.Machines.{IsJob}
use Rattle.heap_system.proofs.Lemmas.{alone, long}
use Rattle.heap_tests.proofs.ways.one_thread.Goals as goal

pub new-requires : goal.new-requires
new-requires c =
    subst (λ xs. IsJob long (map (λ (v : Vec Command Global). v.items) xs)) (sym c.in_ok-vec.ensures.items) (alone c.in_ok-trace.trace.items c.requires c.in_ok-trace.ensures)
