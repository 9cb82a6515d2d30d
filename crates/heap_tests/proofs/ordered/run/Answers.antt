use Rattle.std.proofs.Common.{map, sym, subst, Vec, Global}
use Rattle.never_heap.specs.declared.Command.{Command}
use Rattle.block_store.specs.declared.Width.TheVariants.{Four}
use Rattle.heap_system.specs.Machines.{IsJob}
use Rattle.heap_system.proofs.Lemmas.{lone}
use Rattle.heap_tests.proofs.ordered.run.Goals as goal

pub new_ordered-requires-clause-job : goal.new_ordered-requires-clause-job
new_ordered-requires-clause-job c =
    subst (λ xs. IsJob c.one-config.result (map (λ (v : Vec Command Global). v.items) xs)) (sym c.in_ok-vec.ensures.items)
    (lone Four c.one-config.result c.in_ok-trace.trace.items c.one-config.ensures c.in_ok-trace.ensures)
