-- What is made and what is left to be drawn are all traces.
use Rattle.std.proofs.Common.{◌≡◌, ◌-◌, ◌++◌, map, length}
use Rattle.std.specs.List.{AllByRecursion}
use Rattle.never_heap.specs.Jobs.{IsTraceInBounds}
use Rattle.rtheap_core.specs.Generated.{generated_config, traces_from}
use Rattle.rtheap_core.proofs.generated.traces.Given as goal

abbrev pub invariant-loop-thread : goal.invariant-loop-thread
invariant-loop-thread l = record {
  part : map (λ t. t.items) l.made.items ++ traces_from (4 - l._thread) l.lines l.words
      ≡ traces_from 4 l.lines l.fn.words;
  counted : length l.made.items ≡ l._thread;
  bounds : AllByRecursion (IsTraceInBounds generated_config)
      (map (λ t. t.items) l.made.items);
}
