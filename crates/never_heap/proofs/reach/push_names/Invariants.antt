use Rattle.std.proofs.Common.{◌≡◌, ◌+◌, ◌++◌, vec_len}
use Rattle.never_heap.specs.Reach.{thread_names}
use Rattle.never_heap.proofs.reach.push_names.Given as goal

abbrev pub invariant-loop-before : goal.invariant-loop-before
invariant-loop-before l =
    (l.list.items ≡ l.fn.list.items ++ thread_names l.thread l.before)
    × (vec_len l.list ≡ vec_len l.fn.list + l.before)
