-- The traces of a drawn job.
use Rattle.std.proofs.Common.{◌≡◌, sym, List, [], ◌∷◌, ◌++◌, map, Vec, Global}
use Rattle.std.specs.List.{AllByRecursion}
use Rattle.block_store.specs.declared.Config.{Config}
use Rattle.block_store.specs.Configs.{IsInBounds}
use Rattle.never_heap.specs.declared.Command.{Command}
use Rattle.never_heap.specs.Jobs.{IsJobInBounds, IsTraceInBounds}

-- one trace more is in bounds
pub each_more : (c : Config) (vs : List (Vec Command Global)) (v : Vec Command Global)
    → AllByRecursion (IsTraceInBounds c) (map (λ (w : Vec Command Global). w.items) vs)
    → IsTraceInBounds c v.items
    → AllByRecursion (IsTraceInBounds c)
    (map (λ (w : Vec Command Global). w.items) (vs ++ v ∷ []))
each_more c [] v each fits = (fits, tt)
each_more c (w ∷ vs) v each fits = (each.0, each_more c vs v each.1 fits)

-- one trace is a job of one thread
pub one_trace : (c : Config) (v : Vec Command Global) → IsInBounds c → c.threads ≡ 1
    → IsTraceInBounds c v.items → IsJobInBounds c (v.items ∷ [])
one_trace c v bounds one fits = record {
  config = bounds;
  threads = sym one;
  each = (fits, tt);
}
