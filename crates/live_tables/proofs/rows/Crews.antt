-- Workers in use: the same before and after, and all workers of a table.
use Rattle.std.proofs.Common.{◌≡◌, ℕ, zero, suc, ◌<◌, arith, sym, ap, ◌∙◌, List, [], ◌∷◌, length, map, get_or}
use Rattle.std.specs.List.{AllByRecursion}
use Rattle.std.proofs.lemmas.List.{length-map}
use Rattle.shared_heap.specs.Workers as heaps
use Rattle.shared_heap.specs.Workers.{HeapState, WorkerState}
use Rattle.shared_heap.proofs.Lemmas.{same_here, same_on}
use Rattle.atom_board.proofs.AllMutators.{get_or_map}
use Rattle.live_tables.specs.rows.Rows.{Rows}
use Rattle.live_tables.specs.rows.Workers.{AreEachOnce, AreInOrder, IsOf, IsSameWorker, RowWorkerState, row_worker}

module _ {Op Answer : Type 0} where
  pub same_first : (w : RowWorkerState Op Answer) → IsSameWorker w w
  same_first w = same_here w.worker

  pub same_then : (x y z : RowWorkerState Op Answer) → IsSameWorker x y → IsSameWorker y z
      → IsSameWorker x z
  same_then x y z f g = same_on x.worker y.worker z.worker f g

  pub of_same : (t : HeapState) (x y : RowWorkerState Op Answer) → IsOf t x → IsSameWorker x y
      → IsOf t y
  of_same t x y is same = (same.heap ∙ is.0, same.config ∙ is.1)

  -- workers in thread order are all workers, each once
  pub in_order_each : (t : HeapState) (ws : List (RowWorkerState Op Answer)) → AreInOrder t ws
      → AreEachOnce t ws
  in_order_each t ws s = record {
    count = s.count;
    own = λ i d low. (s.each i d low).0;
    each = λ u low. (let ul : u < length ws = omega (arith, s.count) in (u, ul, λ d. (s.each u d ul).1));
  }

pub all_at : (P : WorkerState → Type 0) (ws : List WorkerState) → AllByRecursion P ws → (j : ℕ)
    (d : WorkerState) → j < length ws → P (get_or ws j d)
all_at P [] all j d low = absurd (omega arith)
all_at P (w ∷ ws) all zero d low = all.0
all_at P (w ∷ ws) all (suc j) d low = all_at P ws all.1 j d (omega arith)

module _ {Op Row Answer S : Type 0} (a : Rows Op Row Answer S) where
  abbrev of : WorkerState → RowWorkerState Op Answer
  of w = row_worker a w

  abbrev State : Type 0
  State = RowWorkerState Op Answer

  -- the workers of the table are those of the heap
  pub each_once : (t : HeapState) (ws : List WorkerState) → AreEachOnce t (map of ws)
      → heaps.AreEachOnce t ws
  each_once t ws are = record {
    count = sym (length-map ws of) ∙ are.count;
    own = λ i d low.
        (let own = are.own i (of d) (omega (arith, low, length-map ws of)) in
        ap (λ (w : State). w.worker.heap) (sym (get_or_map of ws i (of d) d low)) ∙ own.0);
    each = λ u low.
        (let j = are.each u low in
        let jl : j.0 < length ws = omega (arith, j.1, length-map ws of) in (
          j.0,
          jl,
          λ d. ap (λ (w : State). w.worker.thread.thread)
              (sym (get_or_map of ws j.0 (of d) d jl)) ∙ j.2 (of d),
        ));
  }

  pub same_config : (t : HeapState) (ws : List WorkerState) → AreEachOnce t (map of ws)
      → (j : ℕ) (d : WorkerState) → j < length ws → (get_or ws j d).thread.config ≡ t.config
  same_config t ws are j d low =
      let own = are.own j (of d) (omega (arith, low, length-map ws of)) in
      ap (λ (w : State). w.worker.thread.config) (sym (get_or_map of ws j (of d) d low)) ∙ own.1
