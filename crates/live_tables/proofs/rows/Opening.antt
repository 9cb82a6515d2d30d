-- The workers of a new table have done no operation.
use Rattle.std.proofs.Common.{◌≡◌, ℕ, suc, ◌<◌, arith, subst, sym, ap, ◌∙◌, List, [], ◌∷◌, ◌++◌, length, map, get_or}
use Rattle.std.specs.List.{AllByRecursion}
use Rattle.std.proofs.lemmas.List.{length-map}
use Rattle.block_store.specs.declared.Config.{Config}
use Rattle.shared_heap.specs.Workers as heaps
use Rattle.shared_heap.specs.Workers.{HeapState, IsFresh, WorkerState}
use Rattle.atom_board.proofs.AllMutators.{get_or_map}
use Rattle.live_tables.specs.rows.Rows.{Rows, IsRowHeap, answers_of, commands_of, replies}
use Rattle.live_tables.specs.rows.Workers.{AreFresh, AreInOrder, IsRowWorker, RowWorkerState, row_worker}
use Rattle.live_tables.specs.rows.Lawful.{Lawful}

module _ {Op Row Answer S : Type 0} (a : Rows Op Row Answer S) (law : Lawful a) where
  abbrev of : WorkerState → RowWorkerState Op Answer
  of w = row_worker a w

  abbrev State : Type 0
  State = RowWorkerState Op Answer

  none_read : (t : ℕ) → a.operations_of t [] ≡ []
  none_read t = law.decoded t [] (law.read 0 t [] (law.none 0 t))

  pub none_done : (w : WorkerState) → w.thread.trace ≡ []
      → a.operations_of w.thread.thread w.thread.trace ≡ []
  none_done w e = ap (a.operations_of w.thread.thread) e ∙ none_read w.thread.thread

  pub row_of : (c : Config) (w : WorkerState) → IsRowHeap a c → IsFresh c w → IsRowWorker a w
  row_of c w rows f = record {
    heap = subst (IsRowHeap a) (sym f.config) rows;
    asked = f.asked ∙ ap (commands_of a) (sym (none_done w f.asked));
    inside = subst (λ (l : List Op). a.AreDone w.thread.config.shared w.thread.thread l)
        (sym (none_done w f.asked)) (law.none w.thread.config.shared w.thread.thread);
    long = omega (arith, ap length f.asked, ap length f.told);
  }

  pub in_order : (t : HeapState) (ws : List WorkerState) → heaps.AreInOrder t ws
      → heaps.AreFresh t.config ws → AreInOrder t (map of ws)
  in_order t ws are fresh = record {
    count = length-map ws of ∙ are.count;
    each = λ i d low.
        (let il : i < length ws = omega (arith, low, length-map ws of) in
        let same = get_or_map of ws i d d.worker il in
        let its = are.each i d.worker il in (
          (
            ap (λ (w : State). w.worker.heap) same ∙ its.0,
            ap (λ (w : State). w.worker.thread.config) same ∙ (fresh i d.worker il).config,
          ),
          ap (λ (w : State). w.worker.thread.thread) same ∙ its.1,
        ));
  }

  pub all_fresh : (c : Config) (ws : List WorkerState) → heaps.AreFresh c ws
      → AreFresh (map of ws)
  all_fresh c ws fresh = λ i d low.
      (let il : i < length ws = omega (arith, low, length-map ws of) in
      let same = get_or_map of ws i d d.worker il in
      let its = fresh i d.worker il in
      let w : WorkerState = get_or ws i d.worker in
      let own : heaps.IsFresh w.thread.config w =
      subst (λ (k : Config). heaps.IsFresh k w) (sym its.config) its in
      record {
        done = ap (λ (w : State). w.done) same ∙ none_done w its.asked;
        answers = ap (λ (w : State). w.answers) same
            ∙ ap (λ (ops : List Op). answers_of a ops (replies w.thread.log)) (none_done w its.asked);
        worker = subst (λ (w : State). heaps.IsFresh w.worker.thread.config w.worker) (sym same) own;
      })

-- what holds of each new worker holds of all
pub all_of : (P : WorkerState → Type 0) (c : Config) (ws : List WorkerState)
    → ((w : WorkerState) → IsFresh c w → P w) → heaps.AreFresh c ws → AllByRecursion P ws
all_of P c [] each f = tt
all_of P c (w ∷ ws) each f =
    (each w (f 0 w (omega arith)), all_of P c ws each (λ t d low. f (suc t) d (omega arith)))

-- one worker more
pub all_more : (P : WorkerState → Type 0) (ws : List WorkerState) (w : WorkerState)
    → AllByRecursion P ws → P w → AllByRecursion P (ws ++ w ∷ [])
all_more P [] w all one = (one, tt)
all_more P (x ∷ ws) w all one = (all.0, all_more P ws w all.1 one)
