-- What a worker has in memory, from one operation to the next.
use Rattle.std.proofs.Common.{◌≡◌, ℕ, suc, ◌+◌, ◌<◌, ◌≤◌, ◌^◌, refl, arith, subst, sym, ap, ◌∙◌, List, [], ◌∷◌, ◌++◌, length, get_or}
use Rattle.std.specs.List.{AllByRecursion}
use Rattle.std.proofs.lemmas.List.{length-append}
use Rattle.block_store.specs.Configs.{IsInBounds}
use Rattle.block_store.specs.declared.Config.{Config}
use Rattle.never_heap.specs.Bounds.{IsCommandInBounds}
use Rattle.never_heap.specs.declared.Reply.{Reply}
use Rattle.heap_system.specs.Locals.{LocalState}
use Rattle.shared_heap.specs.Stamps.{HasDrawn}
use Rattle.shared_heap.specs.Workers as heaps
use Rattle.shared_heap.specs.Workers.{HeapState, IsFresh, WorkerState}
use Rattle.live_tables.specs.rows.Kept.{IsNewWorker, IsTableWorker}
use Rattle.live_tables.specs.rows.Lawful.{Lawful}
use Rattle.live_tables.specs.rows.Life.{HasRoomFor, HasRun}
use Rattle.live_tables.specs.rows.Rows.{Rows, IsRowHeap, commands_of}
use Rattle.live_tables.specs.rows.Workers.{IsNext, row_worker}
use Rattle.live_tables.proofs.rows.Doing.{ops_are, row_kept, still}
use Rattle.live_tables.proofs.rows.Opening.{none_done, row_of}

module _ {Op Row Answer S : Type 0} (a : Rows Op Row Answer S) (law : Lawful a) where
  -- ---- new workers
  module _ (HasShape : Config → Type 0) where
    new_of : (c : Config) (t : ℕ) (w : WorkerState) → IsRowHeap a c → HasShape c → t < c.threads
        → w.thread.thread ≡ t → IsFresh c w → IsNewWorker a HasShape w
    new_of c t w heap shape low own f = record {
      worker = row_of a law c w heap f;
      low = subst (λ (u : ℕ). u < w.thread.config.threads) (sym own)
          (subst (λ (k : Config). t < k.threads) (sym f.config) low);
      none = f.asked;
      shape = subst HasShape (sym f.config) shape;
    }

    new_from : (c : Config) (t : ℕ) (ws : List WorkerState) → IsRowHeap a c → HasShape c
        → t + length ws ≤ c.threads
        → ((i : ℕ) (d : WorkerState) → i < length ws → (get_or ws i d).thread.thread ≡ t + i)
        → heaps.AreFresh c ws → AllByRecursion (IsNewWorker a HasShape) ws
    new_from c t [] heap shape few own fresh = tt
    new_from c t (w ∷ ws) heap shape few own fresh = (
      new_of c t w heap shape (omega (arith, few))
          (let e : t + 0 ≡ t = omega arith in own 0 w (omega arith) ∙ e) (fresh 0 w (omega arith)),
      new_from c (t + 1) ws heap shape (omega (arith, few))
          (λ i d low. (let e : t + suc i ≡ t + 1 + i = omega arith in
          own (suc i) d (omega (arith, low)) ∙ e))
          (λ i d low. fresh (suc i) d (omega (arith, low))),
    )

    pub all_new : (h : HeapState) (ws : List WorkerState) → IsRowHeap a h.config → HasShape h.config
        → heaps.AreInOrder h ws → heaps.AreFresh h.config ws
        → AllByRecursion (IsNewWorker a HasShape) ws
    all_new h ws heap shape order fresh =
        new_from h.config 0 ws heap shape (omega (arith, order.count))
        (λ i d low. (let e : i ≡ 0 + i = omega arith in (order.each i d low).1 ∙ e)) fresh

  module _ {Own : Type 0} (Keeps : Config → ℕ → List Op → Own → Type 0) where
    -- what a new worker has
    pub starts : (HasShape : Config → Type 0) (own : Own)
        → ((c : Config) (t : ℕ) → HasShape c → t < c.threads → Keeps c t [] own)
        → (w : WorkerState) → IsNewWorker a HasShape w → IsTableWorker a Keeps w own
    starts HasShape own begins w new = record {
      worker = new.worker;
      low = new.low;
      few = omega (arith, ap length new.none);
      keeps = subst (λ (ops : List Op). Keeps w.thread.config w.thread.thread ops own)
          (sym (none_done a law w new.none)) (begins w.thread.config w.thread.thread new.shape new.low);
    }

    -- a worker that drew a stamp has the same
    pub drawn_still : (old new : WorkerState) (n : ℕ) (own : Own) → HasDrawn old n new
        → IsTableWorker a Keeps old own → IsTableWorker a Keeps new own
    drawn_still old new n own drawn is =
        let same : old.thread ≡ new.thread = sym drawn.thread in
        record {
          worker = row_kept a old new n drawn is.worker;
          low = subst (λ (l : LocalState). l.thread < l.config.threads) same is.low;
          few = subst (λ (l : LocalState). length l.trace ≤ 2 ^ 60) same is.few;
          keeps = subst (λ (l : LocalState).
              Keeps l.config l.thread (a.operations_of l.thread l.trace) own) same is.keeps;
        }

    module _ (old : WorkerState) (own : Own) (is : IsTableWorker a Keeps old own) (op : Op)
        (next : IsNext a (row_worker a old) op) where
      abbrev ops : List Op
      ops = a.operations_of old.thread.thread old.thread.trace

      pub ops_few : length (commands_of a ops) ≤ 2 ^ 60
      ops_few = omega (arith, is.few, ap length is.worker.asked)

      -- the commands of the operation are in bounds
      pub are_in_bounds : (c : Config) → old.thread.config ≡ c → IsInBounds c
          → AllByRecursion (IsCommandInBounds old.thread.config) (commands_of a (op ∷ []))
      are_in_bounds c same bounds =
          let here : IsInBounds old.thread.config = subst IsInBounds (sym same) bounds in
          subst (λ (x : Config). AllByRecursion (IsCommandInBounds x) (commands_of a (op ∷ [])))
          (sym is.worker.heap)
          (law.fits old.thread.config.threads old.thread.config.shared old.thread.config.blocks
          old.thread.thread ops op here.threads here.shared is.low ops_few is.worker.inside next)

      -- the worker after the operation
      pub goes_on : (new : WorkerState) (three : Reply × Reply × Reply)
          → HasRun old (commands_of a (op ∷ [])) three new
          → HasRoomFor old.thread (commands_of a (op ∷ [])) → (more : Own)
          → ((c : Config) (t : ℕ) → Keeps c t ops own → a.CanBeNext c.shared t ops op
          → Keeps c t (ops ++ op ∷ []) more)
          → IsTableWorker a Keeps new more
      goes_on new three run room more keeps = record {
        worker = still a law old new op three is.worker next run;
        low = subst (λ (u : ℕ). u < new.thread.config.threads) (sym run.same.thread)
            (subst (λ (c : Config). old.thread.thread < c.threads) (sym run.same.config) is.low);
        few = omega (
          arith,
          ap length run.asked,
          length-append old.thread.trace (commands_of a (op ∷ [])),
          room.commands,
        );
        keeps = subst (λ (l : List Op). Keeps new.thread.config new.thread.thread l more)
            (sym (ops_are a law old new op three is.worker next run))
            (subst (λ (u : ℕ). Keeps new.thread.config u (ops ++ op ∷ []) more) (sym run.same.thread)
            (subst (λ (c : Config). Keeps c old.thread.thread (ops ++ op ∷ []) more)
            (sym run.same.config)
            (keeps old.thread.config old.thread.thread is.keeps next)));
      }
