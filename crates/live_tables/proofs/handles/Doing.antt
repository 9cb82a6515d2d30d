-- A request: its deed, and what a worker keeps after it.
use Rattle.std.proofs.Common.{◌≡◌, ℕ, ◌+◌, ◌<◌, ◌≤◌, ◌^◌, ◌==◌, cond, Option, Some, None, refl, arith, subst, sym, ap, ◌∙◌, List, [], ◌∷◌, ◌++◌, length, slice_index_or}
use Rattle.std.specs.Prelude.{IsTrue}
use Rattle.block_store.specs.declared.Config.{Config}
use Rattle.shared_heap.specs.Workers.{WorkerState}
use Rattle.array_tables.specs.handle_table.Handles.{Deed, Make, See, Drop, Take, Evict}
use Rattle.live_tables.specs.rows.Kept.{IsTableWorker}
use Rattle.live_tables.specs.rows.Workers.{IsNext, row_worker}
use Rattle.live_tables.specs.declared.handles.kind.Held.{Held}
use Rattle.live_tables.specs.declared.handles.request.HandleRequest.{HandleRequest}
use Rattle.live_tables.specs.declared.handles.request.HandleRequest.TheVariants as asks
use Rattle.live_tables.specs.handles.Kept.{Keeps, NamesHandle, makes, slot_next}
use Rattle.live_tables.specs.handles.Live.{CanFollow, HandleWorkerState, IsInRange, IsMade, deed_of, handles, is_known, known_slot, place_in, slots_of}
use Rattle.live_tables.specs.handles.Makes.{last_by, made_behind, made_by, slot_by, slots_behind}
use Rattle.live_tables.proofs.handles.Makes.{known_by, made_more, slots_more}

module _ (old : WorkerState) (held : Held) (is : IsTableWorker handles Keeps old held) where
  abbrev w : HandleWorkerState
  w = row_worker handles old

  -- the slot and the number of the last make of a handle that was made
  some_of : (o : Option ℕ) → IsTrue (is_known o) → (i : ℕ) × (o ≡ Some i)
  some_of None made = absurd (none_known made)
    where
      none_known : IsTrue (is_known None) → ⊥
      none_known e = cc
  some_of (Some i) made = (i, refl)

  known : (h : ℕ) → IsTrue (is_known (known_slot w h))
      → (0 < last_by w.done h) × (place_in (known_slot w h) < slots_of w)
  known h made =
      let m = some_of (known_slot w h) made in
      let k = known_by (slots_of w) old.thread.thread w.done is.worker.inside h m.0 m.1 in
      (k.0, subst (λ (o : Option ℕ). place_in o < slots_of w) (sym m.1) k.1)

  -- what is in range can come next
  pub is_next : (request : HandleRequest) → IsInRange (slots_of w) request → IsMade w request
      → IsNext handles w (deed_of w request)
  is_next (asks.Make h i x) range can = (refl, refl, range.0, range.1, range.2)
  is_next (asks.See h) range can = let k = known h can in (refl, omega (arith, k.0), range, k.1)
  is_next (asks.Release h) range can = let k = known h can in (refl, omega (arith, k.0), range, k.1)
  is_next (asks.Take i) range can = range
  is_next (asks.Evict i) range can = range

pub names_of : (slots t n : ℕ) (last : ℕ → ℕ) (w : HandleWorkerState) (request : HandleRequest)
    → CanFollow slots t n last (deed_of w request) → NamesHandle request
names_of slots t n last w (asks.Make h i x) can = can.2
names_of slots t n last w (asks.See h) can = tt
names_of slots t n last w (asks.Release h) can = tt
names_of slots t n last w (asks.Take i) can = tt
names_of slots t n last w (asks.Evict i) can = tt

module _ (w : HandleWorkerState) where
  -- one make more, where the request is a make
  made_of : (request : HandleRequest) (n : ℕ)
      → made_behind n (deed_of w request ∷ []) ≡ n + makes request
  made_of (asks.Make h i x) n = omega arith
  made_of (asks.See h) n = omega arith
  made_of (asks.Release h) n = omega arith
  made_of (asks.Take i) n = omega arith
  made_of (asks.Evict i) n = omega arith

  slots_of_next : (request : HandleRequest) (slot : ℕ → Option ℕ)
      → slots_behind slot (deed_of w request ∷ []) ≡ slot_next request slot
  slots_of_next (asks.Make h i x) slot = refl
  slots_of_next (asks.See h) slot = refl
  slots_of_next (asks.Release h) slot = refl
  slots_of_next (asks.Take i) slot = refl
  slots_of_next (asks.Evict i) slot = refl

  slot_next_at : (request : HandleRequest) (f g : ℕ → Option ℕ) (h : ℕ) → f h ≡ g h
      → slot_next request f h ≡ slot_next request g h
  slot_next_at (asks.Make k i x) f g h e = ap (λ o. cond (k == h) (Some i) o) e
  slot_next_at (asks.See k) f g h e = e
  slot_next_at (asks.Release k) f g h e = e
  slot_next_at (asks.Take i) f g h e = e
  slot_next_at (asks.Evict i) f g h e = e

  pub keeps_on : (request : HandleRequest) (held next : Held) → next.made ≡ held.made + makes request
      → ((h : ℕ) → h < 8 → slice_index_or next.slots h None
      ≡ slot_next request (λ g. slice_index_or held.slots g None) h)
      → (c : Config) (t : ℕ) (ops : List Deed) → Keeps c t ops held
      → Keeps c t (ops ++ deed_of w request ∷ []) next
  keeps_on request held next counts now c t ops is = record {
    made_so = counts ∙ ap (λ n. n + makes request) is.made_so
        ∙ sym (made_more 0 ops (deed_of w request) ∙ made_of request (made_by ops));
    slots_so = λ h low.
        now h low
        ∙ slot_next_at request (λ g. slice_index_or held.slots g None) (slot_by ops) h
        (is.slots_so h low)
        ∙ ap (λ f. f h) (sym (slots_more (λ g. None) ops (deed_of w request)
        ∙ slots_of_next request (slot_by ops)));
  }
