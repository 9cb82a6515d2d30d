-- A request: its operation, the objects that it makes, and what a worker keeps after it.
use Rattle.std.proofs.Common.{◌≡◌, ℕ, ◌+◌, ◌*◌, ◌<◌, ◌≤◌, ◌^◌, refl, arith, subst, sym, ap, ◌∙◌, List, [], ◌∷◌, ◌++◌, length}
use Rattle.std.proofs.Math.Nat.{mod-lt}
use Rattle.block_store.specs.declared.Config.{Config}
use Rattle.block_store.specs.declared.Width.TheVariants.{Eight}
use Rattle.shared_heap.specs.Workers.{WorkerState}
use Rattle.array_tables.specs.number_rings.Rings.{Operation, Keep, Recall}
use Rattle.live_tables.specs.rows.Kept.{IsTableWorker}
use Rattle.live_tables.specs.rows.Life.{MakeObjects}
use Rattle.live_tables.specs.rows.Workers.{IsNext, row_worker}
use Rattle.live_tables.specs.declared.rings.request.RingRequest.{RingRequest}
use Rattle.live_tables.specs.declared.rings.request.RingRequest.TheVariants as asks
use Rattle.live_tables.specs.rings.Live.{IsInRange, Keeps, RingWorkerState, commands_of, keeping, kept_behind, kept_by, operation_of, rings}
use Rattle.live_tables.proofs.rings.OneMore.{kept_more}

-- a keep makes one object
pub made_of : (w : RingWorkerState) (request : RingRequest)
    → MakeObjects Eight (keeping request) (commands_of (operation_of w request ∷ []))
made_of w (asks.Keep v) = record { objects = refl; units = λ rate. omega arith }
made_of w (asks.Recall u k) = record { objects = refl; units = λ rate. omega arith }

pub few_objects : (request : RingRequest) → keeping request ≤ 2
few_objects (asks.Keep v) = omega arith
few_objects (asks.Recall u k) = omega arith

-- each keep has a command
pub kept_few : (n : ℕ) (ops : List Operation) → kept_behind n ops ≤ n + length (commands_of ops)
kept_few n [] = omega arith
kept_few n (Keep i v ∷ ops) = omega (arith, kept_few (n + 1) ops)
kept_few n (Recall i ∷ ops) = omega (arith, kept_few n ops)

-- what is in range can come next
pub is_next : (old : WorkerState) (kept : ℕ) → IsTableWorker rings Keeps old kept
    → (request : RingRequest) → IsInRange old.thread.config.threads request
    → IsNext rings (row_worker rings old) (operation_of (row_worker rings old) request)
is_next old kept is (asks.Keep v) range =
    let lower : 0 < 8 = omega arith in (
      refl,
      omega (arith, is.keeps.places, is.low, mod-lt (kept_by (row_worker rings old).done) lower),
      range,
    )
is_next old kept is (asks.Recall u k) range = omega (arith, is.keeps.places, range.0, range.1)

-- one number more, where the request keeps one
kept_of : (w : RingWorkerState) (request : RingRequest) (n : ℕ)
    → kept_behind n (operation_of w request ∷ []) ≡ n + keeping request
kept_of w (asks.Keep v) n = refl
kept_of w (asks.Recall u k) n = omega arith

pub keeps_on : (w : RingWorkerState) (request : RingRequest) (kept next : ℕ)
    → next ≡ kept + keeping request → (c : Config) (t : ℕ) (ops : List Operation)
    → Keeps c t ops kept → Keeps c t (ops ++ operation_of w request ∷ []) next
keeps_on w request kept next counts c t ops is = record {
  places = is.places;
  kept_so = counts ∙ ap (λ n. n + keeping request) is.kept_so
      ∙ sym (kept_more 0 ops (operation_of w request) ∙ kept_of w request (kept_by ops));
}
