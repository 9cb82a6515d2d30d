-- The rows of counters are lawful, and what a request makes of a worker.
use Rattle.std.proofs.Common.{◌≡◌, ℕ, ◌+◌, ◌<◌, ◌≤◌, ◌^◌, refl, arith, sym, ap, ◌∙◌, List, [], ◌∷◌, ◌++◌}
use Rattle.block_store.specs.declared.Config.{Config}
use Rattle.block_store.specs.declared.Width.TheVariants.{Eight}
use Rattle.array_tables.proofs.Lemmas.{applied, linearized, linearized_so_far, rings_owe}
use Rattle.array_tables.specs.number_rings.Rings.{Operation, Keep, Recall, AreInCells, cell_config, rows_of}
use Rattle.array_tables.proofs.number_rings.RingTable.{whole}
use Rattle.array_tables.proofs.number_rings.RingTable as table
use Rattle.live_tables.specs.declared.rings.request.RingRequest.{RingRequest}
use Rattle.live_tables.specs.declared.rings.request.RingRequest.TheVariants as asks
use Rattle.live_tables.specs.rings.Live.{keeping}
use Rattle.live_tables.specs.counters.Counters.{AreOwn, CanBeNext, CounterWorkerState, Keeps, counters, operation_of, total_after, total_next}
use Rattle.live_tables.specs.rows.Lawful.{Lawful}
use Rattle.live_tables.specs.rows.Life.{MakeObjects}
use Rattle.live_tables.specs.rows.Rows.{commands_of}
use Rattle.live_tables.proofs.rings.Bounds.{Fits, fits_there}
use Rattle.live_tables.proofs.rings.Decoded.{begins, decoded, told_one}
use Rattle.live_tables.proofs.rings.OneMore.{low_more}

pub own_more : (t : ℕ) (ops : List Operation) (op : Operation) → AreOwn t ops → AreOwn t (op ∷ [])
    → AreOwn t (ops ++ op ∷ [])
own_more t [] op all one = one
own_more t (Keep i v ∷ ops) op all one = (all.0, own_more t ops op all.1 one)
own_more t (Recall i ∷ ops) op all one = own_more t ops op all one

pub next_own : (places t : ℕ) (ops : List Operation) (op : Operation) → CanBeNext places t ops op
    → AreOwn t (op ∷ [])
next_own places t ops (Keep i v) one = (one.0, tt)
next_own places t ops (Recall i) one = tt

pub next_low : (places t : ℕ) (ops : List Operation) (op : Operation) → CanBeNext places t ops op
    → AreInCells places (op ∷ [])
next_low places t ops (Keep i v) one = (one.1, tt)
next_low places t ops (Recall i) one = (one, tt)

pub next_fits : (places t : ℕ) (ops : List Operation) (op : Operation) → CanBeNext places t ops op
    → Fits places op
next_fits places t ops (Keep i v) one = (one.1, one.2)
next_fits places t ops (Recall i) one = one

abbrev pub law : Lawful counters
law = record {
  whole = whole;
  told = told_one;
  decoded = λ t ops read. decoded ops;
  begins = λ t ops ks read. begins ops ks;
  none = λ n t. (tt, tt);
  more = λ n t ops op all one. (
    low_more n ops op all.0 (next_low n t ops op one),
    own_more t ops op all.1 (next_own n t ops op one),
  );
  read = λ n t ops all. all.1;
  ordered = λ n places blocks rate scripts h count inside run.
      linearized (applied (table.rings places) (cell_config n places blocks) rows_of scripts
      (rings_owe n places blocks scripts count (λ t. (inside t).0))) rate h run;
  so_far = λ n places blocks rate scripts h count inside begun.
      linearized_so_far (applied (table.rings places) (cell_config n places blocks) rows_of scripts
      (rings_owe n places blocks scripts count (λ t. (inside t).0))) rate h begun;
  wide = λ n places blocks. refl;
  fits = λ n places blocks t ops op few_threads few low short all next.
      fits_there n places blocks few op (next_fits places t ops op next);
}

-- ---- a request

-- an addition makes one object
pub made_of : (w : CounterWorkerState) (request : RingRequest)
    → MakeObjects Eight (keeping request) (commands_of counters (operation_of w request ∷ []))
made_of w (asks.Keep v) = record { objects = refl; units = λ rate. omega arith }
made_of w (asks.Recall u k) = record { objects = refl; units = λ rate. omega arith }

total_more : (n : ℕ) (ops : List Operation) (w : CounterWorkerState) (request : RingRequest)
    → total_after n (ops ++ operation_of w request ∷ []) ≡ total_next (total_after n ops) request
total_more n [] w (asks.Keep v) = refl
total_more n [] w (asks.Recall u k) = refl
total_more n (Keep i v ∷ ops) w request = total_more v ops w request
total_more n (Recall i ∷ ops) w request = total_more n ops w request

pub keeps_on : (w : CounterWorkerState) (request : RingRequest) (c : Config) (t total : ℕ)
    → Keeps c t w.done total
    → Keeps c t (w.done ++ operation_of w request ∷ []) (total_next total request)
keeps_on w request c t total is = record {
  places = is.places;
  total_so = ap (λ n. total_next n request) is.total_so ∙ sym (total_more 0 w.done w request);
}
