-- The job of rings is in its ranges, and its heap has a rate.
use Rattle.std.proofs.Common.{ℕ, zero, suc, ◌+◌, ◌*◌, ◌<◌, ◌≤◌, ◌^◌, List, [], ◌∷◌, ◌++◌, length, map, ◌∙◌, refl, arith}
use Rattle.std.specs.Prelude.{flat_map}
use Rattle.std.specs.List.{AllByRecursion}
use Rattle.std.proofs.lemmas.List.{length-map}
use Rattle.array_trees.proofs.Counts.{few_shared}
use Rattle.block_store.specs.declared.Width.TheVariants.{Eight}
use Rattle.never_heap.specs.Bounds.{IsCommandInBounds}
use Rattle.never_heap.specs.Jobs.{IsTraceInBounds, IsJobInBounds}
use Rattle.never_heap.proofs.Lemmas.{plain_fits}
use Rattle.array_tables.specs.operations.Linearizations.{traces_of}
use Rattle.array_tables.proofs.operations.Pairs.{◌▸◌}
use Rattle.rate_plan.specs.Rates.{IsAdmitted}
use Rattle.array_tables.specs.number_rings.Rings.{Operation, rows_of, command_at, keeps, recalls, script_of, scripts_from, lost_of, left_of, ring_config, ring_traces, IsKeepable}
use Rattle.array_tables.proofs.number_rings.Chunks.{rows_long}
use Rattle.array_tables.proofs.number_rings.LastEight.{ring_own}
use Rattle.array_tables.proofs.number_rings.RingRuns.{scripts_long}

module _ (n : ℕ) (few : n ≤ 16) where
  keeps_fit : (t j : ℕ) (vs : List ℕ) (ops : List Operation) → t < n
      → AllByRecursion (λ (v : ℕ). v < 2 ^ 62) vs
      → AllByRecursion (IsCommandInBounds (ring_config n)) (map command_at (flat_map rows_of ops))
      → AllByRecursion (IsCommandInBounds (ring_config n))
      (map command_at (flat_map rows_of (keeps t j vs ++ ops)))
  keeps_fit t j [] ops low small rest = rest
  keeps_fit t j (v ∷ vs) ops low small rest =
      let own = ring_own t j in
      record { range = omega arith; blocks = omega arith; units = omega arith; version = tt }
      ▸ plain_fits refl refl tt (omega arith, small.0)
      ▸ plain_fits refl refl tt (omega arith)
      ▸ plain_fits refl refl tt (omega arith, omega (arith, own.low), omega arith)
      ▸ keeps_fit t (j + 1) vs ops low small.1 rest

  recalls_fit : (t j k : ℕ) → t < n
      → AllByRecursion (IsCommandInBounds (ring_config n))
      (map command_at (flat_map rows_of (recalls t j k)))
  recalls_fit t j zero low = tt
  recalls_fit t j (suc k) low =
      let own = ring_own t j in
      plain_fits refl refl tt (omega arith, omega arith, omega (arith, own.low))
      ▸ plain_fits refl refl tt (omega arith, omega arith, omega arith)
      ▸ recalls_fit t (j + 1) k low

  trace_fits : (t : ℕ) (vs : List ℕ) → t < n → IsKeepable vs
      → IsTraceInBounds (ring_config n) (map command_at (flat_map rows_of (script_of t vs)))
  trace_fits t vs low k = record {
    few = omega (
      arith,
      k.few,
      rows_long t vs,
      length-map (flat_map rows_of (script_of t vs)) command_at,
    );
    commands = keeps_fit t 0 vs _ low k.small
        (recalls_fit t (lost_of (length vs)) (left_of (length vs)) low);
  }

  all_fit : (t : ℕ) (lists : List (List ℕ)) → t + length lists ≤ n
      → AllByRecursion IsKeepable lists
      → AllByRecursion (IsTraceInBounds (ring_config n))
      (traces_of rows_of command_at (scripts_from t lists))
  all_fit t [] within all = tt
  all_fit t (vs ∷ lists) within all = (
    trace_fits t vs (omega arith) all.0,
    all_fit (t + 1) lists (omega arith) all.1,
  )

pub rings_fit : (lists : List (List ℕ)) → 1 ≤ length lists → length lists ≤ 16
    → AllByRecursion IsKeepable lists
    → IsJobInBounds (ring_config (length lists)) (ring_traces lists)
rings_fit lists some few all =
    let array = few_shared Eight (8 * length lists) (omega arith) in
    record {
      config = record {
        some_thread = some;
        threads = few;
        some_block = omega arith;
        blocks = omega (arith, array);
        live = omega (arith, array);
        some_object = omega arith;
        object = omega arith;
        shared = omega arith;
      };
      threads =
          length-map (scripts_from 0 lists) (λ (ops : List Operation).
          map command_at (flat_map rows_of ops))
          ∙ scripts_long 0 lists;
      each = all_fit (length lists) few 0 lists (omega arith) all;
    }

-- four times the live limit and a round of allocations are enough
pub rings_admitted : (n : ℕ) → 1 ≤ n → n ≤ 16 → IsAdmitted (ring_config n)
rings_admitted n some few = record { opens = omega arith; room = omega arith }
