-- The beginning of a run whose threads do operations. Some of them may be in the middle of one.
use Rattle.std.specs.Prelude.{ℕ, ◌≡◌, Option, List, [], ◌++◌, map, flat_map, slice_index_or}
use Rattle.block_store.specs.declared.Config.{Config}
use Rattle.never_heap.specs.declared.Command.{Command}
use Rattle.never_heap.specs.declared.Reply.{Reply}
use Rattle.never_heap.specs.Histories.{HistoryItem}
use Rattle.never_heap.specs.Runs.{IsRun}
use Rattle.array_tables.specs.operations.Linearizations.{Call, calls_of, AreAnswered, decided_behind, answers_told, replies_in}

-- The history is a run of the first commands of each trace. It need not have the others.
pub record IsRunSoFar
    (c : Config) (rate : ℕ) (traces : List (List Command)) (h : List HistoryItem) : Type 0 where
  pub firsts : List (List Command)
  pub run : IsRun c rate firsts h
  pub begins : (t : ℕ) → (rest : List Command)
      × (slice_index_or traces t [] ≡ slice_index_or firsts t [] ++ rest)

-- A linearization of a history in which each thread has done the first rows of its script: all
-- operations that were decided, in one order, which keeps that of each script. It is the order of
-- their deciding entries, and each answer is the one in this order. The replies to a thread's
-- commands tell its answers; one that is decided may not be told yet.
pub record IsLinearizationSoFar {Op Row Answer S : Type 0}
    (rows_of : Op → List Row) (decides : Row → Option Op)
    (ends : Row → Option (List Reply → Answer))
    (say : Op → S → Answer) (act : Op → S → S) (empty : S)
    (scripts : List (List Op)) (h : List HistoryItem) (order : List (Call Op Answer))
    : Type 0 where
  pub each : (t : ℕ) → (more : List Op)
      × (map (λ (d : Call Op Answer). d.operation) (calls_of t order) ++ more
      ≡ slice_index_or scripts t [])
  pub deciding : map (λ (d : Call Op Answer). (d.thread, d.operation)) order
      ≡ decided_behind rows_of decides scripts [] h
  pub answered : AreAnswered say act empty order
  pub told : (t : ℕ) → (pending : List Answer)
      × (map (λ (d : Call Op Answer). d.answer) (calls_of t order)
      ≡ answers_told ends [] (flat_map rows_of (slice_index_or scripts t [])) (replies_in t h)
      ++ pending)
