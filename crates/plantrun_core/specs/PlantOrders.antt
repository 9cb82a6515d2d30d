-- Orders of what four threads did: the one that is printed, and one in which each answer is that of
-- a plain table.
use Rattle.std.specs.Prelude.{ℕ, zero, suc, ◌^◌, ◌≤◌, ◌≡◌, ◌⊎◌, List, [], ◌∷◌, ◌++◌, length, map}
use Rattle.std.specs.List.Sorted.{IsNonDecreasingBy, IsPermutation}
use Rattle.array_tables.specs.operations.Linearizations.{Call, calls_of, AreAnswered}
use Rattle.array_tables.specs.tag_table.Tables.{Tag, answer, table_after, empty_table}
use Rattle.array_tables.specs.declared.tag_table.operation.Operation.{Operation}
use Rattle.live_tables.specs.rows.Behind.{operations_in}
use Rattle.plantrun_core.specs.declared.calls.Done.{Done}
use Rattle.plantrun_core.specs.declared.calls.Logs.{Logs}
use Rattle.plantrun_core.specs.declared.calls.Step.{Step}
use Rattle.plantrun_core.specs.Logs.{call_by, operation_of, stamp_of, step_by}

-- what thread t did: 0 the input, 1 the controller, 2 the alarms, 3 the history
abbrev pub log_of : Logs → ℕ → List Done
log_of l zero = l.input.items
log_of l (suc zero) = l.control.items
log_of l (suc (suc zero)) = l.alarms.items
log_of l (suc (suc (suc zero))) = l.history.items
log_of l (suc (suc (suc (suc n)))) = []

-- all that the four threads did, thread by thread
abbrev pub steps_of : Logs → List Step
steps_of l =
    ((map (step_by 0) l.input.items ++ map (step_by 1) l.control.items)
    ++ map (step_by 2) l.alarms.items) ++ map (step_by 3) l.history.items

-- these are all that the threads did, by ascending stamps
pub record IsByStamps (l : Logs) (steps : List Step) : Type 0 where
  pub all : IsPermutation (steps_of l) steps
  pub ascending : IsNonDecreasingBy stamp_of steps

-- an order of all that four threads did, in which each was answered as by a plain table
pub record IsPlainOrder (l : Logs) (order : List (Call Operation Tag)) : Type 0 where
  pub plain : AreAnswered answer table_after (empty_table 48) order
  pub each : (t : ℕ) → calls_of t order ≡ map (call_by t) (log_of l t)

-- A prefix of the order has at least these operations of thread t, and at most those of thread u. So
-- these come before all that u did after those.
pub record ComeBefore (order : List (Call Operation Tag)) (t : ℕ) (these : List Operation) (u : ℕ)
    (those : List Operation) : Type 0 where
  pub first : List (Call Operation Tag)
  pub later : List (Call Operation Tag)
  pub split : order ≡ first ++ later
  pub more : List Operation
  pub many : operations_in t first ≡ these ++ more
  pub rest : List Operation
  pub few : those ≡ operations_in u first ++ rest

-- The order keeps real time: take an operation of a thread, and one of any thread with a stamp that
-- is no less. Then the one and what its thread did before it come before all that the other thread
-- did after the other. Or 2^64 stamps were drawn.
abbrev pub KeepsStamps : Logs → List (Call Operation Tag) → ℕ → Type 0
KeepsStamps l order drawn =
    (t u : ℕ) (earlier rest before after : List Done) (d e : Done)
    → log_of l t ≡ earlier ++ d ∷ rest → log_of l u ≡ before ++ e ∷ after → d.stamp ≤ e.stamp
    → ComeBefore order t (map operation_of (earlier ++ d ∷ [])) u
    (map operation_of (before ++ e ∷ []))
    ⊎ (2 ^ 64 ≤ drawn)

-- The last tick of the controller, whose three operations end its log, comes after all that the
-- input wrote. So it acts on the last readings.
pub record ActsOnLast (l : Logs) (order : List (Call Operation Tag)) : Type 0 where
  pub earlier : List Done
  pub tick : List Done
  pub split : l.control.items ≡ earlier ++ tick
  pub three : length tick ≡ 3
  pub behind : ComeBefore order 0 (map operation_of l.input.items) 1 (map operation_of earlier)
