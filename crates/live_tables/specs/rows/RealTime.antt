-- Real-time order of operations: what is complete comes before what begins later.
use Rattle.std.specs.Prelude.{ℕ, ◌≤◌, ◌≡◌, ◌++◌, [], List, length, slice_index_or, take}
use Rattle.never_heap.specs.Histories.{part}
use Rattle.array_tables.specs.operations.Linearizations.{Call}
use Rattle.shared_heap.specs.declared.rules.Moment.{Moment}
use Rattle.shared_heap.specs.Shared.{IsStartOf, history_of, invoked_in}
use Rattle.live_tables.specs.rows.Behind.{operations_in}
use Rattle.live_tables.specs.rows.Rows.{Rows, commands_of}

-- A prefix of the order has at least the first n operations of thread t, and at most the first m of
-- thread u. So the first n operations of t come before all operations of u but its first m.
pub record ComeBefore {Op Answer : Type 0} (scripts : List (List Op)) (order : List (Call Op Answer))
    (t n u m : ℕ) : Type 0 where
  pub first : List (Call Op Answer)
  pub later : List (Call Op Answer)
  pub split : order ≡ first ++ later
  pub more : List Op
  pub many : operations_in t first ≡ take n (slice_index_or scripts t []) ++ more
  pub rest : List Op
  pub few : take m (slice_index_or scripts u []) ≡ operations_in u first ++ rest

module _ {Op Row Answer S : Type 0} (a : Rows Op Row Answer S) where
  -- the first n operations of thread t are complete: all of their commands have entries
  abbrev pub AreComplete : List (List Op) → List Moment → ℕ → ℕ → Type 0
  AreComplete scripts p t n =
      length (commands_of a (take n (slice_index_or scripts t []))) ≤ length (part t (history_of p))

  -- no operation of thread u but its first m has begun: none of their commands was invoked
  abbrev pub NoMoreHaveBegun : List (List Op) → List Moment → ℕ → ℕ → Type 0
  NoMoreHaveBegun scripts p u m =
      length (invoked_in u p) ≤ length (commands_of a (take m (slice_index_or scripts u [])))

  -- Take any prefix of the timeline. The operations that are complete there come, in the order,
  -- before all operations that begin after it. So the order is a linearization of the timeline, in
  -- which an operation responds at its last entry.
  abbrev pub KeepsRealTime : List (List Op) → List Moment → List (Call Op Answer) → Type 0
  KeepsRealTime scripts timeline order =
      (p : List Moment) → IsStartOf p timeline → (t n u m : ℕ) → AreComplete scripts p t n
      → NoMoreHaveBegun scripts p u m → ComeBefore scripts order t n u m
