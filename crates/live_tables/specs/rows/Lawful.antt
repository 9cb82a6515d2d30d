-- What has to be shown of a table's operations and rows.
use Rattle.std.specs.Prelude.{ℕ, ◌≡◌, ◌≤◌, ◌<◌, ◌^◌, List, [], ◌∷◌, ◌++◌, length, slice_index_or}
use Rattle.std.specs.List.{AllByRecursion}
use Rattle.block_store.specs.declared.Width.TheVariants.{Eight}
use Rattle.never_heap.specs.Bounds.{IsCommandInBounds}
use Rattle.never_heap.specs.declared.Command.{Command}
use Rattle.never_heap.specs.declared.Reply.{Reply}
use Rattle.never_heap.specs.Histories.{HistoryItem}
use Rattle.never_heap.specs.Licensed.{NoFulls}
use Rattle.never_heap.specs.Runs.{IsRun}
use Rattle.array_tables.specs.operations.Applications.{ops_in}
use Rattle.array_tables.specs.operations.Linearizations.{Call, IsLinearization, answers_told, traces_of}
use Rattle.array_tables.specs.operations.RunPrefixes.{IsRunSoFar, IsLinearizationSoFar}
use Rattle.live_tables.specs.rows.Rows.{Rows, answer_told, commands_of}

pub record Lawful {Op Row Answer S : Type 0} (a : Rows Op Row Answer S) : Type 0 where
  -- one row of each operation decides it
  pub whole : (op : Op) (rows : List Row)
      → ops_in a.decides (a.rows_of op ++ rows) ≡ op ∷ ops_in a.decides rows
  -- an operation's last row tells its answer, and no other row tells one
  pub told : (op : Op) (rows : List Row) (rs more : List Reply)
      → length rs ≡ length (a.rows_of op)
      → answers_told a.ends [] (a.rows_of op ++ rows) (rs ++ more)
      ≡ answer_told a op rs ∷ answers_told a.ends [] rows more
  -- the commands of operations tell them, and so do those commands followed by others
  pub decoded : (t : ℕ) (ops : List Op) → a.AreRead t ops
      → a.operations_of t (commands_of a ops) ≡ ops
  pub begins : (t : ℕ) (ops : List Op) (ks : List Command) → a.AreRead t ops
      → (more : List Op) × (a.operations_of t (commands_of a ops ++ ks) ≡ ops ++ more)
  -- no operation and one more can be done, and what can be done can be read
  pub none : (n t : ℕ) → a.AreDone n t []
  pub more : (n t : ℕ) (ops : List Op) (op : Op) → a.AreDone n t ops → a.CanBeNext n t ops op
      → a.AreDone n t (ops ++ op ∷ [])
  pub read : (n t : ℕ) (ops : List Op) → a.AreDone n t ops → a.AreRead t ops
  -- a run of such operations, and the beginning of one, has a linearization and no full
  pub ordered : (n places blocks rate : ℕ) (scripts : List (List Op)) (h : List HistoryItem)
      → length scripts ≡ n
      → ((t : ℕ) → a.AreDone places t (slice_index_or scripts t []))
      → IsRun (a.config_of n places blocks) rate (traces_of a.rows_of a.command_at scripts) h
      → (order : List (Call Op Answer))
      × IsLinearization a.rows_of a.decides a.ends a.say a.act (a.empty places) scripts h order
      × NoFulls h
  pub so_far : (n places blocks rate : ℕ) (scripts : List (List Op)) (h : List HistoryItem)
      → length scripts ≡ n
      → ((t : ℕ) → a.AreDone places t (slice_index_or scripts t []))
      → IsRunSoFar (a.config_of n places blocks) rate (traces_of a.rows_of a.command_at scripts) h
      → (order : List (Call Op Answer))
      × IsLinearizationSoFar a.rows_of a.decides a.ends a.say a.act (a.empty places) scripts h order
      × NoFulls h
  -- what can come next has commands in bounds, on a heap in its ranges
  pub wide : (n places blocks : ℕ) → (a.config_of n places blocks).width ≡ Eight
  pub fits : (n places blocks t : ℕ) (ops : List Op) (op : Op) → n ≤ 16 → places ≤ 1024 → t < n
      → length (commands_of a ops) ≤ 2 ^ 60 → a.AreDone places t ops → a.CanBeNext places t ops op
      → AllByRecursion (IsCommandInBounds (a.config_of n places blocks)) (commands_of a (op ∷ []))
