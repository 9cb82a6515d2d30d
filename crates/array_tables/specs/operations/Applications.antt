-- What an application gives: its operations are rows of commands, and an invariant of the graph, of
-- each thread's progress and of the state is kept by each row.
use Rattle.std.specs.Prelude.{ℕ, ◌≡◌, ◌≢◌, ◌≤◌, Option, Some, None, List, [], ◌∷◌, ◌++◌, flat_map, slice_index_or}
use Rattle.block_store.specs.declared.Config.{Config}
use Rattle.never_heap.specs.declared.Command.{Command}
use Rattle.never_heap.specs.declared.Reply.{Reply}
use Rattle.never_heap.specs.Graphs.{Graph, start_graph}
use Rattle.never_heap.specs.LiveBlocks.{live_blocks}
use Rattle.never_heap.specs.Steps.{step}
use Rattle.array_tables.specs.operations.Linearizations.{seen_next}

-- where a thread is: the rows that it has left, the replies that it got in its operation, and
-- the answer that is decided and not yet told
pub record Progress (Row Answer : Type 0) : Type 0 where
  pub todo : List Row
  pub seen : List Reply
  pub pending : List Answer

-- what a row that decides an operation says of the state, and what it makes of it
abbrev pub said : {Op Answer S : Type 0} → (Op → S → Answer) → Option Op → S → List Answer
said say None s = []
said say (Some op) s = say op s ∷ []

abbrev pub acted : {Op S : Type 0} → (Op → S → S) → Option Op → S → S
acted act None s = s
acted act (Some op) s = act op s

-- what stays pending, once the answers are told
abbrev pub kept_next : {Answer : Type 0} → Option (List Reply → Answer) → List Answer → List Answer
kept_next None pending = pending
kept_next (Some f) pending = []

-- what its last row tells is what was decided
abbrev pub Tells : {Answer : Type 0} → Option (List Reply → Answer) → List Reply → List Answer → Type 0
Tells None seen pending = Unit {0}
Tells (Some f) seen pending = pending ≡ f seen ∷ []

-- the operations that rows decide
abbrev pub op_by : {Op : Type 0} → Option Op → List Op → List Op
op_by None ops = ops
op_by (Some op) ops = op ∷ ops

abbrev pub ops_in : {Op Row : Type 0} → (Row → Option Op) → List Row → List Op
ops_in decides [] = []
ops_in decides (row ∷ rows) = op_by (decides row) (ops_in decides rows)

-- a thread after its next row was answered r
abbrev pub moved :
    {Op Row Answer S : Type 0} → (Row → Option Op) → (Row → Option (List Reply → Answer))
    → (Op → S → Answer) → Progress Row Answer → Row → List Row → Reply → S → Progress Row Answer
moved decides ends say m row rows r s = record {
  todo = rows;
  seen = seen_next (ends row) (m.seen ++ r ∷ []);
  pending = kept_next (ends row) (m.pending ++ said say (decides row) s);
}

-- a thread before its first command
abbrev pub fresh : {Op Row Answer : Type 0} → (Op → List Row) → List (List Op) → ℕ → Progress Row Answer
fresh rows_of scripts t =
    record { todo = flat_map rows_of (slice_index_or scripts t []); seen = []; pending = [] }

-- What an application owes: each operation is decided by one of its rows; what holds of the graph,
-- of each thread's place and of the state holds at first, bounds the live blocks, and goes on by
-- each row; and what an operation's last row tells is the answer that was decided.
pub record Application {Op Row Answer S : Type 0} (c : Config)
    (rows_of : Op → List Row) (command_at : Row → Command) (decides : Row → Option Op)
    (ends : Row → Option (List Reply → Answer))
    (say : Op → S → Answer) (act : Op → S → S) (empty : S) (scripts : List (List Op))
    (Holds : Graph → (ℕ → Progress Row Answer) → S → Type 0)
    : Type 0 where
  pub whole : (op : Op) (rows : List Row)
      → ops_in decides (rows_of op ++ rows) ≡ op ∷ ops_in decides rows
  pub starts : Holds (start_graph c) (fresh rows_of scripts) empty
  pub few : (g : Graph) (at : ℕ → Progress Row Answer) (s : S) → Holds g at s
      → live_blocks c.width g ≤ c.live
  pub rests : (g : Graph) (at : ℕ → Progress Row Answer) (s : S) (t : ℕ) → Holds g at s
      → (at t).todo ≡ [] → (at t).pending ≡ []
  pub tells : (g : Graph) (at : ℕ → Progress Row Answer) (s : S) (t : ℕ) (row : Row) (rows : List Row)
      → Holds g at s → (at t).todo ≡ row ∷ rows
      → Tells (ends row) ((at t).seen ++ (step g t (command_at row)).1 ∷ [])
      ((at t).pending ++ said say (decides row) s)
  pub goes : (g : Graph) (at new : ℕ → Progress Row Answer) (s : S) (t : ℕ) (row : Row)
      (rows : List Row)
      → Holds g at s → (at t).todo ≡ row ∷ rows
      → ((u : ℕ) → t ≢ u → new u ≡ at u)
      → new t ≡ moved decides ends say (at t) row rows (step g t (command_at row)).1 s
      → Holds (step g t (command_at row)).0 new (acted act (decides row) s)
