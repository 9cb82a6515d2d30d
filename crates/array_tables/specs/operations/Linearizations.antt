-- Threads that do operations on a heap which they share: each thread has a script of operations, and
-- an operation is a few commands. A row is one of these commands, with what it is for. One row of
-- each operation decides: its entry is the point at which the operation takes effect.
use Rattle.std.specs.Prelude.{ℕ, ◌≡◌, ◌==◌, Option, Some, None, if◌then◌else◌, List, [], ◌∷◌, ◌++◌, length, drop, map, flat_map, slice_index_or}
use Rattle.never_heap.specs.declared.Command.{Command}
use Rattle.never_heap.specs.declared.Entry.{Entry}
use Rattle.never_heap.specs.declared.Reply.{Reply}
use Rattle.never_heap.specs.Histories.{HistoryItem, Started, Did, part}

-- an operation that took effect: whose it is, and what it answered
pub record Call (Op Answer : Type 0) : Type 0 where
  pub thread : ℕ
  pub operation : Op
  pub answer : Answer

-- those of thread t
abbrev pub calls_of : {Op Answer : Type 0} → ℕ → List (Call Op Answer) → List (Call Op Answer)
calls_of t [] = []
calls_of t (d ∷ ds) = if d.thread == t then d ∷ calls_of t ds else calls_of t ds

-- what they make of a state, one after the other
abbrev pub after_calls : {Op Answer S : Type 0} → (Op → S → S) → S → List (Call Op Answer) → S
after_calls act s [] = s
after_calls act s (d ∷ ds) = after_calls act (act d.operation s) ds

-- each answer is what the operation says of the state that the calls before it leave
abbrev pub AreAnswered :
    {Op Answer S : Type 0} → (Op → S → Answer) → (Op → S → S) → S → List (Call Op Answer) → Type 0
AreAnswered say act s [] = Unit {0}
AreAnswered say act s (d ∷ ds) =
    (d.answer ≡ say d.operation s) × AreAnswered say act (act d.operation s) ds

-- the rows of its script that a thread has left after these items
abbrev pub rows_left :
    {Op Row : Type 0} → (Op → List Row) → List (List Op) → List HistoryItem → ℕ → List Row
rows_left rows_of scripts past t =
    drop (length (part t past)) (flat_map rows_of (slice_index_or scripts t []))

-- the trace of each thread: the commands of its script's rows
abbrev pub traces_of :
    {Op Row : Type 0} → (Op → List Row) → (Row → Command) → List (List Op) → List (List Command)
traces_of rows_of command_at scripts =
    map (λ ops. map command_at (flat_map rows_of ops)) scripts

-- what an entry of thread t decides, where this is what its row decides
abbrev pub decided_by : {Op : Type 0} → ℕ → Option Op → List (ℕ × Op)
decided_by t None = []
decided_by t (Some op) = (t, op) ∷ []

-- what the next of these rows decides
abbrev pub decided_next : {Op Row : Type 0} → (Row → Option Op) → ℕ → List Row → List (ℕ × Op)
decided_next decides t [] = []
decided_next decides t (row ∷ rows) = decided_by t (decides row)

-- which operation an item decides, after these items, and whose it is
abbrev pub decided_at :
    {Op Row : Type 0} → (Op → List Row) → (Row → Option Op) → List (List Op)
    → List HistoryItem → HistoryItem → List (ℕ × Op)
decided_at rows_of decides scripts past Started = []
decided_at rows_of decides scripts past (Did e) =
    decided_next decides e.thread (rows_left rows_of scripts past e.thread)

-- the operations in the order of their deciding entries, of the items that come after these
abbrev pub decided_behind :
    {Op Row : Type 0} → (Op → List Row) → (Row → Option Op) → List (List Op)
    → List HistoryItem → List HistoryItem → List (ℕ × Op)
decided_behind rows_of decides scripts past [] = []
decided_behind rows_of decides scripts past (i ∷ is) =
    decided_at rows_of decides scripts past i
    ++ decided_behind rows_of decides scripts (past ++ i ∷ []) is

-- What was answered by the replies to rows: those of one operation are seen together, and its last
-- row says how they tell its answer.
abbrev pub told_next : {Answer : Type 0} → Option (List Reply → Answer) → List Reply → List Answer
told_next None seen = []
told_next (Some f) seen = f seen ∷ []

abbrev pub seen_next : {Answer : Type 0} → Option (List Reply → Answer) → List Reply → List Reply
seen_next None seen = seen
seen_next (Some f) seen = []

abbrev pub answers_told :
    {Row Answer : Type 0} → (Row → Option (List Reply → Answer))
    → List Reply → List Row → List Reply → List Answer
answers_told ends seen [] rs = []
answers_told ends seen (row ∷ rows) [] = []
answers_told ends seen (row ∷ rows) (r ∷ rs) =
    told_next (ends row) (seen ++ r ∷ [])
    ++ answers_told ends (seen_next (ends row) (seen ++ r ∷ [])) rows rs

-- the replies to a thread's commands
abbrev pub replies_in : ℕ → List HistoryItem → List Reply
replies_in t h = map (λ (e : Entry). e.reply) (part t h)

-- A linearization of a history: all operations in one order, each once and each thread's in script
-- order. It is the order of their deciding entries, each answer is the one in this order, and the
-- replies to a thread's commands tell its answers.
pub record IsLinearization {Op Row Answer S : Type 0}
    (rows_of : Op → List Row) (decides : Row → Option Op)
    (ends : Row → Option (List Reply → Answer))
    (say : Op → S → Answer) (act : Op → S → S) (empty : S)
    (scripts : List (List Op)) (h : List HistoryItem) (order : List (Call Op Answer))
    : Type 0 where
  pub each : (t : ℕ)
      → map (λ (d : Call Op Answer). d.operation) (calls_of t order) ≡ slice_index_or scripts t []
  pub deciding : map (λ (d : Call Op Answer). (d.thread, d.operation)) order
      ≡ decided_behind rows_of decides scripts [] h
  pub answered : AreAnswered say act empty order
  pub told : (t : ℕ) → map (λ (d : Call Op Answer). d.answer) (calls_of t order)
      ≡ answers_told ends [] (flat_map rows_of (slice_index_or scripts t [])) (replies_in t h)
