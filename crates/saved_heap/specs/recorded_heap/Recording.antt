-- What a recorder has written, and what one more command adds to it.
use Rattle.std.specs.Prelude.{ℕ, ◌≤◌, ◌≡◌, ◌⊎◌, Bool, true, false, Option, List, [], ◌∷◌, ◌++◌, length}
use Rattle.std.specs.List.{flat_map}
use Rattle.block_store.specs.declared.Config.{Config}
use Rattle.never_heap.specs.declared.Command.{Command}
use Rattle.never_heap.specs.declared.Reply.{Reply}
use Rattle.never_heap.specs.Jobs.{IsTraceInBounds}
use Rattle.control_heap.specs.Controls.{Control, AllAnswered, CanOpen}
use Rattle.control_heap.specs.Refusals.{IsRefused}
use Rattle.trace_text.specs.Faults.{Rose}
use Rattle.trace_text.specs.Jobs.{Job, IsJobInBounds}
use Rattle.trace_text.specs.JobTexts.{line_text, job_text}
use Rattle.trace_text.specs.Spellings.{command_line, header, trace_lines}
use Rattle.trace_text.specs.Streams.{Appends, AppendsPrefix}
use Rattle.saved_heap.specs.declared.recorded_heap.recorder.RecordFault.{RecordFault}
use Rattle.saved_heap.specs.declared.recorded_heap.recorder.RecordFault.TheVariants.{Refused, RecordFull, Unwritten}

-- the heap, the sink, how many commands are written, and whether a write has failed
pub record RecorderOf (S : Type 0) : Type 0 where
  pub heap : Control
  pub sink : S
  pub count : ℕ
  pub torn : Bool

-- the job of one thread that asks these commands
abbrev pub job_of : Config → List Command → Job
job_of c ks = record { config = c; traces = ks ∷ [] }

-- its text, without the last line
abbrev pub text_so_far : Config → List Command → List ℕ
text_so_far c ks = line_text (header c) ++ flat_map line_text (trace_lines 0 ks)

-- Since the sink held `start` and the heap was `first`, the heap did these commands with these
-- replies, one after the other, and the sink got the text of their job, but for its last line.
pub record HasRecorded {S : Type 0} (held : S → Option (List ℕ)) (start : Option (List ℕ))
    (first : Control) (ks : List Command) (ys : List Reply) (r : RecorderOf S) : Type 0 where
  pub can : CanOpen first.config
  pub config : r.heap.config ≡ first.config
  pub answered : AllAnswered first ks ys r.heap
  pub written : Appends start (held r.sink) (text_so_far first.config ks)
  pub bounds : IsTraceInBounds first.config ks
  pub count : r.count ≡ length ks

-- A recorder that was opened over this sink has nothing on record but the first two lines; or a
-- write has failed.
abbrev pub IsOpened : {S : Type 0} → (S → Option (List ℕ)) → (S → ℕ) → S → RecorderOf S → Type 0
IsOpened held faults sink r =
    ((r.torn ≡ false) × HasRecorded held (held sink) r.heap [] [] r)
    ⊎ ((r.torn ≡ true) × Rose (faults sink) (faults r.sink))

-- whatever was on record, the command and its reply are on record after it
abbrev pub RecordsOne : {S : Type 0} → (S → Option (List ℕ)) → RecorderOf S → Command → Reply
    → RecorderOf S → Type 0
RecordsOne held old k reply new =
    (start : Option (List ℕ)) (first : Control) (ks : List Command) (ys : List Reply)
    → HasRecorded held start first ks ys old
    → HasRecorded held start first (ks ++ k ∷ []) (ys ++ reply ∷ []) new

-- whatever was on record, the sink has the whole text of its job, which is in its ranges
abbrev pub IsWhole : {S : Type 0} → (S → Option (List ℕ)) → RecorderOf S → S → Type 0
IsWhole held old sink =
    (start : Option (List ℕ)) (first : Control) (ks : List Command) (ys : List Reply)
    → HasRecorded held start first ks ys old
    → Appends start (held sink) (job_text (job_of first.config ks))
    × IsJobInBounds (job_of first.config ks)

-- The cause of each fault: the heap refuses the command; the record has as many commands as a job
-- may have; or a write failed, earlier or now.
abbrev pub IsRecordFault : {S : Type 0} → (S → Option (List ℕ)) → (S → ℕ) → RecorderOf S → Command
    → RecorderOf S → RecordFault → Type 0
IsRecordFault held faults old k new (Refused r) =
    (old.torn ≡ false) × IsRefused old.heap k r × (new ≡ old)
IsRecordFault held faults old k new RecordFull = (131072 ≤ old.count) × (new ≡ old)
IsRecordFault held faults old k new Unwritten =
    ((old.torn ≡ true) × (new ≡ old))
    ⊎ ((new.torn ≡ true) × Rose (faults old.sink) (faults new.sink)
    × AppendsPrefix (held old.sink) (held new.sink) (line_text (command_line k)))
