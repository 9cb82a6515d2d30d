-- A thread that makes event after event: the words that it reads lead it on.
use Rattle.std.specs.Prelude.{ℕ, zero, suc, ◌<◌, ◌≤◌, ◌≡◌, Bool, true, false, List, [], ◌∷◌, length}
use Rattle.heap_machine.specs.declared.op.Op.{Op}
use Rattle.heap_machine.specs.declared.Step.{Step}
use Rattle.heap_machine.specs.declared.Step.TheVariants as steps
use Rattle.heap_machine.specs.Memories.{Acts, ReadsOnly}
use Rattle.heap_machine.specs.Operations.{op_place}
use Rattle.block_store.specs.Places.{extent, words_count}
use Rattle.heap_system.specs.declared.Turn.{Turn}
use Rattle.heap_system.specs.declared.Turn.TheVariants.{Went, Waited}
use Rattle.heap_system.specs.Locals.{LocalState, LocalReads, is_done, local_got, part_step, turn_of, op_wanted}

-- none of these events waited but perhaps the last, of which this turn tells; Went tells of none
abbrev pub TellsLast : LocalState → List ℕ → Turn → Type 0
TellsLast l [] turn = turn ≡ Went
TellsLast l (w ∷ []) turn = turn ≡ turn_of (part_step l.config l.part w)
TellsLast l (w ∷ v ∷ ws) turn =
    (Went ≡ turn_of (part_step l.config l.part w)) × TellsLast (local_got l w) (v ∷ ws) turn

-- a thread that is not done, whose next event is on one of the heap's words
abbrev pub IsGoing : LocalState → Type 0
IsGoing l = (is_done l ≡ false) × (op_place (op_wanted l) < words_count (extent l.config))

-- A memory made the events of a thread one after the other, which led to this memory and thread.
-- Before each the thread was not done; the event is the one that it wanted, and read the next of
-- these words, which its row may read.
abbrev pub Ran : {M S : Type 0} → Acts M S → S → M → LocalState → List ℕ → M → LocalState → Type 0
Ran acts s m l [] n k = (m ≡ n) × (l ≡ k)
Ran {M} acts s m l (w ∷ ws) n k = (o : M) × acts m s (op_wanted l) w o × LocalReads l.config l w
    × Ran acts s o (local_got l w) ws n k × IsGoing l

-- a step that does not wait, of a part that is not over after it
abbrev pub goes_on : Step → Bool
goes_on steps.Went = true
goes_on _ = false

abbrev pub has_waited : Turn → Bool
has_waited Waited = true
has_waited _ = false

-- A thread has made such events by a memory, and tells of the last of them.
pub record HasRun {M S : Type 0} (acts : Acts M S) (s : S) (before : M) (old : LocalState)
    (after : M) (new : LocalState) (turn : Turn) : Type 0 where
  pub words : List ℕ
  pub ran : Ran acts s before old words after new
  pub told : TellsLast old words turn

-- one at least, and at most so many
abbrev pub HasRunIn : {M S : Type 0} → ℕ → Acts M S → S → M → LocalState → M → LocalState → Turn → Type 0
HasRunIn most acts s before old after new turn =
    (run : HasRun acts s before old after new turn) × (0 < length run.words)
    × (length run.words ≤ most)

-- the most events that are made in a row
abbrev pub longest : ℕ
longest = 64

abbrev pub HasRunOn : {M S : Type 0} → Acts M S → S → M → LocalState → M → LocalState → Turn → Type 0
HasRunOn = HasRunIn longest

-- A memory that represents the thread may make its next event, reads no word that the row may not,
-- and then represents the thread that has moved on.
pub record MakesTheNextEvent {M S : Type 0} (may : M → S → Op → Type 0) (acts : Acts M S)
    (stands : M → S → LocalState → Type 0) (m : M) (s : S) (l : LocalState) : Type 0 where
  pub allowed : may m s (op_wanted l)
  pub reads : ReadsOnly acts m s (op_wanted l) (LocalReads l.config l)
  pub on : (w : ℕ) (n : M) → acts m s (op_wanted l) w n → stands n s (local_got l w)

-- A memory may make so many events of a thread one after the other: while the thread is not done it
-- may make the next one, which reads no word that the row may not, and then the others.
abbrev pub MayRun : {M S : Type 0} → (M → S → Op → Type 0) → Acts M S → ℕ → M → S → LocalState → Type 0
MayRun may acts zero m s l = Unit {0}
MayRun may acts (suc k) m s l = IsGoing l → MakesTheNextEvent may acts (MayRun may acts k) m s l
