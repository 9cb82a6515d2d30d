-- What a worker's thread may do to the shared words, and how that changes its seat.
use Rattle.std.specs.Prelude.{ℕ, ◌+◌, ◌<◌, ◌≡◌, List, [], length, false}
use Rattle.atomic_table.specs.Table as table
use Rattle.atomic_table.specs.Seated.{TableId}
use Rattle.block_store.specs.Places.{extent, words_count}
use Rattle.heap_machine.specs.declared.op.Op.{Op}
use Rattle.heap_machine.specs.Operations.{op_place}
use Rattle.never_heap.specs.declared.Command.{Command}
use Rattle.never_heap.specs.declared.Entry.{Entry}
use Rattle.heap_system.specs.Locals.{LocalState, is_done, op_wanted}
use Rattle.shared_heap.specs.declared.rules.ThreadView.{ThreadView}
use Rattle.shared_heap.specs.declared.rules.Moment.{Moment}
use Rattle.shared_heap.specs.declared.rules.SeenHistory.{SeenHistory}
use Rattle.shared_heap.specs.declared.rules.View.{View}
use Rattle.shared_heap.specs.Shared.{IsOfRun, IsStartOf, StepsOn, behind, held, later_past, one_view}
use Rattle.shared_heap.specs.Spans.{IsInTime}
use Rattle.shared_heap.specs.Turns.{MadeTurns}

-- The seat is of this table and has one thread, which is not done, and the operation is the one
-- that the thread wants, on a word of the heap.
pub record MayTurn (me : table.Me Command View) (own shared : TableId) (op : Op) : Type 0 where
  pub one : ThreadView
  pub notes : List (List Moment)
  pub knows : me ≡ (one_view one notes, [])
  pub going : is_done one.local ≡ false
  pub wants : op ≡ op_wanted one.local
  pub place : op_place op < shared.words
  pub within : op_place op < words_count (extent one.local.config)
  pub table : own ≡ shared
  pub slots : shared.slots ≡ 0

-- It is still the same seat of the table, and its thread has made one event that read this word.
abbrev pub HasTurned : TableId → ℕ → table.Me Command View → ℕ → TableId → ℕ
    → table.Me Command View → Type 0
HasTurned own id me w own_after id_after me_after =
    (own_after ≡ own) × (id_after ≡ id) × StepsOn me w me_after

-- The seat is of the table and has this one thread, with earlier commands and entries before its
-- own, and no notes. It knows a run of which it is a thread.
pub record HasThread (me : table.Me Command View) (own shared : TableId) (l : LocalState) : Type 0
  where
    pub commands : List Command
    pub entries : List Entry
    pub past : SeenHistory
    pub long : length commands ≡ length entries
    pub knows : me ≡ (one_view (held (behind commands entries l) past) [], [])
    pub told : IsOfRun l.config past (behind commands entries l)
    pub few : IsInTime l.config past.call.command past.span
    pub words : own.words ≡ words_count (extent l.config) + 1
    pub slots : own.slots ≡ 0
    pub table : own ≡ shared

-- The seat has this thread, after these commands and entries, has seen at least as much as before,
-- and has counted an event for each of these words.
pub record HasSeenMore (ks : List Command) (es : List Entry) (p : SeenHistory) (l : LocalState)
    (ws : List ℕ) (after : table.Me Command View) (k : LocalState) : Type 0 where
  pub now : List Moment
  pub turns : ℕ
  pub knows : after
      ≡ (one_view (held (behind ks es k) (later_past now turns (p.span.own + length ws) p)) [], [])
  pub more : IsStartOf p.seen now
  pub made : MadeTurns (behind ks es l) ws (behind ks es k)

-- The thread has made an event by each of these words. The earlier commands and entries of the
-- seat's thread are unchanged.
pub record HasGoneOn (me : table.Me Command View) (l : LocalState) (ws : List ℕ)
    (after : table.Me Command View) (k : LocalState) : Type 0 where
  pub front : (ks : List Command) (es : List Entry) (p : SeenHistory) → length ks ≡ length es
      → me ≡ (one_view (held (behind ks es l) p) [], []) → HasSeenMore ks es p l ws after k
  pub trace : k.trace ≡ l.trace
  pub config : k.config ≡ l.config
  pub thread : k.thread ≡ l.thread
  pub before : k.before ≡ l.before
