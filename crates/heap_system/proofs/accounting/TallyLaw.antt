-- How a run is counted: what a tally of its cycles says of it, and what one event is to keep of
-- that.
use Rattle.std.proofs.Common.{◌⊎◌, ◌≡◌, ℕ, ◌+◌, ◌*◌, ◌<◌, ◌≤◌, Bool, ◌&&◌, cond, eqb, Option, Some, None, List, ◌++◌}
use Rattle.block_store.specs.declared.Config.{Config}
use Rattle.block_store.specs.declared.Width.{Width}
use Rattle.block_store.specs.Colours.{black_word}
use Rattle.block_store.specs.Heaps.{Heap}
use Rattle.block_store.specs.Phases.{is_sweep, cycle_of}
use Rattle.block_store.specs.Places.{Phase, Cursor, FreeCount, ColourOf}
use Rattle.rate_plan.specs.Rates.{KeepsUp}
use Rattle.never_heap.specs.declared.Reply.{Reply}
use Rattle.never_heap.specs.Histories.{HistoryItem}
use Rattle.never_heap.specs.declared.Command.{Command}
use Rattle.never_heap.specs.RightWork.{requested_units}
use Rattle.never_heap.specs.Steps.{blocks_of}
use Rattle.heap_machine.specs.Gating.{is_inside}
use Rattle.heap_machine.specs.Operations.{heap_after}
use Rattle.heap_invariant.specs.name_invariant.Building.{Build as Builder, build_blocks}
use Rattle.work_account.specs.Accounts.{Balance}
use Rattle.heap_invariant.specs.cycle_tally.TallyInvariant.{TallyKept}
use Rattle.heap_invariant.specs.cycle_tally.Tallies.{Spending, Tally, units_now}
use Rattle.heap_system.specs.Parts.{Part}
use Rattle.heap_system.specs.Locals.{Effect, view, effect, idle_part, spent_got, balance_got, part_want, part_got}
use Rattle.heap_system.specs.Machines.{starts_by}
use Rattle.heap_system.specs.Naming.{Naming, Begun}
use Rattle.heap_system.specs.Pictures.{stand_of, work_in_hand}
use Rattle.heap_system.specs.Units.{turns_black}
use Rattle.heap_system.proofs.invariant.SeenAndKept.{Seen, errand, items_told}
use Rattle.heap_system.proofs.step_rows.PartLaws.{AtPart, word_at}

-- the blocks that a thread has reserved for what it builds, from the reservation to the publish
abbrev pub reserved_for : Width → Option Builder → ℕ
reserved_for w None = 0
reserved_for w (Some b) = build_blocks w b

-- what a thread asks for: the blocks of its command, the units that it is told to make, and those
-- made for an idle
pub record Asking : Type 0 where
  pub blocks : ℕ
  pub requested : ℕ
  pub idled : ℕ

-- in this command, for which so many units were made
abbrev pub asking : Config → Command → ℕ → Asking
asking c k spent = record { blocks = blocks_of c.width k; requested = requested_units k; idled = idle_part (requested_units k) spent }

-- before a command
pub record IsNext (c : Config) (a : Asking) : Type 0 where
  pub blocks : a.blocks ≤ c.object
  pub apart : (a.requested ≡ 0) ⊎ (a.blocks ≡ 0)
  pub few : a.requested ≤ 131070
  pub none : a.idled ≡ 0

-- a thread at part p with this balance, that asks for this
pub record IsSpending (c : Config) (p : Part) (balance : Balance) (asking : Asking) (w : Spending) : Type 0 where
  pub inside : w.inside ≡ is_inside (stand_of c p)
  pub account : w.balance ≡ balance
  pub asked : w.asked ≡ asking.blocks
  pub requested : w.requested ≡ asking.requested
  pub idled : w.idled ≡ asking.idled
  pub low : w.low ≡ (work_in_hand c p).low
  pub high : w.high ≡ (work_in_hand c p).high
  pub reserved : w.reserved ≡ reserved_for c.width (view c p).build

-- the tally has the heap's cycle and phase, cursor, free count and colours, and this order
pub record IsTallyOf (h : Heap) (items : List HistoryItem) (s : Tally) : Type 0 where
  pub cycle : s.cycle ≡ cycle_of (h Phase)
  pub sweep : s.sweep ≡ is_sweep (h Phase)
  pub cursor : s.cursor ≡ h Cursor
  pub free : s.free ≡ h FreeCount
  pub colour : (x : ℕ) → s.colour x ≡ h (ColourOf x)
  pub order : s.order ≡ items

-- what a thread asks for after an event: with a reply for its next command
abbrev pub asked_got : Option Reply → Asking → Asking → Asking
asked_got None asked next = asked
asked_got (Some r) asked next = next

-- Before an event of the thread, which is at part p: a tally of what the turn sees is kept, and has
-- each thread where it is.
pub record Counted (c : Config) (rate : ℕ) (s : Seen c) (p : Part) (t : Tally) : Type 0 where
  pub some : 0 < rate
  pub plan : KeepsUp c rate
  pub due : s.due ≡ rate * blocks_of c.width s.command + requested_units s.command
  pub kept : TallyKept c rate black_word t
  pub of : IsTallyOf s.heap s.order t
  pub own : IsSpending c p s.balance (asking c s.command s.spent) (t.threads s.thread)
  pub inside : (u : ℕ) → u < c.threads → (t.threads u).inside ≡ is_inside (s.gatings u).stand

-- a unit scans a block where it makes it black, and passes one where the phase is Sweep: the first
-- that its thread has claimed
abbrev pub scans_at : Heap → Heap → Effect → ℕ → Bool
scans_at h new e x = e.unit && turns_black (cycle_of (h Phase)) (ColourOf x) (h (ColourOf x)) (new (ColourOf x))

abbrev pub passes_at : Heap → Effect → Spending → ℕ → Bool
passes_at h e w x = e.unit && (is_sweep (h Phase) && eqb w.low x)

-- one more where it is so
abbrev pub more_if : Bool → ℕ → ℕ
more_if b n = cond b (n + 1) n

-- a start ends the cycle: its counts are 0, and its units are those of a cycle before
abbrev pub in_cycle : Naming → ℕ → ℕ
in_cycle Begun n = 0
in_cycle _ n = n

abbrev pub past_by : Naming → ℕ → ℕ → ℕ
past_by Begun now past = past + now
past_by _ now past = past

-- And after it, where the thread is at part p: one is kept of the heap and the order then, and it
-- has the other threads as before.
pub record TallyEvent (c : Config) (rate : ℕ) (s : Seen c) (new : Heap) (e : Effect) (p : Part) (next : Asking) (before : Tally) : Type 0 where
  pub tally : Tally
  pub kept : TallyKept c rate black_word tally
  pub of : IsTallyOf new (s.order ++ (items_told s.graph s.thread s.command s.spent e.verdict ++ starts_by e.naming)) tally
  pub own : IsSpending c p (balance_got e (requested_units s.command) (blocks_of c.width s.command) s.balance) (asked_got e.reply (asking c s.command (spent_got e.reply e.unit s.spent)) next) (tally.threads s.thread)
  pub others : (u : ℕ) → (s.thread ≡ u → ⊥) → tally.threads u ≡ before.threads u
  pub scanned : (x : ℕ) → tally.scanned x ≡ in_cycle e.naming (more_if (scans_at s.heap new e x) (before.scanned x))
  pub passed : (x : ℕ) → tally.passed x ≡ in_cycle e.naming (more_if (passes_at s.heap e (before.threads s.thread) x) (before.passed x))
  pub past : tally.past ≡ past_by e.naming (units_now c.blocks before) before.past

-- The law of a part: a tally that is kept of what the turn sees goes on to one that is kept after
-- its event. Where that has the reply, the next command asks for that.
abbrev pub TallyLaw : (c : Config) → Part → Type 0
TallyLaw c p = (rate : ℕ) (s : Seen c) → AtPart c s p → (next : Asking) → IsNext c next → (before : Tally) → Counted c rate s p before
    → TallyEvent c rate s (heap_after s.heap (part_want c p)) (effect c p (word_at c s p)) (part_got c s.thread (errand c s) s.pass p (word_at c s p)) next before
