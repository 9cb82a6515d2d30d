-- The laws of a part of a thread's work: one record, which each part makes.
use Rattle.std.proofs.Common.{◌≡◌, ℕ, ◌+◌, ◌<◌, ◌≤◌, true, false, not, ◌&&◌, cond, Some}
use Rattle.block_store.specs.declared.Config.{Config}
use Rattle.block_store.specs.Heaps.{Heap}
use Rattle.block_store.specs.Phases.{bit, is_closed}
use Rattle.block_store.specs.Places.{Phase, Cursor}
use Rattle.never_heap.specs.declared.Command.{Command}
use Rattle.never_heap.specs.declared.Reply.{Reply}
use Rattle.never_heap.specs.Graphs.{Graph, register_of, count_of}
use Rattle.heap_machine.specs.Gating.{is_outside, is_inside, is_closing}
use Rattle.heap_machine.specs.WorkInHand.{holds_nothing}
use Rattle.heap_machine.specs.Operations.{heap_after, place_of, Fits}
use Rattle.heap_machine.specs.declared.pass.Pass.{Pass}
use Rattle.build_steps.specs.Naming.{HoldsBuild}
use Rattle.heap_invariant.specs.name_invariant.Pictures.{Names, no_task}
use Rattle.heap_system.specs.Parts.{Part, Rest}
use Rattle.heap_system.specs.declared.Turn.TheVariants as turns
use Rattle.heap_system.specs.Locals.{view, task, effect, part_want, part_got, spent_got, entries_of, works, unit_to_come, PartFits, PartReads, IsRoomy, turn_of, waits}
use Rattle.heap_system.specs.Naming.{Same}
use Rattle.heap_system.specs.Pictures.{gating, stand_of, work_in_hand, waiting}
use Rattle.heap_system.specs.Units.{blackens, passes}
use Rattle.heap_system.proofs.invariant.SeenAndKept.{stage, stage_of, PartKept, Knows, IsSettled, Forward, Seen, errand, EventKept}

-- the thread whose turn it is is at part p
pub record AtPart (c : Config) (s : Seen c) (p : Part) : Type 0 where
  pub gating : s.gatings s.thread ≡ gating c s.pass p
  pub task : s.tasks s.thread ≡ task c p
  pub holds : s.holds s.thread ≡ work_in_hand c p
  pub part : PartKept c s.graph s.thread s.pass s.command p
  pub knows : Knows c s.heap s.names s.pass p
  pub fits : PartFits c s.done s.all s.pass p
  pub roomy : IsRoomy s.space p
  pub pays : s.spent + unit_to_come c p ≤ s.due
  pub settled : IsSettled s.due s.spent p

-- the word that its event reads
abbrev pub word_at : (c : Config) → Seen c → Part → ℕ
word_at c s p = s.heap (place_of (part_want c p))

-- what its event keeps
abbrev pub PartEvent : (c : Config) → Seen c → Part → Type 0
PartEvent c s p = EventKept c s (heap_after s.heap (part_want c p)) (effect c p (word_at c s p)) (waiting s.graph p) (part_got c s.thread (errand c s) s.pass p (word_at c s p))

-- what is to be proved of a part: all that this crate's laws ask of it
pub record PartLaws (c : Config) (p : Part) : Type 0 where
  -- it reads what it may read, and no sum or difference leaves 64 bits
  pub reads : (s : Seen c) → AtPart c s p → PartReads c p (word_at c s p)
  pub sum : (s : Seen c) → AtPart c s p → Fits (part_want c p) (word_at c s p)
  -- its event keeps what every list of turns keeps
  pub event : (s : Seen c) → AtPart c s p → (p ≡ Rest → s.done < s.all) → PartEvent c s p
  -- and what it keeps and knows stays at the events of other threads
  pub stays : (g new : Graph) (u : ℕ) (pass : Pass) (k : Command) → PartKept c g u pass k p → ((q : ℕ) → register_of new u q ≡ register_of g u q) → count_of new u ≡ count_of g u → PartKept c new u pass k p × (waiting new p ≡ waiting g p)
  pub knows : (h new : Heap) (ns later : Names) (pass : Pass) → Forward h new → new Cursor ≤ c.blocks + 1 → stage pass.cycle pass.sweep ≤ stage_of h → (is_closing (stand_of c p) ≡ true → (new ≡ h) × (later ≡ ns)) → Knows c h ns pass p → Knows c new later pass p
  -- while another thread has closed the gate it changes nothing
  pub rests : (s : Seen c) → AtPart c s p → is_closed (s.heap Phase) ≡ true → is_closing (stand_of c p) ≡ false → (heap_after s.heap (part_want c p) ≡ s.heap) × ((effect c p (word_at c s p)).naming ≡ Same)
  -- outside it is at nothing and holds nothing; and what it builds with it holds
  pub idle : is_inside (stand_of c p) ≡ false → task c p ≡ no_task
  pub empty : is_outside (stand_of c p) ≡ true → work_in_hand c p ≡ holds_nothing
  pub builds : (done all : ℕ) (pass : Pass) → PartFits c done all pass p → HoldsBuild (view c p).build (work_in_hand c p)
  -- only a thread with a command left has a reply
  pub low : (done all w : ℕ) (pass : Pass) (r : Reply) → PartFits c done all pass p → (effect c p w).reply ≡ Some r → done < all
  -- a turn waits where the table says so
  pub turn : (w : ℕ) → turn_of (effect c p w).step ≡ cond (waits p w) turns.Waited turns.Went
  -- a unit is the event that makes a grey block black or passes a block, and is in the log or paid
  pub black : (s : Seen c) → AtPart c s p → blackens s.heap (part_want c p) ≡ ((effect c p (word_at c s p)).unit && not (passes c p (word_at c s p)))
  pub units : (t : ℕ) (k : Command) (paid w : ℕ) → works (entries_of t k paid (effect c p w).reply) + spent_got (effect c p w).reply (effect c p w).unit paid ≡ paid + bit (effect c p w).unit
