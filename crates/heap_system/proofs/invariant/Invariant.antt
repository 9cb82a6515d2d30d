-- What every list of turns keeps.
use Rattle.std.proofs.Common.{◌≡◌, ℕ, ◌+◌, ◌<◌, ◌≤◌, true, false, List, [], ◌++◌, length, get_or, map, take}
use Rattle.block_store.specs.declared.Config.{Config}
use Rattle.block_store.specs.Counts.{total}
use Rattle.block_store.specs.Heaps.{Heap}
use Rattle.block_store.specs.Phases.{is_closed, is_sweep}
use Rattle.block_store.specs.Places.{Phase, extent, words_count}
use Rattle.never_heap.specs.declared.Command.{Command}
use Rattle.never_heap.specs.declared.Entry.{Entry}
use Rattle.never_heap.specs.Graphs.{Graph, count_of}
use Rattle.never_heap.specs.Histories.{HistoryItem, replay, part, work_in}
use Rattle.heap_machine.specs.Gating.{GateOf}
use Rattle.heap_machine.specs.PhaseKept.{PhaseKept}
use Rattle.heap_machine.specs.Readings.{IsHeld}
use Rattle.heap_invariant.specs.name_invariant.Invariant.{Invariant}
use Rattle.heap_invariant.specs.name_invariant.Pictures.{Names}
use Rattle.sweep_steps.specs.SweepUnits.{unpassed}
use Rattle.heap_system.specs.Locals.{LocalState, command_of, owed, works, IsLocal}
use Rattle.heap_system.specs.Machines.{Run, local_at, heap_in}
use Rattle.heap_system.specs.Pictures.{work_in_hand, entries_waiting, gates_in, work_in_hand_of, kept_state}
use Rattle.heap_system.specs.Systems.{logs_of, units_of}
use Rattle.heap_system.specs.Units.{IsRight}
use Rattle.heap_system.proofs.invariant.SeenAndKept.{stage, stage_of, PartKept, Knows, IsSettled, lead}

-- thread t, where the order led to graph g, on this heap and with these names
pub record LocalKept (c : Config) (given : List Command) (g : Graph) (order : List HistoryItem) (h : Heap) (ns : Names) (t : ℕ) (l : LocalState) : Type 0 where
  pub config : l.config ≡ c
  pub thread : l.thread ≡ t
  pub fresh : l.before ≡ 0
  pub trace : l.trace ≡ given
  pub fits : IsLocal l
  pub stands : PartKept c g t l.pass (command_of l) l.part
  pub knows : Knows c h ns l.pass l.part
  pub behind : stage l.pass.cycle l.pass.sweep ≤ stage_of h
  pub settled : IsSettled (owed l) l.spent l.part
  pub made : l.made ≡ count_of g t
  pub right : IsRight c.width l.rate (part t order)
  pub told : part t order ≡ l.log ++ entries_waiting g l
  pub said : map (λ (e : Entry). e.command) l.log ≡ take (length l.log) l.trace

-- the units of a thread, and the blocks that it has claimed and not passed
abbrev pub progress : Config → LocalState → ℕ
progress c l = works l.log + l.spent + unpassed (work_in_hand c l.part)

pub record Kept (c : Config) (traces : List (List Command)) (r : Run) : Type 0 where
  pub long : length r.state.words ≡ words_count (extent c)
  pub threads : length r.state.locals ≡ c.threads
  pub gate : GateOf c.threads (heap_in c r.state Phase) (gates_in c r.state)
  pub held : IsHeld c (heap_in c r.state)
  pub rules : PhaseKept (extent c) (heap_in c r.state) (work_in_hand_of c r.state)
  pub names : Invariant c (kept_state c r)
  pub unshaded : is_sweep (heap_in c r.state Phase) ≡ true → is_closed (heap_in c r.state Phase) ≡ false → (t : ℕ) → t < c.threads → r.names.shaded t ≡ false
  pub leads : lead c (heap_in c r.state) ≤ total c.threads (λ t. progress c (local_at c r.state t))
  pub locals : (t : ℕ) → t < c.threads → LocalKept c (get_or traces t []) (replay c r.order) r.order (heap_in c r.state) r.names t (local_at c r.state t)
  pub foreign : (u : ℕ) → c.threads ≤ u → part u r.order ≡ []
  pub counted : work_in r.order ≡ units_of (logs_of r.state)
