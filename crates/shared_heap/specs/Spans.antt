-- The turns of a command whose thread was alone, and their bounds.
use Rattle.std.specs.Prelude.{ℕ, ◌+◌, ◌≤◌, ◌≡◌, true, false, ◌⊎◌}
use Rattle.block_store.specs.declared.Config.{Config}
use Rattle.block_store.specs.Phases.{inside_of, is_closed}
use Rattle.rate_plan.specs.Rates.{IsRate}
use Rattle.never_heap.specs.declared.Command.{Command}
use Rattle.heap_system.specs.Alone.{after_alone, command_bound, command_near}
use Rattle.heap_system.specs.Locals.{is_done}
use Rattle.heap_system.specs.Machines.{Run, local_in}
use Rattle.shared_heap.specs.declared.rules.ThreadView.{ThreadView}
use Rattle.shared_heap.specs.declared.rules.Span.{Span}

-- When the command was announced nobody was inside and the gate was open, and every turn of the run
-- from then on, to the worker's last event, was this worker's.
pub record IsAlone (s : Span) : Type 0 where
  pub nobody : inside_of s.phase ≡ 0
  pub opened : is_closed s.phase ≡ false
  pub own : s.last ≡ s.first + s.own

-- At each of the configuration's rates, so many turns are at most the bound and the near bound of
-- the command for a thread that runs alone.
pub record AreWithin (c : Config) (k : Command) (n : ℕ) : Type 0 where
  pub far : (rate : ℕ) → IsRate c rate → n ≤ command_bound c rate k
  pub near : (rate : ℕ) → IsRate c rate → n ≤ command_near c rate k

-- the worker was alone, or its heap has no other
abbrev pub HasNoRival : Config → Span → Type 0
HasNoRival c s = IsAlone s ⊎ (c.threads ≡ 1)

-- If the worker had no rival, its command has taken at most so many turns.
abbrev pub IsInTime : Config → Command → Span → Type 0
IsInTime c k s = HasNoRival c s → AreWithin c k s.own

-- ---- within the rule

-- one of the bounds
abbrev pub IsBound : Config → Command → ℕ → Type 0
IsBound c k b = (rate : ℕ) × IsRate c rate
    × ((b ≡ command_bound c rate k) ⊎ (b ≡ command_near c rate k))

-- Thread t has made so many turns, and is done after some more of it alone, all within the bound.
pub record EndsBy (c : Config) (t : ℕ) (r : Run) (own bound : ℕ) : Type 0 where
  pub turns : ℕ
  pub few : own + turns ≤ bound
  pub done : is_done (local_in c (after_alone c t r turns) t) ≡ true

-- A run of so many turns has a thread whose seat counts them. If the thread is alone and not done,
-- it ends within what is left of its bounds. The only thread of a configuration is alone.
pub record IsTimed (c : Config) (r : Run) (turns : ℕ) (h : ThreadView) : Type 0 where
  pub own : h.past.span.first + h.past.span.own ≤ h.past.span.last
  pub last : h.past.span.last ≤ turns
  pub single : c.threads ≡ 1 → IsAlone (record h.past.span { last = turns })
  pub ends : turns ≡ h.past.span.first + h.past.span.own → inside_of h.past.span.phase ≡ 0
      → is_closed h.past.span.phase ≡ false → is_done h.local ≡ false → (b : ℕ)
      → IsBound c h.past.call.command b → EndsBy c h.local.thread r h.past.span.own b
