-- What holds of a tally before and after each event that may come.
use Rattle.std.specs.Prelude.{ℕ, ◌+◌, ◌-◌, ◌*◌, ◌/◌, ◌<◌, ◌≤◌, ◌≡◌, ◌≢◌, ◌⊎◌, ◌==◌, ◌&&◌, ◌||◌, nat_lt, max, true}
use Rattle.block_store.specs.declared.Config.{Config}
use Rattle.block_store.specs.Phases.{bit}
use Rattle.never_heap.specs.declared.TheConstants.{MOST_UNITS}
use Rattle.never_heap.specs.Histories.{starts_in, work_in}
use Rattle.never_heap.specs.Cycles.{graph_at}
use Rattle.never_heap.specs.GivenBlocks.{given}
use Rattle.never_heap.specs.Licensed.{Licensed}
use Rattle.never_heap.specs.LiveBlocks.{live_blocks}
use Rattle.never_heap.specs.RightWork.{RightWork}
use Rattle.block_store.specs.Counts.{total}
use Rattle.work_account.specs.Accounts.{IsSound, units_in}
use Rattle.heap_invariant.specs.cycle_tally.Entries.{entries_in, InThreads}
use Rattle.heap_invariant.specs.cycle_tally.Tallies.{Spending, Tally, claims, units_now, given_now, reserved_now, made_of, due_of, made_now}

-- the most blocks that are given in a cycle, with those that are paid
abbrev pub most_given : Config → ℕ → ℕ
most_given c rate = (2 * c.blocks) / rate + c.threads * c.object

-- what a command owes: it has blocks or is told of units, and not both, and of no more units than
-- an idle may have. No unit was made outside the account but for an idle
pub record IsRequested (asked requested idled : ℕ) : Type 0 where
  pub apart : (requested ≡ 0) ⊎ (asked ≡ 0)
  pub none : requested ≡ 0 → idled ≡ 0
  pub few : requested ≤ MOST_UNITS

-- the most units that are made for one command
abbrev pub most_work : Config → ℕ → ℕ
most_work c rate = rate * c.object + MOST_UNITS

-- A thread in this cycle. What it has claimed it can still pay, and what it has reserved is paid.
pub record SpendingKept (c : Config) (rate cycle : ℕ) (w : Spending) : Type 0 where
  pub sound : IsSound rate c.object w.balance
  pub entered : w.balance.cycle ≤ cycle
  pub present : w.inside ≡ true → w.balance.cycle ≡ cycle
  pub asked : w.asked ≤ c.object
  pub requested : IsRequested w.asked w.requested w.idled
  pub within : w.balance.paid ≤ rate * w.asked
  pub owed : made_of w ≤ due_of rate w
  pub claimed : w.low < w.high
      → (0 < w.low) × (w.inside ≡ true) × (made_of w + w.high ≤ due_of rate w + w.low)
  pub reserved : w.reserved ≢ 0
      → (w.inside ≡ true) × (w.reserved ≡ w.asked) × (w.balance.paid ≡ rate * w.asked)

-- what was live at the start of the cycle before, or of the first
abbrev pub live_before : Config → Tally → ℕ
live_before c s = live_blocks c.width (graph_at c s.order (max 1 (s.cycle - 1)))

module _ (c : Config) (rate : ℕ) (black : ℕ → ℕ) where
  pub record TallyKept (s : Tally) : Type 0 where
    pub starts : starts_in s.order ≡ s.cycle
    pub some : 1 ≤ s.cycle
    pub each : (t : ℕ) → t < c.threads → SpendingKept c rate s.cycle (s.threads t)
    pub cursor : (0 < s.cursor) × (s.cursor ≤ c.blocks + 1)
    -- a block was scanned at most once, and while the phase is Mark only where it is black
    pub scans : (x : ℕ) → s.scanned x ≤ bit (s.sweep || (s.colour x == black s.cycle))
    -- a block below the cursor was passed once, or is in one claim
    pub passes : (x : ℕ) → 0 < x
        → s.passed x + total c.threads (λ t. claims x (s.threads t))
        ≡ bit (s.sweep && nat_lt x s.cursor)
    -- the units and the given blocks of the cycle are those of the threads' accounts
    pub counted : total c.threads (λ t. units_in s.cycle (s.threads t).balance)
        ≡ units_now c.blocks s
    pub handed : given_now c.threads s ≡ given c.width s.order s.cycle
    pub ended : (z : ℕ) → z < s.cycle → given c.width s.order z ≤ most_given c rate
    -- what is not free, given or reserved was live before, or given in the cycle before
    pub room : c.blocks ≤ s.free + live_before c s + given c.width s.order (s.cycle - 1)
        + given_now c.threads s + reserved_now c.threads s
    pub few : (s.cycle - 1) * c.blocks ≤ s.past
    pub many : s.past ≤ 2 * c.blocks * (s.cycle - 1)
    pub works : work_in s.order + made_now c.threads s ≡ s.past + units_now c.blocks s
    pub cheap : work_in s.order ≤ entries_in s.order * most_work c rate
    pub entries : InThreads c.threads s.order
    pub right : RightWork c.width rate s.order
    pub licensed : Licensed c s.order
