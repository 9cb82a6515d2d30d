-- What is promised of the units, of what they pay for, and of refusals.
use Rattle.std.specs.Prelude.{ℕ, ◌+◌, ◌-◌, ◌*◌, ◌<◌, ◌≤◌, ◌≡◌, true}
use Rattle.block_store.specs.declared.Config.{Config}
use Rattle.never_heap.specs.Histories.{starts_in, work_in}
use Rattle.never_heap.specs.GivenBlocks.{given}
use Rattle.never_heap.specs.Licensed.{Licensed}
use Rattle.never_heap.specs.RightWork.{RightWork}
use Rattle.work_account.specs.Accounts.{IsSound}
use Rattle.heap_invariant.specs.cycle_tally.Tallies.{Tally, units, made_now}
use Rattle.heap_invariant.specs.cycle_tally.Events.{IsEmpty}
use Rattle.heap_invariant.specs.cycle_tally.Entries.{entries_in, InThreads}
use Rattle.heap_invariant.specs.cycle_tally.TallyInvariant.{most_given, most_work}

-- no thread asks for a block or is told of a unit, so that none is made for what is not decided yet
abbrev pub AsksNothing : Config → Tally → Type 0
AsksNothing c s =
    (t : ℕ) → t < c.threads → ((s.threads t).asked ≡ 0) × ((s.threads t).requested ≡ 0)

-- the sweep has come to the end, and nobody is inside
pub record IsSwept (c : Config) (s : Tally) : Type 0 where
  pub sweep : s.sweep ≡ true
  pub cursor : c.blocks < s.cursor
  pub empty : IsEmpty c s

pub record Bound (c : Config) (rate : ℕ) (s : Tally) : Type 0 where
  pub account : (t : ℕ) → t < c.threads → IsSound rate c.object (s.threads t).balance
  -- in each cycle a block is made black by a scan at most once, and passed at most once; at its
  -- end each was passed
  pub scanned_once : (x : ℕ) → s.scanned x ≤ 1
  pub passed_once : (x : ℕ) → 0 < x → s.passed x ≤ 1
  pub all_passed : IsSwept c s → (x : ℕ) → 0 < x → x ≤ c.blocks → s.passed x ≡ 1
  pub gave : (z : ℕ) → z ≤ s.cycle → given c.width s.order z ≤ most_given c rate
  -- the units of all cycles are the works of what was decided, and what was made for the rest; no
  -- command has more than the price of the largest object, or an idle the most that it may
  pub cycles : starts_in s.order ≡ s.cycle
  pub few : (s.cycle - 1) * c.blocks ≤ units c.blocks s
  pub many : units c.blocks s ≤ 2 * c.blocks * s.cycle
  pub works : work_in s.order + made_now c.threads s ≡ units c.blocks s
  pub all_works : AsksNothing c s → work_in s.order ≡ units c.blocks s
  pub cheap : units c.blocks s ≤ (entries_in s.order + c.threads) * most_work c rate
  pub entries : InThreads c.threads s.order
  pub right : RightWork c.width rate s.order
  pub licensed : Licensed c s.order
