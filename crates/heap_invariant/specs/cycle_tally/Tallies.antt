-- What is counted of a heap over its cycles: each thread's account, claim and reservation, the free
-- count, the sweep cursor, the colours, the order; and how often each block was scanned and passed.
use Rattle.std.specs.Prelude.{ℕ, suc, ◌+◌, ◌*◌, ◌==◌, if◌then◌else◌, ◌&&◌, nat_lt, nat_le, Bool, List}
use Rattle.block_store.specs.Phases.{bit}
use Rattle.never_heap.specs.Histories.{HistoryItem}
use Rattle.block_store.specs.Counts.{total}
use Rattle.work_account.specs.Accounts.{Balance, with_unit, with_idle, given_in}

-- what is counted of a thread
pub record Spending : Type 0 where
  pub inside : Bool  -- whether it is inside the gate
  pub balance : Balance  -- its account
  pub asked : ℕ  -- the blocks of the command in hand, or next; 0 where it allocates nothing
  pub requested : ℕ  -- the units that it is told to make; 0 where it is no idle
  pub idled : ℕ  -- the units made for an idle in hand
  pub low : ℕ  -- the blocks claimed and not yet passed are those from low on and below high
  pub high : ℕ
  pub reserved : ℕ  -- all blocks of the object that it builds

pub record Tally : Type 0 where
  pub cycle : ℕ
  pub sweep : Bool  -- whether the phase is Sweep, and not Mark
  pub cursor : ℕ  -- the first block that no sweep has claimed
  pub free : ℕ  -- the free count: Free blocks that nobody has reserved
  pub colour : ℕ → ℕ  -- the colour word of each block
  pub order : List HistoryItem  -- the starts and the commands that were decided, oldest first
  pub threads : ℕ → Spending
  pub scanned : ℕ → ℕ  -- how often a scan made the block black in this cycle
  pub passed : ℕ → ℕ  -- how often a sweep passed it in this cycle
  pub past : ℕ  -- the units of the cycles before

-- 1 where a thread has claimed block x and not yet passed it
abbrev pub claims : ℕ → Spending → ℕ
claims x w = bit (nat_le w.low x && nat_lt x w.high)

-- the units of this cycle, over m blocks, and those of all cycles
abbrev pub units_now : ℕ → Tally → ℕ
units_now m s = total m (λ x. s.scanned (suc x)) + total m (λ x. s.passed (suc x))

abbrev pub units : ℕ → Tally → ℕ
units m s = s.past + units_now m s

-- the units made for the command in hand: those that are paid, and those of an idle
abbrev pub made_of : Spending → ℕ
made_of w = w.balance.paid + w.idled

-- and all that it owes
abbrev pub due_of : ℕ → Spending → ℕ
due_of rate w = rate * w.asked + w.requested

-- a unit is paid, or made for an idle
abbrev pub with_made : Spending → Spending
with_made w = record w {
  balance = if w.requested == 0 then with_unit w.balance else with_idle w.balance;
  idled = if w.requested == 0 then w.idled else w.idled + 1;
}

-- the blocks given in this cycle, those reserved, and the units made for what is not decided yet,
-- over n threads
abbrev pub given_now : ℕ → Tally → ℕ
given_now n s = total n (λ t. given_in s.cycle (s.threads t).balance)

abbrev pub reserved_now : ℕ → Tally → ℕ
reserved_now n s = total n (λ t. (s.threads t).reserved)

abbrev pub made_now : ℕ → Tally → ℕ
made_now n s = total n (λ t. made_of (s.threads t))
