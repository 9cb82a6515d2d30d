-- What a thread has paid, and its units and the blocks that it was given in one cycle.
use Rattle.std.specs.Prelude.{ℕ, ◌+◌, ◌*◌, ◌≤◌, ◌==◌, nat_lt, if◌then◌else◌}

pub record Balance : Type 0 where
  pub paid : ℕ  -- the units made for the allocation in hand
  pub cycle : ℕ  -- the cycle that the thread entered last
  pub units : ℕ  -- the units that it made in that cycle
  pub given : ℕ  -- the blocks that it was given in that cycle

-- a balance, with the rate and the largest object, which stay
pub record AccountState : Type 0 where
  pub rate : ℕ
  pub object : ℕ
  pub balance : Balance

abbrev pub opened : Balance
opened = record { paid = 0; cycle = 1; units = 0; given = 0 }

-- a later cycle begins with no units and nothing given; what was paid stays
abbrev pub entered : ℕ → Balance → Balance
entered c a =
    if nat_lt a.cycle c then record { paid = a.paid; cycle = c; units = 0; given = 0 } else a

abbrev pub with_unit : Balance → Balance
with_unit a = record a { paid = a.paid + 1; units = a.units + 1 }

-- a unit for which nothing is given: what is paid stays
abbrev pub with_idle : Balance → Balance
with_idle a = record a { units = a.units + 1 }

-- k blocks that are paid were given
abbrev pub published : ℕ → Balance → Balance
published k a = record a { paid = 0; given = a.given + k }

abbrev pub refused : Balance → Balance
refused a = record a { paid = 0 }

-- What was given and what is paid is covered by the units of the cycle and the price of one object,
-- and no more than that price is paid.
pub record IsSound (rate object : ℕ) (a : Balance) : Type 0 where
  pub covered : rate * a.given + a.paid ≤ a.units + rate * object
  pub within : a.paid ≤ rate * object

-- what counts in cycle c: an account of another cycle has no units and nothing given in it
abbrev pub units_in : ℕ → Balance → ℕ
units_in c a = if a.cycle == c then a.units else 0

abbrev pub given_in : ℕ → Balance → ℕ
given_in c a = if a.cycle == c then a.given else 0
