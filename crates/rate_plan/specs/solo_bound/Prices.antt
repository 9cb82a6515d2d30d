-- How many turns a lone thread has left at most, before its command has its entry.
use Rattle.std.specs.Prelude.{ℕ, zero, suc, ◌+◌, ◌-◌, ◌*◌, Bool, true, false, if◌then◌else◌}
use Rattle.rate_plan.specs.solo_bound.Moves.{Spot, Over, LeaveDone, Look, Enter, Leave, LeaveNone, CloseLook, Close, Check, SetCursor, Flip, ShadeRoot, PutRoots, Start, Take, Pop, Scan, Shade, Blacken, PutGrey, ReadCursor, Claim, Pass, TakeFree, Free, PutFree, Credit, Count, Reserve, Grab, Collect, PutRest, Write, Publish, Access, Lone, Terms}

-- the bounds: of an allocation of k blocks on n threads, at this rate; of a command that is told to
-- make u units; and of another command, where the largest object has b blocks
abbrev pub allocation_bound : ℕ → ℕ → ℕ → ℕ
allocation_bound n k rate = (rate * k + 1) * (8 * n + 64) + 16 * k + 8 * n + 64

abbrev pub idle_bound : ℕ → ℕ → ℕ
idle_bound n u = (u + 1) * (8 * n + 64)

abbrev pub other_bound : ℕ → ℕ
other_bound b = b + 64

-- what a unit costs with the change of phase before it
abbrev pub unit_cost : ℕ → ℕ → ℕ
unit_cost n w = 2 * n + 2 * w + 14

-- with this price of a unit
module _ (e : Terms) (unit : ℕ) where
  -- the words of so many blocks
  abbrev pub writing : ℕ → ℕ
  writing k = (e.payloads + 3) * k

  -- from the first event inside on, where no unit is owed
  abbrev pub inside_cost : ℕ
  inside_cost = if e.allocates then writing e.blocks + e.blocks + e.threads + 5 else e.most + 1

  -- from the look on, where r units are owed and nothing better is known
  abbrev pub base : ℕ → ℕ
  base r = r * unit + inside_cost + 2

  -- a pass to the end, with the changes of phase before its unit: in this phase, where it will find
  -- something or not
  abbrev pub pass_cost : Bool → Bool → ℕ
  pass_cost false true = e.threads + 2 * e.payloads + 4
  pass_cost false false = 2 * e.threads + 15
  pass_cost true true = 8
  pass_cost true false = 2 * e.threads + 2 * e.payloads + 12

  abbrev pub at_enter : ℕ → Bool → Bool → ℕ
  at_enter zero sweep ready = inside_cost + 1
  at_enter (suc r) sweep ready = base r + pass_cost sweep ready + 1

  abbrev pub at_look : ℕ → Bool → Bool → ℕ
  at_look r sweep ready = at_enter r sweep ready + 1

  -- what comes after the change from this phase to the other
  abbrev pub next_pass : Bool → ℕ
  next_pass false = 10
  next_pass true = e.threads + 2 * e.payloads + 6

  -- with so many events before the change, and r units owed
  abbrev pub changing : Bool → ℕ → ℕ → ℕ
  changing sweep r more = base (r - 1) + next_pass sweep + more

  abbrev pub left_at : Spot → ℕ → Bool → Bool → ℕ
  left_at Over r sweep ready = 0
  left_at LeaveDone r sweep ready = 1
  left_at Look r sweep ready = at_look r sweep ready
  left_at Enter r sweep ready = at_enter r sweep ready
  left_at Leave r sweep ready = base r + 1
  left_at LeaveNone r sweep ready = changing sweep r (e.threads + 5)
  left_at CloseLook r sweep ready = changing sweep r (e.threads + 4)
  left_at Close r sweep ready = changing sweep r (e.threads + 3)
  left_at (Check u) r sweep ready = changing false r (e.threads - u + 2)
  left_at SetCursor r sweep ready = changing false r 2
  left_at Flip r sweep ready = changing false r 1
  left_at (ShadeRoot u) r sweep ready = changing true r (e.threads - u + 2)
  left_at PutRoots r sweep ready = changing true r 2
  left_at Start r sweep ready = changing true r 1
  left_at (Take u) r sweep ready =
      base (r - 1) + (e.threads - u) + (if ready then 2 * e.payloads + 4 else e.threads + 15)
  left_at Pop r sweep ready = base (r - 1) + 2 * e.payloads + 4
  left_at (Scan j) r sweep ready = base (r - 1) + 2 * (e.payloads - j) + 3
  left_at (Shade j) r sweep ready = base (r - 1) + 2 * (e.payloads - j) + 2
  left_at Blacken r sweep ready = base (r - 1) + 3
  left_at PutGrey r sweep ready = base r + 2
  left_at ReadCursor r sweep ready =
      base (r - 1) + (if ready then 8 else 2 * e.threads + 2 * e.payloads + 12)
  left_at (Claim q) r sweep ready = base (r - q) + 2 * q + 5
  left_at (Pass q freed) r sweep ready = base (r - q) + 2 * q + (if freed then 3 else 4)
  left_at (TakeFree q) r sweep ready = base (r - q) + 2 * q + 3
  left_at (Free q) r sweep ready = base (r - q) + 2 * q + 2
  left_at PutFree r sweep ready = base r + 3
  left_at Credit r sweep ready = base r + 2
  left_at Count r sweep ready = writing e.blocks + e.blocks + e.threads + 5
  left_at Reserve r sweep ready = writing e.blocks + e.blocks + e.threads + 4
  left_at (Grab u h) r sweep ready = writing e.blocks + (e.blocks - h) + (e.threads - u) + 3
  left_at (Collect u h) r sweep ready =
      writing e.blocks + (e.blocks - h) + (e.threads - (u + 1)) + 3
  left_at PutRest r sweep ready = writing e.blocks + 3
  left_at (Write o j) r sweep ready = writing o + (e.payloads + 3 - j) + 2
  left_at Publish r sweep ready = 2
  left_at (Access j) r sweep ready = j + 1

  abbrev pub left : Lone → ℕ
  left s = left_at s.spot s.owed s.sweep s.ready
