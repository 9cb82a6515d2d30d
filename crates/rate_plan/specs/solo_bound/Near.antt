-- A bound that is near the most turns that a lone thread's command can take: what a unit costs and
-- what a change of phase costs are counted apart.
use Rattle.std.specs.Prelude.{ℕ, zero, suc, ◌+◌, ◌-◌, ◌*◌, ◌/◌, ◌<◌, ◌≤◌, ◌≡◌, max, Bool, true, false}
use Rattle.rate_plan.specs.solo_bound.Moves.{Spot, Over, LeaveDone, Look, Enter, Leave, LeaveNone, CloseLook, Close, Check, SetCursor, Flip, ShadeRoot, PutRoots, Start, Take, Pop, Scan, Shade, Blacken, PutGrey, ReadCursor, Claim, Pass, TakeFree, Free, PutFree, Credit, Count, Reserve, Grab, Collect, PutRest, Write, Publish, Access, Lone, Terms, Moves}
use Rattle.rate_plan.specs.solo_bound.Prices.{inside_cost}

-- the turns of a unit on blocks of w payload words, with no change of phase
abbrev pub near_unit : ℕ → ℕ
near_unit w = 2 * w + 7

-- of a pass that finds no grey block, and changes the phase; and of both changes of a cycle
abbrev pub flip_cost : ℕ → ℕ
flip_cost n = 2 * n + 7

abbrev pub cycle_cost : ℕ → ℕ
cycle_cost n = 3 * n + 15

-- the most turns of so many passes to the grey lists of others, on n threads: to the farthest, and
-- then to the next before it
abbrev pub farthest : ℕ → ℕ → ℕ
farthest zero passes = 0
farthest (suc n) zero = 0
farthest (suc n) (suc passes) = n + farthest n passes

-- of the changes of phase among r units, in a heap of m blocks: a Mark that ends after passes to
-- others' lists, or both changes of a cycle; and one cycle more for each m units
abbrev pub changes_cost : ℕ → ℕ → ℕ → ℕ
changes_cost n m zero = 0
changes_cost n m (suc r) =
    max (flip_cost n + farthest n r) (cycle_cost n) + cycle_cost n * (r / m)

-- The near bound of an allocation of k blocks, of w payload words each, that owes r units.
abbrev pub near_bound : ℕ → ℕ → ℕ → ℕ → ℕ → ℕ
near_bound n w m r k = r * near_unit w + changes_cost n m r + ((w + 4) * k + n + 7)

-- And of another command, which owes r units and has so many events inside: beside them it looks at
-- the gate, goes in, and goes out.
abbrev pub near_other_bound : ℕ → ℕ → ℕ → ℕ → ℕ → ℕ
near_other_bound n w m r events = r * near_unit w + changes_cost n m r + (events + 3)

-- The thread, the blocks that the sweep has not passed, and the most turns of so many passes to
-- grey lists of others.
pub record Scene : Type 0 where
  pub lone : Lone
  pub room : ℕ
  pub far : ℕ → ℕ

-- the blocks that were passed are the units that were paid, and the phase is as it was
abbrev pub Sweeps : Scene → Scene → Type 0
Sweeps s z = (0 < s.lone.owed) × (z.room + s.lone.owed ≡ s.room + z.lone.owed)
    × (z.lone.sweep ≡ true)

-- no grey list of another is new
abbrev pub NoFarther : Scene → Scene → Type 0
NoFarther s z = (passes : ℕ) → z.far passes ≤ s.far passes

-- What a turn leads to besides, in a heap of m blocks.
abbrev pub Keeps : ℕ → Spot → Scene → Scene → Type 0
Keeps m Look s z = (z.room ≡ s.room) × NoFarther s z
Keeps m Enter s z = (z.room ≡ s.room) × NoFarther s z
Keeps m Leave s z = (z.room ≡ s.room) × NoFarther s z × (z.lone.sweep ≡ s.lone.sweep)
Keeps m Flip s z = z.room ≡ m
Keeps m Start s z = (passes : ℕ) → z.far passes ≡ 0
Keeps m (Take u) s z =
    NoFarther s z × (z.lone.spot ≡ Pop → (passes : ℕ) → z.far passes + u ≤ s.far (suc passes))
Keeps m Pop s z = NoFarther s z
Keeps m (Scan j) s z = NoFarther s z
Keeps m (Shade j) s z = NoFarther s z
Keeps m Blacken s z = NoFarther s z × (z.lone.sweep ≡ false)
Keeps m PutGrey s z = NoFarther s z × (z.lone.sweep ≡ false)
Keeps m ReadCursor s z =
    (z.room ≡ s.room) × (0 < s.lone.owed) × (s.lone.ready ≡ false → s.room ≡ 0)
Keeps m (Claim q) s z = Sweeps s z
Keeps m (Pass q freed) s z = Sweeps s z
Keeps m (TakeFree q) s z = Sweeps s z
Keeps m (Free q) s z = Sweeps s z
Keeps m PutFree s z = (z.room ≡ s.room) × (z.lone.sweep ≡ true)
Keeps m Credit s z = (z.room ≡ s.room) × (z.lone.sweep ≡ true)
Keeps m x s z = Unit {0}

pub record NearMoves (e : Terms) (m : ℕ) (s z : Scene) : Type 0 where
  pub moves : Moves e s.lone.spot s.lone z.lone
  pub keeps : Keeps m s.lone.spot s z

module _ (e : Terms) (m : ℕ) where
  -- the units, and what comes after them
  abbrev pub paid : ℕ → ℕ
  paid r = r * near_unit e.payloads + inside_cost e 0

  -- of the cycles that r units can still go through from the start of a sweep on
  abbrev pub cycles : ℕ → ℕ
  cycles r = cycle_cost e.threads * ((r - 1) / m)

  -- what is left of changes of phase, and of passes to others' lists, where r units are owed
  abbrev pub mark_debt : ℕ → (ℕ → ℕ) → ℕ
  mark_debt zero far = 0
  mark_debt (suc r) far = flip_cost e.threads + far r + cycles (suc r)

  abbrev pub sweep_debt : ℕ → ℕ → ℕ
  sweep_debt r room = cycle_cost e.threads * ((r - room + (m - 1)) / m)

  abbrev pub debt : Bool → ℕ → ℕ → (ℕ → ℕ) → ℕ
  debt false r room far = mark_debt r far
  debt true r room far = sweep_debt r room

  abbrev pub closing : Bool → ℕ
  closing false = e.threads + 5
  closing true = 3 * e.threads + 12

  -- before the block that is scanned is a unit
  abbrev pub marking : ℕ → (ℕ → ℕ) → ℕ
  marking r far = paid (r - 1) + mark_debt (r - 1) far

  abbrev pub near_at : Spot → ℕ → Bool → ℕ → (ℕ → ℕ) → ℕ
  near_at Over r sweep room far = 0
  near_at LeaveDone r sweep room far = 1
  near_at Look r sweep room far = paid r + 2 + debt sweep r room far
  near_at Enter r sweep room far = paid r + 1 + debt sweep r room far
  near_at Leave r sweep room far = paid r + 3 + debt sweep r room far
  near_at LeaveNone r sweep room far = paid r + cycles r + closing sweep + 2
  near_at CloseLook r sweep room far = paid r + cycles r + closing sweep + 1
  near_at Close r sweep room far = paid r + cycles r + closing sweep
  near_at (Check u) r sweep room far = paid r + cycles r + (e.threads - u) + 4
  near_at SetCursor r sweep room far = paid r + cycles r + 4
  near_at Flip r sweep room far = paid r + cycles r + 3
  near_at (ShadeRoot u) r sweep room far =
      paid r + cycles r + (e.threads - u) + 2 * e.threads + 11
  near_at PutRoots r sweep room far = paid r + cycles r + 2 * e.threads + 11
  near_at Start r sweep room far = paid r + cycles r + 2 * e.threads + 10
  near_at (Take u) r sweep room far =
      paid (r - 1) + near_unit e.payloads + (e.threads - u) + e.threads + 7 + far (r - 1)
      + cycles r
  near_at Pop r sweep room far = marking r far + 2 * e.payloads + 6
  near_at (Scan j) r sweep room far = marking r far + 2 * (e.payloads - j) + 5
  near_at (Shade j) r sweep room far = marking r far + 2 * (e.payloads - j) + 4
  near_at Blacken r sweep room far = marking r far + 5
  near_at PutGrey r sweep room far = paid r + mark_debt r far + 4
  near_at ReadCursor r sweep room far = paid r + sweep_debt r room
  near_at (Claim q) r sweep room far = paid r + sweep_debt r room - 1
  near_at (Pass q false) r sweep room far = paid r + sweep_debt r room - 2
  near_at (Pass q true) r sweep room far = paid r + sweep_debt r room - 3
  near_at (TakeFree q) r sweep room far = paid r + sweep_debt r room - 3
  near_at (Free q) r sweep room far = paid r + sweep_debt r room - 4
  near_at PutFree r sweep room far = paid r + sweep_debt r room + 5
  near_at Credit r sweep room far = paid r + sweep_debt r room + 4
  near_at Count r sweep room far = (e.payloads + 3) * e.blocks + e.blocks + e.threads + 5
  near_at Reserve r sweep room far = (e.payloads + 3) * e.blocks + e.blocks + e.threads + 4
  near_at (Grab u h) r sweep room far =
      (e.payloads + 3) * e.blocks + (e.blocks - h) + (e.threads - u) + 3
  near_at (Collect u h) r sweep room far =
      (e.payloads + 3) * e.blocks + (e.blocks - h) + (e.threads - (u + 1)) + 3
  near_at PutRest r sweep room far = (e.payloads + 3) * e.blocks + 3
  near_at (Write o j) r sweep room far =
      (e.payloads + 3) * o + (e.payloads + 3 - j) + 2
  near_at Publish r sweep room far = 2
  near_at (Access j) r sweep room far = j + 1

  abbrev pub near_left : Scene → ℕ
  near_left s = near_at s.lone.spot s.lone.owed s.lone.sweep s.room s.far
