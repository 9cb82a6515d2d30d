-- What an event makes of a tally, and when it may come.
use Rattle.std.specs.Prelude.{ℕ, ◌+◌, ◌-◌, ◌*◌, ◌<◌, ◌≤◌, ◌≡◌, ◌≢◌, ◌⊎◌, max, true, false, List, [], ◌∷◌, ◌++◌}
use Rattle.block_store.specs.declared.Config.{Config}
use Rattle.never_heap.specs.declared.Entry.{Entry}
use Rattle.never_heap.specs.declared.Reply.TheVariants.{Full}
use Rattle.never_heap.specs.declared.TheConstants.{MOST_UNITS}
use Rattle.never_heap.specs.Histories.{HistoryItem, Started, Did, is_full}
use Rattle.never_heap.specs.Cycles.{graph_at}
use Rattle.never_heap.specs.GivenBlocks.{given}
use Rattle.never_heap.specs.LiveBlocks.{live_blocks}
use Rattle.never_heap.specs.Taken.{taken_by}
use Rattle.never_heap.specs.RightWork.{requested_units}
use Rattle.never_heap.specs.Steps.{blocks_of}
use Rattle.work_account.specs.Accounts.{Balance, entered, published, refused}
use Rattle.heap_invariant.specs.cycle_tally.Tallies.{Spending, Tally, units_now, made_of, due_of, with_made}
use Rattle.block_store.specs.Counts.{changed}

pub data Event : Type 0 where
  Enter : (t : ℕ) → Event  -- thread t goes in at the gate
  Leave : (t : ℕ) → Event  -- and out
  SetCursor : Event  -- the sweep cursor is set to block 1
  Flip : Event  -- the phase turns from Mark to Sweep
  Start : Event  -- the next cycle starts
  Paint : (x w : ℕ) → Event  -- the colour word of block x is written, and that is no unit
  Scan : (t x : ℕ) → Event  -- block x was scanned, and becomes black: a unit
  Claim : (t r : ℕ) → Event  -- a sweep claims r blocks from the cursor on
  Pass : (t : ℕ) → Event  -- it passes the first block of its claim: a unit
  Clear : (t : ℕ) → Event  -- the claim is passed whole
  Credit : (k : ℕ) → Event  -- the free count rises by freed blocks
  Reserve : (t : ℕ) → Event  -- a build reserves the blocks that it asks for
  Publish : (t : ℕ) (e : Entry) → Event  -- the object is published
  Refuse : (t : ℕ) (e : Entry) → Event  -- the free count was too small for it
  Answer : (t : ℕ) (e : Entry) → Event  -- a command that allocates nothing is decided
  Next : (t k u : ℕ) → Event  -- the next command asks for k blocks, and is told to make u units

-- thread t is at this
abbrev pub with_thread : Tally → ℕ → Spending → Tally
with_thread s t w = record s { threads = changed s.threads t w }

-- thread t has this account
abbrev pub with_balance : Tally → ℕ → Balance → Tally
with_balance s t b = with_thread s t (record (s.threads t) { balance = b })

-- the item comes to the order
abbrev pub ordered : Tally → HistoryItem → Tally
ordered s i = record s { order = s.order ++ i ∷ [] }

-- the entry is of the command that thread t has in hand, and its work is what was made for it
pub record Decides (c : Config) (t : ℕ) (w : Spending) (e : Entry) : Type 0 where
  pub thread : e.thread ≡ t
  pub blocks : blocks_of c.width e.command ≡ w.asked
  pub requested : requested_units e.command ≡ w.requested
  pub work : e.work ≡ made_of w

-- all that an allocation owes is paid
pub record IsAllPaid (rate : ℕ) (w : Spending) : Type 0 where
  pub paid : w.balance.paid ≡ rate * w.asked
  pub untold : w.requested ≡ 0

-- the blocks in use at a start are at most those that were live at the last one and those given
-- since
abbrev pub FewInUse : Config → Tally → Type 0
FewInUse c s =
    c.blocks ≤ s.free + live_blocks c.width (graph_at c s.order s.cycle)
    + given c.width s.order s.cycle

-- nobody is inside
abbrev pub IsEmpty : Config → Tally → Type 0
IsEmpty c s = (t : ℕ) → t < c.threads → (s.threads t).inside ≡ false

-- nothing is claimed that is not passed
abbrev pub NoClaim : Spending → Type 0
NoClaim w = w.high ≤ w.low

-- c is the configuration, and `black` tells the colour word of a black block in each cycle; which
-- word that is does not matter.
module _ (c : Config) (rate : ℕ) (black : ℕ → ℕ) where
  abbrev pub apply : Tally → Event → Tally
  apply s (Enter t) =
      let w = s.threads t in
      with_thread s t (record w { inside = true; balance = entered s.cycle w.balance })
  apply s (Leave t) = with_thread s t (record (s.threads t) { inside = false })
  apply s SetCursor = record s { cursor = 1 }
  apply s Flip = record s { sweep = true }
  apply s Start = record s {
    cycle = s.cycle + 1;
    sweep = false;
    order = s.order ++ Started ∷ [];
    scanned = λ x. 0;
    passed = λ x. 0;
    past = s.past + units_now c.blocks s;
  }
  apply s (Paint x w) = record s { colour = changed s.colour x w }
  apply s (Scan t x) = record (with_thread s t (with_made (s.threads t))) {
    colour = changed s.colour x (black s.cycle);
    scanned = changed s.scanned x (s.scanned x + 1);
  }
  apply s (Claim t r) =
      let w = s.threads t in
      record (with_thread s t (record w { low = s.cursor; high = s.cursor + r })) {
        cursor = s.cursor + r;
      }
  apply s (Pass t) =
      let w = s.threads t in
      record (with_thread s t (record (with_made w) { low = w.low + 1 })) {
        passed = changed s.passed w.low (s.passed w.low + 1);
      }
  apply s (Clear t) = with_thread s t (record (s.threads t) { low = 0; high = 0 })
  apply s (Credit k) = record s { free = s.free + k }
  apply s (Reserve t) =
      let w = s.threads t in
      record (with_thread s t (record w { reserved = w.asked })) { free = s.free - w.asked }
  apply s (Publish t e) =
      let w = s.threads t in
      ordered (with_thread s t (record w { reserved = 0; balance = published w.asked w.balance }))
      (Did e)
  apply s (Refuse t e) = ordered (with_balance s t (refused (s.threads t).balance)) (Did e)
  apply s (Answer t e) = ordered (with_thread s t (record (s.threads t) { idled = 0 })) (Did e)
  apply s (Next t k u) = with_thread s t (record (s.threads t) { asked = k; requested = u })

  abbrev pub Guard : Tally → Event → Type 0
  Guard s (Enter t) = t < c.threads
  Guard s (Leave t) = (t < c.threads) × NoClaim (s.threads t) × ((s.threads t).reserved ≡ 0)
  Guard s SetCursor = s.sweep ≡ false
  Guard s Flip = (s.sweep ≡ false) × (s.cursor ≡ 1)
  Guard s Start = (s.sweep ≡ true) × (c.blocks < s.cursor) × IsEmpty c s × FewInUse c s
  Guard s (Paint x w) = s.sweep ≡ false → s.colour x ≡ black s.cycle → w ≡ black s.cycle
  Guard s (Scan t x) =
      let w = s.threads t in
      (t < c.threads) × (w.inside ≡ true) × (s.sweep ≡ false) × (0 < x) × (x ≤ c.blocks)
      × (s.colour x ≢ black s.cycle) × (made_of w < due_of rate w) × NoClaim w
  Guard s (Claim t r) =
      let w = s.threads t in
      (t < c.threads) × (w.inside ≡ true) × (s.sweep ≡ true) × (s.cursor + r ≤ c.blocks + 1)
      × (made_of w + r ≤ due_of rate w) × NoClaim w
  Guard s (Pass t) = (t < c.threads) × ((s.threads t).low < (s.threads t).high)
  Guard s (Clear t) = (t < c.threads) × NoClaim (s.threads t)
  Guard s (Credit k) = Unit {0}
  Guard s (Reserve t) =
      let w = s.threads t in
      (t < c.threads) × (w.inside ≡ true) × (w.reserved ≡ 0) × IsAllPaid rate w
      × (w.asked ≤ s.free)
  Guard s (Publish t e) =
      let w = s.threads t in
      (t < c.threads) × (w.inside ≡ true) × NoClaim w × Decides c t w e × (w.reserved ≡ w.asked)
      × IsAllPaid rate w × (taken_by c.width e ≡ w.asked)
      × (is_full e.reply ≡ false)
  Guard s (Refuse t e) =
      let w = s.threads t in
      (t < c.threads) × (w.inside ≡ true) × NoClaim w × Decides c t w e × (w.reserved ≡ 0)
      × IsAllPaid rate w × (s.free < w.asked)
      × (e.reply ≡ Full (max 1 (s.cycle - 1)))
  Guard s (Answer t e) =
      let w = s.threads t in
      (t < c.threads) × Decides c t w e × (w.asked ≡ 0) × (is_full e.reply ≡ false)
      × (made_of w ≡ w.requested)
  Guard s (Next t k u) =
      let w = s.threads t in
      (t < c.threads) × NoClaim w × (w.reserved ≡ 0) × (made_of w ≡ 0) × (k ≤ c.object)
      × ((u ≡ 0) ⊎ (k ≡ 0)) × (u ≤ MOST_UNITS)

  abbrev pub run : Tally → List Event → Tally
  run s [] = s
  run s (e ∷ es) = run (apply s e) es

  -- each event may come where it does
  abbrev pub Guarded : Tally → List Event → Type 0
  Guarded s [] = Unit {0}
  Guarded s (e ∷ es) = Guard s e × Guarded (apply s e) es
