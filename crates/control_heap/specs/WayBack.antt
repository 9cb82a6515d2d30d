-- How a heap that was full recovers: what holds once few blocks are live.
use Rattle.std.specs.Prelude.{ℕ, ◌+◌, ◌*◌, ◌<◌, ◌≤◌, ◌≡◌, ◌++◌, false, List, [], ◌∷◌, map}
use Rattle.block_store.specs.declared.Config.{Config}
use Rattle.never_heap.specs.declared.Command.{Command}
use Rattle.never_heap.specs.declared.Entry.{Entry}
use Rattle.never_heap.specs.declared.Reply.{Reply}
use Rattle.never_heap.specs.Bounds.{IsCommandInBounds}
use Rattle.never_heap.specs.Cycles.{graph_at}
use Rattle.never_heap.specs.Histories.{HistoryItem, is_full, starts_in}
use Rattle.never_heap.specs.LiveBlocks.{live_blocks}
use Rattle.heap_system.specs.Machines.{Run}
use Rattle.control_heap.specs.Controls.{ControlOf, Stands, HasAnswered, HasLeft, entries_in, units}

-- each cycle of a history from the n-th on began with at most L live blocks
abbrev pub StartsSmallFrom : Config → ℕ → List HistoryItem → Type 0
StartsSmallFrom c n h =
    (z : ℕ) → n ≤ z → z ≤ starts_in h → live_blocks c.width (graph_at c h z) ≤ c.live

-- none of these replies is full
abbrev pub NoneFull : List Reply → Type 0
NoneFull [] = Unit {0}
NoneFull (a ∷ ys) = (is_full a ≡ false) × NoneFull ys

-- a heap did these commands one after the other, with these replies, and is then z; each was in
-- bounds, and the life had room for it
abbrev pub AllDone : {M : Type 0} → ControlOf M → List Command → List Reply → ControlOf M → Type 0
AllDone h [] [] z = h ≡ z
AllDone {M} h (k ∷ ks) (a ∷ ys) z =
    (n : ControlOf M) × (n.config ≡ h.config) × IsCommandInBounds h.config k × HasLeft h k
    × HasAnswered h k a n × AllDone n ks ys z
AllDone h _ _ z = ⊥

-- the entries among these items have these commands and replies
pub record AreOf (ks : List Command) (ys : List Reply) (items : List HistoryItem) : Type 0 where
  pub commands : map (λ (e : Entry). e.command) (entries_in items) ≡ ks
  pub replies : map (λ (e : Entry). e.reply) (entries_in items) ≡ ys

-- A heap h that represented run r did the commands `ks` and was then y, and did the commands
-- `others` and is then z: one history, which begins with that of r. Heap y represents a run of
-- order `r.order ++ items` (`middle`), so each cycle start among `items` comes before the others.
-- The first commands made at most 2m units for each start among `items`, and 2m more, m being the
-- blocks of the heap (`pace`). Where two cycles began there (`two_cycles`), or the first commands
-- made more than 4m units (`back`), and each cycle that began after r began with at most L live
-- blocks, none of the others was answered full.
pub record HasWayBack {M : Type 0} (h y z : ControlOf M) (ks : List Command) (ys : List Reply)
    (others : List Command) (told : List Reply) (r : Run) : Type 0 where
  pub run : Run
  pub stands : Stands z run
  pub items : List HistoryItem
  pub later : List HistoryItem
  pub order : run.order ≡ (r.order ++ items) ++ later
  pub middle : Run
  pub middle_stands : Stands y middle
  pub middle_order : middle.order ≡ r.order ++ items
  pub first : AreOf ks ys items
  pub second : AreOf others told later
  pub pace : units y ≤ units h + 2 * h.config.blocks * (starts_in items + 1)
  pub two_cycles : 2 ≤ starts_in items
      → StartsSmallFrom h.config (starts_in r.order + 1) run.order → NoneFull told
  pub back : units h + 4 * h.config.blocks < units y
      → StartsSmallFrom h.config (starts_in r.order + 1) run.order → NoneFull told
