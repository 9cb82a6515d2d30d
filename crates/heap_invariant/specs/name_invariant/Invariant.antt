-- What every event keeps.
use Rattle.std.specs.Prelude.{ℕ, ◌<◌, ◌≤◌, ◌≡◌, ◌≢◌, ◌⊎◌, true, false, IfSome, List, [], ◌∷◌, ◌++◌}
use Rattle.block_store.specs.declared.Config.{Config}
use Rattle.block_store.specs.declared.Name.{Name}
use Rattle.block_store.specs.declared.TheConstants.{REGISTERS}
use Rattle.block_store.specs.declared.Width.{Width}
use Rattle.block_store.specs.Colours.{is_free}
use Rattle.never_heap.specs.declared.Entry.{Entry}
use Rattle.never_heap.specs.Graphs.{Graph, has_name, next_name, register_of}
use Rattle.never_heap.specs.Histories.{HistoryItem, Did, Legal, part, replay, starts_in}
use Rattle.never_heap.specs.Cycles.{graph_at}
use Rattle.never_heap.specs.Reach.{reachable}
use Rattle.heap_invariant.specs.graph_relation.Events.{Follows, pending_registers, register_word_in}
use Rattle.heap_invariant.specs.graph_relation.GraphOfWords.{IsValueOf, heads}
use Rattle.heap_invariant.specs.graph_relation.Words.{BlockWords, value_word}
use Rattle.heap_invariant.specs.name_invariant.Building.{IsBuild, IsBuilt}
use Rattle.heap_invariant.specs.name_invariant.Colouring.{IsDark, IsColoured, IsRegisterBlock, Belongs, MarkColours, SweepColours}
use Rattle.heap_invariant.specs.name_invariant.States.{KeptState, sizes, Known, Kept, IsKnownBlock}

-- The graph is the replay of the order, in the cycle that it started last. A known name was
-- reachable at that start, or was no name yet.
pub record IsOrdered (c : Config) (g : Graph) (order : List HistoryItem) (cycle : ℕ)
    (Known : Name → Type 0) : Type 0 where
  pub legal : Legal c order
  pub replayed : g ≡ replay c order
  pub started : starts_in order ≡ cycle
  pub some : 1 ≤ cycle
  pub since : (a : Name) → Known a
      → (reachable (graph_at c order cycle) a ≡ true)
      ⊎ (has_name (graph_at c order cycle) a ≡ false)

-- The colours of blocks, whatever the phase is: each is of this cycle, and no block of a register
-- array or of a kept object is Free. What is grey or black is of a register array, of a known name,
-- or coloured by a builder.
pub record IsPainted (W : Width) (n cycle : ℕ) (Known Kept : Name → Type 0) (blocks : Name → ℕ)
    (at : Name → ℕ → ℕ) (colour : ℕ → ℕ) (Built : ℕ → Type 0) : Type 0 where
  pub fits : (x : ℕ) → IsColoured cycle (colour x)
  pub arrays : (x : ℕ) → IsRegisterBlock W n x → is_free (colour x) ≡ false
  pub solid : (a : Name) (o : ℕ) → Kept a → o < blocks a → is_free (colour (at a o)) ≡ false
  pub marked : (x : ℕ) → IsDark cycle (colour x) → Belongs W n Known blocks at x ⊎ Built x

-- Register r of thread t has the word that it had before the last command of the thread was
-- decided: the order is what was before that command, its entry, and entries of other threads.
pub record IsOlder (c : Config) (order : List HistoryItem) (w : BlockWords) (Kept : Name → Type 0)
    (at : Name → ℕ → ℕ) (t r : ℕ) : Type 0 where
  pub before : List HistoryItem
  pub entry : Entry
  pub behind : List HistoryItem
  pub split : order ≡ before ++ Did entry ∷ behind
  pub own : entry.thread ≡ t
  pub others : part t behind ≡ []
  pub kept : IsValueOf Kept (register_of (replay c before) t r)
  pub word : register_word_in c.width w t r
      ≡ value_word (heads at) (register_of (replay c before) t r)

pub record Invariant (c : Config) (s : KeptState) : Type 0 where
  pub ordered : IsOrdered c s.seen.graph s.order s.cycle (Known s)
  -- the words show the kept names, and what is loaded is of them
  pub follows : Follows c.width c.threads c.blocks (Kept s) s.at s.seen
  -- a pending register has its older value
  pub older : (t r : ℕ) → t < c.threads → r < REGISTERS → pending_registers s.seen.loads t r ≡ true
      → IsOlder c s.order s.seen.words (Kept s) s.at t r
  pub known : (a : Name) → Kept s a → Known s a
  pub named : (a : Name) → Known s a → has_name s.seen.graph a ≡ true
  pub painted : IsPainted c.width c.threads s.cycle (Known s) (Kept s) (sizes c s) s.at s.colour
      (IsBuilt c.width c.threads s.builds)
  pub builds : (t : ℕ) → t < c.threads → IfSome (s.builds t)
      (λ b. IsBuild c.width c.threads c.blocks s.cycle s.colour s.seen.words b)
  -- what is being built gets the next name
  pub titles : (t : ℕ) → t < c.threads → IfSome (s.builds t)
      (λ b. b.name ≡ next_name s.seen.graph t)
  -- what a scan has read is of a known name
  pub scans : (t : ℕ) → t < c.threads → s.scans t ≢ 0 → IsKnownBlock c s (s.scans t)
  pub marking : s.sweep ≡ false
      → MarkColours c.width c.threads s.cycle (Known s) (Kept s) s.colour
  pub sweeping : s.sweep ≡ true
      → SweepColours c.width c.threads s.cycle (Kept s) (sizes c s) s.at s.colour
      s.seen.words.payload s.shaded
