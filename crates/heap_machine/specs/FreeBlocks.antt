-- The Free blocks. Each is in exactly one place: in the chain of one free list word, in the
-- chain of the private free list of one thread, or among the blocks that one thread has collected
-- to build with and not yet coloured. All these chains end, have no block twice, and hold Free
-- blocks alone.
use Rattle.std.specs.Prelude.{ℕ, suc, ◌+◌, ◌≡◌, ◌<◌, ◌≤◌, ◌&&◌, Bool, true, false, List, [], length, nat_lt, if◌then◌else◌}
use Rattle.block_store.specs.Colours.{is_free, free_word}
use Rattle.block_store.specs.Heaps.{Heap}
use Rattle.block_store.specs.Phases.{bit}
use Rattle.block_store.specs.Places.{Extent, Place, FreeCount, FreeList, ColourOf, is_block}
use Rattle.heap_machine.specs.Chains.{Chain}
use Rattle.block_store.specs.Counts.{times, total}

-- what a thread holds of the Free blocks: the first block of its private list, or 0; whether
-- its own list is known to be empty, since it was taken in this pass and none was put there since;
-- the blocks that it has collected and not yet coloured; how many it has reserved and not yet
-- coloured; and how many it has freed and not yet credited
pub record FreeInHand : Type 0 where
  pub list : ℕ
  pub emptied : Bool
  pub held : List ℕ
  pub reserved : ℕ
  pub freed : ℕ

-- it holds nothing
abbrev pub no_free : FreeInHand
no_free = record { list = 0; emptied = false; held = []; reserved = 0; freed = 0 }

-- how many blocks are Free
abbrev pub count_free : Extent → (ℕ → ℕ) → ℕ
count_free e colour = total e.blocks (λ x. bit (is_free (colour (suc x))))

-- over the first block of each free list, the colour words, the free count, and what each thread
-- holds. The free count, the reserved blocks and the freed ones make up the Free blocks. Where a
-- thread knows its own list to be empty, it is: so what it puts there loses nothing. A word out of
-- range reads 0, which is a Free colour, so only blocks of the heap count
pub record FreeOf (e : Extent) (heads colour : ℕ → ℕ) (count : ℕ) (fs : ℕ → FreeInHand)
    : Type 0 where
  pub lists : ℕ → List ℕ
  pub private_lists : ℕ → List ℕ
  pub list_chain : (t : ℕ) → t < e.threads → Chain colour (heads t) (lists t)
  pub private_chain : (t : ℕ) → t < e.threads → Chain colour (fs t).list (private_lists t)
  pub once : (x : ℕ) → total e.threads (λ t. times x (lists t)) + total e.threads
      (λ t. times x (private_lists t))
      + total e.threads (λ t. times x (fs t).held) ≡ bit (is_block e x && is_free (colour x))
  pub credit : count + total e.threads (λ t. (fs t).reserved) + total e.threads (λ t. (fs t).freed)
      ≡ count_free e colour
  pub room : (t : ℕ) → t < e.threads → length (fs t).held ≤ (fs t).reserved
  pub emptied : (t : ℕ) → t < e.threads → (fs t).emptied ≡ true → heads t ≡ 0

-- of a heap
abbrev pub FreeKept : Extent → Heap → (ℕ → FreeInHand) → Type 0
FreeKept e h fs = FreeOf e (λ t. h (FreeList t)) (λ x. h (ColourOf x)) (h FreeCount) fs

-- the blocks from a on are Free, in ascending order in the list of the first thread, and counted;
-- the others are not, and the other lists are empty: so is a heap that nobody has used yet
pub record FreeFrom (e : Extent) (h : Heap) (a : ℕ) : Type 0 where
  pub threads : 0 < e.threads
  pub some : 1 ≤ a
  pub last : a ≤ e.blocks
  pub first : h (FreeList 0) ≡ a
  pub others : (t : ℕ) → 0 < t → t < e.threads → h (FreeList t) ≡ 0
  pub free : (x : ℕ) → a ≤ x → x ≤ e.blocks
      → h (ColourOf x) ≡ free_word (if nat_lt x e.blocks then x + 1 else 0)
  pub live : (x : ℕ) → 1 ≤ x → x < a → is_free (h (ColourOf x)) ≡ false
  pub count : h FreeCount + a ≡ e.blocks + 1

-- the places whose words the rule speaks of
abbrev pub is_of_free : Place → Bool
is_of_free FreeCount = true
is_of_free (FreeList t) = true
is_of_free (ColourOf x) = true
is_of_free _ = false
