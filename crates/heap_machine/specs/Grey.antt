-- The grey blocks. Each is in exactly one place: in the chain of one grey list word, in the
-- chain of the private list of one thread, or as the block that one thread scans. All these chains
-- end, have no block twice, and hold grey blocks alone.
use Rattle.std.specs.Prelude.{ℕ, ◌+◌, ◌≡◌, ◌<◌, Bool, true, false, List, [], ◌∷◌, Option, Some, None}
use Rattle.block_store.specs.Colours.{is_grey}
use Rattle.block_store.specs.Heaps.{Heap}
use Rattle.block_store.specs.Phases.{bit}
use Rattle.block_store.specs.Places.{Place, GreyList, ColourOf}
use Rattle.heap_machine.specs.Chains.{Chain}
use Rattle.block_store.specs.Counts.{times, total}

-- what a thread holds of the grey blocks: the first block of its private list, or 0; the block
-- that it scans; and whether its own list is known to be empty: it was taken in this pass, or
-- nothing was grey, and no list was put there since
pub record GreyInHand : Type 0 where
  pub list : ℕ
  pub scan : Option ℕ
  pub emptied : Bool

-- it holds nothing
abbrev pub no_grey : GreyInHand
no_grey = record { list = 0; scan = None; emptied = false }

-- xs are the block under scan, where there is one, and the chain of the private list
abbrev pub Stands : (ℕ → ℕ) → Option ℕ → ℕ → List ℕ → Type 0
Stands c None list xs = Chain c list xs
Stands c (Some x) list [] = ⊥
Stands c (Some x) list (y ∷ ys) = (x ≡ y) × Chain c list ys

-- over the first block of each of n grey lists, the colour words, and what each of n threads holds.
-- Where a thread knows its own list to be empty, it is: so what it puts there loses nothing
pub record GreyOf (n : ℕ) (heads colour : ℕ → ℕ) (hs : ℕ → GreyInHand) : Type 0 where
  pub lists : ℕ → List ℕ
  pub private_lists : ℕ → List ℕ
  pub list_chain : (t : ℕ) → t < n → Chain colour (heads t) (lists t)
  pub private_chain : (t : ℕ) → t < n → Stands colour (hs t).scan (hs t).list (private_lists t)
  pub once : (x : ℕ) → total n (λ t. times x (lists t)) + total n (λ t. times x (private_lists t))
      ≡ bit (is_grey (colour x))
  pub emptied : (t : ℕ) → t < n → (hs t).emptied ≡ true → heads t ≡ 0

-- of a heap
abbrev pub GreyKept : ℕ → Heap → (ℕ → GreyInHand) → Type 0
GreyKept n h hs = GreyOf n (λ t. h (GreyList t)) (λ x. h (ColourOf x)) hs

-- the places whose words the rule speaks of
abbrev pub is_of_grey : Place → Bool
is_of_grey (GreyList t) = true
is_of_grey (ColourOf x) = true
is_of_grey _ = false
