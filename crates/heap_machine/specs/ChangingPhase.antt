-- The part that closes the gate and changes the phase, or starts the next cycle: its rows, where
-- its thread is, what it holds and knows, and what its events read.
use Rattle.std.specs.Prelude.{ℕ, zero, suc, ◌+◌, ◌-◌, ◌^◌, ◌≡◌, ◌≢◌, ◌<◌, Bool, true, false, List, [], ◌∷◌, Option, Some, None, IfSome}
use Rattle.block_store.specs.Colours.{is_free, is_grey, black_word, white_word}
use Rattle.block_store.specs.Heaps.{Heap}
use Rattle.block_store.specs.Payloads.{target}
use Rattle.block_store.specs.Places.{Extent, Phase, Cursor, GreyList, ColourOf, PayloadOf}
use Rattle.block_store.specs.Registers.{root_block}
use Rattle.block_store.specs.Widths.{payloads}
use Rattle.block_store.specs.declared.Config.{Config}
use Rattle.block_store.specs.declared.Width.{Width}
use Rattle.heap_machine.specs.Gates.{gate_got, is_of_pass, is_empty, GateFits, GateAt}
use Rattle.heap_machine.specs.Gating.{Stand, Outside, Closing, is_closing, Gating, GateOf}
use Rattle.heap_machine.specs.WorkInHand.{WorkInHand, holds_nothing}
use Rattle.heap_machine.specs.Solid.{NotFree}
use Rattle.heap_machine.specs.declared.gate.GateRow.{GateRow}
use Rattle.heap_machine.specs.declared.gate.GateRow.TheVariants.{Look, Enter, Entered, Leave, Left, CloseLook, Close, CheckList, SetCursor, Flip, Reopen, ShadeRoot, PutRoots, Start}
use Rattle.heap_machine.specs.declared.pass.Pass.{Pass}

-- the rows of a part that changes the phase, and not of one that goes in or out
abbrev pub turns_over : GateRow → Bool
turns_over Look = false
turns_over (Enter seen) = false
turns_over (Entered seen) = false
turns_over Leave = false
turns_over Left = false
turns_over _ = true

-- a thread that is there, with the cycle and phase of the pass
abbrev pub in_pass : Pass → Stand → Gating
in_pass p s = record { stand = s; cycle = p.cycle; sweep = p.sweep }

-- where the thread of such a part comes before the event of a row: it has closed the gate until it
-- opens it again
abbrev pub changing_gating : GateRow → Gating
changing_gating (CloseLook p) = in_pass p Outside
changing_gating (Close p seen) = in_pass p Outside
changing_gating (CheckList p u) = in_pass p Closing
changing_gating (SetCursor p) = in_pass p Closing
changing_gating (Flip p) = in_pass p Closing
changing_gating (Reopen p) = in_pass p Closing
changing_gating (ShadeRoot p u list) = in_pass p Closing
changing_gating (PutRoots p list) = in_pass p Closing
changing_gating (Start p) = in_pass p Closing
changing_gating _ = record { stand = Outside; cycle = 0; sweep = false }

-- the rows of a thread outside at the gate, which it looks at, goes in at or closes
abbrev pub stands_outside : GateRow → Bool
stands_outside Look = true
stands_outside (Enter seen) = true
stands_outside (CloseLook p) = true
stands_outside (Close p seen) = true
stands_outside _ = false

-- the pass of a part that turns over, until it is over
abbrev pub changing_pass : GateRow → Option Pass
changing_pass (CloseLook p) = Some p
changing_pass (Close p seen) = Some p
changing_pass (CheckList p u) = Some p
changing_pass (SetCursor p) = Some p
changing_pass (Flip p) = Some p
changing_pass (Reopen p) = Some p
changing_pass (ShadeRoot p u list) = Some p
changing_pass (PutRoots p list) = Some p
changing_pass (Start p) = Some p
changing_pass _ = None

-- the part is one of thread t
abbrev pub IsTurnOf : ℕ → GateRow → Type 0
IsTurnOf t r = IfSome (changing_pass r) (λ p. p.thread ≡ t)

-- how many grey lists, from the first, were read 0 since the gate was closed
abbrev pub lists_read : GateRow → ℕ
lists_read (CheckList p u) = u
lists_read (SetCursor p) = p.threads
lists_read (Flip p) = p.threads
lists_read _ = 0

-- how many root blocks, from the first, were made grey for the next cycle since the gate was closed
abbrev pub roots_shaded : GateRow → ℕ
roots_shaded (ShadeRoot p u list) = u
roots_shaded (PutRoots p list) = p.threads
roots_shaded (Start p) = p.threads
roots_shaded _ = 0

-- the root block of the thread before thread u, or 0: what is in the private list when its root is
-- shaded
abbrev pub root_before : Width → ℕ → ℕ
root_before W zero = 0
root_before W (suc u) = root_block W u

-- the cursor was put on the first block since the gate was closed
abbrev pub cursor_set : GateRow → Bool
cursor_set (Flip p) = true
cursor_set _ = false

-- what the thread holds before the event of a row: the roots that it has shaded are in its private
-- list, to be put in its own list, which is empty
abbrev pub changing_in_hand : GateRow → WorkInHand
changing_in_hand (ShadeRoot p u list) = record holds_nothing { list = list; emptied = true }
changing_in_hand (PutRoots p list) = record holds_nothing { list = list; emptied = true }
changing_in_hand _ = holds_nothing

-- what a thread knows of the heap since it has closed the gate
pub record ChangingPhaseKnows (W : Width) (r : GateRow) (h : Heap) : Type 0 where
  pub lists : (u : ℕ) → u < lists_read r → h (GreyList u) ≡ 0
  pub cursor : cursor_set r ≡ true → h Cursor ≡ 1
  pub roots : (u : ℕ) → u < roots_shaded r → is_grey (h (ColourOf (root_block W u))) ≡ true

-- what the graph has to say where a row's event comes: after a Sweep pass that found nothing no
-- block is grey; a root that is shaded for the next cycle was black; and at the start no block is
-- white, and no block that is not Free refers to a Free one
abbrev pub MayTurn : Extent → GateRow → Heap → Type 0
MayTurn e (Close p seen) h =
    p.sweep ≡ true → h Phase ≡ seen → (x : ℕ) → is_grey (h (ColourOf x)) ≡ false
MayTurn e (ShadeRoot p u list) h = h (ColourOf (root_block e.width u)) ≡ black_word p.cycle
MayTurn e (Start p) h =
    ((x : ℕ) → h (ColourOf x) ≢ white_word p.cycle)
    × ((x j : ℕ) → is_free (h (ColourOf x)) ≡ false → j < payloads e.width
    → NotFree (λ y. h (ColourOf y)) (target (h (PayloadOf x j))))
MayTurn e _ h = Unit {0}

-- thread t comes before the event of row r of such a part: it has closed the gate alone, and no
-- other thread holds anything, from the event that closes it to the one that opens it again
pub record IsChangingPhase (c : Config) (h : Heap) (gs : ℕ → Gating) (hs : ℕ → WorkInHand) (t : ℕ)
    (r : GateRow) : Type 0 where
  pub thread : t < c.threads
  pub turns : turns_over r ≡ true
  pub fits : GateFits r
  pub at : GateAt c r
  pub own : IsTurnOf t r
  pub gate : GateOf c.threads (h Phase) gs
  pub stands : gs t ≡ changing_gating r
  pub holds : hs t ≡ changing_in_hand r
  pub alone : is_closing (changing_gating r).stand ≡ true → (u : ℕ) → u < c.threads → (t ≡ u → ⊥)
      → hs u ≡ holds_nothing
  pub knows : ChangingPhaseKnows c.width r h

-- the gate can be closed for the pass: the word says its cycle and phase, and is that of an open
-- gate with nobody inside
pub record CanClose (p : Pass) (w : ℕ) : Type 0 where
  pub pass : is_of_pass p w ≡ true
  pub empty : is_empty w ≡ true

-- the cycle that a start begins is one that the phase word can hold
abbrev pub HasRoom : GateRow → Type 0
HasRoom (Start p) = p.cycle + 1 < 2 ^ 54 - 1
HasRoom _ = Unit {0}

-- the row after events that read these words, in this order
abbrev pub gate_after : Width → GateRow → List ℕ → GateRow
gate_after W r [] = r
gate_after W r (w ∷ ws) = gate_after W (gate_got W r w) ws
