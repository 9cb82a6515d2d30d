-- Marking, as rows of one event each: a thread scans one grey block, or makes one block grey to
-- which a command is about to store a reference. What each row wants, and what it becomes on the
-- word that it read.
use Rattle.std.specs.Prelude.{ℕ, ◌+◌, ◌%◌, ◌==◌, nat_lt, Bool, true, false, if◌then◌else◌, Some}
use Rattle.block_store.specs.Colours.{link, grey_word, black_word, white_word}
use Rattle.block_store.specs.Payloads.{target}
use Rattle.block_store.specs.Widths.{payloads}
use Rattle.block_store.specs.Places.{Extent, Phase, GreyList, ColourOf, PayloadOf}
use Rattle.heap_machine.specs.WorkInHand.{WorkInHand, holds_nothing}
use Rattle.heap_machine.specs.Operations.{Operation, Load, Exchange, CompareExchange}
use Rattle.heap_machine.specs.declared.pass.Pass.{Pass}
use Rattle.heap_machine.specs.declared.Step.{Step}
use Rattle.heap_machine.specs.declared.Step.TheVariants.{Went, Over}
use Rattle.grey_steps.specs.declared.rows.GreyRow.{GreyRow}
use Rattle.grey_steps.specs.declared.rows.GreyRow.TheVariants.{Take, Pop, ScanWord, Shade, Blacken, Put, Scanned, NothingGrey, TakeOwn, ShadeStored, PutOwn, Shaded}

-- a thread that marks: its pass, in the colours of whose cycle it marks, and its row
pub record GreyState : Type 0 where
  pub pass : Pass
  pub row : GreyRow

-- the list that thread t of n takes as the u-th, from 0: the first is its own
unfoldable pub list_of : ℕ → ℕ → ℕ → ℕ
list_of t n u = (t + u) % n

-- the operation of a row of thread t of n in cycle c. A part that is over would look at the phase
-- once more
abbrev pub row_want : ℕ → ℕ → ℕ → GreyRow → Operation
row_want t n c (Take u) = Exchange (GreyList (list_of t n u)) 0
row_want t n c (Pop list) = Load (ColourOf list)
row_want t n c (ScanWord x j list) = Load (PayloadOf x j)
row_want t n c (Shade x j y list) = CompareExchange (ColourOf y) (white_word c) (grey_word list)
row_want t n c (Blacken x list) = Exchange (ColourOf x) (black_word c)
row_want t n c (Put list) = Exchange (GreyList t) list
row_want t n c Scanned = Load Phase
row_want t n c NothingGrey = Load Phase
row_want t n c (TakeOwn y) = Exchange (GreyList t) 0
row_want t n c (ShadeStored y list) = CompareExchange (ColourOf y) (white_word c) (grey_word list)
row_want t n c (PutOwn y list) = Exchange (GreyList t) list
row_want t n c (Shaded y) = Load Phase

-- after the u-th list: a list that is not empty is the private list
abbrev pub after_take : ℕ → ℕ → ℕ → GreyRow
after_take n u w = if w == 0 then (if nat_lt (u + 1) n then Take (u + 1) else NothingGrey)
    else Pop w

-- after payload j of block x was dealt with, of as many as a block has
abbrev pub after_word : ℕ → ℕ → ℕ → ℕ → GreyRow
after_word width x j list = if nat_lt (j + 1) width then ScanWord x (j + 1) list else Blacken x list

-- after payload j of block x, which refers to block y, or to none where y is 0
abbrev pub after_scan : ℕ → ℕ → ℕ → ℕ → ℕ → GreyRow
after_scan width x j list y = if y == 0 then after_word width x j list else Shade x j y list

-- the private list after block y, whose colour was w, was to become grey: only a white block did
abbrev pub shaded_list : ℕ → ℕ → ℕ → ℕ → ℕ
shaded_list c y list w = if w == white_word c then y else list

-- what is left in the private list is put
abbrev pub after_black : ℕ → GreyRow
after_black list = if list == 0 then Scanned else Put list

-- the same after block y was to become grey before a store
abbrev pub after_stored : ℕ → ℕ → GreyRow
after_stored y list = if list == 0 then Shaded y else PutOwn y list

-- the row after it, where it read w and a block has this many payloads
abbrev pub row_got : ℕ → ℕ → ℕ → GreyRow → ℕ → GreyRow
row_got width n c (Take u) w = after_take n u w
row_got width n c (Pop list) w = ScanWord list 0 (link w)
row_got width n c (ScanWord x j list) w = after_scan width x j list (target w)
row_got width n c (Shade x j y list) w = after_word width x j (shaded_list c y list w)
row_got width n c (Blacken x list) w = after_black list
row_got width n c (Put list) w = Scanned
row_got width n c Scanned w = Scanned
row_got width n c NothingGrey w = NothingGrey
row_got width n c (TakeOwn y) w = ShadeStored y w
row_got width n c (ShadeStored y list) w = after_stored y (shaded_list c y list w)
row_got width n c (PutOwn y list) w = Shaded y
row_got width n c (Shaded y) w = Shaded y

abbrev pub grey_want : GreyState → Operation
grey_want s = row_want s.pass.thread s.pass.threads s.pass.cycle s.row

abbrev pub grey_got : Extent → GreyState → ℕ → GreyState
grey_got e s w = record {
  pass = s.pass;
  row =
      row_got (payloads e.width) s.pass.threads s.pass.cycle s.row w;
}

-- the ends
abbrev pub grey_over : GreyRow → Bool
grey_over Scanned = true
grey_over NothingGrey = true
grey_over (Shaded y) = true
grey_over _ = false

-- no row waits, and the event that leads to an end is the last
abbrev pub grey_step : Extent → GreyState → ℕ → Step
grey_step e s w = if grey_over (grey_got e s w).row then Over else Went

-- the rows after the event that makes a block black
abbrev pub grey_unit : GreyRow → Bool
grey_unit (Put list) = true
grey_unit Scanned = true
grey_unit _ = false

-- the end at which each list was read 0
abbrev pub grey_nothing : GreyRow → Bool
grey_nothing NothingGrey = true
grey_nothing _ = false

-- the first states: the thread of this pass scans one grey block; it makes block y grey
abbrev pub scanning : Pass → GreyState
scanning p = record { pass = p; row = Take 0 }

abbrev pub shading : Pass → ℕ → GreyState
shading p y = record { pass = p; row = TakeOwn y }

-- what the thread holds before the event of a row, where a block has this many payloads. Its own
-- list is the first that it takes; and from the event that made a block grey before a store, or
-- found it not white, the barrier of that block is over
abbrev pub grey_in_hand : ℕ → GreyRow → WorkInHand
grey_in_hand width (Take u) = record holds_nothing { emptied = nat_lt 0 u }
grey_in_hand width (Pop list) = record holds_nothing { list = list; emptied = true }
grey_in_hand width (ScanWord x j list) = record holds_nothing {
  list = list;
  emptied = true;
  scan = Some x;
  dealt = j;
}
grey_in_hand width (Shade x j y list) = record holds_nothing {
  list = list;
  emptied = true;
  scan = Some x;
  dealt = j;
  found = y;
}
grey_in_hand width (Blacken x list) = record holds_nothing {
  list = list;
  emptied = true;
  scan = Some x;
  dealt = width;
}
grey_in_hand width (Put list) = record holds_nothing { list = list; emptied = true }
grey_in_hand width Scanned = holds_nothing
grey_in_hand width NothingGrey = holds_nothing
grey_in_hand width (TakeOwn y) = holds_nothing
grey_in_hand width (ShadeStored y list) = record holds_nothing { list = list; emptied = true }
grey_in_hand width (PutOwn y list) = record holds_nothing {
  list = list;
  emptied = true;
  shaded = y;
}
grey_in_hand width (Shaded y) = record holds_nothing { shaded = y }

abbrev pub marking_in_hand : Extent → GreyState → WorkInHand
marking_in_hand e s = grey_in_hand (payloads e.width) s.row
