-- What a thread holds before its next event, in one record; each rule on the heap reads its part of
-- it.
use Rattle.std.specs.Prelude.{ℕ, Bool, false, List, [], Option, Some, None}
use Rattle.heap_machine.specs.FreeBlocks.{FreeInHand}
use Rattle.heap_machine.specs.Grey.{GreyInHand}
use Rattle.heap_machine.specs.Sweeping.{SweepInHand}
use Rattle.heap_machine.specs.Tricolour.{TricolourInHand}

-- the first block of its private list, or 0; the block that it scans, and how many of its
-- payloads are dealt with; the block that it has found in the next one and not yet shaded, or 0;
-- whether it knows its own list to be empty; and the block whose barrier is over, so that a
-- reference to it may be stored, or 0.
-- Then of the Free blocks: the first block of its private free list, or 0; whether it knows its
-- own free list to be empty; the blocks that it has collected to build with and not yet coloured;
-- how many it has reserved and not yet coloured; and how many it has freed and not yet credited.
-- And of the sweep: the blocks from low on below high, which it has claimed and not yet passed; and
-- the one of them that it is about to free, or 0
pub record WorkInHand : Type 0 where
  pub list : ℕ
  pub scan : Option ℕ
  pub dealt : ℕ
  pub found : ℕ
  pub emptied : Bool
  pub shaded : ℕ
  pub free_list : ℕ
  pub free_emptied : Bool
  pub held : List ℕ
  pub reserved : ℕ
  pub freed : ℕ
  pub low : ℕ
  pub high : ℕ
  pub doomed : ℕ

abbrev pub holds_nothing : WorkInHand
holds_nothing = record {
  list = 0;
  scan = None;
  dealt = 0;
  found = 0;
  emptied = false;
  shaded = 0;
  free_list = 0;
  free_emptied = false;
  held = [];
  reserved = 0;
  freed = 0;
  low = 0;
  high = 0;
  doomed = 0;
}

-- the block, or 0
abbrev pub block_or_zero : Option ℕ → ℕ
block_or_zero None = 0
block_or_zero (Some x) = x

-- the part that the rule of the grey blocks reads
abbrev pub grey_held : WorkInHand → GreyInHand
grey_held w = record { list = w.list; scan = w.scan; emptied = w.emptied }

-- the part that the tricolour rule reads
abbrev pub tricolour_held : WorkInHand → TricolourInHand
tricolour_held w = record {
  scan = block_or_zero w.scan;
  dealt = w.dealt;
  found = w.found;
  shaded = w.shaded;
}

-- the part that the rule of the Free blocks reads
abbrev pub free_held : WorkInHand → FreeInHand
free_held w = record {
  list = w.free_list;
  emptied = w.free_emptied;
  held = w.held;
  reserved = w.reserved;
  freed = w.freed;
}

-- the part that the rule of the sweep reads
abbrev pub sweep_held : WorkInHand → SweepInHand
sweep_held w = record { low = w.low; high = w.high; doomed = w.doomed }
