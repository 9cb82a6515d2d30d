-- The ranges of the numbers in a row, and the words that it may read.
use Rattle.std.specs.Prelude.{ℕ, ◌+◌, ◌<◌, ◌≤◌, ◌≡◌, ◌≢◌, IsSome, Bool, true, false}
use Rattle.block_store.specs.declared.Config.{Config}
use Rattle.block_store.specs.Payloads.{payload_of, target}
use Rattle.block_store.specs.Places.{extent, IsBlock}
use Rattle.block_store.specs.Registers.{registers_end}
use Rattle.block_store.specs.Shapes.{IsShape}
use Rattle.never_heap.specs.declared.Command.{Command}
use Rattle.never_heap.specs.Bounds.{IsCommandInRange}
use Rattle.heap_machine.specs.Operations.{place_of}
use Rattle.heap_machine.specs.Readings.{CanHold}
use Rattle.heap_machine.specs.declared.pass.Pass.{Pass}
use Rattle.grey_steps.specs.declared.rows.GreyRow.{GreyRow}
use Rattle.grey_steps.specs.MarkUnits.{block_stored}
use Rattle.grey_steps.specs.Fits.{GreyFits}
use Rattle.barrier_steps.specs.declared.rows.FieldRow.{FieldRow}
use Rattle.barrier_steps.specs.declared.rows.FieldRow.TheVariants.{LoadRegister, LoadShape, LoadLink, LoadField, LoadOwner, Shade, Store, StoreConstant, IdleLook, Answered}
use Rattle.barrier_steps.specs.declared.rows.Purpose.{Purpose}
use Rattle.barrier_steps.specs.declared.rows.Purpose.TheVariants as wants
use Rattle.barrier_steps.specs.declared.rows.TreePath.{TreePath}
use Rattle.barrier_steps.specs.declared.rows.FieldStore.{FieldStore}
use Rattle.barrier_steps.specs.declared.rows.FieldStore.TheVariants.{Moved, Pending, InField, Exchanged, Compared}
use Rattle.barrier_steps.specs.Operands.{field_index, sets_constant, is_mov, is_get, is_put, goes_to_field, looks_at_object, is_same, is_say, is_swap, is_cas, is_idle, takes_field, answers_value, stores_in_field}
use Rattle.barrier_steps.specs.Walks.{shape_length, links_to}
use Rattle.barrier_steps.specs.Rows.{FieldState, stored_word, row_want}

-- thread t is one of the heap's, which has at most 16, and the blocks of its registers are in the
-- heap
pub record IsThread (c : Config) (t : ℕ) : Type 0 where
  pub few : c.threads ≤ 16
  pub thread : t < c.threads
  pub registers : registers_end c.width (t + 1) ≤ c.blocks

-- a word that a register or field can hold
pub record IsLoaded (c : Config) (w : ℕ) : Type 0 where
  pub payload : IsSome (payload_of w)
  pub block : target w ≤ c.blocks

-- the way to field i, which the object has, at a block of the heap
pub record IsWalk (c : Config) (i : ℕ) (way : TreePath) : Type 0 where
  pub shape : IsShape way.shape
  pub index : i < shape_length way.shape
  pub level : way.level ≤ links_to (extent c) way.shape i
  pub block : IsBlock c way.block

-- the way is at its end
abbrev pub IsThere : Config → ℕ → TreePath → Type 0
IsThere c i way = way.level ≡ links_to (extent c) way.shape i

-- in this pass, in Mark, the barrier of a word that refers to a block has come to row r
pub record IsBarrier (c : Config) (p : Pass) (r : GreyRow) (word : ℕ) : Type 0 where
  pub mark : p.sweep ≡ false
  pub refers : target word ≢ 0
  pub stores : block_stored r ≡ target word
  pub fits : GreyFits c (record { pass = p; row = r })

-- whether command k makes this store
abbrev pub is_store_of : Command → FieldStore → Bool
is_store_of k (Moved word) = is_mov k
is_store_of k (Pending word value) = takes_field k
is_store_of k (InField way word) = is_put k
is_store_of k (Exchanged way word) = is_swap k
is_store_of k (Compared way word) = is_cas k

-- the numbers in a store are in range
abbrev pub StoreFits : Config → Command → FieldStore → Type 0
StoreFits c k (Moved word) = IsLoaded c word
StoreFits c k (Pending word value) = IsLoaded c word
StoreFits c k (InField way word) = IsWalk c (field_index k) way × IsThere c (field_index k) way
    × IsLoaded c word
StoreFits c k (Exchanged way word) = IsWalk c (field_index k) way × IsThere c (field_index k) way
    × IsLoaded c word
StoreFits c k (Compared way word) = IsWalk c (field_index k) way × IsThere c (field_index k) way
    × IsLoaded c word

-- whether command k loads a register for this
abbrev pub is_wanted_by : Command → Purpose → Bool
is_wanted_by k wants.Copied = is_mov k
is_wanted_by k wants.Object = looks_at_object k
is_wanted_by k (wants.Expected way) = is_cas k
is_wanted_by k (wants.Stored way) = stores_in_field k
is_wanted_by k wants.First = is_same k
is_wanted_by k (wants.Second word) = is_same k
is_wanted_by k wants.Shown = is_say k

-- the numbers that are in hand where a register is loaded are in range
abbrev pub WantedFits : Config → Command → Purpose → Type 0
WantedFits c k (wants.Expected way) = IsWalk c (field_index k) way × (way.level ≡ 0)
WantedFits c k (wants.Stored way) = IsWalk c (field_index k) way × (way.level ≡ 0)
WantedFits c k (wants.Second word) = IsLoaded c word
WantedFits c k _ = Unit {0}

-- what a row asks: whether the command comes to it, and that its numbers are in range
pub record Asks : Type 1 where
  pub comes : Bool
  pub Numbers : Type 0

-- what it asks of command k in this pass
abbrev pub row_asks : Config → Pass → Command → FieldRow → Asks
row_asks c p k (LoadRegister wanted) = record {
  comes = is_wanted_by k wanted;
  Numbers = WantedFits c k wanted;
}
row_asks c p k (LoadShape x) = record { comes = looks_at_object k; Numbers = IsBlock c x }
row_asks c p k (LoadLink way word) = record {
  comes = goes_to_field k;
  Numbers = IsWalk c (field_index k) way
      × (way.level < links_to (extent c) way.shape (field_index k)) × IsLoaded c word;
}
row_asks c p k (LoadField way) = record {
  comes = is_get k;
  Numbers = IsWalk c (field_index k) way × IsThere c (field_index k) way;
}
row_asks c p k (LoadOwner word) = record {
  comes = answers_value k;
  Numbers = IsLoaded c word × (target word ≢ 0);
}
row_asks c p k (Shade r store) = record {
  comes = is_store_of k store;
  Numbers = IsBarrier c p r (stored_word store) × StoreFits c k store;
}
row_asks c p k (Store store) = record { comes = is_store_of k store; Numbers = StoreFits c k store }
row_asks c p k StoreConstant = record { comes = sets_constant k; Numbers = Unit {0} }
row_asks c p k IdleLook = record { comes = is_idle k; Numbers = Unit {0} }
row_asks c p k (Answered reply) = record { comes = true; Numbers = Unit {0} }

-- whether command k comes to this row of this pass
abbrev pub is_row_of : Config → Pass → Command → FieldRow → Bool
is_row_of c p k row = (row_asks c p k row).comes

-- the numbers that it names are in range
abbrev pub RowFits : Config → Pass → Command → FieldRow → Type 0
RowFits c p k row = (row_asks c p k row).Numbers

-- the heap has the pass's threads, of which this is one, and at most 65,535 blocks; the command is
-- in range and comes to the row, and the row's numbers are in range
pub record FitsAt (c : Config) (p : Pass) (k : Command) (r : FieldRow) : Type 0 where
  pub thread : IsThread c p.thread
  pub threads : p.threads ≡ c.threads
  pub blocks : c.blocks ≤ 65535
  pub command : IsCommandInRange k
  pub belongs : is_row_of c p k r ≡ true
  pub row : RowFits c p k r

abbrev pub FieldFits : Config → FieldState → Type 0
FieldFits c s = FitsAt c s.pass s.command s.row

-- a link is a reference
abbrev pub LinkReads : FieldRow → ℕ → Type 0
LinkReads (LoadLink way word) w = target w ≢ 0
LinkReads _ w = Unit {0}

-- the words that a row may read: those that the wanted place can hold, and at a link a reference
abbrev pub ReadsAt : Config → Pass → Command → FieldRow → ℕ → Type 0
ReadsAt c p k row w = CanHold (extent c) (place_of (row_want (extent c) p k row)) w
    × LinkReads row w

abbrev pub FieldReads : Config → FieldState → ℕ → Type 0
FieldReads c s w = ReadsAt c s.pass s.command s.row w
