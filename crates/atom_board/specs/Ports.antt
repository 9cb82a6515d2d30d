-- What a mutator may do to the shared words, and what that makes of its seat.
use Rattle.std.specs.Prelude.{ℕ, ◌<◌, ◌≡◌, [], false}
use Rattle.atomic_table.specs.Table as table
use Rattle.atomic_table.specs.Seated.{TableId}
use Rattle.heap_machine.specs.declared.op.Op.{Op}
use Rattle.block_store.specs.Places.{extent, words_count}
use Rattle.heap_machine.specs.Operations.{op_place}
use Rattle.heap_system.specs.Locals.{LocalState, is_done, op_wanted}
use Rattle.atom_board.specs.declared.rules.View.{View}
use Rattle.atom_board.specs.Boards.{one_view, turns_in, moves_on}
use Rattle.atom_board.specs.LoneTurns.{EndsAlone}

-- The seat is of this table and has one thread, which is not done, and the operation is the one
-- that the thread wants, on a word of the table.
pub record MayTurn (me : table.Me Unit View) (own shared : TableId) (op : Op) : Type 0 where
  pub local : LocalState
  pub turns : ℕ
  pub knows : me ≡ (one_view local turns, [])
  pub going : is_done local ≡ false
  pub wants : op ≡ op_wanted local
  pub place : op_place op < shared.words
  pub table : own ≡ shared
  pub slots : shared.slots ≡ 0

-- it is still the same seat of the table, and what it knows has moved on by the word
abbrev pub HasTurned : TableId → ℕ → table.Me Unit View → ℕ → TableId → ℕ → table.Me Unit View
    → Type 0
HasTurned own id me w own_after id_after me_after =
    (own_after ≡ own) × (id_after ≡ id) × moves_on me w me_after

-- The seat is of the table and has this one thread, which ends where it is alone.
pub record HasThread (me : table.Me Unit View) (own shared : TableId) (l : LocalState) : Type 0
  where
    pub knows : me ≡ (one_view l (turns_in me.0.locals), [])
    pub words : own.words ≡ words_count (extent l.config)
    pub slots : own.slots ≡ 0
    pub table : own ≡ shared
    pub few : EndsAlone l (turns_in me.0.locals)
