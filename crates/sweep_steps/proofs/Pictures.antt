-- The event that frees is the one that keeps what the graph reaches; the others change nothing that
-- is seen of it.
use Rattle.std.proofs.Common.{◌≡◌, ℕ, ◌<◌, true, eqb, sym, ap, ◌∙◌, inl, inr, List}
use Rattle.std.proofs.lemmas.Bool.{cases_Bool}
use Rattle.block_store.specs.declared.Config.{Config}
use Rattle.block_store.specs.Colours.{white_word}
use Rattle.block_store.specs.Heaps.{Heap}
use Rattle.block_store.specs.Phases.{is_sweep, cycle_of}
use Rattle.block_store.specs.Places.{extent, Phase, Cursor}
use Rattle.heap_machine.specs.WorkInHand.{WorkInHand}
use Rattle.heap_machine.specs.Operations.{heap_after}
use Rattle.heap_machine.specs.ReuseKept.{ReuseKept}
use Rattle.never_heap.specs.Graphs.{Graph}
use Rattle.never_heap.specs.Histories.{HistoryItem}
use Rattle.heap_invariant.specs.name_invariant.Invariant.{Invariant}
use Rattle.heap_invariant.specs.name_invariant.Pictures.{Task, Names, picture}
use Rattle.heap_invariant.proofs.Lemmas.{frees}
use Rattle.sweep_steps.specs.declared.rows.SweepRow.{SweepRow}
use Rattle.sweep_steps.specs.declared.rows.SweepRow.TheVariants.{ReadCursor, ClaimRange, PassBlock, TakeFree, FreeBlock, PutFree, Credit, Swept, NothingLeft}
use Rattle.sweep_steps.specs.Fits.{RowFits, SweepFits, IsSweeping}
use Rattle.sweep_steps.specs.Rows.{SweepState, row_want, sweep_want, sweep_in_hand}
use Rattle.sweep_steps.proofs.ReuseRulesKept.{doomed_white}

module _ (c : Config) (g : Graph) (order : List HistoryItem) (h : Heap) (names : Names)
    (tasks : ℕ → Task) (hs : ℕ → WorkInHand) (reuse : ReuseKept (extent c) h hs) (t y owed : ℕ)
    (low : t < c.threads) (phase : is_sweep (h Phase) ≡ true) (cycle : cycle_of (h Phase) ≡ y)
    (k : Invariant c (picture g order h names tasks)) where
  row_names : (r : SweepRow) → RowFits c.blocks owed r → hs t ≡ sweep_in_hand r
      → Invariant c (picture g order (heap_after h (row_want t y r)) names tasks)
  row_names ReadCursor f e = k
  row_names (ClaimRange x high) f e = elim (cases_Bool (eqb (h Cursor) x)) [
    | inl is ↦ rw is k
    | inr is ↦ rw is k
  ]
  row_names (PassBlock x high p a v) f e = k
  row_names (TakeFree x high p) f e = k
  row_names (FreeBlock x high p a v) f e =
      let white = doomed_white (extent c) h hs reuse t y owed low phase cycle x high p a v f.0.some
      e in
      frees c (picture g order h names tasks) k x a phase (white ∙ sym (ap white_word cycle))
  row_names (PutFree a p v) f e = k
  row_names (Credit p v) f e = k
  row_names (Swept p v) f e = k
  row_names NothingLeft f e = k

pub keeps_names : (c : Config) (g : Graph) (order : List HistoryItem) (h : Heap) (names : Names)
    (tasks : ℕ → Task) (s : SweepState) (hs : ℕ → WorkInHand) → SweepFits c s → IsSweeping h s
    → ReuseKept (extent c) h hs → hs s.thread ≡ sweep_in_hand s.row
    → Invariant c (picture g order h names tasks)
    → Invariant c (picture g order (heap_after h (sweep_want s)) names tasks)
keeps_names c g order h names tasks s hs f is reuse e k =
    row_names c g order h names tasks hs reuse s.thread s.cycle s.owed f.thread is.phase is.cycle k
    s.row f.row e
