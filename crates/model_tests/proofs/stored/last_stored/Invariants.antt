use Rattle.std.proofs.Common.{ℕ, ◌≡◌, ◌<◌, ◌⊎◌, Contains, slice_index_or}
use Rattle.block_store.specs.declared.Value.{Value}
use Rattle.block_store.specs.declared.Value.TheVariants.{Nil}
use Rattle.model_tests.proofs.stored.last_stored.Given as goal

abbrev pub invariant-loop-entry : goal.invariant-loop-entry
invariant-loop-entry l =
    ((l.last ≡ Nil) ⊎ Contains l.fn.stored (l.fn.object, l.fn.i, l.last))
    × ((t : ℕ) (d : Value × ℕ × Value) → t < l.entry-index
    → (slice_index_or l.fn.stored t d).0 ≡ l.fn.object
    → (slice_index_or l.fn.stored t d).1 ≡ l.fn.i
    → Contains l.fn.stored (l.fn.object, l.fn.i, l.last))
