-- What a thread's event at a memory says of the word that it read.
use Rattle.std.specs.Prelude.{ℕ}
use Rattle.heap_machine.specs.declared.op.Op.{Op}

-- an operation of a memory, with what is shared of it: the memory before, the word that was read,
-- and the memory after
abbrev pub Acts : Type 0 → Type 0 → Type 1
Acts M S = M → S → Op → ℕ → M → Type 0

-- each word that the operation may read here is good
abbrev pub ReadsOnly : {M S : Type 0} → Acts M S → M → S → Op → (ℕ → Type 0) → Type 0
ReadsOnly {M} acts old shared op good = (w : ℕ) (new : M) → acts old shared op w new → good w

-- the memory is as after one such operation, which read a word of which this is so
abbrev pub ActsOnce : {M S : Type 0} → Acts M S → M → S → Op → M → (ℕ → Type 0) → Type 0
ActsOnce acts old shared op new so = (w : ℕ) × acts old shared op w new × so w
