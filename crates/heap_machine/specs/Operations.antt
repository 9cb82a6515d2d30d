-- One atomic operation: on a place of the heap, and on the list of words.
use Rattle.std.specs.Prelude.{ℕ, ◌+◌, ◌-◌, ◌^◌, ◌<◌, ◌≤◌, ◌≡◌, ◌==◌, cond, List, length, slice_index, slice_set}
use Rattle.block_store.specs.Places.{Extent, Place, index}
use Rattle.block_store.specs.Heaps.{Heap, put_at}
use Rattle.heap_machine.specs.declared.op.Op.{Op}
use Rattle.heap_machine.specs.declared.op.Op.TheVariants as ops

-- an operation on a place
pub data Operation : Type 0 where
  Load : (p : Place) → Operation
  Exchange : (p : Place) (v : ℕ) → Operation
  CompareExchange : (p : Place) (old v : ℕ) → Operation
  FetchAdd : (p : Place) (v : ℕ) → Operation
  FetchSub : (p : Place) (v : ℕ) → Operation

abbrev pub place_of : Operation → Place
place_of (Load p) = p
place_of (Exchange p v) = p
place_of (CompareExchange p old v) = p
place_of (FetchAdd p v) = p
place_of (FetchSub p v) = p

-- the heap after it; its answer is the word before, h (place_of o)
abbrev pub heap_after : Heap → Operation → Heap
heap_after h (Load p) = h
heap_after h (Exchange p v) = put_at h p v
heap_after h (CompareExchange p old v) = cond (h p == old) (put_at h p v) h
heap_after h (FetchAdd p v) = put_at h p (h p + v)
heap_after h (FetchSub p v) = put_at h p (h p - v)

-- on this word the sum or difference stays in 64 bits
abbrev pub Fits : Operation → ℕ → Type 0
Fits (Load p) w = Unit {0}
Fits (Exchange p v) w = Unit {0}
Fits (CompareExchange p old v) w = Unit {0}
Fits (FetchAdd p v) w = w + v < 2 ^ 64
Fits (FetchSub p v) w = v ≤ w

-- the operation that the code does: the index represents the place
abbrev pub op_at : Extent → Operation → Op
op_at e (Load p) = ops.Load (index e p)
op_at e (Exchange p v) = ops.Exchange (index e p) v
op_at e (CompareExchange p old v) = ops.CompareExchange (index e p) old v
op_at e (FetchAdd p v) = ops.FetchAdd (index e p) v
op_at e (FetchSub p v) = ops.FetchSub (index e p) v

abbrev pub op_place : Op → ℕ
op_place (ops.Load i) = i
op_place (ops.Exchange i v) = i
op_place (ops.CompareExchange i old v) = i
op_place (ops.FetchAdd i v) = i
op_place (ops.FetchSub i v) = i

-- on this word the sum or difference stays in 64 bits
abbrev pub SumFits : Op → ℕ → Type 0
SumFits (ops.Load i) w = Unit {0}
SumFits (ops.Exchange i v) w = Unit {0}
SumFits (ops.CompareExchange i old v) w = Unit {0}
SumFits (ops.FetchAdd i v) w = w + v < 2 ^ 64
SumFits (ops.FetchSub i v) w = v ≤ w

-- the words after it
abbrev pub words_after : Op → List ℕ → List ℕ
words_after (ops.Load i) ws = ws
words_after (ops.Exchange i v) ws = slice_set ws i v
words_after (ops.CompareExchange i old v) ws = cond (slice_index ws i == old) (slice_set ws i v) ws
words_after (ops.FetchAdd i v) ws = slice_set ws i (slice_index ws i + v)
words_after (ops.FetchSub i v) ws = slice_set ws i (slice_index ws i - v)

-- it is on one of the words, and its sum or difference stays in 64 bits
abbrev pub MayAct : List ℕ → Op → Type 0
MayAct ws op = (op_place op < length ws) × SumFits op (slice_index ws (op_place op))

-- it read the word that was there, and changed the words
abbrev pub HasActed : List ℕ → Op → ℕ → List ℕ → Type 0
HasActed ws op w after = (w ≡ slice_index ws (op_place op)) × (after ≡ words_after op ws)
