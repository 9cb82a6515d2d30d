-- The operations of a thread, with one more.
use Rattle.std.proofs.Common.{◌≡◌, ℕ, ◌+◌, refl, List, [], ◌∷◌, ◌++◌}
use Rattle.array_tables.specs.number_rings.Rings.{Operation, Keep, Recall, AreInCells}
use Rattle.live_tables.specs.rings.Live.{AreOwnFrom, CanBeNext, kept_behind, kept_by}

pub own_more : (t n : ℕ) (ops : List Operation) (op : Operation) → AreOwnFrom t n ops
    → AreOwnFrom t (kept_behind n ops) (op ∷ []) → AreOwnFrom t n (ops ++ op ∷ [])
own_more t n [] op all one = one
own_more t n (Keep i v ∷ ops) op all one = (all.0, own_more t (n + 1) ops op all.1 one)
own_more t n (Recall i ∷ ops) op all one = own_more t n ops op all one

pub low_more : (places : ℕ) (ops : List Operation) (op : Operation) → AreInCells places ops
    → AreInCells places (op ∷ []) → AreInCells places (ops ++ op ∷ [])
low_more places [] op all one = one
low_more places (x ∷ ops) op all one = (all.0, low_more places ops op all.1 one)

pub next_low : (places t : ℕ) (ops : List Operation) (op : Operation) → CanBeNext places t ops op
    → AreInCells places (op ∷ [])
next_low places t ops (Keep i v) one = (one.1, tt)
next_low places t ops (Recall i) one = (one, tt)

pub next_own : (places t : ℕ) (ops : List Operation) (op : Operation) → CanBeNext places t ops op
    → AreOwnFrom t (kept_by ops) (op ∷ [])
next_own places t ops (Keep i v) one = (one.0, tt)
next_own places t ops (Recall i) one = tt

-- how many numbers were kept, with one operation more
pub kept_more : (n : ℕ) (ops : List Operation) (op : Operation)
    → kept_behind n (ops ++ op ∷ []) ≡ kept_behind (kept_behind n ops) (op ∷ [])
kept_more n [] op = refl
kept_more n (Keep i v ∷ ops) op = kept_more (n + 1) ops op
kept_more n (Recall i ∷ ops) op = kept_more n ops op
