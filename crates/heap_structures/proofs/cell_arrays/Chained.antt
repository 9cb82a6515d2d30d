-- Calls on an array one after the other.
use Rattle.std.proofs.Common.{◌≡◌, ℕ, ◌+◌, ◌≤◌, ◌<◌, ◌≢◌, Result, Ok, Err, List, [], ◌∷◌, length, slice_set, sym, ◌∙◌, subst}
use Rattle.std.specs.Prelude.{IsErrAnd, IsOkAnd, MatchResult}
use Rattle.block_store.specs.declared.Name.{Name}
use Rattle.block_store.specs.declared.Value.{Value}
use Rattle.block_store.specs.declared.Value.TheVariants.{Nil}
use Rattle.never_heap.specs.Graphs.{Graph}
use Rattle.control_heap.specs.Controls.{Control}
use Rattle.heap_structures.specs.declared.cells.Cells.{Cells}
use Rattle.heap_structures.specs.Cells.{IsCells, IsNone, held}
use Rattle.heap_structures.specs.Heaps.{Does, Ready, Sight}
use Rattle.heap_structures.proofs.cell_arrays.Answered.{ok_map, room_after, room_less, took_both}
use Rattle.heap_structures.proofs.cell_arrays.CellMoves.{spares_both, spares_wider}

pub ready_less : (s : Sight) (n m : ℕ) (h : Control) (c : Cells) (g : Graph) (vs : List Value)
    → m ≤ n → Ready s n h c g vs → Ready s m h c g vs
ready_less s n m h c g vs less r = record {
  has = r.has;
  cells = r.cells;
  room = room_less n m h less r.room;
}

-- after a call the array is ready for the next
pub ready_next : (s : Sight) (n m : ℕ) (h y : Control) (rs : List ℕ) (c : Cells) (g : Graph)
    (vs ws : List Value) (P : Graph → Type 0) → Ready s (n + m) h c g vs
    → (d : Does s n h y rs c.array g P) → IsCells d.graph c ws → Ready s m y c d.graph ws
ready_next s n m h y rs c g vs ws P r d cells = record {
  has = d.has;
  cells = cells;
  room = room_after n m h y d.took r.room;
}

-- more registers may be spent, and more be known
abbrev pub does_wider : (s : Sight) (n : ℕ) (h z : Control) (rs ws : List ℕ) (a : Name) (g : Graph)
    (P Q : Graph → Type 0) → ((q : ℕ) → IsNone ws q → IsNone rs q)
    → (d : Does s n h z rs a g P) → (P d.graph → Q d.graph) → Does s n h z ws a g Q
does_wider s n h z rs ws a g P Q fewer d f = record {
  graph = d.graph;
  has = d.has;
  took = d.took;
  spares = spares_wider rs ws a g d.graph fewer d.spares;
  holds = f d.holds;
}

abbrev pub does_both : (s : Sight) (n m : ℕ) (h y z : Control) (rs : List ℕ) (a : Name) (g : Graph)
    (P Q : Graph → Type 0) (d : Does s n h y rs a g P) → Does s m y z rs a d.graph Q
    → Does s (n + m) h z rs a g Q
does_both s n m h y z rs a g P Q d e = record {
  graph = e.graph;
  has = e.has;
  took = took_both n m h y z d.took e.took;
  spares = spares_both rs a g d.graph e.graph d.spares e.spares;
  holds = e.holds;
}

-- the value in the spare register goes into the array
pub stored_spare : {E : Type 0} (s : Sight) (n : ℕ) (h y z : Control) (c : Cells) (g : Graph)
    (vs : List Value) (i : ℕ) (v : Value) (x : Result (Unit {0}) E) → Ready s (n + 1) h c g vs
    → i < length vs
    → Does s n h y (c.spare ∷ []) c.array g (λ k. IsCells k c vs × (held k c.spare ≡ v))
    → ((k : Graph) → Ready s 1 y c k vs → i < length vs → c.spare < 16
    → IsOkAnd x (λ u. Does s 1 y z [] c.array k
    (λ m. IsCells m c (slice_set vs i (held k c.spare)))))
    → IsOkAnd x (λ u. Does s (n + 1) h z (c.spare ∷ []) c.array g
    (λ m. IsCells m c (slice_set vs i v)))
stored_spare s n h y z c g vs i v x ready low d put =
    let next = ready_next s n 1 h y (c.spare ∷ []) c g vs vs
    (λ k. IsCells k c vs × (held k c.spare ≡ v)) ready d d.holds.0 in
    ok_map _ _ x
    (λ u e. does_both s n 1 h y z (c.spare ∷ []) c.array g
    (λ k. IsCells k c vs × (held k c.spare ≡ v)) (λ m. IsCells m c (slice_set vs i v)) d
    (does_wider s 1 y z [] (c.spare ∷ []) c.array d.graph
    (λ m. IsCells m c (slice_set vs i (held d.graph c.spare)))
    (λ m. IsCells m c (slice_set vs i v)) (λ q none. tt) e
    (λ is. subst (λ w. IsCells e.graph c (slice_set vs i w)) d.holds.1 is)))
    (put d.graph next low ready.cells.placed.spare)

-- a value is loaded, and its place is cleared
pub taken : {E : Type 0} (s : Sight) (h y z : Control) (c : Cells) (g : Graph) (vs : List Value)
    (d : ℕ) (i : ℕ) (v : Value) (x : Result (Unit {0}) E) → Ready s 3 h c g vs
    → d ≢ c.spare → i < length vs
    → Does s 1 h y (d ∷ []) c.array g (λ k. IsCells k c vs × (held k d ≡ v))
    → ((k : Graph) → Ready s 2 y c k vs → i < length vs
    → IsOkAnd x (λ u. Does s 2 y z (c.spare ∷ []) c.array k
    (λ m. IsCells m c (slice_set vs i Nil))))
    → IsOkAnd x (λ u. Does s 3 h z (d ∷ c.spare ∷ []) c.array g
    (λ m. IsCells m c (slice_set vs i Nil) × (held m d ≡ v)))
taken s h y z c g vs d i v x ready apart low first clear =
    let P : Graph → Type 0 = λ k. IsCells k c vs × (held k d ≡ v) in
    let next = ready_next s 1 2 h y (d ∷ []) c g vs vs P ready first first.holds.0 in
    ok_map _ _ x
    (λ u e. does_both s 1 2 h y z (d ∷ c.spare ∷ []) c.array g P
    (λ m. IsCells m c (slice_set vs i Nil) × (held m d ≡ v))
    (does_wider s 1 h y (d ∷ []) (d ∷ c.spare ∷ []) c.array g P P (λ q none. (none.0, tt)) first
    (λ is. is))
    (does_wider s 2 y z (c.spare ∷ []) (d ∷ c.spare ∷ []) c.array first.graph
    (λ m. IsCells m c (slice_set vs i Nil))
    (λ m. IsCells m c (slice_set vs i Nil) × (held m d ≡ v)) (λ q none. none.1) e
    (λ is. (is, e.spares.registers d (apart, tt) ∙ first.holds.1))))
    (clear first.graph next low)

-- what is said of a fault that is passed on
pub from_err : {T E : Type 0} (x : Result T E) (f : E) (P : T → Type 0) (Q : E → Type 0)
    → IsErrAnd x (λ e. e ≡ f) → Q f → MatchResult x P Q
from_err (Ok v) f P Q is q = absurd is
from_err (Err e) f P Q is q = subst Q (sym is) q
