-- What the parts of a call do to an array that shows values from its first place on.
use Rattle.std.proofs.Common.{◌≡◌, ◌≢◌, Result, ℕ, ◌+◌, ◌-◌, ◌*◌, ◌<◌, ◌≤◌, List, [], ◌∷◌, ◌++◌, length, slice_index_or, slice_set, sym, ap, ◌∙◌, subst, arith}
use Rattle.std.specs.Prelude.{IsOkAnd}
use Rattle.std.proofs.lemmas.List.{length-set}
use Rattle.block_store.specs.declared.Value.{Value}
use Rattle.block_store.specs.declared.Value.TheVariants.{Nil}
use Rattle.never_heap.specs.Graphs.{Graph}
use Rattle.control_heap.specs.Controls.{Control}
use Rattle.control_heap.specs.declared.faults.Fault.{Fault}
use Rattle.heap_structures.specs.declared.cells.Cells.{Cells}
use Rattle.heap_structures.specs.Alarms.{Shows, without}
use Rattle.heap_structures.specs.Cells.{IsCells, held}
use Rattle.heap_structures.specs.Heaps.{Does, HasRoom, Ready, Sight}
use Rattle.heap_structures.specs.Rings.{IsRound}
use Rattle.heap_structures.proofs.cell_arrays.Answered.{ok_map, room_after, room_less}
use Rattle.heap_structures.proofs.cell_arrays.Chained.{does_both}
use Rattle.heap_structures.proofs.cell_arrays.ValuesMoveUp.{IsClosed, at0, circle_set, circle_without, closed_more, closed_none, length_without}
use Rattle.heap_structures.proofs.rings.Rounds.{round_more}
use Rattle.heap_structures.proofs.tables.TableCalls.{took_more}

-- more commands are allowed, and more is known
abbrev pub shows_as : (s : Sight) (n m : ℕ) (h z : Control) (c : Cells) (g : Graph)
    (P Q : Graph → Type 0) → n ≤ m → (d : Shows s n h z c g P) → (P d.graph → Q d.graph)
    → Shows s m h z c g Q
shows_as s n m h z c g P Q less d f = record {
  graph = d.graph;
  has = d.has;
  took = took_more n m h z less d.took;
  spares = d.spares;
  holds = f d.holds;
}

-- one part after the other
abbrev pub shows_then : (s : Sight) (n m k : ℕ) (h y z : Control) (c : Cells) (g : Graph)
    (P Q R : Graph → Type 0) → n + m ≤ k → (d : Shows s n h y c g P)
    → (e : Shows s m y z c d.graph Q) → (Q e.graph → R e.graph) → Shows s k h z c g R
shows_then s n m k h y z c g P Q R less d e f =
    shows_as s (n + m) k h z c g Q R less
    (does_both s n m h y z (c.spare ∷ []) c.array g P Q d e) f

module _ (g : Graph) (c : Cells) (count : ℕ) (vs : List Value) (r : IsRound g c 0 count vs) where
  pub size_over : count ≤ c.size
  size_over = let f = r.circle.few in omega (arith, f, r.counted)

  pub place_in : (i : ℕ) → i < c.size → i < length r.array
  place_in i low = let l = r.circle.long in omega (arith, l, low)

  -- the value of a place
  pub value_in : (i : ℕ) → i < count → slice_index_or r.array i Nil ≡ slice_index_or vs i Nil
  value_in i low =
      let few : i < c.size = (let f = size_over in omega (arith, f, low)) in
      ap (λ k. slice_index_or r.array k Nil) (sym (at0 c.size i few)) ∙ r.circle.places i few

  pub round_kept : (z : Graph) → IsCells z c r.array → IsRound z c 0 count vs
  round_kept z cells = record {
    array = r.array;
    cells = cells;
    circle = r.circle;
    counted = r.counted;
  }

  pub round_set : (z : Graph) (i : ℕ) (v : Value) → i < count
      → IsCells z c (slice_set r.array i v) → IsRound z c 0 count (slice_set vs i v)
  round_set z i v low cells = record {
    array = slice_set r.array i v;
    cells = cells;
    circle = circle_set c.size r.array vs i v r.circle (omega (arith, low, r.counted));
    counted = length-set vs i v ∙ r.counted;
  }

  pub round_added : (z : Graph) (v : Value) → count < c.size
      → IsCells z c (slice_set r.array count v) → IsRound z c 0 (count + 1) (vs ++ v ∷ [])
  round_added z v low cells =
      round_more g c 0 count vs r z v low
      (subst (λ k. IsCells z c (slice_set r.array k v)) (sym (at0 c.size count low)) cells)

  pub round_closed : (z : Graph) (ws : List Value) (first last : ℕ) → first ≤ last
      → count ≡ last + 1 → IsClosed first last r.array ws → IsCells z c (slice_set ws last Nil)
      → IsRound z c 0 (count - 1) (without first vs)
  round_closed z ws first last from is closed cells = record {
    array = slice_set ws last Nil;
    cells = cells;
    circle = circle_without c.size first last r.array ws vs r.circle from
        (omega (arith, is, r.counted)) closed;
    counted =
        let l = length_without first vs (omega (arith, from, is, r.counted)) in
        omega (arith, l, is, r.counted);
  }

-- ---- a value is loaded into the spare register

module _ (s : Sight) (g : Graph) (h y z : Control) (c : Cells) (count n place i : ℕ)
    (vs : List Value) (is : i ≡ place) (low : place < count) (room : HasRoom (n + 1) h)
    (d : Shows s n h y c g (λ k. IsRound k c 0 count vs)) where
  pub load_ready : Ready s 1 y c d.graph d.holds.array
  load_ready = record {
    has = d.has;
    cells = d.holds.cells;
    room = room_after n 1 h y d.took room;
  }

  pub load_low : i < length d.holds.array
  load_low =
      place_in d.graph c count vs d.holds i
      (let f = size_over d.graph c count vs d.holds in omega (arith, f, is, low))

  abbrev Loads : Type 0
  Loads = Does s 1 y z (c.spare ∷ []) c.array d.graph
      (λ k. IsCells k c d.holds.array × (held k c.spare ≡ slice_index_or d.holds.array i Nil))

  pub load_shows : Loads → Shows s (n + 1) h z c g (λ k. IsRound k c 0 count vs)
  load_shows e =
      shows_then s n 1 (n + 1) h y z c g (λ k. IsRound k c 0 count vs)
      (λ k. IsCells k c d.holds.array × (held k c.spare ≡ slice_index_or d.holds.array i Nil))
      (λ k. IsRound k c 0 count vs) (omega arith) d e
      (λ is. round_kept d.graph c count vs d.holds e.graph is.0)

  pub load_value : (v : Value) → v ≡ slice_index_or d.holds.array i Nil
      → v ≡ slice_index_or vs place Nil
  load_value v at =
      at ∙ ap (λ k. slice_index_or d.holds.array k Nil) is
      ∙ value_in d.graph c count vs d.holds place low

  pub loaded : (x : Result Value Fault)
      → ((k : Graph) (ws : List Value) → Ready s 1 y c k ws → i < length ws → c.spare < 16
      → c.spare ≢ c.base → IsOkAnd x (λ v. (v ≡ slice_index_or ws i Nil)
      × Does s 1 y z (c.spare ∷ []) c.array k
      (λ m. IsCells m c ws × (held m c.spare ≡ slice_index_or ws i Nil))))
      → IsOkAnd x (λ v. (v ≡ slice_index_or vs place Nil)
      × Shows s (n + 1) h z c g (λ k. IsRound k c 0 count vs))
  loaded x call =
      ok_map _ _ x (λ v e. (load_value v e.0, load_shows e.1))
      (call d.graph d.holds.array load_ready load_low d.holds.cells.placed.spare
      d.holds.cells.placed.apart)

-- ---- values move up

-- the array has the values of another, closed from one place to another
pub record IsMoved (g : Graph) (c : Cells) (first to : ℕ) (vs : List Value) : Type 0 where
  pub array : List Value
  pub cells : IsCells g c array
  pub closed : IsClosed first to vs array

pub moved_none : (g : Graph) (c : Cells) (first : ℕ) (vs : List Value) → IsCells g c vs
    → IsMoved g c first first vs
moved_none g c first vs cells = record {
  array = vs;
  cells = cells;
  closed = closed_none first vs;
}

module _ (s : Sight) (g : Graph) (h y z : Control) (c : Cells) (first to from target : ℕ)
    (vs : List Value) (is : target ≡ to) (next : from ≡ to + 1) (past : first ≤ to)
    (low : to + 1 < length vs) (room : HasRoom (2 * (to - first) + 2) h)
    (d : Shows s (2 * (to - first)) h y c g (λ k. IsMoved k c first to vs)) where
  pub move_ready : Ready s 2 y c d.graph d.holds.array
  move_ready = record {
    has = d.has;
    cells = d.holds.cells;
    room = room_after (2 * (to - first)) 2 h y d.took room;
  }

  pub move_from : from < length d.holds.array
  move_from = let l = d.holds.closed.long in omega (arith, l, next, low)

  pub move_to : target < length d.holds.array
  move_to = let l = d.holds.closed.long in omega (arith, l, is, low)

  abbrev copied : List Value
  copied = slice_set d.holds.array target (slice_index_or d.holds.array from Nil)

  pub move_shows : Shows s 2 y z c d.graph (λ k. IsCells k c copied)
      → Shows s (2 * ((to + 1) - first)) h z c g (λ k. IsMoved k c first (to + 1) vs)
  move_shows e =
      shows_then s (2 * (to - first)) 2 (2 * ((to + 1) - first)) h y z c g
      (λ k. IsMoved k c first to vs) (λ k. IsCells k c copied)
      (λ k. IsMoved k c first (to + 1) vs) (omega (arith, past)) d e
      (λ cells. record {
        array = slice_set d.holds.array to (slice_index_or d.holds.array (to + 1) Nil);
        cells = subst (λ k. IsCells e.graph c (slice_set d.holds.array to (slice_index_or d.holds.array k Nil)))
            next (subst (λ k. IsCells e.graph c (slice_set d.holds.array k (slice_index_or d.holds.array from Nil))) is cells);
        closed = closed_more first to vs d.holds.array past (omega (arith, low)) d.holds.closed;
      })

  pub moved : (x : Result (Unit {0}) Fault)
      → ((k : Graph) (ws : List Value) → Ready s 2 y c k ws → from < length ws
      → target < length ws → IsOkAnd x (λ u. Shows s 2 y z c k
      (λ m. IsCells m c (slice_set ws target (slice_index_or ws from Nil)))))
      → IsOkAnd x (λ u. Shows s (2 * ((to + 1) - first)) h z c g
      (λ k. IsMoved k c first (to + 1) vs))
  moved x call =
      ok_map _ _ x (λ u e. move_shows e)
      (call d.graph d.holds.array move_ready move_from move_to)

-- the last value is gone
module _ (s : Sight) (g : Graph) (h y z : Control) (c : Cells) (count first last at : ℕ)
    (vs : List Value) (r : IsRound g c 0 count vs) (is : at ≡ last) (past : first ≤ last)
    (all : count ≡ last + 1) (room : HasRoom (2 * (count - first)) h)
    (d : Shows s (2 * (last - first)) h y c g (λ k. IsMoved k c first last r.array)) where
  pub last_ready : Ready s 2 y c d.graph d.holds.array
  last_ready = record {
    has = d.has;
    cells = d.holds.cells;
    room = room_after (2 * (last - first)) 2 h y d.took
        (room_less (2 * (count - first)) (2 * (last - first) + 2) h (omega (arith, all, past)) room);
  }

  pub last_low : at < length d.holds.array
  last_low =
      let l = d.holds.closed.long in
      let m = place_in g c count vs r last
      (let f = size_over g c count vs r in omega (arith, f, all)) in
      omega (arith, l, m, is)

  pub last_shows : Shows s 2 y z c d.graph (λ k. IsCells k c (slice_set d.holds.array at Nil))
      → Shows s (2 * (count - first)) h z c g (λ k. IsRound k c 0 (count - 1) (without first vs))
  last_shows e =
      shows_then s (2 * (last - first)) 2 (2 * (count - first)) h y z c g
      (λ k. IsMoved k c first last r.array)
      (λ k. IsCells k c (slice_set d.holds.array at Nil))
      (λ k. IsRound k c 0 (count - 1) (without first vs)) (omega (arith, all, past)) d e
      (λ cells. round_closed g c count vs r e.graph d.holds.array first last past all
      d.holds.closed (subst (λ k. IsCells e.graph c (slice_set d.holds.array k Nil)) is cells))

  pub closed : (x : Result (Unit {0}) Fault)
      → ((k : Graph) (ws : List Value) → Ready s 2 y c k ws → at < length ws
      → IsOkAnd x (λ u. Shows s 2 y z c k (λ m. IsCells m c (slice_set ws at Nil))))
      → IsOkAnd x (λ u. Shows s (2 * (count - first)) h z c g
      (λ k. IsRound k c 0 (count - 1) (without first vs)))
  closed x call =
      ok_map _ _ x (λ u e. last_shows e) (call d.graph d.holds.array last_ready last_low)
