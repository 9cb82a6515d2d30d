-- What the calls of a list of alarms do.
use Rattle.std.proofs.Common.{◌≡◌, ℕ, ◌+◌, ◌-◌, ◌*◌, ◌<◌, ◌≤◌, true, false, Result, Ok, Err, List, [], ◌∷◌, ◌++◌, length, map, slice_set, sym, subst, arith}
use Rattle.std.specs.Prelude.{IsOkAnd}
use Rattle.std.proofs.lemmas.List.{length-map}
use Rattle.block_store.specs.declared.Value.TheVariants.{Int}
use Rattle.never_heap.specs.Graphs.{Graph}
use Rattle.control_heap.specs.Controls.{Control}
use Rattle.control_heap.specs.declared.faults.Fault.{Fault}
use Rattle.heap_structures.specs.declared.cells.Cells.{Cells}
use Rattle.heap_structures.specs.declared.alarms.Alarm.{Alarm}
use Rattle.heap_structures.specs.declared.alarms.AlarmList.{AlarmList}
use Rattle.heap_structures.specs.declared.alarms.Raised.{Raised}
use Rattle.heap_structures.specs.Alarms.{IsAlarms, IsFound, Raises, Shows, ShowsOrStops, acknowledged, cleared, raised, stands, value_of, without}
use Rattle.heap_structures.specs.Cells.{IsCells}
use Rattle.heap_structures.specs.Heaps.{HasRoom, Ready, Sight}
use Rattle.heap_structures.specs.Rings.{IsRound}
use Rattle.heap_structures.proofs.cell_arrays.Answered.{room_after, room_less}
use Rattle.heap_structures.proofs.alarm_lists.AlarmLists.{found_acknowledged, found_cleared, found_low, found_stands, none_acknowledged, none_cleared, raised_values}
use Rattle.heap_structures.proofs.alarm_lists.AlarmMoves.{place_in, round_added, round_set, shows_as, shows_then, size_over}

-- the walk has room for a command for each alarm
pub walk_room : (g : Graph) (l : AlarmList) (xs : List Alarm) → IsAlarms g l xs → (n : ℕ)
    (h : Control) → l.cells.size ≤ n → HasRoom n h → HasRoom l.count h
walk_room g l xs r n h less room =
    let o = size_over g l.cells l.count (map value_of xs) r in
    room_less n l.count h (omega (arith, o, less)) room

module _ (s : Sight) (g : Graph) (h z : Control) (l : AlarmList) (xs : List Alarm)
    (r : IsAlarms g l xs) (number i : ℕ) (is : i ≡ l.count) where
  pub counted : length xs ≡ l.count
  counted = let n = length-map xs value_of in omega (arith, n, r.counted)

  -- an alarm is written behind the last
  pub add_low : l.count < l.cells.size → i < length r.array
  add_low low = place_in g l.cells l.count (map value_of xs) r i (omega (arith, is, low))

  pub added : (new : AlarmList) → new.cells ≡ l.cells → new.count ≡ l.count + 1
      → stands number xs ≡ false → l.count < l.cells.size
      → Shows s 2 h z l.cells g (λ k. IsCells k l.cells (slice_set r.array i (Int (2 * number))))
      → Shows s 2 h z l.cells g (λ k. (stands number xs ≡ false) × (length xs < l.cells.size)
      × IsAlarms k new (raised number xs))
  added new cells count free low d =
      shows_as s 2 2 h z l.cells g
      (λ k. IsCells k l.cells (slice_set r.array i (Int (2 * number))))
      (λ k. (stands number xs ≡ false) × (length xs < l.cells.size)
      × IsAlarms k new (raised number xs)) (omega arith) d
      (λ has. (
        free,
        omega (arith, low, counted),
        subst (λ ws. IsRound d.graph new.cells 0 new.count ws) (sym (raised_values number xs))
            (subst (λ n. IsRound d.graph new.cells 0 n (map value_of xs ++ Int (2 * number) ∷ []))
            (sym count) (subst (λ (c : Cells). IsRound d.graph c 0 (l.count + 1)
            (map value_of xs ++ Int (2 * number) ∷ [])) (sym cells)
            (round_added g l.cells l.count (map value_of xs) r d.graph (Int (2 * number)) low
            (subst (λ k. IsCells d.graph l.cells (slice_set r.array k (Int (2 * number)))) is has)))),
      ))

-- ---- after the walk

module _ (s : Sight) (g : Graph) (h y z : Control) (l : AlarmList) (xs : List Alarm)
    (number place : ℕ) (f : IsFound number place xs)
    (d : Shows s (place + 1) h y l.cells g (λ k. IsAlarms k l xs)) where
  pub found_in : place < l.count
  found_in =
      let n = length-map xs value_of in
      let m = found_low number place xs f in
      let same = d.holds.counted in
      omega (arith, n, m, same)

  pub found_size : place < l.cells.size
  found_size =
      let o = size_over d.graph l.cells l.count (map value_of xs) d.holds in
      omega (arith, o, found_in)

  pub found_ready : HasRoom (l.cells.size + 2) h → Ready s 2 y l.cells d.graph d.holds.array
  found_ready room = record {
    has = d.has;
    cells = d.holds.cells;
    room = room_after (place + 1) 2 h y d.took
        (room_less (l.cells.size + 2) ((place + 1) + 2) h (omega (arith, found_size)) room);
  }

  pub found_place : (i : ℕ) → i ≡ place → i < length d.holds.array
  found_place i is =
      place_in d.graph l.cells l.count (map value_of xs) d.holds i (omega (arith, is, found_size))

  pub still_stands : Shows s (l.cells.size + 2) h y l.cells g
      (λ k. (stands number xs ≡ true) × IsAlarms k l xs)
  still_stands =
      shows_as s (place + 1) (l.cells.size + 2) h y l.cells g (λ k. IsAlarms k l xs)
      (λ k. (stands number xs ≡ true) × IsAlarms k l xs) (omega (arith, found_size)) d
      (λ is. (found_stands number place xs f, is))

  pub written : (i : ℕ) → i ≡ place → Shows s 2 y z l.cells d.graph
      (λ k. IsCells k l.cells (slice_set d.holds.array i (Int (2 * number + 1))))
      → Shows s (l.cells.size + 2) h z l.cells g
      (λ k. (true ≡ stands number xs) × IsAlarms k l (acknowledged number xs))
  written i is e =
      shows_then s (place + 1) 2 (l.cells.size + 2) h y z l.cells g (λ k. IsAlarms k l xs)
      (λ k. IsCells k l.cells (slice_set d.holds.array i (Int (2 * number + 1))))
      (λ k. (true ≡ stands number xs) × IsAlarms k l (acknowledged number xs))
      (omega (arith, found_size)) d e
      (λ has. (
        sym (found_stands number place xs f),
        subst (λ ws. IsRound e.graph l.cells 0 l.count ws)
            (sym (found_acknowledged number place xs f))
            (round_set d.graph l.cells l.count (map value_of xs) d.holds e.graph place
            (Int (2 * number + 1)) found_in
            (subst (λ k. IsCells e.graph l.cells (slice_set d.holds.array k (Int (2 * number + 1)))) is has)),
      ))

  pub close_room : HasRoom (2 * l.cells.size + 1) h → HasRoom (2 * (l.count - place)) y
  close_room room =
      let o = size_over d.graph l.cells l.count (map value_of xs) d.holds in
      room_after (place + 1) (2 * (l.count - place)) h y d.took
      (room_less (2 * l.cells.size + 1) ((place + 1) + 2 * (l.count - place)) h
      (omega (arith, o, found_in)) room)

  pub closes : (new : AlarmList) → new.cells ≡ l.cells → new.count ≡ l.count - 1
      → Shows s (2 * (l.count - place)) y z l.cells d.graph
      (λ k. IsRound k l.cells 0 (l.count - 1) (without place (map value_of xs)))
      → Shows s (2 * l.cells.size + 1) h z l.cells g
      (λ k. (true ≡ stands number xs) × IsAlarms k new (cleared number xs))
  closes new cells count e =
      let o = size_over d.graph l.cells l.count (map value_of xs) d.holds in
      shows_then s (place + 1) (2 * (l.count - place)) (2 * l.cells.size + 1) h y z l.cells g
      (λ k. IsAlarms k l xs)
      (λ k. IsRound k l.cells 0 (l.count - 1) (without place (map value_of xs)))
      (λ k. (true ≡ stands number xs) × IsAlarms k new (cleared number xs))
      (omega (arith, o, found_in)) d e
      (λ has. (
        sym (found_stands number place xs f),
        subst (λ ws. IsRound e.graph new.cells 0 new.count ws)
            (sym (found_cleared number place xs f))
            (subst (λ n. IsRound e.graph new.cells 0 n (without place (map value_of xs)))
            (sym count) (subst (λ (c : Cells). IsRound e.graph c 0 (l.count - 1)
            (without place (map value_of xs))) (sym cells) has)),
      ))

module _ (s : Sight) (g : Graph) (h y z : Control) (l : AlarmList) (xs : List Alarm) (number : ℕ)
    (free : stands number xs ≡ false) (d : Shows s l.count h y l.cells g (λ k. IsAlarms k l xs)) where
  pub over : l.count ≤ l.cells.size
  over = size_over d.graph l.cells l.count (map value_of xs) d.holds

  pub add_room : HasRoom (l.cells.size + 2) h → HasRoom 2 y
  add_room room =
      room_after l.count 2 h y d.took
      (room_less (l.cells.size + 2) (l.count + 2) h (omega (arith, over)) room)

  pub raises : (Bad Same : Type 0) (new : AlarmList) (x : Result Raised Fault)
      → IsOkAnd x (λ a. Shows s 2 y z l.cells d.graph
      (λ k. Raises l.cells.size (IsAlarms k new) number xs a))
      → ShowsOrStops s (l.cells.size + 2) h z l g
      (λ a k. Raises l.cells.size (IsAlarms k new) number xs a) Bad Same x
  raises Bad Same new (Ok a) e =
      shows_then s l.count 2 (l.cells.size + 2) h y z l.cells g (λ k. IsAlarms k l xs)
      (λ k. Raises l.cells.size (IsAlarms k new) number xs a)
      (λ k. Raises l.cells.size (IsAlarms k new) number xs a) (omega (arith, over)) d e
      (λ is. is)
  raises Bad Same new (Err f) e = absurd e

  pub not_acknowledged : Shows s (l.cells.size + 2) h y l.cells g
      (λ k. (false ≡ stands number xs) × IsAlarms k l (acknowledged number xs))
  not_acknowledged =
      shows_as s l.count (l.cells.size + 2) h y l.cells g (λ k. IsAlarms k l xs)
      (λ k. (false ≡ stands number xs) × IsAlarms k l (acknowledged number xs))
      (omega (arith, over)) d
      (λ is. (
        sym free,
        subst (λ ws. IsAlarms d.graph l ws) (sym (none_acknowledged number xs free)) is,
      ))

  pub not_cleared : Shows s (2 * l.cells.size + 1) h y l.cells g
      (λ k. (false ≡ stands number xs) × IsAlarms k l (cleared number xs))
  not_cleared =
      shows_as s l.count (2 * l.cells.size + 1) h y l.cells g (λ k. IsAlarms k l xs)
      (λ k. (false ≡ stands number xs) × IsAlarms k l (cleared number xs))
      (omega (arith, over)) d
      (λ is. (
        sym free,
        subst (λ ws. IsAlarms d.graph l ws) (sym (none_cleared number xs free)) is,
      ))
