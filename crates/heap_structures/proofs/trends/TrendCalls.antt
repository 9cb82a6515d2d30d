-- The calls of a trend, put together.
use Rattle.std.proofs.Common.{◌≡◌, ℕ, ◌+◌, ◌-◌, ◌*◌, ◌^◌, ◌<◌, ◌≤◌, Option, Result, Ok, Err, List, [], ◌∷◌, ◌++◌, length, drop, sym, refl, ap, ◌∙◌, subst, arith}
use Rattle.std.specs.Prelude.{MatchResult}
use Rattle.std.proofs.lemmas.List.{length_push}
use Rattle.block_store.specs.declared.Config.{Config}
use Rattle.control_heap.specs.Controls.{Control}
use Rattle.control_heap.specs.declared.faults.Fault.{Fault}
use Rattle.control_heap.specs.declared.faults.Fault.TheVariants as faults
use Rattle.heap_structures.specs.declared.alarms.Alarm.{Alarm}
use Rattle.heap_structures.specs.declared.trend.Sample.{Sample}
use Rattle.heap_structures.specs.declared.trend.Trend.{Trend}
use Rattle.heap_structures.specs.Circles.{last_of}
use Rattle.heap_structures.specs.Heaps.{Always, Does, HasRoom, Stops}
use Rattle.heap_structures.specs.Alarms.{IsAlarms, Shows, alarm_at}
use Rattle.heap_structures.specs.Records.{IsRecords, first_of, records_cells}
use Rattle.heap_structures.specs.Rings.{IsNoTarget}
use Rattle.heap_structures.specs.Trends.{IsTrend, Lays, alarms_from, number_of, trend_size, values_in, with_alarm}
use Rattle.heap_structures.proofs.trends.TrendHeaps.{alarms_are, read, right, state}
use Rattle.heap_structures.proofs.rings.Rounds.{stops_as}
use Rattle.heap_structures.proofs.trends.TrendLists.{alarms_next, left, values_more}

module _ (t : Trend) (c : Config) (n most : ℕ) (xs : List Sample) (is : IsTrend t c n most xs) where
  abbrev ys : List ℕ
  ys = values_in (last_of n xs)

  -- fewer samples were pushed than there are numbers of alarms
  pub low : (m : ℕ) → HasRoom m t.heap → t.pushed < 2 ^ 60
  low m room = omega (arith, is.pushed, is.lays.objects, room.objects)

  pub some : 1 ≤ n
  some = omega (arith, is.lays.holds.some)

  -- a push has asked for room by the size that the trend knows
  pub room_asked : (m : ℕ) → m ≡ trend_size t → HasRoom (3 * m + 7) t.heap
      → HasRoom (3 * n + 7) t.heap
  room_asked m e room =
      subst (λ k. HasRoom (3 * k + 7) t.heap) (e ∙ is.lays.laid.ring_place.2) room

  -- more commands may have been done
  pub widened : (all : ℕ) → most ≤ all → IsTrend t c n all xs
  widened all more = record {
    lays = record {
      graph = is.lays.graph;
      has = is.lays.has;
      laid = is.lays.laid;
      holds = is.lays.holds;
      config = is.lays.config;
      commands = omega (arith, is.lays.commands, more);
      objects = is.lays.objects;
      units = is.lays.units;
    };
    pushed = is.pushed;
  }

  -- a sample more was pushed
  pub one_more : (x : Sample) (y : Trend) (i j k : ℕ) (given : i ≡ length xs) → j ≡ i → k ≡ i + 1
      → Lays y c n (most + 4 + (2 * n + 1) + (n + 2)) (length xs + 1)
      (last_of n (ys ++ x.value ∷ [])) (left n some xs i given ++ with_alarm x.alarm j [])
      → IsTrend (record { heap = y.heap; numbers = y.numbers; alarms = y.alarms; pushed = k }) c n
      (most + (3 * n + 7)) (xs ++ x ∷ [])
  one_more x y i j k given same more l =
      let all : List Sample = xs ++ x ∷ [] in
      let e : most + 4 + (2 * n + 1) + (n + 2) ≡ most + (3 * n + 7) = omega arith in
      let alarms = ap (λ q. left n some xs i given ++ with_alarm x.alarm q []) same
      ∙ alarms_next n some xs i given x in
      let here : Lays y c n (most + (3 * n + 7)) (length all) (values_in (last_of n all))
      (alarms_from (length all - n) (last_of n all)) =
      subst (λ (p : ℕ × ℕ × List ℕ × List Alarm). Lays y c n p.0 p.1 p.2 p.3)
      (λ q. (e q, sym (length_push xs x) q, values_more n xs x q, alarms q)) l in
      record {
        lays = record {
          graph = here.graph;
          has = here.has;
          laid = here.laid;
          holds = here.holds;
          config = here.config;
          commands = here.commands;
          objects = here.objects;
          units = here.units;
        };
        pushed = more ∙ ap (λ q. q + 1) given ∙ sym (length_push xs x);
      }

  -- a call had no room in the life for its commands, and did nothing
  pub stopped : (m : ℕ) (z : Control) (f : Fault) → Stops m ⊥ t.heap z f
      → (f ≡ faults.NoLifeLeft)
      × (record { heap = z; numbers = t.numbers; alarms = t.alarms; pushed = t.pushed } ≡ t)
      × ¬ HasRoom m t.heap
  stopped m z faults.NoLifeLeft stop = (
    refl,
    (λ q. record {
      heap = stop.1 q;
      numbers = t.numbers;
      alarms = t.alarms;
      pushed = t.pushed;
    }),
    stop.0,
  )
  stopped m z faults.OutOfBounds stop = absurd stop.0
  stopped m z (faults.Full k) stop = absurd stop
  stopped m z faults.Null stop = absurd stop
  stopped m z faults.Kind stop = absurd stop
  stopped m z faults.Range stop = absurd stop

  -- a value was read
  pub gets : (z : Control) (i : ℕ) (x : Result (Option ℕ) Fault)
      → MatchResult x
      (λ v. Does Always 2 t.heap z (1 ∷ (records_cells t.numbers).spare ∷ [])
      (records_cells t.numbers).array is.lays.graph
      (λ k. IsRecords k t.numbers ys × (v ≡ first_of (drop i ys))))
      (λ f. Stops 2 (IsNoTarget (records_cells t.numbers) 1) t.heap z f × Unit {0})
      → MatchResult x
      (λ v. (v ≡ first_of (drop i ys))
      × IsTrend (record { heap = z; numbers = t.numbers; alarms = t.alarms; pushed = t.pushed }) c n
      (most + 2) xs)
      (λ f. (f ≡ faults.NoLifeLeft)
      × (record { heap = z; numbers = t.numbers; alarms = t.alarms; pushed = t.pushed } ≡ t)
      × ¬ HasRoom 2 t.heap)
  gets z i (Ok v) d =
      (d.holds.1, record { lays = read t (state is.lays) z _ d; pushed = is.pushed })
  gets z i (Err f) stop =
      stopped 2 z f
      (stops_as 2 _ ⊥ t.heap z f (λ bad. right t (state is.lays) bad) stop.0)

  -- an alarm was read
  pub reads : (z : Control) (a : Option Alarm) (i : ℕ)
      → Shows Always 1 t.heap z t.alarms.cells is.lays.graph
      (λ k. (a ≡ alarm_at i (alarms_from (length xs - n) (last_of n xs)))
      × IsAlarms k t.alarms (alarms_from (length xs - n) (last_of n xs)))
      → (number_of a ≡ number_of (alarm_at i (alarms_from (length xs - n) (last_of n xs))))
      × IsTrend (record { heap = z; numbers = t.numbers; alarms = t.alarms; pushed = t.pushed }) c n
      (most + 1) xs
  reads z a i d = (
    ap number_of d.holds.0,
    record {
      lays = (alarms_are t (state is.lays) 1 z t.alarms refl _ _ d (λ k by. by.1)).0;
      pushed = is.pushed;
    },
  )
