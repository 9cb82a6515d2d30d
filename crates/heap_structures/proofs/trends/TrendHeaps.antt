-- What the calls of a trend do to its heap: they are not refused, and few blocks are live.
use Rattle.std.proofs.Common.{◌≡◌, ◌≢◌, ℕ, ◌+◌, ◌-◌, ◌*◌, ◌^◌, ◌<◌, ◌≤◌, max, inl, inr, Bool, true, false, Result, Ok, Err, List, [], ◌∷◌, ◌++◌, length, map, sym, refl, ap, ◌∙◌, subst, arith}
use Rattle.std.specs.Prelude.{IsOkAnd, MatchResult}
use Rattle.std.specs.List.{sum_by}
use Rattle.std.proofs.lemmas.Bool.{both_ways, cases_eq}
use Rattle.std.proofs.lemmas.List.{get_or_past, get_or-replicate}
use Rattle.block_store.specs.declared.Config.{Config}
use Rattle.block_store.specs.declared.Name.{Name}
use Rattle.block_store.specs.declared.Value.{Value}
use Rattle.block_store.specs.declared.Value.TheVariants.{Nil}
use Rattle.block_store.specs.declared.Width.{Width}
use Rattle.block_store.specs.declared.Width.TheVariants.{Four, Eight}
use Rattle.rate_plan.specs.Rates.{IsRate}
use Rattle.object_lists.specs.Records.{record_blocks}
use Rattle.array_trees.specs.Trees.{array_blocks, tree}
use Rattle.never_heap.specs.declared.Command.TheVariants.{Arr}
use Rattle.never_heap.specs.Bounds.{IsCommandInBounds}
use Rattle.never_heap.specs.Graphs.{Graph, Object, ObjectKind, Record, Array, has_name, object_of, shared_name}
use Rattle.never_heap.specs.LiveBlocks.{blocks_of_kind, live_blocks, object_blocks}
use Rattle.control_heap.specs.Controls.{Control, HasLeft, units}
use Rattle.control_heap.specs.declared.faults.Fault.{Fault}
use Rattle.control_heap.specs.declared.faults.Fault.TheVariants as faults
use Rattle.control_heap.specs.graph_view.ShownGraph.{HasMetNoFull}
use Rattle.heap_structures.specs.declared.alarms.Alarm.{Alarm}
use Rattle.heap_structures.specs.declared.alarms.AlarmList.{AlarmList}
use Rattle.heap_structures.specs.declared.alarms.Raised.{Raised}
use Rattle.heap_structures.specs.declared.alarms.Raised.TheVariants as raisings
use Rattle.heap_structures.specs.declared.cells.Cells.{Cells}
use Rattle.heap_structures.specs.declared.records.Records.{Records}
use Rattle.heap_structures.specs.declared.trend.Trend.{Trend}
use Rattle.heap_structures.specs.Alarms.{IsAlarms, Raises, Shows, ShowsOrStops, cleared, stands, value_of}
use Rattle.heap_structures.specs.Cells.{HasPlace, IsCells, Saves, Spares, held}
use Rattle.heap_structures.specs.Circles.{last_of}
use Rattle.heap_structures.specs.Heaps.{Always, Does, HasRoom, Took}
use Rattle.heap_structures.specs.Records.{Grows, HasBox, IsRecords, MayPush, NotPushed, ReferOnly}
use Rattle.heap_structures.specs.Trends.{HoldsTrend, IsLaid, Lays, LaysAfter, LeavesRoom, State, with_alarm}
use Rattle.heap_structures.proofs.cell_arrays.Answered.{room_after}
use Rattle.heap_structures.proofs.cell_arrays.CellMoves.{saves_of}
use Rattle.heap_structures.proofs.rings.NumberRings.{alarms_plain, blocks_by, few_live, few_numbers, is_target, nils_plain, one_field, plain_by, records_stay, refer_by}
use Rattle.heap_structures.proofs.cell_arrays.NoAllocation.{lone_of}
use Rattle.heap_structures.proofs.rings.Rounds.{not_stopped, round_saved}

-- ---- the blocks of an object

pub array_one : (w : Width) → array_blocks w 1 ≡ 1
unfolding tree
array_one Four = refl
array_one Eight = refl

most_of : (w : Width) (n : ℕ) (k : ObjectKind)
    → blocks_of_kind w k n ≤ max (record_blocks w n) (array_blocks w n)
most_of w n Record = omega arith
most_of w n Array = omega arith

-- a call that does not fail
pub done : {T E : Type 0} {P Q : T → Type 0} {F : E → Type 0} (x : Result T E) → MatchResult x P F
    → ((e : E) → F e → ⊥) → ((v : T) → P v → Q v) → IsOkAnd x Q
done (Ok v) p fails gives = gives v p
done (Err e) p fails gives = fails e p

module _ (c : Config) (n : ℕ) where
  -- ---- what stays

  module _ (g : Graph) (r : Records) (l : AlarmList) (ys : List ℕ) (ls : List Alarm)
      (laid : IsLaid c n g r l ys ls) where
    pub moved : (a : Name) (z : Graph) → Saves (1 ∷ 2 ∷ []) a g z → a ≢ shared_name 1
        → (q : Records) → q.ring.cells ≡ r.ring.cells → (m : AlarmList) → m.cells ≡ l.cells
        → (zs : List ℕ) (ms : List Alarm) → IsRecords z q zs → IsAlarms z m ms
        → IsLaid c n z q m zs ms
    moved a z s apart q same m also zs ms readings alarms = record {
      ring_place = subst (λ k. HasPlace k 3 2 n) (sym same) laid.ring_place;
      alarm_place = subst (λ k. HasPlace k 4 1 n) (sym also) laid.alarm_place;
      apart = λ e. laid.apart
          (sym (ap (λ (k : Cells). k.array) same) ∙ e ∙ ap (λ (k : Cells). k.array) also);
      ring_other = λ e. laid.ring_other (sym (ap (λ (k : Cells). k.array) same) ∙ e);
      alarms_other = λ e. laid.alarms_other (sym (ap (λ (k : Cells). k.array) also) ∙ e);
      zero = s.registers 0
          ((λ e. absurd (omega (arith, e))), ((λ e. absurd (omega (arith, e))), tt)) ∙ laid.zero;
      named = s.names (shared_name 1) laid.named;
      shared = s.objects (shared_name 1) laid.named (λ e. apart (sym e)) ∙ laid.shared;
      plain = λ i b none e.
          laid.plain i b none (sym (s.registers i (none.1.0, (none.1.1.0, tt))) ∙ e);
      readings = readings;
      alarms = alarms;
    }

    pub alarms_stay : (a : Name) (z : Graph) → Saves (1 ∷ 2 ∷ []) a g z → l.cells.array ≢ a
        → IsAlarms z l ls
    alarms_stay a z s apart =
        round_saved g l.cells 0 l.count (map value_of ls) laid.alarms (1 ∷ 2 ∷ []) a z s apart (
          (λ e. absurd (omega (arith, laid.alarm_place.0, e))),
          ((λ e. absurd (omega (arith, laid.alarm_place.0, e))), tt),
        )

    pub readings_stay : (a : Name) (z : Graph) → Spares (1 ∷ []) a g z
        → length (object_of g a).fields ≢ 1 → r.ring.cells.array ≢ a → IsRecords z r ys
    readings_stay a z s long apart =
        records_stay (1 ∷ []) a g z r ys s long apart
        ((λ e. absurd (omega (arith, laid.ring_place.0, e))), tt)
        ((λ e. absurd (omega (arith, laid.ring_place.1, e))), tt) laid.readings

    -- ---- few blocks are live when an object is made

    module _ (single : length g.mutators ≡ 1) (k : Graph) (a : Name) (new : HasBox g k 1 a) where
      fresh : (b : Name) → has_name g b ≡ true → b ≢ a
      fresh b has e = both_ways (has_name g a) new.fresh (ap (has_name g) (sym e) ∙ has)

      now : IsLaid c n k r l ys ls
      now =
          let s = saves_of (1 ∷ []) (1 ∷ 2 ∷ []) a g k (λ q none. (none.0, tt)) new.spares in
          moved a k s (λ e. fresh (shared_name 1) laid.named (sym e)) r refl l refl ys ls
          (readings_stay a k new.spares
          (λ one. both_ways (has_name g a) new.fresh
          (Rattle.never_heap.proofs.StepChanges.has_field g a 0 (omega (arith, one))))
          (fresh r.ring.cells.array laid.readings.ring.cells.named))
          (alarms_stay a k s (fresh l.cells.array laid.alarms.cells.named))

      abbrev others : List Name
      others = shared_name 1 ∷ a ∷ l.cells.array ∷ []

      refer : ReferOnly k (r.ring.cells.array ∷ others)
      refer q b e =
          let readings = ap (held k) (sym now.ring_place.0) ∙ now.readings.ring.cells.base in
          let alarms = ap (held k) (sym now.alarm_place.0) ∙ now.alarms.cells.base in
          refer_by k q b ((3, r.ring.cells.array) ∷ (0, shared_name 1) ∷ (1, a)
          ∷ (4, l.cells.array) ∷ [])
          (readings, (now.zero, (new.register, (alarms, tt))))
          (λ none is. elim (cases_eq q 2) [
            | inl two ↦ now.readings.free b (ap (held k) (now.ring_place.1 ∙ sym two) ∙ is)
            | inr n2 ↦ now.plain q b (none.1.0, (none.1.1.0, (n2, (none.0, (none.1.1.1.0, tt)))))
                is
          ]) e

      pub few_blocks : HoldsTrend c n → live_blocks c.width k ≤ c.live
      few_blocks holds =
          let w : Width = c.width in
          let f : Name → ℕ = λ b. object_blocks w (object_of k b) in
          let most : ℕ = max (record_blocks w n) (array_blocks w n) in
          let array : (p : Cells) (vs : List Value) → IsCells k p vs → p.size ≡ n
          → f p.array ≤ most =
          λ p vs is size. blocks_by w k p.array n most (ap length is.values ∙ is.size ∙ size)
          (most_of w n) in
          let by = few_live w k r ys others (new.threads ∙ single) now.readings refer
          (plain_by k others (
            nils_plain k (shared_name 1) c.shared (ap (λ (o : Object). o.fields) now.shared),
            (
              nils_plain k a 1 new.fields,
              (alarms_plain k l ls now.alarms, tt),
            ),
          )) in
          let three : sum_by f others ≡ ((0 + f (shared_name 1)) + f a) + f l.cells.array = refl in
          let one : f (shared_name 1) ≡ array_blocks w c.shared =
          ap (object_blocks w) now.shared
          ∙ ap (array_blocks w) (Rattle.std.proofs.lemmas.List.length-replicate c.shared Nil) in
          let two = one_field w k a Nil new.fields in
          let list = array l.cells _ now.alarms.cells now.alarm_place.2 in
          let ring = array r.ring.cells _ now.readings.ring.cells now.ring_place.2 in
          let ends = ap (Rattle.block_store.specs.Registers.registers_end w) holds.can.single in
          omega (
            arith,
            by,
            three,
            one,
            two,
            list,
            ring,
            ends,
            few_numbers k r ys now.readings,
            now.ring_place.2,
            holds.live,
          )

-- ---- the calls

abbrev pub state : {t : Trend} {c : Config} {n most made : ℕ} {ys : List ℕ} {ls : List Alarm}
    → Lays t c n most made ys ls → State t
state {t} {c} {n} {most} {made} {ys} {ls} s = record {
  config = c;
  size = n;
  most = most;
  made = made;
  ys = ys;
  ls = ls;
  lays = s;
}

module _ (t : Trend) (s : State t) where
  abbrev g : Graph
  g = s.lays.graph

  abbrev c : Cells
  c = t.numbers.ring.cells

  abbrev n : ℕ
  n = s.size

  abbrev laid : IsLaid s.config s.size g t.numbers t.alarms s.ys s.ls
  laid = s.lays.laid

  after : (m all : ℕ) → s.most + m ≤ all → (z : Control) (r : Records) (l : AlarmList)
      (given : ℕ) (zs : List ℕ) (ms : List Alarm) (k : Graph) → HasMetNoFull z k → Took m t.heap z
      → IsLaid s.config n k r l zs ms
      → Lays (record { heap = z; numbers = r; alarms = l; pushed = given }) s.config n all s.made zs
      ms
  after m all most z r l given zs ms k has took kept = record {
    graph = k;
    has = has;
    laid = kept;
    holds = s.lays.holds;
    config = took.config ∙ s.lays.config;
    commands = omega (arith, took.commands, s.lays.commands, most);
    objects = took.objects ∙ s.lays.objects;
    units = λ rate is. took.units ∙ s.lays.units rate is;
  }

  -- nothing was done
  pub kept : (m : ℕ) → Lays t s.config n (s.most + m) s.made s.ys s.ls × LeavesRoom m t.heap t.heap
  kept m = (
    after 0 (s.most + m) (omega arith) t.heap t.numbers t.alarms t.pushed s.ys s.ls g s.lays.has
        (record { config = refl; commands = omega arith; objects = refl; units = refl }) laid,
    λ k room. record {
      commands = omega (arith, room.commands);
      objects = room.objects;
      units = room.units;
    },
  )

  -- a call has changed the list of alarms alone
  pub alarms_are : (m : ℕ) (z : Control) (l : AlarmList) → l.cells ≡ t.alarms.cells
      → (ms : List Alarm) (Q : Graph → Type 0) → Shows Always m t.heap z t.alarms.cells g Q
      → ((k : Graph) → Q k → IsAlarms k l ms)
      → Lays (record { heap = z; numbers = t.numbers; alarms = l; pushed = t.pushed }) s.config n
      (s.most + m) s.made s.ys ms × LeavesRoom m t.heap z
  alarms_are m z l same ms Q d shows =
      let a : Name = t.alarms.cells.array in
      let cells = laid.alarms.cells in
      let own : Spares (1 ∷ []) a g d.graph =
      subst (λ q. Spares (q ∷ []) a g d.graph) laid.alarm_place.1 d.spares in (
        after m (s.most + m) (omega arith) z t.numbers l t.pushed s.ys ms d.graph d.has d.took
            (moved s.config n g t.numbers t.alarms s.ys s.ls laid a d.graph
            (saves_of (1 ∷ []) (1 ∷ 2 ∷ []) a g d.graph (λ q none. (none.0, tt)) own)
            laid.alarms_other t.numbers refl l same s.ys ms
            (readings_stay s.config n g t.numbers t.alarms s.ys s.ls laid a d.graph own
            (λ one. absurd (omega (
              arith,
              one,
              ap length cells.values,
              cells.size,
              laid.alarm_place.2,
              s.lays.holds.some,
            ))) laid.apart) (shows d.graph d.holds)),
        λ k more. room_after m k t.heap z d.took more,
      )

  -- a call on the list of alarms
  pub alarmed : {T : Type 0} (m : ℕ) → HasRoom m t.heap → (z : Control) (l : AlarmList)
      → l.cells ≡ t.alarms.cells → (Q : T → Graph → Type 0) (Bad Same : Type 0)
      (ms : List Alarm) → ¬ Bad → ((v : T) (k : Graph) → Q v k → IsAlarms k l ms)
      → (x : Result T Fault) → ShowsOrStops Always m t.heap z t.alarms g Q Bad Same x
      → IsOkAnd x (λ v. Lays (record { heap = z; numbers = t.numbers; alarms = l; pushed = t.pushed })
      s.config n (s.most + m) s.made s.ys ms × LeavesRoom m t.heap z)
  alarmed m room z l same Q Bad Same ms right shows x call =
      done x call (λ f stop. not_stopped m Bad t.heap z f room right stop.0)
      (λ v d. alarms_are m z l same ms (Q v) d (shows v))

  -- an alarm is cleared
  pub cleared_one : (m : ℕ) → m ≡ n → HasRoom (2 * n + 1) t.heap → t.pushed < 2 ^ 60
      → (z : Control) (l : AlarmList) → l.cells ≡ t.alarms.cells → (Same : Type 0)
      (x : Result Bool Fault)
      → ShowsOrStops Always (2 * t.alarms.cells.size + 1) t.heap z t.alarms g
      (λ r k. (r ≡ stands (t.pushed - m) s.ls) × IsAlarms k l (cleared (t.pushed - m) s.ls))
      (2 ^ 61 ≤ t.pushed - m) Same x
      → IsOkAnd x (λ r. Lays (record { heap = z; numbers = t.numbers; alarms = l; pushed = t.pushed })
      s.config n (s.most + (2 * n + 1)) s.made s.ys (cleared (t.pushed - n) s.ls)
      × LeavesRoom (2 * n + 1) t.heap z)
  cleared_one m e room low z l same Same x call =
      alarmed (2 * n + 1) room z l same
      (λ r k. (r ≡ stands (t.pushed - m) s.ls) × IsAlarms k l (cleared (t.pushed - m) s.ls))
      (2 ^ 61 ≤ t.pushed - m) Same (cleared (t.pushed - n) s.ls)
      (λ bad. absurd (omega (arith, bad, low)))
      (λ r k by. subst (λ q. IsAlarms k l (cleared (t.pushed - q) s.ls)) e by.1) x
      (subst (λ q. ShowsOrStops Always (2 * q + 1) t.heap z t.alarms g
      (λ r k. (r ≡ stands (t.pushed - m) s.ls) × IsAlarms k l (cleared (t.pushed - m) s.ls))
      (2 ^ 61 ≤ t.pushed - m) Same x) laid.alarm_place.2 call)

  -- an alarm that did not stand is raised, where there is room
  pub raised : (m : ℕ) → m < 2 ^ 60 → HasRoom (n + 2) t.heap → stands m s.ls ≡ false
      → length s.ls < n → (z : Control) (l : AlarmList) → l.cells ≡ t.alarms.cells
      → (Same : Type 0) (x : Result Raised Fault)
      → ShowsOrStops Always (t.alarms.cells.size + 2) t.heap z t.alarms g
      (λ r k. Raises t.alarms.cells.size (IsAlarms k l) m s.ls r) (2 ^ 61 ≤ m) Same x
      → IsOkAnd x (λ r. Lays (record { heap = z; numbers = t.numbers; alarms = l; pushed = t.pushed })
      s.config n (s.most + (n + 2)) s.made s.ys (s.ls ++ with_alarm true m [])
      × LeavesRoom (n + 2) t.heap z)
  raised m low room none few z l same Same x call =
      let size = laid.alarm_place.2 in
      alarmed (n + 2) room z l same
      (λ r k. Raises t.alarms.cells.size (IsAlarms k l) m s.ls r) (2 ^ 61 ≤ m) Same
      (s.ls ++ with_alarm true m []) (λ e. absurd (omega (arith, e, low))) by x
      (subst (λ k. ShowsOrStops Always (k + 2) t.heap z t.alarms g
      (λ r k. Raises t.alarms.cells.size (IsAlarms k l) m s.ls r) (2 ^ 61 ≤ m) Same x) size call)
    where
      by : (r : Raised) (k : Graph) → Raises t.alarms.cells.size (IsAlarms k l) m s.ls r
          → IsAlarms k l (s.ls ++ with_alarm true m [])
      by raisings.New k p = p.2
      by raisings.Standing k p = absurd (both_ways (stands m s.ls) none p.0)
      by raisings.Full k p = absurd (omega (arith, few, p.1, laid.alarm_place.2))

  -- the numbers are others, or one was read
  kept_by : (z : Graph) → Saves (1 ∷ c.spare ∷ []) c.array g z → (q : Records)
      → q.ring.cells ≡ c → (zs : List ℕ) → IsRecords z q zs
      → IsLaid s.config n z q t.alarms zs s.ls
  kept_by z saves q same zs readings =
      let own : Saves (1 ∷ 2 ∷ []) c.array g z =
      subst (λ m. Saves (1 ∷ m ∷ []) c.array g z) laid.ring_place.1 saves in
      moved s.config n g t.numbers t.alarms s.ys s.ls laid c.array z own laid.ring_other q same
      t.alarms refl zs s.ls readings
      (alarms_stay s.config n g t.numbers t.alarms s.ys s.ls laid c.array z own
      (λ e. laid.apart (sym e)))

  pub right : ¬ Rattle.heap_structures.specs.Rings.IsNoTarget c 1
  right =
      is_target c 1 (omega arith) (λ e. absurd (omega (arith, e, laid.ring_place.0)))
      (λ e. absurd (omega (arith, e, laid.ring_place.1)))

  pub read : (z : Control) (Q : Type 0)
      → Does Always 2 t.heap z (1 ∷ c.spare ∷ []) c.array g
      (λ k. IsRecords k t.numbers s.ys × Q)
      → Lays (record { heap = z; numbers = t.numbers; alarms = t.alarms; pushed = t.pushed }) s.config
      n (s.most + 2) s.made s.ys s.ls
  read z Q d =
      after 2 (s.most + 2) (omega arith) z t.numbers t.alarms t.pushed s.ys s.ls d.graph d.has d.took
      (kept_by d.graph (saves_of (1 ∷ c.spare ∷ []) (1 ∷ c.spare ∷ []) c.array g d.graph
      (λ q none. none) d.spares) t.numbers refl s.ys d.holds.0)

  pub bounds : (b m : ℕ) → b < 16 → 1 ≤ m → m ≤ n → array_blocks s.config.width m ≤ s.config.object
      → IsCommandInBounds t.heap.config (Arr b m)
  bounds b m low some short few =
      subst (λ k. IsCommandInBounds k (Arr b m)) (sym s.lays.config) (record {
        range = (low, omega (arith, short, s.lays.holds.short));
        blocks = few;
        units = omega arith;
        version = tt;
      })

  -- what is left of the life after an object was made
  room_grown : (z : Control) (Q : Graph → Type 0) → Grows Always t.heap z 1 c g Q
      → HasLeft t.heap (Arr 1 1) → LeavesRoom 4 t.heap z
  room_grown z Q p left = λ k room. record {
    commands = omega (arith, room.commands, p.commands);
    objects = (let few : t.heap.objects + 1 ≤ 2 ^ 43 - 1 = left.1 in omega (arith, few, p.objects));
    units = λ rate is.
        let here : IsRate t.heap.config rate = subst (λ k. IsRate k rate) p.config is in
        let few : units t.heap + (rate * array_blocks t.heap.config.width 1 + 0) ≤ 2 ^ 45 =
        left.2 rate here in
        omega (arith, few, p.units rate here);
  }

  pub recorded : (y : ℕ) → HasRoom 4 t.heap → (z : Control) (q : Records) → q.ring.cells ≡ c
      → (x : Result (Unit {0}) Fault)
      → Rattle.std.specs.Prelude.OnOk x (HasLeft t.heap (Arr 1 1))
      → (MayPush Always t.heap.config g 1 → MatchResult x
      (λ u. Grows Always t.heap z 1 c g (λ k. IsRecords k q (last_of c.size (s.ys ++ y ∷ []))))
      (λ f. NotPushed Always t.heap z c 1 g f × (q ≡ t.numbers)))
      → MatchResult x
      (λ u. LaysAfter s 4 (record { heap = z; numbers = q; alarms = t.alarms; pushed = t.pushed })
      (s.made + 1) (last_of n (s.ys ++ y ∷ [])) s.ls × HasLeft t.heap (Arr 1 1))
      (λ f. (f ≡ faults.NoLifeLeft)
      × (record { heap = z; numbers = q; alarms = t.alarms; pushed = t.pushed } ≡ t)
      × ¬ HasLeft t.heap (Arr 1 1))
  recorded y room z q same x left push = by x left (push small)
    where
      small : MayPush Always t.heap.config g 1
      small k a new =
          subst (λ (p : Config). live_blocks p.width k ≤ p.live) (sym s.lays.config)
          (few_blocks s.config n g t.numbers t.alarms s.ys s.ls laid
          (lone_of Always t.heap g s.lays.has).threads k a new s.lays.holds)

      in_bounds : IsCommandInBounds t.heap.config (Arr 1 1)
      in_bounds =
          bounds 1 1 (omega arith) (omega arith) (omega (arith, s.lays.holds.some))
          (omega (arith, array_one s.config.width, s.lays.holds.can.bounds.some_object))

      by : (x : Result (Unit {0}) Fault)
          → Rattle.std.specs.Prelude.OnOk x (HasLeft t.heap (Arr 1 1))
          → MatchResult x
          (λ u. Grows Always t.heap z 1 c g (λ k. IsRecords k q (last_of c.size (s.ys ++ y ∷ []))))
          (λ f. NotPushed Always t.heap z c 1 g f × (q ≡ t.numbers))
          → MatchResult x
          (λ u. LaysAfter s 4 (record { heap = z; numbers = q; alarms = t.alarms; pushed = t.pushed })
          (s.made + 1) (last_of n (s.ys ++ y ∷ [])) s.ls × HasLeft t.heap (Arr 1 1))
          (λ f. (f ≡ faults.NoLifeLeft)
          × (record { heap = z; numbers = q; alarms = t.alarms; pushed = t.pushed } ≡ t)
          × ¬ HasLeft t.heap (Arr 1 1))
      by (Ok u) left p = (
        (
          record {
            graph = p.graph;
            has = p.has;
            laid = kept_by p.graph p.saves q same (last_of n (s.ys ++ y ∷ []))
                (subst (λ m. IsRecords p.graph q (last_of m (s.ys ++ y ∷ []))) laid.ring_place.2
                p.holds);
            holds = s.lays.holds;
            config = p.config ∙ s.lays.config;
            commands = omega (arith, p.commands, s.lays.commands);
            objects = omega (arith, p.objects, s.lays.objects);
            units = λ rate is.
                let by : units z ≡ units t.heap + rate * array_blocks t.heap.config.width 1 =
                p.units rate (subst (λ k. IsRate k rate) (sym s.lays.config) is) in
                let one : rate * array_blocks t.heap.config.width 1 ≡ rate * 1 =
                ap (λ m. rate * m) (array_one t.heap.config.width) in
                let all : ℕ = 2 * array_blocks s.config.width n in
                let more : rate * (all + (s.made + 1)) ≡ rate * (all + s.made) + rate = omega arith in
                omega (arith, by, one, s.lays.units rate is, more);
          },
          room_grown z _ p left,
        ),
        left,
      )
      by (Err f) left why =
          refused f why.0 (λ i. record {
            heap = t.heap;
            numbers = why.1 i;
            alarms = t.alarms;
            pushed = t.pushed;
          })
        where
          refused : (f : Fault) → NotPushed Always t.heap z c 1 g f
              → (record { heap = t.heap; numbers = q; alarms = t.alarms; pushed = t.pushed } ≡ t)
              → (f ≡ faults.NoLifeLeft)
              × (record { heap = z; numbers = q; alarms = t.alarms; pushed = t.pushed } ≡ t)
              × ¬ HasLeft t.heap (Arr 1 1)
          refused faults.OutOfBounds why same = absurd (elim why.0 [
            | inl bad ↦ right bad
            | inr out ↦ out in_bounds
          ])
          refused faults.NoLifeLeft why same = (
            refl,
            (λ i. record {
              heap = why.1 i;
              numbers = q;
              alarms = t.alarms;
              pushed = t.pushed;
            }) ∙ same,
            elim why.0 [
              | inl none ↦ λ left. none room
              | inr none ↦ none
            ],
          )
          refused (faults.Full m) why same = absurd why
          refused faults.Null why same = absurd why
          refused faults.Kind why same = absurd why
          refused faults.Range why same = absurd why
