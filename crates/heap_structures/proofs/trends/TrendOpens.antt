-- A trend that is opened: no call is refused, and no sample was pushed.
use Rattle.std.proofs.Common.{◌≡◌, ◌≢◌, ℕ, zero, suc, ◌+◌, ◌-◌, ◌*◌, ◌^◌, ◌<◌, ◌≤◌, inl, inr, true, cond, [], ◌∷◌, drop, sym, refl, ap, ◌∙◌, subst, arith, ne_eqb}
use Rattle.std.proofs.lemmas.Bool.{both_ways, cases_lt}
use Rattle.std.proofs.lemmas.List.{get_or_past}
use Rattle.block_store.specs.declared.Config.{Config}
use Rattle.block_store.specs.declared.Name.{Name}
use Rattle.block_store.specs.declared.Value.TheVariants.{Nil, Ref}
use Rattle.rate_plan.specs.Rates.{IsRate}
use Rattle.array_trees.specs.InitialHeaps.{opening_blocks}
use Rattle.array_trees.specs.Trees.{array_blocks}
use Rattle.never_heap.specs.declared.Command.TheVariants.{Arr}
use Rattle.never_heap.specs.Bounds.{IsCommandInBounds}
use Rattle.never_heap.specs.Graphs.{Graph, has_name, mutator_at, shared_name, start_graph}
use Rattle.never_heap.specs.LiveBlocks.{live_blocks}
use Rattle.never_heap.specs.RightWork.{units_owed}
use Rattle.never_heap.proofs.Lemmas.{has_field, has_shared, object_of_start, opening_live, register_of_start, registers_of_start}
use Rattle.rate_plan.proofs.Rates.{rate_low}
use Rattle.heap_system.proofs.Lemmas.{one_owes}
use Rattle.control_heap.specs.Controls.{Control, asked, units}
use Rattle.control_heap.specs.declared.faults.Fault.{Fault}
use Rattle.control_heap.specs.graph_view.ShownGraph.{IsSmall}
use Rattle.heap_structures.specs.declared.alarms.AlarmList.{AlarmList}
use Rattle.heap_structures.specs.declared.cells.Cells.{Cells}
use Rattle.heap_structures.specs.declared.records.Records.{Records}
use Rattle.heap_structures.specs.Alarms.{IsAlarms}
use Rattle.heap_structures.specs.Cells.{HasPlace, held}
use Rattle.heap_structures.specs.Heaps.{Always}
use Rattle.heap_structures.specs.Opened.{MayOpen, NotOpened, Opens}
use Rattle.heap_structures.specs.Records.{HasFreeSpare, IsRecords}
use Rattle.heap_structures.specs.Trends.{HoldsTrend, IsTrend, Lays, alarms_from, values_in}
use Rattle.heap_structures.specs.declared.trend.Sample.{Sample}
use Rattle.heap_structures.proofs.rings.NumberRings.{records_stay}
use Rattle.heap_structures.proofs.cell_arrays.Opening.{not_refused}

none_left : (k : ℕ) → drop {A = Sample} k [] ≡ []
none_left zero = refl
none_left (suc k) = refl

module _ (c : Config) (n : ℕ) (holds : HoldsTrend c n) where
  abbrev pub g0 : Graph
  g0 = start_graph c

  start_few : live_blocks c.width g0 ≡ opening_blocks c
  start_few = opening_live c holds.can.bounds

  pub start_small : IsSmall c g0
  start_small = omega (arith, start_few, holds.live)

  start_register : (q : ℕ) → q ≢ 0 → held g0 q ≡ Nil
  start_register q some = elim (cases_lt q 16) [
    | inl low ↦ register_of_start c 0 q holds.can.bounds.some_thread low
        ∙ ap (λ t. cond t (Ref (shared_name c.threads)) Nil) (ne_eqb q 0 some)
    | inr past ↦ get_or_past (mutator_at g0 0).registers q Nil
        (omega (arith, past, registers_of_start c 0 holds.can.bounds.some_thread))
  ]

  no_start : (q : ℕ) (b : Name) → q ≢ 0 → held g0 q ≢ Ref b
  no_start q b some e = let bad : Nil ≡ Ref b = sym (start_register q some) ∙ e in absurd cc

  zero_is : held g0 0 ≡ Ref (shared_name 1)
  zero_is =
      register_of_start c 0 0 holds.can.bounds.some_thread (omega arith)
      ∙ ap (λ t. Ref (shared_name t)) holds.can.single

  has_one : has_name g0 (shared_name 1) ≡ true
  has_one = subst (λ t. has_name g0 (shared_name t) ≡ true) holds.can.single (has_shared c)

  may : (g : Graph) (k : Config) → k ≡ c
      → live_blocks c.width g ≤ opening_blocks c + array_blocks c.width n → MayOpen Always k g n
  may g k same few =
      subst (λ k. live_blocks k.width g + array_blocks k.width n ≤ k.live) (sym same)
      (omega (arith, few, holds.live))

  pub first_may : (h : Control) → h.config ≡ c → MayOpen Always h.config g0 n
  first_may h same = may g0 h.config same (omega (arith, start_few))

  in_bounds : (base : ℕ) → base < 16 → IsCommandInBounds c (Arr base n)
  in_bounds base low = record {
    range = (low, holds.short);
    blocks = holds.object;
    units = omega arith;
    version = tt;
  }

  -- an array of n values takes few units
  few_units : (rate : ℕ) → IsRate c rate → rate * array_blocks c.width n ≤ 134346750
  few_units rate is =
      let low = rate_low c rate holds.can.bounds holds.can.plan is in
      let owes : rate * array_blocks c.width n + 0 ≤ 134346750 =
      one_owes c rate (Arr 3 n) low holds.can.bounds.object (in_bounds 3 (omega arith)) in
      omega (arith, owes)

  -- an array for n values is not refused
  pub opens : (h z : Control) → h.config ≡ c → (base spare : ℕ) (g : Graph) (f : Fault)
      → base < 16 → spare < 16 → spare ≢ base → asked h ≤ 1 → h.objects ≤ 1
      → ((rate : ℕ) → IsRate c rate → units h ≤ 134346750)
      → NotOpened Always h z base spare n g f → ⊥
  opens h z same base spare g f low also apart count objects used =
      not_refused h z base spare n g f also apart (omega (arith, holds.some))
      (subst (λ k. IsCommandInBounds k (Arr base n)) (sym same) (in_bounds base low)) (
        omega (arith, count),
        omega (arith, objects),
        λ rate is.
            let here : IsRate c rate = subst (λ k. IsRate k rate) same is in
            let few : units h + (rate * array_blocks c.width n + 0) ≤ 2 ^ 45 =
            omega (arith, few_units rate here, used rate here) in
            subst (λ (k : Config). units h + units_owed k.width rate (Arr base n) ≤ 2 ^ 45)
            (sym same) few,
      )

  module _ (h y : Control) (same : h.config ≡ c)
      (new : (asked h ≡ 0) × (units h ≡ 0) × (h.objects ≡ 0)) (r : Records)
      (place : HasPlace r.ring.cells 3 2 n)
      (o : Opens Always h y r.ring.cells g0 (λ z. HasFreeSpare z r → IsRecords z r [])) where
    made_units : (rate : ℕ) → IsRate c rate → units y ≡ rate * array_blocks c.width n
    made_units rate is =
        let by : units y ≡ units h + rate * array_blocks h.config.width r.ring.cells.size =
        o.units rate (subst (λ k. IsRate k rate) (sym same) is) in
        let e : rate * array_blocks h.config.width r.ring.cells.size
        ≡ rate * array_blocks c.width n =
        (λ i. rate * array_blocks (same i).width (place.2 i)) in
        omega (arith, by, e, new.1)

    pub made_few : (rate : ℕ) → IsRate c rate → units y ≤ 134346750
    made_few rate is = omega (arith, made_units rate is, few_units rate is)

    pub next_may : MayOpen Always y.config o.graph n
    next_may =
        let more : live_blocks c.width o.graph
        ≤ live_blocks c.width g0 + array_blocks c.width r.ring.cells.size =
        subst (λ (k : Config). live_blocks k.width o.graph
        ≤ live_blocks k.width g0 + array_blocks k.width r.ring.cells.size) same o.live in
        let e = ap (array_blocks c.width) place.2 in
        may o.graph y.config (o.config ∙ same) (omega (arith, more, e, start_few))

    pub started : (z : Control) (l : AlarmList) → HasPlace l.cells 4 1 n
        → Opens Always y z l.cells o.graph (λ k. IsAlarms k l [])
        → IsTrend (record { heap = z; numbers = r; alarms = l; pushed = 0 }) c n 2 []
    started z l own p =
        let k : Cells = r.ring.cells in
        let free : HasFreeSpare o.graph r = λ b e.
        no_start 2 b (λ bad. absurd (omega (arith, bad)))
        (sym (o.spares.registers 2 ((λ bad. absurd (omega (arith, bad, place.0))), tt))
        ∙ ap (held o.graph) (sym place.1) ∙ e) in
        let readings = o.holds free in
        let apart : (b : Name) → has_name o.graph b ≡ true → b ≢ l.cells.array =
        λ b has e. both_ways (has_name o.graph l.cells.array) p.fresh
        (ap (has_name o.graph) (sym e) ∙ has) in
        let other : k.array ≢ shared_name 1 =
        λ e. both_ways (has_name g0 k.array) o.fresh (ap (has_name g0) e ∙ has_one) in
        let one = o.spares.names (shared_name 1) has_one in
        let stays : (q : ℕ) → q ≢ 3 → q ≢ 4 → held p.graph q ≡ held g0 q =
        λ q n3 n4. (p.spares.registers q ((λ e. n4 (e ∙ own.0)), tt)
        ∙ o.spares.registers q ((λ e. n3 (e ∙ place.0)), tt)) in
        let lays : Lays (record { heap = z; numbers = r; alarms = l; pushed = 0 }) c n 2 0 [] [] =
        record {
          graph = p.graph;
          has = p.has;
          laid = record {
            ring_place = place;
            alarm_place = own;
            apart = apart k.array readings.ring.cells.named;
            ring_other = other;
            alarms_other = λ e. apart (shared_name 1) one (sym e);
            zero = stays 0 (λ e. absurd (omega (arith, e))) (λ e. absurd (omega (arith, e)))
                ∙ zero_is;
            named = p.spares.names (shared_name 1) one;
            shared = p.spares.objects (shared_name 1) (apart (shared_name 1) one)
                ∙ o.spares.objects (shared_name 1) (λ e. other (sym e))
                ∙ object_of_start c (shared_name 1) has_one;
            plain = λ q b none e.
                no_start q b none.0 (sym (stays q none.1.1.1.0 none.1.1.1.1.0) ∙ e);
            readings = records_stay (l.cells.base ∷ []) l.cells.array o.graph p.graph r []
                p.spares
                (λ one. both_ways (has_name o.graph l.cells.array) p.fresh
                (has_field o.graph l.cells.array 0 (omega (arith, one))))
                (apart k.array readings.ring.cells.named)
                ((λ e. absurd (omega (arith, place.0, own.0, e))), tt)
                ((λ e. absurd (omega (arith, place.1, own.0, e))), tt) readings;
            alarms = p.holds;
          };
          holds = holds;
          config = p.config ∙ o.config ∙ same;
          commands = omega (arith, p.commands, o.commands, new.0);
          objects = omega (arith, p.objects, o.objects, new.2);
          units = λ rate is.
              let by : units z ≡ units y + rate * array_blocks y.config.width l.cells.size =
              p.units rate (subst (λ k. IsRate k rate) (sym (o.config ∙ same)) is) in
              let e : rate * array_blocks y.config.width l.cells.size
              ≡ rate * array_blocks c.width n =
              (λ i. rate * array_blocks ((o.config ∙ same) i).width (own.2 i)) in
              let both : rate * (2 * array_blocks c.width n + 0)
              ≡ rate * array_blocks c.width n + rate * array_blocks c.width n =
              omega arith in
              omega (arith, by, e, made_units rate is, both);
        } in
        record {
          lays = subst (λ zs. Lays (record { heap = z; numbers = r; alarms = l; pushed = 0 }) c n 2 0
              (values_in zs) (alarms_from (0 - n) zs)) (sym (none_left (0 - n))) lays;
          pushed = refl;
        }
