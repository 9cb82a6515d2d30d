-- A ring of numbers, each in an object of its own, and how few blocks are live beside it.
use Rattle.std.proofs.Common.{◌≡◌, ◌≢◌, ℕ, zero, suc, ◌+◌, ◌-◌, ◌*◌, ◌^◌, ◌<◌, ◌≤◌, inl, inr, true, Option, Some, None, Result, Ok, Err, List, [], ◌∷◌, ◌++◌, length, drop, map, slice_index_or, slice_set, sym, refl, ap, ◌∙◌, subst, arith, ◌||◌}
use Rattle.std.specs.Prelude.{IsOkAnd, MatchResult, unwrap_or}
use Rattle.std.proofs.lemmas.Bool.{both_ways, cases_lt, cases_eq, or_cases, or_left, or_right}
use Rattle.std.proofs.lemmas.List.{drop-map, get_or_past, length-map, map-append}
use Rattle.block_store.specs.declared.Name.{Name}
use Rattle.block_store.specs.declared.Value.{Value}
use Rattle.block_store.specs.declared.Value.TheVariants.{Int, Nil, Ref}
use Rattle.rate_plan.specs.Rates.{IsRate}
use Rattle.array_trees.specs.Trees.{array_blocks, tree}
use Rattle.never_heap.specs.declared.Command.TheVariants as commands
use Rattle.never_heap.specs.declared.Reply.{Reply}
use Rattle.never_heap.specs.declared.Reply.TheVariants as replies
use Rattle.never_heap.specs.Bounds.{IsCommandInBounds}
use Rattle.never_heap.specs.Graphs.{Graph, Object, field_of, has_name, next_name, nils, object_of, ObjectKind, Record, Array, register_of, same_name}
use Rattle.never_heap.specs.Steps.{step}
use Rattle.never_heap.proofs.Lemmas.{has_field, nil_of, one_name, plain_fits, same_itself, thread_of, within}
use Rattle.heap_machine.specs.Memories.{Acts}
use Rattle.saved_heap.specs.heap_pictures.UpToNames.{AreOneUpToNames, renamed}
use Rattle.saved_heap.specs.heap_pictures.Following.{HasOneThread}
use Rattle.saved_heap.proofs.heap_pictures.Following.{any_thread_stays}
use Rattle.heap_system.specs.Lives.{most_objects, most_units}
use Rattle.control_heap.specs.Calls.{HasReturned}
use Rattle.control_heap.specs.Controls.{Control, HasLeft, units}
use Rattle.control_heap.specs.declared.faults.Fault.{Fault}
use Rattle.control_heap.specs.declared.faults.Fault.TheVariants as faults
use Rattle.heap_structures.specs.declared.cells.Cells.{Cells}
use Rattle.heap_structures.specs.declared.records.Records.{Records}
use Rattle.heap_structures.specs.declared.ring.Ring.{Ring}
use Rattle.heap_structures.specs.Cells.{IsCells, IsNone, IsPlaced, Spares, held}
use Rattle.heap_structures.specs.Circles.{around, last_of}
use Rattle.heap_structures.specs.Heaps.{Any, Small, Always, Does, DoesOrStops, Has, HasRoom, Ready, Sight}
use Rattle.heap_structures.specs.Opened.{NotOpened, Opens, OpensNils, StaysSmall}
use Rattle.heap_structures.specs.Records.{AreNumbers, Grows, HasBox, IsRecords, MayPush, NotPushed, first_of, ArePlain, ReferOnly}
use Rattle.heap_structures.specs.Rings.{Gives, IsNoTarget, IsRing}
use Rattle.heap_structures.proofs.cell_arrays.Answered.{QuietLaw, ok_map, room_after, told_ok, took_both, value_in}
use Rattle.heap_structures.proofs.cell_arrays.CellMoves.{get_step, makes_cells, set_stores, spares_both, spares_wider}
use Rattle.heap_structures.proofs.cell_arrays.Opening.{new_named}
use Rattle.heap_structures.proofs.cell_arrays.NoAllocation.{lone_of}
use Rattle.heap_structures.proofs.rings.Rounds.{at_place, not_stopped, round_same, round_stays}
use Rattle.std.specs.List.{AllByRecursion, sum_by}
use Rattle.std.proofs.lemmas.List.Folds.{list_any-append}
use Rattle.std.proofs.lemmas.List.Sums.{sum_by-append, sum_by-cons}
use Rattle.block_store.specs.declared.Width.{Width}
use Rattle.block_store.specs.declared.Width.TheVariants.{Four, Eight}
use Rattle.block_store.specs.Registers.{registers_end}
use Rattle.never_heap.specs.LiveBlocks.{blocks_of_kind, live_blocks, object_blocks}
use Rattle.never_heap.specs.Reach.{is_among}
use Rattle.heap_structures.specs.declared.alarms.Alarm.{Alarm}
use Rattle.heap_structures.specs.declared.alarms.AlarmList.{AlarmList}
use Rattle.heap_structures.specs.Alarms.{IsAlarms, value_of}

-- ---- numbers and their objects

pub numbers_long : (g : Graph) (bs : List Name) (ns : List ℕ) → AreNumbers g bs ns
    → length bs ≡ length ns
numbers_long g [] [] are = refl
numbers_long g (a ∷ bs) (n ∷ ns) are =
    let rest = numbers_long g bs ns are.2 in omega (arith, rest)
numbers_long g [] (n ∷ ns) are = absurd are
numbers_long g (a ∷ bs) [] are = absurd are

pub numbers_stay : (g z : Graph) → ((b : Name) (n : ℕ) → (object_of g b).fields ≡ Int n ∷ []
    → (object_of z b).fields ≡ Int n ∷ []) → (bs : List Name) (ns : List ℕ) → AreNumbers g bs ns
    → AreNumbers z bs ns
numbers_stay g z f [] [] are = tt
numbers_stay g z f (a ∷ bs) (n ∷ ns) are =
    (f a n are.0, are.1, numbers_stay g z f bs ns are.2)
numbers_stay g z f [] (n ∷ ns) are = absurd are
numbers_stay g z f (a ∷ bs) [] are = absurd are

numbers_more : (g : Graph) (a : Name) (n : ℕ) → (object_of g a).fields ≡ Int n ∷ [] → n < 2 ^ 32
    → (bs : List Name) (ns : List ℕ) → AreNumbers g bs ns
    → AreNumbers g (bs ++ a ∷ []) (ns ++ n ∷ [])
numbers_more g a n e low [] [] are = (e, low, tt)
numbers_more g a n e low (b ∷ bs) (m ∷ ns) are =
    (are.0, are.1, numbers_more g a n e low bs ns are.2)
numbers_more g a n e low [] (m ∷ ns) are = absurd are
numbers_more g a n e low (b ∷ bs) [] are = absurd are

numbers_drop : (g : Graph) (j : ℕ) (bs : List Name) (ns : List ℕ) → AreNumbers g bs ns
    → AreNumbers g (drop j bs) (drop j ns)
numbers_drop g zero bs ns are = are
numbers_drop g (suc j) [] [] are = tt
numbers_drop g (suc j) (a ∷ bs) (n ∷ ns) are = numbers_drop g j bs ns are.2
numbers_drop g (suc j) [] (n ∷ ns) are = absurd are
numbers_drop g (suc j) (a ∷ bs) [] are = absurd are

numbers_last : (g : Graph) (m : ℕ) (bs : List Name) (ns : List ℕ) → AreNumbers g bs ns
    → AreNumbers g (last_of m bs) (last_of m ns)
numbers_last g m bs ns are =
    subst (λ k. AreNumbers g (drop (k - m) bs) (last_of m ns)) (sym (numbers_long g bs ns are))
    (numbers_drop g (length ns - m) bs ns are)

last_map : (m : ℕ) (bs : List Name) → last_of m (map Ref bs) ≡ map Ref (last_of m bs)
last_map m bs =
    ap (λ k. drop (k - m) (map Ref bs)) (length-map bs Ref) ∙ drop-map Ref (length bs - m) bs

-- the array is none of the objects
no_int : (bs : List Name) (i n : ℕ) → slice_index_or (map Ref bs) i Nil ≢ Int n
no_int [] i n e = absurd cc
no_int (a ∷ bs) zero n e = absurd cc
no_int (a ∷ bs) (suc i) n e = no_int bs i n e

pub not_ring : (g : Graph) (r : Ring) (bs : List Name) → IsRing g r (map Ref bs)
    → (b : Name) (n : ℕ)
    → (object_of g b).fields ≡ Int n ∷ [] → b ≢ r.cells.array
not_ring g r bs is b n one same =
    let at = at_place g r.cells r.first r.count (map Ref bs) is 0 in
    no_int bs at.0 n (sym at.1 ∙ ap (λ m. field_of (object_of g m) 0) (sym same)
    ∙ ap (λ fs. slice_index_or fs 0 Nil) one)

pub few_numbers : (g : Graph) (r : Records) (ns : List ℕ) → IsRecords g r ns
    → length ns ≤ r.ring.cells.size
few_numbers g r ns is =
    omega (
      arith,
      is.ring.circle.few,
      length-map is.names Ref,
      numbers_long g is.names ns
          is.numbers,
    )

-- ---- where calls leave it

-- a call that changes another object
pub records_stay : (rs : List ℕ) (a : Name) (g z : Graph) (r : Records) (ns : List ℕ)
    → Spares rs a g z → length (object_of g a).fields ≢ 1 → r.ring.cells.array ≢ a
    → IsNone rs r.ring.cells.base → IsNone rs r.ring.cells.spare → IsRecords g r ns → IsRecords z r
    ns
records_stay rs a g z r ns s long apart base spare is = record {
  names = is.names;
  ring = round_stays g r.ring.cells r.ring.first r.ring.count (map Ref is.names) is.ring rs a z s
      apart
      base;
  numbers = numbers_stay g z
      (λ b n e. ap (λ (o : Object). o.fields) (s.objects b (λ same. long
      (ap (λ m. length (object_of g m).fields) (sym same) ∙ ap length e))) ∙ e) is.names ns
      is.numbers;
  free = λ b e. is.free b (sym (s.registers r.ring.cells.spare spare) ∙ e);
}

-- the same on another heap with this graph up to names
numbers_again : (g z : Graph) (one : AreOneUpToNames g z) (bs : List Name) (ns : List ℕ)
    → ((i : ℕ) (a : Name) → slice_index_or (map Ref bs) i Nil ≡ Ref a → one.reached a ≡ true)
    → AreNumbers g bs ns → AreNumbers z (map one.to bs) ns
numbers_again g z one [] [] reach are = tt
numbers_again g z one (a ∷ bs) (n ∷ ns) reach are = (
  ap (λ (o : Object). o.fields) (one.objects a (reach 0 a refl)) ∙ ap (map (renamed one.to)) are.0,
  are.1,
  numbers_again g z one bs ns (λ i b e. reach (suc i) b e) are.2,
)
numbers_again g z one [] (n ∷ ns) reach are = absurd are
numbers_again g z one (a ∷ bs) [] reach are = absurd are

names_again : (to : Name → Name) (bs : List Name)
    → map (renamed to) (map Ref bs) ≡ map Ref (map to bs)
names_again to [] = refl
names_again to (b ∷ bs) = ap (λ vs. Ref (to b) ∷ vs) (names_again to bs)

pub records_again : (g z : Graph) (one : AreOneUpToNames g z) (r q : Records) (ns : List ℕ)
    → q.ring.cells.spare ≡ r.ring.cells.spare
    → (is : IsRecords g r ns) → IsRing z q.ring (map (renamed one.to) (map Ref is.names))
    → IsRecords z q ns
records_again g z one r q ns same is ring = record {
  names = map one.to is.names;
  ring = subst (IsRing z q.ring) (names_again one.to is.names) ring;
  numbers = numbers_again g z one is.names ns reach is.numbers;
  free = λ b e. free (held g r.ring.cells.spare) refl b
      (sym (one.registers r.ring.cells.spare) ∙ ap (held z) (sym same) ∙ e);
}
  where
    reach : (i : ℕ) (a : Name) → slice_index_or (map Ref is.names) i Nil ≡ Ref a
        → one.reached a ≡ true
    reach i a e = elim (cases_lt i (length (map Ref is.names))) [
      | inl low ↦
          let c : Cells = r.ring.cells in
          let few = is.ring.circle.few in
          one.closed c.array a (around c.size (r.ring.first + i))
          (one.roots c.base c.array is.ring.cells.base)
          (ap (λ fs. slice_index_or fs (around c.size (r.ring.first + i)) Nil) is.ring.cells.values
          ∙ is.ring.circle.places i (omega (arith, low, few)) ∙ e)
      | inr past ↦
          let bad : Nil ≡ Ref a = sym (get_or_past (map Ref is.names) i Nil past) ∙ e in absurd cc
    ]

    free : (v : Value) → held g r.ring.cells.spare ≡ v → (b : Name) → renamed one.to v ≢ Ref b
    free Nil at b e = absurd cc
    free (Int n) at b e = absurd cc
    free (Ref a) at b e = is.free a at

-- ---- a number more

module _ (s : Sight) (h y : Control) (g : Graph) (r : Records) (ns : List ℕ) (is : IsRecords g r ns)
    (d n : ℕ) (low : n < 2 ^ 32) (a : Name) where
  abbrev c : Cells
  c = r.ring.cells

  abbrev pub box : Cells
  box = record { array = a; base = d; spare = c.spare; size = 1 }

  placed : d < 16 → d ≢ c.spare → IsPlaced box
  placed few apart = record {
    size = omega arith;
    base = few;
    spare = is.ring.cells.placed.spare;
    apart = λ same. apart (sym same);
  }

  -- where there is room for an object, it is made
  pub small_box : d < 16 → d ≢ c.spare → Has s h g → MayPush s h.config g d
      → StaysSmall s h.config g d 1
  small_box few apart has may = by s may
    where
      k : Graph
      k = (step g 0 (commands.Arr d 1)).0

      has_box : HasBox g k d (next_name g 0)
      has_box =
          let lone = lone_of s h g has in
          let m = makes_cells g d 1 lone few (new_named g d 1 lone) in
          let made = m.cells (record { array = next_name g 0; base = d; spare = c.spare; size = 1 })
          refl refl refl (record {
            size = omega arith;
            base = few;
            spare = is.ring.cells.placed.spare;
            apart = λ same. apart (sym same);
          }) in
          record {
            register = made.base;
            fields = made.values;
            fresh = m.fresh;
            spares = m.spares;
            threads = (any_thread_stays g 0 (commands.Arr d 1) lone).threads ∙ sym lone.threads;
          }

      by : (s : Sight) → MayPush s h.config g d → StaysSmall s h.config g d 1
      by Any may = tt
      by Small may = may k (next_name g 0) has_box
      by Always may = may k (next_name g 0) has_box

  module _ (o : Opens s h y box g (λ k. IsCells k box (Nil ∷ []))) where
    box_ready : HasRoom 4 h → HasLeft h (commands.Arr d 1) → Ready s 3 y box o.graph (Nil ∷ [])
    box_ready all left = record {
      has = o.has;
      cells = o.holds;
      room = record {
        commands = omega (arith, all.commands, o.commands);
        objects = (let few : h.objects + 1 ≤ most_objects = left.1 in omega (
          arith,
          few,
          o.objects,
        ));
        units = λ rate planned.
            let here : IsRate h.config rate = subst (λ k. IsRate k rate) o.config planned in
            let few : units h + (rate * array_blocks h.config.width 1 + 0) ≤ most_units =
            left.2 rate here in
            omega (arith, few, o.units rate here);
      };
    }

  pub box_made : d < 16 → d ≢ c.spare → Has s h g → MayPush s h.config g d → HasRoom 4 h
      → HasLeft h (commands.Arr d 1)
      → (StaysSmall s h.config g d 1 → OpensNils s h y g d 1 a)
      → (o : Opens s h y box g (λ k. IsCells k box (Nil ∷ [])))
      × Ready s 3 y box o.graph (Nil ∷ [])
  box_made few apart has may all left opens =
      let o : Opens s h y box g (λ k. IsCells k box (Nil ∷ [])) =
      opens (small_box few apart has may) box refl refl refl (placed few apart) in
      (o, box_ready o all left)

  module _ (o : Opens s h y box g (λ k. IsCells k box (Nil ∷ []))) where
    module _ (v w : Control)
        (e : Does s 1 y v (c.spare ∷ []) a o.graph
        (λ k. IsCells k box (Nil ∷ []) × (held k c.spare ≡ Int n)))
        (f : Does s 1 v w [] a e.graph
        (λ k. IsCells k box (slice_set (Nil ∷ []) 0 (held e.graph c.spare)))) where
      changed : Spares (d ∷ c.spare ∷ []) a g f.graph
      changed =
          let rs : List ℕ = d ∷ c.spare ∷ [] in
          spares_both rs a g e.graph f.graph (spares_both rs a g o.graph e.graph
          (spares_wider (d ∷ []) rs a g o.graph (λ q none. (none.0, tt)) o.spares)
          (spares_wider (c.spare ∷ []) rs a o.graph e.graph (λ q none. none.1) e.spares))
          (spares_wider [] rs a e.graph f.graph (λ q none. tt) f.spares)

      fresh : (b : Name) → has_name g b ≡ true → b ≢ a
      fresh b has same = both_ways (has_name g a) o.fresh (ap (has_name g) (sym same) ∙ has)

      pub ring_there : d ≢ c.base → IsRing f.graph r.ring (map Ref is.names)
      ring_there apart =
          round_stays g c r.ring.first r.ring.count (map Ref is.names) is.ring (d ∷ c.spare ∷ []) a
          f.graph changed (fresh c.array is.ring.cells.named)
          ((λ same. apart (sym same)), ((λ same. is.ring.cells.placed.apart (sym same)), tt))

      -- the call returns
      pub pushed : (all : HasRoom 4 h) (left : HasLeft h (commands.Arr d 1)) → d < 16 → d ≢ c.base
          → (z : Control) (q : Records) → q.ring.cells ≡ c → (Same Also : Type 0)
          (x : Result (Unit {0}) Fault)
          → DoesOrStops s 1 w z [] c f.graph
          (λ u k. IsRing k q.ring (last_of c.size (map Ref is.names ++ held f.graph d ∷ [])))
          (16 ≤ d) Same x
          → MatchResult x
          (λ u. Grows s h z d c g (λ k. IsRecords k q (last_of c.size (ns ++ n ∷ []))))
          (λ e. NotPushed s h z c d g e × Also)
      pushed all left few apart z q same Same Also (Err fault) stop =
          absurd (not_stopped 1 (16 ≤ d) w z fault
          (room_after 2 1 y w (took_both 1 1 y v w e.took f.took) (box_ready o all left).room)
          (λ past. omega (arith, past, few)) stop.0)
      pushed all left few apart z q same Same Also (Ok u) p = record {
        graph = p.graph;
        has = p.has;
        saves = record {
          registers = λ i none. p.spares.registers i tt ∙ changed.registers i none;
          objects = λ b has ne. p.spares.objects b ne ∙ changed.objects b (fresh b has);
          names = λ b has. p.spares.names b (changed.names b has);
        };
        holds = record {
          names = last_of c.size (is.names ++ a ∷ []);
          ring = subst (IsRing p.graph q.ring)
              (ap (λ t. last_of c.size (map Ref is.names ++ t ∷ [])) f.holds.base
              ∙ ap (last_of c.size) (sym (map-append Ref is.names (a ∷ [])))
              ∙ last_map c.size (is.names ++ a ∷ [])) p.holds;
          numbers = numbers_last p.graph c.size (is.names ++ a ∷ []) (ns ++ n ∷ [])
              (numbers_stay f.graph p.graph
              (λ b m one. ap (λ (k : Object). k.fields) (p.spares.objects b
              (not_ring f.graph r.ring is.names (ring_there apart) b m one)) ∙ one)
              (is.names ++ a ∷ []) (ns ++ n ∷ [])
              (numbers_more f.graph a n
              (f.holds.values ∙ ap (λ t. t ∷ []) e.holds.1) low is.names ns
              (numbers_stay g f.graph
              (λ b m one. ap (λ (k : Object). k.fields) (changed.objects b
              (fresh b (has_field g b 0 (omega (arith, ap length one))))) ∙ one) is.names ns
              is.numbers)));
          free = λ b is_ref.
              let number : held p.graph c.spare ≡ Int n =
              p.spares.registers c.spare tt ∙ f.spares.registers c.spare tt ∙ e.holds.1 in
              let bad : Int n ≡ Ref b =
              sym number ∙ ap (λ (k : Cells). held p.graph k.spare) (sym same) ∙ is_ref in
              absurd cc;
        };
        config = p.took.config ∙ f.took.config ∙ e.took.config ∙ o.config;
        commands = omega (arith, p.took.commands, f.took.commands, e.took.commands, o.commands);
        objects = p.took.objects ∙ f.took.objects ∙ e.took.objects ∙ o.objects;
        units = λ rate planned. p.took.units ∙ f.took.units ∙ e.took.units ∙ o.units rate planned;
      }

-- why none was made
pub not_made : (s : Sight) (h z : Control) (c : Cells) (d : ℕ) (g : Graph) (f : Fault)
    → c.spare < 16
    → d ≢ c.spare → NotOpened s h z d c.spare 1 g f → NotPushed s h z c d g f
not_made s h z c d g faults.OutOfBounds low apart why = elim why.0 [
  | inl past ↦ absurd (omega (arith, past, low))
  | inr (inl same) ↦ absurd (apart (sym same))
  | inr (inr (inl none)) ↦ absurd (omega (arith, none))
  | inr (inr (inr out)) ↦ (inr out, why.1)
]
not_made s h z c d g faults.NoLifeLeft low apart why = (inr why.0, why.1)
not_made s h z c d g (faults.Full n) low apart why = why
not_made s h z c d g faults.Null low apart why = why
not_made s h z c d g faults.Kind low apart why = why
not_made s h z c d g faults.Range low apart why = why

-- it is made where the register is right and the life has room
pub not_pushed : (h z : Control) (c : Cells) (d : ℕ) (g : Graph) (f : Fault) → HasRoom 4 h
    → HasLeft h (commands.Arr d 1) → IsCommandInBounds h.config (commands.Arr d 1)
    → ¬ IsNoTarget c d → NotPushed Always h z c d g f → ⊥
not_pushed h z c d g faults.OutOfBounds room left bounds right why = elim why.0 [
  | inl bad ↦ right bad
  | inr out ↦ out bounds
]
not_pushed h z c d g faults.NoLifeLeft room left bounds right why = elim why.0 [
  | inl none ↦ none room
  | inr none ↦ none left
]
not_pushed h z c d g (faults.Full n) room left bounds right why = why
not_pushed h z c d g faults.Null room left bounds right why = why
not_pushed h z c d g faults.Kind room left bounds right why = why
not_pushed h z c d g faults.Range room left bounds right why = why

-- ---- a number is read

-- number i, and 0 past the last
pub first_is : (ns : List ℕ) (i : ℕ) → unwrap_or (first_of (drop i ns)) 0 ≡ slice_index_or ns i 0
first_is [] zero = refl
first_is [] (suc i) = refl
first_is (n ∷ ns) zero = refl
first_is (n ∷ ns) (suc i) = first_is ns i

pub is_target : (c : Cells) (d : ℕ) → d < 16 → d ≢ c.base → d ≢ c.spare → IsNoTarget c d → ⊥
is_target c d low base spare (inl past) = omega (arith, past, low)
is_target c d low base spare (inr (inl same)) = base same
is_target c d low base spare (inr (inr same)) = spare same

-- the object to which register d refers, its number, and the first of some numbers
abbrev IsGiven : Graph → Graph → ℕ → Option Value → Option ℕ → Type 0
IsGiven g k d None t = t ≡ None
IsGiven g k d (Some v) t =
    (a : Name) × (n : ℕ) × (held k d ≡ Ref a) × ((object_of g a).fields ≡ Int n ∷ [])
    × (n < 2 ^ 32) × (t ≡ Some n)

given : (g k : Graph) (d : ℕ) (bs : List Name) (ns : List ℕ) → AreNumbers g bs ns → (i : ℕ)
    (v : Option Value) → Gives k d (drop i (map Ref bs)) v → IsGiven g k d v (first_of (drop i ns))
given g k d [] [] are zero None by = refl
given g k d [] [] are zero (Some v) by = absurd by
given g k d [] [] are (suc i) None by = refl
given g k d [] [] are (suc i) (Some v) by = absurd by
given g k d (a ∷ bs) (n ∷ ns) are zero None by = absurd by
given g k d (a ∷ bs) (n ∷ ns) are zero (Some v) by = (a, n, by.1, are.0, are.1, refl)
given g k d (a ∷ bs) (n ∷ ns) are (suc i) v by = given g k d bs ns are.2 i v by
given g k d [] (n ∷ ns) are i v by = absurd are
given g k d (a ∷ bs) [] are i v by = absurd are

module _ (s : Sight) (h y : Control) (g : Graph) (r : Records) (ns : List ℕ) (is : IsRecords g r ns)
    (d i : ℕ) (low : d < 16) (not_spare : d ≢ r.ring.cells.spare) (v : Option Value)
    (e : Does s 1 h y (d ∷ []) r.ring.cells.array g
    (λ k. IsRing k r.ring (map Ref is.names) × Gives k d (drop i (map Ref is.names)) v)) where
  abbrev cs : Cells
  cs = r.ring.cells

  abbrev rs : List ℕ
  rs = d ∷ cs.spare ∷ []

  stay : AreNumbers e.graph is.names ns
  stay =
      numbers_stay g e.graph (λ b n one. ap (λ (o : Object). o.fields)
      (e.spares.objects b (not_ring g r.ring is.names is.ring b n one)) ∙ one) is.names ns
      is.numbers

  abbrev pub Got : Control → Option ℕ → Type 0
  Got z t = Does s 2 h z rs cs.array g (λ k. IsRecords k r ns × (t ≡ first_of (drop i ns)))

  pub got_none : v ≡ None → Got y None
  got_none none =
      let t : IsGiven g e.graph d v (first_of (drop i ns)) =
      given g e.graph d is.names ns is.numbers i v e.holds.1 in
      record {
        graph = e.graph;
        has = e.has;
        took = record {
          config = e.took.config;
          commands = omega (arith, e.took.commands);
          objects = e.took.objects;
          units = e.took.units;
        };
        spares = spares_wider (d ∷ []) rs cs.array g e.graph (λ q no. (no.0, tt)) e.spares;
        holds = (
          record {
            names = is.names;
            ring = e.holds.0;
            numbers = stay;
            free = λ b is_ref. is.free b (sym (e.spares.registers cs.spare
                ((λ same. not_spare (sym same)), tt)) ∙ is_ref);
          },
          sym (subst (λ k. IsGiven g e.graph d k (first_of (drop i ns))) none t),
        );
      }

  -- its number is loaded
  pub got_number : (law : QuietLaw) → HasRoom 2 h → (u : Value) → v ≡ Some u → (z : Control)
      (acts : Acts (List ℕ) (Unit {0})) (x : Result Value Fault) → z.config ≡ y.config
      → HasReturned replies.Val acts y (commands.Get cs.spare d 0) z x
      → IsOkAnd x (λ w. (n : ℕ) × (w ≡ Int n) × (n < 2 ^ 32) × Got z (Some n))
  got_number law room u some z acts x same told =
      let t : IsGiven g e.graph d (Some u) (first_of (drop i ns)) =
      subst (λ k. IsGiven g e.graph d k (first_of (drop i ns))) some
      (given g e.graph d is.names ns is.numbers i v e.holds.1) in
      let n : ℕ = t.1 in
      let k : Graph = e.graph in
      let fields : (object_of k t.0).fields ≡ Int n ∷ [] =
      ap (λ (o : Object). o.fields) (e.spares.objects t.0
      (not_ring g r.ring is.names is.ring t.0 n t.3)) ∙ t.3 in
      let alone : HasOneThread k = lone_of s y k e.has in
      let one : IsCells k (record { array = t.0; base = d; spare = cs.spare; size = 1 })
      (Int n ∷ []) = record {
        base = t.2;
        named = has_field k t.0 0 (omega (arith, ap length fields));
        values = fields;
        size = refl;
        placed = record {
          size = omega arith;
          base = low;
          spare = is.ring.cells.placed.spare;
          apart = λ eq. not_spare (sym eq);
        };
      } in
      let by = get_step k _ (Int n ∷ []) alone one cs.spare 0 (omega arith) in
      let m : Graph = (step k 0 (commands.Set cs.spare n)).0 in
      let st = set_stores k cs e.holds.0.array alone e.holds.0.cells cs.spare n
      is.ring.cells.placed.spare is.ring.cells.placed.apart in
      ok_map _ _ x
      (λ w p. (
        n,
        ap value_in p.0,
        t.4,
        record {
          graph = m;
          has = subst (λ (q : Graph × Reply). Has s z q.0) by p.1;
          took = took_both 1 1 h y z e.took p.2;
          spares = spares_both rs cs.array g k m
              (spares_wider (d ∷ []) rs cs.array g k (λ q no. (no.0, tt)) e.spares)
              (spares_wider (cs.spare ∷ []) rs cs.array k m (λ q no. no.1) st.spares);
          holds = (
            record {
              names = is.names;
              ring = round_same k cs r.ring.first r.ring.count (map Ref is.names) e.holds.0 m
                  st.cells;
              numbers = numbers_stay k m (λ b j eq. ap (λ (o : Object). o.fields)
                  (st.spares.objects b (not_ring k r.ring is.names e.holds.0 b j eq)) ∙ eq) is.names
                  ns stay;
              free = λ b is_ref. let bad : Int n ≡ Ref b = sym st.value ∙ is_ref in absurd cc;
            },
            sym t.5,
          );
        },
      ))
      (told_ok law replies.Val s y z k (commands.Get cs.spare d 0) (refl, refl) e.has
      (room_after 1 1 h y e.took room)
      (plain_fits refl refl tt (is.ring.cells.placed.spare, low, omega arith)) same
      (replies.Val (Int n)) (ap (λ (q : Graph × Reply). q.1) by) refl acts x told)

-- ---- how many blocks are live

one_block : (w : Width) (k : ObjectKind) → blocks_of_kind w k 1 ≤ 1
unfolding tree
one_block Four Record = omega arith
one_block Four Array = omega arith
one_block Eight Record = omega arith
one_block Eight Array = omega arith

-- the blocks of an object, by its length alone
pub blocks_by : (w : Width) (g : Graph) (b : Name) (n most : ℕ) → length (object_of g b).fields ≡ n
    → ((k : ObjectKind) → blocks_of_kind w k n ≤ most) → object_blocks w (object_of g b) ≤ most
blocks_by w g b n most long few =
    subst (λ m. blocks_of_kind w (object_of g b).kind m ≤ most) (sym long) (few (object_of g
    b).kind)

pub one_field : (w : Width) (g : Graph) (b : Name) (v : Value) → (object_of g b).fields ≡ v ∷ []
    → object_blocks w (object_of g b) ≤ 1
one_field w g b v e = blocks_by w g b 1 1 (ap length e) (one_block w)

-- the one field refers to no object
not_ref : (fs : List Value) (v : Value) (i : ℕ) (x : Name) → fs ≡ v ∷ []
    → (v ≡ Ref x → ⊥) → slice_index_or fs i Nil ≡ Ref x → ⊥
not_ref fs v zero x e plain is = plain (sym (ap (λ vs. slice_index_or vs 0 Nil) e) ∙ is)
not_ref fs v (suc i) x e plain is =
    let bad : Nil ≡ Ref x = sym (ap (λ vs. slice_index_or vs (suc i) Nil) e) ∙ is in absurd cc

no_alarm : (xs : List Alarm) (i : ℕ) (x : Name) → slice_index_or (map value_of xs) i Nil ≢ Ref x
no_alarm [] i x e = absurd cc
no_alarm (y ∷ xs) zero x e = absurd cc
no_alarm (y ∷ xs) (suc i) x e = no_alarm xs i x e

pub alarms_plain : (g : Graph) (l : AlarmList) (xs : List Alarm) → IsAlarms g l xs
    → (x : Name) (i : ℕ)
    → field_of (object_of g l.cells.array) i ≢ Ref x
alarms_plain g l xs is x i e =
    let at = at_place g l.cells 0 l.count (map value_of xs) is i in no_alarm xs at.0 x (sym at.1 ∙
    e)

pub nils_plain : (g : Graph) (b : Name) (n : ℕ) → (object_of g b).fields ≡ nils n → (x : Name)
    (i : ℕ) → field_of (object_of g b) i ≢ Ref x
nils_plain g b n nil x i e =
    let bad : Nil ≡ Ref x =
    sym (nil_of n i) ∙ sym (ap (λ fs. slice_index_or fs i Nil) nil) ∙ e in absurd cc

-- these objects refer to none, one by one
pub plain_by : (g : Graph) (bs : List Name)
    → AllByRecursion (λ c. (x : Name) (i : ℕ) → field_of (object_of g c) i ≢ Ref x) bs → ArePlain g
    bs
plain_by g [] all b x i among e = absurd cc
plain_by g (c ∷ bs) all b x i among e = elim (or_cases (same_name b c) (is_among bs b) among) [
  | inl same ↦ all.0 x i (ap (λ m. field_of (object_of g m) i) (sym (one_name b c same)) ∙ e)
  | inr more ↦ plain_by g bs all.1 b x i more e
]

-- these registers refer to these objects, and the others to none
pub refer_by : (g : Graph) (q : ℕ) (b : Name) (os : List (ℕ × Name))
    → AllByRecursion (λ o. held g o.0 ≡ Ref o.1) os
    → (IsNone (map (λ o. o.0) os) q → held g q ≢ Ref b) → held g q ≡ Ref b
    → is_among (map (λ o. o.1) os) b ≡ true
refer_by g q b [] all none e = absurd (none tt e)
refer_by g q b (o ∷ os) all none e = elim (cases_eq q o.0) [
  | inl is ↦
      let both : Ref o.1 ≡ Ref b = sym all.0 ∙ ap (held g) (sym is) ∙ e in
      let same : b ≡ o.1 = cc in
      or_left (same_name b o.1) (is_among (map (λ p. p.1) os) b)
      (subst (λ y. same_name b y ≡ true) same (same_itself b))
  | inr ne ↦ or_right (same_name b o.1) (is_among (map (λ p. p.1) os) b)
      (refer_by g q b os all.1 (λ no. none (ne, no)) e)
]

in_names : (bs : List Name) (i : ℕ) (x : Name) → slice_index_or (map Ref bs) i Nil ≡ Ref x
    → is_among bs x ≡ true
in_names [] i x e = absurd cc
in_names (b ∷ bs) zero x e =
    let same : x ≡ b = cc in
    or_left (same_name x b) (is_among bs x) (subst (λ y. same_name x y ≡ true) same (same_itself x))
in_names (b ∷ bs) (suc i) x e = or_right (same_name x b) (is_among bs x) (in_names bs i x e)

number_of : (g : Graph) (bs : List Name) (ns : List ℕ) → AreNumbers g bs ns → (b : Name)
    → is_among bs b ≡ true → (n : ℕ) × ((object_of g b).fields ≡ Int n ∷ [])
number_of g [] [] are b e = absurd cc
number_of g (a ∷ bs) (n ∷ ns) are b e = elim (or_cases (same_name b a) (is_among bs b) e) [
  | inl same ↦ (n, ap (λ m. (object_of g m).fields) (one_name b a same) ∙ are.0)
  | inr more ↦ number_of g bs ns are.2 b more
]
number_of g [] (n ∷ ns) are b e = absurd are
number_of g (a ∷ bs) [] are b e = absurd are

weigh : (w : Width) (g : Graph) (bs : List Name) (ns : List ℕ) → AreNumbers g bs ns
    → sum_by (λ b. object_blocks w (object_of g b)) bs ≤ length ns
weigh w g [] [] are = omega arith
weigh w g (a ∷ bs) (n ∷ ns) are =
    let rest = weigh w g bs ns are.2 in
    let here = one_field w g a (Int n) are.0 in
    let split = sum_by-cons (λ b. object_blocks w (object_of g b)) a bs in
    omega (arith, rest, here, split)
weigh w g [] (n ∷ ns) are = absurd are
weigh w g (a ∷ bs) [] are = absurd are

module _ (w : Width) (g : Graph) (r : Records) (ns : List ℕ) (others : List Name)
    (one : length g.mutators ≡ 1) (is : IsRecords g r ns)
    (refer : ReferOnly g (r.ring.cells.array ∷ others)) (plain : ArePlain g others) where
  abbrev a : Name
  a = r.ring.cells.array

  abbrev some : List Name
  some = a ∷ (others ++ is.names)

  rest_is : (b : Name) → is_among (others ++ is.names) b
      ≡ (is_among others b || is_among is.names b)
  rest_is b = list_any-append (λ s. same_name b s) others is.names

  registers : (t q : ℕ) (b : Name) → register_of g t q ≡ Ref b → is_among some b ≡ true
  registers (suc t) q b e = absurd (omega (arith, thread_of g (suc t) q b e, one))
  registers zero q b e = elim (or_cases (same_name b a) (is_among others b) (refer q b e)) [
    | inl same ↦ or_left (same_name b a) (is_among (others ++ is.names) b) same
    | inr other ↦ or_right (same_name b a) (is_among (others ++ is.names) b)
        (rest_is b ∙ or_left (is_among others b) (is_among is.names b) other)
  ]

  fields : (b x : Name) (i : ℕ) → is_among some b ≡ true → field_of (object_of g b) i ≡ Ref x
      → is_among some x ≡ true
  fields b x i among e =
      elim (or_cases (same_name b a) (is_among (others ++ is.names) b) among) [
        | inl same ↦
            let at = at_place g r.ring.cells r.ring.first r.ring.count (map Ref is.names) is.ring i
            in
            or_right (same_name x a) (is_among (others ++ is.names) x)
            (rest_is x ∙ or_right (is_among others x) (is_among is.names x)
            (in_names is.names at.0 x (sym at.1
            ∙ ap (λ m. field_of (object_of g m) i) (sym (one_name b a same)) ∙ e)))
        | inr rest ↦
            elim (or_cases (is_among others b) (is_among is.names b) (sym (rest_is b) ∙ rest)) [
              | inl other ↦ absurd (plain b x i other e)
              | inr name ↦
                  let n = number_of g is.names ns is.numbers b name in
                  absurd (not_ref (object_of g b).fields (Int n.0) i x n.1
                  (λ bad. let no : Int n.0 ≡ Ref x = bad in absurd cc) e)
            ]
      ]

  pub few_live : live_blocks w g
      ≤ registers_end w 1 + (sum_by (λ b. object_blocks w (object_of g b)) others
      + (object_blocks w (object_of g a) + length ns))
  few_live =
      let f : Name → ℕ = λ b. object_blocks w (object_of g b) in
      let all = within w g some (record {
        registers = registers;
        fields = λ b x i m e. fields b x i
            m e;
      }) in
      let first = sum_by-cons f a (others ++ is.names) in
      let both = sum_by-append f others is.names in
      let numbers = weigh w g is.names ns is.numbers in
      let same = ap (registers_end w) one in
      omega (arith, all, first, both, numbers, same)
