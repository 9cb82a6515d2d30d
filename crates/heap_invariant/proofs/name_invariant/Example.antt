-- The events of the example may come one after another, and lead to the next cycle.
use Rattle.std.proofs.Common.{◌≡◌, ◌≢◌, ℕ, zero, suc, ◌≤◌, ◌<◌, inl, inr, Bool, true, false, ◌&&◌, ltb, refl, arith, subst, sym, ap, ◌∙◌, Option, Some, None, List, [], ◌∷◌, ◌++◌, take, ne_eqb, eqb, eqb-true, ◌+◌, ◌^◌}
use Rattle.std.proofs.lemmas.Bool.{cases_lt, and_parts, ltb-true, lt-leb, le-leb}
use Rattle.block_store.specs.declared.Config.{Config}
use Rattle.block_store.specs.declared.Value.TheVariants.{Ref}
use Rattle.block_store.specs.declared.Width.{Width}
use Rattle.block_store.specs.declared.Width.TheVariants.{Four, Eight}
use Rattle.block_store.specs.Colours.{kind, is_free, is_grey, free_word, grey_word, black_word, white_word}
use Rattle.block_store.specs.Configs.{IsInBounds}
use Rattle.block_store.specs.WideOwners.{wide_word}
use Rattle.block_store.specs.Payloads.{target, reference_word, number_word}
use Rattle.block_store.specs.Registers.{root_block, registers_end}
use Rattle.block_store.specs.Widths.{payloads}
use Rattle.block_store.specs.declared.Shape.TheVariants as shapes
use Rattle.block_store.specs.Shapes.{record_word, shape_of}
use Rattle.block_store.proofs.Lemmas.{free-black, free-white, root_first}
use Rattle.array_trees.specs.Levels.{tree_depth}
use Rattle.array_trees.specs.InitialHeaps.{opening_blocks}
use Rattle.array_trees.specs.Trees.{tree}
use Rattle.never_heap.specs.Graphs.{register_of}
use Rattle.never_heap.specs.Reach.{reachable}
use Rattle.block_store.specs.declared.Value.TheVariants.{Nil}
use Rattle.never_heap.specs.declared.Entry.{Entry}
use Rattle.never_heap.specs.declared.Command.TheVariants as commands
use Rattle.never_heap.specs.declared.Reply.TheVariants as replies
use Rattle.never_heap.specs.Histories.{Did, IsAnswered, after}
use Rattle.heap_invariant.specs.graph_relation.Events.{ObjectLoad, ValueLoad, Loading, HasObject, IsAtField, IsPrompt, object_at, register_word_in, unloaded}
use Rattle.heap_invariant.specs.name_invariant.Building.{Build, build_in, build_blocks, IsHeldOnce}
use Rattle.heap_invariant.specs.name_invariant.Colouring.{IfRefers, IsTricolour, NotRoot}
use Rattle.block_store.specs.Counts.{changed}
use Rattle.heap_invariant.specs.name_invariant.States.{KeptState}
use Rattle.heap_invariant.specs.name_invariant.Events.{KeptEvent, Guard, apply, run, Guarded, IsAlone, IsWriting, build_at, held_at, loaded_word}
use Rattle.heap_invariant.specs.name_invariant.Events.KeptEvent.{Decide, ReadWord, ShadeRead, Blacken, Flip, Free, Reserve, Collect, WriteOwner, WriteShape, WritePayload, WriteColour, Publish, ShadeRoot}
use Rattle.heap_invariant.specs.graph_relation.Events.Event.{StoreConstant}
use Rattle.heap_invariant.specs.graph_relation.Layouts.{layout_blocks, shape_part}
use Rattle.object_lists.specs.Parts.{Field}
use Rattle.never_heap.specs.Graphs.{count_of}
use Rattle.heap_invariant.specs.name_invariant.InitialHeaps.{OpeningColours}
use Rattle.heap_invariant.specs.name_invariant.Example.{array_block, unpaid, one_thread, first_colours, mark_events, build_events, put_events, start_events, nil_swap_events, read_events, cas_events, swap_events, last_events, command_events, some_events, array_name, record_name, example_start, example_end}
use Rattle.heap_invariant.proofs.name_invariant.Colours.{changed_else}
use Rattle.heap_invariant.proofs.name_invariant.DecidableFacts.{decided, mapped, ◌&◌, is_bool, below, equal, unequal, if_equal, is_none, each_below, at_most, if_true, three, four, five}

-- one guard after another
infixr 5 ◌▸◌
◌▸◌ : {A B : Type 0} → A → B → A × B
a ▸ b = (a, b)

-- one list of events after another
guarded_on : (c : Config) (s : KeptState) (es fs : List KeptEvent) → Guarded c s es
    → Guarded c (run c s es) fs → Guarded c s (es ++ fs)
guarded_on c s [] fs q r = r
guarded_on c s (e ∷ es) fs q r = (q.0, guarded_on c (apply c s e) es fs q.1 r)

-- there is one thread
only_zero : (P : ℕ → Type 0) → P 0 → (t : ℕ) → t < 1 → P t
only_zero P here zero h = here
only_zero P here (suc t) h = absurd (omega arith)

two : (P : ℕ → Type 0) → P 0 → P 1 → (o : ℕ) → o < 2 → P o
two P a b zero h = a
two P a b (suc zero) h = b
two P a b (suc (suc o)) h = absurd (omega arith)

-- one builder with two blocks
held_once : (builds : ℕ → Option Build) (b : Build) (o : ℕ) → builds 0 ≡ Some b → b.collected ≡ 2
    → (b.held 0 ≡ b.held 1 → ⊥) → o < 2 → IsHeldOnce 1 builds 0 o (b.held o)
held_once builds b o is all apart ol u p d un builds_it pl lo e = only_zero
    (λ u. builds u ≡ Some d → (0 ≡ u) × (o ≡ p)) (λ f.
    (let one : Some b ≡ Some d = sym is ∙ f in
    let same : b ≡ d = cc in
    let held : b.held o ≡ b.held p = e ∙ ap (λ (b : Build). b.held p) (sym same) in
    let pl2 : p < 2 = subst (λ z. p < z) all (subst (λ (b : Build). p < b.collected) (sym same) pl)
    in (
      refl,
      two (λ o. b.held o ≡ b.held p → o ≡ p)
          (two (λ p. b.held 0 ≡ b.held p → 0 ≡ p) (λ _. refl) (λ h. absurd (apart h)) p pl2)
          (two (λ p. b.held 1 ≡ b.held p → 1 ≡ p) (λ h. absurd (apart (sym h))) (λ _. refl) p pl2)
          o ol held,
    ))) u un builds_it

-- colours that were written one after another, the last one first
abbrev painted : List (ℕ × ℕ) → (ℕ → ℕ) → ℕ → ℕ
painted [] f x = f x
painted (w ∷ ws) f x = changed (painted ws f) w.0 w.1 x

abbrev all_below : List (ℕ × ℕ) → ℕ → Bool
all_below [] b = true
all_below (w ∷ ws) b = ltb w.0 b && all_below ws b

far : (ws : List (ℕ × ℕ)) (f : ℕ → ℕ) (b x : ℕ) → all_below ws b ≡ true → b ≤ x
    → painted ws f x ≡ f x
far [] f b x h le = refl
far (w ∷ ws) f b x h le =
    let p = and_parts (ltb w.0 b) (all_below ws b) h in
    let low : w.0 < b = ltb-true _ _ p.0 in
    changed_else (painted ws f) w.0 w.1 x (λ e. omega arith) ∙ far ws f b x p.1 le

array_within : (W : Width) → (1 < array_block W) × (array_block W < 9)
array_within Four = (omega arith, omega arith)
array_within Eight = (omega arith, omega arith)

behind_free : (W : Width) (x : ℕ) → array_block W < x → first_colours W x ≡ free_word 0
behind_free W x h =
    let low = (array_within W).0 in
    rw (
      ne_eqb x 0 (λ e. omega arith),
      ne_eqb x 1 (λ e. omega arith),
      lt-leb x (array_block W) h,
    ) refl

array_white : (W : Width) (x : ℕ) → 0 < x → x ≤ array_block W → NotRoot W 1 x
    → first_colours W x ≡ white_word 1
array_white W x some low other =
    let ne : x ≢ 1 = subst (λ y. x ≢ y) (root_first W) (other 0 (omega arith)) in
    rw (
      ne_eqb x 0 (λ e. omega arith),
      ne_eqb x 1 ne,
      le-leb x (array_block W) low,
    ) refl

first_far : (W : Width) (x : ℕ) → 9 ≤ x → first_colours W x ≡ free_word 0
first_far W x h = behind_free W x (omega (arith, (array_within W).1))

pub bounds : (W : Width) → IsInBounds (one_thread W)
bounds W = record {
  some_thread = omega arith;
  threads = omega arith;
  some_block = omega arith;
  blocks = omega arith;
  live = omega arith;
  some_object = omega arith;
  object = omega arith;
  shared = omega arith;
}

opens : (W : Width) → opening_blocks (one_thread W) ≡ array_block W
unfolding target reference_word number_word wide_word kind grey_word free_word black_word
    white_word tree tree_depth record_word shape_of
opens Four = refl
opens Eight = refl

pub room : (W : Width) → opening_blocks (one_thread W) ≤ 20
room W = let low = (array_within W).1 in omega (arith, opens W, low)

pub first_are : (W : Width) → OpeningColours (one_thread W) (first_colours W)
unfolding target reference_word number_word wide_word kind grey_word free_word black_word
    white_word tree tree_depth record_word shape_of
first_are W = record {
  roots = only_zero (λ t. is_grey (first_colours W (root_block W t)) ≡ true) (rw (root_first W) refl);
  none = refl;
  arrays = λ x some low. array_white W x some (subst (λ n. x ≤ n) (opens W) low);
  others = λ x high.
      ap is_free (behind_free W x (subst (λ n. n < x) (opens W) high));
}

abbrev marked : Width → KeptState
marked W = run (one_thread W) (example_start W) (mark_events W)

abbrev some_build : (o : Option Build) → Option (o ≡ Some (build_in o))
some_build None = None
some_build (Some b) = Some refl

none_loaded : (o : Option ObjectLoad) (x v : Option ValueLoad) → o ≡ None → x ≡ None → v ≡ None
    → record { object = o; expected = x; value = v } ≡ unloaded
none_loaded o x v a b c = cc

abbrev is_unloaded : (l : Loading) → Option (l ≡ unloaded)
is_unloaded l = mapped (λ p. none_loaded l.object l.expected l.value p.0 p.1 p.2)
    (three (is_none l.object) (is_none l.expected) (is_none l.value))

-- a word of the record is next
writing : (W : Width) (s : KeptState) (o words : ℕ) → s.builds 0 ≡ Some (build_at s 0)
    → (build_at s 0).collected ≡ 2 → build_blocks W (build_at s 0) ≡ 2
    → (held_at s 0 0 ≡ held_at s 0 1 → ⊥)
    → suc o ≡ (build_at s 0).left → (build_at s 0).step ≡ words → o < 2
    → IsWriting (one_thread W) s 0 o words
writing W s o words is all blocks apart next step ol = record {
  building = (omega arith, is);
  all = all ∙ sym blocks;
  next = next;
  step = step;
  once = held_once s.builds (build_at s 0) o is all apart ol;
}

abbrev writes : (W : Width) (s : KeptState) (o words : ℕ)
    → Option (IsWriting (one_thread W) s 0 o words)
writes W s o words =
    mapped (λ p. writing W s o words p.0 p.1.0 p.1.1.0 p.1.1.1.0 p.1.1.1.1.0 p.1.1.1.1.1.0
    p.1.1.1.1.1.1)
    (some_build (s.builds 0) & equal (build_at s 0).collected 2
    & equal (build_blocks W (build_at s 0)) 2 & unequal (held_at s 0 0) (held_at s 0 1)
    & equal (suc o) (build_at s 0).left & equal (build_at s 0).step words & below o 2)

abbrev builds : (s : KeptState) (t : ℕ)
    → Option ((t < 1) × (s.builds t ≡ Some (build_at s t)))
builds s t = below t 1 & some_build (s.builds t)

-- whether an event may come, for those of marking and building that computing decides
abbrev may : (W : Width) (s : KeptState) (e : KeptEvent) → Option (Guard (one_thread W) s e)
may W s (ReadWord t x j) =
    three (is_bool s.sweep false) (is_bool (is_grey (s.colour x)) true) (below j (payloads W))
may W s (ShadeRead t a) =
    four (is_bool s.sweep false) (below t 1) (unequal (s.scans t) 0)
    (equal (s.colour (s.scans t)) (white_word s.cycle))
may W s (Blacken x) = is_bool s.sweep false & is_bool (is_grey (s.colour x)) true
may W s (Free x a) = is_bool s.sweep true & equal (s.colour x) (white_word s.cycle)
may W s (Reserve t made size) =
    five (below t 1) (is_none (s.builds t)) (below (count_of s.seen.graph t + 1) (2 ^ 43))
    (at_most (layout_blocks W made size) 1024) (at_most t 16)
may W s (Collect t x) =
    three (builds s t) (below (build_at s t).collected (build_blocks W (build_at s t)))
    (three (below (registers_end W 1) x) (at_most x 20) (is_bool (is_free (s.colour x)) true))
may W s (WriteOwner zero o) = writes W s o 0
may W s (WriteShape zero o) = writes W s o 1
may W s (WritePayload zero o j) = writes W s o (j + 2) & below j (payloads W)
may W s (WriteColour zero o) = writes W s o (payloads W + 2)
may W s (Publish t d work) =
    five (builds s t) (equal (build_at s t).collected (build_blocks W (build_at s t)))
    (equal (build_at s t).left 0) (below d 16) (is_unloaded (s.seen.loads t))
may W s _ = None

abbrev may_all : (W : Width) (s : KeptState) (es : List KeptEvent)
    → Option (Guarded (one_thread W) s es)
may_all W s [] = Some tt
may_all W s (e ∷ es) = may W s e & may_all W (apply (one_thread W) s e) es

abbrev rest : List KeptEvent → List KeptEvent
rest [] = []
rest (e ∷ es) = es

abbrev give_up : KeptEvent
give_up = Decide (StoreConstant 0 0 Nil) (unpaid (commands.Nil 0) replies.Stored)

abbrev marking_on : (W : Width)
    → Option (Guarded (one_thread W) (apply (one_thread W) (example_start W) give_up)
    (rest (mark_events W)))
marking_on W = may_all W (apply (one_thread W) (example_start W) give_up) (rest (mark_events W))

gives_up : (W : Width) → Guard (one_thread W) (example_start W) give_up
gives_up W = ((omega arith, omega arith, refl, tt), (omega arith, refl, inl refl), refl, refl)

marking : (W : Width) → Guarded (one_thread W) (example_start W) (mark_events W)
unfolding target reference_word number_word wide_word kind grey_word free_word black_word
    white_word tree tree_depth record_word shape_of
marking Four = gives_up Four ▸ decided (marking_on Four) refl
marking Eight = gives_up Eight ▸ decided (marking_on Eight) refl

abbrev marks : Width → List (ℕ × ℕ)
marks Four = (5, black_word 1) ∷ (4, black_word 1) ∷ (3, black_word 1) ∷ (2, black_word 1) ∷
    (1, black_word 1) ∷ (5, grey_word 0) ∷ (4, grey_word 0) ∷ (3, grey_word 0) ∷
    (2, grey_word 0) ∷ []
marks Eight = (3, black_word 1) ∷ (2, black_word 1) ∷ (1, black_word 1) ∷ (3, grey_word 0) ∷
    (2, grey_word 0) ∷ []

marked_far : (W : Width) (x : ℕ) → 9 ≤ x → (marked W).colour x ≡ free_word 0
unfolding target reference_word number_word wide_word kind grey_word free_word black_word
    white_word tree tree_depth record_word shape_of
marked_far Four x m = far (marks Four) (first_colours Four) 9 x refl m ∙ first_far Four x m
marked_far Eight x m = far (marks Eight) (first_colours Eight) 9 x refl m ∙ first_far Eight x m

abbrev greys : (W : Width) → Option ((x : ℕ) → x < 9 → is_grey ((marked W).colour x) ≡ false)
greys W = each_below (λ x. is_grey ((marked W).colour x) ≡ false) 9
    (λ x. is_bool (is_grey ((marked W).colour x)) false)

low_grey : (W : Width) (x : ℕ) → x < 9 → is_grey ((marked W).colour x) ≡ false
unfolding target reference_word number_word wide_word kind grey_word free_word black_word
    white_word tree tree_depth record_word shape_of
low_grey Four = decided (greys Four) refl
low_grey Eight = decided (greys Eight) refl

none_grey : (W : Width) (x : ℕ) → is_grey ((marked W).colour x) ≡ false
unfolding target reference_word number_word wide_word kind grey_word free_word black_word
    white_word tree tree_depth record_word shape_of
none_grey W x = elim (cases_lt x 9) [
  | inl low ↦ low_grey W x low
  | inr high ↦ ap is_grey (marked_far W x high)
]

-- where a word refers to no white block
abbrev if_refers : (P : ℕ → Type 0) (v : ℕ) → Option (P (target v)) → Option (IfRefers P v)
if_refers P v (Some p) = Some (λ some. p)
if_refers P v None = if_true (eqb (target v) 0) (λ h some. absurd (some (eqb-true _ _ h)))

abbrev IsSolid : Width → ℕ → ℕ → Type 0
IsSolid W x j = (marked W).colour x ≡ black_word 1
    → IfRefers (λ y. (marked W).colour y ≢ white_word 1) ((marked W).seen.words.payload x j)

abbrev solid : (W : Width) → Option ((x : ℕ) → x < 9 → (j : ℕ) → j < payloads W → IsSolid W x j)
solid W = each_below (λ x. (j : ℕ) → j < payloads W → IsSolid W x j) 9
    (λ x. each_below (IsSolid W x) (payloads W)
    (λ j. if_equal ((marked W).colour x) (black_word 1)
    (if_refers (λ y. (marked W).colour y ≢ white_word 1) ((marked W).seen.words.payload x j)
    (unequal ((marked W).colour (target ((marked W).seen.words.payload x j))) (white_word 1)))))

low_solid : (W : Width) (x : ℕ) → x < 9 → (j : ℕ) → j < payloads W → IsSolid W x j
unfolding target reference_word number_word wide_word kind grey_word free_word black_word
    white_word tree tree_depth record_word shape_of
low_solid Four = decided (solid Four) refl
low_solid Eight = decided (solid Eight) refl

tricolour : (W : Width) → IsTricolour W 1 (marked W).colour (marked W).seen.words.payload
tricolour W x j b jl = elim (cases_lt x 9) [
  | inl low ↦ low_solid W x low j jl b
  | inr high ↦ absurd (free-black 0 1 (sym (marked_far W x high) ∙ b))
]

alone : (W : Width) (s : KeptState) → s.seen.loads 0 ≡ unloaded → s.scans 0 ≡ 0
    → s.builds 0 ≡ None → IsAlone (one_thread W) s
alone W s loads scans builds = record {
  loads = only_zero (λ t. s.seen.loads t ≡ unloaded) loads;
  scans = only_zero (λ t. s.scans t ≡ 0) scans;
  builds = only_zero (λ t. s.builds t ≡ None) builds;
}

abbrev building_on : (W : Width)
    → Option (Guarded (one_thread W) (apply (one_thread W) (marked W) Flip) (rest (build_events W)))
building_on W = may_all W (apply (one_thread W) (marked W) Flip) (rest (build_events W))

building : (W : Width) → Guarded (one_thread W) (marked W) (build_events W)
unfolding target reference_word number_word wide_word kind grey_word free_word black_word
    white_word tree tree_depth record_word shape_of
building Four =
    (refl, alone Four (marked Four) refl refl refl, none_grey Four, tricolour Four)
    ▸ decided (building_on Four) refl
building Eight =
    (refl, alone Eight (marked Eight) refl refl refl, none_grey Eight, tricolour Eight)
    ▸ decided (building_on Eight) refl

abbrev built : Width → KeptState
built W = run (one_thread W) (marked W) (build_events W)

-- the record refers to itself
abbrev stored : Width → KeptState
stored W = run (one_thread W) (built W) (put_events W)

-- the root is shaded
abbrev shaded : Width → KeptState
shaded W = apply (one_thread W) (stored W) (ShadeRoot 0 0)

abbrev built_marks : Width → List (ℕ × ℕ)
built_marks Four = (1, grey_word 0) ∷ (6, black_word 1) ∷ (7, black_word 1) ∷ (6, free_word 0) ∷
    (5, black_word 1) ∷ (4, black_word 1) ∷ (3, black_word 1) ∷ (2, black_word 1) ∷
    (1, black_word 1) ∷ (5, grey_word 0) ∷ (4, grey_word 0) ∷ (3, grey_word 0) ∷
    (2, grey_word 0) ∷ []
built_marks Eight = (1, grey_word 0) ∷ (4, black_word 1) ∷ (5, black_word 1) ∷ (4, free_word 0) ∷
    (3, black_word 1) ∷ (2, black_word 1) ∷ (1, black_word 1) ∷ (3, grey_word 0) ∷
    (2, grey_word 0) ∷ []

shaded_far : (W : Width) (x : ℕ) → 9 ≤ x → (shaded W).colour x ≡ free_word 0
unfolding target reference_word number_word wide_word kind grey_word free_word black_word
    white_word tree tree_depth record_word shape_of
shaded_far Four x m = far (built_marks Four) (first_colours Four) 9 x refl m ∙ first_far Four x m
shaded_far Eight x m = far (built_marks Eight) (first_colours Eight) 9 x refl m
    ∙ first_far Eight x m

abbrev whites : (W : Width) → Option ((x : ℕ) → x < 9 → (shaded W).colour x ≢ white_word 1)
whites W = each_below (λ x. (shaded W).colour x ≢ white_word 1) 9
    (λ x. unequal ((shaded W).colour x) (white_word 1))

low_white : (W : Width) (x : ℕ) → x < 9 → (shaded W).colour x ≢ white_word 1
unfolding target reference_word number_word wide_word kind grey_word free_word black_word
    white_word tree tree_depth record_word shape_of
low_white Four = decided (whites Four) refl
low_white Eight = decided (whites Eight) refl

none_white : (W : Width) (x : ℕ) → (shaded W).colour x ≢ white_word 1
none_white W x e = elim (cases_lt x 9) [
  | inl low ↦ low_white W x low e
  | inr high ↦ free-white 0 1 (sym (shaded_far W x high) ∙ e)
]

starting_on : (W : Width) (s : KeptState) → s.sweep ≡ true
    → IsAlone (one_thread W) (apply (one_thread W) s (ShadeRoot 0 0))
    → ((x : ℕ) → (apply (one_thread W) s (ShadeRoot 0 0)).colour x ≢ white_word s.cycle)
    → Guarded (one_thread W) s start_events
starting_on W s mark alone none =
    (mark, omega arith)
    ▸ (
      mark,
      alone,
      none,
      only_zero (λ t. (apply (one_thread W) s (ShadeRoot 0 0)).shaded t ≡ true)
          refl,
    )
    ▸ tt

starting : (W : Width) → Guarded (one_thread W) (stored W) start_events
starting Four = starting_on Four (stored Four) refl (alone Four (shaded Four) refl refl refl)
    (none_white Four)
starting Eight = starting_on Eight (stored Eight) refl (alone Eight (shaded Eight) refl refl refl)
    (none_white Eight)

-- the state after the first k of these events
abbrev state_at : Width → KeptState → List KeptEvent → ℕ → KeptState
state_at W s es k = run (one_thread W) s (take k es)

-- register 0 refers to an object, whose shape is the record's, and whose payload 1 is its field 0
abbrev IsFound : Width → KeptState → Type 0
IsFound W s = target (register_word_in W s.seen.words 0 0) ≢ 0

abbrev HasShape : Width → KeptState → Type 0
HasShape W s = shape_of (s.seen.words.shape (object_at s.seen 0).block)
    ≡ Some (shapes.List (payloads W))

abbrev IsAtFirst : Width → KeptState → Type 0
IsAtFirst W s = IsAtField W s.seen 0 record_name 0 1

-- the loaded value refers to a white block
abbrev IsLoadedWhite : KeptState → Type 0
IsLoadedWhite s = (target (loaded_word s 0) ≢ 0)
    × (s.colour (target (loaded_word s 0)) ≡ white_word s.cycle)

-- the entry is that of the step from s, which leads to z
abbrev IsStep : KeptState → KeptState → Entry → Type 0
IsStep s z entry = IsAnswered s.seen.graph (Did entry)
    × (z.seen.graph ≡ after s.seen.graph (Did entry))

module _ (W : Width) (s : KeptState) (prompt : IsPrompt (s.seen.loads 0)) where
  -- what `put 0 0 0` reads, at either width
  putting_on : IsFound W s → HasShape W (state_at W s (put_events W) 1)
      → IsAtFirst W (state_at W s (put_events W) 3)
      → IsStep (state_at W s (put_events W) 3) (state_at W s (put_events W) 4)
      (unpaid (commands.Put 0 0 0) replies.Stored)
      → Guarded (one_thread W) s (put_events W)
  putting_on found shape field step =
      ((omega arith, omega arith, prompt, found), refl)
      ▸ ((omega arith, refl, shape), refl)
      ▸ ((omega arith, omega arith, prompt), refl)
      ▸ ((omega arith, refl, refl, field), (omega arith, refl, step.0), refl, step.1)
      ▸ tt

  -- what `swap 0 0 1` reads; it shades the white block to which the field referred
  nil_swapping_on : s.sweep ≡ false → IsFound W s
      → HasShape W (state_at W s (nil_swap_events W) 1)
      → IsAtFirst W (state_at W s (nil_swap_events W) 3)
      → IsStep (state_at W s (nil_swap_events W) 3) (state_at W s (nil_swap_events W) 4)
      (unpaid (commands.Swap 0 0 1) (replies.Val (Ref record_name)))
      → IsLoadedWhite (state_at W s (nil_swap_events W) 4)
      → Guarded (one_thread W) s (nil_swap_events W)
  nil_swapping_on mark found shape field step white =
      ((omega arith, omega arith, prompt, found), refl)
      ▸ ((omega arith, refl, shape), refl)
      ▸ ((omega arith, omega arith, prompt), refl)
      ▸ ((omega arith, refl, refl, field), (omega arith, refl, step.0), refl, step.1)
      ▸ (mark, omega arith, refl, white.0, white.1)
      ▸ ((omega arith, refl, refl), refl)
      ▸ tt

  -- what `get 2 0 0` reads
  reading_on : IsFound W (state_at W s (read_events W) 2)
      → HasShape W (state_at W s (read_events W) 3)
      → IsAtFirst W (state_at W s (read_events W) 4)
      → IsStep (state_at W s (read_events W) 4) (state_at W s (read_events W) 5)
      (unpaid (commands.Get 2 0 0) (replies.Val Nil))
      → Guarded (one_thread W) s (read_events W)
  reading_on found shape field step =
      ((omega arith, omega arith, prompt), refl)
      ▸ ((omega arith, omega arith, refl, refl), (omega arith, refl, inl refl), refl, refl)
      ▸ ((omega arith, omega arith, refl, found), refl)
      ▸ ((omega arith, refl, shape), refl)
      ▸ ((omega arith, omega arith, refl, field), (omega arith, refl, step.0), refl, step.1)
      ▸ ((omega arith, refl, refl), refl)
      ▸ tt

  -- what `cas 0 0 2 1` reads
  comparing_on : IsFound W s → HasShape W (state_at W s (cas_events W) 1)
      → IsAtFirst W (state_at W s (cas_events W) 4)
      → IsStep (state_at W s (cas_events W) 4) (state_at W s (cas_events W) 5)
      (unpaid (commands.Cas 0 0 2 1) replies.Yes)
      → Guarded (one_thread W) s (cas_events W)
  comparing_on found shape field step =
      ((omega arith, omega arith, prompt, found), refl)
      ▸ ((omega arith, refl, shape), refl)
      ▸ ((omega arith, omega arith, prompt), refl)
      ▸ ((omega arith, omega arith, prompt), refl)
      ▸ ((omega arith, refl, refl, field), (omega arith, refl, step.0), refl, step.1)
      ▸ tt

  -- what `swap 0 0 3` reads
  swapping_on : IsFound W s → HasShape W (state_at W s (swap_events W) 1)
      → IsAtFirst W (state_at W s (swap_events W) 3)
      → IsStep (state_at W s (swap_events W) 3) (state_at W s (swap_events W) 4)
      (unpaid (commands.Swap 0 0 3) (replies.Val (Ref record_name)))
      → Guarded (one_thread W) s (swap_events W)
  swapping_on found shape field step =
      ((omega arith, omega arith, prompt, found), refl)
      ▸ ((omega arith, refl, shape), refl)
      ▸ ((omega arith, omega arith, prompt), refl)
      ▸ ((omega arith, refl, refl, field), (omega arith, refl, step.0), refl, step.1)
      ▸ ((omega arith, refl, refl), refl)
      ▸ tt

  -- what the last commands read
  ending_on : IsStep s s (unpaid (commands.Len 4) replies.Null)
      → Guarded (one_thread W) s last_events
  ending_on none =
      ((omega arith, prompt, none.0), sym none.1)
      ▸ ((omega arith, prompt, inr (refl, refl)), refl)
      ▸ ((omega arith, prompt), (omega arith, prompt, inl refl), refl, refl)
      ▸ tt

at_first : (W : Width) (s : KeptState) → HasObject s.seen 0
    → register_of s.seen.graph 0 (object_at s.seen 0).source ≡ Ref record_name
    → (object_at s.seen 0).shape ≡ Some (shapes.List (payloads W))
    → shape_part W (shapes.List (payloads W)) (object_at s.seen 0).ordinal 1 ≡ Field 0
    → IsAtFirst W s
at_first W s object refers read field = record {
  object = object;
  refers = refers;
  shape = shapes.List (payloads W);
  read = read;
  field = field;
}

putting : (W : Width) → Guarded (one_thread W) (built W) (put_events W)
unfolding target reference_word number_word wide_word kind grey_word free_word black_word
    white_word tree tree_depth record_word shape_of
putting Four = putting_on Four (built Four) refl (λ e. omega arith) refl
    (at_first Four (state_at Four (built Four) (put_events Four) 3)
    refl refl refl refl) (inl refl, refl)
putting Eight = putting_on Eight (built Eight) refl (λ e. omega arith) refl
    (at_first Eight (state_at Eight (built Eight) (put_events Eight) 3)
    refl refl refl refl) (inl refl, refl)

-- the states after each of the commands
abbrev started : Width → KeptState
started W = run (one_thread W) (stored W) start_events

abbrev nil_swapped : Width → KeptState
nil_swapped W = run (one_thread W) (started W) (nil_swap_events W)

abbrev were_read : Width → KeptState
were_read W = run (one_thread W) (nil_swapped W) (read_events W)

abbrev compared : Width → KeptState
compared W = run (one_thread W) (were_read W) (cas_events W)

abbrev exchanged : Width → KeptState
exchanged W = run (one_thread W) (compared W) (swap_events W)

nil_swapping : (W : Width) → Guarded (one_thread W) (started W) (nil_swap_events W)
unfolding target reference_word number_word wide_word kind grey_word free_word black_word
    white_word tree tree_depth record_word shape_of
nil_swapping Four = nil_swapping_on Four (started Four) refl refl (λ e. omega arith) refl
    (at_first Four (state_at Four (started Four) (nil_swap_events Four) 3)
    refl refl refl refl) (inl refl, refl) ((λ e. omega arith), refl)
nil_swapping Eight = nil_swapping_on Eight (started Eight) refl refl (λ e. omega arith) refl
    (at_first Eight (state_at Eight (started Eight) (nil_swap_events Eight) 3)
    refl refl refl refl) (inl refl, refl) ((λ e. omega arith), refl)

reading : (W : Width) → Guarded (one_thread W) (nil_swapped W) (read_events W)
unfolding target reference_word number_word wide_word kind grey_word free_word black_word
    white_word tree tree_depth record_word shape_of
reading Four = reading_on Four (nil_swapped Four) refl (λ e. omega arith) refl
    (at_first Four (state_at Four (nil_swapped Four) (read_events Four) 4)
    refl refl refl refl) (inl refl, refl)
reading Eight = reading_on Eight (nil_swapped Eight) refl (λ e. omega arith) refl
    (at_first Eight (state_at Eight (nil_swapped Eight) (read_events Eight) 4)
    refl refl refl refl) (inl refl, refl)

comparing : (W : Width) → Guarded (one_thread W) (were_read W) (cas_events W)
unfolding target reference_word number_word wide_word kind grey_word free_word black_word
    white_word tree tree_depth record_word shape_of
comparing Four = comparing_on Four (were_read Four) refl (λ e. omega arith) refl
    (at_first Four (state_at Four (were_read Four) (cas_events Four) 4)
    refl refl refl refl) (inl refl, refl)
comparing Eight = comparing_on Eight (were_read Eight) refl (λ e. omega arith) refl
    (at_first Eight (state_at Eight (were_read Eight) (cas_events Eight) 4)
    refl refl refl refl) (inl refl, refl)

swapping : (W : Width) → Guarded (one_thread W) (compared W) (swap_events W)
unfolding target reference_word number_word wide_word kind grey_word free_word black_word
    white_word tree tree_depth record_word shape_of
swapping Four = swapping_on Four (compared Four) refl (λ e. omega arith) refl
    (at_first Four (state_at Four (compared Four) (swap_events Four) 3)
    refl refl refl refl) (inl refl, refl)
swapping Eight = swapping_on Eight (compared Eight) refl (λ e. omega arith) refl
    (at_first Eight (state_at Eight (compared Eight) (swap_events Eight) 3)
    refl refl refl refl) (inl refl, refl)

ending : (W : Width) → Guarded (one_thread W) (exchanged W) last_events
ending Four = ending_on Four (exchanged Four) refl (inl refl, refl)
ending Eight = ending_on Eight (exchanged Eight) refl (inl refl, refl)

commanding : (W : Width) → Guarded (one_thread W) (started W) (command_events W)
commanding W =
    let c = one_thread W in
    guarded_on c (started W) (nil_swap_events W)
    (read_events W ++ (cas_events W ++ (swap_events W ++ last_events))) (nil_swapping W)
    (guarded_on c (nil_swapped W) (read_events W) (cas_events W ++ (swap_events W ++ last_events))
    (reading W)
    (guarded_on c (were_read W) (cas_events W) (swap_events W ++ last_events) (comparing W)
    (guarded_on c (compared W) (swap_events W) last_events (swapping W) (ending W))))

pub example_runs : (W : Width) → Guarded (one_thread W) (example_start W) (some_events W)
example_runs W =
    let c = one_thread W in
    guarded_on c (example_start W) (mark_events W)
    (build_events W ++ (put_events W ++ (start_events ++ command_events W))) (marking W)
    (guarded_on c (marked W) (build_events W) (put_events W ++ (start_events ++ command_events W))
    (building W)
    (guarded_on c (built W) (put_events W) (start_events ++ command_events W) (putting W)
    (guarded_on c (stored W) start_events (command_events W) (starting W) (commanding W))))

pub example_cycle : (W : Width) → (example_end W).cycle ≡ 2
example_cycle Four = refl
example_cycle Eight = refl

pub example_refers : (W : Width) → register_of (example_end W).seen.graph 0 1 ≡ Ref record_name
example_refers Four = refl
example_refers Eight = refl

pub example_keeps : (W : Width) → (example_end W).kept record_name ≡ true
unfolding reachable
example_keeps Four = refl
example_keeps Eight = refl

pub example_loses : (W : Width) → (example_end W).kept array_name ≡ false
unfolding reachable
example_loses Four = refl
example_loses Eight = refl
