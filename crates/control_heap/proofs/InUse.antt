-- What the graph reaches takes no more blocks than are not Free.
use Rattle.std.proofs.Common.{◌≡◌, ◌⊎◌, inl, inr, ℕ, zero, suc, ◌+◌, ◌≤◌, ◌<◌, not, Bool, true, false, cond, eqb, eq-eqb, ne_eqb, List, [], ◌∷◌, ◌++◌, length, length-append, refl, sym, ap, ◌∙◌, subst, arith}
use Rattle.std.specs.List.{sum_by}
use Rattle.std.proofs.lemmas.Bool.{cases_Bool, cases_eq, cases_lt}
use Rattle.std.proofs.lemmas.List.Sums.{sum_by-cons, sum_by-le-sum_by}
use Rattle.block_store.specs.declared.Config.{Config}
use Rattle.block_store.specs.declared.Name.{Name}
use Rattle.block_store.specs.Colours.{is_free}
use Rattle.block_store.specs.Counts.{times, total}
use Rattle.block_store.specs.Phases.{bit, is_sweep}
use Rattle.block_store.specs.Places.{ColourOf, Phase, extent}
use Rattle.block_store.specs.Registers.{registers_end}
use Rattle.block_store.proofs.Lemmas.{none_above, times_append, total_below, total_none, total_plus}
use Rattle.never_heap.specs.declared.Command.{Command}
use Rattle.never_heap.specs.Cycles.{after_start, before_start, graph_at}
use Rattle.never_heap.specs.Graphs.{Graph, object_of, same_name, start_graph}
use Rattle.never_heap.specs.Histories.{replay, replay_from, starts_in}
use Rattle.never_heap.specs.LiveBlocks.{live_blocks, live_of, object_blocks}
use Rattle.never_heap.specs.Reach.{names, reachable}
use Rattle.never_heap.proofs.Lemmas.{blocks_at, length_blocks, length_these, live_sum, once_below, reachable_named, replay_parts, replay_shape, same_itself, these, threads_of_replay, threads_of_start}
use Rattle.heap_invariant.specs.graph_relation.Events.{pending_registers}
use Rattle.heap_invariant.specs.graph_relation.Words.{block_words}
use Rattle.heap_invariant.proofs.Lemmas.{blocks_apart, one_of, reached_kept, reached_solid, same_blocks}
use Rattle.heap_invariant.specs.name_invariant.States.{Kept}
use Rattle.heap_machine.specs.FreeBlocks.{count_free}
use Rattle.heap_system.specs.Machines.{Run, heap_in}
use Rattle.heap_system.specs.Pictures.{kept_state, tasks_in}
use Rattle.heap_system.proofs.invariant.Invariant.{Kept as KeptRun}
use Rattle.heap_invariant.specs.cycle_tally.InUse.{graph_then}
use Rattle.control_heap.proofs.KnownAtStart.{KnowsStart}

one_there : (n y : ℕ) → 0 < y → y ≤ n → total n (λ x. bit (eqb (suc x) y)) ≡ 1
one_there zero y some high = absurd (omega (arith, some, high))
one_there (suc n) y some high = elim (cases_eq (suc n) y) [
  | inl e ↦ (let b : bit (eqb (suc n) y) ≡ 1 = ap bit (eq-eqb (suc n) y e) in omega (arith, none_above n y (omega arith), b))
  | inr ne ↦ (let b : bit (eqb (suc n) y) ≡ 0 = ap bit (ne_eqb (suc n) y ne) in omega (arith, one_there n y some (omega (arith, high, ne)), b))
]

-- each of a list is one of the numbers from 1 to n
abbrev Within : ℕ → List ℕ → Type 0
Within n [] = Unit {0}
Within n (y ∷ ys) = (0 < y) × (y ≤ n) × Within n ys

within_append : (n : ℕ) (xs ys : List ℕ) → Within n xs → Within n ys → Within n (xs ++ ys)
within_append n [] ys a b = b
within_append n (x ∷ xs) ys a b = (a.0, a.1, within_append n xs ys a.2 b)

within_these : (n : ℕ) (f : ℕ → ℕ) (k : ℕ) → ((o : ℕ) → o < k → (0 < f o) × (f o ≤ n)) → Within n (these f k)
within_these n f zero h = tt
within_these n f (suc k) h = ((h k (omega arith)).0, (h k (omega arith)).1, within_these n f k (λ o l. h o (omega (arith, l))))

within_blocks : (n : ℕ) (at : Name → ℕ → ℕ) (k : Name → ℕ) (xs : List Name) → ((a : Name) (o : ℕ) → o < k a → (0 < at a o) × (at a o ≤ n)) → Within n (blocks_at at k xs)
within_blocks n at k [] h = tt
within_blocks n at k (a ∷ xs) h = within_append n (these (at a) (k a)) (blocks_at at k xs) (within_these n (at a) (k a) (h a)) (within_blocks n at k xs h)

all_counted : (n : ℕ) (ys : List ℕ) → Within n ys → total n (λ x. times (suc x) ys) ≡ length ys
all_counted n [] w = total_none n (λ x. 0) (λ x l. refl)
all_counted n (y ∷ ys) w = omega (arith, total_plus n (λ x. bit (eqb (suc x) y)) (λ x. times (suc x) ys), one_there n y w.0 w.1, all_counted n ys w.2)

-- what is in a placement has an ordinal, and no more than one
find_these : (f : ℕ → ℕ) (k x : ℕ) → 1 ≤ times x (these f k) → (o : ℕ) × (o < k) × (x ≡ f o)
find_these f zero x h = absurd (omega arith)
find_these f (suc k) x h = elim (cases_eq x (f k)) [
  | inl e ↦ (k, omega arith, e)
  | inr ne ↦ (let b : bit (eqb x (f k)) ≡ 0 = ap bit (ne_eqb x (f k) ne) in
      let rest = find_these f k x (omega (arith, h, b)) in (rest.0, omega (arith, rest.1), rest.2))
]

these_one : (f : ℕ → ℕ) (k x : ℕ) → ((o p : ℕ) → o < k → p < k → f o ≡ f p → o ≡ p) → times x (these f k) ≤ 1
these_one f zero x h = omega arith
these_one f (suc k) x h =
    let rest = these_one f k x (λ o p ol pl. h o p (omega (arith, ol)) (omega (arith, pl))) in
    elim (cases_eq x (f k)) [
      | inl e ↦ elim (cases_lt 0 (times x (these f k))) [
        | inl some ↦ (let o = find_these f k x some in
            let same : o.0 ≡ k = h o.0 k (omega (arith, o.1)) (omega arith) (sym o.2 ∙ e) in absurd (omega (arith, same, o.1)))
        | inr none ↦ (let b : bit (eqb x (f k)) ≡ 1 = ap bit (eq-eqb x (f k) e) in omega (arith, none, b))
      ]
      | inr ne ↦ (let b : bit (eqb x (f k)) ≡ 0 = ap bit (ne_eqb x (f k) ne) in omega (arith, rest, b))
    ]

times_sum : (at : Name → ℕ → ℕ) (k : Name → ℕ) (x : ℕ) (xs : List Name) → times x (blocks_at at k xs) ≡ sum_by (λ (a : Name). times x (these (at a) (k a))) xs
times_sum at k x [] = refl
times_sum at k x (a ∷ xs) =
    let sum = sum_by-cons (λ (b : Name). times x (these (at b) (k b))) a xs in
    omega (arith, times_append x (these (at a) (k a)) (blocks_at at k xs), times_sum at k x xs, sum)

-- a sum is 0, or some name has a part of it
find_part : (f : Name → ℕ) (xs : List Name) → (sum_by f xs ≡ 0) ⊎ ((s : Name) × (1 ≤ f s))
find_part f [] = inl refl
find_part f (a ∷ xs) =
    let sum = sum_by-cons f a xs in
    elim (cases_lt 0 (f a)) [
      | inl some ↦ inr (a, some)
      | inr none ↦ elim (find_part f xs) [
        | inl rest ↦ inl (omega (arith, sum, none, rest))
        | inr there ↦ inr there
      ]
    ]

module _ (g : Graph) (at : Name → ℕ → ℕ) (k : Name → ℕ)
    (apart : (a b : Name) (o p : ℕ) → o < k a → p < k b → at a o ≡ at b p → (a ≡ b) × (o ≡ p)) where
  part_few : (x : ℕ) (s : Name) → 1 ≤ times x (these (at s) (k s)) → (a : Name) → times x (these (at a) (k a)) ≤ cond (same_name a s) 1 0
  part_few x s there a = elim (cases_lt 0 (times x (these (at a) (k a)))) [
    | inl some ↦
        (let o = find_these (at a) (k a) x some in
        let p = find_these (at s) (k s) x there in
        let same : a ≡ s = (apart a s o.0 p.0 o.1 p.1 (sym o.2 ∙ p.2)).0 in
        let yes : same_name a s ≡ true = subst (λ y. same_name y s ≡ true) (sym same) (same_itself s) in
        let one = these_one (at a) (k a) x (λ q r ql rl e. (apart a a q r ql rl e).1) in
        rw yes one)
    | inr none ↦ (let zero_is : times x (these (at a) (k a)) ≡ 0 = omega (arith, none) in rw zero_is (omega arith))
  ]

  pub names_one : (x : ℕ) → times x (blocks_at at k (names g)) ≤ 1
  names_one x = subst (λ n. n ≤ 1) (sym (times_sum at k x (names g)))
      (elim (find_part (λ (a : Name). times x (these (at a) (k a))) (names g)) [
        | inl none ↦ omega (arith, none)
        | inr s ↦
            (let most = sum_by-le-sum_by (λ (a : Name). times x (these (at a) (k a))) (λ (a : Name). cond (same_name a s.0) 1 0) (names g) (part_few x s.0 s.1) in
            let once : sum_by (λ (a : Name). cond (same_name a s.0) 1 0) (names g) ≤ 1 = (once_below (λ (a : Name). 1) s.0 g (length g.mutators)).0 in
            omega (arith, most, once))
      ])

  pub part_of : (x : ℕ) → 1 ≤ times x (blocks_at at k (names g)) → (a : Name) × (o : ℕ) × (o < k a) × (x ≡ at a o)
  part_of x some = elim (find_part (λ (a : Name). times x (these (at a) (k a))) (names g)) [
    | inl none ↦ absurd (omega (arith, some, none, times_sum at k x (names g)))
    | inr s ↦ (let o = find_these (at s.0) (k s.0) x s.1 in (s.0, o.0, o.1, o.2))
  ]

  module _ (m roots : ℕ) (free : ℕ → Bool) (high : roots ≤ m)
      (placed : (a : Name) (o : ℕ) → o < k a → (roots < at a o) × (at a o ≤ m))
      (roots_used : (x : ℕ) → 0 < x → x ≤ roots → free x ≡ false)
      (used : (a : Name) (o : ℕ) → o < k a → free (at a o) ≡ false) where
    abbrev root_places : List ℕ
    root_places = these (λ i. suc i) roots

    abbrev places : List ℕ
    places = root_places ++ blocks_at at k (names g)

    at_most : (x : ℕ) → 0 < x → times x places ≤ bit (not (free x))
    at_most x pos =
        let both = times_append x root_places (blocks_at at k (names g)) in
        let first = these_one (λ i. suc i) roots x (λ o p ol pl e. omega arith) in
        let second = names_one x in
        elim (cases_lt 0 (times x (blocks_at at k (names g)))) [
          | inl some ↦
              (let a = part_of x some in
              let here : free x ≡ false = ap free a.3 ∙ used a.0 a.1 a.2 in
              let b : bit (not (free x)) ≡ 1 = ap (λ y. bit (not y)) here in
              let none : times x root_places ≡ 0 = elim (cases_lt 0 (times x root_places)) [
                | inl there ↦ (let o = find_these (λ i. suc i) roots x there in
                    let p = placed a.0 a.1 a.2 in absurd (omega (arith, o.1, o.2, p.0, a.3)))
                | inr out ↦ omega (arith, out)
              ] in
              omega (arith, both, none, second, b))
          | inr out ↦ elim (cases_lt 0 (times x root_places)) [
            | inl there ↦ (let o = find_these (λ i. suc i) roots x there in
                let here : free x ≡ false = roots_used x pos (omega (arith, o.1, o.2)) in
                let b : bit (not (free x)) ≡ 1 = ap (λ y. bit (not y)) here in
                omega (arith, both, first, out, b))
            | inr none ↦ omega (arith, both, none, out)
          ]
        ]

    pub few : roots + sum_by k (names g) ≤ total m (λ x. bit (not (free (suc x))))
    few =
        let within : Within m places = within_append m root_places (blocks_at at k (names g))
        (within_these m (λ i. suc i) roots (λ o l. (omega arith, omega (arith, l, high))))
        (within_blocks m at k (names g) (λ a o l. (let p = placed a o l in (omega (arith, p.0), p.1)))) in
        let count = all_counted m places within in
        let most = total_below m (λ x. times (suc x) places) (λ x. bit (not (free (suc x)))) (λ x l. at_most (suc x) (omega arith)) in
        omega (arith, count, most, length-append root_places (blocks_at at k (names g)), length_these (λ i. suc i) roots, length_blocks at k (names g))

both_counts : (m : ℕ) (free : ℕ → Bool) → total m (λ x. bit (free (suc x))) + total m (λ x. bit (not (free (suc x)))) ≡ m
both_counts zero free = refl
both_counts (suc m) free = omega (arith, both_counts m free, one_of (free (suc m)))

-- what was live in an earlier graph, of which all that it reached is kept, and has the same sizes
pub record IsKeptNow (c : Config) (r : Run) (g : Graph) : Type 0 where
  pub threads : length g.mutators ≡ c.threads
  pub kept : (a : Name) → reachable g a ≡ true → r.names.kept a ≡ true
  pub sizes : (a : Name) → reachable g a ≡ true
      → object_blocks c.width (object_of g a) ≡ object_blocks c.width (object_of (replay c r.order) a)

module _ (c : Config) (traces : List (List Command)) (r : Run) (kept : KeptRun c traces r) (high : registers_end c.width c.threads ≤ c.blocks) where
  abbrev graph : Graph
  graph = replay c r.order

  abbrev free_at : ℕ → Bool
  free_at x = is_free (heap_in c r.state (ColourOf x))

  roots_used : (x : ℕ) → 0 < x → x ≤ registers_end c.width c.threads → free_at x ≡ false
  roots_used x pos low = reached_solid c (kept_state c r) kept.names x (inl (pos, low))

  module _ (g : Graph) (now : IsKeptNow c r g) where
    -- a block that is counted is of an object that was reached
    reached : (a : Name) (o : ℕ) → o < live_of c.width g a → (r.names.kept a ≡ true) × (o < object_blocks c.width (object_of graph a))
    reached a o l = elim (cases_Bool (reachable g a)) [
      | inl is ↦ (
        now.kept a is,
        subst (λ n. o < n) (now.sizes a is) (subst (λ b. o < cond b (object_blocks c.width (object_of g a)) 0) is l),
      )
      | inr not_it ↦ absurd (let z : o < 0 = subst (λ b. o < cond b (object_blocks c.width (object_of g a)) 0) not_it l in omega (arith, z))
    ]

    live_apart : (a b : Name) (o p : ℕ) → o < live_of c.width g a → p < live_of c.width g b → r.names.at a o ≡ r.names.at b p → (a ≡ b) × (o ≡ p)
    live_apart a b o p ol pl e =
        let x = reached a o ol in
        let y = reached b p pl in
        blocks_apart c.width c.threads c.blocks (Kept (kept_state c r)) graph r.names.at (block_words (heap_in c r.state)) (pending_registers (λ t. (tasks_in c r.state t).loading))
        kept.names.follows.shows a b o p x.0 y.0 x.1 y.1 e

    live_placed : (a : Name) (o : ℕ) → o < live_of c.width g a → (registers_end c.width c.threads < r.names.at a o) × (r.names.at a o ≤ c.blocks)
    live_placed a o l =
        let x = reached a o l in
        let p = kept.names.follows.shows.placed in (p.behind a o x.0 x.1, p.within a o x.0 x.1)

    live_used : (a : Name) (o : ℕ) → o < live_of c.width g a → free_at (r.names.at a o) ≡ false
    live_used a o l =
        let x = reached a o l in
        kept.names.painted.solid a o x.0 x.1

    pub few_then : live_blocks c.width g + count_free (extent c) (λ x. heap_in c r.state (ColourOf x)) ≤ c.blocks
    few_then =
        let some = few g r.names.at (live_of c.width g) live_apart c.blocks (registers_end c.width c.threads) free_at high live_placed roots_used live_used in
        let both = both_counts c.blocks free_at in
        let ends : registers_end c.width (length g.mutators) ≡ registers_end c.width c.threads = ap (registers_end c.width) now.threads in
        let sum = live_sum c.width g in
        omega (arith, some, both, ends, sum)

  pub live_few : live_blocks c.width graph + count_free (extent c) (λ x. heap_in c r.state (ColourOf x)) ≤ c.blocks
  live_few = few_then graph (record {
    threads = kept.names.follows.shows.sized.threads;
    kept = reached_kept c (kept_state c r) kept.names;
    sizes = λ a is. refl;
  })

  -- while the phase is Mark nothing that was live at its start was freed
  pub start_few : is_sweep (heap_in c r.state Phase) ≡ false → KnowsStart c r → live_blocks c.width (graph_then c r.order) + count_free (extent c) (λ x. heap_in c r.state (ColourOf x)) ≤ c.blocks
  start_few mark known =
      let z = starts_in r.order in
      let some : 1 ≤ z = (let o = kept.names.ordered in omega (arith, o.some, o.started)) in
      let first : Graph = graph_at c r.order z in
      let on : replay c r.order ≡ replay_from first (after_start z r.order) = replay_parts (start_graph c) r.order z some (omega arith) in
      few_then first (record {
        threads = threads_of_replay (start_graph c) (before_start z r.order) ∙ threads_of_start c;
        kept = λ a is. (kept.names.marking mark).all a (known a is);
        sizes = λ a is.
            let shape = replay_shape first (after_start z r.order) a (reachable_named c (before_start z r.order) a is) in
            sym (same_blocks c.width (object_of first a) (object_of (replay_from first (after_start z r.order)) a) shape)
            ∙ ap (λ (q : Graph). object_blocks c.width (object_of q a)) (sym on);
      })
