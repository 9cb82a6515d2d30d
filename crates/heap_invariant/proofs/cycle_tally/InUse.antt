-- Where each block that is not Free is of a register array, or of a name that was reachable at the
-- last start or made since, they are at most the live blocks of that start and those given since.
use Rattle.std.proofs.Common.{◌≡◌, ℕ, zero, suc, ◌+◌, ◌-◌, ◌≤◌, ◌<◌, ◌⊎◌, not, Bool, true, false, cond, refl, arith, ap, sym, ◌∙◌, subst, List, [], ◌∷◌, ◌++◌, length, length-append, get_or, inl, inr}
use Rattle.std.specs.List.{sum_by}
use Rattle.std.proofs.lemmas.Bool.{not-true}
use Rattle.block_store.specs.declared.Config.{Config}
use Rattle.block_store.specs.declared.Name.{Name}
use Rattle.block_store.specs.Phases.{bit}
use Rattle.block_store.specs.Registers.{registers_end}
use Rattle.never_heap.specs.Graphs.{Graph, start_graph, object_of, has_name, same_name}
use Rattle.never_heap.specs.Histories.{HistoryItem, Started, Did, replay, replay_from, starts_in, Legal, LegalFrom}
use Rattle.never_heap.specs.Cycles.{before_start, after_start, graph_at}
use Rattle.never_heap.specs.GivenBlocks.{given}
use Rattle.never_heap.specs.LiveBlocks.{object_blocks, live_of, live_blocks}
use Rattle.never_heap.specs.Reach.{reachable, names}
use Rattle.never_heap.specs.Taken.{taken_in}
use Rattle.never_heap.proofs.Lemmas.{all_named, any_of_names, blocks_at, length_blocks, length_these, listed, live_sum, reachable_named, replay_parts, replay_shape, same_itself, sum_same, these, threads_of_replay, threads_of_start, times_blocks, times_these}
use Rattle.block_store.specs.Counts.{times, total}
use Rattle.block_store.proofs.Lemmas.{times_append}
use Rattle.heap_invariant.specs.cycle_tally.InUse.{IsBlockOfThese, IsCovered, count_free}
use Rattle.heap_invariant.specs.cycle_tally.Entries.{InThreads}
use Rattle.heap_invariant.proofs.cycle_tally.MadeNames.{made_from, in_made, legal_rest, threads_rest, starts_rest, taken_first, same_blocks, made_taken}

legal_from : (c : Config) (h : List HistoryItem) → Legal c h
    → (1 ≤ starts_in h) × LegalFrom (start_graph c) h
legal_from c [] l = absurd l
legal_from c (Started ∷ h) l = (omega arith, (tt, l))
legal_from c (Did e ∷ h) l = absurd l

module _ (c : Config) (h : List HistoryItem) (at : Name → ℕ → ℕ) (free : ℕ → Bool)
    (legal : Legal c h) (threads : InThreads c.threads h) (cover : IsCovered c h at free) where
  abbrev g : Graph
  g = graph_at c h (starts_in h)

  abbrev rest : List HistoryItem
  rest = after_start (starts_in h) h

  abbrev last : Graph
  last = replay_from g rest

  abbrev roots : ℕ
  roots = registers_end c.width c.threads

  some : 1 ≤ starts_in h
  some = (legal_from c h legal).0

  same_graph : replay c h ≡ last
  same_graph = replay_parts (start_graph c) h (starts_in h) some (omega arith)

  threads_here : length g.mutators ≡ c.threads
  threads_here =
      threads_of_replay (start_graph c) (before_start (starts_in h) h) ∙ threads_of_start c

  threads_since : InThreads (length g.mutators) rest
  threads_since = subst (λ n. InThreads n rest) (sym threads_here)
      (threads_rest c.threads h (starts_in h) threads)

  -- the blocks of a name, and of one that was reachable
  abbrev size : Name → ℕ
  size a = object_blocks c.width (object_of last a)

  abbrev live_size : Name → ℕ
  live_size a = cond (reachable g a) (size a) 0

  abbrev root_places : List ℕ
  root_places = these (λ i. suc i) roots

  abbrev live_places : List ℕ
  live_places = blocks_at at live_size (names g)

  abbrev made_places : List ℕ
  made_places = blocks_at at size (made_from g rest)

  abbrev places : List ℕ
  places = root_places ++ (live_places ++ made_places)

  in_places : (x : ℕ)
      → (1 ≤ times x root_places) ⊎ ((1 ≤ times x live_places) ⊎ (1 ≤ times x made_places))
      → 1 ≤ times x places
  in_places x w =
      let a = times_append x root_places (live_places ++ made_places) in
      let b = times_append x live_places made_places in
      elim w [
        | inl y ↦ omega arith
        | inr y ↦ elim y [ inl z ↦ omega arith | inr z ↦ omega arith ]
      ]

  of_these : (x : ℕ) → IsBlockOfThese c h at x
      → (1 ≤ times x live_places) ⊎ (1 ≤ times x made_places)
  of_these x b =
      let a : Name = b.name in
      let here : object_blocks c.width (object_of (replay c h) a) ≡ size a =
      ap (λ (q : Graph). object_blocks c.width (object_of q a)) same_graph in
      let low : b.ordinal < size a = omega (arith, b.low) in
      elim b.reached [
        | inl y ↦
            let has : has_name g a ≡ true =
            reachable_named c (before_start (starts_in h) h) a y in
            let k : live_size a ≡ size a = ap (λ r. cond r (size a) 0) y in
            inl (subst (λ z. 1 ≤ times z live_places) (sym b.is)
            (times_blocks at live_size (names g) a b.ordinal
            (any_of_names g (same_name a) a has (same_itself a)) (omega arith)))
        | inr y ↦
            let now : has_name last a ≡ true =
            ap (λ (q : Graph). has_name q a) (sym same_graph) ∙ y.0 in
            inr (subst (λ z. 1 ≤ times z made_places) (sym b.is)
            (times_blocks at size (made_from g rest) a b.ordinal
            (in_made g rest a threads_since now y.1) low))
      ]

  placed : (x : ℕ) → 0 < x → x ≤ c.blocks → not (free x) ≡ true → 1 ≤ times x places
  placed x pos low used = in_places x (elim (cover x pos low (not-true (free x) used)) [
    | inl root ↦
        let e : suc (x - 1) ≡ x = omega arith in
        inl (subst (λ y. 1 ≤ times y root_places) e
        (times_these (λ i. suc i) roots (x - 1) (omega arith)))
    | inr b ↦ inr (of_these x b)
  ])

  live_sizes : sum_by live_size (names g) ≡ sum_by (live_of c.width g) (names g)
  live_sizes = sum_same live_size (live_of c.width g) (names g) (λ j d l.
      let n : Name = get_or (names g) j d in
      ap (λ k. cond (reachable g n) k 0) (same_blocks c.width (object_of g n) (object_of last n)
      (replay_shape g rest n (all_named g (length g.mutators) j d l))))

  made_sizes : sum_by size (made_from g rest) ≤ given c.width h (starts_in h)
  made_sizes =
      let new : sum_by size (made_from g rest) ≤ taken_in c.width rest =
      made_taken c.width g rest
      (legal_rest (start_graph c) h (starts_in h) some (omega arith) (legal_from c h legal).1)
      threads_since in
      let gave : given c.width h (starts_in h) ≡ taken_in c.width rest =
      taken_first c.width rest (omega (arith, starts_rest h (starts_in h) some (omega arith))) in
      omega arith

  few_blocks : total c.blocks (λ x. bit (not (free (suc x))))
      ≤ live_blocks c.width g + given c.width h (starts_in h)
  few_blocks =
      let count = listed c.blocks (λ x. not (free x)) places placed in
      let l1 = length-append root_places (live_places ++ made_places) in
      let l2 = length-append live_places made_places in
      let r = length_these (λ i. suc i) roots in
      let a = length_blocks at live_size (names g) in
      let b = length_blocks at size (made_from g rest) in
      let ends : registers_end c.width (length g.mutators) ≡ roots =
      ap (registers_end c.width) threads_here in
      omega (arith, live_sum c.width g, live_sizes, made_sizes)

pub one_of : (b : Bool) → bit b + bit (not b) ≡ 1
one_of true = refl
one_of false = refl

both_counts : (m : ℕ) (free : ℕ → Bool)
    → count_free m free + total m (λ x. bit (not (free (suc x)))) ≡ m
both_counts zero free = refl
both_counts (suc m) free = omega (arith, both_counts m free, one_of (free (suc m)))

-- where nothing is reserved or uncredited, the free count is the number of Free blocks
pub few_in_use : (c : Config) (h : List HistoryItem) (at : Name → ℕ → ℕ) (free : ℕ → Bool)
    (count : ℕ) → Legal c h → InThreads c.threads h → IsCovered c h at free
    → count ≡ count_free c.blocks free
    → c.blocks ≤ count + live_blocks c.width (graph_at c h (starts_in h))
    + given c.width h (starts_in h)
few_in_use c h at free count legal threads cover e =
    omega (arith, few_blocks c h at free legal threads cover, both_counts c.blocks free)
