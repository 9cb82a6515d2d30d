-- The opening keeps the rules on its blocks, and on its names.
use Rattle.std.proofs.Common.{◌≡◌, ◌≢◌, ℕ, ◌+◌, ◌-◌, ◌<◌, ◌≤◌, ◌&&◌, Bool, true, false, cond, eqb, leb, ltb, ne_eqb, lt-ltb, le-ltb, le-leb, [], ◌∷◌, refl, sym, ap, ◌∙◌, subst, arith, inl, inr, ◌⊎◌}
use Rattle.std.proofs.lemmas.Bool.{cases_Bool, cases_lt, cases_eq, and_from, lt-leb}
use Rattle.block_store.specs.declared.Config.{Config}
use Rattle.block_store.specs.Configs.{IsInBounds}
use Rattle.block_store.specs.Colours.{is_grey, is_free, grey_word, white_word, black_word, free_word}
use Rattle.block_store.specs.Heaps.{Heap}
use Rattle.block_store.specs.Payloads.{target}
use Rattle.block_store.specs.Phases.{bit, is_sweep, cycle_of}
use Rattle.block_store.specs.Places.{Place, Phase, Cursor, FreeCount, FreeList, ColourOf, OwnerOf, ShapeOf, PayloadOf, extent, in_range, is_block}
use Rattle.block_store.specs.Registers.{root_block, registers_end, register_ordinal, register_thread}
use Rattle.block_store.specs.Widths.{payloads}
use Rattle.block_store.proofs.Lemmas.{black-white, free_free, grey-black, grey_grey, kind-zero, not_free_black, root_in, root_some, target-nil, target-reference, total_none}
use Rattle.rate_plan.specs.Rates.{IsAdmitted}
use Rattle.array_trees.specs.InitialHeaps.{opening_blocks}
use Rattle.never_heap.specs.Graphs.{start_graph}
use Rattle.never_heap.specs.Histories.{Started}
use Rattle.heap_invariant.specs.graph_relation.Events.{opening_state}
use Rattle.heap_invariant.specs.graph_relation.InitialHeaps.{opening_at, opening_words}
use Rattle.heap_invariant.specs.graph_relation.Words.{BlockWords, block_words, Agrees}
use Rattle.heap_invariant.proofs.Lemmas.{differ, opening_is_kept, opening_shows, words_change}
use Rattle.heap_machine.specs.FreeBlocks.{FreeKept}
use Rattle.heap_machine.specs.WorkInHand.{WorkInHand, holds_nothing, grey_held, free_held, sweep_held, tricolour_held}
use Rattle.heap_machine.specs.PhaseKept.{PhaseKept}
use Rattle.heap_machine.specs.Sweeping.{SweepKept, no_claim, has_claimed}
use Rattle.heap_machine.specs.Solid.{SolidKept}
use Rattle.heap_machine.specs.Tricolour.{TricolourKept}
use Rattle.heap_machine.proofs.Lemmas.{free_opens}
use Rattle.heap_invariant.specs.name_invariant.Colouring.{NotRoot}
use Rattle.heap_invariant.specs.name_invariant.Invariant.{Invariant}
use Rattle.heap_invariant.specs.name_invariant.InitialHeaps.{OpeningColours, opening_kept}
use Rattle.heap_invariant.specs.name_invariant.Pictures.{Task, no_task, picture}
use Rattle.heap_system.specs.Naming.{opening_names}
use Rattle.heap_system.specs.InitialHeaps.{is_root, opening_colour, opening_heap}
use Rattle.heap_system.proofs.openings.InitialGreyRoots.{is_of_thread, is_the_root, block_in, payload_is, opening_taken, opening_grey}

no_claims : (x : ℕ) → bit (has_claimed no_claim x) ≡ 0
no_claims x = by (leb 0 x) (ltb x 0) (le-ltb x 0 (omega arith))
  where
    by : (a b : Bool) → b ≡ false → bit (a && b) ≡ 0
    by true b e = ap bit e
    by false b e = refl

-- the opening's names are kept on any words that agree with its own up to the last block of the
-- arrays
pub words_kept : (c : Config) → IsInBounds c → opening_blocks c ≤ c.blocks → (colour : ℕ → ℕ) → OpeningColours c colour → (w : BlockWords) → ((x : ℕ) → 0 < x → x ≤ opening_blocks c → Agrees c.width (opening_words c) w x)
    → Invariant c (record (opening_kept c colour) { seen = record (opening_state c) { words = w } })
words_kept c bounds room colour colours w agrees =
    let k = opening_is_kept c bounds room colour colours in
    let first = opening_shows c bounds in
    record {
      ordered = k.ordered;
      follows = record {
        shows = words_change c.width c.threads c.blocks _ (start_graph c) (opening_at c.width c.threads) (opening_words c) _ k.follows.shows w
            (λ x j pos low jl. (agrees x pos (omega (arith, low))).payloads j jl)
            (λ a o ka ol. (let named = k.named a ka in let within = first.placed.within a o named ol in agrees (opening_at c.width c.threads a o) (omega arith) within));
        loads = k.follows.loads;
      };
      older = λ t r tl rl pending. absurd (differ false pending refl);
      known = k.known;
      named = k.named;
      painted = k.painted;
      builds = k.builds;
      titles = k.titles;
      scans = k.scans;
      marking = k.marking;
      sweeping = λ e. absurd (differ false e refl);
    }

-- the words of an opening are those of the start graph, up to the last block of the shared array
pub opening_agrees : (c : Config) → IsAdmitted c → (h : Heap) → ((p : Place) → in_range (extent c) p ≡ true → h p ≡ opening_heap c p) → (x : ℕ) → 0 < x → x ≤ opening_blocks c → Agrees c.width (opening_words c) (block_words h) x
opening_agrees c plan h words x pos within =
    let block = and_from _ _ (le-leb 1 x pos) (le-leb x c.blocks (omega (arith, within, plan.opens, plan.room))) in
    record {
      owners = words (OwnerOf x) block;
      shapes = words (ShapeOf x) block;
      payloads = λ j jl. words (PayloadOf x j) (and_from _ _ block (lt-ltb j (payloads c.width) jl));
    }

module _ (c : Config) (bounds : IsInBounds c) (plan : IsAdmitted c) (h : Heap) (words : (p : Place) → in_range (extent c) p ≡ true → h p ≡ opening_heap c p) (outside : (x : ℕ) → is_block (extent c) x ≡ false → h (ColourOf x) ≡ 0) (cycle : cycle_of (h Phase) ≡ 1) (sweep : is_sweep (h Phase) ≡ false) where
  low : opening_blocks c + 1 ≤ c.blocks
  low = omega (arith, plan.opens, plan.room)

  free_zero : is_free 0 ≡ true
  free_zero = ap (λ k. eqb k 0) kind-zero

  in_heap : (x : ℕ) → 1 ≤ x → x ≤ c.blocks → h (ColourOf x) ≡ opening_colour c x
  in_heap x some high = words (ColourOf x) (block_in c bounds plan x some high)

  not_block : (x : ℕ) → (x ≡ 0) ⊎ (c.blocks < x) → is_block (extent c) x ≡ false
  not_block x (inl z) = ap (λ y. leb 1 y && leb y c.blocks) z
  not_block x (inr out) = by (leb 1 x) (leb x c.blocks) (lt-leb x c.blocks out)
    where
      by : (a b : Bool) → b ≡ false → (a && b) ≡ false
      by true b e = e
      by false b e = refl

  behind_colour : (x : ℕ) → opening_blocks c < x → x ≤ c.blocks → h (ColourOf x) ≡ free_word (cond (ltb x c.blocks) (x + 1) 0)
  behind_colour x behind high =
      in_heap x (omega arith) high
      ∙ ap (λ b. cond (b && eqb (register_ordinal c.width x) 0) (grey_word 0) (cond (leb x (opening_blocks c)) (white_word 1) (free_word (cond (ltb x c.blocks) (x + 1) 0)))) (lt-leb x (registers_end c.width c.threads) (omega (arith, behind)))
      ∙ ap (λ b. cond b (white_word 1) (free_word (cond (ltb x c.blocks) (x + 1) 0))) (lt-leb x (opening_blocks c) behind)

  roots_grey : (t : ℕ) → t < c.threads → h (ColourOf (root_block c.width t)) ≡ grey_word 0
  roots_grey t tl =
      let inside = root_in c.width c.threads t tl in
      in_heap (root_block c.width t) (root_some c.width t) (omega (arith, inside, low))
      ∙ ap (λ b. cond b (grey_word 0) (cond (leb (root_block c.width t) (opening_blocks c)) (white_word 1) (free_word (cond (ltb (root_block c.width t) c.blocks) (root_block c.width t + 1) 0)))) (is_the_root c.width c.threads t tl)

  arrays_white : (x : ℕ) → 0 < x → x ≤ opening_blocks c → NotRoot c.width c.threads x → h (ColourOf x) ≡ white_word 1
  arrays_white x some within apart = elim (cases_Bool (is_root c x)) [
    | inl e ↦ (let r = is_of_thread c.width c.threads x some e in absurd (apart (register_thread c.width x) r.0 r.1))
    | inr e ↦ in_heap x some (omega (arith, low)) ∙ ap (λ b. cond b (grey_word 0) (cond (leb x (opening_blocks c)) (white_word 1) (free_word (cond (ltb x c.blocks) (x + 1) 0)))) e
        ∙ ap (λ b. cond b (white_word 1) (free_word (cond (ltb x c.blocks) (x + 1) 0))) (le-leb x (opening_blocks c) within)
  ]

  free_at : (x : ℕ) → opening_blocks c < x → is_free (h (ColourOf x)) ≡ true
  free_at x behind = elim (cases_lt c.blocks x) [
    | inl out ↦ ap is_free (outside x (not_block x (inr out))) ∙ free_zero
    | inr within ↦ ap is_free (behind_colour x behind (omega arith)) ∙ free_free (cond (ltb x c.blocks) (x + 1) 0)
  ]

  none_at : is_free (h (ColourOf 0)) ≡ true
  none_at = ap is_free (outside 0 (not_block 0 (inl refl))) ∙ free_zero

  pub colours : OpeningColours c (λ x. h (ColourOf x))
  colours = record {
    roots = λ t tl. ap is_grey (roots_grey t tl) ∙ grey_grey 0;
    arrays = arrays_white;
    none = none_at;
    others = free_at;
  }

  -- what is at a block that is not Free
  solid_low : (x : ℕ) → is_free (h (ColourOf x)) ≡ false → (1 ≤ x) × (x ≤ opening_blocks c)
  solid_low x solid = elim (cases_eq x 0) [
    | inl z ↦ absurd (differ (is_free (h (ColourOf x))) (ap (λ y. is_free (h (ColourOf y))) z ∙ none_at) solid)
    | inr some ↦ elim (cases_lt (opening_blocks c) x) [
      | inl behind ↦ absurd (differ (is_free (h (ColourOf x))) (free_at x behind) solid)
      | inr within ↦ (omega arith, omega arith)
    ]
  ]

  -- nothing is black
  no_black : (x n : ℕ) → h (ColourOf x) ≡ black_word 1 → ⊥
  no_black x n black = (let r = solid_low x (ap is_free black ∙ not_free_black 1) in
      elim (cases_Bool (is_root c x)) [
        | inl e ↦ grey-black 0 1 (sym (in_heap x r.0 (omega (arith, r.1, low)) ∙ ap (λ b. cond b (grey_word 0) (cond (leb x (opening_blocks c)) (white_word 1) (free_word (cond (ltb x c.blocks) (x + 1) 0)))) e) ∙ black)
        | inr e ↦ black-white 1 (sym black ∙ in_heap x r.0 (omega (arith, r.1, low)) ∙ ap (λ b. cond b (grey_word 0) (cond (leb x (opening_blocks c)) (white_word 1) (free_word (cond (ltb x c.blocks) (x + 1) 0)))) e
            ∙ ap (λ b. cond b (white_word 1) (free_word (cond (ltb x c.blocks) (x + 1) 0))) (le-leb x (opening_blocks c) r.1))
      ])

  -- a payload refers to a block of the arrays, or to none
  refers_low : (x j : ℕ) → 1 ≤ x → target (opening_heap c (PayloadOf x j)) ≢ 0 → (1 ≤ target (opening_heap c (PayloadOf x j))) × (target (opening_heap c (PayloadOf x j)) ≤ opening_blocks c)
  refers_low x j some = payload_is c bounds plan (λ w. target w ≢ 0 → (1 ≤ target w) × (target w ≤ opening_blocks c)) (λ n. absurd (n target-nil))
      (λ y from to n. (omega (arith, target-reference y), omega (arith, target-reference y))) x j some

  module _ (hs : ℕ → WorkInHand) (empty : (t : ℕ) → t < c.threads → hs t ≡ holds_nothing) where
    free_kept : FreeKept (extent c) h (λ t. free_held (hs t))
    free_kept = free_opens (extent c) h (λ t. free_held (hs t)) (opening_blocks c + 1) (record {
      threads = omega (arith, bounds.some_thread);
      some = omega arith;
      last = low;
      first = words (FreeList 0) (lt-ltb 0 c.threads (omega (arith, bounds.some_thread)));
      others = λ t some tl. words (FreeList t) (lt-ltb t c.threads tl) ∙ ap (λ b. cond b (opening_blocks c + 1) 0) (ne_eqb t 0 (omega arith));
      free = λ x from to. behind_colour x (omega arith) to;
      live = λ x some below. opening_taken c bounds plan h words x some (omega arith);
      count = (let count : h FreeCount ≡ c.blocks - opening_blocks c = words FreeCount refl in omega (arith, count, low));
    }) (λ t tl. ap free_held (empty t tl))

    sweep_kept : SweepKept (extent c) h (λ t. sweep_held (hs t))
    sweep_kept =
        let cursor : h Cursor ≡ c.blocks + 1 = words Cursor refl in
        record {
          cursor_in = (omega (arith, cursor), omega (arith, cursor));
          ranges = λ t tl. inl (ap (λ (w : WorkInHand). w.low) (empty t tl), ap (λ (w : WorkInHand). w.high) (empty t tl));
          once = λ x. (let none = total_none c.threads (λ t. bit (has_claimed (sweep_held (hs t)) x)) (λ t tl. ap (λ (w : WorkInHand). bit (has_claimed (sweep_held w) x)) (empty t tl) ∙ no_claims x) in omega (arith, none));
          passed = λ e. absurd (differ _ e sweep);
          doomed = λ t tl some. absurd (some (ap (λ (w : WorkInHand). w.doomed) (empty t tl)));
        }

    tricolour_kept : TricolourKept (extent c) 1 h (λ t. tricolour_held (hs t))
    tricolour_kept = record {
      black = λ x j black jl some. absurd (no_black x j black);
      dealt = λ t i tl il. (let none : (hs t).dealt ≡ 0 = ap (λ (w : WorkInHand). w.dealt) (empty t tl) in absurd (omega arith));
      found = λ t tl some. absurd (some (ap (λ (w : WorkInHand). w.found) (empty t tl)));
      shaded = λ t tl some. absurd (some (ap (λ (w : WorkInHand). w.shaded) (empty t tl)));
    }

    solid_kept : SolidKept (extent c) 1 h
    solid_kept = record {
      solid = λ x j solid jl.
          let r = solid_low x solid in
          let same : h (PayloadOf x j) ≡ opening_heap c (PayloadOf x j) = words (PayloadOf x j) (and_from _ _ (block_in c bounds plan x r.0 (omega (arith, r.1, low))) (lt-ltb j (payloads c.width) jl)) in
          subst (λ w. target w ≢ 0 → is_free (h (ColourOf (target w))) ≡ false) (sym same)
          (λ some. (let t = refers_low x j r.0 some in opening_taken c bounds plan h words (target (opening_heap c (PayloadOf x j))) t.0 t.1));
      roots = λ t tl. inl (ap is_grey (roots_grey t tl) ∙ grey_grey 0);
    }

    pub opening_rules : PhaseKept (extent c) h hs
    opening_rules = record {
      grey = opening_grey c bounds plan h words outside (λ t. grey_held (hs t)) (λ t tl. ap grey_held (empty t tl));
      reuse = record { free = free_kept; sweep = sweep_kept };
      tricolour = λ _. subst (λ n. TricolourKept (extent c) n h (λ t. tricolour_held (hs t))) (sym cycle) tricolour_kept;
      solid = λ _. subst (λ n. SolidKept (extent c) n h) (sym cycle) solid_kept;
    }

  pub opening_names_kept : (tasks : ℕ → Task) → tasks ≡ (λ t. no_task) → Invariant c (picture (start_graph c) (Started ∷ []) h (opening_names c) tasks)
  opening_names_kept tasks none = subst (λ ts. Invariant c (picture (start_graph c) (Started ∷ []) h (opening_names c) ts)) (sym none)
      (subst (λ s. Invariant c s) (λ i. record (picture (start_graph c) (Started ∷ []) h (opening_names c) (λ t. no_task)) { cycle = sym cycle i; sweep = sym sweep i })
      (words_kept c bounds (omega (arith, low)) (λ x. h (ColourOf x)) colours (block_words h) (opening_agrees c plan h words)))
