-- The events of a builder, up to its last colour.
use Rattle.std.proofs.Common.{◌≡◌, ℕ, suc, ◌+◌, ◌≤◌, ◌<◌, ◌⊎◌, inl, inr, Bool, true, refl, arith, subst, sym, ap, ◌∙◌, Some, None, IfSome}
use Rattle.std.proofs.lemmas.Bool.{cases_eq}
use Rattle.block_store.specs.declared.Config.{Config}
use Rattle.block_store.specs.declared.Name.{Name}
use Rattle.block_store.specs.declared.Width.{Width}
use Rattle.block_store.specs.Colours.{is_free, black_word}
use Rattle.block_store.specs.Registers.{root_block, register_block, register_slot, registers_end}
use Rattle.block_store.proofs.Lemmas.{changed_both, not_free_black, register_low, register_some, slot_low}
use Rattle.block_store.specs.Widths.{payloads}
use Rattle.never_heap.specs.Graphs.{Graph, ObjectKind, next_name}
use Rattle.heap_invariant.specs.graph_relation.Layouts.{layout_part}
use Rattle.heap_invariant.specs.graph_relation.Words.{Agrees, BlockWords, with_payload}
use Rattle.heap_invariant.specs.graph_relation.GraphOfWords.{Shows}
use Rattle.heap_invariant.specs.graph_relation.Events.{pending_registers}
use Rattle.heap_invariant.proofs.graph_relation.Blocks.{other_block}
use Rattle.heap_invariant.proofs.graph_relation.ObjectLayouts.{layout_laws}
use Rattle.heap_invariant.proofs.graph_relation.Stores.{words_change}
use Rattle.heap_invariant.specs.name_invariant.Building.{Build, build_blocks, build_owner, build_shape, build_payload, with_owner, with_shape, IsBuild, IsBuilt, NotHeld, IsHeldOnce}
use Rattle.heap_invariant.specs.name_invariant.Colouring.{IfRefers, IsDark, NotRoot, SweepColours}
use Rattle.block_store.specs.Counts.{changed}
use Rattle.heap_invariant.specs.name_invariant.States.{KeptState, sizes, Known, Kept}
use Rattle.heap_invariant.specs.name_invariant.Events.{apply, build_at, held_at, reserved, collected, with_words, with_build, IsBuilding, HasAll, IsFreeBlock, Guard}
use Rattle.heap_invariant.specs.name_invariant.Events.KeptEvent.{Reserve, Collect, WriteOwner, WriteShape, WritePayload, WriteColour}
use Rattle.heap_invariant.specs.name_invariant.Invariant.{Invariant}
use Rattle.heap_invariant.proofs.name_invariant.Colours.{differ, changed_here, changed_else, dark_solid, painted_at, painted_built, blackened}
use Rattle.heap_invariant.proofs.name_invariant.HeldBlocks.{some_case, build_rewritten, build_recoloured}
use Rattle.heap_invariant.proofs.name_invariant.BuildEvents.{other_owner, other_shape, begins, collects, in_hand, writes_owner, writes_shape, writes_payload, writes_colour}
use Rattle.heap_invariant.proofs.name_invariant.WordTargets.{refers_same, refers_link, behind_roots}
use Rattle.heap_invariant.proofs.name_invariant.PendingRegisters.{older_words}
use Rattle.heap_invariant.proofs.name_invariant.KeptStates.{shown, build_of, title_of, once_not_held}

-- other words at blocks that are not dark
sweep_same : (W : Width) (n cycle : ℕ) (K : Name → Type 0) (blocks : Name → ℕ) (at : Name → ℕ → ℕ)
    (colour : ℕ → ℕ) (payload other : ℕ → ℕ → ℕ) (shaded : ℕ → Bool)
    → ((x j : ℕ) → IsDark cycle (colour x) → j < payloads W → other x j ≡ payload x j)
    → SweepColours W n cycle K blocks at colour payload shaded
    → SweepColours W n cycle K blocks at colour other shaded
sweep_same W n cycle K blocks at colour payload other shaded same k = record {
  kept = k.kept;
  arrays = k.arrays;
  greys = k.greys;
  roots = k.roots;
  darks = λ x j d jl. refers_same (λ y. (colour y ≡ black_word cycle) × NotRoot W n y) _ _
      (same x j d jl) (k.darks x j d jl);
}

module _ (c : Config) (s : KeptState) (k : Invariant c s) where
  abbrev g : Graph
  g = s.seen.graph

  abbrev w : BlockWords
  w = s.seen.words

  IsBuildOf : BlockWords → Build → Type 0
  IsBuildOf u b = IsBuild c.width c.threads c.blocks s.cycle s.colour u b

  -- what thread t builds becomes b
  builds_set : (t : ℕ) (b : Build) (P : Build → Type 0) → P b
      → ((u : ℕ) (d : Build) → u < c.threads → (t ≡ u → ⊥) → s.builds u ≡ Some d → P d)
      → (u : ℕ) → u < c.threads → IfSome (changed s.builds t (Some b) u) P
  builds_set t b P new others u un = changed_both (λ _ o. IfSome o P) s.builds t (Some b) u
      (λ _. new) (λ ne. some_case P (s.builds u) (λ d is. others u d un ne is))

  titles_set : (t : ℕ) (b : Build) → b.name ≡ next_name g t → (u : ℕ) → u < c.threads
      → IfSome (changed s.builds t (Some b) u) (λ (d : Build). d.name ≡ next_name g u)
  titles_set t b e u un = changed_both (λ u o. IfSome o (λ (d : Build). d.name ≡ next_name g u))
      s.builds t (Some b) u (λ same. e ∙ ap (next_name g) same) (λ _. k.titles u un)

  -- what was coloured by a builder still is
  built_set : (t : ℕ) (b : Build) → ((d : Build) (o : ℕ) → s.builds t ≡ Some d → d.left ≤ o
      → o < build_blocks c.width d → (b.left ≤ o) × (o < build_blocks c.width b)
      × (d.held o ≡ b.held o))
      → (x : ℕ) → IsBuilt c.width c.threads s.builds x → IsBuilt c.width c.threads
      (changed s.builds t (Some b)) x
  built_set t b more x q = elim (cases_eq t q.thread) [
    | inr ne ↦ record {
      thread = q.thread;
      there = q.there;
      build = q.build;
      builds_it = changed_else s.builds t (Some b) q.thread ne ∙ q.builds_it;
      ordinal = q.ordinal;
      coloured = q.coloured;
      low = q.low;
      is = q.is;
    }
    | inl e ↦
        let kept = more q.build q.ordinal (ap s.builds e ∙ q.builds_it) q.coloured q.low in
        record {
          thread = q.thread;
          there = q.there;
          build = b;
          builds_it = changed_here s.builds t (Some b) q.thread e;
          ordinal = q.ordinal;
          coloured = kept.0;
          low = kept.1;
          is = q.is ∙ kept.2;
        }
  ]

  -- Thread t builds b from now on, and the words are u.
  rebuilt : (t : ℕ) (b : Build) (u : BlockWords) → b.name ≡ next_name g t
      → IsBuild c.width c.threads c.blocks s.cycle s.colour u b
      → ((v : ℕ) (d : Build) → v < c.threads → (t ≡ v → ⊥) → s.builds v ≡ Some d
      → IsBuild c.width c.threads c.blocks s.cycle s.colour u d)
      → ((d : Build) (o : ℕ) → s.builds t ≡ Some d → d.left ≤ o → o < build_blocks c.width d
      → (b.left ≤ o) × (o < build_blocks c.width b) × (d.held o ≡ b.held o))
      → Shows c.width c.threads c.blocks (Kept s) g s.at u (pending_registers s.seen.loads)
      → ((x j : ℕ) → 0 < x → x ≤ registers_end c.width c.threads → j < payloads c.width
      → u.payload x j ≡ w.payload x j)
      → (s.sweep ≡ true → SweepColours c.width c.threads s.cycle (Kept s) (sizes c s) s.at s.colour
      u.payload
      s.shaded)
      → Invariant c (with_build (with_words s u) t b)
  rebuilt t b u title new others more shows registers sweeping = record {
    ordered = k.ordered;
    follows = record { shows = shows; loads = k.follows.loads };
    older = λ v r vn rl pending. older_words c s.order w (Kept s) s.at v r
        (k.older v r vn rl pending) u
        (registers (register_block c.width v r) (register_slot c.width r)
        (register_some c.width v r)
        (register_low c.width c.threads v r vn rl) (slot_low c.width r));
    known = k.known;
    named = k.named;
    painted = painted_built c.width c.threads s.cycle (Known s) (Kept s) (sizes c s) s.at s.colour
        (IsBuilt c.width c.threads s.builds)
        (IsBuilt c.width c.threads (changed s.builds t (Some b)))
        (built_set t b more) k.painted;
    builds = builds_set t b (λ b. IsBuild c.width c.threads c.blocks s.cycle s.colour u b) new
        others;
    titles = titles_set t b title;
    scans = k.scans;
    marking = k.marking;
    sweeping = sweeping;
  }

  pub reserves : (t : ℕ) (kind : ObjectKind) (size : ℕ) → Guard c s (Reserve t kind size)
      → Invariant c (apply c s (Reserve t kind size))
  reserves t kind size q = rebuilt t (reserved c s t kind size) w refl
      (begins c.width c.threads c.blocks s.cycle s.colour w (next_name g t) kind size q.3 q.2 q.4)
      (λ v d vn _ is. build_of c s k v d vn is)
      (λ d o is. (let z : None ≡ Some d = sym q.1 ∙ is in cc))
      (shown c s k) (λ x j some low jl. refl) k.sweeping

  -- an object's block that thread t has in hand
  module _ (t : ℕ) (building : IsBuilding c s t) where
    abbrev own : Build
    own = build_at s t

    mine : IsBuild c.width c.threads c.blocks s.cycle s.colour w own
    mine = build_of c s k t own building.0 building.1

    title : own.name ≡ next_name g t
    title = title_of c s k t own building.0 building.1

    same_build : (d : Build) → s.builds t ≡ Some d → d ≡ build_at s t
    same_build d is = let z : Some d ≡ Some own = sym is ∙ building.1 in cc

    pub collects_block : (x : ℕ) → own.collected < build_blocks c.width own → IsFreeBlock c s x
        → Invariant c (apply c s (Collect t x))
    collects_block x more free = rebuilt t (collected own x) w title
        (collects c.width c.threads c.blocks s.cycle s.colour w own mine x more free.0 free.1
        free.2)
        (λ v d vn _ is. build_of c s k v d vn is)
        (λ d o is lo hi. absurd
        (none_written (subst (λ (b : Build). b.left ≤ o) (same_build d is) lo)
        (subst (λ b. o < build_blocks c.width b) (same_build d is) hi)))
        (shown c s k) (λ x j some low jl. refl) k.sweeping
      where
        early : (own.collected ≡ build_blocks c.width own)
            ⊎ ((own.left ≡ build_blocks c.width own) × (own.step ≡ 0)) → own.left ≡ build_blocks
            c.width own
        early (inl e) = absurd (omega arith)
        early (inr e) = e.0

        none_written : {o : ℕ} → own.left ≤ o → o < build_blocks c.width own → ⊥
        none_written {o} lo hi = omega (arith, early mine.phase)

    module _ (o : ℕ) (all : HasAll c s t) (next : suc o ≡ own.left)
        (once : IsHeldOnce c.threads s.builds t o (held_at s t o)) where
      -- the build once this ordinal is coloured
      abbrev done : Build
      done = record (build_at s t) { left = o; step = 0 }

      private_is_free : is_free (s.colour (held_at s t o)) ≡ true
      private_is_free = in_hand c.width c.threads c.blocks s.cycle s.colour w own mine o next all

      hand_held : o < own.collected
      hand_held = omega (arith, mine.few_left)

      hand_behind : registers_end c.width c.threads < held_at s t o
      hand_behind = mine.behind o hand_held

      hand_not_kept : (a : Name) (p : ℕ) → Kept s a → p < sizes c s a → held_at s t o ≡ s.at a p → ⊥
      hand_not_kept a p ka pl e = differ _ (subst (λ z. is_free (s.colour z) ≡ true) e private_is_free)
          (k.painted.solid a p ka pl)

      others_away : (v : ℕ) (d : Build) → v < c.threads → (t ≡ v → ⊥) → s.builds v ≡ Some d
          → NotHeld d (held_at s t o)
      others_away v d vn ne is = once_not_held c s k t o (held_at s t o) private_is_free once v d vn ne is

      -- One word of the block is written.
      word_written : (u : BlockWords) (words : ℕ)
          → ((y : ℕ) → (held_at s t o ≡ y → ⊥) → Agrees c.width w u y)
          → IsBuild c.width c.threads c.blocks s.cycle s.colour u (record own { step = words })
          → Invariant c (with_build (with_words s u) t (record own { step = words }))
      word_written u words same new = rebuilt t (record own { step = words }) u title new
          (λ v d vn ne is. build_rewritten c.width c.threads c.blocks s.cycle s.colour w d
          (build_of c s k v d vn is) u
          (λ p pl. same (d.held p) (λ e. others_away v d vn ne is p pl e)))
          (λ d p is lo hi. (
            subst (λ (b : Build). b.left ≤ p) (same_build d is) lo,
            subst
                (λ b. p < build_blocks c.width b) (same_build d is) hi,
            ap (λ (b : Build). b.held p)
                (same_build d is),
          ))
          (words_change c.width c.threads c.blocks (Kept s) g s.at w
          (pending_registers s.seen.loads) (shown c s k) u
          (λ x j some low jl. (same x (λ e. omega (arith, hand_behind))).payloads j jl)
          (λ a p ka pl. same (s.at a p) (λ e. hand_not_kept a p ka pl e)))
          (λ x j some low jl. (same x (λ e. omega (arith, hand_behind))).payloads j jl)
          (λ sweep. sweep_same c.width c.threads s.cycle (Kept s) (sizes c s) s.at s.colour
          w.payload u.payload
          s.shaded
          (λ x j d jl. (same x (λ e. differ _ (subst (λ z. is_free (s.colour z) ≡ true) e private_is_free)
          (dark_solid s.cycle _ d))).payloads j jl) (k.sweeping sweep))

      pub owner_written : own.step ≡ 0 → Invariant c (apply c s (WriteOwner t o))
      owner_written step = word_written (with_owner w (held_at s t o) (build_owner own o)) 1
          (λ y ne. other_owner c.width w (held_at s t o) (build_owner own o) y ne)
          (writes_owner c.width c.threads c.blocks s.cycle s.colour w own mine o next all step)

      pub shape_written : own.step ≡ 1 → Invariant c (apply c s (WriteShape t o))
      shape_written step = word_written (with_shape w (held_at s t o) (build_shape own)) 2
          (λ y ne. other_shape c.width w (held_at s t o) (build_shape own) y ne)
          (writes_shape c.width c.threads c.blocks s.cycle s.colour w own mine o next all step)

      pub payload_written : (j : ℕ) → own.step ≡ j + 2 → Invariant c (apply c s (WritePayload t o j))
      payload_written j step = word_written
          (with_payload w (held_at s t o) j (build_payload c.width own o j)) (j + 3)
          (λ y ne. other_block c.width w (held_at s t o) j (build_payload c.width own o j) y ne)
          (writes_payload c.width c.threads c.blocks s.cycle s.colour w own mine o next all j step)

      -- The block refers to coloured blocks of its own object alone.
      pub refers_own : (j : ℕ) → own.step ≡ payloads c.width + 2 → j < payloads c.width
          → IfRefers (λ y. (s.colour y ≡ black_word s.cycle) × NotRoot c.width c.threads y)
          (w.payload (held_at s t o) j)
      refers_own j step jl =
          let laws = layout_laws c.width own.kind own.size in
          refers_same (λ y. (s.colour y ≡ black_word s.cycle) × NotRoot c.width c.threads y) _ _
          ((mine.begun o next).links j jl (omega arith))
          (refers_link (λ y. (s.colour y ≡ black_word s.cycle) × NotRoot c.width c.threads y)
          own.held
          (layout_part c.width own.kind own.size o j)
          (λ p e. (let on = laws.onward o j p e in (
            mine.black p (omega (arith, on.1)) on.2,
            behind_roots c.width c.threads (held_at s t p)
                (mine.behind p (omega (arith, on.2))),
          ))))

      pub colour_written : own.step ≡ payloads c.width + 2 → Invariant c (apply c s (WriteColour t o))
      colour_written step =
          let built : IsBuilt c.width c.threads (changed s.builds t (Some done)) (held_at s t o) =
          record {
            thread = t;
            there = building.0;
            build = done;
            builds_it = changed_here s.builds t (Some done) t refl;
            ordinal = o;
            coloured = omega arith;
            low = omega (arith, mine.few_left);
            is = refl;
          } in
          record {
            ordered = k.ordered;
            follows = k.follows;
            older = k.older;
            known = k.known;
            named = k.named;
            painted = painted_at c.width c.threads s.cycle (Known s) (Kept s) (sizes c s) s.at
                s.colour
                (IsBuilt c.width c.threads (changed s.builds t (Some done))) (held_at s t o)
                (black_word s.cycle)
                (inr (inr (inr refl))) (λ _. not_free_black s.cycle) (λ _. not_free_black s.cycle)
                (λ _. inr built)
                (painted_built c.width c.threads s.cycle (Known s) (Kept s) (sizes c s) s.at
                s.colour
                (IsBuilt c.width c.threads s.builds)
                (IsBuilt c.width c.threads (changed s.builds t (Some done)))
                (built_set t done (λ d p is lo hi. (
                  omega (arith, subst (λ (b : Build). b.left ≤ p) (same_build d is) lo),
                  subst
                      (λ b. p < build_blocks c.width b) (same_build d is) hi,
                  ap (λ (b : Build). b.held p)
                      (same_build d is),
                )))
                k.painted);
            builds = builds_set t done
                (λ b. IsBuild c.width c.threads c.blocks s.cycle
                (changed s.colour (held_at s t o) (black_word s.cycle))
                w b)
                (writes_colour c.width c.threads c.blocks s.cycle s.colour w own mine o next all
                step
                (λ p lo e. omega (
                  arith,
                  (once t p own building.0 building.1 (omega (arith, hand_held))
                      (omega arith) e).1,
                )))
                (λ v d vn ne is. build_recoloured c.width c.threads c.blocks s.cycle s.colour w d
                (build_of c s k v d vn is) (held_at s t o) (black_word s.cycle)
                (others_away v d vn ne is));
            titles = titles_set t done title;
            scans = k.scans;
            marking = λ mark. (let q = k.marking mark in record {
              all = q.all;
              roots = λ u un. changed_both (λ y w. IsDark s.cycle w) s.colour
                  (held_at s t o) (black_word s.cycle) (root_block c.width u) (λ _. inr refl)
                  (λ _. q.roots u un);
            });
            sweeping = λ sweep. blackened c.width c.threads s.cycle (Kept s) (sizes c s) s.at
                s.colour w.payload
                s.shaded (k.sweeping sweep) (held_at s t o) private_is_free
                (λ j jl. refers_own j step jl);
          }
