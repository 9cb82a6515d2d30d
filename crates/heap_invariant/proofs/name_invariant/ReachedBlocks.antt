-- What follows for the names and blocks that the graph reaches, and for builders.
use Rattle.std.proofs.Common.{◌≡◌, ℕ, ◌≤◌, ◌<◌, ◌⊎◌, inl, inr, true, false, refl, arith, subst, sym, ap, ◌∙◌, Some}
use Rattle.block_store.specs.declared.Config.{Config}
use Rattle.block_store.specs.declared.Name.{Name}
use Rattle.block_store.specs.Colours.{is_free, black_word}
use Rattle.block_store.specs.Widths.{payloads}
use Rattle.never_heap.specs.Graphs.{has_name}
use Rattle.never_heap.specs.Cycles.{graph_at}
use Rattle.never_heap.specs.Reach.{reachable}
use Rattle.heap_invariant.specs.graph_relation.Layouts.{layout_part}
use Rattle.heap_invariant.proofs.graph_relation.ObjectLayouts.{layout_laws}
use Rattle.heap_invariant.specs.graph_relation.Words.{BlockWords}
use Rattle.heap_invariant.specs.name_invariant.Building.{Build, build_blocks, IsBuilt, NotHeld}
use Rattle.heap_invariant.specs.name_invariant.Colouring.{IfRefers, IsDark, IsColoured, IsShadedRoot, NotRoot}
use Rattle.heap_invariant.specs.name_invariant.States.{KeptState, sizes, Known, Kept, IsKnownBlock, IsKeptBlock}
use Rattle.heap_invariant.specs.name_invariant.Events.{Guard, apply, build_at, held_at}
use Rattle.heap_invariant.specs.name_invariant.Events.KeptEvent.{Flip, Start, WriteColour}
use Rattle.heap_invariant.specs.name_invariant.Invariant.{Invariant}
use Rattle.heap_invariant.specs.name_invariant.Reached.{Reached, IsReachedBlock, ReachedOrMade, IsReachedOrMade, IsColouredOf}
use Rattle.heap_invariant.proofs.name_invariant.Colours.{differ}
use Rattle.heap_invariant.proofs.name_invariant.WordTargets.{refers_same, refers_more, refers_link}
use Rattle.heap_invariant.proofs.name_invariant.KeptStates.{belongs_more, build_of, belongs_not_held}
use Rattle.heap_invariant.proofs.name_invariant.FlipAndStart.{reached_kept, flips}

module _ (c : Config) (s : KeptState) (k : Invariant c s) where
  abbrev w : BlockWords
  w = s.seen.words

  reached_block : (x : ℕ) → IsReachedBlock c s x → IsKeptBlock c s x
  reached_block x b = belongs_more c.width c.threads (Reached s) (Kept s) (sizes c s) s.at x
      (reached_kept c s k) b

  pub reached_solid : (x : ℕ) → IsReachedBlock c s x → is_free (s.colour x) ≡ false
  reached_solid x b = solid (reached_block x b)
    where
      solid : {x : ℕ} → IsKeptBlock c s x → is_free (s.colour x) ≡ false
      solid {x} (inl r) = k.painted.arrays x r
      solid {x} (inr q) = subst (λ z. is_free (s.colour z) ≡ false) (sym q.is)
          (k.painted.solid q.name q.ordinal q.kept q.low)

  pub reached_not_held : (x t : ℕ) (b : Build) → IsReachedBlock c s x → t < c.threads
      → s.builds t ≡ Some b
      → NotHeld b x
  reached_not_held x t b r tn is = belongs_not_held c s k x (reached_block x r) t b tn is

  -- a coloured block of an object that is being built
  pub coloured_refers : (t o j : ℕ) (b : Build) → t < c.threads → s.builds t ≡ Some b → b.left ≤ o
      → o < build_blocks c.width b → j < payloads c.width → IfRefers (IsColouredOf c.width b)
      (w.payload (b.held o) j)
  coloured_refers t o j b tn is lo hi jl =
      let build = build_of c s k t b tn is in
      refers_same (IsColouredOf c.width b) _ _ ((build.written o lo hi).links j jl)
      (refers_link (IsColouredOf c.width b) b.held (layout_part c.width b.kind b.size o j)
      (λ p e. (let on = (layout_laws c.width b.kind b.size).onward o j p e in
      (p, omega (arith, on.1), on.2, refl))))

  -- and one that is to be coloured next
  pub in_hand_refers : (t o j : ℕ) → Guard c s (WriteColour t o) → j < payloads c.width
      → IfRefers (IsColouredOf c.width (build_at s t)) (w.payload (held_at s t o) j)
  in_hand_refers t o j q jl =
      let build = build_of c s k t (build_at s t) q.building.0 q.building.1 in
      let step = q.step in
      refers_same (IsColouredOf c.width (build_at s t)) _ _
      ((build.begun o q.next).links j jl (omega arith))
      (refers_link (IsColouredOf c.width (build_at s t)) (build_at s t).held
      (layout_part c.width (build_at s t).kind (build_at s t).size o j)
      (λ p e. (let on = (layout_laws c.width (build_at s t).kind (build_at s t).size).onward o j p e
      in
      (p, omega (arith, on.1, q.next), on.2, refl))))

  -- in Sweep
  pub reached_black : s.sweep ≡ true → (x : ℕ) → IsReachedBlock c s x
      → (s.colour x ≡ black_word s.cycle) ⊎ IsShadedRoot c.width c.threads s.shaded x
  reached_black sweep x b = black (reached_block x b)
    where
      dark : {x : ℕ} → IsDark s.cycle (s.colour x) → (s.colour x ≡ black_word s.cycle)
          ⊎ IsShadedRoot c.width c.threads s.shaded x
      dark {x} (inl grey) = inr ((k.sweeping sweep).greys x grey)
      dark {x} (inr black) = inl black

      black : {x : ℕ} → IsKeptBlock c s x → (s.colour x ≡ black_word s.cycle)
          ⊎ IsShadedRoot c.width c.threads s.shaded x
      black {x} (inl r) = dark ((k.sweeping sweep).arrays x r)
      black {x} (inr q) = inl (ap s.colour q.is
          ∙ (k.sweeping sweep).kept q.name q.ordinal q.kept q.low)

  pub dark_refers : s.sweep ≡ true → (x j : ℕ) → IsDark s.cycle (s.colour x) → j < payloads c.width
      → IfRefers (λ y. s.colour y ≡ black_word s.cycle) (w.payload x j)
  dark_refers sweep x j d jl = refers_more (λ y. (s.colour y ≡ black_word s.cycle)
      × NotRoot c.width c.threads y)
      (λ y. s.colour y ≡ black_word s.cycle) _ (λ y b. b.0) ((k.sweeping sweep).darks x j d jl)

  -- at the flip: no root is shaded yet
  pub flipped_black : (x : ℕ) → Guard c s Flip → IsReachedBlock c s x
      → s.colour x ≡ black_word s.cycle
  flipped_black x q b = black (belongs_more c.width c.threads (Reached s) (Kept (apply c s Flip))
      (sizes c s) s.at x (reached_kept c (apply c s Flip) (flipped q)) b)
    where
      flipped : Guard c s Flip → Invariant c (apply c s Flip)
      flipped q = flips c s k q.1 q.0 q.2 q.3

      dark : IsDark s.cycle (s.colour x) → s.colour x ≡ black_word s.cycle
      dark (inl grey) = absurd (differ _ grey (q.2 x))
      dark (inr black) = black

      black : IsKeptBlock c (apply c s Flip) x → s.colour x ≡ black_word s.cycle
      black (inl r) = dark (((flipped q).sweeping refl).arrays x r)
      black (inr b) = ap s.colour b.is ∙ ((flipped q).sweeping refl).kept b.name b.ordinal b.kept
          b.low

  -- at the start: no block is white
  pub started_black : (x : ℕ) → Guard c s Start → is_free (s.colour x) ≡ false
      → (s.colour x ≡ black_word s.cycle) ⊎ IsShadedRoot c.width c.threads s.shaded x
  started_black x q solid = either (k.painted.fits x)
    where
      either : IsColoured s.cycle (s.colour x) → (s.colour x ≡ black_word s.cycle)
          ⊎ IsShadedRoot c.width c.threads s.shaded x
      either (inl free) = absurd (differ _ free solid)
      either (inr (inl white)) = absurd (q.2 x white)
      either (inr (inr (inl grey))) = inr ((k.sweeping q.0).greys x grey)
      either (inr (inr (inr black))) = inl black

  -- what is marked
  pub marked_is : (x : ℕ) → IsDark s.cycle (s.colour x) → IsReachedOrMade c s x
      ⊎ IsBuilt c.width c.threads s.builds x
  marked_is x d = either (k.painted.marked x d)
    where
      made : (a : Name) → has_name s.seen.graph a ≡ true
          → (reachable (graph_at c s.order s.cycle) a ≡ true)
          ⊎ (has_name (graph_at c s.order s.cycle) a ≡ false) → ReachedOrMade c s a
      made a has (inl reached) = inl reached
      made a has (inr later) = inr (has, later)

      either : IsKnownBlock c s x ⊎ IsBuilt c.width c.threads s.builds x → IsReachedOrMade c s x
          ⊎ IsBuilt c.width c.threads s.builds x
      either (inl b) = inl (belongs_more c.width c.threads (Known s) (ReachedOrMade c s) (sizes c s)
          s.at x
          (λ a ka. made a (k.named a ka) (k.ordered.since a ka)) b)
      either (inr b) = inr b
