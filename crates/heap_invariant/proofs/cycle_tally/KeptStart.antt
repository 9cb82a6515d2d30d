-- Few blocks are in use where a cycle may start by the rules that need the graph.
use Rattle.std.proofs.Common.{◌≡◌, ℕ, ◌+◌, ◌≤◌, ◌⊎◌, true, false, inl, inr, ap, sym, subst, arith, Some, None}
use Rattle.std.proofs.lemmas.Bool.{both_ways}
use Rattle.block_store.specs.declared.Config.{Config}
use Rattle.block_store.specs.declared.Name.{Name}
use Rattle.block_store.specs.Colours.{is_free}
use Rattle.never_heap.specs.Graphs.{Graph, object_of, has_name}
use Rattle.never_heap.specs.Histories.{replay}
use Rattle.never_heap.specs.Cycles.{graph_at}
use Rattle.never_heap.specs.GivenBlocks.{given}
use Rattle.never_heap.specs.LiveBlocks.{live_blocks, object_blocks}
use Rattle.never_heap.specs.Reach.{reachable}
use Rattle.heap_invariant.specs.name_invariant.Building.{IsBuilt}
use Rattle.heap_invariant.specs.name_invariant.Colouring.{IsDark}
use Rattle.heap_invariant.specs.name_invariant.States.{KeptState}
use Rattle.heap_invariant.specs.name_invariant.Invariant.{Invariant}
use Rattle.heap_invariant.specs.name_invariant.Events.KeptEvent.{Start}
use Rattle.heap_invariant.specs.name_invariant.Events.{Guard}
use Rattle.heap_invariant.proofs.name_invariant.ReachedBlocks.{marked_is}
use Rattle.heap_invariant.specs.cycle_tally.Entries.{InThreads}
use Rattle.heap_invariant.specs.cycle_tally.InUse.{ReachedOrMade, IsCovered, count_free}
use Rattle.heap_invariant.proofs.cycle_tally.InUse.{few_in_use}

module _ (c : Config) (s : KeptState) (k : Invariant c s) (may : Guard c s Start) where
  -- a name was reachable at the start of cycle z, or is one of g alone
  abbrev InGraph : Graph → ℕ → Name → Type 0
  InGraph g z a =
      (reachable (graph_at c s.order z) a ≡ true)
      ⊎ ((has_name g a ≡ true) × (has_name (graph_at c s.order z) a ≡ false))

  these_names : (a : Name) → InGraph s.seen.graph s.cycle a → ReachedOrMade c s.order a
  these_names a is =
      subst (λ z. InGraph (replay c s.order) z a) (sym k.ordered.started)
      (subst (λ g. InGraph g s.cycle a) k.ordered.replayed is)

  no_builder : (x : ℕ) → IsBuilt c.width c.threads s.builds x → ⊥
  no_builder x b =
      let nothing : s.builds b.thread ≡ None = may.1.builds b.thread b.there in
      let something : s.builds b.thread ≡ Some b.build = b.builds_it in
      cc

  marked : (x : ℕ) → is_free (s.colour x) ≡ false → IsDark s.cycle (s.colour x)
  marked x solid = elim (k.painted.fits x) [
    | inl free ↦ absurd (both_ways (is_free (s.colour x)) solid free)
    | inr other ↦ elim other [
      | inl white ↦ absurd (may.2 x white)
      | inr dark ↦ dark
    ]
  ]

  covered : IsCovered c s.order s.at (λ x. is_free (s.colour x))
  covered = λ x pos low solid. elim (marked_is c s k x (marked x solid)) [
    | inr built ↦ absurd (no_builder x built)
    | inl reached ↦ elim reached [
      | inl root ↦ inl root.1
      | inr b ↦
          let size : object_blocks c.width (object_of s.seen.graph b.name)
          ≡ object_blocks c.width (object_of (replay c s.order) b.name)
          = ap (λ (g : Graph). object_blocks c.width (object_of g b.name))
          k.ordered.replayed in
          inr (record {
            name = b.name;
            ordinal = b.ordinal;
            reached = these_names b.name b.kept;
            low = omega (arith, b.low);
            is = b.is;
          })
    ]
  ]

  pub few_at_start : (count : ℕ) → InThreads c.threads s.order
      → count ≡ count_free c.blocks (λ x. is_free (s.colour x))
      → c.blocks ≤ count + live_blocks c.width (graph_at c s.order s.cycle)
      + given c.width s.order s.cycle
  few_at_start count threads e =
      subst (λ z. c.blocks ≤ count + live_blocks c.width (graph_at c s.order z)
      + given c.width s.order z) k.ordered.started
      (few_in_use c s.order s.at (λ x. is_free (s.colour x)) count k.ordered.legal threads covered
      e)
