-- What keeps both rules on blocks that are used again at once.
use Rattle.std.proofs.Common.{◌≡◌, ◌≢◌, ℕ, ◌+◌, ◌≤◌, ◌<◌, true, false, refl, subst}
use Rattle.std.proofs.lemmas.Bool.{or_parts}
use Rattle.block_store.specs.Colours.{is_free, white_word}
use Rattle.block_store.specs.Heaps.{Heap, put_at}
use Rattle.block_store.specs.Phases.{is_sweep, cycle_of}
use Rattle.block_store.specs.Places.{Extent, Phase, Cursor, ColourOf}
use Rattle.block_store.specs.Counts.{changed}
use Rattle.heap_machine.specs.FreeBlocks.{FreeInHand, FreeKept, is_of_free}
use Rattle.heap_machine.specs.WorkInHand.{WorkInHand, free_held, sweep_held}
use Rattle.heap_machine.specs.Operations.{Operation, Exchange, place_of, heap_after}
use Rattle.heap_machine.specs.ReuseKept.{ReuseKept, is_of_reuse}
use Rattle.heap_machine.specs.Sweeping.{SweepInHand, SweepKept, no_claim, is_of_sweep}
use Rattle.heap_machine.proofs.FreeBlocks.{free_other, free_other_colour, free_stays}
use Rattle.heap_machine.proofs.HeapRules.{part_changed}
use Rattle.heap_machine.proofs.SweepRule.{sweep_other, sweep_colour, sweep_phase, sweep_turns, sweep_cursor, sweep_stays}

-- both rules, where one thread has gone on
pub reuse_goes : (e : Extent) (h : Heap) (hs : ℕ → WorkInHand) (t : ℕ) (w : WorkInHand)
    → FreeKept e h (changed (λ u. free_held (hs u)) t (free_held w))
    → SweepKept e h (changed (λ u. sweep_held (hs u)) t (sweep_held w))
    → ReuseKept e h (changed hs t w)
reuse_goes e h hs t w free sweep = record {
  free = subst (λ (ws : ℕ → FreeInHand). FreeKept e h ws) (part_changed free_held hs t w) free;
  sweep = subst (λ (ws : ℕ → SweepInHand). SweepKept e h ws)
      (part_changed sweep_held hs t w) sweep;
}

module _ (e : Extent) (h : Heap) (hs : ℕ → WorkInHand) (k : ReuseKept e h hs) where
  pub reuse_stays : (t : ℕ) (w : WorkInHand) → t < e.threads → free_held (hs t) ≡ free_held w
      → sweep_held (hs t) ≡ sweep_held w
      → ReuseKept e h (changed hs t w)
  reuse_stays t w low free sweep = reuse_goes e h hs t w
      (free_stays e h (λ u. free_held (hs u)) k.free t low (free_held w) free)
      (sweep_stays e h (λ u. sweep_held (hs u)) k.sweep t low (sweep_held w) sweep)

  pub reuse_other : (o : Operation) → is_of_reuse (place_of o) ≡ false
      → ReuseKept e (heap_after h o) hs
  reuse_other o away =
      let n = or_parts (is_of_free (place_of o)) (is_of_sweep (place_of o)) away in
      record {
        free = free_other e h (λ u. free_held (hs u)) o n.0 k.free;
        sweep = sweep_other e h (λ u. sweep_held (hs u)) o n.1 k.sweep;
      }

  pub reuse_colour : (x v : ℕ) → is_free (h (ColourOf x)) ≡ false → is_free v ≡ false
      → (is_sweep (h Phase) ≡ true
      → (v ≢ white_word (cycle_of (h Phase)))
      × (h (ColourOf x) ≢ white_word (cycle_of (h Phase))))
      → ReuseKept e (put_at h (ColourOf x) v) hs
  reuse_colour x v was is dark = record {
    free = free_other_colour e h (λ u. free_held (hs u)) x v was is k.free;
    sweep = sweep_colour e h (λ u. sweep_held (hs u)) x v dark k.sweep;
  }

  pub reuse_phase : (v : ℕ) → cycle_of v ≡ cycle_of (h Phase) → is_sweep v ≡ is_sweep (h Phase)
      → ReuseKept e (put_at h Phase v) hs
  reuse_phase v cycle phase = record {
    free = free_other e h (λ u. free_held (hs u)) (Exchange Phase v) refl k.free;
    sweep = sweep_phase e h (λ u. sweep_held (hs u)) v cycle phase k.sweep;
  }

  pub reuse_turns : (v : ℕ) → ((t : ℕ) → t < e.threads → sweep_held (hs t) ≡ no_claim)
      → (is_sweep v ≡ true → h Cursor ≡ 1) → ReuseKept e (put_at h Phase v) hs
  reuse_turns v none first = record {
    free = free_other e h (λ u. free_held (hs u)) (Exchange Phase v) refl k.free;
    sweep = sweep_turns e h (λ u. sweep_held (hs u)) v none first k.sweep;
  }

  pub reuse_cursor : (v : ℕ) → ((t : ℕ) → t < e.threads → sweep_held (hs t) ≡ no_claim)
      → is_sweep (h Phase) ≡ false → (1 ≤ v) × (v ≤ e.blocks + 1)
      → ReuseKept e (put_at h Cursor v) hs
  reuse_cursor v none mark inside = record {
    free = free_other e h (λ u. free_held (hs u)) (Exchange Cursor v) refl k.free;
    sweep = sweep_cursor e h (λ u. sweep_held (hs u)) v none mark inside;
  }
