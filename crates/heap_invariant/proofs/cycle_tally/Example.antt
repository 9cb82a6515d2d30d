-- The events of the example may come one after another.
use Rattle.std.proofs.Common.{◌≡◌, ℕ, ◌≤◌, true, refl, inl, false, inr, sym, subst, [], ◌∷◌}
use Rattle.std.proofs.lemmas.Bool.{leb-true}
use Rattle.block_store.specs.declared.Width.{Width}
use Rattle.block_store.specs.declared.Width.TheVariants.{Four, Eight}
use Rattle.block_store.specs.Configs.{IsInBounds}
use Rattle.array_trees.specs.InitialHeaps.{opening_blocks}
use Rattle.array_trees.specs.Trees.{tree}
use Rattle.rate_plan.specs.Rates.{KeepsUp}
use Rattle.never_heap.specs.declared.Reply.TheVariants as replies
use Rattle.never_heap.specs.Histories.{HistoryItem, Started, Did, Legal}
use Rattle.never_heap.specs.Licensed.{StartsSmall, NoFulls}
use Rattle.never_heap.specs.LiveBlocks.{live_blocks}
use Rattle.never_heap.specs.Reach.{reachable}
use Rattle.heap_invariant.specs.cycle_tally.Tallies.{units}
use Rattle.heap_invariant.specs.cycle_tally.Events.{Guarded}
use Rattle.heap_invariant.proofs.cycle_tally.GuardTests.{in_bounds, all_small, all_guarded}
use Rattle.heap_invariant.specs.cycle_tally.Example.{tight, tight_rate, asked_entry, full_events, full_start, full_end, small, small_rate, blacks, some_events, example_start, example_end}

pub bounds : (w : Width) → IsInBounds (small w)
bounds w = in_bounds (small w) refl

pub room : (w : Width) → opening_blocks (small w) ≤ (small w).blocks
unfolding tree
room Four = leb-true _ _ refl
room Eight = leb-true _ _ refl

pub keeps_up : (w : Width) → KeepsUp (small w) small_rate
keeps_up w = leb-true _ _ refl

pub example_runs : (w : Width)
    → Guarded (small w) small_rate blacks (example_start w) some_events
unfolding live_blocks reachable tree
example_runs Four =
    all_guarded (small Four) small_rate blacks some_events (example_start Four) refl
example_runs Eight =
    all_guarded (small Eight) small_rate blacks some_events (example_start Eight) refl

pub example_cycle : (w : Width) → (example_end w).cycle ≡ 2
example_cycle w = refl

pub example_units : (w : Width) → units 10 (example_end w) ≡ 23
example_units w = refl

pub example_paid : (w : Width) → ((example_end w).threads 0).balance
    ≡ record { paid = 1; cycle = 2; units = 3; given = 0 }
example_paid w = refl

pub example_legal : (w : Width) → Legal (small w) (example_end w).order
example_legal w = (inl refl, (inl refl, (tt, (inl refl, tt))))

pub example_starts : (w : Width) → StartsSmall (small w) (example_end w).order
unfolding live_blocks reachable tree
example_starts Four = all_small (small Four) (example_end Four).order 2 refl
example_starts Eight = all_small (small Eight) (example_end Eight).order 2 refl

-- the full
pub tight_bounds : (w : Width) → IsInBounds (tight w)
tight_bounds Four = in_bounds (tight Four) refl
tight_bounds Eight = in_bounds (tight Eight) refl

pub tight_room : (w : Width) → opening_blocks (tight w) ≤ (tight w).blocks
unfolding tree
tight_room Four = leb-true _ _ refl
tight_room Eight = leb-true _ _ refl

pub tight_keeps_up : (w : Width) → KeepsUp (tight w) (tight_rate w)
tight_keeps_up Four = leb-true _ _ refl
tight_keeps_up Eight = leb-true _ _ refl

pub full_runs : (w : Width) → Guarded (tight w) (tight_rate w) blacks (full_start w) (full_events w)
unfolding live_blocks reachable tree
full_runs Four =
    all_guarded (tight Four) (tight_rate Four) blacks (full_events Four) (full_start Four) refl
full_runs Eight =
    all_guarded (tight Eight) (tight_rate Eight) blacks (full_events Eight) (full_start Eight) refl

abbrev new_then : Width → ℕ → HistoryItem
new_then w k = Did (asked_entry w k (replies.New (record { thread = 0; serial = k })))

pub full_order : (w : Width) → (full_end w).order
    ≡ Started ∷ new_then w 1 ∷ Started ∷ new_then w 2 ∷ Started ∷ new_then w 3 ∷ Started
    ∷ new_then w 4 ∷ Started ∷ Did (asked_entry w 5 (replies.Full 4)) ∷ []
full_order Four = refl
full_order Eight = refl

legal_so : (w : Width) → Legal (tight w) (Started ∷ new_then w 1 ∷ Started ∷ new_then w 2
    ∷ Started ∷ new_then w 3 ∷ Started ∷ new_then w 4 ∷ Started
    ∷ Did (asked_entry w 5 (replies.Full 4)) ∷ [])
legal_so w = (
  inl refl,
  (
    tt,
    (
      inl refl,
      (
        tt,
        (
          inl refl,
          (
            tt,
            (
              inl refl,
              (
                tt,
                (inr (refl, refl), tt),
              ),
            ),
          ),
        ),
      ),
    ),
  ),
)

pub full_legal : (w : Width) → Legal (tight w) (full_end w).order
full_legal Four = subst (λ h. Legal (tight Four) h) (sym (full_order Four)) (legal_so Four)
full_legal Eight = subst (λ h. Legal (tight Eight) h) (sym (full_order Eight)) (legal_so Eight)

pub full_is_there : (w : Width) → NoFulls (full_end w).order → ⊥
full_is_there Four h = absurd (let e : true ≡ false = h.1.1.1.1.0 in cc)
full_is_there Eight h = absurd (let e : true ≡ false = h.1.1.1.1.0 in cc)
