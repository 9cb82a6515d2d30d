-- Legal histories, in a loop that goes over one.
use Rattle.std.proofs.Common.{◌≡◌, ℕ, ◌+◌, ◌<◌, ◌≤◌, ◌↔◌, Bool, true, List, [], ◌∷◌, length, drop, get_or, ap, sym, subst, refl}
use Rattle.block_store.specs.declared.Config.{Config}
use Rattle.never_heap.specs.Graphs.{Graph, WideGraph, with_graph, start_graph}
use Rattle.never_heap.specs.Histories.{HistoryItem, Started, Did, after, IsAnswered, LegalFrom, Legal}
use Rattle.test_kit.specs.declared.reference_runs.Happened.{Happened}
use Rattle.test_kit.specs.reference_runs.Happenings.{item, history, BeginsWithStart}
use Rattle.test_kit.proofs.reference_runs.ListRemainder.{goes_on, ends, begins}

begun : (c : Config) (h : List HistoryItem) → BeginsWithStart h → LegalFrom (start_graph c) h
    → Legal c h
begun c [] b l = b
begun c (Started ∷ h) b l = l.1
begun c (Did e ∷ h) b l = b

module _ (c : Config) (g : Graph) (h : List Happened) (i : ℕ) (d : Happened)
    (so_far : LegalFrom g (history (drop i h)) ↔ LegalFrom (start_graph c) (history h)) where
  pub legal_goes_on : (k : Graph) → i < length h → IsAnswered g (item (get_or h i d))
      → k ≡ after g (item (get_or h i d))
      → LegalFrom k (history (drop (i + 1) h)) ↔ LegalFrom (start_graph c) (history h)
  legal_goes_on k there answered next =
      subst (λ (w : Graph). LegalFrom w (history (drop (i + 1) h))
      ↔ LegalFrom (start_graph c) (history h)) (sym next)
      (goes_on h i d (LegalFrom (start_graph c) (history h)) (λ xs. LegalFrom g (history xs))
      so_far there _ _ (begins _) answered)

  pub legal_ends : length h ≤ i → BeginsWithStart (history h) → Legal c (history h)
  legal_ends none b =
      begun c (history h) b
      (ends h i d (LegalFrom (start_graph c) (history h)) (λ xs. LegalFrom g (history xs))
      so_far none tt)
