-- The first two cycles have no full.
use Rattle.std.proofs.Common.{ℕ, zero, suc, ◌+◌, ◌-◌, ◌<◌, ◌≤◌, ◌≡◌, max, true, List, [], ◌∷◌, ◌++◌, refl, subst, arith}
use Rattle.block_store.specs.declared.Config.{Config}
use Rattle.array_trees.specs.InitialHeaps.{opening_blocks}
use Rattle.rate_plan.specs.Rates.{IsAdmitted}
use Rattle.never_heap.specs.declared.Entry.{Entry}
use Rattle.never_heap.specs.declared.Reply.{Reply}
use Rattle.never_heap.specs.declared.Reply.TheVariants.{Full}
use Rattle.never_heap.specs.Cycles.{graph_at}
use Rattle.never_heap.specs.Graphs.{start_graph}
use Rattle.never_heap.specs.Histories.{HistoryItem, Started, Did, is_full, starts_in, Legal}
use Rattle.never_heap.specs.Licensed.{IsLicensedReply}
use Rattle.never_heap.specs.LiveBlocks.{live_blocks}

module _ (c : Config) (plan : IsAdmitted c)
    (opens : live_blocks c.width (start_graph c) ≡ opening_blocks c) where
  -- a full of cycle z, where so many cycles were started before the present one
  third : (past : List HistoryItem) (z more : ℕ) → starts_in past ≡ more
      → z ≡ max 1 (starts_in past + 1 - 1)
      → c.live < live_blocks c.width (graph_at c (Started ∷ past) z)
      → 3 ≤ starts_in past + 1
  third past z zero is named live =
      let one : z ≡ 1 = omega (arith, is, named) in
      let first : c.live < live_blocks c.width (start_graph c) =
      subst (λ y. c.live < live_blocks c.width (graph_at c (Started ∷ past) y)) one live in
      absurd (omega (arith, first, opens, plan.opens))
  third past z (suc zero) is named live =
      let one : z ≡ 1 = omega (arith, is, named) in
      let first : c.live < live_blocks c.width (start_graph c) =
      subst (λ y. c.live < live_blocks c.width (graph_at c (Started ∷ past) y)) one live in
      absurd (omega (arith, first, opens, plan.opens))
  third past z (suc (suc more)) is named live = omega (arith, is)

  in_third : (past : List HistoryItem) (r : Reply) → IsLicensedReply c (Started ∷ past) r
      → is_full r ≡ true → 3 ≤ starts_in (Started ∷ past)
  in_third past (Full z) licensed full =
      third past z (starts_in past) refl licensed.0 licensed.1
  in_third past _ licensed full = absurd cc

  pub early : (past : List HistoryItem) (e : Entry) (rest : List HistoryItem)
      → Legal c (past ++ Did e ∷ rest) → IsLicensedReply c past e.reply → is_full e.reply ≡ true
      → 3 ≤ starts_in past
  early [] e rest legal licensed full = absurd legal
  early (Started ∷ past) e rest legal licensed full = in_third past e.reply licensed full
  early (Did d ∷ past) e rest legal licensed full = absurd legal
