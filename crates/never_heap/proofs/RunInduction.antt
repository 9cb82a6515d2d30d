-- What holds of a run is shown item by item; and a run whose graphs stay within the live limit
-- has no full.
use Rattle.std.proofs.Common.{◌≡◌, ◌≢◌, ℕ, ◌+◌, ◌≤◌, inl, inr, List, [], ◌∷◌, ◌++◌, slice_index_or, sym, refl, ap, ◌∙◌, subst, append_assoc, append-nil, arith}
use Rattle.std.proofs.lemmas.Bool.{cases_eq}
use Rattle.block_store.specs.declared.Config.{Config}
use Rattle.never_heap.specs.declared.Command.{Command}
use Rattle.never_heap.specs.Graphs.{Graph, start_graph}
use Rattle.never_heap.specs.Cycles.{graph_at}
use Rattle.never_heap.specs.Histories.{HistoryItem, Started, Did, replay, LegalFrom, starts_in}
use Rattle.never_heap.specs.Licensed.{IsLicensedItem, LicensedFrom, StartsSmall, NoFulls}
use Rattle.never_heap.specs.LiveBlocks.{live_blocks}
use Rattle.never_heap.specs.Readback.{commands_in}
use Rattle.never_heap.specs.RightWork.{RightWork}
use Rattle.never_heap.specs.Runs.{IsRun}
use Rattle.never_heap.specs.Coming.{MayCome, IsNoFull}
use Rattle.never_heap.proofs.HistoryGrowth.{replay_more, starts_append}
use Rattle.never_heap.proofs.CycleGrowth.{graph_at_more, graph_at_next}
use Rattle.never_heap.proofs.ItemsOfRuns.{next_is, no_end}
use Rattle.never_heap.proofs.NoFullRuns.{not_full, none_full}

module _ (c : Config) (rate : ℕ) (traces : List (List Command)) where
  no_full : (past : List HistoryItem) (i : HistoryItem) → 1 ≤ starts_in past → StartsSmall c past
      → IsLicensedItem c past i → IsNoFull i
  no_full past Started some small l = tt
  no_full past (Did e) some small l =
      not_full c past [] e.reply some (subst (StartsSmall c) (sym (append-nil past)) small) l

  small_more : (past : List HistoryItem) (i : HistoryItem)
      → live_blocks c.width (replay c past) ≤ c.live
      → StartsSmall c past → StartsSmall c (past ++ i ∷ [])
  small_more past Started now small z some low = elim (cases_eq z (starts_in past + 1)) [
    | inl e ↦ subst (λ (g : Graph). live_blocks c.width g ≤ c.live)
        (sym (ap (graph_at c (past ++ Started ∷ [])) e ∙ graph_at_next c past [])) now
    | inr ne ↦ (let few : z ≤ starts_in past = omega (arith, starts_append past (Started ∷ [])) in
        subst (λ (g : Graph). live_blocks c.width g ≤ c.live)
        (sym (graph_at_more c past (Started ∷ []) z some few)) (small z some few))
  ]
  small_more past (Did e) now small z some low =
      let few : z ≤ starts_in past = omega (arith, starts_append past (Did e ∷ [])) in
      subst (λ (g : Graph). live_blocks c.width g ≤ c.live)
      (sym (graph_at_more c past (Did e ∷ []) z some few)) (small z some few)

  module _ (Inv : List HistoryItem → Type 0)
      (within : (past : List HistoryItem) → Inv past → live_blocks c.width (replay c past) ≤ c.live)
      (step : (past : List HistoryItem) (i : HistoryItem)
      → MayCome c rate traces past i → IsNoFull i → Inv past → Inv (past ++ i ∷ [])) where
    go : (past h : List HistoryItem) → past ≢ [] → 1 ≤ starts_in past → StartsSmall c past
        → Inv past
        → LegalFrom (replay c past) h → LicensedFrom c past h → RightWork c.width rate h
        → ((t : ℕ) → commands_in t (past ++ h) ≡ slice_index_or traces t []) → Inv (past ++ h)
    go past [] begun some small inv legal licensed work whole =
        subst Inv (sym (append-nil past)) inv
    go past (i ∷ h) begun some small inv legal licensed work whole =
        let may : MayCome c rate traces past i = record {
          first = λ e. absurd (begun e);
          next = next_is traces past i h whole;
          answered = legal.0;
          licensed = licensed.0;
          right_work = work.0;
        } in
        subst Inv (append_assoc past (i ∷ []) h)
        (go (past ++ i ∷ []) h (no_end past i) (omega (arith, starts_append past (i ∷ [])))
        (small_more past i (within past inv) small)
        (step past i may (no_full past i some small licensed.0) inv)
        (subst (λ (g : Graph). LegalFrom g h) (sym (replay_more (start_graph c) past i)) legal.1)
        licensed.1 work.1 (λ t. ap (commands_in t) (append_assoc past (i ∷ []) h) ∙ whole t))

    -- what holds of no item, and goes on by each item that may come and is no full, holds of a run
    pub walk : (h : List HistoryItem) → Inv [] → IsRun c rate traces h → Inv h
    walk [] inv run = absurd run.legal
    walk (Did e ∷ h) inv run = absurd run.legal
    walk (Started ∷ h) inv run =
        let first : MayCome c rate traces [] Started =
        record { first = λ _. refl; next = tt; answered = tt; licensed = tt; right_work = tt } in
        go (Started ∷ []) h (λ e. cc) (omega arith)
        (small_more [] Started (within [] inv) (λ z some low. absurd (omega arith)))
        (step [] Started first tt inv)
        run.legal run.licensed.1 run.right_work.1 run.traces_whole

  -- and no such run has a full
  no_starts : StartsSmall c []
  no_starts z some low = absurd (omega arith)

  pub walk_all : (Inv : List HistoryItem → Type 0)
      → ((past : List HistoryItem) → Inv past → live_blocks c.width (replay c past) ≤ c.live)
      → ((past : List HistoryItem) (i : HistoryItem)
      → MayCome c rate traces past i → IsNoFull i → Inv past → Inv (past ++ i ∷ []))
      → (h : List HistoryItem) → Inv [] → IsRun c rate traces h → Inv h × NoFulls h
  walk_all Inv within step h inv run =
      let Both : List HistoryItem → Type 0 = λ past. Inv past × StartsSmall c past in
      let both = walk Both (λ past b. within past b.0)
      (λ past i may no b. (step past i may no b.0, small_more past i (within past b.0) b.1))
      h (inv, no_starts) run in
      (both.0, none_full c h run.legal run.licensed both.1)
