-- When an allocation may be refused.
use Rattle.std.specs.Prelude.{ℕ, ◌-◌, ◌<◌, ◌≤◌, ◌≡◌, max, false, List, [], ◌∷◌, ◌++◌}
use Rattle.block_store.specs.declared.Config.{Config}
use Rattle.never_heap.specs.declared.Reply.{Reply}
use Rattle.never_heap.specs.declared.Reply.TheVariants.{Full}
use Rattle.never_heap.specs.Cycles.{graph_at}
use Rattle.never_heap.specs.Histories.{HistoryItem, Started, Did, is_full, starts_in}
use Rattle.never_heap.specs.LiveBlocks.{live_blocks}

-- After these items a full of cycle c names the cycle before the present one, or the first, and
-- more than L blocks were live at its start.
abbrev pub IsLicensedReply : Config → List HistoryItem → Reply → Type 0
IsLicensedReply config past (Full c) =
    (c ≡ max 1 (starts_in past - 1))
    × (config.live < live_blocks config.width (graph_at config past c))
IsLicensedReply config past _ = Unit {0}

abbrev pub IsLicensedItem : Config → List HistoryItem → HistoryItem → Type 0
IsLicensedItem config past Started = Unit {0}
IsLicensedItem config past (Did e) = IsLicensedReply config past e.reply

abbrev pub LicensedFrom : Config → List HistoryItem → List HistoryItem → Type 0
LicensedFrom config past [] = Unit {0}
LicensedFrom config past (i ∷ is) =
    IsLicensedItem config past i × LicensedFrom config (past ++ i ∷ []) is

-- each full of the history is licensed by the items before it
abbrev pub Licensed : Config → List HistoryItem → Type 0
Licensed config h = LicensedFrom config [] h

-- each cycle of the history began with no more than L live blocks
abbrev pub StartsSmall : Config → List HistoryItem → Type 0
StartsSmall config h =
    (z : ℕ) → 1 ≤ z → z ≤ starts_in h → live_blocks config.width (graph_at config h z) ≤ config.live

-- no entry is answered full
abbrev pub NoFulls : List HistoryItem → Type 0
NoFulls [] = Unit {0}
NoFulls (Started ∷ h) = NoFulls h
NoFulls (Did e ∷ h) = (is_full e.reply ≡ false) × NoFulls h
