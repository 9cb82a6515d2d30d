-- A run whose cycles all begin with few live blocks has no full.
use Rattle.std.proofs.Common.{◌+◌, ◌≡◌, ◌≤◌, false, List, [], ◌∷◌, ◌++◌, sym, refl, subst, arith, append_assoc, ◌-◌}
use Rattle.block_store.specs.declared.Config.{Config}
use Rattle.never_heap.specs.declared.Reply.{Reply}
use Rattle.never_heap.specs.declared.Reply.TheVariants.{New, Full, Stored, Val, Len, Yes, No, Null, Kind, Range, Idle}
use Rattle.never_heap.specs.Histories.{HistoryItem, Started, Did, is_full, starts_in, Legal}
use Rattle.never_heap.specs.Cycles.{graph_at}
use Rattle.never_heap.specs.LiveBlocks.{live_blocks}
use Rattle.never_heap.specs.Licensed.{IsLicensedReply, LicensedFrom, Licensed, StartsSmall, NoFulls}
use Rattle.never_heap.proofs.HistoryGrowth.{starts_append}
use Rattle.never_heap.proofs.CycleGrowth.{graph_at_more}

pub not_full : (c : Config) (past k : List HistoryItem) (r : Reply) → 1 ≤ starts_in past
    → StartsSmall c (past ++ k) → IsLicensedReply c past r → is_full r ≡ false
not_full c past k (Full z) s few l =
    let low : 1 ≤ z = rw l.0 (omega arith) in
    let high : z ≤ starts_in past = rw l.0 (omega (arith, s)) in
    let all : starts_in (past ++ k) ≡ starts_in past + starts_in k = starts_append past k in
    let small : live_blocks c.width (graph_at c (past ++ k) z) ≤ c.live =
    few z low (omega (arith, high, all)) in
    let same : graph_at c (past ++ k) z ≡ graph_at c past z = graph_at_more c past k z low high in
    let small_past : live_blocks c.width (graph_at c past z) ≤ c.live =
    subst (λ g. live_blocks c.width g ≤ c.live) same small in
    absurd (omega (arith, l.1, small_past))
not_full c past k (New n) s few l = refl
not_full c past k Stored s few l = refl
not_full c past k (Val v) s few l = refl
not_full c past k (Len n) s few l = refl
not_full c past k Yes s few l = refl
not_full c past k No s few l = refl
not_full c past k Null s few l = refl
not_full c past k Kind s few l = refl
not_full c past k Range s few l = refl
not_full c past k Idle s few l = refl

none_from : (c : Config) (past h : List HistoryItem) → 1 ≤ starts_in past
    → StartsSmall c (past ++ h) → LicensedFrom c past h → NoFulls h
none_from c past [] s few l = tt
none_from c past (Started ∷ h) s few l =
    let all : starts_in (past ++ Started ∷ []) ≡ starts_in past + starts_in (Started ∷ []) =
    starts_append past (Started ∷ []) in
    none_from c (past ++ Started ∷ []) h (omega (arith, s, all))
    (subst (λ k. StartsSmall c k) (sym (append_assoc past (Started ∷ []) h)) few) l.1
none_from c past (Did e ∷ h) s few l =
    let all : starts_in (past ++ Did e ∷ []) ≡ starts_in past + starts_in (Did e ∷ []) =
    starts_append past (Did e ∷ []) in (
      not_full c past (Did e ∷ h) e.reply s few l.0,
      none_from c (past ++ Did e ∷ []) h (omega (arith, s, all))
          (subst (λ k. StartsSmall c k) (sym (append_assoc past (Did e ∷ []) h)) few) l.1,
    )

pub none_full : (c : Config) (h : List HistoryItem) → Legal c h → Licensed c h → StartsSmall c h
    → NoFulls h
none_full c [] legal l few = tt
none_full c (Started ∷ h) legal l few = none_from c (Started ∷ []) h (omega arith) few l.1
none_full c (Did e ∷ h) legal l few = absurd legal

-- a reply that is no full needs no licence
pub needs_no_licence : (c : Config) (past : List HistoryItem) (r : Reply) → is_full r ≡ false
    → IsLicensedReply c past r
needs_no_licence c past (Full z) e = absurd cc
needs_no_licence c past _ e = tt
