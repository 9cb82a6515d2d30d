-- A history without fulls has logs without fulls.
use Rattle.std.proofs.Common.{ℕ, zero, suc, ◌+◌, ◌≡◌, ◌==◌, Bool, true, false, cond, List, [], ◌∷◌, All, Option, Some, None, IfSome, subst}
use Rattle.std.proofs.lemmas.List.Elements.{All-nil, All-cons}
use Rattle.never_heap.specs.declared.Entry.{Entry}
use Rattle.never_heap.specs.Histories.{HistoryItem, Started, Did, is_full, part, parts_from}
use Rattle.never_heap.specs.Licensed.{NoFulls}
use Rattle.rtheap_core.specs.declared.exit.RunEnd.{RunEnd}
use Rattle.rtheap_core.specs.EndedRuns.{job_of}
use Rattle.rtheap_core.specs.Exits.{Headline, NoneFull, NeverFull}
use Rattle.exit_statuses.specs.Sides.{Sides}

abbrev NotFull : Entry → Type 0
NotFull e = is_full e.reply ≡ false

with_entry : (e : Entry) (log : List Entry) → NotFull e → All NotFull log → (b : Bool)
    → All NotFull (cond b (e ∷ log) log)
with_entry e log first rest true = All-cons NotFull e log first rest
with_entry e log first rest false = rest

part_unfilled : (t : ℕ) (h : List HistoryItem) → NoFulls h → All NotFull (part t h)
part_unfilled t [] n = All-nil NotFull
part_unfilled t (Started ∷ h) n = part_unfilled t h n
part_unfilled t (Did e ∷ h) n =
    with_entry e (part t h) n.0 (part_unfilled t h n.1) (e.thread == t)

pub parts_unfilled : (t n : ℕ) (h : List HistoryItem) → NoFulls h → NoneFull (parts_from t n h)
parts_unfilled t zero h f = All-nil (All NotFull)
parts_unfilled t (suc n) h f =
    All-cons (All NotFull) (part t h) (parts_from (t + 1) n h) (part_unfilled t h f)
    (parts_unfilled (t + 1) n h f)

never_full : (source sink : Sides) (status : ℕ) (end : RunEnd)
    → Headline source sink status end → NeverFull source sink status end
never_full source sink status end h = (
  h,
  λ small. subst NoneFull h.ran.parts_logged
      (parts_unfilled 0 (job_of end).config.threads h.ran.history (h.ran.none_full small)),
)

-- of a call that may have run
pub unfilled : (source sink : Sides) (status : ℕ) (o : Option RunEnd)
    → IfSome o (Headline source sink status) → IfSome o (NeverFull source sink status)
unfilled source sink status None h = tt
unfilled source sink status (Some end) h = never_full source sink status end h
