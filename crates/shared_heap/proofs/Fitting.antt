-- A reply of a worker is one that its command can have, and what a call tells of it.
use Rattle.std.proofs.Common.{◌≡◌, ℕ, Bool, true, false, cond, eqb, Result, Ok, Err, IfOk, IfErr, OnOk, OnErr, List, [], ◌∷◌, ◌++◌, sym, ap, ◌∙◌, subst}
use Rattle.block_store.specs.declared.Config.{Config}
use Rattle.never_heap.specs.declared.Command.{Command}
use Rattle.never_heap.specs.declared.Entry.{Entry}
use Rattle.never_heap.specs.declared.Reply.{Reply}
use Rattle.never_heap.specs.Bounds.{IsCommandInBounds}
use Rattle.never_heap.specs.Graphs.{Graph, start_graph}
use Rattle.never_heap.specs.Histories.{HistoryItem, Started, Did, Legal, LegalFrom, after, part}
use Rattle.control_heap.specs.declared.control.Refused.{Refused}
use Rattle.control_heap.specs.Calls.{MayAnswer}
use Rattle.control_heap.proofs.Fitting.{may_answered}
use Rattle.shared_heap.specs.Calls.{HasAsked, WasRefused}
use Rattle.shared_heap.specs.Refusals.{IsRefused}
use Rattle.shared_heap.specs.Spans.{IsInTime}
use Rattle.shared_heap.specs.Workers.{HasAnswered, HasLeft, HasMade, WorkerState}

-- each of these entries has a reply that its command can have
abbrev AllFit : List Entry → Type 0
AllFit [] = Unit {0}
AllFit (e ∷ es) = MayAnswer e.command e.reply × AllFit es

kept_if : (b : Bool) (e : Entry) (es : List Entry) → MayAnswer e.command e.reply → AllFit es → AllFit (cond b (e ∷ es) es)
kept_if true e es one rest = (one, rest)
kept_if false e es one rest = rest

part_fits : (t : ℕ) (g : Graph) (h : List HistoryItem) → LegalFrom g h → AllFit (part t h)
part_fits t g [] l = tt
part_fits t g (Started ∷ h) l = part_fits t g h l.1
part_fits t g (Did e ∷ h) l =
    kept_if (eqb e.thread t) e (part t h) (may_answered g e l.0) (part_fits t (after g (Did e)) h l.1)

its_part_fits : (c : Config) (t : ℕ) (h : List HistoryItem) → Legal c h → AllFit (part t h)
its_part_fits c t [] l = absurd l
its_part_fits c t (Started ∷ h) l = part_fits t (start_graph c) h l
its_part_fits c t (Did e ∷ h) l = absurd l

last_fits : (es : List Entry) (e : Entry) → AllFit (es ++ e ∷ []) → MayAnswer e.command e.reply
last_fits [] e all = all.0
last_fits (x ∷ es) e all = last_fits es e all.1

may_of : (old : WorkerState) (k : Command) (a : Reply) (new : WorkerState) → HasAnswered old k a new → MayAnswer k a
may_of old k a new is =
    let all : AllFit (part new.thread.thread new.seen) = its_part_fits new.thread.config new.thread.thread new.seen is.sound.legal in
    let own : AllFit (old.thread.log ++ is.entry ∷ []) = subst AllFit (is.sound.its ∙ is.told) all in
    subst (λ x. MayAnswer k x) is.reply (subst (λ x. MayAnswer x is.entry.reply) is.command (last_fits old.thread.log is.entry own))

module _ (old : WorkerState) (k : Command) (new : WorkerState) where
  pub all_fit : (x : Result Reply Refused) → IfOk x (λ a. HasAnswered old k a new) → IfOk x (MayAnswer k)
  all_fit (Ok a) is = may_of old k a new is
  all_fit (Err r) is = tt

  pub all_asked : (x : Result Reply Refused) → OnOk x (IsCommandInBounds old.thread.config k × HasLeft old k)
      → IfOk x (λ a. HasAnswered old k a new) → OnOk x (HasMade old k new)
      → OnOk x (IsInTime old.thread.config k new.span) → IfOk x (λ a. HasAsked old k a new)
  all_asked (Ok a) can answered made in_time = record {
    bounds = can.0;
    left = can.1;
    answered = answered;
    made = made;
    in_time = in_time;
  }
  all_asked (Err r) can answered made in_time = tt

  pub all_refused : (x : Result Reply Refused) → IfErr x (IsRefused old k) → OnErr x (new ≡ old) → IfErr x (WasRefused old k new)
  all_refused (Ok a) is same = tt
  all_refused (Err r) is same = (is, same)
