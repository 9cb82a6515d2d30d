-- What is complete at a stamp comes before what begins after a stamp that is no less.
use Rattle.std.proofs.Common.{◌≡◌, ℕ, ◌+◌, ◌≤◌, ◌^◌, ◌⊎◌, inl, inr, arith, subst, sym, ap, ◌∙◌, refl, List, [], ◌∷◌, ◌++◌, length, map, take, slice_index_or, append_assoc}
use Rattle.std.proofs.lemmas.List.{append-nil}
use Rattle.never_heap.specs.declared.Command.{Command}
use Rattle.never_heap.specs.declared.Entry.{Entry}
use Rattle.never_heap.specs.Histories.{HistoryItem, part}
use Rattle.shared_heap.specs.declared.rules.Moment.{Moment}
use Rattle.shared_heap.specs.declared.rules.Moment.TheVariants as moments
use Rattle.shared_heap.specs.Shared.{IsStartOf, history_of, invoked_in, stamps_in}
use Rattle.shared_heap.proofs.Lemmas.{before_or_after, history_append, invoked_append, part_start, stamps_append, stamps_start, starts_itself, starts_on}
use Rattle.live_tables.specs.rows.Rows.{Rows, commands_of}
use Rattle.live_tables.specs.rows.Stamped.{IsStampAfter, StampsKeepOrder}
use Rattle.live_tables.specs.rows.Workers.{HasDrawn, HasSeenAll, RowWorkerState, thread_of}
use Rattle.std.proofs.lemmas.List.{length-map}

abbrev stamp : List Moment
stamp = moments.Stamped ∷ []

-- a stamp is no entry, and no invocation
same_history : (past : List Moment) → history_of (past ++ stamp) ≡ history_of past
same_history past = history_append past stamp ∙ append-nil (history_of past)

same_invoked : (t : ℕ) (past : List Moment) → invoked_in t (past ++ stamp) ≡ invoked_in t past
same_invoked t past = invoked_append t past stamp ∙ append-nil (invoked_in t past)

module _ {Op Row Answer S : Type 0} (a : Rows Op Row Answer S) where
  -- what a worker knows of the stamp that it has just drawn
  pub stamp_after : (old new : RowWorkerState Op Answer) (n : ℕ) → HasDrawn old n new
      → HasSeenAll a new → IsStampAfter a new.worker.timeline (thread_of new) new.done n
  stamp_after old new n is all =
      let d = is.drawn in
      let t : ℕ = thread_of new in
      let line : new.worker.timeline ≡ d.past ++ stamp = d.timeline in
      let entries : part t (history_of d.past) ≡ new.worker.thread.log =
      ap (part t) (sym (same_history d.past) ∙ ap history_of (sym line) ∙ sym d.sound.ordered)
      ∙ d.sound.its in
      let commands : length new.worker.thread.log ≡ length (commands_of a new.done) =
      sym (length-map new.worker.thread.log (λ (e : Entry). e.command)) ∙ ap length all.rows in
      let asked : invoked_in t d.past ≡ new.worker.thread.trace =
      sym (same_invoked t d.past) ∙ ap (invoked_in t) (sym line) ∙ d.sound.invoked in
      record {
        past = d.past;
        drawn = subst (IsStartOf (d.past ++ stamp)) (sym line) (starts_itself (d.past ++ stamp));
        counts = d.counts;
        complete = ap length entries ∙ commands;
        begun = ap length (asked ∙ sym d.sound.asked ∙ all.rows);
      }

  -- it stays so while the timeline grows
  pub stamp_later : (timeline more : List Moment) (t : ℕ) (ops : List Op) (n : ℕ)
      → IsStampAfter a timeline t ops n → IsStartOf timeline more → IsStampAfter a more t ops n
  stamp_later timeline more t ops n is on =
      record {
        past = is.past;
        drawn = starts_on (is.past ++ stamp) timeline more is.drawn on;
        counts = is.counts;
        complete = is.complete;
        begun = is.begun;
      }

  pub stamps_keep_order : StampsKeepOrder a
  stamps_keep_order c ws cycles is t n u m i j first second low =
      let p : List Moment = first.past in
      let q : List Moment = second.past in
      let q_on : IsStartOf q is.timeline =
      (stamp ++ second.drawn.0, second.drawn.1 ∙ append_assoc q stamp second.drawn.0) in
      let whole : p ++ moments.Stamped ∷ first.drawn.0 ≡ (q ++ stamp) ++ second.drawn.0 =
      sym (append_assoc p stamp first.drawn.0) ∙ sym first.drawn.1 ∙ second.drawn.1 in
      let many : stamps_in p + 1 ≤ stamps_in is.timeline =
      omega (arith, stamps_append p stamp, stamps_start (p ++ stamp) is.timeline first.drawn) in
      let more : stamps_in q + 1 ≤ stamps_in is.timeline =
      omega (arith, stamps_append q stamp, stamps_start (q ++ stamp) is.timeline second.drawn) in
      elim (before_or_after (q ++ stamp) second.drawn.0 p moments.Stamped first.drawn.0 whole) [
        | inl after ↦ elim first.counts [
          | inr big ↦ inr (omega (arith, big, many))
          | inl one ↦ elim second.counts [
            | inr big ↦ inr (omega (arith, big, more))
            | inl two ↦ absurd (omega (
              arith,
              one,
              two,
              low,
              stamps_append q stamp,
              stamps_start (q ++ stamp) p after,
            ))
          ]
        ]
        | inr before ↦
            let grown = part_start t (p ++ stamp) (q ++ stamp) before in
            let here : length (part t (history_of (p ++ stamp))) ≡ length (part t (history_of p)) =
            ap (λ h. length (part t h)) (same_history p) in
            let there : length (part t (history_of (q ++ stamp))) ≡ length (part t (history_of q)) =
            ap (λ h. length (part t h)) (same_history q) in
            inl (is.real_time q q_on t n u m
            (omega (arith, first.complete, grown, here, there)) (omega (arith, second.begun)))
      ]
