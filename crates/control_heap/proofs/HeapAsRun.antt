-- The words and the thread of a heap move on as a run does that has all commands and entries.
use Rattle.std.proofs.Common.{◌≡◌, ℕ, zero, suc, ◌<◌, true, false, cond, lt-ltb, subst, List, [], ◌∷◌, ◌++◌, length, get_or, refl, sym, ap, ◌∙◌, arith}
use Rattle.std.proofs.lemmas.List.{get_or-set_same}
use Rattle.block_store.specs.declared.Config.{Config}
use Rattle.block_store.specs.Places.{extent}
use Rattle.never_heap.specs.declared.Command.{Command}
use Rattle.never_heap.specs.declared.Command.TheVariants as commands
use Rattle.never_heap.specs.declared.Entry.{Entry}
use Rattle.never_heap.specs.Bounds.{IsCommandInBounds}
use Rattle.heap_machine.specs.Operations.{op_at, op_place, words_after, SumFits}
use Rattle.heap_system.specs.Alone.{after_alone}
use Rattle.heap_system.specs.Locals.{LocalState, LocalReads, is_done, local_got, op_wanted, part_want}
use Rattle.heap_system.specs.Machines.{State, Run, IsAfterTurns, event_done, has_event, local_at, local_in, next, no_local, opened, turned, word_read}
use Rattle.heap_system.proofs.Lemmas.{Kept, after_last, cell, laws_of, local_reads, opening_kept, run_kept, sums}
use Rattle.control_heap.specs.Controls.{IsByEvents, Machine, moved, moved_times, GoesOn}
use Rattle.control_heap.specs.Growth.{run_grown}
use Rattle.control_heap.proofs.DroppedHistory.{behind, behind_got, behind_done}
use Rattle.control_heap.proofs.GrownRuns.{go_more, go_grown}
use Rattle.control_heap.proofs.GrownJobs.{HasRoomFor, job_grown, run_extended}

-- the words and the thread are those of a run, but for what is in front of its trace and log
pub record Carries (c : Config) (ks : List Command) (es : List Entry) (m : Machine) (r : Run) : Type 0 where
  pub run : IsByEvents c r
  pub words : r.state.words ≡ m.words
  pub thread : local_in c r 0 ≡ behind ks es m.thread

-- the next event is on one of the words, and reads one that it may
abbrev pub IsSafe : Config → List ℕ → LocalState → Type 0
IsSafe c ws l = (op_place (op_at (extent c) (part_want c l.part)) < length ws)
    × SumFits (op_at (extent c) (part_want c l.part)) (get_or ws (op_place (op_at (extent c) (part_want c l.part))) 0)
    × LocalReads c l (get_or ws (op_place (op_at (extent c) (part_want c l.part))) 0)

pub alone_more : (c : Config) (t n : ℕ) (r : Run) → next c t (after_alone c t r n) ≡ after_alone c t r (suc n)
alone_more c t zero r = refl
alone_more c t (suc n) r = alone_more c t n (next c t r)

module _ (c : Config) (single : c.threads ≡ 1) where
  pub low : 0 < c.threads
  low = omega (arith, single)

  pub kept_of : (r : Run) (is : IsAfterTurns c r) → Kept c is.traces r
  kept_of r is = run_kept c is.traces (laws_of c) is.job is.turns r is.by_turns

  -- one turn more that is an event
  events_more : (r : Run) → IsByEvents c r → has_event c 0 r.state ≡ true → IsByEvents c (next c 0 r)
  events_more r is e = record {
    after = record {
      traces = is.after.traces;
      job = is.after.job;
      turns = is.after.turns ++ 0 ∷ [];
      by_turns = record {
        first = is.after.by_turns.first;
        opening = is.after.by_turns.opening;
        turns = ap (next c 0) is.after.by_turns.turns ∙ sym (after_last c (opened c is.after.by_turns.first) is.after.turns 0);
      };
    };
    events = go_more 0 (commands.Nil 0) c low is.after.turns (opened c is.after.by_turns.first) 0 is.events (subst (λ (x : Run). has_event c 0 x.state ≡ true) is.after.by_turns.turns e);
  }

  -- and one command more
  pub events_grown : (r : Run) (is : IsByEvents c r) (k : Command) → IsCommandInBounds c k → HasRoomFor c 0 k (get_or is.after.traces 0 []) → IsByEvents c (run_grown 0 k r)
  events_grown r is k fits room =
      let a = is.after in
      record {
        after = record {
          traces = _;
          job = job_grown c 0 k a.traces a.job fits room;
          turns = a.turns;
          by_turns = run_extended c 0 k a.traces a.turns r a.job low a.by_turns is.events;
        };
        events = go_grown 0 k c low a.traces a.job a.turns (opened c a.by_turns.first) (opening_kept c a.traces a.job a.by_turns.first a.by_turns.opening) is.events;
      }

  module _ (ks : List Command) (es : List Entry) (long : length ks ≡ length es) where
    module _ (m : Machine) (r : Run) (is : Carries c ks es m r) where
      kept : Kept c is.run.after.traces r
      kept = kept_of r is.run.after

      pub config : m.thread.config ≡ c
      config = ap (λ (l : LocalState). l.config) (sym is.thread) ∙ (kept.locals 0 low).config

      pub safe : IsSafe m.thread.config m.words m.thread
      safe =
          let a = is.run.after in
          let run : IsSafe c r.state.words (local_in c r 0) = (
            cell c a.traces (laws_of c) a.job.bounds.config a.job.plan r kept 0 low,
            sums c a.traces (laws_of c) a.job.bounds.config a.job.plan r kept 0 low,
            local_reads c a.traces a.job a.turns r a.by_turns 0 low,
          ) in
          let words : IsSafe c m.words (local_in c r 0) = subst (λ ws. IsSafe c ws (local_in c r 0)) is.words run in
          let thread : IsSafe c m.words (behind ks es m.thread) = subst (λ l. IsSafe c m.words l) is.thread words in
          subst (λ x. IsSafe x m.words m.thread) (sym config) thread

      module _ (goes : is_done m.thread ≡ false) where
        going : is_done (local_in c r 0) ≡ false
        going = ap is_done is.thread ∙ behind_done ks es long m.thread ∙ goes

        event : has_event c 0 r.state ≡ true
        event = rw (lt-ltb 0 c.threads low, going) refl

        state_is : turned c 0 r.state ≡ event_done c 0 r.state
        state_is = ap (λ b. cond b (event_done c 0 r.state) r.state) event

        op_is : op_at (extent c) (part_want c (local_in c r 0).part) ≡ op_wanted m.thread
        op_is = ap (λ (l : LocalState). op_at (extent c) (part_want c l.part)) is.thread ∙ ap (λ (x : Config). op_at (extent x) (part_want x m.thread.part)) (sym config)

        word_is : word_read c r.state (local_in c r 0) ≡ get_or m.words (op_place (op_wanted m.thread)) 0
        word_is = λ i. get_or (is.words i) (op_place (op_is i)) 0

        thread_is : local_in c (next c 0 r) 0 ≡ behind ks es (moved m).thread
        thread_is =
            ap (λ s. local_at c s 0) state_is
            ∙ get_or-set_same r.state.locals 0 (local_got (local_in c r 0) (word_read c r.state (local_in c r 0))) (no_local c) (omega (arith, kept.threads, low))
            ∙ (λ i. local_got (is.thread i) (word_is i))
            ∙ behind_got ks es long m.thread (get_or m.words (op_place (op_wanted m.thread)) 0)

        pub carries_on : Carries c ks es (moved m) (next c 0 r)
        carries_on = record {
          run = events_more r is.run event;
          words = ap (λ (s : State). s.words) state_is ∙ (λ i. words_after (op_is i) (is.words i));
          thread = thread_is;
        }

    pub carried : (m : Machine) (r : Run) → Carries c ks es m r → (n : ℕ) → GoesOn n m → Carries c ks es (moved_times n m) (after_alone c 0 r n)
    carried m r is zero goes = is
    carried m r is (suc n) goes =
        subst (λ x. Carries c ks es (moved (moved_times n m)) x) (alone_more c 0 n r)
        (carries_on (moved_times n m) (after_alone c 0 r n) (carried m r is n (λ i il. goes i (omega (arith, il)))) (goes n (omega arith)))
