-- A run by events with one event more, or one command more.
use Rattle.std.proofs.Common.{◌≡◌, ℕ, ◌<◌, ◌+◌, length, length-append, true, false, cond, lt-ltb, eq-eqb, [], ◌∷◌, ◌++◌, get_or, refl, sym, ap, ◌∙◌, subst, arith}
use Rattle.std.proofs.lemmas.List.{get_or_default}
use Rattle.block_store.specs.declared.Config.{Config}
use Rattle.never_heap.specs.declared.Command.{Command}
use Rattle.never_heap.specs.declared.Command.TheVariants as commands
use Rattle.never_heap.specs.Bounds.{IsCommandInBounds}
use Rattle.heap_system.specs.Locals.{LocalState, is_done}
use Rattle.heap_system.specs.Machines.{Run, IsAfterTurns, has_event, local_in, next, no_local, opened}
use Rattle.heap_system.proofs.Lemmas.{after_last, kept_of, opening_kept}
use Rattle.control_heap.specs.Controls.{IsByEvents}
use Rattle.control_heap.specs.Growth.{given, grown, run_grown}
use Rattle.control_heap.proofs.GrownRuns.{go_more, go_grown, local_grown}
use Rattle.control_heap.proofs.GrownJobs.{HasRoomFor, job_grown, run_extended}

module _ (c : Config) (t : ℕ) (tl : t < c.threads) (r : Run) where
  -- one turn more that is an event
  pub events_more : IsByEvents c r → has_event c t r.state ≡ true → IsByEvents c (next c t r)
  events_more is e = record {
    after = record {
      traces = is.after.traces;
      job = is.after.job;
      turns = is.after.turns ++ t ∷ [];
      by_turns = record {
        first = is.after.by_turns.first;
        opening = is.after.by_turns.opening;
        turns = ap (next c t) is.after.by_turns.turns ∙ sym (after_last c (opened c is.after.by_turns.first) is.after.turns t);
      };
    };
    events = go_more t (commands.Nil 0) c tl is.after.turns (opened c is.after.by_turns.first) t is.events (subst (λ (x : Run). has_event c t x.state ≡ true) is.after.by_turns.turns e);
  }

  pub events_more_long : (is : IsByEvents c r) (e : has_event c t r.state ≡ true) → length (events_more is e).after.turns ≡ length is.after.turns + 1
  unfolding events_more
  events_more_long is e = length-append is.after.turns (t ∷ [])

  pub events_more_traces : (is : IsByEvents c r) (e : has_event c t r.state ≡ true) → (events_more is e).after.traces ≡ is.after.traces
  unfolding events_more
  events_more_traces is e = refl

  -- and one command more
  pub events_grown : (is : IsByEvents c r) (k : Command) → IsCommandInBounds c k → HasRoomFor c t k (get_or is.after.traces t []) → IsByEvents c (run_grown t k r)
  events_grown is k fits room =
      let a = is.after in
      record {
        after = record {
          traces = _;
          job = job_grown c t k a.traces a.job fits room;
          turns = a.turns;
          by_turns = run_extended c t k a.traces a.turns r a.job tl a.by_turns is.events;
        };
        events = go_grown t k c tl a.traces a.job a.turns (opened c a.by_turns.first) (opening_kept c a.traces a.job a.by_turns.first a.by_turns.opening) is.events;
      }

  pub events_grown_long : (is : IsByEvents c r) (k : Command) (fits : IsCommandInBounds c k) (room : HasRoomFor c t k (get_or is.after.traces t [])) → length (events_grown is k fits room).after.turns ≡ length is.after.turns
  unfolding events_grown
  events_grown_long is k fits room = refl

  -- a thread of the run, with any default
  pub here : (is : IsAfterTurns c r) (l : LocalState) → l ≡ get_or r.state.locals t l → l ≡ local_in c r t
  here is l e = e ∙ get_or_default r.state.locals t l (no_local c) (omega (arith, tl, (kept_of c r is).threads))

  pub goes : (l : LocalState) → l ≡ local_in c r t → is_done l ≡ false → has_event c t r.state ≡ true
  goes l e going = let undone : is_done (local_in c r t) ≡ false = ap is_done (sym e) ∙ going in rw (lt-ltb t c.threads tl, undone) refl

  -- thread t with the command appended to its trace
  pub given_here : (k : Command) (l : LocalState) → l ≡ local_in c r t → l.thread ≡ t → given k l ≡ local_in c (run_grown t k r) t
  given_here k l e named =
      sym (ap (λ b. cond b (given k l) l) (eq-eqb l.thread t named)) ∙ ap (grown t k) e ∙ sym (local_grown t k c tl r.state t)
