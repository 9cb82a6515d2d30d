-- A job of one thread has one order of commands, and where no more is live at any moment of it than
-- may be, no run of the job has a full.
use Rattle.std.proofs.Common.{ℕ, ◌+◌, ◌≡◌, ◌<◌, ◌≤◌, Bool, false, cond, List, [], ◌∷◌, ◌++◌, length, drop, get_or, ap, sym, ◌∙◌, refl, subst, arith, append_assoc, append-nil, length-append, eq-eqb}
use Rattle.std.proofs.lemmas.List.{map-append}
use Rattle.std.proofs.Math.Seq.{drop-append_seam}
use Rattle.block_store.specs.declared.Config.{Config}
use Rattle.never_heap.specs.declared.Command.{Command}
use Rattle.never_heap.specs.declared.Entry.{Entry}
use Rattle.never_heap.specs.Coming.{MayCome, IsNoFull}
use Rattle.never_heap.specs.Graphs.{start_graph}
use Rattle.never_heap.specs.Histories.{HistoryItem, Started, Did, is_full, replay, part}
use Rattle.never_heap.specs.Licensed.{NoFulls}
use Rattle.never_heap.specs.LiveBlocks.{live_blocks}
use Rattle.never_heap.specs.Runs.{IsRun}
use Rattle.never_heap.specs.Steps.{step}
use Rattle.never_heap.proofs.Lemmas.{part_append, replay_more, thread_low, walk_all}
use Rattle.rt_check.specs.declared.moves.Move.{Move}
use Rattle.rt_check.specs.rt_limit.Moments.{graph_behind, most_live, moves_of}
use Rattle.rt_check.proofs.rt_limit.CountLaws.{behind_more, moment_most}

abbrev pub move_of : ℕ → Command → Move
move_of t c = record { thread = t; command = c }

moves_append : (t : ℕ) (xs ys : List Command) → moves_of t (xs ++ ys) ≡ moves_of t xs ++ moves_of t ys
moves_append t xs ys = map-append (move_of t) xs ys

low_is_zero : (n : ℕ) → n < 1 → n ≡ 0
low_is_zero n l = omega arith

module _ (c : Config) (rate : ℕ) (trace : List Command)
    (few : most_live c.width (start_graph c) (moves_of 0 trace) ≤ c.live) where
  -- the commands of the trace that were answered, none by a full, and those that are left
  record Stands (past : List HistoryItem) : Type 0 where
    done : List Command
    rest : List Command
    whole : trace ≡ done ++ rest
    long : length (part 0 past) ≡ length done
    graph : replay c past ≡ graph_behind (start_graph c) (moves_of 0 done)

  within : (past : List HistoryItem) → Stands past → live_blocks c.width (replay c past) ≤ c.live
  within past s =
      let most = moment_most c.width (start_graph c) (moves_of 0 s.done) (moves_of 0 s.rest) in
      let order : moves_of 0 trace ≡ moves_of 0 s.done ++ moves_of 0 s.rest =
      ap (moves_of 0) s.whole ∙ moves_append 0 s.done s.rest in
      let same = ap (live_blocks c.width) s.graph in
      let all = ap (most_live c.width (start_graph c)) order in
      omega arith

  started : (past : List HistoryItem) → Stands past → Stands (past ++ Started ∷ [])
  started past s = record {
    done = s.done;
    rest = s.rest;
    whole = s.whole;
    long = ap length (part_append 0 past (Started ∷ []) ∙ append-nil (part 0 past)) ∙ s.long;
    graph = replay_more (start_graph c) past Started ∙ s.graph;
  }

  answered : (past : List HistoryItem) (e : Entry) (rest : List Command) → Stands past
      → e.thread ≡ 0 → is_full e.reply ≡ false
      → drop (length (part 0 past)) trace ≡ e.command ∷ rest → Stands (past ++ Did e ∷ [])
  answered past e rest s thread no_full next =
      let left : s.rest ≡ e.command ∷ rest =
      sym (drop-append_seam s.done s.rest)
      ∙ ap (λ (n : ℕ). drop n (s.done ++ s.rest)) (sym s.long)
      ∙ ap (drop (length (part 0 past))) (sym s.whole) ∙ next in
      record {
        done = s.done ++ e.command ∷ [];
        rest = rest;
        whole = s.whole ∙ ap (λ (r : List Command). s.done ++ r) left
            ∙ sym (append_assoc s.done (e.command ∷ []) rest);
        long = ap length (part_append 0 past (Did e ∷ [])
            ∙ ap (λ (b : Bool). part 0 past ++ cond b (e ∷ []) []) (eq-eqb e.thread 0 thread))
            ∙ length-append (part 0 past) (e ∷ []) ∙ ap (λ (n : ℕ). n + 1) s.long
            ∙ sym (length-append s.done (e.command ∷ []));
        graph = replay_more (start_graph c) past (Did e)
            ∙ ap (λ (b : Bool). cond b (replay c past) (step (replay c past) e.thread e.command).0)
            no_full
            ∙ (λ i. (step (s.graph i) (thread i) e.command).0)
            ∙ sym (behind_more (start_graph c) (moves_of 0 s.done) (move_of 0 e.command))
            ∙ ap (graph_behind (start_graph c)) (sym (moves_append 0 s.done (e.command ∷ [])));
      }

  goes_on : (past : List HistoryItem) (i : HistoryItem) → MayCome c rate (trace ∷ []) past i
      → IsNoFull i → Stands past → Stands (past ++ i ∷ [])
  goes_on past Started may no_full s = started past s
  goes_on past (Did e) may no_full s =
      let next = may.next in
      let thread : e.thread ≡ 0 =
      low_is_zero e.thread (thread_low (trace ∷ []) past e.thread e.command next.0 next.1) in
      answered past e next.0 s thread no_full
      (subst (λ (t : ℕ). drop (length (part t past)) (get_or (trace ∷ []) t [])
      ≡ e.command ∷ next.0) thread next.1)

  pub never_full : (h : List HistoryItem) → IsRun c rate (trace ∷ []) h → NoFulls h
  never_full h run =
      (walk_all c rate (trace ∷ []) Stands within goes_on h (record {
        done = [];
        rest = trace;
        whole = refl;
        long = refl;
        graph = refl;
      }) run).1
