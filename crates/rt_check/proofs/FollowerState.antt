-- What comes after an item that was followed.
use Rattle.std.proofs.Common.{◌≡◌, ◌≢◌, ℕ, suc, ◌+◌, ◌^◌, ◌<◌, ◌≤◌, inl, inr, Bool, true, false, cond, List, [], ◌∷◌, ◌++◌, length, set, take, drop, drop-cons, get_or, sym, refl, ap, ◌∙◌, subst, append-nil, length-append, length-set, eq-eqb, ne_eqb, arith}
use Rattle.std.specs.Str.{bytes_eq}
use Rattle.std.proofs.Math.Seq.{take-append_seam}
use Rattle.std.proofs.lemmas.Slice.Eq.{bytes_eq-Decides}
use Rattle.std.proofs.lemmas.Bool.{cases_eq, cases_lt}
use Rattle.std.proofs.lemmas.List.{get_or_append_left, get_or_push, get_or-set_same, get_or-set_other, length_push}
use Rattle.block_store.specs.declared.Config.{Config}
use Rattle.never_heap.specs.declared.Command.{Command}
use Rattle.never_heap.specs.declared.Entry.{Entry}
use Rattle.never_heap.specs.Cycles.{graph_at}
use Rattle.never_heap.specs.Graphs.{Graph, start_graph, count_of}
use Rattle.never_heap.specs.Histories.{HistoryItem, Started, Did, is_full, after, part, starts_in}
use Rattle.never_heap.specs.LiveBlocks.{live_blocks}
use Rattle.never_heap.specs.Steps.{step}
use Rattle.never_heap.proofs.Lemmas.{change_of, count_of_other, count_of_start, graph_at_more, graph_at_next, part_append, replay_more, starts_append, step_count, step_threads, threads_of_start, work_append}
use Rattle.rt_check.specs.declared.follower.Follower.{Follower}
use Rattle.rt_check.specs.Standing.{Stands}

-- ---- at first

pub stands_first : (c : Config) (f : Follower) → f.graph.width ≡ c.width
    → f.graph.graph ≡ start_graph c → length f.done.items ≡ c.threads
    → ((t : ℕ) → get_or f.done.items t 0 ≡ 0) → f.live.items ≡ [] → f.work ≡ 0 → Stands c [] f
stands_first c f width graph rows done live work = record {
  width = width;
  graph = graph;
  threads = ap (λ (g : Graph). length g.mutators) graph ∙ threads_of_start c;
  rows = rows;
  done = done;
  made = λ t. (let none : count_of f.graph.graph t ≡ 0 = ap (λ (g : Graph). count_of g t) graph
      ∙ count_of_start c t in omega arith);
  starts = ap length live;
  begun = λ e. absurd (e refl);
  live = λ z l. absurd (omega arith);
  work = work;
  small = omega arith;
}

-- ---- a start

module _ (c : Config) (past : List HistoryItem) (f f' : Follower) (s : Stands c past f)
    (width : f'.graph.width ≡ f.graph.width) (graph : f'.graph.graph ≡ f.graph.graph)
    (done : f'.done.items ≡ f.done.items)
    (live : f'.live.items ≡ f.live.items ++ live_blocks c.width f.graph.graph ∷ [])
    (work : f'.work ≡ f.work) where
  start_part : (t : ℕ) → part t (past ++ Started ∷ []) ≡ part t past
  start_part t = part_append t past (Started ∷ []) ∙ append-nil (part t past)

  more_starts : starts_in (past ++ Started ∷ []) ≡ starts_in past + 1
  more_starts = starts_append past (Started ∷ [])

  live_more : (z : ℕ) → z < starts_in (past ++ Started ∷ [])
      → get_or f'.live.items z 0 ≡ live_blocks c.width (graph_at c (past ++ Started ∷ []) (z + 1))
  live_more z l = ap (λ (xs : List ℕ). get_or xs z 0) live ∙ elim (cases_lt z (starts_in past)) [
    | inl low ↦ get_or_append_left f.live.items (live_blocks c.width f.graph.graph ∷ []) 0 z
        (omega (arith, s.starts)) ∙ s.live z low
        ∙ ap (live_blocks c.width)
        (sym (graph_at_more c past (Started ∷ []) (z + 1) (omega arith) (omega arith)))
    | inr high ↦ (let last : z ≡ starts_in past = omega (arith, more_starts) in
        get_or_push f.live.items (live_blocks c.width f.graph.graph) 0 z (s.starts ∙ sym last)
        ∙ ap (live_blocks c.width) (s.graph ∙ sym (graph_at_next c past []))
        ∙ ap (λ (k : ℕ). live_blocks c.width (graph_at c (past ++ Started ∷ []) (k + 1)))
        (sym last))
  ]

  pub stands_start : Stands c (past ++ Started ∷ []) f'
  stands_start = record {
    width = width ∙ s.width;
    graph = graph ∙ s.graph ∙ sym (replay_more (start_graph c) past Started);
    threads = ap (λ (g : Graph). length g.mutators) graph ∙ s.threads;
    rows = ap length done ∙ s.rows;
    done = λ t. ap (λ (xs : List ℕ). get_or xs t 0) done ∙ s.done t
        ∙ ap length (sym (start_part t));
    made = λ t. (let same : count_of f'.graph.graph t
        ≡ count_of f.graph.graph t = ap (λ (g : Graph). count_of g t) graph in
        let long : length (part t (past ++ Started ∷ [])) ≡ length (part t past) =
        ap length (start_part t) in
        omega (arith, s.made t));
    starts = ap length live ∙ length_push f.live.items (live_blocks c.width f.graph.graph)
        ∙ ap (λ (n : ℕ). n + 1) s.starts ∙ sym more_starts;
    begun = λ e. omega (arith, more_starts);
    live = live_more;
    work = (let more = work_append past (Started ∷ []) in omega (arith, s.work));
    small = (let long = length-append past (Started ∷ []) in omega (arith, s.small));
  }

-- ---- an entry

module _ (c : Config) (past : List HistoryItem) (f f' : Follower) (s : Stands c past f) (e : Entry)
    (begun : 1 ≤ starts_in past) (low : e.thread < c.threads) (small : e.work ≤ 2 ^ 32)
    (width : f'.graph.width ≡ f.graph.width) (graph : f'.graph.graph ≡ after f.graph.graph (Did e))
    (done : f'.done.items ≡ set f.done.items e.thread (get_or f.done.items e.thread 0 + 1))
    (live : f'.live.items ≡ f.live.items) (work : f'.work ≡ f.work + e.work) where
  entry_part : e.thread ≡ e.thread
      → part e.thread (past ++ Did e ∷ []) ≡ part e.thread past ++ e ∷ []
  entry_part _ = part_append e.thread past (Did e ∷ [])
      ∙ ap (λ (b : Bool). part e.thread past ++ cond b (e ∷ []) []) (eq-eqb e.thread e.thread refl)

  other_part : (t : ℕ) → e.thread ≢ t → part t (past ++ Did e ∷ []) ≡ part t past
  other_part t ne = part_append t past (Did e ∷ [])
      ∙ ap (λ (b : Bool). part t past ++ cond b (e ∷ []) []) (ne_eqb e.thread t ne)
      ∙ append-nil (part t past)

  own_long : length (part e.thread (past ++ Did e ∷ [])) ≡ length (part e.thread past) + 1
  own_long = ap length (entry_part refl) ∙ length_push (part e.thread past) e

  same_starts : starts_in (past ++ Did e ∷ []) ≡ starts_in past
  same_starts = starts_append past (Did e ∷ []) ∙ omega arith

  done_more : (t : ℕ) → get_or f'.done.items t 0 ≡ length (part t (past ++ Did e ∷ []))
  done_more t = ap (λ (xs : List ℕ). get_or xs t 0) done ∙ elim (cases_eq e.thread t) [
    | inl is ↦ subst (λ (u : ℕ). get_or
        (set f.done.items e.thread (get_or f.done.items e.thread 0 + 1)) u 0
        ≡ length (part u (past ++ Did e ∷ []))) is
        (get_or-set_same f.done.items e.thread (get_or f.done.items e.thread 0 + 1) 0
        (omega (arith, s.rows))
        ∙ ap (λ (n : ℕ). n + 1) (s.done e.thread) ∙ sym own_long)
    | inr ne ↦ get_or-set_other f.done.items e.thread t (get_or f.done.items e.thread 0 + 1) 0
        (λ q. ne (sym q)) ∙ s.done t ∙ ap length (sym (other_part t ne))
  ]

  -- the graph after the entry has its threads, and at most one object more of its thread
  after_threads : (b : Bool)
      → length (cond b f.graph.graph (step f.graph.graph e.thread e.command).0).mutators
      ≡ length f.graph.graph.mutators
  after_threads true = refl
  after_threads false = step_threads f.graph.graph e.thread e.command

  after_own : (b : Bool) → count_of
      (cond b f.graph.graph
      (step f.graph.graph e.thread e.command).0) e.thread ≤ count_of f.graph.graph e.thread + 1
  after_own true = omega arith
  after_own false = step_count f.graph.graph e.thread e.command (omega (arith, s.threads))

  after_other : (b : Bool) (t : ℕ) → e.thread ≢ t
      → count_of (cond b f.graph.graph (step f.graph.graph e.thread e.command).0) t
      ≡ count_of f.graph.graph t
  after_other true t ne = refl
  after_other false t ne =
      count_of_other f.graph.graph e.thread t _ _ (omega (arith, s.threads)) ne
      (change_of f.graph.graph e.thread e.command)

  made_more : (t : ℕ) → count_of f'.graph.graph t ≤ length (part t (past ++ Did e ∷ []))
  made_more t = subst (λ (g : Graph). count_of g t ≤ length (part t (past ++ Did e ∷ [])))
      (sym graph) (elim (cases_eq e.thread t) [
        | inl is ↦ subst (λ (u : ℕ). count_of (after f.graph.graph (Did e)) u ≤ length
            (part u (past ++ Did e ∷ []))) is
            (let more = after_own (is_full e.reply) in omega (arith, s.made e.thread, own_long))
        | inr ne ↦ (let same = after_other (is_full e.reply) t ne in
            let long = ap length (other_part t ne) in omega (arith, s.made t))
      ])

  live_kept : (z : ℕ) → z < starts_in (past ++ Did e ∷ [])
      → get_or f'.live.items z 0 ≡ live_blocks c.width (graph_at c (past ++ Did e ∷ []) (z + 1))
  live_kept z l =
      let few : z < starts_in past = omega (arith, same_starts) in
      ap (λ (xs : List ℕ). get_or xs z 0) live ∙ s.live z few
      ∙ ap (live_blocks c.width)
      (sym (graph_at_more c past (Did e ∷ []) (z + 1) (omega arith) (omega arith)))

  pub stands_entry : Stands c (past ++ Did e ∷ []) f'
  stands_entry = record {
    width = width ∙ s.width;
    graph = graph ∙ ap (λ (g : Graph). after g (Did e)) s.graph
        ∙ sym (replay_more (start_graph c) past (Did e));
    threads = ap (λ (g : Graph). length g.mutators) graph ∙ after_threads (is_full e.reply)
        ∙ s.threads;
    rows = ap length done ∙ length-set f.done.items e.thread (get_or f.done.items e.thread 0 + 1)
        ∙ s.rows;
    done = done_more;
    made = made_more;
    starts = ap length live ∙ s.starts ∙ sym same_starts;
    begun = λ q. omega (arith, same_starts);
    live = live_kept;
    work = (let more = work_append past (Did e ∷ []) in omega (arith, s.work));
    small = (let long = length-append past (Did e ∷ []) in omega (arith, s.small));
  }

-- ---- lines, and what threads have left

-- a line is the one made, where it is all of that but the line feed
pub line_is : (made line text : List ℕ) (same : Bool) → length made ≡ length line + 1
    → same ≡ bytes_eq (take (length line) made) line
    → made ≡ text ++ 10 ∷ [] → (same ≡ true → line ≡ text) × (line ≡ text → same ≡ true)
line_is made line text same long is whole =
    let size : length line ≡ length text = omega (arith, ap length whole, length_push text 10) in
    let front : take (length line) made ≡ text =
    (λ i. take (size i) (whole i)) ∙ take-append_seam text (10 ∷ []) in
    let both = bytes_eq-Decides (take (length line) made) line in (
      λ t. sym (both.0 (sym is ∙ t)) ∙ front,
      λ e. is ∙ both.1 (front ∙ sym e),
    )

pub some_left : (trace : List Command) (n : ℕ) → n < length trace → drop n trace ≡ [] → ⊥
some_left [] n l e = omega arith
some_left (x ∷ xs) n l e = let f : get_or (x ∷ xs) n x ∷ drop (suc n) (x ∷ xs) ≡ [] =
    sym (drop-cons (x ∷ xs) n x l) ∙ e in cc
