-- What holds along an order of a job's commands.
use Rattle.std.proofs.Common.{ℕ, suc, ◌+◌, ◌*◌, ◌^◌, ◌≡◌, ◌<◌, ◌≤◌, ◌==◌, inl, inr, Bool, true, false, cond, List, [], ◌∷◌, ◌++◌, length, take, drop, get_or, ap, sym, ◌∙◌, refl, subst, arith, eq-eqb, length-append, add-one}
use Rattle.std.specs.List.{All, sum_by}
use Rattle.std.proofs.lemmas.Bool.{cases_eq, cases_lt}
use Rattle.std.proofs.lemmas.List.{take-append-drop}
use Rattle.std.proofs.lemmas.List.Sums.{sum_by-le, sum_by_more_le}
use Rattle.std.proofs.Math.Seq.{take-suc}
use Rattle.block_store.specs.declared.Config.{Config}
use Rattle.block_store.specs.declared.Width.{Width}
use Rattle.block_store.specs.Configs.{IsInBounds}
use Rattle.block_store.proofs.Lemmas.{end_few}
use Rattle.array_trees.proofs.Counts.{few_shared}
use Rattle.never_heap.specs.declared.Command.{Command}
use Rattle.never_heap.specs.Bounds.{IsCommandInBounds}
use Rattle.never_heap.specs.Graphs.{Graph, WideGraph, with_graph, start_graph, count_of}
use Rattle.never_heap.specs.LiveBlocks.{live_blocks}
use Rattle.never_heap.specs.Steps.{step, blocks_of}
use Rattle.never_heap.proofs.Lemmas.{count_of_start, opening_live, step_counts, step_counts_one, step_past, step_threads, threads_of_start}
use Rattle.rt_check.specs.declared.moves.Move.{Move}
use Rattle.rt_check.specs.Moves.{commands_of}
use Rattle.rt_check.specs.declared.rt_limit.counts.Counter.{Counter}
use Rattle.rt_check.specs.rt_limit.Counting.{Knows, HasRoom, IsMoveInRange}
use Rattle.rt_check.specs.rt_limit.Moments.{graph_after, graph_behind}
use Rattle.rt_check.proofs.rt_limit.CountLaws.{behind_more}

-- ---- the commands of a thread

push_if : (b : Bool) (c : Command) (xs ys zs : List Command) → xs ≡ ys ++ zs
    → cond b (c ∷ xs) xs ≡ cond b (c ∷ ys) ys ++ zs
push_if true c xs ys zs e = ap (λ (r : List Command). c ∷ r) e
push_if false c xs ys zs e = e

pub commands_append : (t : ℕ) (xs ys : List Move)
    → commands_of t (xs ++ ys) ≡ commands_of t xs ++ commands_of t ys
commands_append t [] ys = refl
commands_append t (m ∷ xs) ys =
    push_if (m.thread == t) m.command _ _ _ (commands_append t xs ys)

-- ---- the graph

pub threads_behind : (g : Graph) (ms : List Move)
    → length (graph_behind g ms).mutators ≡ length g.mutators
threads_behind g [] = refl
threads_behind g (m ∷ ms) =
    threads_behind (graph_after g m) ms ∙ step_threads g m.thread m.command

one_more : (g : Graph) (m : Move) (t : ℕ)
    → count_of (graph_after g m) t ≤ count_of g t + length (commands_of t (m ∷ []))
one_more g m t = elim (cases_eq m.thread t) [
  | inl same ↦
      let one : length (commands_of t (m ∷ [])) ≡ 1 =
      ap (λ (b : Bool). length (cond b (m.command ∷ []) [])) (eq-eqb m.thread t same) in
      elim (cases_lt m.thread (length g.mutators)) [
        | inl there ↦ (let more = step_counts_one g m.thread m.command t there in omega arith)
        | inr past ↦
            let still : count_of (graph_after g m) t ≡ count_of g t =
            ap (λ (h : Graph). count_of h t)
            (step_past g m.thread m.command past) in
            omega arith
      ]
  | inr other ↦
      let still = step_counts g m.thread m.command t (λ same. absurd (other same)) in
      omega arith
]

pub count_behind : (g : Graph) (ms : List Move) (t : ℕ)
    → count_of (graph_behind g ms) t ≤ count_of g t + length (commands_of t ms)
count_behind g [] t = omega arith
count_behind g (m ∷ ms) t =
    let rest = count_behind (graph_after g m) ms t in
    let first = one_more g m t in
    let whole : length (commands_of t (m ∷ ms))
    ≡ length (commands_of t (m ∷ [])) + length (commands_of t ms) =
    ap length (commands_append t (m ∷ []) ms)
    ∙ length-append (commands_of t (m ∷ [])) (commands_of t ms) in
    omega arith

live_first : (c : Config) → IsInBounds c → live_blocks c.width (start_graph c) ≤ 421
live_first c bounds =
    omega (
      arith,
      opening_live c bounds,
      end_few c.width c.threads bounds.threads,
      few_shared c.width c.shared bounds.shared,
    )

-- ---- the next command of an order

module _ (c : Config) (moves : List Move) (i : ℕ) (m : Move) (bounds : IsInBounds c)
    (all : All (IsMoveInRange c) moves)
    (few : (t : ℕ) → length (commands_of t moves) ≤ 131072)
    (low : i < length moves) where
  abbrev next : Move
  next = get_or moves i m

  abbrev past : List Move
  past = take i moves

  pub thread_there : next.thread < length (graph_behind (start_graph c) past).mutators
  thread_there =
      omega (arith, (all i m low).thread, threads_behind (start_graph c) past, threads_of_start c)

  pub count_low : count_of (graph_behind (start_graph c) past) next.thread < 131072
  count_low =
      let t : ℕ = next.thread in
      let split : moves ≡ (past ++ next ∷ []) ++ drop (suc i) moves =
      sym (take-append-drop (suc i) moves)
      ∙ ap (λ (xs : List Move). xs ++ drop (suc i) moves) (take-suc moves i m low) in
      let all_long : length (commands_of t moves)
      ≡ length (commands_of t (past ++ next ∷ [])) + length (commands_of t (drop (suc i) moves)) =
      ap (λ (xs : List Move). length (commands_of t xs)) split
      ∙ ap length (commands_append t (past ++ next ∷ []) (drop (suc i) moves))
      ∙ length-append (commands_of t (past ++ next ∷ [])) (commands_of t (drop (suc i) moves)) in
      let here : length (commands_of t (past ++ next ∷ []))
      ≡ length (commands_of t past) + length (commands_of t (next ∷ [])) =
      ap length (commands_append t past (next ∷ []))
      ∙ length-append (commands_of t past) (commands_of t (next ∷ [])) in
      let one : length (commands_of t (next ∷ [])) ≡ 1 =
      ap (λ (b : Bool). length (cond b (next.command ∷ []) [])) (eq-eqb t t refl) in
      let count = count_behind (start_graph c) past t in
      let none = count_of_start c t in
      let most = few t in
      omega arith

  pub room : length moves ≤ 2 ^ 26 → (k : Counter) → Knows c.width (start_graph c) past k
      → HasRoom k (blocks_of c.width next.command)
  room short k knows =
      let f : Move → ℕ = λ (x : Move). blocks_of c.width x.command in
      let one : blocks_of c.width next.command ≤ c.object =
      (all i m low).command.blocks in
      let object = bounds.object in
      let made : sum_by f moves ≤ length moves * 1024 =
      sum_by-le f 1024 moves (λ j d l.
      let b = (all j d l).command.blocks in omega arith) in
      let part : sum_by f past + f next ≤ sum_by f moves = sum_by_more_le f moves i m low in
      let first = live_first c bounds in
      let allocated : k.figures.allocated ≡ sum_by f past = knows.figures.allocated in
      let bound : k.bound ≤ live_blocks c.width (start_graph c) + sum_by f past = knows.small in
      let reached : k.figures.reached ≤ live_blocks c.width (start_graph c) + sum_by f past =
      knows.reached in
      record {
        made_few = omega arith;
        allocated = omega arith;
        bound = omega arith;
        reached = omega arith;
      }

  abbrev wide : List Move → WideGraph
  wide ms = record { width = c.width; graph = graph_behind (start_graph c) ms }

  one_further : take (i + 1) moves ≡ past ++ next ∷ []
  one_further = ap (λ (n : ℕ). take n moves) (add-one i) ∙ take-suc moves i m low

  -- the graph after the next command
  pub next_graph : (old new : WideGraph) → old ≡ wide past
      → new ≡ with_graph old (step old.graph next.thread next.command).0
      → new ≡ wide (take (i + 1) moves)
  next_graph old new before stepped =
      stepped
      ∙ ap (λ (g : WideGraph). with_graph g (step g.graph next.thread next.command).0) before
      ∙ ap (λ (g : Graph). let k : WideGraph = record { width = c.width; graph = g } in k)
      (sym (behind_more (start_graph c) past next))
      ∙ ap wide (sym one_further)

  -- and what is known of it
  pub next_knows : (g : WideGraph) (k k' : Counter) (made : ℕ) → g ≡ wide (take (i + 1) moves)
      → made ≡ blocks_of c.width next.command → Knows c.width (start_graph c) past k
      → ((first : Graph) (ms : List Move) (x : Move) → Knows g.width first ms k
      → g.graph ≡ graph_behind first (ms ++ x ∷ []) → made ≡ blocks_of g.width x.command
      → Knows g.width first (ms ++ x ∷ []) k')
      → Knows c.width (start_graph c) (take (i + 1) moves) k'
  next_knows g k k' made is blocks knows goes =
      let width : g.width ≡ c.width = ap (λ (x : WideGraph). x.width) is in
      let graph : g.graph ≡ graph_behind (start_graph c) (past ++ next ∷ []) =
      ap (λ (x : WideGraph). x.graph) is
      ∙ ap (λ (ms : List Move). graph_behind (start_graph c) ms) one_further in
      subst (λ (ms : List Move). Knows c.width (start_graph c) ms k') (sym one_further)
      (subst (λ (w : Width). Knows w (start_graph c) (past ++ next ∷ []) k') width
      (goes (start_graph c) past next
      (subst (λ (w : Width). Knows w (start_graph c) past k) (sym width) knows)
      graph
      (subst (λ (w : Width). made ≡ blocks_of w next.command) (sym width) blocks)))
