-- What a job of one thread needs is enough: no run of it has a full.
use Rattle.std.proofs.Common.{ℕ, suc, ◌≡◌, ◌≤◌, inl, inr, Bool, true, false, cond, List, [], ◌∷◌, length, get_or, ap, sym, ◌∙◌, refl, subst, arith, eq-eqb}
use Rattle.std.specs.List.{All}
use Rattle.std.proofs.lemmas.Bool.{cases_lt}
use Rattle.std.proofs.lemmas.List.{get_or_past}
use Rattle.block_store.specs.declared.Config.{Config}
use Rattle.block_store.specs.declared.Width.{Width}
use Rattle.never_heap.specs.declared.Command.{Command}
use Rattle.never_heap.specs.Graphs.{Graph, start_graph}
use Rattle.never_heap.specs.Histories.{HistoryItem}
use Rattle.never_heap.specs.Licensed.{NoFulls}
use Rattle.never_heap.specs.LiveBlocks.{live_blocks}
use Rattle.never_heap.specs.Runs.{IsRun}
use Rattle.trace_text.specs.Jobs.{Job, IsJobInBounds}
use Rattle.rt_check.specs.declared.moves.Move.{Move}
use Rattle.rt_check.specs.Moves.{commands_of, AreMovesOf}
use Rattle.rt_check.specs.rt_limit.Answers.{AreNeeds, IsOrder}
use Rattle.rt_check.specs.rt_limit.Blocks.{with_limits}
use Rattle.rt_check.specs.rt_limit.Moments.{graph_after, most_live, IsMoment, moves_of}
use Rattle.rt_check.proofs.rt_limit.CountLaws.{moment_now, max_moment}
use Rattle.rt_check.proofs.rt_limit.JobLaws.{own_place, all_by_threads, all_given}
use Rattle.rt_check.proofs.rt_limit.OneOrder.{never_full}

-- ---- the greatest number is reached

later : (w : Width) (g : Graph) (m : Move) (ms : List Move) (n : ℕ)
    → IsMoment w (graph_after g m) ms n → IsMoment w g (m ∷ ms) n
later w g m ms n i = record {
  before = m ∷ i.before;
  behind = i.behind;
  order = ap (λ (xs : List Move). m ∷ xs) i.order;
  live = i.live;
}

first : (w : Width) (g : Graph) (ms : List Move) → IsMoment w g ms (live_blocks w g)
first w g ms = record { before = []; behind = ms; order = refl; live = refl }

pub most_reached : (w : Width) (g : Graph) (ms : List Move) → IsMoment w g ms (most_live w g ms)
most_reached w g [] = moment_now w g [] (live_blocks w g) refl
most_reached w g (m ∷ ms) =
    max_moment w g (m ∷ ms) (live_blocks w g) (most_live w (graph_after g m) ms)
    (first w g (m ∷ ms))
    (later w g m ms (most_live w (graph_after g m) ms) (most_reached w (graph_after g m) ms))

-- ---- one thread

all_zero : (trace : List Command) (ms : List Move) → AreMovesOf (trace ∷ []) ms
    → All (λ (m : Move). m.thread ≡ 0) ms
all_zero trace ms are = λ k d l.
    let m : Move = get_or ms k d in
    let place = own_place ms k d l in
    let long = ap length (are m.thread) in
    elim (cases_lt m.thread 1) [
      | inl low ↦ omega arith
      | inr past ↦ absurd (let none : length (get_or (trace ∷ []) m.thread []) ≡ 0 =
          ap length (get_or_past (trace ∷ []) m.thread [] past) in
          let some = place.1 in omega arith)
    ]

zero_moves : (ms : List Move) → All (λ (m : Move). m.thread ≡ 0) ms
    → ms ≡ moves_of 0 (commands_of 0 ms)
zero_moves [] all = refl
zero_moves (m ∷ ms) all =
    let zero_thread : m.thread ≡ 0 = all 0 m (omega arith) in
    let rest = zero_moves ms (λ k d l. all (suc k) d (omega arith)) in
    let here : commands_of 0 (m ∷ ms) ≡ m.command ∷ commands_of 0 ms =
    ap (λ (b : Bool). cond b (m.command ∷ commands_of 0 ms) (commands_of 0 ms))
    (eq-eqb m.thread 0 zero_thread) in
    (λ i. (let x : Move = record { thread = zero_thread i; command = m.command } in x) ∷ rest i)
    ∙ ap (moves_of 0) (sym here)

-- the commands of one thread have one order
pub one_order : (trace : List Command) (ms : List Move) → AreMovesOf (trace ∷ []) ms
    → ms ≡ moves_of 0 trace
one_order trace ms are = zero_moves ms (all_zero trace ms are) ∙ ap (moves_of 0) (are 0)

-- ---- what is told is enough

moves_are : (job : Job) (lines : List (List ℕ)) (given : Bool) (ms : List Move)
    → IsOrder lines job given ms → AreMovesOf job.traces ms
moves_are job lines true ms order = all_given job.config job.traces lines ms order.1
moves_are job lines false ms order =
    subst (AreMovesOf job.traces) (sym order.1) (all_by_threads job.traces)

single : (traces : List (List Command)) → length traces ≡ 1
    → (trace : List Command) × (traces ≡ trace ∷ [])
single [] e = absurd (omega arith)
single (x ∷ []) e = (x, refl)
single (x ∷ (y ∷ xs)) e = absurd (omega arith)

pub needs_never_full : (lines : List (List ℕ)) (job : Job) (text : List ℕ)
    (needs : AreNeeds lines job text) (blocks live rate : ℕ) (h : List HistoryItem)
    → IsJobInBounds job → job.config.threads ≡ 1 → needs.figures.enough ≤ live
    → IsRun (with_limits job.config blocks live) rate job.traces h → NoFulls h
needs_never_full lines job text needs blocks live rate h b one low run =
    let only = single job.traces (b.threads ∙ one) in
    let are : AreMovesOf (only.0 ∷ []) needs.moves =
    subst (λ (ts : List (List Command)). AreMovesOf ts needs.moves) only.1
    (moves_are job lines needs.given needs.moves needs.order) in
    let c : Config = with_limits job.config blocks live in
    let order = one_order only.0 needs.moves are in
    let most : most_live c.width (start_graph c) (moves_of 0 only.0) ≤ live =
    subst (λ (ms : List Move). most_live c.width (start_graph c) ms ≤ live) order
    (let enough = needs.are_figures.enough in omega arith) in
    never_full c rate only.0 most h
    (subst (λ (ts : List (List Command)). IsRun c rate ts h) only.1 run)
