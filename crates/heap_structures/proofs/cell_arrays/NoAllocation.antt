-- Commands that make neither an object nor a unit, whatever is known of the heap.
use Rattle.std.proofs.Common.{◌≡◌, ℕ, ◌+◌, ◌≤◌, ◌⊎◌, Ok, true, inl, inr, List, [], ◌∷◌, refl, ap, ◌∙◌, subst, arith}
use Rattle.std.proofs.lemmas.Bool.{both_ways}
use Rattle.block_store.specs.declared.Width.{Width}
use Rattle.rate_plan.specs.Rates.{IsRate}
use Rattle.never_heap.specs.declared.Command.{Command}
use Rattle.never_heap.specs.Graphs.{Graph}
use Rattle.never_heap.specs.Histories.{is_full, Legal, replay}
use Rattle.never_heap.specs.Licensed.{Licensed}
use Rattle.never_heap.specs.LiveBlocks.{live_blocks}
use Rattle.never_heap.specs.Steps.{blocks_of, makes_object, step}
use Rattle.never_heap.proofs.Lemmas.{others_have_none, owes_told, step_not_full}
use Rattle.heap_system.specs.Lives.{objects_of}
use Rattle.heap_system.specs.Machines.{Run}
use Rattle.control_heap.specs.Controls.{Control, Stands}
use Rattle.control_heap.specs.graph_view.RunsOfCommands.{HasDone, HasDoneAll, HasUsed}
use Rattle.control_heap.specs.graph_view.ShownGraph.{Follows, Goes, HasMetNoFull, IsSmall, Leaves, Shows, graph_told}
use Rattle.control_heap.proofs.graph_view.GraphAnswers.{follows_ok, goes_ok, never_ok}
use Rattle.saved_heap.specs.heap_pictures.Following.{HasOneThread}
use Rattle.saved_heap.proofs.heap_pictures.Following.{thread_of_replay}
use Rattle.heap_structures.specs.Heaps.{Any, Small, Always, Has, IsQuiet, Sight, Took}

-- the run that a heap has with a graph
abbrev pub run_of : (s : Sight) (h : Control) (g : Graph) → Has s h g → Run
run_of Any h g has = has.run
run_of Small h g has = has.run
run_of Always h g has = has.shows.run

pub stands_of : (s : Sight) (h : Control) (g : Graph) (has : Has s h g) → Stands h (run_of s h g has)
stands_of Any h g has = has.stands
stands_of Small h g has = has.stands
stands_of Always h g has = has.shows.stands

pub lone_of : (s : Sight) (h : Control) (g : Graph) → Has s h g → HasOneThread g
lone_of s h g has =
    subst HasOneThread (graph_of s h g has)
    (thread_of_replay h.config (run_of s h g has).order (stands_of s h g has).single)
  where
    graph_of : (s : Sight) (h : Control) (g : Graph) (has : Has s h g)
        → replay h.config (run_of s h g has).order ≡ g
    graph_of Any h g has = has.graph
    graph_of Small h g has = has.graph
    graph_of Always h g has = has.shows.graph

module _ (legal : (h : Control) (r : Run) → Stands h r → Legal h.config r.order)
    (licensed : (h : Control) (r : Run) → Stands h r → Licensed h.config r.order)
    (grows : (w : Width) (g : Graph) (t : ℕ) (k : Command)
    → live_blocks w (step g t k).0 ≤ live_blocks w g + blocks_of w k)
    (used : (h z : Control) (ks : List Command) (r : Run) → Stands h r → HasDoneAll h ks z
    → HasUsed h ks z) where
  module _ (h z : Control) (g : Graph) (k : Command) (quiet : IsQuiet k) (d : HasDone h k z) where
    small_still : IsSmall h.config g → IsSmall h.config (step g 0 k).0
    small_still now =
        let more = grows h.config.width g 0 k in
        let none = others_have_none h.config.width k quiet.0 in
        omega (arith, now, more, none)

    -- the graph after the reply, where that is no full
    told_left : d.reply ≡ (step g 0 k).1 → graph_told g k d.reply ≡ (step g 0 k).0
    told_left is = rw (ap is_full is ∙ step_not_full g 0 k) refl

    replied : (s : Sight) → Has s h g → (d.reply ≡ (step g 0 k).1) × Has s z (step g 0 k).0
    replied Any has =
        let by : Goes h k d.reply z = goes_ok legal licensed h z k (Ok d.reply) d.config d.answered in
        by_graph (by g has).0 (by g has).1
      where
        by_graph : (d.reply ≡ (step g 0 k).1) ⊎ ((is_full d.reply ≡ true) × (makes_object k ≡ true))
            → Leaves z (graph_told g k d.reply)
            → (d.reply ≡ (step g 0 k).1) × Leaves z (step g 0 k).0
        by_graph (inl is) left = (is, subst (Leaves z) (told_left is) left)
        by_graph (inr full) left = absurd (both_ways (makes_object k) quiet.0 full.1)
    replied Small has =
        let by : Follows Shows h k d.reply z =
        follows_ok legal licensed h z k (Ok d.reply) d.config d.answered in
        by g has (small_still has.now)
    replied Always has =
        let by : Follows HasMetNoFull h k d.reply z =
        never_ok legal licensed h z k (Ok d.reply) d.config d.answered in
        by g has (small_still has.shows.now)

    took : (r : Run) → Stands h r → Took 1 h z
    took r stands =
        let u : HasUsed h (k ∷ []) z = used h z (k ∷ []) r stands (z, d, refl) in
        let rate : ℕ = stands.run.after.by_turns.opening.rate in
        let planned : IsRate h.config rate = stands.run.after.by_turns.opening.planned in
        let sum = u.units rate planned in
        let owed = owes_told h.config.width rate k (others_have_none h.config.width k quiet.0) in
        record {
          config = d.config;
          commands = omega (arith, d.count);
          objects = omega (arith, d.objects, none);
          units = omega (arith, sum, owed, quiet.1);
        }
      where
        none : objects_of k ≡ 0
        none = rw quiet.0 refl

    pub quiet_done : (s : Sight) → Has s h g
        → (d.reply ≡ (step g 0 k).1) × Has s z (step g 0 k).0 × Took 1 h z
    quiet_done s has =
        let by = replied s has in
        (by.0, by.1, took (run_of s h g has) (stands_of s h g has))
