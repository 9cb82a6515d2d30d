use Rattle.std.proofs.Common.{◌≡◌, ℕ, ◌<◌, true, List, sym, ap, ◌∙◌, refl, subst, arith, get_or, length}
use Rattle.block_store.specs.declared.Config.{Config}
use Rattle.block_store.specs.Phases.{cycle_of}
use Rattle.block_store.specs.Places.{Phase}
use Rattle.heap_system.specs.Locals.{LocalState, is_done}
use Rattle.heap_system.specs.Machines.{State, heap_in, no_local}
use Rattle.heap_system.specs.Systems.{Whole, AllDone, IsReached, IsFinished, IsFinishedInOrder, traces_of, logs_of, items_kept}
use Rattle.heap_system.specs.Ordering.{ordered}
use Rattle.heap_system.proofs.history.OrderKept.{finished_in_order}
use Rattle.heap_system.specs.declared.system.System.TheInside.{Inside}
use Rattle.heap_system.proofs.history.FinishedRun.{all_done}
use Rattle.heap_system.proofs.work.TurnFacts.{reached_kept}
use Rattle.heap_system.proofs.system.System.finish.Goals as goal

-- the words and threads of a system
abbrev state_of : Inside → State
state_of s = record { words = s.words; locals = s.locals.items }

pub cycle_in-requires-clause-bounds : goal.cycle_in-requires-clause-bounds
cycle_in-requires-clause-bounds c = c.self.invariant.reached.job.bounds.config

pub cycle_in-requires-clause-there : goal.cycle_in-requires-clause-there
cycle_in-requires-clause-there c = (reached_kept c.self.inside.config (state_of c.self.inside) c.self.invariant.reached).long

pub cycle_in-requires-clause-phase : goal.cycle_in-requires-clause-phase
cycle_in-requires-clause-phase c = (reached_kept c.self.inside.config (state_of c.self.inside) c.self.invariant.reached).held Phase refl

-- all threads are done, as they were looked at
done : (c : Config) (s : State) → IsReached c s → (ls : List LocalState) → ls ≡ s.locals → ((t : ℕ) (d : LocalState) → t < length ls → is_done (get_or ls t d) ≡ true) → AllDone c s
done c s k ls is each t tl = ap (λ xs. is_done (get_or xs t (no_local c))) (sym is) ∙ each t (no_local c) (omega (arith, (reached_kept c s k).threads, tl, ap length is))

pub returns-in-None-clause-finished : goal.returns-in-None-clause-finished
returns-in-None-clause-finished c =
    let s = state_of c.self.inside in
    subst (λ (w : Whole). (c.self.inside.config ≡ w.config) × (logs_of s ≡ logs_of w.state) × IsFinished w.config (traces_of w.state) (logs_of s) c.cycle_in.result) c.self.view_is
    (refl, refl, subst (λ n. IsFinished c.self.inside.config (traces_of s) (logs_of s) n) (sym c.cycle_in.ensures) (all_done c.self.inside.config s c.self.invariant.reached (done c.self.inside.config s c.self.invariant.reached c.deref.result.now c.deref.ensures.value c.in-None.ensures.none)))

pub returns-in-None-clause-cycles : goal.returns-in-None-clause-cycles
returns-in-None-clause-cycles c = subst (λ (w : Whole). c.cycle_in.result ≡ cycle_of (heap_in w.config w.state Phase)) c.self.view_is c.cycle_in.ensures

pub returns-in-None-clause-history : goal.returns-in-None-clause-history
returns-in-None-clause-history c =
    let s = state_of c.self.inside in
    subst (λ (w : Whole). IsFinishedInOrder w.config (traces_of w.state) (logs_of s) c.cycle_in.result (items_kept (ordered c.self.inside.order))) c.self.view_is
    (finished_in_order c.self.inside.config s c.self.inside.order c.self.invariant (done c.self.inside.config s c.self.invariant.reached c.deref.result.now c.deref.ensures.value c.in-None.ensures.none) c.cycle_in.result c.cycle_in.ensures)
