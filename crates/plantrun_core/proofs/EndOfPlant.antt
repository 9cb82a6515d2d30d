-- How a plant ends, and why.
use Rattle.std.proofs.Common.{◌≡◌, ℕ, ◌+◌, ◌≤◌, List, map, Option, Some, None, IfErr, Result, Ok, Err, sym, ap, ◌∙◌, subst}
use Rattle.std.specs.Prelude.{IsSome, IsNone}
use Rattle.std.specs.Vec.{vec_capacity}
use Rattle.shared_heap.specs.Workers.{HeapState}
use Rattle.live_tables.specs.rows.Workers.{thread_of}
use Rattle.plantrun_core.specs.declared.crew.Crew.{Crew}
use Rattle.plantrun_core.specs.declared.crew.Works.{Works}
use Rattle.plantrun_core.specs.declared.hand.Hand.{Hand}
use Rattle.plantrun_core.specs.declared.law.Loop.{Loop}
use Rattle.plantrun_core.specs.declared.roles.Role.{Role}
use Rattle.plantrun_core.specs.declared.roles.Role.TheVariants.{Control, Alarms, History}
use Rattle.plantrun_core.specs.declared.stops.Stop.{Stop}
use Rattle.plantrun_core.specs.declared.stops.Stop.TheVariants as stops
use Rattle.plantrun_core.specs.declared.work.Work.{Work}
use Rattle.plantrun_core.specs.PlantWorkers.{HaveEnded, HaveGone, IsGone, IsHandAt}
use Rattle.plantrun_core.specs.Logs.{IsHandOf, operation_of}
use Rattle.plantrun_core.specs.Readings.{CountsRead}
use Rattle.plantrun_core.specs.Roles.{AfterTicks, closed}
use Rattle.plantrun_core.specs.Works.{CountsInput, HasActedAfter, HasControlledAll, HasGone, HasInput, HasKeptAll, first_of, most_in}

-- the threads at ticks, once they have gone on from before their first
pub have_ended : (ticks : ℕ) (old new : Works) (l : Loop) → HaveGone ticks old new
    → old.control.role ≡ Control l → old.alarms.role ≡ Alarms → old.history.role ≡ History
    → most_in closed ticks + 3 ≤ vec_capacity old.control.hand.calls
    → most_in History ticks + 32 ≤ vec_capacity old.history.hand.calls → HaveEnded ticks new
have_ended ticks old new l gone control alarms history last ring = record {
  work = record {
    control = gone.control.work;
    alarms = gone.alarms.work;
    history = gone.history.work;
  };
  control_role = gone.control.first ∙ ap first_of control;
  alarms_role = gone.alarms.first ∙ ap first_of alarms;
  history_role = gone.history.first ∙ ap first_of history;
  control_room = subst (λ (n : ℕ). most_in closed ticks + 3 ≤ n) (sym gone.control.capacity) last;
  history_room = subst (λ (n : ℕ). most_in History ticks + 32 ≤ n) (sym gone.history.capacity) ring;
}

pub theirs_on : (table : HeapState) (t count : ℕ) (hand : Hand) (old new : Work)
    → old.hand ≡ hand → IsHandAt table t hand → IsHandOf table new.hand → HasGone count old new
    → IsHandAt table t new.hand
theirs_on table t count hand old new same is own gone =
    (own, gone.same.thread ∙ ap (λ (h : Hand). thread_of h.who) same ∙ is.1)

-- where the input stopped
pub stopped_gone : (ticks : ℕ) (all left : Option (List ℕ)) (c : Crew) (hand : Hand)
    (s : Option Stop) → IsSome s → HasInput ticks all left hand s → IsGone ticks all left c s
stopped_gone ticks all left c hand None some input = absurd (cc some)
stopped_gone ticks all left c hand (Some stop) some input = input.end

-- where the input was taken to its end
pub finished_gone : (ticks : ℕ) (all left : Option (List ℕ)) (c : Crew) (hand : Hand)
    (s : Option Stop) (alarms_role : Role) → c.input ≡ hand → IsNone s
    → HasControlledAll ticks c.control.calls.items
    → HasActedAfter c.input.who.worker.seen c.control
    → AfterTicks Alarms ticks c.alarms.calls.items alarms_role
    → HasKeptAll ticks c.history.calls.items → HasInput ticks all left hand s
    → IsGone ticks all left c s
finished_gone ticks all left c hand (Some stop) role same none control last alarms history input =
    absurd (cc none)
finished_gone ticks all left c hand None role same none control last alarms history input = (
  record {
    readings = input.readings;
    tags = input.tags;
    input = ap (λ (k : Hand). map operation_of k.calls.items) same ∙ input.log;
    taken = input.end;
    control = control;
    alarms_role = role;
    alarms = alarms;
    history = history;
  },
  last,
)

-- ---- once the table is closed

pub counts_stop : (X : Type 0) (old new : ℕ) (s : Stop) → CountsInput old new (Some s)
    → CountsRead {X = X} old new (Err s)
counts_stop X old new (stops.BadLine k) counts = counts
counts_stop X old new stops.TooMany counts = counts
counts_stop X old new stops.ReadFault counts = counts
counts_stop X old new stops.NoMemory counts = counts

pub counts_order : {X : Type 0} (old new : ℕ) (r : Result X Stop) → new ≡ old
    → IfErr r (λ s. s ≡ stops.NoMemory) → CountsRead old new r
counts_order old new (Ok x) same memory = same
counts_order {X} old new (Err s) same memory =
    subst (λ (t : Stop). CountsRead {X = X} old new (Err t)) (sym memory) same
