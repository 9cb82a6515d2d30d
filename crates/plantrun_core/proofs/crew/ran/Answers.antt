use Rattle.std.proofs.Common.{◌≤◌, ◌+◌, ◌∙◌, sym, subst}
use Rattle.std.specs.Vec.{vec_capacity}
use Rattle.plantrun_core.specs.declared.crew.Works.{Works}
use Rattle.plantrun_core.specs.declared.hand.Hand.{Hand}
use Rattle.plantrun_core.specs.declared.roles.Role.TheVariants.{History}
use Rattle.plantrun_core.specs.PlantWorkers.{AreOfTable}
use Rattle.plantrun_core.specs.Logs.{IsHandOf}
use Rattle.plantrun_core.specs.Roles.{closed}
use Rattle.plantrun_core.specs.Works.{most_in}
use Rattle.plantrun_core.proofs.EndOfPlant.{have_ended, theirs_on}
use Rattle.plantrun_core.proofs.crew.ran.Goals as goal

pub together-stop-requires-clause-own : goal.together-stop-requires-clause-own
together-stop-requires-clause-own g c κs within =
    let of = IsHandOf c.args.table.now in
    let works : Works = record {
      control = c.before_ticks.result;
      alarms = c.before_ticks-2.result;
      history = c.before_ticks-3.result;
    } in
    let own : AreOfTable c.args.table.now works = record {
      control = subst of (sym c.before_ticks.ensures.hand) c.requires.crew.control.0;
      alarms = subst of (sym c.before_ticks-2.ensures.hand) c.requires.crew.alarms.0;
      history = subst of (sym c.before_ticks-3.ensures.hand) c.requires.crew.history.0;
    } in own

pub returns-clause-crew : goal.returns-clause-crew
returns-clause-crew g c =
    let table = c.args.table.now in
    let n = c.args.ticks.count in
    let crew = c.args.crew in
    let new = c.together-stop.new.works in
    let gone = c.together-stop.ensures.works in
    let own = c.together-stop.ensures.own.0 in
    record {
      input = (c.together-stop.ensures.own.1, c.together-stop.ensures.same.thread ∙ c.requires.crew.input.1);
      control = theirs_on table 1 n crew.control c.before_ticks.result new.control
          c.before_ticks.ensures.hand c.requires.crew.control own.control gone.control;
      alarms = theirs_on table 2 n crew.alarms c.before_ticks-2.result new.alarms
          c.before_ticks-2.ensures.hand c.requires.crew.alarms own.alarms gone.alarms;
      history = theirs_on table 3 n crew.history c.before_ticks-3.result new.history
          c.before_ticks-3.ensures.hand c.requires.crew.history own.history gone.history;
    }

pub returns-clause-ends : goal.returns-clause-ends
returns-clause-ends g c =
    let n = c.args.ticks.count in
    let old : Works = record {
      control = c.before_ticks.result;
      alarms = c.before_ticks-2.result;
      history = c.before_ticks-3.result;
    } in
    have_ended n old c.together-stop.new.works c.first.result c.together-stop.ensures.works
    c.before_ticks.ensures.role c.before_ticks-2.ensures.role c.before_ticks-3.ensures.role
    (subst (λ (h : Hand). most_in closed n + 3 ≤ vec_capacity h.calls)
    (sym c.before_ticks.ensures.hand) c.requires.fresh.control_room)
    (subst (λ (h : Hand). most_in History n + 32 ≤ vec_capacity h.calls)
    (sym c.before_ticks-3.ensures.hand) c.requires.fresh.history_room)
