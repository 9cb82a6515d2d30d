use Rattle.std.proofs.Common.{◌≡◌, ◌∙◌, ap, sym, subst}
use Rattle.std.specs.Prelude.{IsNone}
use Rattle.live_tables.specs.tags.Live.{TagWorkerState}
use Rattle.plantrun_core.specs.declared.crew.Crew.{Crew}
use Rattle.plantrun_core.specs.declared.hand.Hand.{Hand}
use Rattle.plantrun_core.specs.declared.roles.Role.TheVariants.{Alarms}
use Rattle.plantrun_core.specs.PlantWorkers.{IsHandAt}
use Rattle.plantrun_core.specs.Works.{HasActedAfter}
use Rattle.plantrun_core.proofs.EndOfPlant.{finished_gone}
use Rattle.plantrun_core.proofs.LogOfTicks.{whole_log}
use Rattle.plantrun_core.proofs.crew.finished.Goals as goal

pub returns-clause-crew : goal.returns-clause-crew
returns-clause-crew g c =
    let table = c.args.table.now in
    let e = c.args.ends in
    let a = c.acts_last-control in
    let fc = c.finishes-control in
    let fa = c.finishes-alarms in
    let h = c.rereads-history in
    let same : record e.input { who = c.note-note.new.who } ≡ e.input =
    ap (λ (w : TagWorkerState). record e.input { who = w }) c.note-note.ensures.same in
    record {
      input = subst (IsHandAt table 0) (sym same) c.requires.crew.input;
      control = (
        a.ensures.own,
        a.ensures.same.thread ∙ fc.ensures.gone.same.thread ∙ c.requires.crew.control.1,
      );
      alarms = (fa.ensures.own, fa.ensures.gone.same.thread ∙ c.requires.crew.alarms.1);
      history = (
        h.ensures.own,
        h.ensures.same.thread ∙ c.finishes.ensures.gone.same.thread ∙ c.requires.crew.history.1,
      );
    }

pub returns-clause-gone : goal.returns-clause-gone
returns-clause-gone g c all left input =
    let n = c.args.ticks.count in
    let e = c.args.ends in
    let a = c.acts_last-control in
    let fa = c.finishes-alarms in
    let h = c.rereads-history in
    let noted : Hand = record e.input { who = c.note-note.new.who } in
    let crew : Crew = record {
      input = noted;
      control = a.result;
      alarms = fa.result.hand;
      history = h.result;
    } in
    let same : noted ≡ e.input =
    ap (λ (w : TagWorkerState). record e.input { who = w }) c.note-note.ensures.same in
    let none : IsNone e.stop = sym c.is_some.ensures ∙ c.if-is_some.false in
    finished_gone n all left crew e.input e.stop fa.result.role same none a.ensures.worked
    (subst (λ s. HasActedAfter s a.result)
    (c.note-note.ensures.seen ∙ ap (λ (w : TagWorkerState). w.worker.seen) (sym c.note-note.ensures.same))
    a.ensures.last)
    (whole_log n fa.result Alarms fa.ensures.gone.work
    (fa.ensures.gone.first ∙ c.requires.ends.alarms_role) fa.ensures.whole)
    h.ensures.kept input
