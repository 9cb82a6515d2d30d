use Rattle.std.proofs.Common.{sym, subst}
use Rattle.array_tables.specs.tag_table.Tables.{IsOperationInRange}
use Rattle.plantrun_core.specs.Logs.{IsLog}
use Rattle.plantrun_core.proofs.WorkerLogs.{has_life, log_more, places_in, plant_same, went_on}
use Rattle.plantrun_core.proofs.hand.Hand.does.Goals as goal

pub stamped-call-requires-clause-range : goal.stamped-call-requires-clause-range
stamped-call-requires-clause-range g c =
    subst (λ n. IsOperationInRange n c.args.op)
    (sym (places_in c.args.table.now c.args.self.now.who c.requires.own.of)) c.requires.range

pub stamped-call-requires-clause-life : goal.stamped-call-requires-clause-life
stamped-call-requires-clause-life g c =
    has_life c.args.table.now c.args.self.now.who c.args.self.now.calls.items c.args.op
    c.requires.own.of c.requires.own.log c.requires.few

pub returns-clause-own : goal.returns-clause-own
returns-clause-own g c =
    let old = c.args.self.now in
    let new = c.stamped-call.new.who in
    record {
      of = plant_same c.args.table.now old.who new c.requires.own.of c.stamped-call.ensures.same;
      log = subst (IsLog new) (sym c.push_reserved.ensures.items)
          (log_more old.who new old.calls.items c.stamped-call.result c.requires.own.log
          c.stamped-call.ensures.asked c.stamped-call.ensures.same);
    }

pub returns-clause-on : goal.returns-clause-on
returns-clause-on g c =
    went_on c.args.self.now.who c.stamped-call.new.who c.stamped-call.result
    c.stamped-call.ensures.asked
