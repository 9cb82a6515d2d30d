use Rattle.std.proofs.Common.{◌≡◌, ◌+◌, ◌++◌, Ok, Err, [], sym, subst}
use Rattle.heap_structures.specs.Heaps.{Always}
use Rattle.heap_structures.specs.Trends.{Lays, with_alarm}
use Rattle.heap_structures.specs.declared.trend.Trend.{Trend}
use Rattle.heap_structures.proofs.trends.TrendHeaps.{raised}
use Rattle.heap_structures.proofs.trend.Trend.raise_newest.Goals as goal

pub returns-in_err-raise-clause-lays : goal.returns-in_err-raise-clause-lays
returns-in_err-raise-clause-lays c = λ s room low none few.
    absurd (raised c.args.self.now s c.args.self.now.pushed low room none few c.raise.new.heap
    c.raise.new.self c.raise.ensures.same _ (Err c.in_err-raise.field-0.0)
    (c.in_err-raise.ensures.shows Always s.lays.graph s.ls s.lays.has s.lays.laid.alarms))

pub returns-clause-lays : goal.returns-clause-lays
returns-clause-lays c = λ s room low none few.
    let t = c.args.self.now in
    let z : Trend = record {
      heap = c.raise.new.heap;
      numbers = t.numbers;
      alarms = c.raise.new.self;
      pushed = t.pushed;
    } in
    subst (λ b. Lays z s.config s.size (s.most + (s.size + 2)) s.made s.ys
    (s.ls ++ with_alarm b t.pushed [])) (sym c.if-not-alarm.false)
    (raised t s t.pushed low room none few c.raise.new.heap c.raise.new.self c.raise.ensures.same
    (c.raise.new.self ≡ t.alarms) (Ok c.in_ok-raise.field-0)
    (c.in_ok-raise.ensures.shows Always s.lays.graph s.ls s.lays.has s.lays.laid.alarms)).0
