use Rattle.std.proofs.Common.{◌≡◌, ◌+◌, ◌-◌, ◌*◌, ◌∙◌, nat_lt, true, false, cond, Ok, Err, sym, subst, arith, lt-ltb}
use Rattle.std.proofs.lemmas.Bool.{le-ltb}
use Rattle.heap_structures.specs.Heaps.{Always}
use Rattle.heap_structures.specs.Trends.{Lays, LeavesRoom}
use Rattle.heap_structures.specs.declared.trend.Trend.{Trend}
use Rattle.heap_structures.proofs.trends.TrendHeaps.{cleared_one, kept}
use Rattle.heap_structures.proofs.trend.Trend.clear_oldest.Goals as goal

pub returns-then-self-size-clause-lays : goal.returns-then-self-size-clause-lays
returns-then-self-size-clause-lays c = λ s room low.
    let t = c.args.self.now in
    let few : nat_lt t.pushed s.size ≡ true = lt-ltb t.pushed s.size (omega (
      arith,
      c.if-self-size.true,
      c.from-size.ensures,
      c.size.ensures.size,
      s.lays.laid.ring_place.2,
    )) in
    subst (λ b. Lays t s.config s.size (s.most + (2 * s.size + 1)) s.made s.ys
    (cond b s.ls (Rattle.heap_structures.specs.Alarms.cleared (t.pushed - s.size) s.ls))
    × LeavesRoom (2 * s.size + 1) t.heap t.heap)
    (sym few) (kept t s (2 * s.size + 1))

pub returns-in_err-clear-clause-lays : goal.returns-in_err-clear-clause-lays
returns-in_err-clear-clause-lays c = λ s room low.
    absurd (cleared_one c.args.self.now s c.from-size.result
    (c.from-size.ensures ∙ c.size.ensures.size ∙ s.lays.laid.ring_place.2) room low
    c.clear.new.heap c.clear.new.self c.clear.ensures.same _ (Err c.in_err-clear.field-0.0)
    (c.in_err-clear.ensures.shows Always s.lays.graph s.ls s.lays.has s.lays.laid.alarms))

pub returns-clause-lays : goal.returns-clause-lays
returns-clause-lays c = λ s room low.
    let t = c.args.self.now in
    let is : c.from-size.result ≡ s.size =
    c.from-size.ensures ∙ c.size.ensures.size ∙ s.lays.laid.ring_place.2 in
    let many : nat_lt t.pushed s.size ≡ false =
    le-ltb t.pushed s.size (omega (arith, c.if-self-size.false, is)) in
    let z : Trend = record {
      heap = c.clear.new.heap;
      numbers = t.numbers;
      alarms = c.clear.new.self;
      pushed = t.pushed;
    } in
    subst (λ b. Lays z s.config s.size (s.most + (2 * s.size + 1)) s.made s.ys
    (cond b s.ls (Rattle.heap_structures.specs.Alarms.cleared (t.pushed - s.size) s.ls))
    × LeavesRoom (2 * s.size + 1) t.heap z.heap)
    (sym many)
    (cleared_one t s c.from-size.result is room low c.clear.new.heap c.clear.new.self
    c.clear.ensures.same (c.clear.new.self ≡ t.alarms) (Ok c.in_ok-clear.field-0)
    (c.in_ok-clear.ensures.shows Always s.lays.graph s.ls s.lays.has s.lays.laid.alarms))
