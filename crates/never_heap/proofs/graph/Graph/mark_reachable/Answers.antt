use Rattle.std.proofs.Common.{arith, ap, length}
use Rattle.never_heap.proofs.Rounds.{first_round, next_round, last_round, no_more_rounds, rounded_over}
use Rattle.never_heap.proofs.graph.Graph.mark_reachable.Goals as goal

pub loop-round-init : goal.loop-round-init
loop-round-init c =
    first_round c.args.self.now.graph c.in_ok-marks.marks c.mark_registers.new.marks
    c.in_ok-marks.ensures.places c.in_ok-marks.ensures.marks
    c.mark_registers.ensures.marks c.mark_registers.ensures.places

pub returns-then-not-mark_fields : goal.returns-then-not-mark_fields
returns-then-not-mark_fields c =
    no_more_rounds c.args.self.now.graph c.loop-round.marks c.mark_fields.new.marks
    c.mark_fields.result c.loop-round._round c.loop-round.invariant
    (rounded_over c.args.self.now.graph c.loop-round.marks c.mark_fields.new.marks
    c.mark_fields.result c.args.list.now c.requires
    (record {
      places = c.mark_fields.ensures.places;
      kept = c.mark_fields.ensures.kept;
      led = c.mark_fields.ensures.led;
      sound = c.mark_fields.ensures.sound;
      unchanged = c.mark_fields.ensures.unchanged;
    })) c.if-not-mark_fields.true

pub loop-round-preserved : goal.loop-round-preserved
loop-round-preserved c =
    next_round c.args.self.now.graph c.loop-round.marks c.mark_fields.new.marks c.mark_fields.result
    c.loop-round._round c.loop-round.invariant
    (rounded_over c.args.self.now.graph c.loop-round.marks c.mark_fields.new.marks
    c.mark_fields.result c.args.list.now c.requires
    (record {
      places = c.mark_fields.ensures.places;
      kept = c.mark_fields.ensures.kept;
      led = c.mark_fields.ensures.led;
      sound = c.mark_fields.ensures.sound;
      unchanged = c.mark_fields.ensures.unchanged;
    }))

pub returns : goal.returns
returns c = last_round c.args.self.now.graph c.loop-round.marks c.loop-round._round
    (omega (arith, ap length c.requires)) c.loop-round.invariant
