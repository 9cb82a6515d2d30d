use Rattle.std.proofs.Common.{◌+◌, ◌-◌, ◌/◌, refl, arith}
use Rattle.heap_structures.proofs.tables.TableChains.{goes_down, goes_up, halving_ends, halving_goes, halving_starts}
use Rattle.heap_structures.proofs.cells.Cells.rank.Goals as goal

pub loop-low-init : goal.loop-low-init
loop-low-init c = record {
  ordered = omega arith;
  within = omega arith;
  halving = λ s g xs st.
      halving_starts s c.args.heap.now c.args.self.now g c.args.count c.args.key xs (omega arith) st;
}

pub returns-in_err-here : goal.returns-in_err-here
returns-in_err-here c s g xs st =
    let is = c.loop-low.invariant.halving s g xs st in
    absurd (c.in_err-here.ensures s is.does.graph c.args.count xs
    (halving_goes s c.args.heap.now c.args.self.now g c.args.count c.args.key xs c.loop-low.heap
    c.loop-low.low c.loop-low.high is c.loop-low-test.true st) (omega arith))

pub loop-low-preserved-then-here-key : goal.loop-low-preserved-then-here-key
loop-low-preserved-then-here-key c = record {
  ordered = omega arith;
  within = omega arith;
  halving = λ s g xs st.
      let is = c.loop-low.invariant.halving s g xs st in
      goes_up s c.args.heap.now c.args.self.now g c.args.count c.args.key xs c.loop-low.heap
      c.key_at.new.heap c.loop-low.low c.loop-low.high
      (c.loop-low.low + (c.loop-low.high - c.loop-low.low) / 2) c.in_ok-here.here is
      c.loop-low-test.true refl c.loop-low.invariant.within
      (c.in_ok-here.ensures s is.does.graph c.args.count xs
      (halving_goes s c.args.heap.now c.args.self.now g c.args.count c.args.key xs
      c.loop-low.heap c.loop-low.low c.loop-low.high is c.loop-low-test.true st) (omega arith))
      c.if-here-key.true;
}

pub loop-low-preserved : goal.loop-low-preserved
loop-low-preserved c = record {
  ordered = omega arith;
  within = omega arith;
  halving = λ s g xs st.
      let is = c.loop-low.invariant.halving s g xs st in
      goes_down s c.args.heap.now c.args.self.now g c.args.count c.args.key xs c.loop-low.heap
      c.key_at.new.heap c.loop-low.low c.loop-low.high
      (c.loop-low.low + (c.loop-low.high - c.loop-low.low) / 2) c.in_ok-here.here is
      c.loop-low-test.true refl c.loop-low.invariant.within
      (c.in_ok-here.ensures s is.does.graph c.args.count xs
      (halving_goes s c.args.heap.now c.args.self.now g c.args.count c.args.key xs
      c.loop-low.heap c.loop-low.low c.loop-low.high is c.loop-low-test.true st) (omega arith))
      c.if-here-key.false;
}

pub returns : goal.returns
returns c s g xs st =
    halving_ends s c.args.heap.now c.args.self.now g c.args.count c.args.key xs c.loop-low.heap
    c.loop-low.low c.loop-low.high (c.loop-low.invariant.halving s g xs st) c.loop-low-test.false
