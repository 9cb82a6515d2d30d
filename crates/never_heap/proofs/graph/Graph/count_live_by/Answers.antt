use Rattle.std.proofs.Common.{◌≡◌, subst, true, arith}
use Rattle.never_heap.specs.Reach.{stands_in}
use Rattle.never_heap.specs.Scans.{Finds}
use Rattle.never_heap.proofs.LiveScan.{found_few, led_reached, led_more, all_live}
use Rattle.never_heap.proofs.graph.Graph.count_live_by.Goals as goal

pub find_all-requires-clause-reached : goal.find_all-requires-clause-reached
find_all-requires-clause-reached c b h =
    let s = c.loop-next.scan in
    led_reached c.args.self.now.width c.args.self.now.graph s.marks s.found.items s.total
    c.loop-next.next c.index-name.result.now c.loop-next.invariant.scanned
    (let l = c.len.ensures in omega (arith, c.loop-next-test.true)) c.index-name.ensures b
    (subst (λ l. stands_in b l ≡ true) c.cells.ensures h)

pub loop-next-smaller : goal.loop-next-smaller
loop-next-smaller c =
    let s = c.loop-next.scan in
    let few = found_few c.args.self.now.width c.args.self.now.graph s.marks s.found.items s.total
    c.loop-next.invariant.scanned in
    omega (arith, c.loop-next-test.true, c.len.ensures)

pub returns : goal.returns
returns c =
    let s = c.loop-next.scan in
    all_live c.args.self.now.width c.args.self.now.graph s.marks s.found.items s.total
    c.loop-next.next c.loop-next.invariant.scanned c.loop-next.invariant.registers
    c.loop-next.invariant.led
    (let l = c.len.ensures in omega (arith, c.loop-next-test.false))

pub loop-next-preserved : goal.loop-next-preserved
loop-next-preserved c =
    let g = c.args.self.now.graph in
    let old = c.loop-next.scan in
    let new = c.find_all.new.self in
    let finds = subst
    (λ l. Finds g old.marks new.marks old.found.items new.found.items l) c.cells.ensures
    c.in_ok-find_all.ensures.finds in
    record {
      scanned = c.in_ok-find_all.ensures.scanned;
      registers = λ b h has. finds.kept b (c.loop-next.invariant.registers b h has);
      led = led_more c.args.self.now.width g old.marks old.found.items old.total c.loop-next.next
          c.index-name.result.now c.loop-next.invariant.scanned
          (let l = c.len.ensures in
          omega (
            arith,
            c.loop-next-test.true,
          )) c.index-name.ensures new.marks new.found.items c.loop-next.invariant.led finds;
    }
