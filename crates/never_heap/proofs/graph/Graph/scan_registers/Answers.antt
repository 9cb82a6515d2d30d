use Rattle.std.proofs.Common.{◌≡◌, ◌≤◌, sym, subst, length, true, false, List}
use Rattle.block_store.specs.declared.Name.{Name}
use Rattle.never_heap.specs.Reach.{stands_in}
use Rattle.never_heap.specs.Scans.{Scanned, Finds}
use Rattle.never_heap.proofs.LiveScan.{scanned_none, register_reached, first_more}
use Rattle.never_heap.proofs.graph.Graph.scan_registers.Goals as goal

pub loop-mutator-init : goal.loop-mutator-init
loop-mutator-init c =
    let g = c.args.self.now.graph in
    let blocks = c.register_blocks-scan.result in
    record {
      scanned = subst
          (λ (l : List Name). Scanned c.args.self.now.width g c.clear_marks.new.marks l blocks)
          (sym c.clear.ensures.items)
          (scanned_none c.args.self.now.width g c.clear_marks.new.marks blocks
          c.in_ok-clear_marks.ensures.places c.in_ok-clear_marks.ensures.marks
          c.register_blocks-scan.ensures.value
          (subst (λ l. length l ≤ 16) c.mutators-mutator-items.ensures.mutators
          c.mutators-mutator-items.ensures.few));
      registers = λ b h has. absurd (let e : false ≡ true = h in cc);
    }

pub find_all-requires-clause-reached : goal.find_all-requires-clause-reached
find_all-requires-clause-reached c b h =
    register_reached c.args.self.now.graph c.mutators-mutator-items.result.now
    c.loop-mutator.mutator-index c.mutator-item.result c.mutators-mutator-items.ensures.mutators
    c.loop-mutator-test.true
    c.mutator-item.is b (subst (λ l. stands_in b l ≡ true) c.registers.ensures h)

pub loop-mutator-preserved : goal.loop-mutator-preserved
loop-mutator-preserved c =
    let g = c.args.self.now.graph in
    let old = c.loop-mutator.scan in
    let new = c.find_all.new.self in
    record {
      scanned = c.in_ok-find_all.ensures.scanned;
      registers = first_more g c.mutators-mutator-items.result.now c.loop-mutator.mutator-index
          c.mutator-item.result c.mutators-mutator-items.ensures.mutators c.loop-mutator-test.true
          c.mutator-item.is old.marks new.marks old.found.items new.found.items
          c.loop-mutator.invariant.registers
          (subst (λ l. Finds g old.marks new.marks old.found.items new.found.items l)
          c.registers.ensures c.in_ok-find_all.ensures.finds);
    }
