use Rattle.std.proofs.Common.{◌+◌, sym, ◌∙◌, subst, refl, List, arith}
use Rattle.block_store.specs.declared.Name.{Name}
use Rattle.never_heap.specs.Scans.{Scanned}
use Rattle.never_heap.proofs.LiveScan.{scanned_more, found_few}
use Rattle.never_heap.proofs.live.Scan.find.Goals as goal

pub overflow_add-self : goal.overflow_add-self
overflow_add-self c =
    let few = found_few c.args.graph.now.width c.args.graph.now.graph c.args.self.now.marks
    c.args.self.now.found.items c.args.self.now.total c.requires.scanned in
    let low = c.blocks_of.ensures.few in
    let same = c.from.ensures in
    omega (arith, c.requires.scanned.small, c.requires.few)

pub returns-clause-scanned : goal.returns-clause-scanned
returns-clause-scanned c =
    let g = c.args.graph.now.graph in
    let new = c.if-not-mark.ensures.is_new refl in
    subst (λ (xs : List Name). Scanned c.args.graph.now.width g c.mark.new.self xs
    (c.args.self.now.total + c.from.result)) (sym c.in_ok-push.ensures.items)
    (scanned_more c.args.graph.now.width g c.args.self.now.marks c.mark.new.self
    c.args.self.now.found.items c.args.self.now.total c.args.name c.requires.scanned
    c.if-not-mark.ensures.marks c.if-not-mark.ensures.places
    new.0 new.1 c.from.result c.requires.reached (c.from.ensures ∙ c.blocks_of.ensures.value)
    (let low = c.blocks_of.ensures.few in let same = c.from.ensures in omega arith))
