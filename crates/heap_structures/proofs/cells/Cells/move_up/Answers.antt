use Rattle.std.proofs.Common.{◌≡◌, ◌+◌, ◌*◌, ◌-◌, ◌∷◌, [], slice_index_or, slice_set, subst, arith}
use Rattle.block_store.specs.declared.Value.TheVariants.{Nil}
use Rattle.heap_structures.specs.Cells.{IsCells}
use Rattle.heap_structures.specs.Heaps.{Does}
use Rattle.heap_structures.specs.Tables.{IsRaised}
use Rattle.heap_structures.proofs.rings.Rounds.{does_none}
use Rattle.heap_structures.proofs.tables.TableCalls.{does_then, ready_then}
use Rattle.heap_structures.proofs.tables.TableChains.{raised_more, raised_none}
use Rattle.heap_structures.proofs.cells.Cells.move_up.Goals as goal

pub loop-place-init : goal.loop-place-init
loop-place-init c = record {
  low = λ order. order;
  raised = λ s g vs ready room order.
      does_none s (2 * (c.args.end - c.args.end)) c.args.heap.now (c.args.self.now.spare ∷ [])
      c.args.self.now.array g (λ z. IsRaised z c.args.self.now c.args.end c.args.end vs)
      ready.has (raised_none g c.args.self.now c.args.end vs ready.cells);
}

pub returns-in_err-copy : goal.returns-in_err-copy
returns-in_err-copy c s g vs ready room order =
    let cells = c.args.self.now in
    let first = c.args.first in
    let end = c.args.end in
    let place = c.loop-place.place in
    let d = c.loop-place.invariant.raised s g vs ready room order in
    let l = d.holds.cells.size in
    let n = ready.cells.size in
    let next = ready_then s (2 * (end - place)) 2 (2 * (end - first)) c.args.heap.now
    c.loop-place.heap (cells.spare ∷ []) cells g vs d.holds.array
    (λ z. IsRaised z cells place end vs) ready d (omega arith) d.holds.cells in
    absurd (c.in_err-copy.ensures s d.graph d.holds.array next (omega (arith, l, n, room))
    (omega (arith, l, n, room)))

pub loop-place-preserved : goal.loop-place-preserved
loop-place-preserved c = record {
  low = λ order. let o = c.loop-place.invariant.low order in omega (arith, o);
  raised = λ s g vs ready room order.
      let cells = c.args.self.now in
      let first = c.args.first in
      let end = c.args.end in
      let place = c.loop-place.place in
      let d = c.loop-place.invariant.raised s g vs ready room order in
      let l = d.holds.cells.size in
      let n = ready.cells.size in
      let next = ready_then s (2 * (end - place)) 2 (2 * (end - first)) c.args.heap.now
      c.loop-place.heap (cells.spare ∷ []) cells g vs d.holds.array
      (λ z. IsRaised z cells place end vs) ready d (omega arith) d.holds.cells in
      let e = c.in_ok-copy.ensures s d.graph d.holds.array next (omega (arith, l, n, room))
      (omega (arith, l, n, room)) in
      does_then s (2 * (end - place)) 2 (2 * (end - (place - 1))) c.args.heap.now
      c.loop-place.heap c.copy.new.heap (cells.spare ∷ []) cells.array g
      (λ z. IsRaised z cells place end vs)
      (λ z. IsCells z cells (slice_set d.holds.array ((place - 1) + 2)
      (slice_index_or d.holds.array (place - 1) Nil)))
      (λ z. IsRaised z cells (place - 1) end vs) d e (omega arith)
      (λ is. raised_more cells first end vs d.graph e.graph (place - 1) place d.holds
      (omega arith) (omega arith) (omega (arith, n, room)) is);
}

pub returns : goal.returns
returns c s g vs ready room order =
    let cells = c.args.self.now in
    let same : c.loop-place.place ≡ c.args.first = (let o = c.loop-place.invariant.low order in omega (arith, o)) in
    subst (λ p. Does s (2 * (c.args.end - p)) c.args.heap.now c.loop-place.heap (cells.spare ∷ [])
    cells.array g (λ z. IsRaised z cells p c.args.end vs)) same
    (c.loop-place.invariant.raised s g vs ready room order)
