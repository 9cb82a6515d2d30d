use Rattle.std.proofs.Common.{◌≡◌, ◌+◌, ◌*◌, ◌-◌, ◌∷◌, [], slice_index_or, slice_set, subst, arith}
use Rattle.block_store.specs.declared.Value.TheVariants.{Nil}
use Rattle.heap_structures.specs.Cells.{IsCells}
use Rattle.heap_structures.specs.Heaps.{Does}
use Rattle.heap_structures.specs.Tables.{IsLowered}
use Rattle.heap_structures.proofs.rings.Rounds.{does_none}
use Rattle.heap_structures.proofs.tables.TableCalls.{does_then, ready_then}
use Rattle.heap_structures.proofs.tables.TableChains.{lowered_more, lowered_none}
use Rattle.heap_structures.proofs.cells.Cells.move_down.Goals as goal

pub loop-place-init : goal.loop-place-init
loop-place-init c s g vs ready room order =
    does_none s (2 * (c.args.first - c.args.first)) c.args.heap.now (c.args.self.now.spare ∷ [])
    c.args.self.now.array g (λ z. IsLowered z c.args.self.now c.args.first c.args.first vs) ready.has
    (lowered_none g c.args.self.now c.args.first c.args.first vs (omega arith) ready.cells)

pub returns-in_err-copy : goal.returns-in_err-copy
returns-in_err-copy c s g vs ready room order =
    let cells = c.args.self.now in
    let first = c.args.first in
    let place = c.loop-place.place in
    let d = c.loop-place.invariant s g vs ready room order in
    absurd (c.in_err-copy.ensures s d.graph d.holds.array
    (ready_then s (2 * (place - first)) 2 (2 * (c.args.end - first)) c.args.heap.now
    c.loop-place.heap (cells.spare ∷ []) cells g vs d.holds.array
    (λ z. IsLowered z cells first place vs) ready d (omega arith) d.holds.cells)
    (let l = d.holds.cells.size in let n = ready.cells.size in omega (arith, l, n, room))
    (let l = d.holds.cells.size in let n = ready.cells.size in omega (arith, l, n, room)))

pub loop-place-preserved : goal.loop-place-preserved
loop-place-preserved c s g vs ready room order =
    let cells = c.args.self.now in
    let first = c.args.first in
    let place = c.loop-place.place in
    let d = c.loop-place.invariant s g vs ready room order in
    let e = c.in_ok-copy.ensures s d.graph d.holds.array
    (ready_then s (2 * (place - first)) 2 (2 * (c.args.end - first)) c.args.heap.now
    c.loop-place.heap (cells.spare ∷ []) cells g vs d.holds.array
    (λ z. IsLowered z cells first place vs) ready d (omega arith) d.holds.cells)
    (let l = d.holds.cells.size in let n = ready.cells.size in omega (arith, l, n, room))
    (let l = d.holds.cells.size in let n = ready.cells.size in omega (arith, l, n, room)) in
    does_then s (2 * (place - first)) 2 (2 * ((place + 1) - first)) c.args.heap.now
    c.loop-place.heap c.copy.new.heap (cells.spare ∷ []) cells.array g
    (λ z. IsLowered z cells first place vs)
    (λ z. IsCells z cells (slice_set d.holds.array place (slice_index_or d.holds.array (place + 2) Nil)))
    (λ z. IsLowered z cells first (place + 1) vs) d e (omega arith)
    (λ is. lowered_more cells first c.args.end vs d.graph e.graph place d.holds (omega arith)
    (let n = ready.cells.size in omega (arith, n, room)) is)

pub returns : goal.returns
returns c s g vs ready room order =
    let cells = c.args.self.now in
    let same : c.loop-place.place ≡ c.args.end = omega arith in
    subst (λ p. Does s (2 * (p - c.args.first)) c.args.heap.now c.loop-place.heap (cells.spare ∷ [])
    cells.array g (λ z. IsLowered z cells c.args.first p vs)) same
    (c.loop-place.invariant s g vs ready room order)
