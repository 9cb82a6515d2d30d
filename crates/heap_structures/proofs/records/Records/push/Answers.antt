use Rattle.std.proofs.Common.{◌≡◌, ◌<◌, ◌^◌, ◌++◌, ◌∷◌, [], map, refl, subst, MatchResult, arith}
use Rattle.block_store.specs.declared.Value.TheVariants.{Nil, Ref}
use Rattle.heap_structures.specs.Circles.{last_of}
use Rattle.heap_structures.specs.declared.records.Records.{Records}
use Rattle.heap_structures.specs.Records.{Grows, IsRecords, NotPushed}
use Rattle.heap_structures.proofs.cell_arrays.Chained.{from_err, ready_less, ready_next}
use Rattle.heap_structures.proofs.rings.NumberRings.{box, box_made, not_made, pushed, ring_there, small_box}
use Rattle.heap_structures.proofs.records.Records.push.Goals as goal

pub returns-in_err-array-clause-shows : goal.returns-in_err-array-clause-shows
returns-in_err-array-clause-shows c s g ns has is may =
    let ring = c.args.self.now.ring.cells in
    let ok = c.may_load.ensures.yes c.in_ok-admit.ensures.admitted.0 in
    let f = c.in_err-array.field-0.0 in
    from_err c.from_residual-in_err-array.result f _ _ c.from_residual-in_err-array.ensures.1 (
      not_made s c.args.heap.now _ ring c.args.d g f is.ring.cells.placed.spare ok.2
          (c.in_err-array.ensures.opens s g ring.spare has
          (small_box s c.args.heap.now c.args.heap.now g c.args.self.now ns is c.args.d 0 (omega
          arith)
          ring.array ok.0 ok.2 has may)),
      refl,
    )

pub returns-in_err-count_in-clause-shows : goal.returns-in_err-count_in-clause-shows
returns-in_err-count_in-clause-shows c s g ns has is may =
    let h = c.args.heap.now in
    let y = c.nil_array.new.heap in
    let r = c.args.self.now in
    let ok = c.may_load.ensures.yes c.in_ok-admit.ensures.admitted.0 in
    let low : c.from.result < 2 ^ 32 = omega (arith, c.from.ensures, c.ranges.number.fits) in
    let b = box s h y g r ns is c.args.d c.from.result low c.in_ok-array.array in
    let m = box_made s h y g r ns is c.args.d c.from.result low c.in_ok-array.array ok.0 ok.2 has
    may
    c.in_ok-admit.ensures.admitted.1 c.in_ok-array.ensures.left
    (c.in_ok-array.ensures.opens s g r.ring.cells.spare has) in
    absurd (c.in_err-count_in.ensures s m.0.graph (Nil ∷ [])
    (ready_less s 3 1 y b m.0.graph (Nil ∷ []) (omega arith) m.1)
    (omega (arith, c.from.ensures, c.ranges.number.fits)))

pub returns-in_err-put-clause-shows : goal.returns-in_err-put-clause-shows
returns-in_err-put-clause-shows c s g ns has is may =
    let h = c.args.heap.now in
    let y = c.nil_array.new.heap in
    let r = c.args.self.now in
    let ok = c.may_load.ensures.yes c.in_ok-admit.ensures.admitted.0 in
    let low : c.from.result < 2 ^ 32 = omega (arith, c.from.ensures, c.ranges.number.fits) in
    let b = box s h y g r ns is c.args.d c.from.result low c.in_ok-array.array in
    let m = box_made s h y g r ns is c.args.d c.from.result low c.in_ok-array.array ok.0 ok.2 has
    may
    c.in_ok-admit.ensures.admitted.1 c.in_ok-array.ensures.left
    (c.in_ok-array.ensures.opens s g r.ring.cells.spare has) in
    let e = c.in_ok-count_in.ensures s m.0.graph (Nil ∷ [])
    (ready_less s 3 1 y b m.0.graph (Nil ∷ []) (omega arith) m.1)
    (omega (arith, c.from.ensures, c.ranges.number.fits)) in
    absurd (c.in_err-put.ensures s e.graph (Nil ∷ [])
    (ready_less s 2 1 c.count_in.new.heap b e.graph (Nil ∷ []) (omega arith)
    (ready_next s 1 2 y c.count_in.new.heap (b.spare ∷ []) b m.0.graph (Nil ∷ []) (Nil ∷ []) _ m.1 e
    e.holds.0)) (omega arith) is.ring.cells.placed.spare)

pub returns-clause-shows : goal.returns-clause-shows
returns-clause-shows c s g ns has is may =
    let h = c.args.heap.now in
    let y = c.nil_array.new.heap in
    let r = c.args.self.now in
    let cells = r.ring.cells in
    let ok = c.may_load.ensures.yes c.in_ok-admit.ensures.admitted.0 in
    let low : c.from.result < 2 ^ 32 = omega (arith, c.from.ensures, c.ranges.number.fits) in
    let b = box s h y g r ns is c.args.d c.from.result low c.in_ok-array.array in
    let m = box_made s h y g r ns is c.args.d c.from.result low c.in_ok-array.array ok.0 ok.2 has
    may
    c.in_ok-admit.ensures.admitted.1 c.in_ok-array.ensures.left
    (c.in_ok-array.ensures.opens s g r.ring.cells.spare has) in
    let e = c.in_ok-count_in.ensures s m.0.graph (Nil ∷ [])
    (ready_less s 3 1 y b m.0.graph (Nil ∷ []) (omega arith) m.1)
    (omega (arith, c.from.ensures, c.ranges.number.fits)) in
    let f = c.in_ok-put.ensures s e.graph (Nil ∷ [])
    (ready_less s 2 1 c.count_in.new.heap b e.graph (Nil ∷ []) (omega arith)
    (ready_next s 1 2 y c.count_in.new.heap (b.spare ∷ []) b m.0.graph (Nil ∷ []) (Nil ∷ []) _ m.1 e
    e.holds.0)) (omega arith) is.ring.cells.placed.spare in
    let q : Records = record { ring = c.push.new.self } in
    subst (λ k. MatchResult c.push.result
    (λ u. Grows s h c.push.new.heap c.args.d cells g
    (λ z. IsRecords z q (last_of cells.size (ns ++ k ∷ []))))
    (λ f. NotPushed s h c.push.new.heap cells c.args.d g f × (q ≡ r))) c.from.ensures
    (pushed s h y g r ns is c.args.d c.from.result low c.in_ok-array.array m.0 c.count_in.new.heap
    c.put.new.heap e f c.in_ok-admit.ensures.admitted.1 c.in_ok-array.ensures.left ok.0 ok.1
    c.push.new.heap q c.push.ensures.same _ (q ≡ r) c.push.result
    (c.push.ensures.shows s f.graph (map Ref is.names) f.has
    (ring_there s h y g r ns is c.args.d c.from.result low c.in_ok-array.array m.0
    c.count_in.new.heap c.put.new.heap e f ok.1)))
