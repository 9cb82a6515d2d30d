use Rattle.std.proofs.Common.{arith, refl, rules}
use Rattle.never_heap.proofs.MarksByStamp.{none_marked, none_marked_more, none_of_zeros}
use Rattle.never_heap.proofs.marks.Row.begin.Goals as goal

pub returns-in_default : goal.returns-in_default
returns-in_default c =
    none_of_zeros c.in_ok-vec.field-0.items c.args.objects
    (c.in_ok-vec.ensures.items_if_clones_equal (λ y is. search rules))

pub returns : goal.returns
returns c =
    let old = c.self.inside.stamps in
    let new = c.resize.new.self in
    let kept = c.in_ok-resize.ensures.by_index in
    none_marked new.items c.in-Some.next c.args.objects
    (omega (arith, c.in_ok-resize.ensures.len, new.ok.0))
    (none_marked_more old.items new.items c.self.inside.present c.in-Some.next c.args.objects
    (omega (arith, c.in-Some.ensures, c.checked_add.ensures))
    (omega (arith, c.in_ok-resize.ensures.len, new.ok.0)) c.self.invariant
    (λ k d l low. kept.0 k d l (omega (arith, low, old.ok.0)))
    (λ k d high l. kept.1 k d refl (omega (arith, high, old.ok.0)) l))
