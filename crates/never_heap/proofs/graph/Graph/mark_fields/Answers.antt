use Rattle.std.proofs.Common.{get_or, refl, sym, ◌∙◌}
use Rattle.block_store.specs.declared.Name.{Name}
use Rattle.never_heap.proofs.Rounds.{rounded_skip, rounded_more, rounded_as}
use Rattle.never_heap.proofs.graph.Graph.mark_fields.Goals as goal
use Rattle.never_heap.proofs.graph.Graph.mark_fields.Goals.{then-has, else-has}

pub loop-name-preserved : goal.loop-name-preserved
loop-name-preserved c =
    let none : Name = record { thread = 0; serial = 0 } in
    let name : Name = get_or c.args.list.now c.loop-name.name-index none in
    elim c.if-has.branch [
      | then-has w ↦
          rounded_as c.args.self.now.graph c.args.marks.now _ c.if-has.marks _ c.if-has.is_new _
          w.marks-is w.is_new-is
          (rounded_more c.args.self.now.graph c.args.marks.now c.loop-name.marks c.loop-name.is_new
          c.args.list.now c.loop-name.name-index name none c.loop-name-test.true refl
          c.loop-name.invariant
          w.spread-is_new.new.self w.spread-is_new.result w.cells.result.now
          (sym c.has.ensures ∙ w.if-has.true) w.cells.ensures
          w.spread-is_new.ensures.marks w.spread-is_new.ensures.places
          w.spread-is_new.ensures.unchanged)
      | else-has w ↦
          rounded_as c.args.self.now.graph c.args.marks.now _ c.if-has.marks _ c.if-has.is_new _
          w.marks-is w.is_new-is
          (rounded_skip c.args.self.now.graph c.args.marks.now c.loop-name.marks c.loop-name.is_new
          c.args.list.now c.loop-name.name-index name none c.loop-name-test.true refl
          c.loop-name.invariant
          (sym c.has.ensures ∙ w.if-has.false))
    ]
