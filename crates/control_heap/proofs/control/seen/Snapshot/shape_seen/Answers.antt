use Rattle.control_heap.specs.Images.{Image}
use Rattle.control_heap.proofs.SeenRead.{kind_seen_now}
use Rattle.control_heap.proofs.control.seen.Snapshot.shape_seen.Goals as goal

pub shape_at-requires-clause-bounds : goal.shape_at-requires-clause-bounds
shape_at-requires-clause-bounds c = c.self.invariant.bounds

pub shape_at-requires-clause-there : goal.shape_at-requires-clause-there
shape_at-requires-clause-there c = c.self.invariant.there

pub returns : goal.returns
returns c = λ r a has seen.
    let i : Image = record { config = c.self.inside.config; words = c.self.inside.words } in
    kind_seen_now i c.args.self.now c.self.view_is c.args.reference.block c.shape_at.result c.shape_at.ensures.is r a has seen
