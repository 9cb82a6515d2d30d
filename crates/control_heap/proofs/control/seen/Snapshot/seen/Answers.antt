use Rattle.std.proofs.Common.{ap, ◌∙◌}
use Rattle.block_store.specs.Heaps.{heap_of}
use Rattle.block_store.specs.Places.{extent}
use Rattle.control_heap.specs.Images.{Image}
use Rattle.control_heap.specs.Seen.{word_seen}
use Rattle.control_heap.proofs.SeenRead.{register_seen_now}
use Rattle.control_heap.proofs.control.seen.Snapshot.seen.Goals as goal

pub register_word-requires-clause-bounds : goal.register_word-requires-clause-bounds
register_word-requires-clause-bounds c = c.self.invariant.bounds

pub register_word-requires-clause-there : goal.register_word-requires-clause-there
register_word-requires-clause-there c = c.self.invariant.there

pub seen_at-requires-clause-bounds : goal.seen_at-requires-clause-bounds
seen_at-requires-clause-bounds c = c.self.invariant.bounds

pub seen_at-requires-clause-there : goal.seen_at-requires-clause-there
seen_at-requires-clause-there c = c.self.invariant.there

pub returns-clause-value : goal.returns-clause-value
returns-clause-value c = λ r has.
    let i : Image = record { config = c.self.inside.config; words = c.self.inside.words } in
    (register_seen_now i c.args.self.now c.self.view_is c.args.s c.requires c.seen_at.result (c.seen_at.ensures ∙ ap (word_seen (heap_of (extent i.config) i.words)) c.register_word.ensures) r has).0

pub returns-clause-block : goal.returns-clause-block
returns-clause-block c = λ r has.
    let i : Image = record { config = c.self.inside.config; words = c.self.inside.words } in
    (register_seen_now i c.args.self.now c.self.view_is c.args.s c.requires c.seen_at.result (c.seen_at.ensures ∙ ap (word_seen (heap_of (extent i.config) i.words)) c.register_word.ensures) r has).1
