use Rattle.std.proofs.Common.{ap, ◌∙◌}
use Rattle.block_store.specs.Heaps.{heap_of}
use Rattle.block_store.specs.Places.{extent}
use Rattle.control_heap.specs.Controls.{Control}
use Rattle.control_heap.specs.Readings.{value_read}
use Rattle.control_heap.proofs.GaugesRead.{bounds_is, long_is}
use Rattle.control_heap.proofs.FieldsRead.{register_now}
use Rattle.control_heap.proofs.control.reads.ControlHeap.register.Goals as goal

pub register_word-word-requires-clause-bounds : goal.register_word-word-requires-clause-bounds
register_word-word-requires-clause-bounds c =
    let h : Control = record { config = c.self.inside.config; memory = c.self.inside.memory; words = c.self.inside.memory; thread = c.self.inside.thread; count = c.self.inside.count; objects = c.self.inside.objects } in
    bounds_is h c.self.invariant.0 c.self.invariant.1

pub register_word-word-requires-clause-there : goal.register_word-word-requires-clause-there
register_word-word-requires-clause-there c =
    let h : Control = record { config = c.self.inside.config; memory = c.self.inside.memory; words = c.self.inside.memory; thread = c.self.inside.thread; count = c.self.inside.count; objects = c.self.inside.objects } in
    long_is h c.self.invariant.0 c.self.invariant.1

pub value_of-requires-clause-bounds : goal.value_of-requires-clause-bounds
value_of-requires-clause-bounds c =
    let h : Control = record { config = c.self.inside.config; memory = c.self.inside.memory; words = c.self.inside.memory; thread = c.self.inside.thread; count = c.self.inside.count; objects = c.self.inside.objects } in
    bounds_is h c.self.invariant.0 c.self.invariant.1

pub value_of-requires-clause-there : goal.value_of-requires-clause-there
value_of-requires-clause-there c =
    let h : Control = record { config = c.self.inside.config; memory = c.self.inside.memory; words = c.self.inside.memory; thread = c.self.inside.thread; count = c.self.inside.count; objects = c.self.inside.objects } in
    long_is h c.self.invariant.0 c.self.invariant.1

pub returns : goal.returns
returns c = λ r stands.
    let h : Control = record { config = c.self.inside.config; memory = c.self.inside.memory; words = c.self.inside.memory; thread = c.self.inside.thread; count = c.self.inside.count; objects = c.self.inside.objects } in
    register_now h c.args.self.now c.self.view_is _ c.args.s c.requires (c.value_of.ensures ∙ ap (value_read (heap_of (extent h.config) h.words)) c.register_word-word.ensures) r stands
