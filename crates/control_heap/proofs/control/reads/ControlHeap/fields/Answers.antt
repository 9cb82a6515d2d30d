use Rattle.std.proofs.Common.{ap, sym, ◌∙◌}
use Rattle.control_heap.specs.Controls.{Control}
use Rattle.control_heap.specs.Readings.{block_read}
use Rattle.control_heap.proofs.GaugesRead.{bounds_is, long_is}
use Rattle.control_heap.proofs.FieldsRead.{fields_now, none_now}
use Rattle.control_heap.proofs.control.reads.ControlHeap.fields.Goals as goal

pub register_word-requires-clause-bounds : goal.register_word-requires-clause-bounds
register_word-requires-clause-bounds c =
    let h : Control = record { config = c.self.inside.config; memory = c.self.inside.memory; words = c.self.inside.memory; thread = c.self.inside.thread; count = c.self.inside.count; objects = c.self.inside.objects } in
    bounds_is h c.self.invariant.0 c.self.invariant.1

pub register_word-requires-clause-there : goal.register_word-requires-clause-there
register_word-requires-clause-there c =
    let h : Control = record { config = c.self.inside.config; memory = c.self.inside.memory; words = c.self.inside.memory; thread = c.self.inside.thread; count = c.self.inside.count; objects = c.self.inside.objects } in
    long_is h c.self.invariant.0 c.self.invariant.1

pub fields_at-requires-clause-bounds : goal.fields_at-requires-clause-bounds
fields_at-requires-clause-bounds c =
    let h : Control = record { config = c.self.inside.config; memory = c.self.inside.memory; words = c.self.inside.memory; thread = c.self.inside.thread; count = c.self.inside.count; objects = c.self.inside.objects } in
    bounds_is h c.self.invariant.0 c.self.invariant.1

pub fields_at-requires-clause-there : goal.fields_at-requires-clause-there
fields_at-requires-clause-there c =
    let h : Control = record { config = c.self.inside.config; memory = c.self.inside.memory; words = c.self.inside.memory; thread = c.self.inside.thread; count = c.self.inside.count; objects = c.self.inside.objects } in
    long_is h c.self.invariant.0 c.self.invariant.1

pub returns-then-block-eq0-clause-none : goal.returns-then-block-eq0-clause-none
returns-then-block-eq0-clause-none c = λ r stands.
    let h : Control = record { config = c.self.inside.config; memory = c.self.inside.memory; words = c.self.inside.memory; thread = c.self.inside.thread; count = c.self.inside.count; objects = c.self.inside.objects } in
    none_now h c.args.self.now c.self.view_is c.args.s c.requires (sym (ap block_read c.register_word.ensures) ∙ sym c.block_in-block.ensures ∙ c.if-block-eq0.true) r stands

pub returns-clause-found : goal.returns-clause-found
returns-clause-found c = λ r stands.
    let h : Control = record { config = c.self.inside.config; memory = c.self.inside.memory; words = c.self.inside.memory; thread = c.self.inside.thread; count = c.self.inside.count; objects = c.self.inside.objects } in
    fields_now h c.args.self.now c.self.view_is c.args.s c.requires c.block_in-block.result (c.block_in-block.ensures ∙ ap block_read c.register_word.ensures) c.if-block-eq0.false _ c.in_ok-fields.ensures r stands
