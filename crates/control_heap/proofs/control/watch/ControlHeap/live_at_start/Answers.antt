use Rattle.std.proofs.Common.{◌≡◌, false, sym, subst, ◌∙◌}
use Rattle.block_store.specs.Heaps.{heap_of}
use Rattle.block_store.specs.Phases.{is_sweep}
use Rattle.block_store.specs.Places.{Phase, extent}
use Rattle.control_heap.specs.Controls.{Control}
use Rattle.control_heap.proofs.GaugesRead.{long_is, start_told}
use Rattle.control_heap.proofs.control.watch.ControlHeap.live_at_start.Goals as goal

pub sweeps_in-requires-clause-there : goal.sweeps_in-requires-clause-there
sweeps_in-requires-clause-there c =
    let h : Control = record { config = c.self.inside.config; memory = c.self.inside.memory; words = c.self.inside.memory; thread = c.self.inside.thread; count = c.self.inside.count; objects = c.self.inside.objects } in
    long_is h c.self.invariant.0 c.self.invariant.1

pub returns-clause-most : goal.returns-clause-most
returns-clause-most c = λ r stands.
    let mark = subst (λ (x : Control). is_sweep (heap_of (extent x.config) x.words Phase) ≡ false) c.self.view_is (sym c.sweeps_in.ensures ∙ c.if-sweeps_in.false) in
    start_told c.args.self.now r stands _ c.blocks_in_use.ensures.rest mark
