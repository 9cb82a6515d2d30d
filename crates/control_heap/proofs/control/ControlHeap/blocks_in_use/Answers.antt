use Rattle.std.proofs.Common.{◌≡◌, ◌-◌, ap, ◌∙◌}
use Rattle.control_heap.specs.Controls.{Control}
use Rattle.control_heap.proofs.GaugesRead.{in_use_told, made_told}
use Rattle.control_heap.proofs.control.ControlHeap.blocks_in_use.Goals as goal

pub returns-clause-live : goal.returns-clause-live
returns-clause-live c = λ r stands.
    let blocks : c.from.result ≡ c.args.self.now.config.blocks = c.from.ensures ∙ ap (λ (h : Control). h.config.blocks) c.self.view_is in
    in_use_told c.args.self.now r stands _ (c.saturating_sub.ensures ∙ (λ i. blocks i - c.free_blocks.ensures i))

pub returns-clause-made : goal.returns-clause-made
returns-clause-made c = λ r stands.
    let blocks : c.from.result ≡ c.args.self.now.config.blocks = c.from.ensures ∙ ap (λ (h : Control). h.config.blocks) c.self.view_is in
    made_told c.args.self.now r stands _ (c.saturating_sub.ensures ∙ (λ i. blocks i - c.free_blocks.ensures i))
