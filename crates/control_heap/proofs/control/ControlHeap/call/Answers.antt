use Rattle.control_heap.specs.Calls.{HasAsked, WasRefused}
use Rattle.control_heap.proofs.Fitting.{all_asked, all_refused, told_call}
use Rattle.control_heap.proofs.control.ControlHeap.call.Goals as goal

pub returns-clause-returned : goal.returns-clause-returned
returns-clause-returned g c =
    let done = all_asked g.M.Memory.acts c.args.self.now c.ask.new.self c.args.command c.ask.result c.ask.ensures.can c.ask.ensures.one_more c.ask.ensures.objects c.ask.ensures.answered c.ask.ensures.made in
    let refused = all_refused g.M.Memory.acts c.args.self.now c.ask.new.self c.args.command c.ask.result c.ask.ensures.refused c.ask.ensures.unchanged in
    told_call (λ a. HasAsked g.M.Memory.acts c.args.self.now c.args.command a c.ask.new.self) (WasRefused c.args.self.now c.args.command c.ask.new.self) c.args.command c.ask.result _ c.outcome_of.ensures c.ask.ensures.fits done refused
