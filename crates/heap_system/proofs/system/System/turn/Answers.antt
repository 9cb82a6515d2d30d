use Rattle.std.proofs.Common.{ap, ◌∙◌}
use Rattle.heap_system.specs.Systems.{Whole, traces_of}
use Rattle.heap_system.proofs.history.OrderKept.{none_on}
use Rattle.heap_system.proofs.work.TurnFacts.{turned_traces}
use Rattle.heap_system.proofs.system.System.turn.Goals as goal

pub invariant_of-self : goal.invariant_of-self
invariant_of-self c = none_on c.self.inside.config (record { words = c.self.inside.words; locals = c.self.inside.locals.items }) c.self.inside.order c.self.invariant c.in-None.is c.args.thread (record { words = c.event.new.words; locals = c.event.new.locals.items }) c.event.ensures.state

pub returns-in-None-clause-traces : goal.returns-in-None-clause-traces
returns-in-None-clause-traces c = ap traces_of c.event.ensures.state ∙ turned_traces c.self.inside.config c.args.thread (record { words = c.self.inside.words; locals = c.self.inside.locals.items }) ∙ ap (λ (w : Whole). traces_of w.state) c.self.view_is

pub returns-in-Some-clause-traces : goal.returns-in-Some-clause-traces
returns-in-Some-clause-traces c = ap traces_of c.ordered_event.ensures.state ∙ turned_traces c.self.inside.config c.args.thread (record { words = c.self.inside.words; locals = c.self.inside.locals.items }) ∙ ap (λ (w : Whole). traces_of w.state) c.self.view_is
