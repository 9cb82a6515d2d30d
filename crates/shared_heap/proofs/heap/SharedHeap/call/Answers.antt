use Rattle.std.proofs.Common.{IfOk, subst, sym}
use Rattle.control_heap.specs.Calls.{Says}
use Rattle.control_heap.proofs.Fitting.{outcome_told, told_call}
use Rattle.shared_heap.specs.Calls.{HasAsked, WasRefused}
use Rattle.shared_heap.proofs.Fitting.{all_asked, all_fit, all_refused}
use Rattle.shared_heap.proofs.heap.SharedHeap.call.Goals as goal

pub returns-clause-returned : goal.returns-clause-returned
returns-clause-returned g c =
    let fits = all_fit c.args.who.now c.args.command c.ask.new.who c.ask.result c.ask.ensures.answered in
    let done = all_asked c.args.who.now c.args.command c.ask.new.who c.ask.result c.ask.ensures.can c.ask.ensures.answered c.ask.ensures.made c.ask.ensures.in_time in
    let refused = all_refused c.args.who.now c.args.command c.ask.new.who c.ask.result c.ask.ensures.refused c.ask.ensures.unchanged in
    told_call (λ a. HasAsked c.args.who.now c.args.command a c.ask.new.who) (WasRefused c.args.who.now c.args.command c.ask.new.who) c.args.command c.ask.result _ c.outcome_of.ensures fits done refused

pub returns-clause-says : goal.returns-clause-says
returns-clause-says g c =
    let fits = all_fit c.args.who.now c.args.command c.ask.new.who c.ask.result c.ask.ensures.answered in
    let done = all_asked c.args.who.now c.args.command c.ask.new.who c.ask.result c.ask.ensures.can c.ask.ensures.answered c.ask.ensures.made c.ask.ensures.in_time in
    let refused = all_refused c.args.who.now c.args.command c.ask.new.who c.ask.result c.ask.ensures.refused c.ask.ensures.unchanged in
    subst (λ y. IfOk y (Says c.args.command)) (sym c.outcome_of.ensures) (outcome_told (λ a. HasAsked c.args.who.now c.args.command a c.ask.new.who) (WasRefused c.args.who.now c.args.command c.ask.new.who) c.args.command c.ask.result fits done refused).1
