use Rattle.std.proofs.Common.{◌≡◌, ◌+◌, Result, Ok, Err, IfOk, OnOk}
use Rattle.never_heap.specs.declared.Command.{Command}
use Rattle.never_heap.specs.declared.Reply.{Reply}
use Rattle.never_heap.specs.Bounds.{IsCommandInBounds}
use Rattle.heap_system.specs.Lives.{objects_of}
use Rattle.control_heap.specs.declared.control.Refused.{Refused}
use Rattle.control_heap.specs.Controls.{Control, HasLeft, HasAnswered, asked}
use Rattle.control_heap.specs.graph_view.RunsOfCommands.{HasDone}
use Rattle.control_heap.proofs.graph_view.GraphAnswers.{follows_ok, goes_ok, never_ok}
use Rattle.control_heap.proofs.graph_view.ask.Goals as goal

pub returns-clause-shown : goal.returns-clause-shown
returns-clause-shown c =
    follows_ok c.histories_are_right.ensures.legal c.histories_are_right.ensures.licensed
    c.args.heap.now c.ask.new.self c.args.command c.ask.result c.ask.ensures.config
    c.ask.ensures.answered

pub returns-clause-never : goal.returns-clause-never
returns-clause-never c =
    never_ok c.histories_are_right.ensures.legal c.histories_are_right.ensures.licensed
    c.args.heap.now c.ask.new.self c.args.command c.ask.result c.ask.ensures.config
    c.ask.ensures.answered

pub returns-clause-goes : goal.returns-clause-goes
returns-clause-goes c =
    goes_ok c.histories_are_right.ensures.legal c.histories_are_right.ensures.licensed
    c.args.heap.now c.ask.new.self c.args.command c.ask.result c.ask.ensures.config
    c.ask.ensures.answered

done_ok : (h n : Control) (k : Command) (a : Result Reply Refused) → n.config ≡ h.config
    → OnOk a (IsCommandInBounds h.config k × HasLeft h k)
    → OnOk a (asked n ≡ asked h + 1) → OnOk a (n.objects ≡ h.objects + objects_of k)
    → IfOk a (λ reply. HasAnswered h k reply n) → OnOk a (HasDone h k n)
done_ok h n k (Ok reply) same can more objects answered = record {
  config = same;
  can = can;
  count = more;
  objects = objects;
  reply = reply;
  answered = answered;
}
done_ok h n k (Err e) same can more objects answered = tt

pub returns-clause-done : goal.returns-clause-done
returns-clause-done c =
    done_ok c.args.heap.now c.ask.new.self c.args.command c.ask.result c.ask.ensures.config
    c.ask.ensures.can c.ask.ensures.one_more c.ask.ensures.objects c.ask.ensures.answered
