use Rattle.std.proofs.Common.{◌∙◌, ◌<◌, drop, length, arith}
use Rattle.std.proofs.lemmas.List.{drop_all}
use Rattle.control_heap.specs.graph_view.ShownGraph.{HasMetNoFull, Shows}
use Rattle.control_heap.proofs.graph_view.Leading.{done_on, leads_on, led, refused_on, replied, replied_on}
use Rattle.control_heap.proofs.graph_view.ask_all.Goals as goal

pub loop-command-preserved : goal.loop-command-preserved
loop-command-preserved c =
    let low : c.loop-command.command-index < length c.args.commands.now = omega (arith, c.loop-command-test.true, c.loop-command.auto.command-index-end) in
    let is = c.in_ok-reply.ensures in
    let before = c.loop-command.invariant in record {
      config = is.config ∙ before.config;
      leads = leads_on Shows c.args.heap.now c.loop-command.heap c.ask.new.heap c.args.commands.now before.config c.loop-command.reply c.in_ok-reply.reply c.loop-command.command-index _ low is.shown before.leads;
      never = leads_on HasMetNoFull c.args.heap.now c.loop-command.heap c.ask.new.heap c.args.commands.now before.config c.loop-command.reply c.in_ok-reply.reply c.loop-command.command-index _ low is.never before.never;
      replied = replied_on c.args.heap.now c.loop-command.heap c.ask.new.heap c.args.commands.now c.loop-command.reply c.in_ok-reply.reply c.loop-command.command-index _ low is.done is.answered before.replied;
      done = done_on c.args.heap.now c.loop-command.heap c.ask.new.heap c.args.commands.now c.loop-command.command-index _ low is.done before.done;
      refused = refused_on c.args.heap.now c.loop-command.heap c.ask.new.heap c.args.commands.now c.loop-command.command-index _ low is.done before.refused;
    }

pub returns-clause-never : goal.returns-clause-never
returns-clause-never c =
    led HasMetNoFull c.args.heap.now c.loop-command.heap c.args.commands.now c.loop-command.reply (drop c.loop-command.command-index c.args.commands.now) (drop_all c.loop-command.command-index c.args.commands.now (omega (arith, c.loop-command-test.false))) c.loop-command.invariant.never

pub returns-clause-replied : goal.returns-clause-replied
returns-clause-replied c =
    replied c.args.heap.now c.loop-command.heap c.args.commands.now c.loop-command.reply (drop c.loop-command.command-index c.args.commands.now) (drop_all c.loop-command.command-index c.args.commands.now (omega (arith, c.loop-command-test.false))) c.loop-command.invariant.replied
