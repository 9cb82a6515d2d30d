use Rattle.std.proofs.Common.{rules, arith}
use Rattle.heap_system.specs.Locals.{begun}
use Rattle.heap_system.specs.ThreadMemories.{longest}
use Rattle.control_heap.proofs.ServeLoop.{came_first, few, machine, may_run, came_more}
use Rattle.control_heap.proofs.control.serve_short.Goals as goal

pub goes_on-requires-clause-may : goal.goes_on-requires-clause-may
goes_on-requires-clause-may g c =
    let is = c.loop-run.invariant in
    may_run g.M.Memory.may g.M.Memory.acts g.M.Store.shows g.met.M.Store.allows g.met.M.Store.keeps
    c.args.memory.now (begun c.args.command c.args.thread.now) c.requires.begun longest is.events c.loop-run.memory c.loop-run.thread is.at is.goes

pub loop-run-preserved : goal.loop-run-preserved
loop-run-preserved g c =
    came_more g.M.Memory.may g.M.Memory.acts g.M.Store.shows g.met.M.Store.allows g.met.M.Store.keeps
    c.args.memory.now (begun c.args.command c.args.thread.now) c.requires.begun c.loop-run.memory c.loop-run.thread c.loop-run._run
    c.loop-run.invariant c.goes_on.new.memory c.goes_on.new.thread c.goes_on.result c.goes_on.ensures

pub loop-run-init : goal.loop-run-init
loop-run-init g c =
    came_first g.M.Memory.may g.M.Memory.acts g.M.Store.shows g.met.M.Store.allows g.met.M.Store.keeps
    c.args.memory.now (begun c.args.command c.args.thread.now) c.requires.begun c.begins.new.memory c.begins.new.thread c.begins.result c.begins.ensures

pub returns-then-done : goal.returns-then-done
returns-then-done g c =
    let is = c.loop-run.invariant in
    record {
      words = is.words;
      ran = is.ran;
      served = record { events = is.events; going = is.goes; after = is.at; done = search rules };
      counted = is.counted;
    }

pub unreachable-requires : goal.unreachable-requires
unreachable-requires g c =
    let is = c.loop-run.invariant in
    omega (arith, few (machine g.M.Store.shows c.args.memory.now (begun c.args.command c.args.thread.now)) c.requires.begun is.events is.goes, is.many, c.loop-run-test.false)
