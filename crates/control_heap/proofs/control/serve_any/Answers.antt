use Rattle.std.proofs.Common.{ap, subst, sym, rules, arith}
use Rattle.heap_system.specs.Locals.{LocalState, is_rest, begun}
use Rattle.heap_system.specs.ThreadMemories.{longest}
use Rattle.control_heap.proofs.ServeLoop.{Came, not_yet, few, machine, may_run, came_more}
use Rattle.control_heap.proofs.control.serve_any.Goals as goal

pub begin-requires : goal.begin-requires
begin-requires g c =
    let is = c.requires.begins in
    record {
      one = is.one;
      rest = ap is_rest is.rest;
      settled = is.settled;
      bounds = is.bounds;
      units = is.units;
      objects = is.objects;
    }

pub run-requires-clause-may : goal.run-requires-clause-may
run-requires-clause-may g c =
    let is = c.loop-run.invariant in
    may_run g.M.Memory.may g.M.Memory.acts g.M.Store.shows g.met.M.Store.allows g.met.M.Store.keeps
    c.args.memory.now (begun c.args.command c.args.thread.now) c.requires.begun longest is.events c.loop-run.memory c.loop-run.thread is.at is.goes

pub loop-run-preserved : goal.loop-run-preserved
loop-run-preserved g c =
    came_more g.M.Memory.may g.M.Memory.acts g.M.Store.shows g.met.M.Store.allows g.met.M.Store.keeps
    c.args.memory.now (begun c.args.command c.args.thread.now) c.requires.begun c.loop-run.memory c.loop-run.thread c.loop-run._run
    c.loop-run.invariant c.run.new.memory c.run.new.self c.run.result c.run.ensures

pub loop-run-init : goal.loop-run-init
loop-run-init g c =
    subst (λ (y : LocalState). Came g.M.Memory.acts g.M.Store.shows c.args.memory.now (begun c.args.command c.args.thread.now) c.args.memory.now y 0) (sym c.begin.ensures)
    (not_yet g.M.Memory.may g.M.Memory.acts g.M.Store.shows g.met.M.Store.allows g.met.M.Store.keeps
    c.args.memory.now (begun c.args.command c.args.thread.now) c.requires.begun)

pub returns-then-done : goal.returns-then-done
returns-then-done g c =
    let is = c.loop-run.invariant in
    record {
      words = is.words;
      ran = is.ran;
      served = record { events = is.events; going = is.goes; after = is.at; done = search rules };
      counted = is.counted;
    }

pub unreachable-requires : goal.unreachable-requires
unreachable-requires g c =
    let is = c.loop-run.invariant in
    omega (arith, few (machine g.M.Store.shows c.args.memory.now (begun c.args.command c.args.thread.now)) c.requires.begun is.events is.goes, is.many, c.loop-run-test.false)
