use Rattle.std.proofs.Common.{ap, subst, sym, ◌∙◌}
use Rattle.heap_system.specs.Locals.{LocalState, begun, is_done, is_rest}
use Rattle.heap_system.specs.ThreadMemories.{HasRunOn, MayRun, longest}
use Rattle.control_heap.proofs.ServeLoop.{begins_undone, machine, may_begin}
use Rattle.control_heap.proofs.control.begins_any.Goals as goal

pub begin-requires : goal.begin-requires
begin-requires g c =
    let is = c.requires.begins in
    record {
      one = is.one;
      rest = ap is_rest is.rest;
      settled = is.settled;
      bounds = is.bounds;
      units = is.units;
      objects = is.objects;
    }

pub goes_on-requires : goal.goes_on-requires
goes_on-requires g c = record {
  «open» = ap is_done c.begin.ensures ∙ begins_undone (machine g.M.Store.shows c.args.memory.now (begun c.args.command c.args.thread.now)) c.requires.begun;
  may = subst (λ (y : LocalState). MayRun g.M.Memory.may g.M.Memory.acts longest c.args.memory.now tt y) (sym c.begin.ensures)
      (may_begin g.M.Memory.may g.M.Memory.acts g.M.Store.shows g.met.M.Store.allows g.met.M.Store.keeps
      c.args.memory.now (begun c.args.command c.args.thread.now) c.requires.begun);
}

pub returns : goal.returns
returns g c =
    subst (λ (y : LocalState). HasRunOn g.M.Memory.acts tt c.args.memory.now y c.goes_on.new.memory c.goes_on.new.thread c.goes_on.result)
    c.begin.ensures c.goes_on.ensures
