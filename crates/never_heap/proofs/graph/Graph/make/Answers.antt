use Rattle.std.proofs.Common.{ap}
use Rattle.never_heap.specs.Graphs.{Graph, WideGraph, nils}
use Rattle.never_heap.specs.Kinds.{kind_of}
use Rattle.never_heap.proofs.MadeObject.{made_seen, with_both}
use Rattle.never_heap.proofs.graph.Graph.make.Goals as goal

pub returns-clause-made : goal.returns-clause-made
returns-clause-made c =
    let inside : Graph = record {
      shared = c.self.inside.shared;
      mutators = c.self.inside.mutators.items;
    } in
    let seen : WideGraph = record { width = c.self.inside.width; graph = inside } in
    let steps = made_seen c.args.self.now.graph inside c.args.thread c.args.d c.count.result
    (kind_of c.args.kind)
    (nils c.args.fields) c.in_ok-object.object c.index_mut-mutator.result.now c.add.new.self
    c.set_register.new.self
    (ap (λ (x : WideGraph). x.graph) c.self.view_is) c.requires.thread
    c.index_mut-mutator.ensures.value c.count.ensures.value c.in_ok-object.ensures
    c.in_ok-add.ensures.added c.in_ok-add.ensures.registers c.set_register.ensures.registers
    c.set_register.ensures.objects in
    (steps.0, with_both seen c.args.self.now _ _ c.self.view_is steps.1)
