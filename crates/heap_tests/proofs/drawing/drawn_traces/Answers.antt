use Rattle.std.proofs.Common.{◌≡◌, ℕ, ◌+◌, ◌∙◌, List, ap, sym, subst, length, map, Vec, Global, arith}
use Rattle.std.proofs.lemmas.List.{length_push, length-map}
use Rattle.std.specs.List.{AllByRecursion}
use Rattle.never_heap.specs.declared.Command.{Command}
use Rattle.never_heap.specs.Jobs.{IsTraceInBounds}
use Rattle.heap_tests.proofs.DrawnJobs.{each_more}
use Rattle.heap_tests.proofs.drawing.drawn_traces.Goals as goal

pub loop-thread-preserved : goal.loop-thread-preserved
loop-thread-preserved c = record {
  many = ap length c.in_ok-push.ensures.items
      ∙ length_push c.loop-thread.traces.items c.in_ok-drawn_trace.field-0
      ∙ ap (λ (n : ℕ). n + 1) c.loop-thread.invariant.many;
  each = subst (λ (vs : List (Vec Command Global)). AllByRecursion (IsTraceInBounds c.args.c.now)
      (map (λ (v : Vec Command Global). v.items) vs)) (sym c.in_ok-push.ensures.items)
      (each_more c.args.c.now c.loop-thread.traces.items c.in_ok-drawn_trace.field-0
      c.loop-thread.invariant.each c.in_ok-drawn_trace.ensures);
}

pub returns : goal.returns
returns c = record {
  config = c.requires;
  threads = length-map c.loop-thread.traces.items (λ (v : Vec Command Global). v.items)
      ∙ c.loop-thread.invariant.many ∙ omega arith;
  each = c.loop-thread.invariant.each;
}
