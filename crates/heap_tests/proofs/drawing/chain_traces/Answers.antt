use Rattle.std.proofs.Common.{◌≡◌, ◌∙◌, ◌++◌, ◌∷◌, [], List, ap, sym, subst, map, Vec, Global, arith}
use Rattle.never_heap.specs.declared.Command.{Command}
use Rattle.never_heap.specs.Jobs.{IsJobInBounds}
use Rattle.heap_tests.proofs.DrawnJobs.{one_trace}
use Rattle.heap_tests.proofs.drawing.chain_traces.Goals as goal

pub returns : goal.returns
returns c =
    subst (λ (vs : List (Vec Command Global)). IsJobInBounds c.args.c.now
    (map (λ (v : Vec Command Global). v.items) vs))
    (sym (c.in_ok-push.ensures.items
    ∙ ap (λ (vs : List (Vec Command Global)). vs ++ c.in_ok-chain.field-0 ∷ [])
    c.new-traces.ensures.items))
    (one_trace c.args.c.now c.in_ok-chain.field-0 c.requires.bounds c.requires.one
    c.in_ok-chain.ensures)
