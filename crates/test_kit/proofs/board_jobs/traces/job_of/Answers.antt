use Rattle.std.proofs.Common.{◌∙◌, List, [], ◌∷◌, map, refl, Vec, Global, arith}
use Rattle.std.specs.List.{AllByRecursion}
use Rattle.std.proofs.lemmas.List.{length-map}
use Rattle.std.proofs.lemmas.List.Elements.{recursion_from_All}
use Rattle.never_heap.specs.declared.Command.{Command}
use Rattle.never_heap.specs.Jobs.{IsTraceInBounds}
use Rattle.heap_system.proofs.Lemmas.{job_of_text}
use Rattle.test_kit.proofs.board_jobs.traces.job_of.Goals as goal

abbrev items_of : Vec Command Global → List Command
items_of v = v.items

mapped : {A B : Type 0} (f : A → B) (P : B → Type 0) (xs : List A) → AllByRecursion (λ x. P (f x)) xs → AllByRecursion P (map f xs)
mapped f P [] all = tt
mapped f P (x ∷ xs) all = (all.0, mapped f P xs all.1)

pub returns : goal.returns
returns g c = job_of_text c.args.c.now (map items_of c.loop-thread.traces.items)
    (record {
      config = c.if-not-in_bounds.ensures.0 refl;
      threads = length-map c.loop-thread.traces.items items_of ∙ omega (arith, c.loop-thread.invariant.0);
      each = mapped items_of (IsTraceInBounds c.args.c.now) c.loop-thread.traces.items (recursion_from_All (λ v. IsTraceInBounds c.args.c.now v.items) c.loop-thread.traces.items c.loop-thread.invariant.1);
    })
    c.in-Ok.ensures.0
