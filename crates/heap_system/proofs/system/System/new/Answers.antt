use Rattle.std.proofs.Common.{◌≡◌, ◌∷◌, [], ◌++◌, List, length, map, refl, sym, ap, subst, ◌∙◌, append-nil, arith, Vec, Global}
use Rattle.std.specs.Vec.Iter.{into_iter_items}
use Rattle.never_heap.specs.declared.Command.{Command}
use Rattle.rate_plan.proofs.Plans.{found}
use Rattle.rate_plan.proofs.Rates.{one_rate}
use Rattle.heap_system.specs.Locals.{at_start}
use Rattle.heap_system.specs.Machines.{starts_from, IsOpening}
use Rattle.heap_system.proofs.openings.SystemStart.{AreAtStart, spaces, thread_more, opened_traces, opened_reached, number_low, trace_fits, splits_on}
use Rattle.heap_system.proofs.system.System.new.Goals as goal

-- the trace of a vector
abbrev items_of : Vec Command Global → List Command
items_of v = v.items

nothing_left : {X : Type 0} (l : List X) → length l ≡ 0 → l ≡ []
nothing_left [] h = refl
nothing_left (x ∷ xs) h = absurd (omega arith)

pub overflow_cast-thread : goal.overflow_cast-thread
overflow_cast-thread c = omega (arith, number_low items_of c.args.c c.args.traces.items c.loop-trace.yielded (into_iter_items c.loop-trace.trace-iterator) (into_iter_items c.next.new.self) c.in-Some.trace c.loop-trace.locals.items c.len-thread.result c.requires c.loop-trace.invariant.0 c.in-Some.ensures.steps.0 c.loop-trace.invariant.2 (c.len-thread.ensures ∙ omega (arith, c.loop-trace.locals.ok.0)), c.requires.bounds.threads)

pub new-requires-clause-thread : goal.new-requires-clause-thread
new-requires-clause-thread c = number_low items_of c.args.c c.args.traces.items c.loop-trace.yielded (into_iter_items c.loop-trace.trace-iterator) (into_iter_items c.next.new.self) c.in-Some.trace c.loop-trace.locals.items c.len-thread.result c.requires c.loop-trace.invariant.0 c.in-Some.ensures.steps.0 c.loop-trace.invariant.2 (c.len-thread.ensures ∙ omega (arith, c.loop-trace.locals.ok.0))

pub new-requires-clause-trace : goal.new-requires-clause-trace
new-requires-clause-trace c = trace_fits items_of c.args.c c.args.traces.items c.loop-trace.yielded (into_iter_items c.loop-trace.trace-iterator) (into_iter_items c.next.new.self) c.in-Some.trace c.loop-trace.locals.items c.len-thread.result c.requires c.loop-trace.invariant.0 c.in-Some.ensures.steps.0 c.loop-trace.invariant.2 (c.len-thread.ensures ∙ omega (arith, c.loop-trace.locals.ok.0))

pub loop-trace-preserved : goal.loop-trace-preserved
loop-trace-preserved c =
    let long : c.len-thread.result ≡ length c.loop-trace.locals.items = c.len-thread.ensures ∙ omega (arith, c.loop-trace.locals.ok.0) in (
      splits_on items_of c.args.c c.args.traces.items c.loop-trace.yielded (into_iter_items c.loop-trace.trace-iterator) (into_iter_items c.next.new.self) c.in-Some.trace c.loop-trace.locals.items c.len-thread.result c.requires c.loop-trace.invariant.0 c.in-Some.ensures.steps.0 c.loop-trace.invariant.2 long,
      (let was = c.loop-trace.invariant.1 in let gone = c.in-Some.ensures.steps.1 in let short = ap length c.in-Some.ensures.steps.0 in omega arith),
      λ rate is. subst (λ ls. AreAtStart c.args.c ls (map items_of (c.loop-trace.yielded ++ c.in-Some.trace ∷ [])) rate) (sym c.in_ok-push.ensures.items)
          (thread_more items_of c.args.c rate c.loop-trace.locals.items c.loop-trace.yielded c.in-Some.trace c.in_ok-new.field-0 (c.loop-trace.invariant.2 rate is)
          (c.in_ok-new.ensures.2 ∙ ap (λ x. at_start c.args.c x c.in_ok-new.field-0.space c.len-thread.result c.in-Some.trace.items) (one_rate c.args.c c.in_ok-new.field-0.rate rate c.in_ok-new.ensures.0 is) ∙ ap (λ u. at_start c.args.c rate c.in_ok-new.field-0.space u c.in-Some.trace.items) long)
          c.in_ok-new.ensures.1),
      tt,
      tt,
    )

-- the opening of the job
opens : (c : goal.After-drop-trace-iterator-2) → IsOpening c.args.c (map items_of c.args.traces.items) (record { words = c.in_ok-words.words; locals = c.loop-trace.locals.items })
opens c =
    let none : into_iter_items c.loop-trace.trace-iterator ≡ [] = nothing_left (into_iter_items c.loop-trace.trace-iterator) (sym c.loop-trace.invariant.1 ∙ c.in-None.ensures.steps.0) in
    let all : c.loop-trace.yielded ≡ c.args.traces.items = sym (append-nil c.loop-trace.yielded) ∙ sym (ap (λ r. c.loop-trace.yielded ++ r) none) ∙ c.loop-trace.invariant.0 in
    let rate = found c.args.c c.requires.plan in
    let threads = c.loop-trace.invariant.2 rate.0 rate.1 in
    record {
      rate = rate.0;
      planned = rate.1;
      count = c.in_ok-words.ensures.count;
      words = c.in_ok-words.ensures.words;
      space = spaces c.args.c c.loop-trace.locals.items;
      roomy = λ t tl. threads.roomy t (omega (arith, tl, c.requires.bounds.threads, ap (λ xs. length (map items_of xs)) all));
      locals = threads.starts ∙ ap (λ xs. starts_from c.args.c rate.0 (spaces c.args.c c.loop-trace.locals.items) 0 (map items_of xs)) all;
    }

pub invariant_of-result : goal.invariant_of-result
invariant_of-result c = record { reached = opened_reached c.args.c (map items_of c.args.traces.items) (record { words = c.in_ok-words.words; locals = c.loop-trace.locals.items }) c.requires (opens c); kept = tt }

pub returns-clause-opening : goal.returns-clause-opening
returns-clause-opening c = opens c

pub returns-clause-traces : goal.returns-clause-traces
returns-clause-traces c = opened_traces c.args.c (map items_of c.args.traces.items) (record { words = c.in_ok-words.words; locals = c.loop-trace.locals.items }) (opens c)
