use Rattle.std.proofs.Common.{◌≡◌, ◌+◌, ◌++◌, ◌∷◌, [], ℕ, List, length, map, sym, ap, subst, ◌∙◌, arith}
use Rattle.std.proofs.lemmas.List.{length-map, map-append}
use Rattle.never_heap.specs.declared.Command.{Command}
use Rattle.trace_text.specs.Jobs.{IsJob}
use Rattle.trace_text.specs.Reading.{tokenized}
use Rattle.trace_text.specs.Wholes.{IsLineFault, IsBegun}
use Rattle.trace_text.specs.Refusals.{IsFirstBadLine}
use Rattle.trace_text.proofs.LabelLaws.{parted_some, parted_none}
use Rattle.trace_text.proofs.WholeLaws.{passed_on, gives_none, gives_some, next_begun, next_fault_is, ends_whole, ends_pending}
use Rattle.trace_text.proofs.reading.whole.job_of.Goals as goal

pub returns-in_err-trace : goal.returns-in_err-trace
returns-in_err-trace c =
    let traces = c.loop-thread.traces in
    let done : List (List Command) = map (λ v. v.items) traces.items in
    let count : c.loop-thread.thread ≡ length done =
    sym c.loop-thread.invariant.count ∙ traces.ok.0
    ∙ sym (length-map traces.items (λ v. v.items)) in
    let fault = next_fault_is c.in_ok-config.config done c.loop-thread.thread c.args.input.now
    c.loop-thread.rest.read (tokenized c.loop-thread.rest.lines.now)
    c.loop-thread.invariant.begun count c.loop-thread-test.true c.in_err-trace.field-0.0
    c.in_err-trace.ensures.trace in
    passed_on c.from_residual-in_err-trace.result (IsJob c.args.input.now)
    (IsLineFault (IsFirstBadLine c.args.input.now)) c.in_err-trace.field-0.0
    c.from_residual-in_err-trace.ensures.1 fault

pub loop-thread-preserved : goal.loop-thread-preserved
loop-thread-preserved c =
    let traces = c.loop-thread.traces in
    let done : List (List Command) = map (λ v. v.items) traces.items in
    let count : c.loop-thread.thread ≡ length done =
    sym c.loop-thread.invariant.count ∙ traces.ok.0
    ∙ sym (length-map traces.items (λ v. v.items)) in
    let read : c.in_ok-trace.after.read
    ≡ c.loop-thread.rest.read + length c.in_ok-trace.trace.items + 1 =
    omega (arith, c.in_ok-trace.ensures.read, c.in_ok-trace.trace.ok.0) in
    let begun = next_begun c.in_ok-config.config done c.loop-thread.thread c.args.input.now
    c.loop-thread.rest.read (tokenized c.loop-thread.rest.lines.now)
    c.loop-thread.invariant.begun count c.loop-thread-test.true
    c.in_ok-trace.trace.items
    (tokenized c.in_ok-trace.after.lines.now) c.in_ok-trace.after.read c.in_ok-trace.ensures.trace
    read in
    let all : map (λ v. v.items) c.push.new.self.items ≡ done ++ c.in_ok-trace.trace.items ∷ [] =
    ap (map (λ v. v.items)) c.in_ok-push.ensures.items
    ∙ map-append (λ v. v.items) traces.items (c.in_ok-trace.trace ∷ []) in
    record {
      begun = subst (λ (ts : List
          (List Command)). IsBegun c.in_ok-config.config ts c.args.input.now
          c.in_ok-trace.after.read (tokenized c.in_ok-trace.after.lines.now)) (sym all) begun;
      count = c.in_ok-push.ensures.len ∙ ap (λ (n : ℕ). n + 1) c.loop-thread.invariant.count;
      within = c.in_ok-trace.ensures.within;
    }

pub returns-then-is_some : goal.returns-then-is_some
returns-then-is_some c =
    let traces = c.loop-thread.traces in
    let done : List (List Command) = map (λ v. v.items) traces.items in
    let count : c.loop-thread.thread ≡ length done =
    sym c.loop-thread.invariant.count ∙ traces.ok.0
    ∙ sym (length-map traces.items (λ v. v.items)) in
    let some = gives_some _ c.first_line.result _ c.first_line.ensures.lines
    (sym c.is_some.ensures ∙ c.if-is_some.true) in
    ends_pending c.in_ok-config.config done c.loop-thread.thread c.args.input.now
    c.loop-thread.rest.read (tokenized c.loop-thread.rest.lines.now)
    c.loop-thread.invariant.begun count c.loop-thread-test.false some.0
    (parted_some _ some.0.0 some.0.1 some.1)

pub returns : goal.returns
returns c =
    let traces = c.loop-thread.traces in
    let done : List (List Command) = map (λ v. v.items) traces.items in
    let count : c.loop-thread.thread ≡ length done =
    sym c.loop-thread.invariant.count ∙ traces.ok.0
    ∙ sym (length-map traces.items (λ v. v.items)) in
    let none = parted_none _ (gives_none _ c.first_line.result _ c.first_line.ensures.lines
    (sym c.is_some.ensures ∙ c.if-is_some.false)) in
    ends_whole c.in_ok-config.config done c.loop-thread.thread c.args.input.now
    c.loop-thread.rest.read (tokenized c.loop-thread.rest.lines.now)
    c.loop-thread.invariant.begun count c.loop-thread-test.false none
