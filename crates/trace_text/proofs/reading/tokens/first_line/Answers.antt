use Rattle.std.proofs.Common.{◌+◌, ◌-◌, [], length, take, drop, arith, add-one}
use Rattle.std.proofs.lemmas.Bool.{false_from_ne_true}
use Rattle.std.proofs.lemmas.Bool.Decides.{nat_tests}
use Rattle.std.proofs.lemmas.List.{take_rest}
use Rattle.trace_text.proofs.ByteSplits.{lines_at, lines_none, first_at, parts_at}
use Rattle.trace_text.proofs.reading.tokens.first_line.Goals as goal

pub returns-in-Some-clause-lines : goal.returns-in-Some-clause-lines
returns-in-Some-clause-lines c =
    let input = c.args.input.now in
    let place = c.in-Some.ensures.0 in
    let lines = lines_at input c.in-Some.end place.high c.in-Some.ensures.1
    (λ k h. false_from_ne_true _ (place.before k (omega arith) h)) in
    parts_at input (take c.in-Some.end input)
    (take (length input - (c.in-Some.end + 1)) (drop (c.in-Some.end + 1) input))
    (rw (take_rest input (c.in-Some.end + 1), add-one) lines)

pub returns-in-None-clause-lines : goal.returns-in-None-clause-lines
returns-in-None-clause-lines c =
    let input = c.args.input.now in
    parts_at input input [] (lines_none input (grind (arith, nat_tests))
    (λ k h. false_from_ne_true _ (c.in-None.ensures k (omega arith) h)))

pub returns-in-Some-clause-bytes : goal.returns-in-Some-clause-bytes
returns-in-Some-clause-bytes c =
    let input = c.args.input.now in
    let place = c.in-Some.ensures.0 in
    let lines = lines_at input c.in-Some.end place.high c.in-Some.ensures.1
    (λ k h. false_from_ne_true _ (place.before k (omega arith) h)) in
    first_at input (take c.in-Some.end input)
    (take (length input - (c.in-Some.end + 1)) (drop (c.in-Some.end + 1) input))
    (rw (take_rest input (c.in-Some.end + 1), add-one) lines)

pub returns-in-None-clause-bytes : goal.returns-in-None-clause-bytes
returns-in-None-clause-bytes c =
    let input = c.args.input.now in
    first_at input input [] (lines_none input (grind (arith, nat_tests))
    (λ k h. false_from_ne_true _ (c.in-None.ensures k (omega arith) h)))
