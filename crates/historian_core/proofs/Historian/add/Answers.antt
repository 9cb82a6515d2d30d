use Rattle.std.proofs.Common.{inl, inr, ◌+◌, ◌*◌, length, arith}
use Rattle.std.proofs.lemmas.List.{length_push}
use Rattle.heap_structures.specs.declared.trend.Sample.{Sample}
use Rattle.heap_structures.proofs.cell_arrays.Answered.{ok_map}
use Rattle.historian_core.specs.StoredReadings.{heap_config, samples}
use Rattle.historian_core.proofs.Life.{left, room}
use Rattle.historian_core.proofs.Readings.{keeps_on, long_as}
use Rattle.historian_core.proofs.Historian.add.Goals as goal

pub returns-in_err-push : goal.returns-in_err-push
returns-in_err-push c = λ xs k low.
    let h = c.args.self.now in
    let l = c.args.limits.now in
    let most = 2 + 207 * length xs in
    let long = long_as l xs in
    absurd (elim (c.in_err-push.ensures heap_config 40 most (samples l xs) k).2 [
      | inl none ↦ none (room h most (samples l xs) k 127 (
        omega (arith, low),
        omega (
          arith,
          low,
          long,
        ),
      ))
      | inr none ↦ none ((left h most (samples l xs) k (omega (arith, long))).0
          (omega (arith, low, long)))
    ])

pub returns : goal.returns
returns c = λ xs k low.
    let l = c.args.limits.now in
    let most = 2 + 207 * length xs in
    let x : Sample = record { value = c.args.reading; alarm = c.has_alarm.result } in
    let is = (c.in_ok-push.ensures heap_config 40 most (samples l xs) k).0 in
    let long = long_as l xs in
    let more = length_push (samples l xs) x in
    ok_map _ _ c.figures.result
    (λ f by. keeps_on l xs c.args.reading c.has_alarm.result c.has_alarm.ensures
    c.figures.new.self f by)
    (c.figures.ensures (most + 127) _ is (omega (arith, low), omega (arith, low, long, more)))
