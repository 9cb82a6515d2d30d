use Rattle.std.proofs.Common.{◌≡◌, drop, refl, arith}
use Rattle.std.proofs.lemmas.List.{at_drop_all}
use Rattle.never_heap.specs.Histories.{work_in}
use Rattle.test_kit.specs.reference_runs.Happenings.{history}
use Rattle.test_kit.proofs.reference_runs.bounds.is_work_small.Goals as goal

pub returns : goal.returns
returns c =
    let none : work_in (history (drop c.loop-happened.happened-index c.args.h.now)) ≡ 0 =
    at_drop_all (λ h. work_in (history h)) c.args.h.now c.loop-happened.happened-index
    c.loop-happened-test.false in
    (λ _. omega arith, λ _. refl)
