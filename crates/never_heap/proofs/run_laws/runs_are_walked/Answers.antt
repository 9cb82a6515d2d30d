use Rattle.std.proofs.Common.{◌≡◌, true}
use Rattle.never_heap.proofs.RunInduction.{walk_all}
use Rattle.never_heap.proofs.run_laws.runs_are_walked.Goals as goal

pub returns : goal.returns
returns c config rate traces holds none within step h run =
    walk_all config rate traces (λ past. holds past ≡ true) within step h none run
