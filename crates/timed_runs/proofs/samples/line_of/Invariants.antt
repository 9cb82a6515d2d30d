use Rattle.std.proofs.Common.{ℕ, ◌≡◌, ◌<◌, ◌^◌, length, ◌+◌, take}
use Rattle.std.specs.List.{sum_by}
use Rattle.timed_runs.proofs.samples.line_of.Given as goal

-- the line of the first command of the thread that comes next, as far as a word holds it
abbrev pub invariant-loop-other : goal.invariant-loop-other
invariant-loop-other g l =
    let line : ℕ = 3 + l.other + sum_by length (take l.other (g.L.Logs.logs l.run)) in
    line < 2 ^ 64 → l.line ≡ line
