use Rattle.std.proofs.Common.{[]}
use Rattle.rt_check.proofs.OneTaken.{one_taken, apart_taken}
use Rattle.rt_check.proofs.laws.lines_are_taken_once.Goals as goal

pub returns-clause-one : goal.returns-clause-one
returns-clause-one c job past line i j b p q = one_taken job b past line i j p q

pub returns-clause-apart : goal.returns-clause-apart
returns-clause-apart c job lines h n b taken left = apart_taken job b [] lines h n taken left
