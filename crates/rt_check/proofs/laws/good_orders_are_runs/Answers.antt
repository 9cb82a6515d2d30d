use Rattle.std.proofs.Common.{[]}
use Rattle.rt_check.proofs.Goodness.{law}
use Rattle.rt_check.proofs.GoodOrFirstBad.{settled}
use Rattle.rt_check.proofs.ItemOfLine.{one, apart, first}
use Rattle.rt_check.proofs.laws.good_orders_are_runs.Goals as goal

pub returns-clause-runs : goal.returns-clause-runs
returns-clause-runs c = law

pub returns-clause-one : goal.returns-clause-one
returns-clause-one c config rate traces past line i j few a b =
    one config rate traces past few line i j a b

pub returns-clause-settled : goal.returns-clause-settled
returns-clause-settled c config rate traces lines few = settled config rate traces few [] lines

pub returns-clause-apart : goal.returns-clause-apart
returns-clause-apart c config rate traces lines n few good bad =
    apart config rate traces few [] lines n good bad

pub returns-clause-first : goal.returns-clause-first
returns-clause-first c config rate traces lines m n few a b =
    first config rate traces few [] lines m n a b
