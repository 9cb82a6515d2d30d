use Rattle.std.proofs.Common.{◌∙◌}
use Rattle.std.proofs.lemmas.List.{length-map}
use Rattle.heap_structures.specs.Circles.{last_of}
use Rattle.heap_structures.specs.Trends.{values_in}
use Rattle.heap_structures.proofs.trend.Trend.len.Goals as goal

pub returns : goal.returns
returns c k n most xs is =
    c.len.ensures is.lays.graph (values_in (last_of n xs)) is.lays.laid.readings
    ∙ length-map (last_of n xs) (λ x. x.value)
