use Rattle.plantrun_core.proofs.Lines.{long_next}
use Rattle.plantrun_core.proofs.readings.next_reading.Goals as goal

pub returns-in-Ok-Long-clause-next : goal.returns-in-Ok-Long-clause-next
returns-in-Ok-Long-clause-next g c =
    long_next c.args.ticks _ _ (g.S.Source.left c.next_line.new.source) _ _ _ _ c.in-Ok-Long.is
    c.in-Ok-Long.field-0-is c.next_line.ensures.found
