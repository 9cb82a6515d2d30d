use Rattle.std.proofs.Math.Path.{refl, sym}
use Rattle.plant.proofs.keep.Goals as goal

pub returns : goal.returns
returns c = (
  c.in_ok-record.field-0,
  (
    c.record.new.self,
    c.record.ensures.config,
    c.in_ok-record.ensures.returned.answered,
    (
      c.set.new.self,
      c.set.ensures.config,
      rw (sym c.from.ensures) c.in_ok-set.ensures.returned.answered,
      (
        c.put.new.self,
        c.put.ensures.config,
        c.in_ok-put.ensures.returned.answered,
        (c.put-2.new.self, c.put-2.ensures.config, c.in_ok-put-2.ensures.returned.answered, refl),
      ),
    ),
  ),
)
