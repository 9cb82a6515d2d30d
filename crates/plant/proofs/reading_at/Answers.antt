use Rattle.std.proofs.Math.Path.{refl, sym}
use Rattle.plant.proofs.reading_at.Goals as goal

pub returns-in-Int : goal.returns-in-Int
returns-in-Int c = (
  c.in_ok-get.field-0,
  (
    c.get.new.self,
    c.get.ensures.config,
    c.in_ok-get.ensures.returned.answered,
    (
      c.get-2.new.self,
      c.get-2.ensures.config,
      rw (sym c.in-Int.is) c.in_ok-reading.ensures.returned.answered,
      refl,
    ),
  ),
)
