use Rattle.heap_machine.proofs.Tricolours.{tricolour_other, kept_colour, kept_payload, stores_shaded, lets_go, begins}
use Rattle.heap_machine.proofs.laws.what_keeps_tricolour.Goals as goal

pub returns : goal.returns
returns c = record {
  place = tricolour_other;
  colour = kept_colour;
  payload = λ n c h hs x j w ok k. kept_payload c h x j w ok n hs k;
  store = stores_shaded;
  lets_go = lets_go;
  begins = begins;
}
