use Rattle.heap_structures.proofs.cell_arrays.CellMoves.{cells_spared, saves_of}
use Rattle.heap_structures.proofs.map.other_maps_stay.Goals as goal

pub returns : goal.returns
returns _ rs a g z c count xs s apart none t = record {
  array = t.array;
  cells = cells_spared rs a g z c t.array (saves_of rs rs a g z (λ q no. no) s) apart none t.cells;
  places = t.places;
  few = t.few;
  rising = t.rising;
  small = t.small;
  counted = t.counted;
}
