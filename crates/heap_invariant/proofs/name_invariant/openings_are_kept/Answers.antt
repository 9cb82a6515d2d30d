use Rattle.heap_invariant.specs.name_invariant.InitialHeaps.{opening_kept}
use Rattle.heap_invariant.proofs.name_invariant.OpeningKept.{opening_is_kept}
use Rattle.heap_invariant.proofs.name_invariant.Steps.{run_kept}
use Rattle.heap_invariant.proofs.name_invariant.openings_are_kept.Goals as goal

pub returns : goal.returns
returns c = record {
  first = λ k colour inside room is. opening_is_kept k inside room colour is;
  after = λ k colour es inside room is guards.
      run_kept k inside es (opening_kept k colour) (opening_is_kept k inside room colour is) guards;
}
