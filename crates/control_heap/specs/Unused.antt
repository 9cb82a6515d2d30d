-- A heap on which no command was done.
use Rattle.std.specs.Prelude.{◌≡◌, [], ◌∷◌}
use Rattle.never_heap.specs.Histories.{Started}
use Rattle.heap_system.specs.Machines.{Run}
use Rattle.control_heap.specs.Controls.{ControlOf, Stands, asked, units}

-- nothing of its life is used, and it represents a run in which nothing was done
pub record IsUnused {M : Type 0} (h : ControlOf M) : Type 0 where
  pub no_commands : asked h ≡ 0
  pub no_units : units h ≡ 0
  pub no_objects : h.objects ≡ 0
  pub run : Run
  pub stands : Stands h run
  pub order : run.order ≡ Started ∷ []
