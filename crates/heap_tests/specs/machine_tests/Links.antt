-- Which rows follow a link, and how many events there are before one may.
use Rattle.std.specs.Prelude.{ℕ, ◌+◌}
use Rattle.never_heap.specs.declared.Command.{Command}
use Rattle.never_heap.specs.declared.Command.TheVariants as commands
use Rattle.barrier_steps.specs.declared.rows.FieldRow.{FieldRow}
use Rattle.barrier_steps.specs.declared.rows.FieldRow.TheVariants as rows
use Rattle.barrier_steps.specs.declared.rows.Purpose.TheVariants as wants

-- how many registers a command loads between the shape of its object and the first link
abbrev pub loads_before : Command → ℕ
loads_before (commands.Get d s i) = 0
loads_before (commands.Put s i v) = 1
loads_before (commands.Swap s i v) = 1
loads_before (commands.Cas s i a v) = 2
loads_before _ = 9

-- at this row of command k, so many events at least come before one that follows a link; 20 where
-- none does
abbrev pub before_link : Command → FieldRow → ℕ
before_link k (rows.LoadRegister wants.Object) = loads_before k + 2
before_link k (rows.LoadShape x) = loads_before k + 1
before_link k (rows.LoadRegister (wants.Expected way)) = 2
before_link k (rows.LoadRegister (wants.Stored way)) = 1
before_link k (rows.LoadLink way word) = 0
before_link k _ = 20
