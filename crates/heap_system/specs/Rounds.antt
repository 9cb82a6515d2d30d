-- At which rows a thread puts its private list back, and at which it turns the phase.
use Rattle.std.specs.Prelude.{Bool, true, false}
use Rattle.heap_machine.specs.declared.gate.GateRow.{GateRow}
use Rattle.heap_machine.specs.declared.gate.GateRow.TheVariants as gates
use Rattle.grey_steps.specs.MarkUnits as marking
use Rattle.barrier_steps.specs.declared.rows.FieldRow.{FieldRow}
use Rattle.barrier_steps.specs.declared.rows.FieldRow.TheVariants as fields
use Rattle.sweep_steps.specs.SweepUnits as sweeping
use Rattle.build_steps.specs.declared.rows.BuildRow.{BuildRow}
use Rattle.build_steps.specs.declared.rows.BuildRow.TheVariants as builds
use Rattle.heap_system.specs.Parts.{Part, Access, Mark, Sweep, Build, PhaseChange}

-- a write barrier puts what it has shaded, and a thread that changes the phase the roots
abbrev pub puts_shaded : FieldRow → Bool
puts_shaded (fields.Shade r store) = marking.is_putting r
puts_shaded _ = false

abbrev pub puts_roots : GateRow → Bool
puts_roots (gates.PutRoots p list) = true
puts_roots _ = false

-- whether a thread puts its private list in its own grey list
abbrev pub puts_grey : Part → Bool
puts_grey (Access f) = puts_shaded f.row
puts_grey (Mark m) = marking.is_putting m.row
puts_grey (PhaseChange g) = puts_roots g
puts_grey _ = false

abbrev pub puts_rest : BuildRow → Bool
puts_rest (builds.PutRest list) = true
puts_rest _ = false

-- or in its own free list
abbrev pub puts_free : Part → Bool
puts_free (Sweep s) = sweeping.is_putting s.row
puts_free (Build b) = puts_rest b.row
puts_free _ = false

-- whether it turns the phase: to Sweep at a flip, and to the next cycle's Mark at a start
abbrev pub flips_or_starts : GateRow → Bool
flips_or_starts (gates.Flip p) = true
flips_or_starts (gates.Start p) = true
flips_or_starts _ = false

abbrev pub turns_phase : Part → Bool
turns_phase (PhaseChange g) = flips_or_starts g
turns_phase _ = false
