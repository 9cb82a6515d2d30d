-- What a line says, as lines of any script say it.
use Rattle.array_scripts.specs.declared.line.Line.{Line}
use Rattle.array_scripts.specs.declared.line.Line.TheVariants as lines
use Rattle.array_scripts.specs.scripts.Scripts as scripts

abbrev pub said : {Op : Type 0} → Line Op → scripts.Said Op
said (lines.Thread t) = scripts.Thread t
said (lines.Told op) = scripts.Told op
said lines.End = scripts.End
