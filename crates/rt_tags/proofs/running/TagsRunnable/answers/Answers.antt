use Rattle.std.proofs.Common.{arith}
use Rattle.std.specs.Prelude.{flat_map}
use Rattle.std.proofs.lemmas.List.{length-map}
use Rattle.array_tables.specs.tag_table.Tables.{rows_of, command_at}
use Rattle.rt_tags.proofs.running.TagsRunnable.answers.Goals as goal

pub answers-requires : goal.answers-requires
answers-requires c = omega (arith, c.requires, length-map (flat_map rows_of c.args.ops.now) command_at)
