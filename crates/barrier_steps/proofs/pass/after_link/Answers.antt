use Rattle.std.proofs.Common.{arith}
use Rattle.barrier_steps.proofs.Common.{extent, field_index}
use Rattle.barrier_steps.proofs.FieldRows.{links_few}
use Rattle.barrier_steps.proofs.pass.after_link.Goals as goal

pub overflow_add-next : goal.overflow_add-next
overflow_add-next c = omega (arith, c.requires.level, links_few (extent c.args.places.now) c.args.way.shape (field_index c.args.command) c.requires.shape c.requires.index)
