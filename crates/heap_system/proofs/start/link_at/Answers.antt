use Rattle.std.proofs.Common.{arith, sym, ◌∙◌}
use Rattle.heap_system.proofs.openings.OpeningArrays.{link_low}
use Rattle.heap_system.proofs.start.link_at.Goals as goal

pub overflow_add-first : goal.overflow_add-first
overflow_add-first c = omega (arith, link_low c.args.width c.args.elements c.args.ordinal c.args.j c.in-Some.child (sym c.child_of.ensures ∙ c.in-Some.is))

pub payload_word-requires : goal.payload_word-requires
payload_word-requires c = (omega arith, omega (arith, link_low c.args.width c.args.elements c.args.ordinal c.args.j c.in-Some.child (sym c.child_of.ensures ∙ c.in-Some.is)))
