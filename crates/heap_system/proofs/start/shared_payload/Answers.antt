use Rattle.std.proofs.Common.{arith, ap, ◌∙◌, ◌+◌}
use Rattle.object_lists.specs.Parts.{link_in}
use Rattle.array_trees.specs.Levels.{array_part}
use Rattle.heap_invariant.specs.graph_relation.Made.{link_word}
use Rattle.heap_system.proofs.openings.OpeningArrays.{last_low, shared_links}
use Rattle.heap_system.proofs.start.shared_payload.Goals as goal

pub returns : goal.returns
returns c =
    c.link_at.ensures ∙ ap (λ n. link_word (λ o. n + 1 + o) (link_in (array_part c.args.c.now.width c.args.c.now.shared c.args.ordinal c.args.j))) c.registers_end.ensures
    ∙ shared_links c.args.c.now c.args.ordinal c.args.j

pub link_at-requires-clause-low : goal.link_at-requires-clause-low
link_at-requires-clause-low c = omega (arith, last_low c.args.c.now c.requires.bounds, c.registers_end.ensures)
