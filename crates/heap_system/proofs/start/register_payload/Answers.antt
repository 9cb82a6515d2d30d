use Rattle.std.proofs.Common.{arith, sym, ap, ◌∙◌, ◌+◌}
use Rattle.block_store.specs.declared.TheConstants.{REGISTERS}
use Rattle.block_store.specs.Payloads.{reference_word}
use Rattle.block_store.proofs.Lemmas.{end_few, root_low}
use Rattle.object_lists.specs.Parts.{link_in}
use Rattle.array_trees.specs.Levels.{array_part}
use Rattle.array_trees.proofs.RegisterArrays.{array_of}
use Rattle.heap_invariant.specs.graph_relation.Made.{link_word}
use Rattle.heap_system.proofs.openings.OpeningArrays.{first_register, other_register}
use Rattle.heap_system.proofs.start.register_payload.Goals as goal
use Rattle.heap_system.proofs.start.register_payload.Goals.{else-ordinal-eq1-via-then-ordinal-eq1+else-j-eq0, else-ordinal-eq1-via-else-ordinal-eq1}

pub link_at-requires-clause-inside : goal.link_at-requires-clause-inside
link_at-requires-clause-inside c = omega (arith, array_of c.args.c.now.width)

pub link_at-requires-clause-low : goal.link_at-requires-clause-low
link_at-requires-clause-low c = omega (arith, array_of c.args.c.now.width, c.root.ensures, root_low c.args.c.now.width c.args.c.now.threads c.args.t c.requires.thread, end_few c.args.c.now.width c.args.c.now.threads c.requires.bounds.threads)

pub returns-then-j-eq0 : goal.returns-then-j-eq0
returns-then-j-eq0 c = rw (c.if-ordinal-eq1.true, c.if-j-eq0.true) (c.payload_word.ensures ∙ ap (λ n. reference_word (n + 1)) c.registers_end.ensures ∙ sym (first_register c.args.c.now c.args.t c.requires.thread))

pub returns-else-ordinal-eq1 : goal.returns-else-ordinal-eq1
returns-else-ordinal-eq1 c =
    c.link_at.ensures ∙ ap (λ n. link_word (λ o. n + o) (link_in (array_part c.args.c.now.width REGISTERS c.args.ordinal c.args.j))) c.root.ensures
    ∙ other_register c.args.c.now c.args.t c.args.ordinal c.args.j c.requires.thread (elim c.else-ordinal-eq1.branch [ else-ordinal-eq1-via-then-ordinal-eq1+else-j-eq0 w ↦ (λ a b. omega arith) | else-ordinal-eq1-via-else-ordinal-eq1 w ↦ (λ a b. omega arith) ])
