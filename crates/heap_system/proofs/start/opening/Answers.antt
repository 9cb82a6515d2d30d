use Rattle.std.proofs.Common.{arith, ap, ◌∙◌, length, length-set}
use Rattle.block_store.specs.Places.{extent, place_at}
use Rattle.heap_system.specs.InitialHeaps.{opening_heap}
use Rattle.heap_system.proofs.openings.OpeningArrays.{by_places, one_more}
use Rattle.heap_system.proofs.start.opening.Goals as goal

pub loop-i-preserved : goal.loop-i-preserved
loop-i-preserved c = (
  c.loop-i.invariant.0,
  ap length c.put.ensures ∙ simp length-set c.loop-i.invariant.1,
  one_more c.loop-i.words c.put.new.self c.loop-i.i c.word_at.result (λ k. opening_heap c.args.c.now (place_at (extent c.args.c.now) k)) (omega (arith, c.loop-i.invariant.1, c.loop-i.invariant.0)) c.put.ensures c.word_at.ensures c.loop-i.invariant.2,
)

pub returns-clause-words : goal.returns-clause-words
returns-clause-words c = by_places c.args.c.now c.loop-i.words c.loop-i.invariant.1 (λ k kl. c.loop-i.invariant.2 k (omega (arith, c.loop-i.invariant.0)))
