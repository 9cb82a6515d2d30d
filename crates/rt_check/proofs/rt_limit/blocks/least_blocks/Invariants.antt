use Rattle.rt_check.proofs.rt_limit.BlockLaws.{NoneBelow}
use Rattle.rt_check.proofs.rt_limit.blocks.least_blocks.Given as goal

abbrev pub invariant-loop-blocks : goal.invariant-loop-blocks
invariant-loop-blocks l = NoneBelow l.config l.live l.rate l.blocks
