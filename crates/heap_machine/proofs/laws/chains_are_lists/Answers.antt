use Rattle.heap_machine.proofs.ChainLaws.{Chain-zero, Chain-step, Chain-one, Chain-once, Chain-outside, Chain-front}
use Rattle.heap_machine.proofs.laws.chains_are_lists.Goals as goal

pub returns : goal.returns
returns c = record {
  empty = Chain-zero;
  next = λ c a xs ne k. Chain-step c a xs k ne;
  one = Chain-one;
  once = Chain-once;
  outside = λ c y v a xs out k. Chain-outside c y v xs a out k;
  front = Chain-front;
}
