use Rattle.heap_machine.proofs.laws.black_blocks_refer_to_none_white.Goals as goal

pub returns : goal.returns
returns c = record { black = λ n cycle h hs k. k.black; mark = λ n h hs k is. (k is).black; scanned = λ n cycle h hs k. k.dealt; shaded = λ n cycle h hs k. k.shaded }
