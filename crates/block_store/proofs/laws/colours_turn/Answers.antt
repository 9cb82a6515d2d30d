use Rattle.block_store.proofs.ColourWords.{black-white, black-next, white-next}
use Rattle.block_store.proofs.laws.colours_turn.Goals as goal

pub returns : goal.returns
returns c = record { apart = black-white; black = black-next; white = white-next }
