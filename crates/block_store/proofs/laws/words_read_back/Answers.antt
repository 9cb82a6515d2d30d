use Rattle.block_store.proofs.PayloadWords.{payload-code}
use Rattle.block_store.proofs.OwnerWords.{owner-code}
use Rattle.block_store.proofs.ShapeWords.{shape-code}
use Rattle.block_store.proofs.ColourWords.{colour-code}
use Rattle.block_store.proofs.PhaseWords.{phase-code}
use Rattle.block_store.proofs.laws.words_read_back.Goals as goal

pub returns : goal.returns
returns c = record {
  payload = payload-code;
  owner = owner-code;
  shape = shape-code;
  colour = colour-code;
  phase = phase-code;
}
