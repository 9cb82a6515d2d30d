use Rattle.block_store.proofs.PayloadWords as payloads
use Rattle.block_store.proofs.OwnerWords as owners
use Rattle.block_store.proofs.ShapeWords as shapes
use Rattle.block_store.proofs.ColourWords as colours
use Rattle.block_store.proofs.PhaseWords.{code-phase}
use Rattle.block_store.proofs.laws.words_are_written.Goals as goal

pub returns : goal.returns
returns c = record {
  payload = λ w p e. ((payloads.reads w p e).0, (payloads.reads w p e).1);
  owner = owners.reads;
  shape = shapes.reads;
  colour = λ w p e. ((colours.reads w p e).0, (colours.reads w p e).1);
  phase = code-phase;
}
