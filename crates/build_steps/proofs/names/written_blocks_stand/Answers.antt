use Rattle.block_store.specs.Places.{extent}
use Rattle.heap_machine.proofs.Lemmas.{held_after}
use Rattle.build_steps.specs.Rows.{build_want}
use Rattle.build_steps.proofs.BuildOfState.{stands, pictured_stands}
use Rattle.build_steps.proofs.WantedPlaces.{stores_held}
use Rattle.build_steps.proofs.names.written_blocks_stand.Goals as goal

pub returns : goal.returns
returns c = record {
  build = stands;
  pictured = pictured_stands;
  held = λ c h s f k. held_after c h (build_want (extent c) s) (stores_held c s f) k;
}
