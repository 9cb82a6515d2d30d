use Rattle.block_store.specs.Heaps.{heap_of}
use Rattle.block_store.specs.Places.{extent}
use Rattle.heap_system.proofs.openings.InitialHeaps.{opening_agrees}
use Rattle.heap_system.proofs.laws.opening_shows_the_start.Goals as goal

pub returns : goal.returns
returns _ c ws plan words x pos low = opening_agrees c plan (heap_of (extent c) ws) words x pos low
