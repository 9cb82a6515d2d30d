use Rattle.std.proofs.Common.{map}
use Rattle.block_store.specs.declared.Value.TheVariants.{Ref}
use Rattle.heap_structures.proofs.rings.NumberRings.{records_again}
use Rattle.heap_structures.proofs.records.Records.renewed.Goals as goal

pub returns-clause-shows : goal.returns-clause-shows
returns-clause-shows c g z ns one is leaves =
    records_again g z one c.args.self.now _ ns c.renewed-ring.ensures.same.1 is
    (c.renewed-ring.ensures.shows g z (map Ref is.names) one is.ring leaves)
