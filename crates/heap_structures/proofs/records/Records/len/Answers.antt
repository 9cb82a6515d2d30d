use Rattle.std.proofs.Common.{◌∙◌}
use Rattle.std.proofs.lemmas.List.{length-map}
use Rattle.block_store.specs.declared.Value.TheVariants.{Ref}
use Rattle.heap_structures.proofs.rings.NumberRings.{numbers_long}
use Rattle.heap_structures.proofs.records.Records.len.Goals as goal

pub returns : goal.returns
returns c g ns is =
    c.len.ensures g _ is.ring ∙ length-map is.names Ref ∙ numbers_long g is.names ns is.numbers
