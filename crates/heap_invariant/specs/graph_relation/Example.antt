-- Two threads share an array of four elements: `set 1 7` and `put 0 2 1` of thread 0, and
-- `get 2 0 2` of thread 1, event by event. Then each makes `swap 0 2 0`, thread 1 before thread 0
-- has stored what the field held; and `cas 0 2 0 2` of thread 1, and an `idle` of thread 0.
use Rattle.std.specs.Prelude.{◌==◌, ◌&&◌, cond, List, [], ◌∷◌}
use Rattle.block_store.specs.declared.Config.{Config}
use Rattle.block_store.specs.declared.Name.{Name}
use Rattle.block_store.specs.declared.Shape.TheVariants as shapes
use Rattle.block_store.specs.declared.Value.TheVariants.{Int}
use Rattle.block_store.specs.declared.Width.{Width}
use Rattle.block_store.specs.declared.Width.TheVariants.{Eight}
use Rattle.block_store.specs.Widths.{payloads}
use Rattle.block_store.specs.WideOwners.{wide_word}
use Rattle.block_store.specs.Payloads.{reference_word}
use Rattle.block_store.specs.Shapes.{record_word}
use Rattle.heap_invariant.specs.graph_relation.Words.{BlockWords}
use Rattle.heap_invariant.specs.graph_relation.Events.{Event}
use Rattle.heap_invariant.specs.graph_relation.Events.Event.{ReadObject, ReadValue, ReadExpected, ReadShape, ReadField, StorePending, StoreConstant, StoreField, ExchangeField, Finish}

abbrev pub small_config : Width → Config
small_config W = record {
  width = W;
  threads = 2;
  blocks = 20;
  live = 15;
  object = 3;
  shared = 4;
}

abbrev pub wide_config : Config
wide_config = record {
  width = Eight;
  threads = 1;
  blocks = 64;
  live = 20;
  object = 2;
  shared = 0;
}

abbrev pub shared_array : Name
shared_array = record { thread = 2; serial = 0 }

abbrev pub some_events : List Event
some_events =
    StoreConstant 0 1 (Int 7)
    ∷ ReadObject 0 0 ∷ ReadShape 0 (shapes.Tree 4) ∷ ReadValue 0 1 ∷ StoreField 0 shared_array 2 2
    ∷ ReadObject 1 0 ∷ ReadShape 1 (shapes.Tree 4) ∷ ReadField 1 2 shared_array 2 2 ∷ StorePending 1
    ∷ ReadObject 0 0 ∷ ReadShape 0 (shapes.Tree 4) ∷ ReadValue 0 0
    ∷ ExchangeField 0 shared_array 2 2
    ∷ ReadObject 1 0 ∷ ReadShape 1 (shapes.Tree 4) ∷ ReadValue 1 0
    ∷ ExchangeField 1 shared_array 2 2
    ∷ StorePending 0 ∷ StorePending 1
    ∷ ReadObject 1 0 ∷ ReadShape 1 (shapes.Tree 4) ∷ ReadExpected 1 0 ∷ ReadValue 1 2
    ∷ StoreField 1 shared_array 2 2
    ∷ Finish 0
    ∷ []

-- A record of two blocks that thread 0 has written in blocks 12 and 13, at the opening: it has as
-- many fields as a block has payload words.
abbrev pub with_record : Width → BlockWords → BlockWords
with_record W w =
    let shape = record_word (payloads W) in
    record {
      owner = λ x.
          cond (x == 12) (wide_word 0 1 0) (cond (x == 13) (wide_word 0 1 1) (w.owner x));
      shape = λ x. cond (x == 12) shape (cond (x == 13) shape (w.shape x));
      payload = λ x j. cond ((x == 12) && (j == 0)) (reference_word 13) (w.payload x j);
    }
