-- The link and its parts own what a box at the same types owns.
use mir.Syntax.{impl, tnil, dnil}
use mathlib.Core.List.{[]}
use denote.Signature.{Slot, plain}
use Rattle.std.proofs.BoxSteps.Form.{Bx}
use Rattle.std.specs.contracts.alloc.Global as Heap
use Rattle.std.specs.contracts.impls.GlobalAllocator.TheImpl.{ghosts, dict}
use Rattle.std.proofs.alloc.Global.TheLaws as heap
use Rattle.control_heap_c.specs.contracts.owned.Owned as Owned
use Rattle.control_heap_c.proofs.owned.Owned.TheLaws as owned
use Rattle.control_heap_c.specs.contracts.link.parts.Parts as Parts
use Rattle.control_heap_c.specs.contracts.link.Link as Link

abbrev pub E : Bx
E = record { row = Owned.the_row; laws = owned.the_row_laws; al = record { row = Heap.the_row; laws = heap.the_row_laws; g = ghosts; d = dict; drops = impl [] tnil dnil } }

abbrev pub FromParts : Slot 0
FromParts = plain (λ _. Parts.the_row Owned.the_row Heap.the_row ghosts)

abbrev pub FromLink : Slot 0
FromLink = plain (λ _. Link.the_row)

abbrev pub FromHeap : Slot 0
FromHeap = plain (λ _. Heap.the_row)
