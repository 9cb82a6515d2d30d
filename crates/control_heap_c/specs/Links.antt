-- What the pointer of a handle owns.
use base.Fml.{Fml, ftrue}
use base.Stored.{Coded}
use denote.RattleType.{RattleType}
use denote.RawPtr.{Ptr}
use Rattle.std.specs.Prelude.{ℕ, Option, Some, None}
use Rattle.std.specs.Box.Ownership.{box_owns}
use Rattle.std.specs.Coded.{coded_option}
use Rattle.std.specs.Global.{Global}
use Rattle.std.specs.contracts.impls.GlobalAllocator.TheImpl.{ghosts}
use Rattle.control_heap_c.specs.contracts.owned.Owned.{the_row}
use Rattle.control_heap_c.specs.declared.owned.Owned.{Owned}

-- what a handle owns, as a type
abbrev pub owned_row : RattleType
owned_row = the_row

-- a boxed value, with the right to free it, or no memory
abbrev pub link_owns : Global → Ptr → Option Owned → Fml
link_owns alloc p None = ftrue
link_owns alloc p (Some x) = box_owns (ghosts.dealloc_token alloc) owned_row p x

abbrev pub owned_coded : Coded (Option Owned)
owned_coded = coded_option owned_row.coded

-- an open handle begins with this number, and a closed one does not
abbrev pub open_mark : ℕ
open_mark = 7238540126943155201
