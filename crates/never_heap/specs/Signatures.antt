-- The signature of a command: its word, its operands in order, and its version. Bounds, spellings,
-- blocks, units, and where a command stores are read off it.
use Rattle.std.specs.Prelude.{ℕ, ◌≡◌, ◌<◌, ◌≤◌, ◌^◌, Option, Some, None, List, [], ◌∷◌, map, codes}
use Rattle.block_store.specs.declared.Width.{Width}
use Rattle.block_store.specs.declared.Width.TheVariants.{Eight}
use Rattle.block_store.specs.declared.TheConstants.{REGISTERS}
use Rattle.never_heap.specs.Graphs.{ObjectKind, Record, Array}
use Rattle.never_heap.specs.declared.Command.{Command}
use Rattle.never_heap.specs.declared.Command.TheVariants as commands

-- A register is read, or becomes something, or both; or it is the base, at whose object the command
-- looks.
pub data Use : Type 0 where
  Source : Use
  Destination : Use
  Exchanged : Use
  Base : Use

-- a field of that object is read, or the command may store in it
pub data Access : Type 0 where
  Load : Access
  Store : Access

-- an operand: a register, a field of the object in the base, a number, how long the object is that
-- is made, or how many units are
pub data Operand : Type 0 where
  Register : (role : Use) → (r : ℕ) → Operand
  Field : (access : Access) → (i : ℕ) → Operand
  Number : (n : ℕ) → Operand
  Length : (kind : ObjectKind) → (n : ℕ) → Operand
  Units : (u : ℕ) → Operand

-- the version of a job from which on a command is one
pub data Version : Type 0 where
  First : Version
  Second : Version

pub record Signature : Type 0 where
  pub word : List ℕ
  pub operands : List Operand
  pub version : Version

abbrev pub signed : Version → List ℕ → List Operand → Signature
signed version word operands = record { word = word; operands = operands; version = version }

abbrev pub signature : Command → Signature
signature (commands.New d f) =
    signed First (codes "new") (Register Destination d ∷ Length Record f ∷ [])
signature (commands.Arr d e) =
    signed First (codes "arr") (Register Destination d ∷ Length Array e ∷ [])
signature (commands.Set d v) = signed First (codes "set") (Register Destination d ∷ Number v ∷ [])
signature (commands.Nil d) = signed First (codes "nil") (Register Destination d ∷ [])
signature (commands.Mov d s) =
    signed First (codes "mov") (Register Destination d ∷ Register Source s ∷ [])
signature (commands.Get d s i) =
    signed First (codes "get") (Register Destination d ∷ Register Base s ∷ Field Load i ∷ [])
signature (commands.Put s i v) =
    signed First (codes "put") (Register Base s ∷ Field Store i ∷ Register Source v ∷ [])
signature (commands.Len s) = signed First (codes "len") (Register Base s ∷ [])
signature (commands.Same a b) =
    signed First (codes "same") (Register Source a ∷ Register Source b ∷ [])
signature (commands.Say s) = signed First (codes "say") (Register Source s ∷ [])
signature (commands.Swap s i v) =
    signed Second (codes "swap") (Register Base s ∷ Field Store i ∷ Register Exchanged v ∷ [])
signature (commands.Cas s i a v) =
    signed Second (codes "cas")
    (Register Base s ∷ Field Store i ∷ Register Source a ∷ Register Source v ∷ [])
signature (commands.Idle u) = signed Second (codes "idle") (Units u ∷ [])

abbrev pub operands : Command → List Operand
operands k = (signature k).operands

-- the number that an operand is
abbrev pub value_of : Operand → ℕ
value_of (Register role r) = r
value_of (Field access i) = i
value_of (Number n) = n
value_of (Length kind n) = n
value_of (Units u) = u

-- what comes after the word of a command
abbrev pub numbers : Command → List ℕ
numbers k = map value_of (operands k)

-- the registers among operands, and the others
abbrev pub registers_in : List Operand → List ℕ
registers_in [] = []
registers_in (Register role r ∷ os) = r ∷ registers_in os
registers_in (o ∷ os) = registers_in os

abbrev pub sizes_in : List Operand → List Operand
sizes_in [] = []
sizes_in (Register role r ∷ os) = sizes_in os
sizes_in (o ∷ os) = o ∷ sizes_in os

-- the register in which a command with these operands stores where it is not refused
abbrev pub destination_in : List Operand → Option ℕ
destination_in [] = None
destination_in (Register Destination d ∷ os) = Some d
destination_in (Register Exchanged v ∷ os) = Some v
destination_in (o ∷ os) = destination_in os

-- the base, and the field of its object in which the command may store
abbrev pub place_in : List Operand → Option (ℕ × ℕ)
place_in [] = None
place_in (Register Base s ∷ Field Store i ∷ os) = Some (s, i)
place_in (o ∷ os) = place_in os

-- the kind and the length of the object that it makes
abbrev pub object_in : List Operand → Option (ObjectKind × ℕ)
object_in [] = None
object_in (Length kind n ∷ os) = Some (kind, n)
object_in (o ∷ os) = object_in os

-- the units that it is told to make
abbrev pub units_in : List Operand → ℕ
units_in [] = 0
units_in (Units u ∷ os) = u
units_in (o ∷ os) = units_in os

-- what holds of each
abbrev pub Each : {A : Type 0} → (A → Type 0) → List A → Type 0
Each P [] = Unit {0}
Each P (a ∷ []) = P a
Each P (a ∷ b ∷ []) = P a × P b
Each P (a ∷ b ∷ x ∷ []) = P a × P b × P x
Each P (a ∷ b ∷ x ∷ y ∷ []) = P a × P b × P x × P y
Each P (a ∷ b ∷ x ∷ y ∷ z ∷ zs) = P a × P b × P x × P y × Each P (z ∷ zs)

-- registers are those of a thread, an object is at most 65,535 long, and other numbers are below
-- 2^62
abbrev pub IsInRange : Operand → Type 0
IsInRange (Register role r) = r < REGISTERS
IsInRange (Length kind n) = n ≤ 65535
IsInRange (Field access i) = i < 2 ^ 62
IsInRange (Number n) = n < 2 ^ 62
IsInRange (Units u) = u < 2 ^ 62

-- blocks of version 2 have eight words for values
abbrev pub IsOfVersion : Version → Width → Type 0
IsOfVersion First width = Unit {0}
IsOfVersion Second width = width ≡ Eight
