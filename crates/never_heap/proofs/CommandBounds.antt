-- A command in the bounds of a configuration is in range.
use Rattle.std.proofs.Common.{◌≡◌, ◌≤◌, ◌↔◌, List, [], ◌∷◌, None, sym, subst, arith, ℕ, ◌-◌, length, get_or, inl, inr, ◌<◌, ◌^◌, map}
use Rattle.std.proofs.lemmas.Bool.{cases_lt}
use Rattle.std.proofs.lemmas.List.{get_or_past}
use Rattle.std.proofs.lemmas.List.Elements.{All-from_recursion}
use Rattle.std.specs.List.{AllByRecursion}
use Rattle.block_store.specs.declared.Config.{Config}
use Rattle.never_heap.specs.declared.Command.{Command}
use Rattle.never_heap.specs.Bounds.{IsCommandInBounds, IsCommandInRange}
use Rattle.never_heap.specs.RightWork.{requested_units}
use Rattle.never_heap.specs.Signatures.{Operand, Length, Each, IsInRange, IsOfVersion, object_in, operands, signature, Register, value_of}
use Rattle.never_heap.specs.Steps.{blocks_in, blocks_of, length_in, length_made, object_made}
use Rattle.never_heap.specs.declared.Command.TheVariants as commands

pub in_range : (c : Config) (command : Command) → IsCommandInBounds c command
    → IsCommandInRange command
in_range c command h = h.range

-- what holds of each holds of all, and the other way round
pub all_of_each : {A : Type 0} (P : A → Type 0) (xs : List A) → Each P xs → AllByRecursion P xs
all_of_each P [] h = tt
all_of_each P (a ∷ []) h = (h, tt)
all_of_each P (a ∷ b ∷ []) h = (h.0, (h.1, tt))
all_of_each P (a ∷ b ∷ c ∷ []) h = (h.0, (h.1, (h.2, tt)))
all_of_each P (a ∷ b ∷ c ∷ d ∷ []) h = (h.0, (h.1, (h.2, (h.3, tt))))
all_of_each P (a ∷ b ∷ c ∷ d ∷ e ∷ xs) h =
    (h.0, (h.1, (h.2, (h.3, all_of_each P (e ∷ xs) h.4))))

pub each_of_all : {A : Type 0} (P : A → Type 0) (xs : List A) → AllByRecursion P xs → Each P xs
each_of_all P [] h = tt
each_of_all P (a ∷ []) h = h.0
each_of_all P (a ∷ b ∷ []) h = (h.0, h.1.0)
each_of_all P (a ∷ b ∷ c ∷ []) h = (h.0, h.1.0, h.1.1.0)
each_of_all P (a ∷ b ∷ c ∷ d ∷ []) h = (h.0, h.1.0, h.1.1.0, h.1.1.1.0)
each_of_all P (a ∷ b ∷ c ∷ d ∷ e ∷ xs) h =
    (h.0, h.1.0, h.1.1.0, h.1.1.1.0, each_of_all P (e ∷ xs) h.1.1.1.1)

-- each operand of a command in range is in its range
pub operands_in_range : (command : Command) → IsCommandInRange command
    → AllByRecursion IsInRange (operands command)
operands_in_range command h = all_of_each IsInRange (operands command) h

length_low : (os : List Operand) → AllByRecursion IsInRange os → length_in (object_in os) ≤ 65535
length_low [] h = omega arith
length_low (Length kind n ∷ os) h = h.0
length_low (_ ∷ os) h = length_low os h.1

-- and makes no object that is too long
pub length_in_range : (command : Command) → IsCommandInRange command → length_made command ≤ 65535
length_in_range command h = length_low (operands command) (operands_in_range command h)

-- the parts of what it is to be in bounds
abbrev pub BoundParts : Config → Command → Type 0
BoundParts c k =
    IsCommandInRange k × (blocks_of c.width k ≤ c.object) × (requested_units k ≤ 131070)
    × IsOfVersion (signature k).version c.width

pub bounds_are : (c : Config) (k : Command) → BoundParts c k ↔ IsCommandInBounds c k
bounds_are c k = (
  λ p. record { range = p.0; blocks = p.1; units = p.2; version = p.3 },
  λ h. (h.range, h.blocks, h.units, h.version),
)

-- a command in range that makes no object and no units, and is of this version
pub plain_fits : {c : Config} {k : Command} → object_made k ≡ None → requested_units k ≡ 0
    → IsOfVersion (signature k).version c.width → IsCommandInRange k → IsCommandInBounds c k
plain_fits {c} {k} none untold version range = record {
  range = range;
  blocks = subst (λ o. blocks_in c.width o ≤ c.object) (sym none) (omega arith);
  units = omega (arith, untold);
  version = version;
}

-- an object takes no more blocks than one object may
pub blocks_low : (c : Config) (k : Command) → IsCommandInBounds c k → blocks_of c.width k ≤ c.object
blocks_low c k h = h.blocks

-- a command is told of few units
pub told_low : (c : Config) (k : Command) → IsCommandInBounds c k → requested_units k ≤ 131070
told_low c k h = h.units

-- the command at any place of a trace is in bounds, and so is what represents none
pub bounds_at : (c : Config) (ks : List Command) (i : ℕ) → AllByRecursion (IsCommandInBounds c) ks → IsCommandInBounds c (get_or ks i (commands.Nil 0))
bounds_at c ks i all = elim (cases_lt i (length ks)) [
  | inl low ↦ All-from_recursion (IsCommandInBounds c) ks all i (commands.Nil 0) low
  | inr out ↦ subst (λ k. IsCommandInBounds c k) (sym (get_or_past ks i (commands.Nil 0) out)) (record { range = omega arith; blocks = omega arith; units = omega arith; version = tt })
]

-- the numbers of a command in range are below 2 ^ 62
pub operand_low : (o : Operand) → IsInRange o → value_of o < 2 ^ 62
operand_low (Register role r) h = omega (arith, h)
operand_low _ h = omega (arith, h)

pub operands_low : (os : List Operand) → AllByRecursion IsInRange os
    → AllByRecursion (λ n. n < 2 ^ 62) (map value_of os)
operands_low [] h = tt
operands_low (o ∷ os) h = (operand_low o h.0, operands_low os h.1)
