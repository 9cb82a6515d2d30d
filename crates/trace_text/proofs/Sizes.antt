-- The sizes of a command: the tests of a line against the ranges of a command.
use Rattle.std.proofs.Common.{◌≡◌, ℕ, ◌^◌, ◌<◌, ◌≤◌, ◌↔◌, Bool, true, false, cond, leb, ltb, not, ◌||◌, IsTrue, List, [], ◌∷◌, length, Ok, Err, refl, arith}
use Rattle.std.specs.List.{AllByRecursion, list_any}
use Rattle.std.proofs.lemmas.Bool.Decides.{nat_tests}
use Rattle.std.proofs.lemmas.Bool.{or_parts}
use Rattle.block_store.specs.declared.Config.{Config}
use Rattle.block_store.specs.declared.TheConstants.{REGISTERS}
use Rattle.never_heap.specs.declared.Command.{Command}
use Rattle.never_heap.specs.Bounds.{IsCommandInBounds}
use Rattle.never_heap.specs.LiveBlocks.{blocks_of_kind}
use Rattle.never_heap.specs.Signatures.{Operand, Register, Length, Field, Number, Units, IsInRange, object_in, operands, registers_in, sizes_in, units_in}
use Rattle.never_heap.specs.Steps.{blocks_in}
use Rattle.never_heap.proofs.Lemmas.{all_of_each, each_of_all, operands_in_range}
use Rattle.trace_text.specs.declared.trace_faults.Why.TheVariants as whys
use Rattle.trace_text.specs.declared.reading.lines.Line.TheVariants.{Told}
use Rattle.trace_text.specs.declared.reading.lines.Place.{Place}
use Rattle.trace_text.specs.Said.{HasRegisters, IsOfWidth, is_large, is_oversized, fitted}
use Rattle.trace_text.proofs.CommandWords.{spelled}

short : (n blocks most : ℕ) → (ltb 65535 n || ltb most blocks) ≡ false
    → (n ≤ 65535) × (blocks ≤ most)
short n blocks most e = (grind (arith, nat_tests), grind (arith, nat_tests))

is_short : (n blocks most : ℕ) → n ≤ 65535 → blocks ≤ most
    → (ltb 65535 n || ltb most blocks) ≡ false
is_short n blocks most h i =
    let long : ltb 65535 n ≡ false = grind (arith, nat_tests) in
    let large : ltb most blocks ≡ false = grind (arith, nat_tests) in
    rw (long, large) refl

small : (n : ℕ) → leb (2 ^ 62) n ≡ false → n < 2 ^ 62
small n e = grind (arith, nat_tests)

is_small : (n : ℕ) → n < 2 ^ 62 → leb (2 ^ 62) n ≡ false
is_small n h = grind (arith, nat_tests)

few_units : (u : ℕ) → ltb 131070 u ≡ false → u ≤ 131070
few_units u e = grind (arith, nat_tests)

are_few : (u : ℕ) → u ≤ 131070 → ltb 131070 u ≡ false
are_few u h = grind (arith, nat_tests)

-- ---- operands of which none is too large

all_in_range : (c : Config) (os : List Operand)
    → AllByRecursion (λ r. r < REGISTERS) (registers_in os) → list_any (is_large c) os ≡ false
    → AllByRecursion IsInRange os
all_in_range c [] h e = tt
all_in_range c (Register role r ∷ os) h e = (h.0, all_in_range c os h.1 e)
all_in_range c (Length kind n ∷ os) h e =
    let p = or_parts (is_large c (Length kind n)) (list_any (is_large c) os) e in
    ((short n (blocks_of_kind c.width kind n) c.object p.0).0, all_in_range c os h p.1)
all_in_range c (Field access i ∷ os) h e =
    let p = or_parts (is_large c (Field access i)) (list_any (is_large c) os) e in
    (small i p.0, all_in_range c os h p.1)
all_in_range c (Number n ∷ os) h e =
    let p = or_parts (is_large c (Number n)) (list_any (is_large c) os) e in
    (small n p.0, all_in_range c os h p.1)
all_in_range c (Units u ∷ os) h e =
    let p = or_parts (is_large c (Units u)) (list_any (is_large c) os) e in
    (omega (arith, few_units u p.0), all_in_range c os h p.1)

blocks_fit : (c : Config) (os : List Operand) → list_any (is_large c) os ≡ false
    → blocks_in c.width (object_in os) ≤ c.object
blocks_fit c [] e = omega arith
blocks_fit c (Length kind n ∷ os) e =
    (short n (blocks_of_kind c.width kind n) c.object
    (or_parts (is_large c (Length kind n)) (list_any (is_large c) os) e).0).1
blocks_fit c (Register role r ∷ os) e = blocks_fit c os e
blocks_fit c (Field access i ∷ os) e =
    blocks_fit c os (or_parts (is_large c (Field access i)) (list_any (is_large c) os) e).1
blocks_fit c (Number n ∷ os) e =
    blocks_fit c os (or_parts (is_large c (Number n)) (list_any (is_large c) os) e).1
blocks_fit c (Units u ∷ os) e =
    blocks_fit c os (or_parts (is_large c (Units u)) (list_any (is_large c) os) e).1

units_fit : (c : Config) (os : List Operand) → list_any (is_large c) os ≡ false
    → units_in os ≤ 131070
units_fit c [] e = omega arith
units_fit c (Units u ∷ os) e =
    few_units u (or_parts (is_large c (Units u)) (list_any (is_large c) os) e).0
units_fit c (Register role r ∷ os) e = units_fit c os e
units_fit c (Length kind n ∷ os) e =
    units_fit c os (or_parts (is_large c (Length kind n)) (list_any (is_large c) os) e).1
units_fit c (Field access i ∷ os) e =
    units_fit c os (or_parts (is_large c (Field access i)) (list_any (is_large c) os) e).1
units_fit c (Number n ∷ os) e =
    units_fit c os (or_parts (is_large c (Number n)) (list_any (is_large c) os) e).1

-- a command of registers that is not oversized is in its ranges
pub in_ranges : (c : Config) (command : Command) → HasRegisters command → IsOfWidth c.width command
    → is_oversized c command ≡ false → IsCommandInBounds c command
in_ranges c command h o e =
    let all = all_in_range c (operands command) (all_of_each _ (registers_in (operands command)) h) e
    in
    record {
      range = each_of_all IsInRange (operands command) all;
      blocks = blocks_fit c (operands command) e;
      units = units_fit c (operands command) e;
      version = o;
    }

-- ---- operands in their ranges

-- registers alone are not too large
registers_fit : (c : Config) (os : List Operand) → length (sizes_in os) ≤ 0
    → list_any (is_large c) os ≡ false
registers_fit c [] few = refl
registers_fit c (Register role r ∷ os) few = registers_fit c os few
registers_fit c (_ ∷ os) few = absurd (omega (arith, few))

operands_fit : (c : Config) (os : List Operand) → AllByRecursion IsInRange os
    → blocks_in c.width (object_in os) ≤ c.object → units_in os ≤ 131070
    → length (sizes_in os) ≤ 1 → list_any (is_large c) os ≡ false
operands_fit c [] h blocks units one = refl
operands_fit c (Register role r ∷ os) h blocks units one = operands_fit c os h.1 blocks units one
operands_fit c (Length kind n ∷ os) h blocks units one =
    rw (is_short n (blocks_of_kind c.width kind n) c.object h.0 blocks)
    (registers_fit c os (omega (arith, one)))
operands_fit c (Field access i ∷ os) h blocks units one =
    rw (is_small i h.0) (registers_fit c os (omega (arith, one)))
operands_fit c (Number n ∷ os) h blocks units one =
    rw (is_small n h.0) (registers_fit c os (omega (arith, one)))
operands_fit c (Units u ∷ os) h blocks units one =
    rw (are_few u units) (registers_fit c os (omega (arith, one)))

-- a command in its ranges is not oversized
pub not_oversized : (c : Config) (command : Command) → IsCommandInBounds c command
    → is_oversized c command ≡ false
not_oversized c command h =
    operands_fit c (operands command) (operands_in_range command h.range) h.blocks h.units
    (spelled command).one

tested : (x b : Bool) (P : Type 0) → IsTrue b ↔ P → (x ≡ false → P) → (P → x ≡ false)
    → x ≡ not b
tested true true P i from to = let no : true ≡ false = to (i.0 refl) in absurd cc
tested true false P i from to = refl
tested false true P i from to = refl
tested false false P i from to = let no : false ≡ true = i.1 (from refl) in absurd cc

-- what the test of a command's ranges says of its sizes
pub told_is : (p : Place) (command : Command) (fits : Bool) → HasRegisters command
    → IsOfWidth p.config.width command
    → IsTrue fits ↔ IsCommandInBounds p.config command
    → fitted p command ≡ cond (not fits || p.full) (Err whys.Size) (Ok (Told command))
told_is p command fits h o is =
    rw (tested (is_oversized p.config command) fits (IsCommandInBounds p.config command) is
    (in_ranges p.config command h o) (not_oversized p.config command)) refl
