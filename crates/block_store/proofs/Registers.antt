-- Where registers are, over both widths.
use Rattle.std.proofs.Common.{◌≡◌, ℕ, ◌+◌, ◌-◌, ◌*◌, ◌/◌, ◌%◌, ◌<◌, ◌≤◌, refl, arith}
use Rattle.block_store.specs.declared.Width.{Width}
use Rattle.block_store.specs.declared.Width.TheVariants.{Four, Eight}
use Rattle.block_store.specs.declared.TheConstants.{REGISTERS}
use Rattle.block_store.specs.Widths.{payloads, register_blocks}
use Rattle.block_store.specs.Registers.{root_block, register_block, register_slot, registers_end, register_thread, register_ordinal}

-- the numbers by the width's two
pub root_by : (w : Width) (t : ℕ) → root_block w t ≡ register_blocks w * t + 1
root_by Four t = refl
root_by Eight t = refl

pub block_by : (w : Width) (t r : ℕ)
    → register_block w t r ≡ register_blocks w * t + 2 + r / payloads w
block_by Four t r = refl
block_by Eight t r = refl

pub slot_by : (w : Width) (r : ℕ) → register_slot w r ≡ r % payloads w
slot_by Four r = refl
slot_by Eight r = refl

pub end_by : (w : Width) (n : ℕ) → registers_end w n ≡ register_blocks w * n
end_by Four n = refl
end_by Eight n = refl

pub thread_by : (w : Width) (x : ℕ) → register_thread w x ≡ (x - 1) / register_blocks w
thread_by Four x = refl
thread_by Eight x = refl

pub ordinal_by : (w : Width) (x : ℕ) → register_ordinal w x ≡ (x - 1) % register_blocks w
ordinal_by Four x = refl
ordinal_by Eight x = refl

-- the bounds of a width
pub wide : (w : Width) → (4 ≤ payloads w) × (payloads w ≤ 8)
wide Four = (omega arith, omega arith)
wide Eight = (omega arith, omega arith)

pub arrays_small : (w : Width) → (3 ≤ register_blocks w) × (register_blocks w ≤ 5)
arrays_small Four = (omega arith, omega arith)
arrays_small Eight = (omega arith, omega arith)

-- the arrays lie one after the other, from block 1 on
pub root_first : (w : Width) → root_block w 0 ≡ 1
root_first Four = refl
root_first Eight = refl

pub root_some : (w : Width) (t : ℕ) → 1 ≤ root_block w t
root_some Four t = omega arith
root_some Eight t = omega arith

pub root_end : (w : Width) (t : ℕ) → root_block w t ≡ registers_end w t + 1
root_end Four t = refl
root_end Eight t = refl

pub root_next : (w : Width) (t : ℕ) → root_block w (t + 1) ≡ root_block w t + register_blocks w
root_next Four t = omega arith
root_next Eight t = omega arith

pub root_low : (w : Width) (n t : ℕ) → t < n
    → root_block w t + register_blocks w ≤ registers_end w n + 1
root_low Four n t h = omega arith
root_low Eight n t h = omega arith

pub one_root : (w : Width) (t u : ℕ) → root_block w t ≡ root_block w u → t ≡ u
one_root Four t u e = omega arith
one_root Eight t u e = omega arith

-- the arrays of at most 16 threads
pub end_few : (w : Width) (n : ℕ) → n ≤ 16 → registers_end w n ≤ 80
end_few Four n h = omega arith
end_few Eight n h = omega arith

pub end_some : (w : Width) (n : ℕ) → 1 ≤ n → 3 ≤ registers_end w n
end_some Four n h = omega arith
end_some Eight n h = omega arith

-- more threads, more blocks
pub end_more : (w : Width) (n m : ℕ) → n ≤ m → registers_end w n ≤ registers_end w m
end_more Four n m h = omega arith
end_more Eight n m h = omega arith

-- a register is in a block of its thread's array, after the root
pub slot_low : (w : Width) (r : ℕ) → register_slot w r < payloads w
slot_low Four r = omega arith
slot_low Eight r = omega arith

pub behind_root : (w : Width) (t r : ℕ) → root_block w t < register_block w t r
behind_root Four t r = omega arith
behind_root Eight t r = omega arith

pub in_array : (w : Width) (t r : ℕ) → r < REGISTERS → register_block w t r < root_block w (t + 1)
in_array Four t r h = omega arith
in_array Eight t r h = omega arith

pub register_some : (w : Width) (t r : ℕ) → 1 ≤ register_block w t r
register_some Four t r = omega arith
register_some Eight t r = omega arith

pub register_low : (w : Width) (n t r : ℕ) → t < n → r < REGISTERS
    → register_block w t r ≤ registers_end w n
register_low Four n t r h l = omega arith
register_low Eight n t r h l = omega arith

-- no register is in the root of an array
pub not_root : (w : Width) (t r u : ℕ) → r < REGISTERS → register_block w t r ≡ root_block w u → ⊥
not_root Four t r u l e = omega arith
not_root Eight t r u l e = omega arith

-- two registers at one place are one
pub one_register : (w : Width) (t r u q : ℕ) → r < REGISTERS → q < REGISTERS
    → register_block w t r ≡ register_block w u q → register_slot w r ≡ register_slot w q
    → (t ≡ u) × (r ≡ q)
one_register Four t r u q l m e f = (omega arith, omega arith)
one_register Eight t r u q l m e f = (omega arith, omega arith)

-- the registers that are in blocks of their own thread alone
pub own_array : (w : Width) (t r u q : ℕ) → r < REGISTERS → q < REGISTERS
    → register_block w t r ≡ register_block w u q → t ≡ u
own_array Four t r u q l m e = omega arith
own_array Eight t r u q l m e = omega arith

-- which thread's array a block is of, and which of its blocks
pub thread_of : (w : Width) (t o : ℕ) → o < register_blocks w
    → register_thread w (root_block w t + o) ≡ t
thread_of Four t o h = omega arith
thread_of Eight t o h = omega arith

pub ordinal_of : (w : Width) (t o : ℕ) → o < register_blocks w
    → register_ordinal w (root_block w t + o) ≡ o
ordinal_of Four t o h = omega arith
ordinal_of Eight t o h = omega arith

pub thread_low : (w : Width) (n x : ℕ) → 1 ≤ x → x ≤ registers_end w n → register_thread w x < n
thread_low Four n x h l = omega arith
thread_low Eight n x h l = omega arith

pub ordinal_low : (w : Width) (x : ℕ) → register_ordinal w x < register_blocks w
ordinal_low Four x = omega arith
ordinal_low Eight x = omega arith

pub block_is : (w : Width) (x : ℕ) → 1 ≤ x
    → x ≡ root_block w (register_thread w x) + register_ordinal w x
block_is Four x h = omega arith
block_is Eight x h = omega arith

-- the root is the block of ordinal 0
pub root_thread : (w : Width) (t : ℕ) → register_thread w (root_block w t) ≡ t
root_thread Four t = omega arith
root_thread Eight t = omega arith

pub root_ordinal : (w : Width) (t : ℕ) → register_ordinal w (root_block w t) ≡ 0
root_ordinal Four t = omega arith
root_ordinal Eight t = omega arith

pub root_is : (w : Width) (x : ℕ) → 1 ≤ x → register_ordinal w x ≡ 0
    → x ≡ root_block w (register_thread w x)
root_is Four x h e = omega arith
root_is Eight x h e = omega arith

pub root_in : (w : Width) (n t : ℕ) → t < n → root_block w t ≤ registers_end w n
root_in Four n t h = omega arith
root_in Eight n t h = omega arith

-- the ordinal of a register's block, after the root
pub register_ordinal_of : (w : Width) (t r : ℕ) → r < REGISTERS
    → register_ordinal w (register_block w t r) ≡ 1 + r / payloads w
register_ordinal_of Four t r h = omega arith
register_ordinal_of Eight t r h = omega arith

pub register_thread_of : (w : Width) (t r : ℕ) → r < REGISTERS
    → register_thread w (register_block w t r) ≡ t
register_thread_of Four t r h = omega arith
register_thread_of Eight t r h = omega arith

-- a block has several payloads
pub many : (w : Width) → 1 < payloads w
many w = omega (arith, (wide w).0)
