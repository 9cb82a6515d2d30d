-- A register array is an array of 16 elements.
use Rattle.std.proofs.Common.{◌≡◌, ℕ, zero, suc, ◌+◌, ◌<◌, refl, arith}
use Rattle.block_store.specs.declared.TheConstants.{REGISTERS}
use Rattle.block_store.specs.declared.Width.{Width}
use Rattle.block_store.specs.declared.Width.TheVariants.{Four, Eight}
use Rattle.block_store.specs.Widths.{payloads, register_blocks}
use Rattle.block_store.specs.Registers.{root_block, register_block, register_slot}
use Rattle.object_lists.specs.Parts.{link_below}
use Rattle.array_trees.specs.Trees.{tree, array_blocks}
use Rattle.array_trees.specs.Levels.{array_part, array_slot, tree_depth}

pub array_of : (w : Width) → register_blocks w ≡ array_blocks w REGISTERS
unfolding tree
array_of Four = refl
array_of Eight = refl

pub slot_of : (w : Width) (t r : ℕ)
    → (register_block w t r ≡ root_block w t + (array_slot w REGISTERS r).0)
    × (register_slot w r ≡ (array_slot w REGISTERS r).1)
unfolding tree
slot_of Four t r = (omega arith, refl)
slot_of Eight t r = (omega arith, refl)

-- the root links to all other blocks
pub root_of : (w : Width) (j : ℕ) → j < payloads w
    → array_part w REGISTERS 0 j ≡ link_below (1 + j) (register_blocks w)
unfolding tree tree_depth
root_of Four zero h = refl
root_of Four (suc zero) h = refl
root_of Four (suc (suc zero)) h = refl
root_of Four (suc (suc (suc zero))) h = refl
root_of Four (suc (suc (suc (suc j)))) h = absurd (omega arith)
root_of Eight zero h = refl
root_of Eight (suc zero) h = refl
root_of Eight (suc (suc zero)) h = refl
root_of Eight (suc (suc (suc zero))) h = refl
root_of Eight (suc (suc (suc (suc zero)))) h = refl
root_of Eight (suc (suc (suc (suc (suc zero))))) h = refl
root_of Eight (suc (suc (suc (suc (suc (suc zero)))))) h = refl
root_of Eight (suc (suc (suc (suc (suc (suc (suc zero))))))) h = refl
root_of Eight (suc (suc (suc (suc (suc (suc (suc (suc j)))))))) h = absurd (omega arith)
