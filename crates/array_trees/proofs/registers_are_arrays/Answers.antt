use Rattle.array_trees.proofs.RegisterArrays.{array_of, slot_of, root_of}
use Rattle.array_trees.proofs.registers_are_arrays.Goals as goal

pub returns : goal.returns
returns c = record { blocks = array_of; slot = λ w t r low. slot_of w t r; root = root_of }
