use Rattle.std.proofs.Common.{◌≢◌, ◌≤◌, ◌<◌, ℕ, length, get_or}
use Rattle.atom_board.specs.Mutators.{MutatorState}
use Rattle.atom_board.proofs.board.place_of.Given as goal

abbrev pub invariant-loop-j : goal.invariant-loop-j
invariant-loop-j l = (k : ℕ) (d : MutatorState) → l.from ≤ k → k < l.j → k < length l.who → (get_or l.who k d).local.thread ≢ l.thread
