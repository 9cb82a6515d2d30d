-- A mutator after more turns.
use Rattle.std.proofs.Common.{refl, arith, sym, ap, ◌∙◌, [], ◌++◌, append-nil, append_assoc}
use Rattle.atom_board.specs.Mutators.{MutatorState, IsLater}

pub later_same : (h : MutatorState) → IsLater h h
later_same h = record { board = refl; config = refl; thread = refl; trace = refl; turns = omega arith; more = []; log = sym (append-nil h.local.log) }

pub later_on : (a b d : MutatorState) → IsLater a b → IsLater b d → IsLater a d
later_on a b d f g = record {
  board = g.board ∙ f.board;
  config = g.config ∙ f.config;
  thread = g.thread ∙ f.thread;
  trace = g.trace ∙ f.trace;
  turns = omega (arith, f.turns, g.turns);
  more = f.more ++ g.more;
  log = g.log ∙ ap (λ xs. xs ++ g.more) f.log ∙ append_assoc a.local.log f.more g.more;
}
