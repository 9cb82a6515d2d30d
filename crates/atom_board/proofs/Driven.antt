-- A thread that is driven on.
use Rattle.std.proofs.Common.{ℕ, ◌+◌, List, [], ◌∷◌, ◌++◌, refl, subst, arith}
use Rattle.atomic_table.specs.Table as table
use Rattle.atomic_table.specs.Seated.{TableId}
use Rattle.heap_machine.specs.declared.op.Op.{Op}
use Rattle.heap_machine.specs.Memories.{Acts}
use Rattle.heap_system.specs.ThreadMemories.{HasRunOn, Ran}
use Rattle.heap_system.specs.declared.Turn.{Turn}
use Rattle.heap_system.specs.Locals.{LocalState, local_got, op_wanted, entries_of, effect, command_of}
use Rattle.heap_system.proofs.Lemmas.{ran_on}
use Rattle.atom_board.specs.declared.rules.View.{View}
use Rattle.atom_board.specs.Boards.{turns_in}
use Rattle.atom_board.specs.ThreadMemories.{one_more, still_has}
use Rattle.atom_board.specs.Drives.{HasDriven, MadeTurns}
use Rattle.atom_board.specs.Mutators.{MutatorState, IsLater}
use Rattle.atom_board.specs.Ports.{HasThread, HasTurned}
use Rattle.atom_board.proofs.Laters.{later_on, later_same}

pub driven_none : {M S : Type 0} (acts : Acts M S) (s : S) (m : M) (l : LocalState)
    → HasDriven acts s m l m l
driven_none acts s m l = record { words = []; ran = (refl, refl) }

pub driven_on : {M S : Type 0} (acts : Acts M S) (s : S) (m : M) (l : LocalState) (n : M)
    (k : LocalState) (o : M) (j : LocalState) (turn : Turn) → HasDriven acts s m l n k
    → HasRunOn acts s n k o j turn → HasDriven acts s m l o j
driven_on acts s m l n k o j turn is more = record {
  words = is.words ++ more.0.words;
  ran = ran_on acts s m l is.words n k more.0.words o j is.ran more.0.ran;
}

-- a mutator as its seat and its thread have it
abbrev pub seen : (me : table.Me Unit View) (own : TableId) (l : LocalState) → MutatorState
seen me own l = record { board = own; local = l; turns = turns_in me.0.locals }

-- the events of a seat's thread are its turns
module _ {M S : Type 0} (acts : Acts M S) (me : M → table.Me Unit View) (own : M → TableId)
    (id : M → ℕ) (shared : S → TableId)
    (turned : (m : M) (s : S) (o : Op) (w : ℕ) (n : M) → acts m s o w n
    → HasTurned (own m) (id m) (me m) w (own n) (id n) (me n)) where
  pub driven_turns : (s : S) (m : M) (l : LocalState) (ws : List ℕ) (n : M) (k : LocalState)
      → HasThread (me m) (own m) (shared s) l → Ran acts s m l ws n k
      → MadeTurns (seen (me m) (own m) l) ws (seen (me n) (own n) k)
  driven_turns s m l [] n k has ran = λ i. seen (me (ran.0 i)) (own (ran.0 i)) (ran.1 i)
  driven_turns s m l (w ∷ ws) n k has ran =
      let by = turned m s (op_wanted l) w ran.0 ran.1 in
      let first = one_more (me m) (own m) (shared s) l has w (me ran.0) by.2 in
      let rest = driven_turns s ran.0 (local_got l w) ws n k
      (still_has (me m) (own m) (shared s) l has w (id m) (id ran.0) (own ran.0) (me ran.0) by) ran.3 in (
        ran.4.0,
        ran.2,
        subst (λ x. MadeTurns x ws (seen (me n) (own n) k))
            (λ i. record { board = by.0 i; local = local_got l w; turns = first i }) rest,
      )

-- it is a later one
pub made_later : (a : MutatorState) (ws : List ℕ) (b : MutatorState) → MadeTurns a ws b → IsLater a b
made_later a [] b made = subst (λ x. IsLater a x) made (later_same a)
made_later a (w ∷ ws) b made =
    let l = a.local in
    let next : MutatorState = record a { local = local_got l w; turns = a.turns + 1 } in
    later_on a next b (record {
      board = refl;
      config = refl;
      thread = refl;
      trace = refl;
      turns = omega arith;
      more = entries_of l.thread (command_of l) l.spent (effect l.config l.part w).reply;
      log = refl;
    }) (made_later next ws b made.2)
