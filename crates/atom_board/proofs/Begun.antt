-- How many commands a thread has begun: its events begin one where it is at rest, and undo none.
use Rattle.std.proofs.Common.{ℕ, ◌+◌, ◌<◌, ◌≤◌, ◌≡◌, Bool, true, false, cond, ltb, Option, Some, None, List, [], ◌∷◌, ◌++◌, length, length-append, refl, ap, subst, arith}
use Rattle.block_store.specs.declared.Config.{Config}
use Rattle.block_store.specs.declared.PhaseWord.{PhaseWord}
use Rattle.block_store.specs.Phases.{bit}
use Rattle.block_store.specs.Places.{extent}
use Rattle.never_heap.specs.declared.Command.{Command}
use Rattle.never_heap.specs.declared.Entry.{Entry}
use Rattle.never_heap.specs.declared.Reply.{Reply}
use Rattle.never_heap.specs.Steps.{blocks_of}
use Rattle.heap_machine.specs.Gates.{gate_got, gate_step, gate_entered}
use Rattle.heap_machine.specs.Memories.{Acts}
use Rattle.heap_machine.specs.declared.pass.Pass.{Pass}
use Rattle.heap_machine.specs.declared.gate.GateRow.{GateRow}
use Rattle.heap_machine.specs.declared.gate.GateRow.TheVariants as gates
use Rattle.grey_steps.specs.Rows.{grey_got, grey_over, grey_nothing, scanning}
use Rattle.barrier_steps.specs.Rows.{at_first_row, field_got, field_reply}
use Rattle.sweep_steps.specs.Rows.{sweep_got, sweep_over, sweep_nothing, sweeping}
use Rattle.build_steps.specs.Rows.{build_got, build_reply, building}
use Rattle.heap_system.specs.declared.Turn.{Turn}
use Rattle.heap_system.specs.Locals.{LocalState, Errand, command_of, effect, entries_of, entry_of, errand_of, first_part, if_entered, if_over, if_replied, if_turned, is_last, is_rest, local_got, part_got, pass_by}
use Rattle.heap_system.specs.Parts.{Part, Rest, Enter, Access, Mark, Sweep, Build, Retry, LeaveToChangePhase, PhaseChange, Leave}
use Rattle.heap_system.specs.ThreadMemories.{HasRunOn, Ran}
use Rattle.atom_board.specs.Drives.{commands_begun, has_begun}

first_begun : (c : Config) (p : Pass) (e : Errand) → has_begun (first_part c p e) ≡ true
first_begun c p e = by (ltb 0 e.due) p.sweep (ltb 0 (blocks_of c.width e.command))
  where
    by : (due sweep builds : Bool) → has_begun (cond due
        (cond sweep (Sweep (sweeping p.thread p.cycle c.blocks e.due)) (Mark (scanning p)))
        (cond builds
        (Build (building c.width p.thread p.threads p.cycle e.serial e.command e.space))
        (Access (at_first_row p e.command)))) ≡ true
    by true true builds = refl
    by true false builds = refl
    by false sweep true = refl
    by false sweep false = refl

entered_begun : (o : Option PhaseWord) (c : Config) (t : ℕ) (e : Errand) (g : GateRow)
    → has_begun (if_entered o c t e g) ≡ true
entered_begun None c t e g = refl
entered_begun (Some p) c t e g = first_begun c (pass_by t c.threads p) e

over_begun : (over nothing : Bool) (p : Part) → has_begun p ≡ true
    → has_begun (if_over over nothing p) ≡ true
over_begun true true p is = refl
over_begun true false p is = refl
over_begun false nothing p is = is

turned_begun : (over : Bool) (g : GateRow) → has_begun (if_turned over g) ≡ true
turned_begun true g = refl
turned_begun false g = refl

-- an event that brings no reply, and after which a command is in hand
stays : (log : List Entry) (b : Bool) → b ≡ true → length log + 1 ≤ length (log ++ []) + bit b
stays log b is =
    let same : length (log ++ []) ≡ length log + 0 = length-append log [] in
    let one : bit b ≡ 1 = ap bit is in omega (arith, same, one)

-- an event of a command's own part, with its reply or without
replies : (t : ℕ) (k : Command) (work : ℕ) (log : List Entry) (o : Option Reply) (p : Part)
    → has_begun p ≡ true
    → length log + 1 ≤ length (log ++ entries_of t k work o) + bit (has_begun (if_replied o p))
replies t k work log None p is = stays log (has_begun p) is
replies t k work log (Some r) p is =
    let same : length (log ++ entry_of t k work r ∷ []) ≡ length log + 1 =
    length-append log (entry_of t k work r ∷ []) in omega (arith, same)

module _ (c : Config) (t : ℕ) (k : Command) (work : ℕ) (e : Errand) (q : Pass) (log : List Entry) where
  rest_begins : (w : ℕ) → length log + 1
      ≤ length (log ++ entries_of t k work (effect c Rest w).reply)
      + bit (has_begun (part_got c t e q Rest w))
  rest_begins w = stays log (has_begun (part_got c t e q Rest w))
      (entered_begun (gate_entered (gate_got c.width gates.Look w)) c t e (gate_got c.width gates.Look w))

  part_begun : (p : Part) (w : ℕ) → length log + bit (has_begun p)
      ≤ length (log ++ entries_of t k work (effect c p w).reply)
      + bit (has_begun (part_got c t e q p w))
  part_begun Rest w = let more = rest_begins w in omega (arith, more)
  part_begun (Enter g) w = stays log (has_begun (part_got c t e q (Enter g) w))
      (entered_begun (gate_entered (gate_got c.width g w)) c t e (gate_got c.width g w))
  part_begun (Access f) w = replies t k work log (field_reply (field_got (extent c) f w).row)
      (Access (field_got (extent c) f w)) refl
  part_begun (Mark m) w = stays log (has_begun (part_got c t e q (Mark m) w))
      (over_begun (grey_over (grey_got (extent c) m w).row) (grey_nothing (grey_got (extent c) m w).row)
      (Mark (grey_got (extent c) m w)) refl)
  part_begun (Sweep s) w = stays log (has_begun (part_got c t e q (Sweep s) w))
      (over_begun (sweep_over (sweep_got s w).row) (sweep_nothing (sweep_got s w).row)
      (Sweep (sweep_got s w)) refl)
  part_begun (Build b) w = replies t k work log (build_reply (build_got (extent c) b w))
      (Build (build_got (extent c) b w)) refl
  part_begun Retry w = stays log true refl
  part_begun LeaveToChangePhase w = stays log true refl
  part_begun (PhaseChange g) w = stays log (has_begun (part_got c t e q (PhaseChange g) w))
      (turned_begun (is_last (gate_step g w)) (gate_got c.width g w))
  part_begun Leave w =
      let same : length (log ++ []) ≡ length log + 0 = length-append log [] in omega (arith, same)

local_begun : (l : LocalState) (w : ℕ) → commands_begun l ≤ commands_begun (local_got l w)
local_begun l w =
    part_begun l.config l.thread (command_of l) l.spent (errand_of l) l.pass l.log l.part w

rest_begun : (l : LocalState) (w : ℕ) → is_rest l.part ≡ true
    → length l.log + 1 ≤ commands_begun (local_got l w)
rest_begun l w is = by l.part is
  where
    by : (p : Part) → is_rest p ≡ true → length l.log + 1
        ≤ length (l.log ++ entries_of l.thread (command_of l) l.spent (effect l.config p w).reply)
        + bit (has_begun (part_got l.config l.thread (errand_of l) l.pass p w))
    by Rest is =
        rest_begins l.config l.thread (command_of l) l.spent (errand_of l) l.pass l.log w
    by _ is = absurd cc

module _ {M S : Type 0} (acts : Acts M S) (s : S) where
  ran_begun : (m : M) (l : LocalState) (ws : List ℕ) (n : M) (k : LocalState)
      → Ran acts s m l ws n k → commands_begun l ≤ commands_begun k
  ran_begun m l [] n k ran = subst (λ x. commands_begun l ≤ commands_begun x) ran.1 (omega arith)
  ran_begun m l (w ∷ ws) n k ran =
      let one = local_begun l w in
      let more = ran_begun ran.0 (local_got l w) ws n k ran.3 in omega (arith, one, more)

  ran_from_rest : (m : M) (l : LocalState) (ws : List ℕ) (n : M) (k : LocalState)
      → Ran acts s m l ws n k → 0 < length ws → is_rest l.part ≡ true
      → length l.log + 1 ≤ commands_begun k
  ran_from_rest m l [] n k ran some is = absurd (omega (arith, some))
  ran_from_rest m l (w ∷ ws) n k ran some is =
      let one = rest_begun l w is in
      let more = ran_begun ran.0 (local_got l w) ws n k ran.3 in omega (arith, one, more)

  -- A pace that was told of this command where its thread is at rest, and else of none that has not
  -- begun, was told of none that has not begun after some events.
  pub told_on : (next : ℕ) (m : M) (l : LocalState) (n : M) (k : LocalState) (turn : Turn)
      → HasRunOn acts s m l n k turn → (is_rest l.part ≡ true → next ≡ length l.log + 1)
      → (is_rest l.part ≡ false → next ≤ commands_begun l) → next ≤ commands_begun k
  told_on next m l n k turn run told begun = by (is_rest l.part) refl
    where
      by : (b : Bool) → is_rest l.part ≡ b → next ≤ commands_begun k
      by true is =
          let first = told is in
          let more = ran_from_rest m l run.0.words n k run.0.ran run.1 is in
          omega (arith, first, more)
      by false is =
          let few = begun is in
          let more = ran_begun m l run.0.words n k run.0.ran in omega (arith, few, more)

-- at rest a thread has begun what its log has
pub untold : (l : LocalState) (next : ℕ) → is_rest l.part ≡ true → next ≤ commands_begun l
    → next ≤ length l.log
untold l next is few = by l.part is few
  where
    by : (p : Part) → is_rest p ≡ true → next ≤ length l.log + bit (has_begun p)
        → next ≤ length l.log
    by Rest is few = omega (arith, few)
    by _ is few = absurd cc
