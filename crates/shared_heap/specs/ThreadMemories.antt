-- A seat with one thread makes one event of it after the other. This is the proof of the laws of
-- `ThreadMemory` for that memory, which an impl can't take from proofs/.
use Rattle.std.proofs.Common.{◌≡◌, ℕ, ◌<◌, ◌+◌, arith, false, [], subst, sym, ap, ◌∙◌}
use Rattle.atomic_table.specs.Table as table
use Rattle.atomic_table.specs.Seated.{TableId}
use Rattle.block_store.specs.Places.{extent, words_count}
use Rattle.heap_machine.specs.Operations.{op_place}
use Rattle.never_heap.specs.declared.Command.{Command}
use Rattle.heap_system.specs.Locals.{LocalState, LocalReads, is_done, local_got, op_wanted}
use Rattle.control_heap.proofs.DroppedHistory.{behind_got, behind_done}
use Rattle.shared_heap.specs.declared.rules.View.{View}
use Rattle.shared_heap.specs.Shared.{AllInTime, AllRead, AllOfRuns, StepsOn, behind, got_of, held, one_view, stepped_past}
use Rattle.shared_heap.specs.Ports.{MayTurn, HasTurned, HasThread}

below : (p n : ℕ) → p < n → p < n + 1
below p n low = omega (arith, low)

pub may_turn : (me : table.Me Command View) (own shared : TableId) (l : LocalState)
    → HasThread me own shared l → is_done l ≡ false
    → op_place (op_wanted l) < words_count (extent l.config)
    → MayTurn me own shared (op_wanted l)
may_turn me own shared l has going low = record {
  one = held (behind has.commands has.entries l) has.past;
  notes = [];
  knows = has.knows;
  going = behind_done has.commands has.entries has.long l ∙ going;
  wants = λ i. op_wanted l;
  place = subst (λ n. op_place (op_wanted l) < n)
      (sym has.words ∙ ap (λ (t : TableId). t.words) has.table)
      (below (op_place (op_wanted l)) (words_count (extent l.config)) low);
  within = low;
  table = has.table;
  slots = sym (ap (λ (t : TableId). t.slots) has.table) ∙ has.slots;
}

pub reads_well : (me : table.Me Command View) (own shared : TableId) (l : LocalState)
    → HasThread me own shared l → (w : ℕ) (after : table.Me Command View) → StepsOn me w after
    → LocalReads l.config l w
reads_well me own shared l has w after moved =
    (subst (λ (x : table.Me Command View). AllRead x.0.threads w) has.knows moved.reads).0

-- what the seat has after an event
pub knows_still : (me : table.Me Command View) (own shared : TableId) (l : LocalState)
    → (has : HasThread me own shared l) → (w : ℕ) (after : table.Me Command View)
    → (step : StepsOn me w after)
    → after ≡ (
      one_view (held (behind has.commands has.entries (local_got l w))
          (stepped_past step.now step.turns has.past)) [],
      [],
    )
knows_still me own shared l has w after step =
    step.moved ∙ ap (λ x. got_of w step.now step.turns x) has.knows
    ∙ ap (λ y. (one_view (held y (stepped_past step.now step.turns has.past)) [], []))
    (behind_got has.commands has.entries has.long l w)

pub still_has : (me : table.Me Command View) (own shared : TableId) (l : LocalState)
    → HasThread me own shared l → (w id id_after : ℕ) (own_after : TableId)
    (after : table.Me Command View) → HasTurned own id me w own_after id_after after
    → HasThread after own_after shared (local_got l w)
still_has me own shared l has w id id_after own_after after turned =
    let step = turned.2 in
    let knows = knows_still me own shared l has w after step in
    record {
      commands = has.commands;
      entries = has.entries;
      past = stepped_past step.now step.turns has.past;
      long = has.long;
      knows = knows;
      told = (subst (λ (x : table.Me Command View). AllOfRuns x.0.threads) knows step.told).0;
      few = (subst (λ (x : table.Me Command View). AllInTime x.0.threads) knows step.few).0;
      words = ap (λ (t : TableId). t.words) turned.0 ∙ has.words;
      slots = ap (λ (t : TableId). t.slots) turned.0 ∙ has.slots;
      table = turned.0 ∙ has.table;
    }
