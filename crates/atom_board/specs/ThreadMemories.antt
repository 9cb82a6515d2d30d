-- A seat with one thread makes event after event of it: the proof of what its memory says, which an
-- impl can't take from proofs/.
use Rattle.std.proofs.Common.{◌≡◌, ℕ, ◌+◌, ◌<◌, false, [], subst, sym, ap, ◌∙◌}
use Rattle.atomic_table.specs.Table as table
use Rattle.atomic_table.specs.Seated.{TableId}
use Rattle.block_store.specs.Places.{extent, words_count}
use Rattle.heap_machine.specs.Operations.{op_place}
use Rattle.heap_system.specs.Locals.{LocalState, LocalReads, is_done, local_got, op_wanted}
use Rattle.atom_board.specs.declared.rules.View.{View}
use Rattle.atom_board.specs.Boards.{one_view, turns_in, got_of, AllRead, AllEndAlone, moves_on}
use Rattle.atom_board.specs.LoneTurns.{EndsAlone}
use Rattle.atom_board.specs.Ports.{MayTurn, HasTurned, HasThread}

pub may_turn : (me : table.Me Unit View) (own shared : TableId) (l : LocalState)
    → HasThread me own shared l → is_done l ≡ false
    → op_place (op_wanted l) < words_count (extent l.config)
    → MayTurn me own shared (op_wanted l)
may_turn me own shared l has going low = record {
  local = l;
  turns = turns_in me.0.locals;
  knows = has.knows;
  going = going;
  wants = λ i. op_wanted l;
  place = subst (λ n. op_place (op_wanted l) < n)
      (sym has.words ∙ ap (λ (t : TableId). t.words) has.table) low;
  table = has.table;
  slots = sym (ap (λ (t : TableId). t.slots) has.table) ∙ has.slots;
}

pub reads_well : (me : table.Me Unit View) (own shared : TableId) (l : LocalState)
    → HasThread me own shared l → (w : ℕ) (after : table.Me Unit View) → moves_on me w after
    → LocalReads l.config l w
reads_well me own shared l has w after moved =
    (subst (λ (x : table.Me Unit View). AllRead x.0.locals w) has.knows moved.1).0

-- it has made one turn more
pub one_more : (me : table.Me Unit View) (own shared : TableId) (l : LocalState)
    → HasThread me own shared l → (w : ℕ) (after : table.Me Unit View) → moves_on me w after
    → turns_in after.0.locals ≡ turns_in me.0.locals + 1
one_more me own shared l has w after moved =
    ap (λ (x : table.Me Unit View). turns_in x.0.locals)
    (moved.0 ∙ ap (λ x. got_of x w) has.knows)

pub still_has : (me : table.Me Unit View) (own shared : TableId) (l : LocalState)
    → HasThread me own shared l → (w id id_after : ℕ) (own_after : TableId)
    (after : table.Me Unit View) → HasTurned own id me w own_after id_after after
    → HasThread after own_after shared (local_got l w)
still_has me own shared l has w id id_after own_after after turned =
    let moved = turned.2 in
    let more = one_more me own shared l has w after moved in
    let knows : after ≡ (one_view (local_got l w) (turns_in me.0.locals + 1), []) =
    moved.0 ∙ ap (λ x. got_of x w) has.knows in
    record {
      knows = knows ∙ ap (λ n. (one_view (local_got l w) n, [])) (sym more);
      words = ap (λ (t : TableId). t.words) turned.0 ∙ has.words;
      slots = ap (λ (t : TableId). t.slots) turned.0 ∙ has.slots;
      table = turned.0 ∙ has.table;
      few = subst (λ n. EndsAlone (local_got l w) n) (sym more)
          (subst (λ (x : table.Me Unit View). AllEndAlone (got_of x w).0.locals) has.knows
          moved.2).0;
    }
