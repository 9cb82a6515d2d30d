-- What few operations leave of a worker's lifetime.
use Rattle.std.proofs.Common.{◌≡◌, ℕ, ◌+◌, ◌*◌, ◌≤◌, ◌^◌, arith, subst, sym, ap, ◌∙◌, refl, List, [], ◌∷◌, ◌++◌, length, map}
use Rattle.block_store.specs.declared.Config.{Config}
use Rattle.block_store.specs.declared.Width.{Width}
use Rattle.block_store.specs.declared.Width.TheVariants.{Eight}
use Rattle.rate_plan.specs.Rates.{IsRate}
use Rattle.rate_plan.proofs.Rates.{rate_low}
use Rattle.never_heap.specs.declared.Command.{Command}
use Rattle.never_heap.specs.declared.Entry.{Entry}
use Rattle.never_heap.specs.Histories.{part}
use Rattle.never_heap.specs.RightWork.{units_owed}
use Rattle.heap_system.specs.Lives.{sum_after, objects_of, most_units}
use Rattle.heap_system.specs.Locals.{works}
use Rattle.shared_heap.specs.Workers.{CanOpen, HasSeenIts}
use Rattle.array_tables.specs.declared.tag_table.operation.Operation.{Operation}
use Rattle.array_tables.specs.declared.tag_table.operation.Operation.TheVariants.{Write, Clear, Read}
use Rattle.live_tables.specs.rows.Workers.{thread_of}
use Rattle.live_tables.specs.tags.Live.{FewLeaveLife, commands_of}
use Rattle.live_tables.proofs.rows.Rooms.{AllRight, right_part}

-- what so many operations need at most
record Need (ops : List Operation) : Type 0 where
  pub commands : length (commands_of ops) ≤ 8 * length ops
  pub objects : sum_after objects_of 0 (commands_of ops) ≤ length ops
  pub units : (rate : ℕ) → rate ≤ 131070
      → sum_after (units_owed Eight rate) 0 (commands_of ops) ≤ 131070 * length ops

need : (ops : List Operation) → Need ops
need [] = record {
  commands = omega arith;
  objects = omega arith;
  units = λ rate low. omega arith;
}
need (Write i v q ∷ ops) =
    let n = need ops in
    record {
      commands = omega (arith, n.commands);
      objects = omega (arith, n.objects);
      units = λ rate low. omega (arith, low, n.units rate low);
    }
need (Clear i ∷ ops) =
    let n = need ops in
    record {
      commands = omega (arith, n.commands);
      objects = omega (arith, n.objects);
      units = λ rate low. omega (arith, low, n.units rate low);
    }
need (Read i ∷ ops) =
    let n = need ops in
    record {
      commands = omega (arith, n.commands);
      objects = omega (arith, n.objects);
      units = λ rate low. omega (arith, low, n.units rate low);
    }

-- the work of entries, each of which made what its command owes
sum_is : (w : Width) (rate : ℕ) (es : List Entry) → AllRight w rate es
    → works es ≡ sum_after (units_owed w rate) 0 (map (λ (e : Entry). e.command) es)
sum_is w rate [] all = refl
sum_is w rate (e ∷ es) all = omega (arith, all.0, sum_is w rate es all.1)

pub few_leave_life : FewLeaveLife
few_leave_life w op sound all is can few =
    let l = w.worker.thread in
    let done = need w.done in
    let next = need (op ∷ []) in
    let eight : l.config.width ≡ Eight = ap (λ (c : Config). c.width) is in
    let asked : l.trace ≡ commands_of w.done = sym sound.asked ∙ all.rows in
    record {
      commands = omega (arith, ap length asked, done.commands, next.commands, few);
      objects = omega (
        arith,
        ap (sum_after objects_of 0) asked,
        done.objects,
        next.objects,
        few,
      );
      units = λ rate planned.
          let low : rate ≤ 131070 = rate_low l.config rate can.bounds can.plan planned in
          let right : AllRight l.config.width rate l.log =
          subst (AllRight l.config.width rate) sound.its
          (right_part l.config.width rate (thread_of w) w.worker.seen (sound.right rate planned)) in
          let worked : works l.log ≡ sum_after (units_owed l.config.width rate) 0 l.trace =
          sum_is l.config.width rate l.log right
          ∙ ap (sum_after (units_owed l.config.width rate) 0) sound.asked in
          let before : works l.log ≡ sum_after (units_owed Eight rate) 0 (commands_of w.done) =
          worked ∙ ap (λ x. sum_after (units_owed x rate) 0 l.trace) eight
          ∙ ap (sum_after (units_owed Eight rate) 0) asked in
          subst (λ (x : Width). works l.log + sum_after (units_owed x rate) 0 (commands_of (op ∷ [])) ≤ most_units)
          (sym eight)
          (omega (arith, before, done.units rate low, next.units rate low, few));
    }
