-- A lifetime that allows so many commands, and the work of the objects among them.
use Rattle.std.proofs.Common.{ℕ, ◌+◌, ◌-◌, ◌*◌, ◌≤◌, arith, subst, sym, List, length}
use Rattle.rate_plan.specs.Rates.{IsRate}
use Rattle.rate_plan.proofs.Rates.{one_rate}
use Rattle.never_heap.specs.declared.Command.{Command}
use Rattle.never_heap.specs.RightWork.{units_owed}
use Rattle.heap_system.specs.Lives.{sum_after, objects_of, most_commands, most_objects, most_units}
use Rattle.heap_system.specs.Locals.{LocalState, works}
use Rattle.live_tables.specs.rows.Life.{HasRoomFor, MakeObjects}

-- what is asked at run time
pub record HasCounts (l : LocalState) (rate n : ℕ) (ks : List Command) : Type 0 where
  pub commands : length l.trace + length ks ≤ most_commands
  pub within : sum_after objects_of 0 l.trace ≤ most_objects
  pub worked : works l.log ≤ most_units
  pub objects : n ≤ most_objects - sum_after objects_of 0 l.trace
  pub units : n * rate ≤ most_units - works l.log

module _ (l : LocalState) (rate n : ℕ) (ks : List Command) (planned : IsRate l.config rate)
    (make : MakeObjects l.config.width n ks) where
  pub room_for : HasCounts l rate n ks → HasRoomFor l ks
  room_for h = record {
    commands = h.commands;
    objects = omega (arith, h.within, h.objects, make.objects);
    units = λ p plan.
        subst (λ (q : ℕ). works l.log + sum_after (units_owed l.config.width q) 0 ks ≤ most_units)
        (sym (one_rate l.config p rate plan planned))
        (omega (arith, h.worked, h.units, make.units rate));
  }

  pub counts_for : HasRoomFor l ks → HasCounts l rate n ks
  counts_for r =
      let units = r.units rate planned in record {
        commands = r.commands;
        within = omega (arith, r.objects);
        worked = omega (arith, units);
        objects = omega (arith, r.objects, make.objects);
        units = omega (arith, units, make.units rate);
      }
