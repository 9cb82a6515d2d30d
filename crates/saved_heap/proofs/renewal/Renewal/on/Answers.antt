use Rattle.std.proofs.Common.{IsTrue, ℕ, ap, refl, rules, arith, List}
use Rattle.never_heap.specs.declared.Command.{Command}
use Rattle.never_heap.specs.Histories.{replay}
use Rattle.control_heap.specs.Controls.{Control}
use Rattle.control_heap.specs.Unused.{IsUnused}
use Rattle.saved_heap.specs.Renewals.{HasCopied, IsOpened}
use Rattle.saved_heap.proofs.Followed.{followed_none}
use Rattle.saved_heap.proofs.renewal.Renewal.on.Goals as goal

opened : (h : Control) → IsUnused h → IsOpened h.config h
opened h u = record {
  config = refl;
  no_commands = u.no_commands;
  no_units = u.no_units;
  no_objects = u.no_objects;
  run = u.run;
  stands = u.stands;
  order = u.order;
}

begins : (h : Control) (ks : List Command) (room : ℕ) → IsUnused h → HasCopied (record { heap = h; commands = ks; done = 0; room = room })
begins h ks room u = record {
  few = omega arith;
  leaves = record { run = u.run; stands = u.stands; graph = ap (replay h.config) u.order };
}

pub invariant_of-result : goal.invariant_of-result
invariant_of-result c =
    let yes : IsTrue c.is_unused.result = search rules in
    begins c.args.heap c.args.commands.items _ (c.is_unused.ensures.0 yes)

pub returns-clause-opened : goal.returns-clause-opened
returns-clause-opened c =
    let yes : IsTrue c.is_unused.result = search rules in
    opened c.args.heap (c.is_unused.ensures.0 yes)

pub returns-clause-followed : goal.returns-clause-followed
returns-clause-followed c = λ from p is. followed_none from p c.args.commands.items is
