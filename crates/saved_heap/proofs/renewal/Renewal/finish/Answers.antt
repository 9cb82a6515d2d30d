use Rattle.std.proofs.Common.{arith, subst}
use Rattle.saved_heap.specs.Follows.{HasFollowed}
use Rattle.saved_heap.specs.Renewals.{Copying, ShowsPicture}
use Rattle.saved_heap.proofs.Copied.{shown}
use Rattle.saved_heap.proofs.Followed.{followed}
use Rattle.saved_heap.proofs.renewal.Renewal.finish.Goals as goal

pub returns-clause-shown : goal.returns-clause-shown
returns-clause-shown c =
    subst (λ (s : Copying). ShowsPicture s.commands c.self.inside.heap) c.self.view_is
    (shown c.pictures_are_built.ensures (λ h r s. s.single) c.self.inside.heap
    c.self.inside.commands.items c.self.inside.done
    (omega (arith, c.self.invariant.few, c.if-self-len.false, c.len.ensures))
    c.self.invariant.leaves)

pub returns-clause-followed : goal.returns-clause-followed
returns-clause-followed c =
    subst (λ (s : Copying). HasFollowed s.commands c.self.inside.heap) c.self.view_is
    (followed c.histories_are_right.ensures.legal c.histories_are_right.ensures.licensed
    c.pictures_are_built.ensures c.names_follow_one_another.ensures
    c.commands_keep_names.ensures.runs c.commands_keep_names.ensures.threads
    c.commands_keep_names.ensures.names c.self.inside.heap c.self.inside.commands.items
    c.self.inside.done
    (omega (arith, c.self.invariant.few, c.if-self-len.false, c.len.ensures))
    c.self.invariant.leaves)
