use Rattle.std.proofs.Common.{◌<◌, ◌≤◌, ◌∙◌, length, rules, sym, subst, arith, ℕ, Some}
use Rattle.std.specs.Prelude.{slice_set}
use Rattle.rt_handles.specs.Slots.{AreSlotsOf}
use Rattle.rt_handles.proofs.Slots.{slots_still, slots_far, slots_set}
use Rattle.rt_handles.proofs.before.Before.push.Goals as goal

pub invariant_of-self-in-None : goal.invariant_of-self-in-None
invariant_of-self-in-None c =
    slots_still c.self.inside.slots c.self.inside.ops.items c.push.new.self.items c.args.op
    c.self.invariant c.in_ok-push.ensures.items (sym c.made_at.ensures ∙ c.in-None.is)

pub invariant_of-self-then-from-lt-HANDLES : goal.invariant_of-self-then-from-lt-HANDLES
invariant_of-self-then-from-lt-HANDLES c =
    let there : c.in-Some.handle < length c.self.inside.slots = search rules in
    subst (λ (g : ℕ). AreSlotsOf (slice_set c.self.inside.slots g (Some c.in-Some.slot))
    c.push.new.self.items) (sym c.from-then-from-lt-HANDLES.ensures)
    (slots_set c.self.inside.slots c.self.inside.ops.items c.push.new.self.items c.args.op
    c.self.invariant c.in_ok-push.ensures.items c.in-Some.handle c.in-Some.slot
    (sym c.made_at.ensures ∙ c.in-Some.is) there)

pub invariant_of-self-else-from-lt-HANDLES : goal.invariant_of-self-else-from-lt-HANDLES
invariant_of-self-else-from-lt-HANDLES c =
    let far : 8 ≤ c.in-Some.handle = omega (arith, c.if-from-lt-HANDLES.false, c.from.ensures) in
    slots_far c.self.inside.slots c.self.inside.ops.items c.push.new.self.items c.args.op
    c.self.invariant c.in_ok-push.ensures.items c.in-Some.handle c.in-Some.slot
    (sym c.made_at.ensures ∙ c.in-Some.is) far
