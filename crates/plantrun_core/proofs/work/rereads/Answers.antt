use Rattle.std.proofs.Common.{◌∙◌, ◌≡◌, ◌≤◌, ◌^◌, ◌+◌, ℕ, arith, length, subst}
use Rattle.plantrun_core.proofs.SameWorker.{same_then}
use Rattle.plantrun_core.specs.declared.roles.Role.TheVariants.{History}
use Rattle.plantrun_core.specs.Roles.{HasReread}
use Rattle.plantrun_core.specs.Works.{most_in}
use Rattle.plantrun_core.proofs.LogOfTicks.{reread_on, whole_few, whole_log, whole_short}
use Rattle.plantrun_core.proofs.work.rereads.Goals as goal

pub does-requires-clause-few : goal.does-requires-clause-few
does-requires-clause-few g c =
    let few : length c.args.work.hand.calls.items + 32 ≤ 2 ^ 24 =
    whole_few c.args.count c.args.work History c.requires.work c.requires.history
    c.requires.whole c.requires.count in
    omega (arith, few, c.loop-k.invariant.length, c.loop-k-test.true)

pub does-requires-clause-room : goal.does-requires-clause-room
does-requires-clause-room g c =
    let few : length c.args.work.hand.calls.items ≤ most_in History c.args.count =
    whole_short c.args.count c.args.work History c.requires.work c.requires.history
    c.requires.whole in
    omega (
      arith,
      few,
      c.loop-k.invariant.length,
      c.loop-k.invariant.capacity,
      c.requires.room,
      c.loop-k-test.true,
    )

pub loop-k-preserved : goal.loop-k-preserved
loop-k-preserved g c =
    let old = c.args.work.hand in
    let mid = c.loop-k.hand in
    let new = c.does.new.self in
    let more = reread_on c.loop-k.k old.calls.items mid.calls.items new.calls.items c.does.result
    c.does.ensures.did c.loop-k.invariant.read in
    record {
      own = c.does.ensures.own;
      same = same_then old.who mid.who new.who c.loop-k.invariant.same c.does.ensures.same;
      capacity = c.does.ensures.capacity ∙ c.loop-k.invariant.capacity;
      read = more.0;
      length = omega (arith, more.1, c.loop-k.invariant.length);
    }

pub returns-clause-kept : goal.returns-clause-kept
returns-clause-kept g c =
    let w = c.args.work in
    let all : 32 ≡ c.loop-k.k = omega (arith, c.loop-k-test.false, c.loop-k.auto.k-end) in (
      w.hand.calls.items,
      w.role,
      whole_log c.args.count w History c.requires.work c.requires.history c.requires.whole,
      subst (λ (k : ℕ). HasReread k w.hand.calls.items c.loop-k.hand.calls.items)
          (let e : c.loop-k.k ≡ 32 = omega (arith, all) in e) c.loop-k.invariant.read,
    )
