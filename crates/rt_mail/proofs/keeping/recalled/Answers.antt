use Rattle.std.proofs.Common.{◌<◌, refl, length, map, arith}
use Rattle.array_scripts.proofs.Items.{pushed_items}
use Rattle.rt_mail.proofs.RingJob.{as_many, enough, recalled_more, recalled_done}
use Rattle.rt_mail.proofs.keeping.recalled.Goals as goal

pub numbers-kept-requires : goal.numbers-kept-requires
numbers-kept-requires c =
    omega (
      arith,
      c.loop-t-test.true,
      c.threads-t-end.ensures,
      as_many c.args.taken.now.taken (c.args.run.now.logs) c.requires,
    )

pub recalled_numbers-requires : goal.recalled_numbers-requires
recalled_numbers-requires c =
    let logs = c.args.run.now.logs in
    let there : c.loop-t.t < length logs =
    omega (arith, c.loop-t-test.true, c.threads-t-end.ensures) in
    enough c.args.taken.now.taken logs c.requires c.loop-t.t c.numbers-kept.result.now
    c.entries.result.now there c.numbers-kept.ensures.value c.entries.ensures

pub loop-t-preserved : goal.loop-t-preserved
loop-t-preserved c =
    let logs = c.args.run.now.logs in
    let there : c.loop-t.t < length logs =
    omega (arith, c.loop-t-test.true, c.threads-t-end.ensures) in
    recalled_more c.args.taken.now.taken logs c.requires c.loop-t.t c.numbers-kept.result.now
    c.entries.result.now _ (map (λ v. v.items) c.loop-t.last.items)
    (map (λ v. v.items) c.push.new.self.items) there c.numbers-kept.ensures.value
    c.entries.ensures c.in_ok-told.ensures
    (pushed_items c.loop-t.last.items c.push.new.self.items _ _ c.in_ok-push.ensures.items
    (λ v. v.items) refl)
    c.loop-t.invariant

pub returns : goal.returns
returns c =
    let logs = c.args.run.now.logs in
    recalled_done c.args.taken.now.taken logs c.loop-t.t
    (map (λ v. v.items) c.loop-t.last.items)
    (omega (
      arith,
      c.loop-t-test.false,
      c.threads-t-end.ensures,
      as_many c.args.taken.now.taken logs c.requires,
    ))
    c.loop-t.invariant
