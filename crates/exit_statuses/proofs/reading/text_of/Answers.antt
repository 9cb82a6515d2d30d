use Rattle.std.proofs.Common.{◌≡◌, ◌≤◌, ◌+◌, length, arith}
use Rattle.exit_statuses.specs.Sides.{sides}
use Rattle.exit_statuses.proofs.WholeTexts.{read_too_far, read_whole}
use Rattle.exit_statuses.proofs.reading.text_of.Goals as goal

pub returns-then-len-limit-clause-refused :
    goal.returns-then-len-limit-clause-refused
returns-then-len-limit-clause-refused g c =
    let long : length c.in_ok-text.text.items ≡ c.args.limit + 1 =
    omega (arith, c.in_ok-text.ensures.within, c.len.ensures, c.if-len-limit.true) in (
      read_too_far c.args.limit
          (sides g.S.Source.left g.S.Source.faults c.args.source.now c.input_of.new.source)
          c.in_ok-text.text.items c.in_ok-text.ensures.read long,
      c.in_ok-text.ensures.cause,
    )

pub returns-clause-whole : goal.returns-clause-whole
returns-clause-whole g c =
    let few : length c.in_ok-text.text.items ≤ c.args.limit =
    omega (arith, c.len.ensures, c.if-len-limit.false) in
    read_whole c.args.limit
    (sides g.S.Source.left g.S.Source.faults c.args.source.now c.input_of.new.source)
    c.in_ok-text.text.items c.in_ok-text.ensures.read few
    (c.in_ok-text.ensures.ended (omega (arith, c.len.ensures, c.if-len-limit.false)))
