use Rattle.std.proofs.Common.{◌≡◌, take}
use Rattle.rt_check.specs.rt_limit.NeedTexts.{rates}
use Rattle.rt_check.proofs.rt_limit.TextLaws.{HasRows, last_of}
use Rattle.rt_check.proofs.rt_limit.texts.add_rows.Given as goal

abbrev pub invariant-loop-rate : goal.invariant-loop-rate
invariant-loop-rate l = record {
  rows : HasRows l.config l.live (take l.rate-index rates) l.initial.text.items l.text.items;
  last : l.before ≡ last_of 0 (take l.rate-index rates);
}
