use Rattle.std.proofs.Common.{◌≡◌, ◌≤◌, ◌+◌, ◌-◌, ◌*◌, ℕ, List, length, drop, sym, ap, ◌∙◌, rules, arith}
use Rattle.std.specs.Prelude.{unwrap_or}
use Rattle.std.proofs.lemmas.List.{drop_all, length-map}
use Rattle.heap_structures.specs.Circles.{last_of}
use Rattle.heap_structures.specs.Trends.{alarms_in, values_in}
use Rattle.heap_structures.specs.declared.trend.Sample.{Sample}
use Rattle.heap_structures.proofs.rings.NumberRings.{first_is}
use Rattle.heap_structures.proofs.trends.TrendCalls.{widened}
use Rattle.heap_structures.proofs.trends.TrendLists.{few_last}
use Rattle.historian_core.specs.declared.Figures.{Figures}
use Rattle.historian_core.specs.StoredReadings.{counted, heap_config}
use Rattle.historian_core.proofs.Life.{room}
use Rattle.historian_core.proofs.Readings.{counted_next}
use Rattle.historian_core.proofs.Historian.figures.Goals as goal

-- as many values as samples, at most 40
kept : (kept : ℕ) (xs : List Sample) → kept ≡ length (last_of 40 xs)
    → (kept ≡ length (values_in (last_of 40 xs))) × (kept ≤ 40)
kept k xs e = (
  e ∙ sym (length-map (last_of 40 xs) (λ x. x.value)),
  omega (arith, e, few_last 40 xs),
)

pub loop-back-init : goal.loop-back-init
loop-back-init c = record {
  told = λ most xs has fits.
      let is = kept c.len-kept.result xs (c.len-kept.ensures heap_config 40 most xs has) in
      let ys = values_in (last_of 40 xs) in (
        widened c.args.self.now.trend heap_config 40 most xs has (most + 2 * 0) (omega arith),
        c.of_alarms-figures.ensures
            ∙ (λ i. counted ((c.from.ensures ∙ c.alarms.ensures heap_config 40 most xs has) i)
            (sym (drop_all (c.len-kept.result - 0) ys (omega (arith, is.0))) i)),
      );
  total = omega (arith, ap (λ (f : Figures). f.total) c.of_alarms-figures.ensures);
  count = ap (λ (f : Figures). f.count) c.of_alarms-figures.ensures;
}

pub returns-in_err-get : goal.returns-in_err-get
returns-in_err-get c = λ most xs has fits.
    let is = kept c.len-kept.result xs (c.len-kept.ensures heap_config 40 most xs has) in
    let old = (c.loop-back.invariant.told most xs has fits).0 in
    absurd ((c.in_err-get.ensures heap_config 40 (most + 2 * c.loop-back.back) xs old).2
    (room c.loop-back.self (most + 2 * c.loop-back.back) xs old 2
    (omega (arith, fits.0, c.loop-back-test.true, is.1), fits.1)))

pub loop-back-preserved : goal.loop-back-preserved
loop-back-preserved c = record {
  told = λ most xs has fits.
      let is = kept c.len-kept.result xs (c.len-kept.ensures heap_config 40 most xs has) in
      let old = c.loop-back.invariant.told most xs has fits in
      let by = c.in_ok-get.ensures heap_config 40 (most + 2 * c.loop-back.back) xs old.0 in
      let ys = values_in (last_of 40 xs) in
      let i = (c.len-kept.result - 1) - c.loop-back.back in (
        widened c.get.new.self heap_config 40 (most + 2 * c.loop-back.back + 2) xs by.1
            (most + 2 * (c.loop-back.back + 1)) (omega arith),
        c.with-figures.ensures
            ∙ counted_next (alarms_in (last_of 40 xs))
            c.len-kept.result c.loop-back.back c.from-in-loop-back.result ys c.loop-back.figures
            is.0 c.loop-back-test.true
            (c.from-in-loop-back.ensures ∙ c.unwrap_or-number.ensures
            ∙ ap (λ o. unwrap_or o 0) by.0 ∙ first_is ys i) old.1,
      );
  total = search rules;
  count = search rules;
}

pub returns : goal.returns
returns c = λ most xs has fits.
    let is = kept c.len-kept.result xs (c.len-kept.ensures heap_config 40 most xs has) in
    let old = c.loop-back.invariant.told most xs has fits in
    let none : c.len-kept.result - c.loop-back.back ≡ 0 = omega (arith, c.loop-back-test.false) in (
      old.1 ∙ ap (λ k. counted (alarms_in (last_of 40 xs))
          (drop k (values_in (last_of 40 xs)))) none,
      widened c.loop-back.self.trend heap_config 40 (most + 2 * c.loop-back.back) xs old.0
          (most + 80) (omega (arith, is.1, c.loop-back.auto.back-end)),
    )
