use Rattle.std.proofs.Common.{◌≡◌, ◌-◌, get_or, sym, ◌∙◌, arith}
use Rattle.std.proofs.lemmas.Bool.{false_from_ne_true}
use Rattle.trace_text.specs.Reading.{is_digit}
use Rattle.trace_text.proofs.Numerals.{digits_on_more, digits_on_stop, digits_on_end, one_more, digit_below, more_fits}
use Rattle.trace_text.proofs.reading.numbers.value_of.Goals as goal

pub returns-in_err-digit : goal.returns-in_err-digit
returns-in_err-digit c =
    let none = false_from_ne_true
    (is_digit (get_or c.args.digits.now c.loop-byte.byte-index 0)) c.in_err-digit.ensures in
    rw c.from_residual.ensures
    (sym (sym c.loop-byte.invariant.whole
    ∙ digits_on_stop c.args.digits.now c.loop-byte.value c.loop-byte.byte-index
    c.loop-byte-test.true none))

pub overflow_mul-value : goal.overflow_mul-value
overflow_mul-value c = omega (
  arith,
  more_fits c.loop-byte.value 0 c.loop-byte.byte-index c.loop-byte.invariant.small
      (omega arith) (omega arith),
)

pub overflow_add-value : goal.overflow_add-value
overflow_add-value c =
    let d = digit_below
    (get_or c.args.digits.now c.loop-byte.byte-index 0) c.in_ok-digit.ensures.0 in
    omega (
      arith,
      more_fits c.loop-byte.value
          (get_or c.args.digits.now c.loop-byte.byte-index 0 - 48) c.loop-byte.byte-index
          c.loop-byte.invariant.small d (omega arith),
      c.from.ensures,
      c.in_ok-digit.ensures.1,
    )

pub loop-byte-preserved : goal.loop-byte-preserved
loop-byte-preserved c =
    let b = get_or c.args.digits.now c.loop-byte.byte-index 0 in
    let d = digit_below b c.in_ok-digit.ensures.0 in
    let is : c.from.result ≡ b - 48 = c.from.ensures ∙ c.in_ok-digit.ensures.1 in
    rw is record {
      small = one_more c.loop-byte.value
          (b - 48) c.loop-byte.byte-index c.loop-byte.invariant.small d;
      whole =
          sym (digits_on_more c.args.digits.now c.loop-byte.value c.loop-byte.byte-index
          c.loop-byte-test.true c.in_ok-digit.ensures.0) ∙ c.loop-byte.invariant.whole;
    }

pub returns : goal.returns
returns c = sym (digits_on_end c.args.digits.now c.loop-byte.value c.loop-byte.byte-index
    (omega arith)) ∙ c.loop-byte.invariant.whole
