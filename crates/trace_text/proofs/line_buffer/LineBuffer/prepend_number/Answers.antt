use Rattle.std.proofs.Common.{ap, rules, arith, length, decimal, length-drop, length-append}
use Rattle.std.proofs.lemmas.Fmt.{length-decimal-le}
use Rattle.trace_text.proofs.line_buffer.LineBuffer.prepend_number.Goals as goal

pub write_digits-self-inside-requires : goal.write_digits-self-inside-requires
write_digits-self-inside-requires c =
    let digits = length-decimal-le 20 c.args.number (omega arith)
    (omega arith) c.ranges.number.fits in
    let left = length-drop c.self.inside.start c.self.inside.bytes in
    (omega (arith, digits, left, ap length c.self.view_is), search rules)

pub returns-clause-length : goal.returns-clause-length
returns-clause-length c =
    let digits = length-decimal-le 20 c.args.number (omega arith)
    (omega arith) c.ranges.number.fits in
    rw (c.write_digits-self-inside.ensures.written, c.self.view_is)
    (omega (arith, digits, length-append (decimal c.args.number) c.args.self.now))
