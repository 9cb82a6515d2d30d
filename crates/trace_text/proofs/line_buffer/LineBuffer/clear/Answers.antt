use Rattle.std.proofs.Common.{◌≤◌, length, arith, drop_of_length-le}
use Rattle.trace_text.proofs.line_buffer.LineBuffer.clear.Goals as goal

pub returns : goal.returns
returns c = let whole : length c.self.inside.bytes ≤ 128 = omega arith in
    drop_of_length-le c.self.inside.bytes whole
