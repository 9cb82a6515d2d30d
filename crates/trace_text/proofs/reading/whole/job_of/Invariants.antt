use Rattle.std.proofs.Common.{◌≡◌, ◌+◌, ◌≤◌, length, map, vec_len}
use Rattle.trace_text.specs.Jobs.{input_limit}
use Rattle.trace_text.specs.Reading.{tokenized}
use Rattle.trace_text.specs.Wholes.{IsBegun}
use Rattle.trace_text.proofs.reading.whole.job_of.Given as goal

-- the traces so far, and the lines that are left, are those of the input
abbrev pub invariant-loop-thread : goal.invariant-loop-thread
invariant-loop-thread l = record {
  begun : IsBegun l.config (map (λ v. v.items) l.traces.items) l.input l.rest.read
      (tokenized l.rest.lines.now);
  count : vec_len l.traces ≡ l.thread;
  within : l.rest.read + length l.rest.lines.now ≤ input_limit;
}
