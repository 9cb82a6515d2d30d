-- The one text of a job.
use Rattle.std.specs.Prelude.{ℕ, List}
use Rattle.std.specs.List.{flat_map, join_with_byte}
use Rattle.trace_text.specs.Jobs.{Job}
use Rattle.trace_text.specs.Lines.{ended, space}
use Rattle.trace_text.specs.Spellings.{job_lines}

-- a line: its tokens, with a single space between each two, and a line feed
abbrev pub line_text : List (List ℕ) → List ℕ
line_text tokens = ended (join_with_byte space tokens)

-- the text of a job: its lines in turn
abbrev pub job_text : Job → List ℕ
job_text job = flat_map line_text (job_lines job.config job.traces)
