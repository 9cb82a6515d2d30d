-- A source and a sink in memory, and what a call makes of them.
use Rattle.std.specs.Prelude.{ℕ, ◌+◌, ◌-◌, ◌^◌, min, List, ◌++◌, drop}

-- what a source in memory is
pub record SourceState : Type 0 where
  -- the bytes that were not given yet
  pub left : List ℕ
  -- the most bytes that a call gives
  pub most : ℕ
  -- the numbers of the calls that fail
  pub fail : List ℕ
  -- how many calls there were
  pub calls : ℕ
  -- how many of them failed
  pub faults : ℕ

-- what a sink in memory is
pub record SinkState : Type 0 where
  -- the bytes that were taken
  pub held : List ℕ
  -- the most bytes that are held
  pub room : ℕ
  -- the numbers of the calls that fail
  pub fail : List ℕ
  -- how many calls there were
  pub calls : ℕ
  -- how many of them failed
  pub faults : ℕ

-- a count after one more; it is still at its last value
abbrev pub one_more : ℕ → ℕ
one_more n = min (n + 1) (2 ^ 64 - 1)

-- a source after a call that gave k bytes
abbrev pub with_given : SourceState → ℕ → SourceState
with_given s k = record s { left = drop k s.left; calls = one_more s.calls }

-- a source after a call that failed
abbrev pub with_source_fault : SourceState → SourceState
with_source_fault s = record s { calls = one_more s.calls; faults = one_more s.faults }

-- a sink after a call that took a piece
abbrev pub with_taken : SinkState → List ℕ → SinkState
with_taken s piece = record s { held = s.held ++ piece; calls = one_more s.calls }

-- a sink after a call that failed
abbrev pub with_sink_fault : SinkState → SinkState
with_sink_fault s = record s { calls = one_more s.calls; faults = one_more s.faults }
