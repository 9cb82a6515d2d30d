-- Which event decides what the command answers.
use Rattle.std.specs.Prelude.{ℕ, ◌||◌, ◌&&◌, nat_lt, Bool, true, false}
use Rattle.heap_machine.specs.declared.Step.{Step}
use Rattle.heap_machine.specs.declared.Step.TheVariants.{Over, WaitedOver}
use Rattle.build_steps.specs.declared.rows.BuildRow.{BuildRow}
use Rattle.build_steps.specs.declared.rows.BuildRow.TheVariants.{
  ReadCount,
  WriteOwner,
  WriteShape,
  WritePayload,
  WriteColour,
  Publish,
  Built,
  Refused,
}
use Rattle.build_steps.specs.Rows.{BuildState}

-- the event reads the free count
abbrev pub is_counting : BuildRow → Bool
is_counting ReadCount = true
is_counting _ = false

-- the event stores the reference to the object
abbrev pub is_publishing : BuildRow → Bool
is_publishing Publish = true
is_publishing _ = false

-- the event writes a word of a held block
abbrev pub is_writing : BuildRow → Bool
is_writing (WriteOwner o) = true
is_writing (WriteShape o) = true
is_writing (WritePayload o j) = true
is_writing (WriteColour o) = true
is_writing _ = false

-- the object was made
abbrev pub is_built : BuildRow → Bool
is_built Built = true
is_built _ = false

-- fewer blocks were free than it takes
abbrev pub is_refused : BuildRow → Bool
is_refused Refused = true
is_refused _ = false

-- an event that reads v decides: it finds too few blocks Free, or publishes
abbrev pub decides : BuildState → ℕ → Bool
decides s v = is_publishing s.row || (is_counting s.row && nat_lt v s.blocks)

-- the event was the last of its part
abbrev pub is_last : Step → Bool
is_last Over = true
is_last WaitedOver = true
is_last _ = false
