-- How a job is spelled: its lines, each as its tokens. A number is written in decimal digits,
-- without a leading zero.
use Rattle.std.specs.Prelude.{ℕ, ◌+◌, List, [], ◌∷◌, ◌++◌, map, codes, decimal}
use Rattle.block_store.specs.declared.Config.{Config}
use Rattle.block_store.specs.declared.Width.{Width}
use Rattle.block_store.specs.declared.Width.TheVariants.{Four, Eight}
use Rattle.never_heap.specs.declared.Command.{Command}
use Rattle.never_heap.specs.Signatures.{numbers, signature}

-- the version of a job whose blocks have this width
abbrev pub version : Width → List ℕ
version Four = codes "1"
version Eight = codes "2"

-- the first line
abbrev pub header : Config → List (List ℕ)
header c =
    codes "rtheap" ∷ version c.width ∷ codes "threads" ∷ decimal c.threads
    ∷ codes "blocks" ∷ decimal c.blocks ∷ codes "live" ∷ decimal c.live
    ∷ codes "object" ∷ decimal c.object ∷ codes "shared" ∷ decimal c.shared ∷ []

-- a command is its word and the numbers after it
abbrev pub command_line : Command → List (List ℕ)
command_line k = (signature k).word ∷ map decimal (numbers k)

-- a thread's line, and a line for each of its commands
abbrev pub trace_lines : ℕ → List Command → List (List (List ℕ))
trace_lines t trace = (codes "thread" ∷ decimal t ∷ []) ∷ map command_line trace

-- the lines of the threads from thread t on
abbrev pub traces_lines : ℕ → List (List Command) → List (List (List ℕ))
traces_lines t [] = []
traces_lines t (trace ∷ traces) = trace_lines t trace ++ traces_lines (t + 1) traces

-- all lines of a job
abbrev pub job_lines : Config → List (List Command) → List (List (List ℕ))
job_lines c traces = header c ∷ (traces_lines 0 traces ++ (codes "end" ∷ []) ∷ [])
