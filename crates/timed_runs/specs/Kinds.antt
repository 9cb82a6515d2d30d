-- Which commands are of which kind.
use Rattle.std.specs.Prelude.{◌/◌, ◌==◌, nat_lt, nat_le, ◌&&◌, not, if◌then◌else◌, Bool, true, false}
use Rattle.block_store.specs.declared.Width.{Width}
use Rattle.never_heap.specs.declared.Command.{Command}
use Rattle.never_heap.specs.declared.Command.TheVariants as commands
use Rattle.never_heap.specs.Steps.{blocks_of, length_made}
use Rattle.timed_runs.specs.declared.kinds.Kind.{Kind}
use Rattle.timed_runs.specs.declared.kinds.Kind.TheVariants.{Allocation, Access, Idle, Other}

-- a `get` or a `put`
abbrev pub is_access : Command → Bool
is_access (commands.Get d s i) = true
is_access (commands.Put s i v) = true
is_access _ = false

-- an `idle`
abbrev pub is_idle : Command → Bool
is_idle (commands.Idle u) = true
is_idle _ = false

-- whether a command is of a kind, on blocks of this width: an allocation of more than n / 2 blocks
-- and at most n, a `get` or a `put`, an `idle`, or none of these
abbrev pub is_of_kind : Width → Command → Kind → Bool
is_of_kind w k (Allocation n) = nat_lt (n / 2) (blocks_of w k) && nat_le (blocks_of w k) n
is_of_kind w k Access = is_access k
is_of_kind w k Idle = is_idle k
is_of_kind w k Other = not (is_access k) && not (is_idle k) && blocks_of w k == 0

-- whether the kind is that of others
abbrev pub is_other : Kind → Bool
is_other Other = true
is_other _ = false

-- Whether a command is counted in a kind: a command whose object is longer than any of a job is
-- counted among the others.
abbrev pub is_counted_in : Width → Command → Kind → Bool
is_counted_in w k kind = if nat_le (length_made k) 65535 then is_of_kind w k kind else is_other kind
