-- When an alarm is raised, acknowledged and cleared, and what is done in the list then.
use Rattle.std.specs.Prelude.{ℕ, ◌+◌, ◌-◌, ◌^◌, min, nat_le, nat_lt, ◌==◌, Bool, false, ◌&&◌, ◌||◌, if◌then◌else◌, Option, Some, None}
use Rattle.array_tables.specs.tag_table.Tables.{Tag}
use Rattle.array_tables.specs.declared.tag_table.operation.Operation.{Operation}
use Rattle.array_tables.specs.declared.tag_table.operation.Operation.TheVariants.{Write, Clear}
use Rattle.plantrun_core.specs.declared.alarms.Limits.{Limits}
use Rattle.plantrun_core.specs.declared.alarms.Move.{Move}
use Rattle.plantrun_core.specs.declared.alarms.Move.TheVariants as moves
use Rattle.plantrun_core.specs.Laws.{value_of}

-- the value is there, and outside the limits
abbrev pub is_outside : Limits → Option ℕ → Bool
is_outside l None = false
is_outside l (Some v) = nat_lt v l.low || nat_lt l.high v

-- the value is there, and inside the limits by the dead band
abbrev pub is_inside : Limits → Option ℕ → Bool
is_inside l None = false
is_inside l (Some v) = nat_le (l.low + l.dead) v && nat_le (v + l.dead) l.high

abbrev pub leaves : Limits → Tag → Bool
leaves l tag = is_outside l (value_of tag)

abbrev pub rests : Limits → Tag → Bool
rests l tag = is_inside l (value_of tag)

-- the word of a tag, where it is one that a table holds
abbrev pub word_of : Tag → ℕ
word_of None = 0
word_of (Some (v, w)) = min w (2 ^ 62 - 1)

abbrev pub raised : Bool → Move
raised leaves = if leaves then moves.Raise else moves.Stay

abbrev pub acknowledged : Bool → Move
acknowledged told = if told then moves.Acknowledge else moves.Stay

abbrev pub cleared : Bool → Move
cleared rests = if rests then moves.Clear else moves.Stay

-- An alarm that is not listed is raised outside the limits. One that is raised is acknowledged by a
-- later word than that of its record. One that is acknowledged is cleared inside the limits.
abbrev pub move_of : Limits → Tag → Tag → Tag → Move
move_of l None measured told = raised (leaves l measured)
move_of l (Some (state, word)) measured told =
    if state == 1 then acknowledged (nat_lt word (word_of told)) else cleared (rests l measured)

-- the operation of a move in the list: alarm i is tag 10 + i
abbrev pub act_of : Move → ℕ → Tag → Option Operation
act_of moves.Stay i told = None
act_of moves.Raise i told = Some (Write (10 + i) 1 (word_of told))
act_of moves.Acknowledge i told = Some (Write (10 + i) 2 (word_of told))
act_of moves.Clear i told = Some (Clear (10 + i))
