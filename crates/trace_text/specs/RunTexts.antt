-- What is printed of a run.
use Rattle.std.specs.Prelude.{ℕ, List, ◌∷◌, ◌++◌, codes, decimal}
use Rattle.std.specs.List.{flat_map}
use Rattle.block_store.specs.declared.Name.{Name}
use Rattle.block_store.specs.declared.Value.{Value}
use Rattle.block_store.specs.declared.Value.TheVariants as values
use Rattle.never_heap.specs.declared.Entry.{Entry}
use Rattle.never_heap.specs.declared.Reply.{Reply}
use Rattle.never_heap.specs.declared.Reply.TheVariants.{New, Full, Stored, Val, Len, Yes, No, Null, Kind, Range, Idle}
use Rattle.never_heap.specs.Histories.{HistoryItem, parts, starts_in, work_in}
use Rattle.trace_text.specs.Lines.{ended, space}

-- thread and serial, with a dot between
abbrev pub name_text : Name → List ℕ
name_text name = decimal name.thread ++ codes "." ++ decimal name.serial

abbrev pub value_text : Value → List ℕ
value_text values.Nil = codes "nil"
value_text (values.Int v) = codes "int " ++ decimal v
value_text (values.Ref name) = codes "ref " ++ name_text name

-- a reply of a command for which this many units were made
abbrev pub reply_text : Reply → ℕ → List ℕ
reply_text (New name) work = codes "new " ++ name_text name ++ codes " work " ++ decimal work
reply_text (Full c) work = codes "full " ++ decimal c ++ codes " work " ++ decimal work
reply_text Stored work = codes "ok"
reply_text (Val v) work = value_text v
reply_text (Len k) work = codes "len " ++ decimal k
reply_text Yes work = codes "yes"
reply_text No work = codes "no"
reply_text Null work = codes "null"
reply_text Kind work = codes "kind"
reply_text Range work = codes "range"
reply_text Idle work = codes "idle" ++ codes " work " ++ decimal work

-- the serial of the name that it has; 0 where it has none
abbrev pub value_serial : Value → ℕ
value_serial (values.Ref name) = name.serial
value_serial _ = 0

abbrev pub reply_serial : Reply → ℕ
reply_serial (New name) = name.serial
reply_serial (Val v) = value_serial v
reply_serial _ = 0

-- an entry: the thread, a space, the reply
abbrev pub entry_text : Entry → List ℕ
entry_text e = decimal e.thread ++ (space ∷ reply_text e.reply e.work)

-- the start of a cycle
abbrev pub start_text : ℕ → List ℕ
start_text cycle = codes "start " ++ decimal cycle

-- the totals: how many cycles were started and how many units were made
abbrev pub totals_text : ℕ → ℕ → List ℕ
totals_text cycles units = codes "end cycles " ++ decimal cycles ++ codes " work " ++ decimal units

abbrev pub entry_line : Entry → List ℕ
entry_line e = ended (entry_text e)

abbrev pub start_line : ℕ → List ℕ
start_line cycle = ended (start_text cycle)

abbrev pub totals_line : ℕ → ℕ → List ℕ
totals_line cycles units = ended (totals_text cycles units)

-- the text of a run: each thread's lines in turn, and the totals
abbrev pub run_text : List (List Entry) → ℕ → ℕ → List ℕ
run_text logs cycles units =
    flat_map (λ log. flat_map entry_line log) logs ++ totals_line cycles units

-- the text of a history of n threads, by threads
abbrev pub text_by_threads : ℕ → List HistoryItem → List ℕ
text_by_threads n h = run_text (parts n h) (starts_in h) (work_in h)
