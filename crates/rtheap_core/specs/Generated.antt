-- The job of a key: four threads whose commands are drawn from one generator, one thread after the
-- other.
use Rattle.std.specs.Prelude.{ℕ, zero, suc, ◌+◌, ◌*◌, ◌%◌, ◌==◌, nat_lt, if◌then◌else◌, List, [], ◌∷◌}
use Rattle.block_store.specs.declared.Config.{Config}
use Rattle.block_store.specs.declared.Width.TheVariants.{Four}
use Rattle.never_heap.specs.declared.Command.{Command}
use Rattle.never_heap.specs.declared.Command.TheVariants.{New, Arr, Set, Nil, Mov, Get, Put, Len, Same}
use Rattle.rand_pcg.specs.Lcg.{Lcg}
use Rattle.rtheap_core.specs.schedules.Schedules.{generator, word}
use Rattle.trace_text.specs.Jobs.{Job}

-- the heap of a generated job
abbrev pub generated_config : Config
generated_config = record {
  width = Four;
  threads = 4;
  blocks = 4096;
  live = 2000;
  object = 16;
  shared = 64;
}

-- The command of four words: the first says which it is, and the others are its operands. Register
-- 0 is read, and stays as it is.
abbrev pub command_of : ℕ → ℕ → ℕ → ℕ → Command
command_of w x y z =
    let kind = w % 10 in
    let d = 1 + x % 15 in
    let s = y % 16 in
    let k = z % 8 in
    if nat_lt kind 2 then New d k
    else (if kind == 2 then Arr d (4 * k)
    else (if kind == 3 then Set d z
    else (if kind == 4 then Nil d
    else (if kind == 5 then Mov d s
    else (if kind == 6 then Get d s k
    else (if kind == 7 then Put s k d
    else (if kind == 8 then Len s
    else Same d s)))))))

-- the command of the next four words, and the generator after them
unfoldable pub drawn : Lcg → Command × Lcg
drawn g =
    let w = word g in
    let x = word w.1 in
    let y = word x.1 in
    let z = word y.1 in
    (command_of w.0 x.0 y.0 z.0, z.1)

-- a trace of the next n commands, and the generator after them
unfoldable pub trace_from : ℕ → Lcg → List Command × Lcg
trace_from zero g = ([], g)
trace_from (suc n) g =
    let first = drawn g in
    let others = trace_from n first.1 in
    (first.0 ∷ others.0, others.1)

-- the next n traces, each of so many commands
unfoldable pub traces_from : ℕ → ℕ → Lcg → List (List Command)
traces_from zero lines g = []
traces_from (suc n) lines g =
    let first = trace_from lines g in first.0 ∷ traces_from n lines first.1

-- the job of a key, with so many commands for each thread
abbrev pub generated_job : ℕ → ℕ → Job
generated_job key lines = record {
  config = generated_config;
  traces = traces_from generated_config.threads lines (generator key);
}
