-- The outcome of an operation's commands.
use Rattle.std.proofs.Common.{◌≡◌, ℕ, arith, refl, subst, sym, ap, ◌∙◌, List, [], ◌∷◌, ◌++◌, length}
use Rattle.std.specs.Prelude.{flat_map}
use Rattle.std.proofs.lemmas.List.{append-nil, length-map, length-append, map-append}
use Rattle.block_store.specs.declared.Config.{Config}
use Rattle.never_heap.specs.declared.Entry.{Entry}
use Rattle.never_heap.specs.declared.Reply.{Reply}
use Rattle.heap_system.specs.Locals.{LocalState}
use Rattle.shared_heap.specs.Stamps as stamps
use Rattle.shared_heap.specs.Workers.{HasSeenIts, WorkerState}
use Rattle.live_tables.specs.rows.Life.{HasBegun, HasRun}
use Rattle.live_tables.specs.rows.Rows.{Rows, IsRowHeap, answer_told, answers_of, commands_of, replies}
use Rattle.live_tables.specs.rows.Workers.{HasDone, HasDrawn, HasSeenAll, IsNext, IsRowWorker, row_worker}
use Rattle.live_tables.specs.rows.Lawful.{Lawful}
use Rattle.live_tables.proofs.rows.AnswersOfOperations.{answers_more, commands_more}

-- a worker that drew a stamp
pub row_drawn : {Op Row Answer S : Type 0} (a : Rows Op Row Answer S) (old new : WorkerState)
    (n : ℕ) → stamps.HasDrawn old n new → HasDrawn (row_worker a old) n (row_worker a new)
row_drawn a old new n is = record {
  drawn = is;
  done = ap (λ (l : LocalState). a.operations_of l.thread l.trace) is.thread;
  answers = ap (λ (l : LocalState). answers_of a (a.operations_of l.thread l.trace) (replies l.log))
      is.thread;
}

pub row_kept : {Op Row Answer S : Type 0} (a : Rows Op Row Answer S) (old new : WorkerState)
    (n : ℕ) → stamps.HasDrawn old n new → IsRowWorker a old → IsRowWorker a new
row_kept a old new n is kept =
    let same : old.thread ≡ new.thread = sym is.thread in
    record {
      heap = subst (λ (l : LocalState). IsRowHeap a l.config) same kept.heap;
      asked = subst (λ (l : LocalState).
          l.trace ≡ commands_of a (a.operations_of l.thread l.trace)) same kept.asked;
      inside = subst (λ (l : LocalState). a.AreDone l.config.shared l.thread
          (a.operations_of l.thread l.trace)) same kept.inside;
      long = subst (λ (l : LocalState). length l.log ≡ length l.trace) same kept.long;
    }

-- what a worker has seen
pub all_seen : {Op Row Answer S : Type 0} (a : Rows Op Row Answer S) (law : Lawful a)
    (w : WorkerState) → IsRowWorker a w → HasSeenIts w → HasSeenAll a (row_worker a w)
all_seen a law w is sound = record {
  its = sound.its;
  rows = sound.asked ∙ is.asked;
  read = law.read w.thread.config.shared w.thread.thread _ is.inside;
}

module _ {Op Row Answer S : Type 0} (a : Rows Op Row Answer S) (law : Lawful a)
    (old new : WorkerState) (op : Op) (three : Reply × Reply × Reply) (is : IsRowWorker a old)
    (next : IsNext a (row_worker a old) op)
    (run : HasRun old (commands_of a (op ∷ [])) three new) where
  abbrev t : ℕ
  t = old.thread.thread

  abbrev ops : List Op
  ops = a.operations_of t old.thread.trace

  inside_there : a.AreDone old.thread.config.shared t (ops ++ op ∷ [])
  inside_there = law.more old.thread.config.shared t ops op is.inside next

  trace_is : new.thread.trace ≡ commands_of a (ops ++ op ∷ [])
  trace_is = run.asked ∙ ap (λ l. l ++ commands_of a (op ∷ [])) is.asked
      ∙ sym (commands_more a ops (op ∷ []))

  pub ops_are : a.operations_of new.thread.thread new.thread.trace ≡ ops ++ op ∷ []
  ops_are = (λ i. a.operations_of (run.same.thread i) (trace_is i))
      ∙ law.decoded t (ops ++ op ∷ []) (law.read old.thread.config.shared t _ inside_there)

  entries_long : length run.entries ≡ length (a.rows_of op)
  entries_long = sym (length-map run.entries (λ (e : Entry). e.command)) ∙ ap length run.commands
      ∙ length-map (flat_map a.rows_of (op ∷ [])) a.command_at
      ∙ ap length (append-nil (a.rows_of op))

  pub replies_long : length (replies run.entries) ≡ length (a.rows_of op)
  replies_long = length-map run.entries (λ (e : Entry). e.reply) ∙ entries_long

  pub still : IsRowWorker a new
  still = record {
    heap = subst (IsRowHeap a) (sym run.same.config) is.heap;
    asked = trace_is ∙ ap (commands_of a) (sym ops_are);
    inside = subst (λ (l : List Op). a.AreDone new.thread.config.shared new.thread.thread l)
        (sym ops_are)
        (subst (λ (u : ℕ). a.AreDone new.thread.config.shared u (ops ++ op ∷ []))
        (sym run.same.thread)
        (subst (λ (c : Config). a.AreDone c.shared t (ops ++ op ∷ [])) (sym run.same.config)
        inside_there));
    long = omega (
      arith,
      ap length run.told,
      ap length run.asked,
      length-append old.thread.log run.entries,
      length-append old.thread.trace (commands_of a (op ∷ [])),
      ap length run.commands,
      length-map run.entries (λ (e : Entry). e.command),
      is.long,
    );
  }

  rows_long : length (replies old.thread.log) ≡ length (flat_map a.rows_of ops)
  rows_long = omega (
    arith,
    length-map (flat_map a.rows_of ops) a.command_at,
    ap length is.asked,
    is.long,
    length-map old.thread.log (λ (e : Entry). e.reply),
  )

  answers_are : answers_of a (a.operations_of new.thread.thread new.thread.trace)
      (replies new.thread.log)
      ≡ answers_of a ops (replies old.thread.log) ++ answer_told a op (replies run.entries) ∷ []
  answers_are =
      (λ i. answers_of a (ops_are i) (replies (run.told i)))
      ∙ ap (answers_of a (ops ++ op ∷ []))
      (map-append (λ (e : Entry). e.reply) old.thread.log run.entries)
      ∙ answers_more a law ops op (replies old.thread.log) (replies run.entries) rows_long
      replies_long

  pub was_done : HasSeenIts old → HasBegun old new
      → HasDone a (row_worker a old) op (a.answer_by op three) (row_worker a new)
  was_done sound begun = record {
    done = ops_are;
    answers = answers_are
        ∙ ap (λ x. answers_of a ops (replies old.thread.log) ++ x ∷ [])
        (sym (ap (a.answer_by op) run.last));
    start = begun.start;
    before = begun.before;
    noted = begun.noted;
    own = begun.own;
    on = begun.on;
    notes = begun.notes;
    past = begun.past;
    command = begun.command;
    began = begun.began;
    started = begun.started;
    earlier = begun.earlier;
    invoked = begun.invoked;
    sound = begun.sound;
    executes = run.executes;
    first = record { between = is; same = refl };
    last = record { between = still; same = refl };
    was = all_seen a law old is sound;
    now = all_seen a law new still begun.sound;
  }
