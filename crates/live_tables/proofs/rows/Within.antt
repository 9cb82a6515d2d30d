-- A worker that executes the commands of an operation is in the middle of it.
use Rattle.std.proofs.Common.{◌≡◌, ℕ, inl, inr, refl, subst, sym, ap, ◌∙◌, List, [], ◌∷◌, ◌++◌, take}
use Rattle.std.proofs.lemmas.List.{append_assoc, append-nil}
use Rattle.control_heap.specs.Growth.{given}
use Rattle.heap_system.specs.Locals.{LocalState, local_got}
use Rattle.never_heap.specs.declared.Command.{Command}
use Rattle.shared_heap.specs.Turns.{MadeTurns}
use Rattle.shared_heap.specs.Workers.{IsSame, WorkerState}
use Rattle.shared_heap.proofs.Lemmas.{same_here, same_on}
use Rattle.live_tables.specs.rows.Life.{Executes}
use Rattle.live_tables.specs.rows.Rows.{Rows, commands_of}
use Rattle.live_tables.specs.rows.SoFar.{IsMomentOf, IsWithin, WorkAllAlong}
use Rattle.live_tables.specs.rows.Workers.{IsNext, IsRowWorker, RowWorkerState, row_worker}

-- after some commands a worker is the same, and was given these
record Later (old : WorkerState) (ks : List Command) (new : WorkerState) : Type 0 where
  same : IsSame old new
  trace : new.thread.trace ≡ old.thread.trace ++ ks

none_later : (w : WorkerState) → Later w [] w
none_later w = record { same = same_here w; trace = sym (append-nil w.thread.trace) }

one_later : (old mid new : WorkerState) (ks : List Command) (k : Command) → Later old ks mid
    → IsSame mid new → new.thread.trace ≡ mid.thread.trace ++ k ∷ [] → Later old (ks ++ k ∷ []) new
one_later old mid new ks k is same trace = record {
  same = same_on old mid new is.same same;
  trace = trace ∙ ap (λ l. l ++ k ∷ []) is.trace ∙ append_assoc old.thread.trace ks (k ∷ []);
}

-- events leave a thread's commands
record Alike (l k : LocalState) : Type 0 where
  thread : k.thread ≡ l.thread
  config : k.config ≡ l.config
  trace : k.trace ≡ l.trace

alike : (l : LocalState) (ws : List ℕ) (k : LocalState) → MadeTurns l ws k → Alike l k
alike l [] k is = subst (λ (x : LocalState). Alike l x) is
    (record { thread = refl; config = refl; trace = refl })
alike l (w ∷ ws) k is =
    let more : Alike (local_got l w) k = alike (local_got l w) ws k is.2 in
    record { thread = more.thread; config = more.config; trace = more.trace }

module _ {Op Row Answer S : Type 0} (a : Rows Op Row Answer S) (old : WorkerState) (op : Op)
    (between : IsRowWorker a old) (next : IsNext a (row_worker a old) op) where
  stopped : (now : WorkerState) (first left : List Command)
      → commands_of a (op ∷ []) ≡ first ++ left → Later old first now → IsWithin a now.thread
  stopped now first left commands is = record {
    worker = old;
    between = between;
    operation = op;
    next = next;
    thread = is.same.thread;
    config = is.same.config;
    given = first;
    left = left;
    trace = is.trace;
    commands = commands;
  }

  asked : (now : WorkerState) (first : List Command) (k : Command) (left : List Command)
      (l : LocalState) → commands_of a (op ∷ []) ≡ first ++ k ∷ left → Later old first now
      → Alike (given k now.thread) l → IsWithin a l
  asked now first k left l commands is so = record {
    worker = old;
    between = between;
    operation = op;
    next = next;
    thread = so.thread ∙ is.same.thread;
    config = so.config ∙ is.same.config;
    given = first ++ k ∷ [];
    left = left;
    trace = so.trace ∙ ap (λ ks. ks ++ k ∷ []) is.trace
        ∙ append_assoc old.thread.trace first (k ∷ []);
    commands = commands ∙ sym (append_assoc first (k ∷ []) left);
  }

  moment : (first left : List Command) (now new : WorkerState) (is : Executes now left new)
      → commands_of a (op ∷ []) ≡ first ++ left → Later old first now → (l : LocalState)
      → IsMomentOf left now new is l → IsWithin a l
  moment first [] now new is commands so l at =
      subst (IsWithin a) (sym at) (stopped now first [] commands so)
  moment first (k ∷ left) now new is commands so l at = elim at [
    | inl same ↦ subst (IsWithin a) (sym same) (stopped now first (k ∷ left) commands so)
    | inr (inl made) ↦ asked now first k left l commands so
        (alike (given k now.thread) (take made.0 is.3.words) l made.1)
    | inr (inr on) ↦ moment (first ++ k ∷ []) left is.0 new is.4
        (commands ∙ sym (append_assoc first (k ∷ []) left))
        (one_later old now is.0 first k so is.1 is.2) l on
  ]

pub work_all_along : {Op Row Answer S : Type 0} (a : Rows Op Row Answer S) → WorkAllAlong a
work_all_along {Op = Op} {Answer = Answer} a old new op answer did next l at =
    inr (moment a old.worker op did.first.between
    (subst (λ (w : RowWorkerState Op Answer). IsNext a w op) did.first.same next) [] (commands_of a (op ∷ [])) old.worker
    new.worker did.executes refl (none_later old.worker) l at)
