-- Commands that are executed one after the other.
use Rattle.std.proofs.Common.{◌≡◌, ℕ, ◌+◌, ◌<◌, ◌≤◌, inl, inr, refl, arith, subst, sym, ap, ◌∙◌, append_assoc, List, [], ◌∷◌, ◌++◌, length, map, get_or, take, drop}
use Rattle.std.specs.List.{AllByRecursion}
use Rattle.std.proofs.lemmas.Bool.{cases_eq}
use Rattle.std.proofs.lemmas.List.{append-nil, map-append, take_more, take_all, at_drop_more}
use Rattle.block_store.specs.declared.Config.{Config}
use Rattle.never_heap.specs.Bounds.{IsCommandInBounds}
use Rattle.never_heap.specs.declared.Command.{Command}
use Rattle.never_heap.specs.declared.Entry.{Entry}
use Rattle.never_heap.specs.declared.Reply.{Reply}
use Rattle.never_heap.specs.declared.Reply.TheVariants as answers
use Rattle.shared_heap.specs.Workers.{WorkerState, HasRoom, HasAnswered, HasMade, IsSame}
use Rattle.shared_heap.specs.declared.rules.Moment.TheVariants as moments
use Rattle.shared_heap.proofs.Lemmas.{invoked_before, part_before, same_here, same_on, starts_on}
use Rattle.live_tables.specs.rows.Life.{Executes, HasBegun, HasRoomFor, HasRun, last_three}
use Rattle.live_tables.proofs.rows.Rooms.{room_one, room_rest}

abbrev Three : Type 0
Three = Reply × Reply × Reply

-- the last three replies after one more
abbrev pub moved_on : Three → Reply → Three
moved_on p r = (p.1, p.2, r)

three_more : (a b c r : Reply) (rs : List Reply)
    → last_three a b c (rs ++ r ∷ []) ≡ moved_on (last_three a b c rs) r
three_more a b c r [] = refl
three_more a b c r (x ∷ rs) = three_more b c x r rs

abbrev pub no_replies : Three
no_replies = (answers.Null, answers.Null, answers.Null)

executes_more : (a b c : WorkerState) (ks : List Command) (k : Command) → Executes a ks b
    → IsSame b c → c.thread.trace ≡ b.thread.trace ++ k ∷ [] → HasMade b k c
    → Executes a (ks ++ k ∷ []) c
executes_more a b c [] k is same asked made =
    subst (λ (w : WorkerState). Executes w (k ∷ []) c) is (c, same, asked, made, refl)
executes_more a b c (x ∷ xs) k is same asked made =
    (is.0, is.1, is.2, is.3, executes_more is.0 b c xs k is.4 same asked made)

run_none : (w : WorkerState) → HasRun w [] no_replies w
run_none w = record {
  same = same_here w;
  asked = sym (append-nil w.thread.trace);
  executes = refl;
  entries = [];
  told = sym (append-nil w.thread.log);
  commands = refl;
  last = refl;
}

run_more : (a b c : WorkerState) (ks : List Command) (k : Command) (p : Three) (r : Reply)
    → HasRun a ks p b → IsSame b c → HasAnswered b k r c → HasMade b k c
    → HasRun a (ks ++ k ∷ []) (moved_on p r) c
run_more a b c ks k p r run same is made = record {
  same = same_on a b c run.same same;
  asked = is.asked ∙ ap (λ l. l ++ k ∷ []) run.asked ∙ append_assoc a.thread.trace ks (k ∷ []);
  executes = executes_more a b c ks k run.executes same is.asked made;
  entries = run.entries ++ is.entry ∷ [];
  told = is.told ∙ ap (λ l. l ++ is.entry ∷ []) run.told
      ∙ append_assoc a.thread.log run.entries (is.entry ∷ []);
  commands = map-append (λ (e : Entry). e.command) run.entries (is.entry ∷ [])
      ∙ (λ i. run.commands i ++ is.command i ∷ []);
  last = ap (λ (q : Three). moved_on q r) run.last
      ∙ sym (three_more answers.Null answers.Null answers.Null r
      (map (λ (e : Entry). e.reply) run.entries))
      ∙ ap (λ x. last_three answers.Null answers.Null answers.Null
      (map (λ (e : Entry). e.reply) run.entries ++ x ∷ [])) (sym is.reply)
      ∙ ap (last_three answers.Null answers.Null answers.Null)
      (sym (map-append (λ (e : Entry). e.reply) run.entries (is.entry ∷ [])));
}

-- the first command begins, and the others go on
begun_first : (old new : WorkerState) (k : Command) (a : Reply) → HasAnswered old k a new
    → HasBegun old new
begun_first old new k a is = record {
  start = is.start;
  before = is.before;
  noted = is.noted;
  own = part_before old new k a is;
  on = (is.items, is.seen);
  notes = is.notes;
  past = is.past;
  command = k;
  began = is.began;
  started = is.started;
  earlier = invoked_before old new k a is;
  invoked = (
    is.later,
    is.timeline
        ∙ sym (append_assoc is.past (moments.Invoked old.thread.thread k ∷ []) is.later),
  );
  sound = is.sound;
}

begun_more : (first old new : WorkerState) (k : Command) (a : Reply) → HasBegun first old
    → HasAnswered old k a new → HasBegun first new
begun_more first old new k a b is = record {
  start = b.start;
  before = b.before;
  noted = b.noted;
  own = b.own;
  on = (
    b.on.0 ++ (is.before.0 ++ is.items),
    is.seen
        ∙ ap (λ s. s ++ is.items) (is.before.1 ∙ ap (λ s. s ++ is.before.0) b.on.1)
        ∙ append_assoc (b.start ++ b.on.0) is.before.0 is.items
        ∙ append_assoc b.start b.on.0 (is.before.0 ++ is.items),
  );
  notes = is.notes;
  past = b.past;
  command = b.command;
  began = b.began;
  started = b.started;
  earlier = b.earlier;
  invoked = starts_on (b.past ++ moments.Invoked first.thread.thread b.command ∷ []) old.timeline
      new.timeline b.invoked
      (starts_on old.timeline is.past new.timeline is.began
      (moments.Invoked old.thread.thread k ∷ is.later, is.timeline));
  sound = is.sound;
}

-- the loop's invariant: i commands were executed, and the lifetime allows the others
pub record IsAt (first : WorkerState) (ks : List Command) (i : ℕ) (p : Three)
    (now : WorkerState) : Type 0 where
  pub none : i ≡ 0 → now ≡ first
  pub begun : 0 < i → HasBegun first now
  pub run : HasRun first (take i ks) p now
  pub room : HasRoomFor now.thread (drop i ks)
  pub bounds : AllByRecursion (IsCommandInBounds now.thread.config) (drop i ks)

pub at_first : (first : WorkerState) (ks : List Command) → HasRoomFor first.thread ks
    → AllByRecursion (IsCommandInBounds first.thread.config) ks
    → IsAt first ks 0 no_replies first
at_first first ks room bounds = record {
  none = λ e. refl;
  begun = λ low. absurd (omega arith);
  run = run_none first;
  room = room;
  bounds = bounds;
}

module _ (first : WorkerState) (ks : List Command) (i : ℕ) (p : Three) (now : WorkerState)
    (at : IsAt first ks i p now) (d : Command) (low : i < length ks) where
  abbrev k : Command
  k = get_or ks i d

  room_here : HasRoomFor now.thread (k ∷ drop (i + 1) ks)
  room_here = subst (λ l. HasRoomFor now.thread l) (at_drop_more (λ (l : List Command). l) ks i d low)
      at.room

  bounds_here : AllByRecursion (IsCommandInBounds now.thread.config) (k ∷ drop (i + 1) ks)
  bounds_here = subst (λ l. AllByRecursion (IsCommandInBounds now.thread.config) l)
      (at_drop_more (λ (l : List Command). l) ks i d low) at.bounds

  pub in_bounds : IsCommandInBounds now.thread.config k
  in_bounds = bounds_here.0

  pub has_left : HasRoom now.thread k
  has_left = room_one now.thread k (drop (i + 1) ks) room_here

  pub at_next : (next : WorkerState) (r : Reply) → IsSame now next → HasAnswered now k r next
      → HasMade now k next → IsAt first ks (i + 1) (moved_on p r) next
  at_next next r same is made = record {
    none = λ e. absurd (omega arith);
    begun = λ some. elim (cases_eq i 0) [
      | inl e ↦ subst (λ w. HasBegun w next) (at.none e) (begun_first now next k r is)
      | inr ne ↦ begun_more first now next k r (at.begun (omega arith)) is
    ];
    run = subst (λ l. HasRun first l (moved_on p r) next) (sym (take_more ks i d low))
        (run_more first now next (take i ks) k p r at.run same is made);
    room = room_rest now next k r same is (drop (i + 1) ks) room_here;
    bounds = subst (λ (c : Config). AllByRecursion (IsCommandInBounds c) (drop (i + 1) ks))
        (sym same.config) bounds_here.1;
  }

pub at_end : (first : WorkerState) (ks : List Command) (i : ℕ) (p : Three)
    (now : WorkerState) → IsAt first ks i p now → length ks ≤ i → HasRun first ks p now
at_end first ks i p now at high = subst (λ l. HasRun first l p now) (take_all i ks high) at.run

pub begun_then : (first : WorkerState) (ks : List Command) (i : ℕ) (p : Three)
    (now : WorkerState) → IsAt first ks i p now → length ks ≤ i → 0 < length ks
    → HasBegun first now
begun_then first ks i p now at high some = at.begun (omega (arith, high, some))
