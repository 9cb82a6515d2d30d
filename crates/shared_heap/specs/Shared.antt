-- The rule of a heap that several threads share: the words and the threads of all seats are those
-- of a run of some job, each turn of which was an event. A timeline has the order of that run and
-- the invocations of all commands, and what each seat has seen is a prefix of it.
use Rattle.std.specs.Prelude.{ℕ, ◌+◌, ◌^◌, ◌<◌, ◌≤◌, ◌≡◌, ◌⊎◌, ◌==◌, if◌then◌else◌, List, [], ◌∷◌, ◌++◌, length, map, slice_index, slice_index_or}
use mathlib.Core.Option.{Option, some}
use lib.ListN.{get_elem?}
use Rattle.atomic_table.specs.Table as table
use Rattle.block_store.specs.declared.Config.{Config}
use Rattle.block_store.specs.Phases.{bit}
use Rattle.heap_machine.specs.Operations.{op_place}
use Rattle.never_heap.specs.declared.Command.{Command}
use Rattle.never_heap.specs.declared.Command.TheVariants as commands
use Rattle.never_heap.specs.declared.Entry.{Entry}
use Rattle.never_heap.specs.Histories.{HistoryItem, Started, Did, part}
use Rattle.heap_system.specs.Locals.{LocalState, LocalReads, local_got, op_wanted}
use Rattle.heap_system.specs.Machines.{Run, IsAfterTurns, local_in}
use Rattle.heap_system.specs.Systems.{Whole}
use Rattle.control_heap.specs.Controls.{IsByEvents, with_history}
use Rattle.control_heap.specs.Growth.{given}
use Rattle.shared_heap.specs.declared.rules.ThreadView.{ThreadView}
use Rattle.shared_heap.specs.declared.rules.SeenHistory.{SeenHistory}
use Rattle.shared_heap.specs.declared.rules.Span.{Span}
use Rattle.shared_heap.specs.declared.rules.Moment.{Moment}
use Rattle.shared_heap.specs.declared.rules.Moment.TheVariants as moments
use Rattle.shared_heap.specs.declared.rules.View.{View}
use Rattle.shared_heap.specs.Spans.{IsInTime, IsTimed}

-- ---- timelines

-- The history of a timeline: its starts of cycles and its entries.
abbrev pub history_of : List Moment → List HistoryItem
history_of [] = []
history_of (moments.Began ∷ ms) = Started ∷ history_of ms
history_of (moments.Invoked t k ∷ ms) = history_of ms
history_of (moments.Stamped ∷ ms) = history_of ms
history_of (moments.TookEffect e ∷ ms) = Did e ∷ history_of ms

-- the commands of thread t that were invoked, in the order of the timeline
abbrev pub invoked_in : ℕ → List Moment → List Command
invoked_in t [] = []
invoked_in t (moments.Began ∷ ms) = invoked_in t ms
invoked_in t (moments.Invoked u k ∷ ms) =
    if u == t then k ∷ invoked_in t ms else invoked_in t ms
invoked_in t (moments.Stamped ∷ ms) = invoked_in t ms
invoked_in t (moments.TookEffect e ∷ ms) = invoked_in t ms

-- how many stamps were drawn
abbrev pub stamps_in : List Moment → ℕ
stamps_in [] = 0
stamps_in (moments.Began ∷ ms) = stamps_in ms
stamps_in (moments.Invoked u k ∷ ms) = stamps_in ms
stamps_in (moments.Stamped ∷ ms) = stamps_in ms + 1
stamps_in (moments.TookEffect e ∷ ms) = stamps_in ms

-- The number is this count, unless that exceeds a word.
abbrev pub IsCountUnlessWrapped : ℕ → ℕ → Type 0
IsCountUnlessWrapped n count = (n ≡ count) ⊎ (2 ^ 64 ≤ count)

-- The first list is a prefix of the second.
abbrev pub IsStartOf : {A : Type 0} → List A → List A → Type 0
IsStartOf {A} start whole = (more : List A) × (whole ≡ start ++ more)

-- A thread has at most one command that is invoked and has no entry yet: every prefix has as many
-- entries of a thread as invocations of it, or one fewer. The n-th entry of a thread is that of its
-- n-th command. So each entry comes after the invocation of its command, and before that of the
-- thread's next one.
abbrev pub IsWellFormed : List Moment → Type 0
IsWellFormed timeline = (p : List Moment) → IsStartOf p timeline → (t : ℕ)
    → (length (part t (history_of p)) ≤ length (invoked_in t p))
    × (length (invoked_in t p) ≤ length (part t (history_of p)) + 1)

-- what each of these threads has seen, and each of these notes, is a prefix of this timeline
abbrev pub AllSeenIn : List Moment → List ThreadView → Type 0
AllSeenIn timeline [] = Unit {0}
AllSeenIn timeline (h ∷ hs) = IsStartOf h.past.seen timeline × AllSeenIn timeline hs

abbrev pub AllNotedIn : List Moment → List (List Moment) → Type 0
AllNotedIn timeline [] = Unit {0}
AllNotedIn timeline (n ∷ ns) = IsStartOf n timeline × AllNotedIn timeline ns

-- ---- the rule

-- A timeline of a run: its history is the run's order, the commands of each thread were invoked in
-- the order of its trace, and it is well-formed.
pub record IsTimelineOf (c : Config) (r : Run) (timeline : List Moment) : Type 0 where
  pub ordered : r.order ≡ history_of timeline
  pub invoked : (t : ℕ) → t < c.threads → invoked_in t timeline ≡ (local_in c r t).trace
  pub others : (u : ℕ) → c.threads ≤ u → invoked_in u timeline ≡ []
  pub formed : IsWellFormed timeline

-- a thread is the run's
abbrev pub Fits : Config → Run → ThreadView → Type 0
Fits c r h = (h.local.thread < c.threads)
    × (h.local ≡ slice_index_or r.state.locals h.local.thread h.local)

abbrev pub AllFit : Config → Run → List ThreadView → Type 0
AllFit c r [] = Unit {0}
AllFit c r (h ∷ hs) = Fits c r h × AllFit c r hs

-- how many of these threads are thread t, and how many of those in all views
abbrev pub threads_of : ℕ → List ThreadView → ℕ
threads_of t [] = 0
threads_of t (h ∷ hs) = bit (t == h.local.thread) + threads_of t hs

abbrev pub seats_of : ℕ → List View → ℕ
seats_of t [] = 0
seats_of t (v ∷ vs) = threads_of t v.threads + seats_of t vs

abbrev pub AllTimed : Config → Run → ℕ → List ThreadView → Type 0
AllTimed c r turns [] = Unit {0}
AllTimed c r turns (h ∷ hs) = IsTimed c r turns h × AllTimed c r turns hs

-- There is a run of some job, each turn of which was an event. The words of the table are its
-- words, followed by one that counts the stamps. Each of its threads is in exactly one view, with
-- all of its commands and entries so far. It has a timeline, of which what each thread has seen,
-- and each note, is a prefix. The seats count its turns.
pub record SharedKept (k : Whole) (s : table.State Command View) : Type 0 where
  pub run : Run
  pub by : IsByEvents k.config run
  pub drawn : ℕ
  pub words : s.words ≡ run.state.words ++ drawn ∷ []
  pub timeline : List Moment
  pub counts : IsCountUnlessWrapped drawn (stamps_in timeline)
  pub timeline_of : IsTimelineOf k.config run timeline
  pub each : (id : ℕ) (v : View) → get_elem? s.views id ≡ some v
      → AllFit k.config run v.threads × AllNotedIn timeline v.notes
      × AllTimed k.config run (length by.after.turns) v.threads × AllSeenIn timeline v.threads
  pub once : (t : ℕ) → t < k.config.threads → seats_of t s.views ≡ 1

-- ---- views

abbrev pub held : LocalState → SeenHistory → ThreadView
held l p = record { local = l; past = p }

abbrev pub no_view : View
no_view = record { threads = []; notes = [] }

abbrev pub one_view : ThreadView → List (List Moment) → View
one_view h notes = record { threads = h ∷ []; notes = notes }

-- a thread that has no command yet, and has seen the start of cycle 1
abbrev pub unasked : LocalState → LocalState
unasked l = with_history [] [] l

abbrev pub no_span : Span
no_span = record { phase = 0; first = 0; last = 0; own = 0 }

abbrev pub first_past : LocalState → SeenHistory
first_past l = record {
  seen = moments.Began ∷ [];
  span = no_span;
  call = record {
    command = commands.Nil 0;
    local = unasked l;
    seen = [];
    notes = [];
    span = no_span;
    start = [];
  };
}

abbrev pub first_held : LocalState → ThreadView
first_held l = held (unasked l) (first_past l)

-- the first seat has all threads
abbrev pub first_view : Whole → View
first_view k = record { threads = map first_held k.state.locals; notes = [] }

abbrev pub first_in : List ThreadView → List ThreadView
first_in [] = []
first_in (h ∷ hs) = h ∷ []

abbrev pub rest_in : List ThreadView → List ThreadView
rest_in [] = []
rest_in (h ∷ hs) = hs

abbrev pub first_of : View → View
first_of v = record { threads = first_in v.threads; notes = [] }

abbrev pub rest_of : View → View
rest_of v = record { threads = rest_in v.threads; notes = v.notes }

abbrev pub joined : View → View → View
joined v w = record { threads = v.threads ++ w.threads; notes = v.notes ++ w.notes }

-- a note of what the threads of a view have seen
abbrev pub seen_by : ThreadView → List Moment
seen_by h = h.past.seen

abbrev pub noted_of : View → View
noted_of v = record { threads = []; notes = map seen_by v.threads }

abbrev pub same_view : View → View
same_view v = v

-- ---- steps

-- The thread is that of some run of a job. The run has the timeline that the thread has seen, and
-- as many turns as its seat knows.
pub record IsOfRun (c : Config) (p : SeenHistory) (l : LocalState) : Type 0 where
  pub run : Run
  pub after : IsAfterTurns c run
  pub there : l.thread < c.threads
  pub local : l ≡ local_in c run l.thread
  pub timeline_of : IsTimelineOf c run p.seen
  pub counted : p.span.last ≡ length after.turns

abbrev pub AllOfRuns : List ThreadView → Type 0
AllOfRuns [] = Unit {0}
AllOfRuns (h ∷ hs) = IsOfRun h.local.config h.past h.local × AllOfRuns hs

abbrev pub AllRead : List ThreadView → ℕ → Type 0
AllRead [] w = Unit {0}
AllRead (h ∷ hs) w = LocalReads h.local.config h.local w × AllRead hs w

-- what a seat knows after more events of its thread, where its thread has made so many for its last
-- command, and the run has this timeline and so many turns
abbrev pub later_past : List Moment → ℕ → ℕ → SeenHistory → SeenHistory
later_past now turns own p =
    record p { seen = now; span = record p.span { last = turns; own = own } }

abbrev pub stepped_past : List Moment → ℕ → SeenHistory → SeenHistory
stepped_past now turns p = later_past now turns (p.span.own + 1) p

-- what each thread of a view is after an event that read w
abbrev pub got_by : ℕ → List Moment → ℕ → ThreadView → ThreadView
got_by w now turns h = held (local_got h.local w) (stepped_past now turns h.past)

abbrev pub got_of : ℕ → List Moment → ℕ → table.Me Command View → table.Me Command View
got_of w now turns me =
    (record { threads = map (got_by w now turns) me.0.threads; notes = me.0.notes }, me.1)

-- each thread is within the bounds of its last command, if it was alone
abbrev pub AllInTime : List ThreadView → Type 0
AllInTime [] = Unit {0}
AllInTime (h ∷ hs) = IsInTime h.local.config h.past.call.command h.past.span × AllInTime hs

-- What an event ensures: the thread moved on by one row, and the word is one that its row may
-- read. Its seat now knows the timeline and the turns of a run of which it is a thread. What it had
-- seen before is a prefix of that timeline. If it is alone, it is within its bounds.
pub record StepsOn (me : table.Me Command View) (w : ℕ) (after : table.Me Command View) : Type 0
  where
    pub now : List Moment
    pub turns : ℕ
    pub moved : after ≡ got_of w now turns me
    pub reads : AllRead me.0.threads w
    pub told : AllOfRuns after.0.threads
    pub few : AllInTime after.0.threads
    pub seen : AllSeenIn now me.0.threads

-- what a seat knows when a command is announced for its thread: the timeline ends with the
-- command's invocation
abbrev pub given_past : Command → ℕ → List Moment → ℕ → List (List Moment) → ThreadView → SeenHistory
given_past k phase now turns notes h = record {
  seen = now ++ moments.Invoked h.local.thread k ∷ [];
  span = record { phase = phase; first = turns; last = turns; own = 0 };
  call = record {
    command = k;
    local = h.local;
    seen = h.past.seen;
    notes = notes;
    span = h.past.span;
    start = now;
  };
}

-- the command is appended to the trace of each thread of a view; no note is left
abbrev pub given_by : Command → ℕ → List Moment → ℕ → List (List Moment) → ThreadView → ThreadView
given_by k phase now turns notes h = held (given k h.local) (given_past k phase now turns notes h)

abbrev pub given_of : Command → ℕ → List Moment → ℕ → table.Me Command View
    → table.Me Command View
given_of k phase now turns me = (
  record {
    threads = map (given_by k phase now turns me.0.notes) me.0.threads;
    notes = [];
  },
  me.1,
)

-- What a step ensures that announces a command, and that found this phase word: the command is
-- appended to the thread's trace, and its invocation to a timeline `now`. Its seat now knows that
-- timeline and the turns of a run of which it is a thread. What it had seen before, and each of its
-- notes, is a prefix of `now`.
pub record Gives (k : Command) (phase : ℕ) (me after : table.Me Command View) : Type 0 where
  pub now : List Moment
  pub turns : ℕ
  pub moved : after ≡ given_of k phase now turns me
  pub told : AllOfRuns after.0.threads
  pub seen : AllSeenIn now me.0.threads
  pub noted : AllNotedIn now me.0.notes

abbrev pub gives_on : Option Command → ℕ → table.Me Command View → table.Me Command View → Type 0
gives_on announced phase me after =
    (k : Command) → announced ≡ some k → Gives k phase me after

-- what a seat knows after a stamp: all of the timeline, which ends with the stamp, and the turns
abbrev pub drawn_by : List Moment → ℕ → ThreadView → ThreadView
drawn_by now turns h =
    held h.local (later_past (now ++ moments.Stamped ∷ []) turns h.past.span.own h.past)

abbrev pub drawn_of : List Moment → ℕ → table.Me Command View → table.Me Command View
drawn_of now turns me =
    (record { threads = map (drawn_by now turns) me.0.threads; notes = me.0.notes }, me.1)

-- What a step ensures that draws a stamp: the number found counts the stamps of a timeline `now`,
-- to which one is appended. The seat knows that timeline and the turns of a run of which it is a
-- thread. What it had seen before is a prefix of `now`.
pub record Draws (found : ℕ) (me after : table.Me Command View) : Type 0 where
  pub now : List Moment
  pub turns : ℕ
  pub moved : after ≡ drawn_of now turns me
  pub told : AllOfRuns after.0.threads
  pub seen : AllSeenIn now me.0.threads
  pub counts : IsCountUnlessWrapped found (stamps_in now)

-- the word that a thread's next event finds
abbrev pub found_by : LocalState → table.State Command View → ℕ
found_by l s = slice_index s.words (op_place (op_wanted l))

-- a thread with these commands and entries before its own
abbrev pub behind : List Command → List Entry → LocalState → LocalState
behind ks es l = record l { before = 0; trace = ks ++ l.trace; log = es ++ l.log }

-- the first thread of these, or l
abbrev pub held_of : LocalState → List ThreadView → ThreadView
held_of l [] = held l (first_past l)
held_of l (h ∷ hs) = h
