-- The rule of the board: the words and the threads of all seats are the state after some list of
-- turns.
use Rattle.std.specs.Prelude.{ℕ, ◌+◌, ◌-◌, ◌%◌, ◌^◌, ◌<◌, ◌≡◌, ◌==◌, false, List, [], ◌∷◌, ◌++◌, map, slice_index, slice_index_or}
use mathlib.Core.Option.{some}
use prog.Atomic.{either}
use lib.ListN.{get_elem?}
use Rattle.atomic_table.specs.Table as table
use Rattle.block_store.specs.declared.Config.{Config}
use Rattle.block_store.specs.Counts.{times}
use Rattle.block_store.specs.Phases.{bit}
use Rattle.heap_machine.specs.declared.op.Op.{Op}
use Rattle.heap_machine.specs.declared.op.Op.TheVariants as ops
use Rattle.heap_machine.specs.Operations.{op_place}
use Rattle.heap_system.specs.Locals.{LocalState, LocalReads, is_done, local_got, op_wanted}
use Rattle.heap_system.specs.Machines.{State, Run, IsJob, IsRunOf}
use Rattle.heap_system.specs.Serials.{AreOfThreads, AreFew}
use Rattle.heap_system.specs.Systems.{Whole, traces_of}
use Rattle.atom_board.specs.declared.rules.ThreadView.{ThreadView}
use Rattle.atom_board.specs.declared.rules.View.{View}
use Rattle.atom_board.specs.LoneTurns.{EndsAlone}

-- the state after this list of turns, over some job
pub record IsStateAfter (c : Config) (ts : List ℕ) (s : State) : Type 0 where
  pub job : IsJob c (traces_of s)
  pub run : Run
  pub by_turns : IsRunOf c (traces_of s) ts run
  pub state : s ≡ run.state

-- a thread that a seat holds is that of the state, and its count is that of its turns
abbrev pub HeldFits : Config → List LocalState → List ℕ → ThreadView → Type 0
HeldFits c ls ts h = (h.local.thread < c.threads)
    × (h.local ≡ slice_index_or ls h.local.thread h.local)
    × (h.turns ≡ times h.local.thread ts)

abbrev pub AllFit : Config → List LocalState → List ℕ → List ThreadView → Type 0
AllFit c ls ts [] = Unit {0}
AllFit c ls ts (h ∷ hs) = HeldFits c ls ts h × AllFit c ls ts hs

-- how many of these are thread t, and how many in all views
abbrev pub helds_of : ℕ → List ThreadView → ℕ
helds_of t [] = 0
helds_of t (h ∷ hs) = bit (t == h.local.thread) + helds_of t hs

abbrev pub seats_of : ℕ → List View → ℕ
seats_of t [] = 0
seats_of t (v ∷ vs) = helds_of t v.locals + seats_of t vs

-- The words of the table, and the threads of all views, each of which is in one view once, are
-- the state after some list of turns, of the job of the system that the table was made from. The
-- turns are of its threads, and few where there is one.
pub record BoardKept (k : Whole) (s : table.State Unit View) : Type 0 where
  pub locals : List LocalState
  pub turns : List ℕ
  pub after : IsStateAfter k.config turns (record { words = s.words; locals = locals })
  pub given : traces_of (record { words = s.words; locals = locals }) ≡ traces_of k.state
  pub own : AreOfThreads k.config turns
  pub few : AreFew k.config (traces_of k.state) turns
  pub each : (id : ℕ) (v : View) → get_elem? s.views id ≡ some v
      → AllFit k.config locals turns v.locals
  pub once : (t : ℕ) → t < k.config.threads → seats_of t s.views ≡ 1

abbrev pub held : LocalState → ℕ → ThreadView
held l n = record { local = l; turns = n }

abbrev pub no_view : View
no_view = record { locals = [] }

abbrev pub one_view : LocalState → ℕ → View
one_view l n = record { locals = held l n ∷ [] }

abbrev pub start_held : LocalState → ThreadView
start_held l = held l 0

-- the first seat has all threads
abbrev pub first_view : Whole → View
first_view k = record { locals = map start_held k.state.locals }

abbrev pub first_in : List ThreadView → List ThreadView
first_in [] = []
first_in (h ∷ hs) = h ∷ []

abbrev pub rest_in : List ThreadView → List ThreadView
rest_in [] = []
rest_in (h ∷ hs) = hs

abbrev pub first_of : View → View
first_of v = record { locals = first_in v.locals }

abbrev pub rest_of : View → View
rest_of v = record { locals = rest_in v.locals }

abbrev pub joined : View → View → View
joined v w = record { locals = v.locals ++ w.locals }

abbrev pub held_after : ℕ → ThreadView → ThreadView
held_after w h = held (local_got h.local w) (h.turns + 1)

-- what each thread of a view is after an event that read w
abbrev pub got_of : table.Me Unit View → ℕ → table.Me Unit View
got_of me w = (record { locals = map (held_after w) me.0.locals }, me.1)

abbrev pub AllRead : List ThreadView → ℕ → Type 0
AllRead [] w = Unit {0}
AllRead (h ∷ hs) w = LocalReads h.local.config h.local w × AllRead hs w

abbrev pub AllEndAlone : List ThreadView → Type 0
AllEndAlone [] = Unit {0}
AllEndAlone (h ∷ hs) = EndsAlone h.local h.turns × AllEndAlone hs

-- what a step tells: the thread moved on by one row, the word is one that its row may read, and a
-- thread that is alone ends
abbrev pub moves_on : table.Me Unit View → ℕ → table.Me Unit View → Type 0
moves_on me w after = (after ≡ got_of me w) × AllRead me.0.locals w
    × AllEndAlone (got_of me w).0.locals

-- the turns of a view's first thread
abbrev pub turns_in : List ThreadView → ℕ
turns_in [] = 0
turns_in (h ∷ hs) = h.turns

-- the word that an operation leaves where it found w, as the table writes it
abbrev pub written : Op → ℕ → ℕ
written (ops.Load i) w = w
written (ops.Exchange i v) w = v
written (ops.CompareExchange i old v) w = either (w == old) v w
written (ops.FetchAdd i v) w = (w + v) % 2 ^ 64
written (ops.FetchSub i v) w = (w + (2 ^ 64 - v)) % 2 ^ 64

-- the word that a thread's next event finds, and the table after that event of the one thread of
-- seat id
abbrev pub found_by : LocalState → table.State Unit View → ℕ
found_by l s = slice_index s.words (op_place (op_wanted l))

abbrev pub table_after : ℕ → ℕ → LocalState → table.State Unit View → table.State Unit View
table_after id n l s =
    table.stepped s (op_place (op_wanted l)) (written (op_wanted l) (found_by l s)) id []
    (one_view (local_got l (found_by l s)) (n + 1)) table.keeps

-- a seat has this one thread, which is not done and has made so many turns, and its next event
-- finds a word
pub record MayGo (s : table.State Unit View) (id n : ℕ) (l : LocalState) : Type 0 where
  pub seat : get_elem? s.views id ≡ some (one_view l n)
  pub going : is_done l ≡ false
  pub word : found_by l s < 2 ^ 64

-- the rule holds still, and its list of turns is longer by that thread's number
pub record IsLonger (k : Whole) (s : table.State Unit View) (kept : BoardKept k s) (id n : ℕ)
    (l : LocalState) : Type 0 where
  pub after : BoardKept k (table_after id n l s)
  pub turns : after.turns ≡ kept.turns ++ l.thread ∷ []
