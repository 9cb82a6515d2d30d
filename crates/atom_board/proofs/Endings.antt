-- A seat that has all threads, each of them done, knows that the run is finished.
use Rattle.std.proofs.Common.{◌≡◌, ℕ, zero, suc, ◌<◌, true, refl, arith, subst, sym, ap, ◌∙◌, List, [], ◌∷◌, length, get_or, map}
use Rattle.std.proofs.lemmas.List.{get_or_default, length-map}
use mathlib.Core.Option.{some, some-injective, some-ne-none}
use lib.ListN.{get_elem?}
use Rattle.atomic_table.specs.Table as table
use Rattle.block_store.specs.declared.Config.{Config}
use Rattle.block_store.specs.Counts.{times}
use Rattle.block_store.specs.Phases.{cycle_of}
use Rattle.never_heap.specs.declared.Command.{Command}
use Rattle.never_heap.specs.declared.Entry.{Entry}
use Rattle.heap_system.specs.Locals.{LocalState, is_done}
use Rattle.heap_system.specs.Machines.{State, no_local, local_at, local_in}
use Rattle.heap_system.specs.Serials.{AreOfThreads, AreFew}
use Rattle.heap_system.specs.Systems.{Whole, traces_of, logs_of, AllDone, IsReached, IsFinished}
use Rattle.heap_system.proofs.Lemmas.{done_run, done_turns, reached_kept}
use Rattle.heap_system.proofs.history.FinishedRun.{all_done}
use Rattle.atom_board.specs.declared.rules.ThreadView.{ThreadView}
use Rattle.atom_board.specs.declared.rules.View.{View}
use Rattle.atom_board.specs.Boards.{HeldFits, AllFit, BoardKept}

abbrev local_of : ThreadView → LocalState
local_of h = h.local

fit_at : (c : Config) (ls : List LocalState) (ts : List ℕ) (hs : List ThreadView) (i : ℕ) (d : ThreadView) → AllFit c ls ts hs → i < length hs → HeldFits c ls ts (get_or hs i d)
fit_at c ls ts [] i d fit low = absurd (omega arith)
fit_at c ls ts (h ∷ hs) zero d fit low = fit.0
fit_at c ls ts (h ∷ hs) (suc i) d fit low = fit_at c ls ts hs i d fit.1 (omega arith)

-- lists of one length that agree at each place
same_lists : (xs ys : List LocalState) (d : LocalState) → length xs ≡ length ys → ((i : ℕ) → i < length xs → get_or xs i d ≡ get_or ys i d) → xs ≡ ys
same_lists [] [] d long each = refl
same_lists [] (y ∷ ys) d long each = absurd (omega arith)
same_lists (x ∷ xs) [] d long each = absurd (omega arith)
same_lists (x ∷ xs) (y ∷ ys) d long each = ap (λ z. z ∷ xs) (each 0 (omega arith)) ∙ ap (λ zs. y ∷ zs) (same_lists xs ys d (omega arith) (λ i low. each (suc i) (omega arith)))

local_at_map : (hs : List ThreadView) (i : ℕ) (h : ThreadView) → i < length hs → get_or (map local_of hs) i h.local ≡ (get_or hs i h).local
local_at_map [] i h low = absurd (omega arith)
local_at_map (x ∷ hs) zero h low = refl
local_at_map (x ∷ hs) (suc i) h low = local_at_map hs i h (omega arith)

logs_map : (hs : List ThreadView) → map (λ (l : LocalState). l.log) (map local_of hs) ≡ map (λ (h : ThreadView). h.local.log) hs
logs_map [] = refl
logs_map (h ∷ hs) = ap (λ xs. h.local.log ∷ xs) (logs_map hs)

-- the run that has finished, of these threads with their counts, in order
pub record IsEndedBy (c : Config) (traces : List (List Command)) (hs : List ThreadView) (logs : List (List Entry)) (cycles : ℕ) : Type 0 where
  pub finished : IsFinished c traces logs cycles
  pub local : (t : ℕ) (d : ThreadView) → t < length hs → (get_or hs t d).local ≡ local_in c finished.run t
  pub turns : (t : ℕ) (d : ThreadView) → t < length hs → (get_or hs t d).turns ≡ times t finished.turns
  pub own : AreOfThreads c finished.turns
  pub few : AreFew c traces finished.turns

pub ended : (k : Whole) (s : table.State Unit View) (id : ℕ) (v : View) → BoardKept k s → get_elem? s.views id ≡ some v → length v.locals ≡ k.config.threads
    → ((t : ℕ) (d : ThreadView) → t < length v.locals → (get_or v.locals t d).local.thread ≡ t)
    → ((t : ℕ) (d : ThreadView) → t < length v.locals → is_done (get_or v.locals t d).local ≡ true)
    → IsEndedBy k.config (traces_of k.state) v.locals (map (λ (h : ThreadView). h.local.log) v.locals) (cycle_of (get_or s.words 0 0))
ended k s id v kept at long numbered done =
    let c = k.config in
    let ls = kept.locals in
    let st : State = record { words = s.words; locals = ls } in
    let r : IsReached c st = record { job = kept.after.job; turns = kept.turns; run = kept.after.run; by_turns = kept.after.by_turns; state = kept.after.state } in
    let count : length ls ≡ c.threads = (reached_kept c st r).threads in
    let d : ThreadView = record { local = no_local c; turns = 0 } in
    let fit : (i : ℕ) (e : ThreadView) → i < length v.locals → HeldFits c ls kept.turns (get_or v.locals i e) = λ i e low. fit_at c ls kept.turns v.locals i e (kept.each id v at) low in
    let same_at : (i : ℕ) (e : ThreadView) → i < length v.locals → (get_or v.locals i e).local ≡ get_or ls i (no_local c) = λ i e low.
    ((fit i e low).1 ∙ ap (λ t. get_or ls t (get_or v.locals i e).local) (numbered i e low) ∙ get_or_default ls i (get_or v.locals i e).local (no_local c) (omega arith)) in
    let all : map local_of v.locals ≡ ls = same_lists (map local_of v.locals) ls (no_local c) (length-map v.locals local_of ∙ omega arith)
    (λ i low. (let il : i < length v.locals = omega (arith, length-map v.locals local_of) in local_at_map v.locals i d il ∙ same_at i d il)) in
    let over : AllDone c st = λ t tl. ap is_done (sym (same_at t d (omega arith))) ∙ done t d (omega arith) in
    let cycles : ℕ = cycle_of (get_or s.words 0 0) in
    let run : kept.after.run ≡ (all_done c st r over).run = sym (done_run c st r over) in
    let turns : kept.turns ≡ (all_done c st r over).turns = sym (done_turns c st r over) in
    let whole : IsEndedBy c (traces_of st) v.locals (logs_of st) cycles = record {
      finished = all_done c st r over;
      local = λ t e low. same_at t e low ∙ ap (λ x. local_at c x t) kept.after.state ∙ ap (λ q. local_in c q t) run;
      turns = λ t e low. (fit t e low).2 ∙ ap (λ u. times u kept.turns) (numbered t e low) ∙ ap (times t) turns;
      own = subst (AreOfThreads c) turns kept.own;
      few = subst (AreFew c (traces_of st)) turns (subst (λ xs. AreFew c xs kept.turns) (sym kept.given) kept.few);
    } in
    subst (λ x. IsEndedBy c x v.locals (map (λ (h : ThreadView). h.local.log) v.locals) cycles) kept.given
    (subst (λ x. IsEndedBy c (traces_of st) v.locals x cycles) (ap (map (λ (l : LocalState). l.log)) (sym all) ∙ logs_map v.locals) whole)

-- the word that is read at place 0 is the phase word
pub first_word : (ws : List ℕ) (w : ℕ) → get_elem? ws 0 ≡ some w → get_or ws 0 0 ≡ w
first_word [] w e = absurd (some-ne-none w (sym e))
first_word (x ∷ ws) w e = some-injective x w e

pub cycle_is : (s : table.State Unit View) (ws : List ℕ) (w : ℕ) → s.words ≡ ws → get_elem? ws 0 ≡ some w → cycle_of (get_or s.words 0 0) ≡ cycle_of w
cycle_is s ws w same at = ap (λ x. cycle_of (get_or x 0 0)) same ∙ ap cycle_of (first_word ws w at)
