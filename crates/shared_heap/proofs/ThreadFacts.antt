-- What holds of a thread of a run, and of one that is done.
use Rattle.std.proofs.Common.{List, ◌≡◌, ℕ, ◌<◌, true, ◌++◌, append-nil, map, take, sym, ap, ◌∙◌, subst, arith}
use Rattle.std.proofs.Math.Seq.{take-length}
use Rattle.block_store.specs.declared.Config.{Config}
use Rattle.rate_plan.specs.Rates.{IsRate}
use Rattle.never_heap.specs.declared.Command.{Command}
use Rattle.never_heap.specs.declared.Entry.{Entry}
use Rattle.never_heap.specs.Histories.{HistoryItem, Legal, part, replay}
use Rattle.never_heap.specs.Licensed.{Licensed}
use Rattle.never_heap.specs.RightWork.{RightWork, units_owed}
use Rattle.heap_system.specs.Lives.{sum_after}
use Rattle.heap_system.specs.Parts.{Rest}
use Rattle.heap_system.specs.Locals.{LocalState, IsLocal, command_of, entries_of, is_done, is_rest, owed, works}
use Rattle.heap_system.specs.Machines.{Run, IsAfterTurns, local_in}
use Rattle.heap_system.specs.Pictures.{waiting}
use Rattle.heap_system.specs.Units.{IsRight}
use Rattle.heap_system.proofs.Lemmas.{IsSettled, Kept, as_long, at_rest, entries_right, kept_of, laws_of, licensed, owed_works, rest_is, right_work, tallies_of}
use Rattle.control_heap.proofs.GrownJobs.{HasRoomFor}
use Rattle.shared_heap.specs.declared.rules.SeenHistory.{SeenHistory}
use Rattle.shared_heap.specs.Shared.{IsOfRun, history_of}
use Rattle.shared_heap.specs.Workers.{HasRoom}

module _ (c : Config) (t : ℕ) (tl : t < c.threads) (r : Run) (is : IsAfterTurns c r) where
  abbrev own : LocalState
  own = local_in c r t

  kept : Kept c is.traces r
  kept = kept_of c r is

  -- its part of the order is its log
  pub told_at_rest : is_rest own.part ≡ true → part t r.order ≡ own.log
  told_at_rest rest =
      (kept.locals t tl).told
      ∙ ap (λ p. own.log ++ entries_of own.thread (command_of own) own.spent (waiting (replay c r.order) p)) (rest_is own.part rest)
      ∙ append-nil own.log

  pub said_when_done : is_done own ≡ true → map (λ (e : Entry). e.command) own.log ≡ own.trace
  said_when_done done = (kept.locals t tl).said ∙ ap (λ n. take n own.trace) (as_long own done) ∙ take-length own.trace

  settled : is_rest own.part ≡ true → own.spent ≡ 0
  settled rest = (let s : IsSettled (owed own) own.spent Rest = subst (λ p. IsSettled (owed own) own.spent p) (rest_is own.part rest) (kept.locals t tl).settled in s)

  owed_is : is_done own ≡ true → (p : ℕ) → IsRate c p → sum_after (units_owed c.width p) 0 own.trace ≡ works own.log
  owed_is done p planned =
      let right : IsRight c.width p own.log = subst (λ es. IsRight c.width p es) (told_at_rest (at_rest own done)) (entries_right c is.traces r kept t tl p planned) in
      sym (ap (sum_after (units_owed c.width p) 0) (said_when_done done)) ∙ owed_works c.width p own.log right

-- of a thread of some run
module _ (c : Config) (past : SeenHistory) (l : LocalState) (is : IsOfRun c past l) where
  abbrev order : List HistoryItem
  order = history_of past.seen

  pub its_config : l.config ≡ c
  its_config = ap (λ (x : LocalState). x.config) is.local ∙ ((kept_of c is.run is.after).locals l.thread is.there).config

  pub its_fits : IsLocal l
  its_fits = subst (λ x. IsLocal x) (sym is.local) ((kept_of c is.run is.after).locals l.thread is.there).fits

  pub its_rate : IsRate c l.rate
  its_rate = subst (λ x. IsRate x l.rate) its_config its_fits.rate

  kept_then : Kept c is.after.traces is.run
  kept_then = kept_of c is.run is.after

  -- it is of a right history
  pub its_legal : Legal c order
  its_legal = subst (λ o. Legal c o) is.timeline_of.ordered kept_then.names.ordered.legal

  pub its_licensed : Licensed c order
  its_licensed = subst (λ o. Licensed c o) is.timeline_of.ordered (licensed c is.after.traces (laws_of c) (tallies_of c) is.after.job is.after.turns is.run is.after.by_turns is.after.by_turns.opening.rate is.after.by_turns.opening.planned)

  pub its_right : (rate : ℕ) → IsRate c rate → RightWork c.width rate order
  its_right rate planned = subst (λ o. RightWork c.width rate o) is.timeline_of.ordered (right_work c is.after.traces is.run kept_then rate planned)

  module _ (done : is_done l ≡ true) where
    own_done : is_done (local_in c is.run l.thread) ≡ true
    own_done = ap is_done (sym is.local) ∙ done

    pub its_part : part l.thread order ≡ l.log
    its_part = ap (part l.thread) (sym is.timeline_of.ordered) ∙ told_at_rest c l.thread is.there is.run is.after (at_rest (local_in c is.run l.thread) own_done) ∙ ap (λ (x : LocalState). x.log) (sym is.local)

    pub its_said : map (λ (e : Entry). e.command) l.log ≡ l.trace
    its_said = subst (λ (x : LocalState). map (λ (e : Entry). e.command) x.log ≡ x.trace) (sym is.local) (said_when_done c l.thread is.there is.run is.after own_done)

    pub its_spent : l.spent ≡ 0
    its_spent = ap (λ (x : LocalState). x.spent) is.local ∙ settled c l.thread is.there is.run is.after (at_rest (local_in c is.run l.thread) own_done)

    its_owed : (p : ℕ) → IsRate c p → sum_after (units_owed c.width p) 0 l.trace ≡ works l.log
    its_owed p planned = subst (λ (x : LocalState). sum_after (units_owed c.width p) 0 x.trace ≡ works x.log) (sym is.local) (owed_is c l.thread is.there is.run is.after own_done p planned)

    -- its trace may grow if its lifetime allows it
    pub room_for : (k : Command) → HasRoom l k → HasRoomFor c l.thread k l.trace
    room_for k left = record {
      few = left.0;
      units = λ p planned. (let low = left.2 p (subst (λ x. IsRate x p) (sym its_config) planned) in
          let same : units_owed l.config.width p k ≡ units_owed c.width p k = ap (λ (x : Config). units_owed x.width p k) its_config in
          omega (arith, its_owed p planned, low, same));
      objects = left.1;
    }

-- a thread at rest whose log is this has these entries in the order
pub part_begun : (c : Config) (p : SeenHistory) (l : LocalState) → IsOfRun c p l → is_rest l.part ≡ true → {t : ℕ} {es : List Entry} → t ≡ l.thread → l.log ≡ es → part t (history_of p.seen) ≡ es
part_begun c p l is rest {t} {es} named log =
    let own : is_rest (local_in c is.run l.thread).part ≡ true = ap (λ (x : LocalState). is_rest x.part) (sym is.local) ∙ rest in
    ap (λ u. part u (history_of p.seen)) named ∙ ap (part l.thread) (sym is.timeline_of.ordered) ∙ told_at_rest c l.thread is.there is.run is.after own ∙ ap (λ (x : LocalState). x.log) (sym is.local) ∙ log
