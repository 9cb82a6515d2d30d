-- A lifetime that allows several commands allows the first, and then the others.
use Rattle.std.proofs.Common.{◌≡◌, ℕ, ◌+◌, ◌≤◌, Bool, true, false, arith, subst, sym, ap, ◌∙◌, List, [], ◌∷◌, ◌++◌, length}
use Rattle.std.proofs.lemmas.List.{length_push}
use Rattle.block_store.specs.declared.Config.{Config}
use Rattle.block_store.specs.declared.Width.{Width}
use Rattle.rate_plan.specs.Rates.{IsRate}
use Rattle.never_heap.specs.declared.Command.{Command}
use Rattle.never_heap.specs.declared.Entry.{Entry}
use Rattle.never_heap.specs.declared.Reply.{Reply}
use Rattle.never_heap.specs.Histories.{HistoryItem, Started, Did, part}
use Rattle.never_heap.specs.RightWork.{RightWork, units_owed}
use Rattle.heap_system.specs.Lives.{sum_after, objects_of, most_units}
use Rattle.heap_system.specs.Locals.{LocalState, works}
use Rattle.heap_system.proofs.Lemmas.{sum_more, works_append}
use Rattle.std.specs.Prelude.{if◌then◌else◌, ◌==◌}
use Rattle.shared_heap.specs.Workers.{WorkerState, HasRoom, HasAnswered, IsSame}
use Rattle.live_tables.specs.rows.Life.{HasRoomFor}

-- the work of each entry of a part is what its command owes
abbrev pub AllRight : Width → ℕ → List Entry → Type 0
AllRight w rate [] = Unit {0}
AllRight w rate (e ∷ es) = (e.work ≡ units_owed w rate e.command) × AllRight w rate es

pick : (w : Width) (rate : ℕ) (b : Bool) (xs ys : List Entry) → AllRight w rate xs
    → AllRight w rate ys → AllRight w rate (if b then xs else ys)
pick w rate true xs ys p q = p
pick w rate false xs ys p q = q

pub right_part : (w : Width) (rate t : ℕ) (h : List HistoryItem) → RightWork w rate h
    → AllRight w rate (part t h)
right_part w rate t [] r = tt
right_part w rate t (Started ∷ h) r = right_part w rate t h r.1
right_part w rate t (Did e ∷ h) r =
    let rest = right_part w rate t h r.1 in
    pick w rate (e.thread == t) (e ∷ part t h) (part t h) (r.0, rest) rest

last_right : (w : Width) (rate : ℕ) (es : List Entry) (e : Entry) → AllRight w rate (es ++ e ∷ [])
    → e.work ≡ units_owed w rate e.command
last_right w rate [] e r = r.0
last_right w rate (x ∷ es) e r = last_right w rate es e r.1

module _ (old new : WorkerState) (k : Command) (a : Reply) (same : IsSame old new)
    (is : HasAnswered old k a new) where
  work_is : (rate : ℕ) → IsRate new.thread.config rate
      → is.entry.work ≡ units_owed new.thread.config.width rate k
  work_is rate planned =
      let w : Width = new.thread.config.width in
      let all : AllRight w rate (part new.thread.thread new.seen) =
      right_part w rate new.thread.thread new.seen (is.sound.right rate planned) in
      let mine : AllRight w rate (old.thread.log ++ is.entry ∷ []) =
      subst (λ es. AllRight w rate es) (is.sound.its ∙ is.told) all in
      last_right w rate old.thread.log is.entry mine ∙ ap (units_owed w rate) is.command

  pub room_rest : (ks : List Command) → HasRoomFor old.thread (k ∷ ks) → HasRoomFor new.thread ks
  room_rest ks room = record {
    commands = omega (
      arith,
      room.commands,
      ap length is.asked,
      length_push old.thread.trace k,
    );
    objects = omega (
      arith,
      room.objects,
      ap (sum_after objects_of 0) is.asked,
      sum_more objects_of old.thread.trace k,
    );
    units = λ rate planned. (
        let before : works old.thread.log + sum_after (units_owed new.thread.config.width rate) 0 (k ∷ ks)
        ≤ most_units =
        subst (λ (c : Config). works old.thread.log + sum_after (units_owed c.width rate) 0 (k ∷ ks) ≤ most_units)
        (sym same.config)
        (room.units rate (subst (λ (c : Config). IsRate c rate) same.config planned)) in
        omega (
          arith,
          before,
          ap works is.told,
          works_append old.thread.log (is.entry ∷ []),
          work_is rate planned,
        ));
  }

pub room_one : (l : LocalState) (k : Command) (ks : List Command) → HasRoomFor l (k ∷ ks)
    → HasRoom l k
room_one l k ks room = (
  omega (arith, room.commands),
  omega (arith, room.objects),
  λ rate planned. omega (arith, room.units rate planned),
)
