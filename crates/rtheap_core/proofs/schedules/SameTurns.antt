-- Two replays of one job by one schedule have one list of turns, as no schedule looks at a thread's room.
use Rattle.std.proofs.Common.{◌≡◌, ℕ, zero, suc, ◌+◌, Bool, not, cond, ltb, Option, Some, None, List, [], ◌∷◌, map, refl, sym, ap, ◌∙◌}
use Rattle.std.proofs.lemmas.List.{length-map}
use Rattle.std.specs.List.{position_or_len}
use Rattle.block_store.specs.declared.Config.{Config}
use Rattle.never_heap.specs.declared.Command.{Command}
use Rattle.heap_system.specs.Locals.{LocalState, is_done}
use Rattle.heap_system.specs.Machines.{State, Run, turned, opened, after_turns, IsRunOf}
use Rattle.heap_system.specs.Rooms.{without_room}
use Rattle.heap_system.proofs.Lemmas.{done_room, openings_agree, state_without_room, turned_room}
use Rattle.rtheap_core.specs.declared.schedules.Schedule.{Schedule}
use Rattle.rtheap_core.specs.declared.schedules.Schedule.TheVariants.{Robin, Serial, Key}
use Rattle.rtheap_core.specs.schedules.Schedules.{least_undone, thread_of, turns_on, turns_from, turns_of}
use Rattle.rtheap_core.specs.schedules.Replays.{IsReplayed}

abbrev undone : LocalState → Bool
undone l = not (is_done l)

first_room : (ls : List LocalState) → position_or_len undone (map without_room ls) ≡ position_or_len undone ls
first_room [] = refl
first_room (l ∷ ls) = λ i. cond (not (not (done_room l i))) (1 + first_room ls i) 0

least_room : (s : State) → least_undone (state_without_room s) ≡ least_undone s
least_room s = λ i. cond (ltb (first_room s.locals i) (length-map s.locals without_room i)) (Some (first_room s.locals i)) None

thread_room : (schedule : Schedule) (n j : ℕ) (s : State) → thread_of schedule n j (state_without_room s) ≡ thread_of schedule n j s
thread_room Robin n j s = refl
thread_room Serial n j s = least_room s
thread_room (Key key) n j s = refl

pub turns_on_same : (o : Option ℕ) (f g : ℕ → List ℕ) → ((t : ℕ) → f t ≡ g t) → turns_on o f ≡ turns_on o g
turns_on_same None f g same = refl
turns_on_same (Some t) f g same = ap (λ ts. t ∷ ts) (same t)

turns_room : (schedule : Schedule) (c : Config) (j : ℕ) (s : State) (turns : ℕ) → turns_from schedule c j (state_without_room s) turns ≡ turns_from schedule c j s turns
turns_room schedule c j s zero = refl
turns_room schedule c j s (suc more) =
    ap (λ o. turns_on o (λ t. turns_from schedule c (j + 1) (turned c t (state_without_room s)) more)) (thread_room schedule c.threads j s)
    ∙ turns_on_same (thread_of schedule c.threads j s) _ _ (λ t. ap (λ x. turns_from schedule c (j + 1) x more) (turned_room c t s) ∙ turns_room schedule c (j + 1) (turned c t s) more)

-- the second has the turns of the first
pub turns_agree : (c : Config) (traces : List (List Command)) (schedule : Schedule) (turns : ℕ) (r q : Run) (a : IsReplayed c traces schedule turns r) (b : IsReplayed c traces schedule turns q)
    → turns_of schedule c b.first turns ≡ turns_of schedule c a.first turns
turns_agree c traces schedule turns r q a b =
    sym (turns_room schedule c 0 b.first turns)
    ∙ ap (λ x. turns_from schedule c 0 x turns) (openings_agree c traces b.first a.first b.opening a.opening)
    ∙ turns_room schedule c 0 a.first turns

pub first_run : (c : Config) (traces : List (List Command)) (schedule : Schedule) (turns : ℕ) (r : Run) (a : IsReplayed c traces schedule turns r) → IsRunOf c traces (turns_of schedule c a.first turns) r
first_run c traces schedule turns r a = record { first = a.first; opening = a.opening; turns = a.replayed }

pub second_run : (c : Config) (traces : List (List Command)) (schedule : Schedule) (turns : ℕ) (r q : Run) (a : IsReplayed c traces schedule turns r) (b : IsReplayed c traces schedule turns q)
    → IsRunOf c traces (turns_of schedule c a.first turns) q
second_run c traces schedule turns r q a b = record { first = b.first; opening = b.opening; turns = b.replayed ∙ ap (after_turns c (opened c b.first)) (turns_agree c traces schedule turns r q a b) }
