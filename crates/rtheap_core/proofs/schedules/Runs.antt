-- A system after the turns of a schedule has the state of a run by these turns; and a serial replay goes
-- on where it stopped.
use Rattle.std.proofs.Common.{◌≡◌, ℕ, zero, suc, ◌+◌, Option, Some, None, IfSome, Bool, true, false, cond, List, [], ◌∷◌, ◌++◌, append-nil, map, subst, refl, sym, ap, ◌∙◌, arith}
use Rattle.block_store.specs.declared.Config.{Config}
use Rattle.never_heap.specs.declared.Command.{Command}
use Rattle.never_heap.specs.Histories.{HistoryItem}
use Rattle.never_heap.specs.HistoryOfOrder.{item_of}
use Rattle.heap_system.specs.Machines.{State, Run, has_event, next_effect, turned, next, opened, after_turns}
use Rattle.heap_system.specs.Systems.{Ordered, Whole, items_by_effect, items_added, after_event, ordered_after}
use Rattle.heap_system.proofs.Lemmas.{items_grow}
use Rattle.rtheap_core.specs.declared.schedules.Schedule.TheVariants.{Serial}
use Rattle.rtheap_core.specs.schedules.Schedules.{least_undone, turns_on, turns_from, turns_of}
use Rattle.rtheap_core.specs.schedules.Replays.{IsReplayed, ShowsRun, system_turned, system_after}
use Rattle.rtheap_core.proofs.schedules.SameTurns.{turns_on_same}

-- the items that are kept are those of the order
abbrev pub IsOrderOf : List HistoryItem → Option Ordered → Type 0
IsOrderOf order o = IfSome o (λ k. k.items ≡ map item_of order)

order_more : (c : Config) (t : ℕ) (r : Run) (o : Option Ordered) → IsOrderOf r.order o → IsOrderOf (next c t r).order (ordered_after c t r.state o)
order_more c t r None is = tt
order_more c t r (Some k) is = by (has_event c t r.state) refl
  where
    by : (b : Bool) → has_event c t r.state ≡ b → (cond b (after_event c t r.state k) k).items ≡ map item_of (next c t r).order
    by true some = ap (λ xs. xs ++ items_added c t r.state) is ∙ sym (items_grow c t r)
    by false none =
        is ∙ sym (append-nil (map item_of r.order)) ∙ ap (λ b. map item_of r.order ++ cond b (items_by_effect t (next_effect c r.state t)) []) (sym none)
        ∙ sym (items_grow c t r)

-- a system that shows a run shows it after the same turns
turn_shown : (w : Whole) (t : ℕ) (c : Config) (r : Run) → ShowsRun c r w → ShowsRun c (next c t r) (system_turned t w)
turn_shown w t c r is = record {
  config = is.config;
  state = λ i. turned (is.config i) t (is.state i);
  order = subst (λ (d : Config). IsOrderOf (next c t r).order (ordered_after d t w.state w.ordered)) (sym is.config) (subst (λ s. IsOrderOf (next c t r).order (ordered_after c t s w.ordered)) (sym is.state) (order_more c t r w.ordered is.order));
}

pub turns_shown : (w : Whole) (ts : List ℕ) (c : Config) (r : Run) → ShowsRun c r w → ShowsRun c (after_turns c r ts) (system_after w ts)
turns_shown w [] c r is = is
turns_shown w (t ∷ ts) c r is = turns_shown (system_turned t w) ts c (next c t r) (turn_shown w t c r is)

-- ---- serial replays

-- the number of the turn does not matter
any_turn : (c : Config) (j k : ℕ) (s : State) (n : ℕ) → turns_from Serial c j s n ≡ turns_from Serial c k s n
any_turn c j k s zero = refl
any_turn c j k s (suc n) = turns_on_same (least_undone s) _ _ (λ t. any_turn c (j + 1) (k + 1) (turned c t s) n)

-- none where all are done
no_turn : (c : Config) (k : ℕ) (r : Run) (n : ℕ) → least_undone r.state ≡ None → r ≡ after_turns c r (turns_from Serial c k r.state n)
no_turn c k r zero none = refl
no_turn c k r (suc n) none = ap (λ o. after_turns c r (turns_on o (λ t. turns_from Serial c (k + 1) (turned c t r.state) n))) (sym none)

-- a run and b turns more
abbrev with_more : Config → ℕ → ℕ → Run → Run
with_more c k b r = after_turns c r (turns_from Serial c k r.state b)

split_on : (c : Config) (j k : ℕ) (r : Run) (a b : ℕ) (o : Option ℕ) → least_undone r.state ≡ o
    → ((t : ℕ) → after_turns c (next c t r) (turns_from Serial c (j + 1) (turned c t r.state) (a + b)) ≡ with_more c k b (after_turns c (next c t r) (turns_from Serial c (j + 1) (turned c t r.state) a)))
    → after_turns c r (turns_on o (λ t. turns_from Serial c (j + 1) (turned c t r.state) (a + b))) ≡ with_more c k b (after_turns c r (turns_on o (λ t. turns_from Serial c (j + 1) (turned c t r.state) a)))
split_on c j k r a b None none each = no_turn c k r b none
split_on c j k r a b (Some t) some each = each t

pub split : (c : Config) (j k : ℕ) (r : Run) (a b : ℕ) → after_turns c r (turns_from Serial c j r.state (a + b)) ≡ with_more c k b (after_turns c r (turns_from Serial c j r.state a))
split c j k r zero b =
    let e : 0 + b ≡ b = omega arith in
    ap (λ n. after_turns c r (turns_from Serial c j r.state n)) e ∙ ap (after_turns c r) (any_turn c j k r.state b)
split c j k r (suc a) b =
    let e : suc a + b ≡ suc (a + b) = omega arith in
    ap (λ n. after_turns c r (turns_from Serial c j r.state n)) e
    ∙ split_on c j k r a b (least_undone r.state) refl (λ t. split c (j + 1) k (next c t r) a b)

pub goes_on : (c : Config) (traces : List (List Command)) (a b : ℕ) (r : Run) → IsReplayed c traces Serial a r → IsReplayed c traces Serial (a + b) (after_turns c r (turns_of Serial c r.state b))
goes_on c traces a b r is = record {
  first = is.first;
  opening = is.opening;
  replayed = ap (λ (q : Run). after_turns c q (turns_of Serial c q.state b)) is.replayed ∙ sym (split c 0 0 (opened c is.first) a b);
}
