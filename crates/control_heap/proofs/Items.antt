-- What the turns of one thread add to an order: starts, and entries of its own.
use Rattle.std.proofs.Common.{◌≡◌, ℕ, zero, suc, Bool, true, false, cond, List, [], ◌∷◌, ◌++◌, append_assoc, append-nil, refl, sym, ap, ◌∙◌}
use Rattle.block_store.specs.declared.Config.{Config}
use Rattle.never_heap.specs.declared.Command.{Command}
use Rattle.never_heap.specs.Histories.{HistoryItem, Started, Did, part}
use Rattle.never_heap.proofs.Lemmas.{part_append}
use Rattle.heap_system.specs.Alone.{after_alone}
use Rattle.heap_system.specs.Locals.{Effect, Verdict, Open, AsStep, Refused, command_of}
use Rattle.heap_system.specs.Machines.{Run, State, decided, items_by, entries_by, starts_by, has_event, local_at, next_effect, next}
use Rattle.heap_system.specs.Naming.{Naming, Begun}
use Rattle.control_heap.specs.Controls.{entries_in}

pub entries_append : (a b : List HistoryItem) → entries_in (a ++ b) ≡ entries_in a ++ entries_in b
entries_append [] b = refl
entries_append (Started ∷ a) b = entries_append a b
entries_append (Did e ∷ a) b = ap (λ es. e ∷ es) (entries_append a b)

own_items : (c : Config) (k : Command) (work : ℕ) (order : List HistoryItem) (e : Effect) → part 0 (items_by c 0 k work order e) ≡ entries_in (items_by c 0 k work order e)
own_items c k work order e = by e.verdict e.naming
  where
    by : (v : Verdict) (n : Naming) → part 0 (entries_by c 0 k work order v ++ starts_by n) ≡ entries_in (entries_by c 0 k work order v ++ starts_by n)
    by Open Begun = refl
    by AsStep Begun = refl
    by (Refused r) Begun = refl
    by Open _ = refl
    by AsStep _ = refl
    by (Refused r) _ = refl

decided_own : (c : Config) (s : State) (order : List HistoryItem) → part 0 (decided c 0 s order) ≡ entries_in (decided c 0 s order)
decided_own c s order = by (has_event c 0 s)
  where
    by : (b : Bool) → part 0 (cond b (items_by c 0 (command_of (local_at c s 0)) (local_at c s 0).spent order (next_effect c s 0)) []) ≡ entries_in (cond b (items_by c 0 (command_of (local_at c s 0)) (local_at c s 0).spent order (next_effect c s 0)) [])
    by true = own_items c (command_of (local_at c s 0)) (local_at c s 0).spent order (next_effect c s 0)
    by false = refl

-- what so many turns of thread 0 alone add
pub record Added (r z : Run) : Type 0 where
  pub items : List HistoryItem
  pub order : z.order ≡ r.order ++ items
  pub own : part 0 items ≡ entries_in items

pub added_alone : (c : Config) (n : ℕ) (r : Run) → Added r (after_alone c 0 r n)
added_alone c zero r = record { items = []; order = sym (append-nil r.order); own = refl }
added_alone c (suc n) r =
    let rest = added_alone c n (next c 0 r) in
    let first = decided c 0 r.state r.order in
    record {
      items = first ++ rest.items;
      order = rest.order ∙ append_assoc r.order first rest.items;
      own = part_append 0 first rest.items ∙ (λ i. decided_own c r.state r.order i ++ rest.own i) ∙ sym (entries_append first rest.items);
    }
