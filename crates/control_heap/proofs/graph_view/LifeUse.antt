-- What commands take of a life, one after the other.
use Rattle.std.proofs.Common.{◌≡◌, ℕ, ◌+◌, inl, inr, List, [], ◌∷◌, ◌++◌, sym, refl, ap, ◌∙◌, subst, arith}
use Rattle.std.specs.List.{AllByRecursion}
use Rattle.block_store.specs.declared.Width.{Width}
use Rattle.rate_plan.specs.Rates.{IsRate}
use Rattle.never_heap.specs.declared.Command.{Command}
use Rattle.never_heap.specs.declared.Entry.{Entry}
use Rattle.never_heap.specs.Bounds.{IsCommandInBounds}
use Rattle.never_heap.specs.Histories.{HistoryItem, Started, Did, work_in}
use Rattle.never_heap.specs.RightWork.{RightWork, units_owed}
use Rattle.never_heap.proofs.Lemmas.{work_append}
use Rattle.heap_system.specs.Lives.{sum_after}
use Rattle.heap_system.specs.Machines.{Run}
use Rattle.control_heap.specs.Controls.{Control, Stands, Answers, entries_in, units}
use Rattle.control_heap.specs.declared.control.Refused.{Refused}
use Rattle.control_heap.specs.declared.control.Refused.TheVariants.{OutOfBounds, NoLifeLeft}
use Rattle.control_heap.specs.graph_view.RunsOfCommands.{HasDone, HasDoneAll, RefusesOne, HasRoomFor, HasUsed}

work_none : (is : List HistoryItem) → entries_in is ≡ [] → work_in is ≡ 0
work_none [] e = refl
work_none (Started ∷ is) e = work_none is e
work_none (Did x ∷ is) e = absurd cc

abbrev front_of : Entry → List Entry → Entry
front_of x [] = x
front_of x (e ∷ es) = e

abbrev back_of : List Entry → List Entry
back_of [] = []
back_of (e ∷ es) = es

-- of items with one entry the work is that of the entry
work_one : (is : List HistoryItem) (e : Entry) → entries_in is ≡ e ∷ [] → work_in is ≡ e.work
work_one [] e es = absurd cc
work_one (Started ∷ is) e es = work_one is e es
work_one (Did x ∷ is) e es =
    let none = work_none is (ap back_of es) in
    let same : x.work ≡ e.work = ap (λ l. (front_of x l).work) es in
    omega (arith, none, same)

right_behind : (w : Width) (rate : ℕ) (h k : List HistoryItem) → RightWork w rate (h ++ k)
    → RightWork w rate k
right_behind w rate [] k r = r
right_behind w rate (i ∷ h) k r = right_behind w rate h k r.1

right_one : (w : Width) (rate : ℕ) (is : List HistoryItem) (e : Entry) → entries_in is ≡ e ∷ []
    → RightWork w rate is → e.work ≡ units_owed w rate e.command
right_one w rate [] e es r = absurd cc
right_one w rate (Started ∷ is) e es r = right_one w rate is e es r.1
right_one w rate (Did x ∷ is) e es r =
    subst (λ (y : Entry). y.work ≡ units_owed w rate y.command) (ap (front_of x) es) r.0

module _ (right : (h : Control) (r : Run) → Stands h r → (rate : ℕ) → IsRate h.config rate
    → RightWork h.config.width rate r.order)
    (counted : (h : Control) (r : Run) → Stands h r → work_in r.order ≡ units h) where
  -- one command owes what it takes
  units_one : (h n : Control) (k : Command) (r : Run) → Stands h r → HasDone h k n → (rate : ℕ)
      → IsRate h.config rate → units n ≡ units h + units_owed h.config.width rate k
  units_one h n k r stands done rate is_rate =
      let by = done.answered r stands in
      let z : Run = by.0 in
      let s : Answers h.config k done.reply r z = by.2 in
      let new : work_in z.order ≡ units n = counted n z by.1 in
      let old : work_in r.order ≡ units h = counted h r stands in
      let sum : work_in z.order ≡ work_in r.order + work_in s.items =
      ap work_in s.order ∙ work_append r.order s.items in
      let one : work_in s.items ≡ s.entry.work = work_one s.items s.entry s.entries in
      let all : RightWork h.config.width rate z.order =
      subst (λ c. RightWork c.width rate z.order) done.config
      (right n z by.1 rate (subst (λ c. IsRate c rate) (sym done.config) is_rate)) in
      let owed : s.entry.work ≡ units_owed h.config.width rate s.entry.command =
      right_one h.config.width rate s.items s.entry s.entries
      (right_behind h.config.width rate r.order s.items
      (subst (RightWork h.config.width rate) s.order all)) in
      let same : units_owed h.config.width rate s.entry.command ≡ units_owed h.config.width rate k =
      ap (units_owed h.config.width rate) s.command in
      omega (arith, new, old, sum, one, owed, same)

  pub used : (h z : Control) (ks : List Command) (r : Run) → Stands h r → HasDoneAll h ks z
      → HasUsed h ks z
  used h z [] r stands same = subst (HasUsed h []) same (record {
    config = refl;
    count = omega arith;
    objects = omega arith;
    units = λ rate is_rate. omega arith;
  })
  used h z (k ∷ ks) r stands did =
      let n : Control = did.0 in
      let done : HasDone h k n = did.1 in
      let rest : HasUsed n ks z = used n z ks (done.answered r stands).0 (done.answered r stands).1 did.2 in
      record {
        config = rest.config ∙ done.config;
        count = omega (arith, rest.count, done.count);
        objects = omega (arith, rest.objects, done.objects);
        units = λ rate is_rate.
            let one = units_one h n k r stands done rate is_rate in
            let more = rest.units rate (subst (λ c. IsRate c rate) (sym done.config) is_rate) in
            let same : sum_after (units_owed n.config.width rate) 0 ks
            ≡ sum_after (units_owed h.config.width rate) 0 ks =
            ap (λ c. sum_after (units_owed c.width rate) 0 ks) done.config in
            omega (arith, one, more, same);
      }

  pub fits : (h z : Control) (ks : List Command) (r : Run) (x : Refused) → Stands h r
      → HasRoomFor h ks → RefusesOne h ks x z → ⊥
  fits h z [] r x stands room refuses = refuses
  fits h z (k ∷ ks) r OutOfBounds stands room (inl here) = here.1 room.bounds.0
  fits h z (k ∷ ks) r NoLifeLeft stands room (inl here) = here.1.1 (
    omega (arith, room.count),
    omega (arith, room.objects),
    λ rate is_rate. let all = room.units rate is_rate in omega (arith, all),
  )
  fits h z (k ∷ ks) r x stands room (inr later) =
      let n : Control = later.0 in
      let done : HasDone h k n = later.1 in
      let next = done.answered r stands in
      fits n z ks next.0 x next.1 (record {
        bounds = subst (λ c. AllByRecursion (IsCommandInBounds c) ks) (sym done.config) room.bounds.1;
        count = omega (arith, room.count, done.count);
        objects = omega (arith, room.objects, done.objects);
        units = λ rate is_rate.
            let old_rate = subst (λ c. IsRate c rate) done.config is_rate in
            let one = units_one h n k r stands done rate old_rate in
            let all = room.units rate old_rate in
            let same : sum_after (units_owed n.config.width rate) 0 ks
            ≡ sum_after (units_owed h.config.width rate) 0 ks =
            ap (λ c. sum_after (units_owed c.width rate) 0 ks) done.config in
            omega (arith, one, all, same);
      }) later.2
