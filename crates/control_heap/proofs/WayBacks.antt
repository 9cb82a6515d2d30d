-- After two cycles that began with few live blocks nothing is answered full.
use Rattle.std.proofs.Common.{◌≡◌, ℕ, zero, suc, ◌+◌, ◌-◌, ◌*◌, ◌<◌, ◌≤◌, max, true, false, List, [], ◌∷◌, ◌++◌, append_assoc, append-nil, map, refl, sym, ap, ◌∙◌, subst, arith}
use Rattle.block_store.specs.declared.Config.{Config}
use Rattle.rate_plan.specs.Rates.{IsRate}
use Rattle.never_heap.specs.declared.Command.{Command}
use Rattle.never_heap.specs.declared.Entry.{Entry}
use Rattle.never_heap.specs.declared.Reply.{Reply}
use Rattle.never_heap.specs.declared.Reply.TheVariants.{New, Full, Stored, Val, Len, Yes, No, Null, Kind, Range, Idle}
use Rattle.never_heap.specs.Bounds.{IsCommandInBounds}
use Rattle.never_heap.specs.Cycles.{graph_at}
use Rattle.never_heap.specs.Histories.{HistoryItem, Started, Did, is_full, starts_in}
use Rattle.never_heap.specs.Licensed.{IsLicensedReply, LicensedFrom, Licensed, NoFulls}
use Rattle.never_heap.specs.LiveBlocks.{live_blocks}
use Rattle.never_heap.proofs.Lemmas.{graph_at_more, starts_append}
use Rattle.heap_system.specs.Costs.{units_so_far}
use Rattle.heap_system.specs.Locals.{is_done}
use Rattle.heap_system.specs.Machines.{Run, local_in, no_local}
use Rattle.heap_system.specs.Systems.{AllDone as AllThreadsDone}
use Rattle.heap_system.proofs.Lemmas.{Kept, RunTallied, laws_of, licensed, one_log, run_tallied, tallies_of}
use Rattle.heap_system.proofs.accounting.RunBounds.{all_done}
use Rattle.control_heap.specs.Controls.{ControlOf, Stands, Answers, HasLeft, entries_in, units}
use Rattle.control_heap.specs.WayBack.{AllDone, AreOf, HasWayBack, NoneFull, StartsSmallFrom}
use Rattle.control_heap.proofs.HeapAsRun.{kept_of}
use Rattle.control_heap.proofs.Items.{entries_append}
use Rattle.control_heap.proofs.Pace.{Onward, now_few, past_few, onward_command, onward_on}

-- ---- of a history

not_full : (c : Config) (n : ℕ) (past k : List HistoryItem) (r : Reply) → 1 ≤ n → n ≤ max 1 (starts_in past - 1) → 1 ≤ starts_in past
    → StartsSmallFrom c n (past ++ k) → IsLicensedReply c past r → is_full r ≡ false
not_full c n past k (Full z) some low begun few l =
    let from : n ≤ z = rw l.0 low in
    let high : z ≤ starts_in past = rw l.0 (omega (arith, begun)) in
    let all : starts_in (past ++ k) ≡ starts_in past + starts_in k = starts_append past k in
    let small : live_blocks c.width (graph_at c (past ++ k) z) ≤ c.live = few z from (omega (arith, high, all)) in
    let same : graph_at c (past ++ k) z ≡ graph_at c past z = graph_at_more c past k z (omega (arith, some, from)) high in
    let small_past : live_blocks c.width (graph_at c past z) ≤ c.live = subst (λ g. live_blocks c.width g ≤ c.live) same small in
    absurd (omega (arith, l.1, small_past))
not_full c n past k (New a) some low begun few l = refl
not_full c n past k Stored some low begun few l = refl
not_full c n past k (Val v) some low begun few l = refl
not_full c n past k (Len a) some low begun few l = refl
not_full c n past k Yes some low begun few l = refl
not_full c n past k No some low begun few l = refl
not_full c n past k Null some low begun few l = refl
not_full c n past k Kind some low begun few l = refl
not_full c n past k Range some low begun few l = refl
not_full c n past k Idle some low begun few l = refl

pub none_from : (c : Config) (n : ℕ) (past h : List HistoryItem) → 1 ≤ n → n ≤ max 1 (starts_in past - 1) → 1 ≤ starts_in past
    → StartsSmallFrom c n (past ++ h) → LicensedFrom c past h → NoFulls h
none_from c n past [] some low begun few l = tt
none_from c n past (Started ∷ h) some low begun few l =
    let all : starts_in (past ++ Started ∷ []) ≡ starts_in past + starts_in (Started ∷ []) = starts_append past (Started ∷ []) in
    none_from c n (past ++ Started ∷ []) h some (omega (arith, low, all)) (omega (arith, begun, all))
    (subst (λ k. StartsSmallFrom c n k) (sym (append_assoc past (Started ∷ []) h)) few) l.1
none_from c n past (Did e ∷ h) some low begun few l =
    let all : starts_in (past ++ Did e ∷ []) ≡ starts_in past + starts_in (Did e ∷ []) = starts_append past (Did e ∷ []) in (
      not_full c n past (Did e ∷ h) e.reply some low begun few l.0,
      none_from c n (past ++ Did e ∷ []) h some (omega (arith, low, all)) (omega (arith, begun, all))
          (subst (λ k. StartsSmallFrom c n k) (sym (append_assoc past (Did e ∷ []) h)) few) l.1,
    )

pub licensed_behind : (c : Config) (before past later : List HistoryItem) → LicensedFrom c before (past ++ later) → LicensedFrom c (before ++ past) later
licensed_behind c before [] later l = subst (λ x. LicensedFrom c x later) (sym (append-nil before)) l
licensed_behind c before (i ∷ past) later l = subst (λ x. LicensedFrom c x later) (append_assoc before (i ∷ []) past) (licensed_behind c (before ++ i ∷ []) past later l.1)

none_told : (h : List HistoryItem) → NoFulls h → NoneFull (map (λ (e : Entry). e.reply) (entries_in h))
none_told [] none = tt
none_told (Started ∷ h) none = none_told h none
none_told (Did e ∷ h) none = (none.0, none_told h none.1)

pub few_cycles : (m u v k : ℕ) → v ≤ u + 2 * m * (k + 1) → u + 4 * m < v → 2 ≤ k
few_cycles m u v zero pace more = absurd (omega (arith, pace, more))
few_cycles m u v (suc zero) pace more = absurd (omega (arith, pace, more))
few_cycles m u v (suc (suc k)) pace more = omega arith

are_of_more : (k : Command) (a : Reply) (ks : List Command) (ys : List Reply) (items rest : List HistoryItem) (e : Entry) → entries_in items ≡ e ∷ [] → e.command ≡ k → e.reply ≡ a → AreOf ks ys rest → AreOf (k ∷ ks) (a ∷ ys) (items ++ rest)
are_of_more k a ks ys items rest e one command reply of = record {
  commands = ap (map (λ (x : Entry). x.command)) (entries_append items rest ∙ ap (λ x. x ++ entries_in rest) one) ∙ (λ i. command i ∷ of.commands i);
  replies = ap (map (λ (x : Entry). x.reply)) (entries_append items rest ∙ ap (λ x. x ++ entries_in rest) one) ∙ (λ i. reply i ∷ of.replies i);
}

-- ---- of a heap

module _ {M : Type 0} where
  -- at the configuration of an earlier heap
  kept_at : (c : Config) (h : ControlOf M) → h.config ≡ c → (r : Run) → Stands h r → (traces : List (List Command)) × Kept c traces r
  kept_at c h same r stands = subst (λ x. (traces : List (List Command)) × Kept x traces r) same (stands.run.after.traces, kept_of h.config stands.single r stands.run.after)

  done_is : (h : ControlOf M) (r : Run) → Stands h r → AllThreadsDone h.config r.state
  done_is h r stands t tl =
      let e : 0 ≡ t = (let s = stands.single in omega (arith, tl, s)) in
      subst (λ u. is_done (local_in h.config r u) ≡ true) e stands.done

  units_are : (h : ControlOf M) (r : Run) → Stands h r → units_so_far h.config r ≡ units h
  units_are h r stands =
      let is = stands.run.after in
      let kept = kept_of h.config stands.single r is in
      all_done h.config is.traces (laws_of h.config) (tallies_of h.config) is.job is.turns r is.by_turns is.by_turns.opening.rate is.by_turns.opening.planned (done_is h r stands)
      ∙ kept.counted ∙ one_log r.state.locals (no_local h.config) (kept.threads ∙ stands.single) ∙ stands.units

  units_at : (c : Config) (h : ControlOf M) → h.config ≡ c → (r : Run) → Stands h r → units_so_far c r ≡ units h
  units_at c h same r stands = subst (λ x. units_so_far x r ≡ units h) same (units_are h r stands)

  licensed_at : (c : Config) (h : ControlOf M) → h.config ≡ c → (r : Run) → Stands h r → Licensed c r.order
  licensed_at c h same r stands =
      let is = stands.run.after in
      subst (λ x. Licensed x r.order) same (licensed h.config is.traces (laws_of h.config) (tallies_of h.config) is.job is.turns r is.by_turns is.by_turns.opening.rate is.by_turns.opening.planned)

  module _ (c : Config) (rate : ℕ) (planned : IsRate c rate) where
    pub command_at : (h : ControlOf M) → h.config ≡ c → (r : Run) → Stands h r → (k : Command) → IsCommandInBounds h.config k → HasLeft h k → (a : Reply) (z : Run) → Answers h.config k a r z → (from : RunTallied c rate r) → Onward c rate r z from
    command_at h same r stands k bounds left a z s from =
        subst (λ x. IsRate x rate → (from : RunTallied x rate r) → Onward x rate r z from) same
        (λ is counts. onward_command h r stands k bounds left a z s rate is counts) planned from

    -- the units of commands one after the other, by the cycles that began
    pub paced : (h : ControlOf M) (r : Run) → Stands h r → h.config ≡ c → (y : ControlOf M) (z : Run) → Stands y z → y.config ≡ c → (from : RunTallied c rate r) (on : Onward c rate r z from) (items : List HistoryItem) → z.order ≡ r.order ++ items
        → units y ≤ units h + 2 * c.blocks * (starts_in items + 1)
    paced h r stands same y z later config from on items order =
        let starts : starts_in z.order ≡ starts_in r.order + starts_in items = ap starts_in order ∙ starts_append r.order items in
        let begun : on.begun ≡ starts_in items =
        (let a : starts_in from.tally.order ≡ starts_in r.order = ap starts_in from.of.order in
        let b : starts_in on.counts.tally.order ≡ starts_in z.order = ap starts_in on.counts.of.order in
        omega (arith, starts, a, b, from.kept.starts, on.counts.kept.starts, on.cycle)) in
        subst (λ n. units y ≤ units h + 2 * c.blocks * (n + 1)) begun
        (let k = kept_at c y config z later in
        let j = kept_at c h same r stands in
        let few = now_few c rate planned k.0 z k.1 on.counts in
        let low = past_few c rate planned j.0 r j.1 from in
        omega (arith, few, low, on.past, units_at c y config z later, units_at c h same r stands))

    -- commands one after the other
    record Chain (z : ControlOf M) (ks : List Command) (ys : List Reply) (r : Run) (from : RunTallied c rate r) : Type 0 where
      pub run : Run
      pub stands : Stands z run
      pub config : z.config ≡ c
      pub items : List HistoryItem
      pub order : run.order ≡ r.order ++ items
      pub of : AreOf ks ys items
      pub onward : Onward c rate r run from

    chain : (ks : List Command) (ys : List Reply) (h z : ControlOf M) → h.config ≡ c → (r : Run) → Stands h r → (from : RunTallied c rate r) → AllDone h ks ys z → Chain z ks ys r from
    chain [] [] h z same r stands from is = record {
      run = r;
      stands = subst (λ x. Stands x r) is stands;
      config = ap (λ (x : ControlOf M). x.config) (sym is) ∙ same;
      items = [];
      order = sym (append-nil r.order);
      of = record { commands = refl; replies = refl };
      onward = record { counts = from; begun = 0; cycle = omega arith; past = omega arith };
    }
    chain [] (a ∷ ys) h z same r stands from none = absurd none
    chain (k ∷ ks) [] h z same r stands from none = absurd none
    chain (k ∷ ks) (a ∷ ys) h z same r stands from all =
        let next = all.4 r stands in
        let s : Answers h.config k a r next.0 = next.2 in
        let one : Onward c rate r next.0 from = command_at h same r stands k all.2 all.3 a next.0 s from in
        let rest = chain ks ys all.0 z (all.1 ∙ same) next.0 next.1 one.counts all.5 in
        record {
          run = rest.run;
          stands = rest.stands;
          config = rest.config;
          items = s.items ++ rest.items;
          order = rest.order ∙ ap (λ x. x ++ rest.items) s.order ∙ append_assoc r.order s.items rest.items;
          of = are_of_more k a ks ys s.items rest.items s.entry s.entries s.command s.reply rest.of;
          onward = onward_on c rate r next.0 rest.run from one rest.onward;
        }

  pub way_back : (h y z : ControlOf M) (ks : List Command) (ys : List Reply) (js : List Command) (bs : List Reply) (r : Run) → Stands h r → AllDone h ks ys y → AllDone y js bs z → HasWayBack h y z ks ys js bs r
  way_back h y z ks ys js bs r stands first second =
      let c = h.config in
      let is = stands.run.after in
      let rate = is.by_turns.opening.rate in
      let planned : IsRate h.config rate = is.by_turns.opening.planned in
      let from : RunTallied h.config rate r = run_tallied h.config is.traces is.job rate planned (laws_of h.config) (tallies_of h.config) is.turns r is.by_turns in
      let one = chain h.config rate planned ks ys h y refl r stands from first in
      let two = chain h.config rate planned js bs y z one.config one.run one.stands one.onward.counts second in
      let order : two.run.order ≡ (r.order ++ one.items) ++ two.items = two.order ∙ ap (λ x. x ++ two.items) one.order in
      let pace : units y ≤ units h + 2 * h.config.blocks * (starts_in one.items + 1) =
      paced h.config rate planned h r stands refl y one.run one.stands one.config from one.onward one.items one.order in
      let two_cycles : 2 ≤ starts_in one.items → StartsSmallFrom h.config (starts_in r.order + 1) two.run.order → NoneFull bs =
      (λ cycles few.
      let past : starts_in (r.order ++ one.items) ≡ starts_in r.order + starts_in one.items = starts_append r.order one.items in
      let all = licensed_at h.config z two.config two.run two.stands in
      let none : NoFulls two.items = none_from h.config (starts_in r.order + 1) (r.order ++ one.items) two.items (omega arith) (omega (arith, past, cycles)) (omega (arith, past, cycles))
      (subst (StartsSmallFrom h.config (starts_in r.order + 1)) order few)
      (licensed_behind h.config [] (r.order ++ one.items) two.items (subst (Licensed h.config) order all)) in
      subst NoneFull two.of.replies (none_told two.items none)) in
      record {
        run = two.run;
        stands = two.stands;
        items = one.items;
        later = two.items;
        order = order;
        middle = one.run;
        middle_stands = one.stands;
        middle_order = one.order;
        first = one.of;
        second = two.of;
        pace = pace;
        two_cycles = two_cycles;
        back = λ more few. two_cycles (few_cycles h.config.blocks (units h) (units y) (starts_in one.items) pace more) few;
      }
