-- Events that move one thread or the phase, and the start of a cycle.
use Rattle.std.proofs.Common.{◌≡◌, ℕ, suc, ◌+◌, ◌-◌, ◌*◌, ◌≤◌, ◌<◌, max, true, false, ◌&&◌, ltb, refl, arith, ap, sym, ◌∙◌, subst, [], ◌∷◌, ◌++◌, inl, inr, lt-ltb}
use Rattle.std.proofs.lemmas.Bool.{cases_eq, cases_lt, le-ltb, both_ways}
use Rattle.block_store.specs.declared.Config.{Config}
use Rattle.block_store.specs.Phases.{bit}
use Rattle.never_heap.specs.Histories.{Started, work_in}
use Rattle.never_heap.specs.Cycles.{graph_at}
use Rattle.never_heap.specs.GivenBlocks.{given}
use Rattle.never_heap.specs.LiveBlocks.{live_blocks}
use Rattle.never_heap.proofs.Lemmas.{given_ended, given_none, graph_at_more, licensed_more, right_work_more, starts_append, work_append}
use Rattle.block_store.specs.Counts.{total}
use Rattle.work_account.specs.Accounts.{entered, units_in, given_in}
use Rattle.block_store.proofs.Lemmas.{total_least, total_none, total_nought}
use Rattle.work_account.proofs.Balances.{entered_sound, paid_entered, cycle_entered, units_entered, given_entered, units_later, given_later}
use Rattle.heap_invariant.specs.cycle_tally.Tallies.{Spending, Tally, claims, given_now, made_of}
use Rattle.heap_invariant.specs.cycle_tally.Events.{Enter, Leave, SetCursor, Flip, Start, Clear, Next, with_thread, apply, Guard}
use Rattle.heap_invariant.specs.cycle_tally.Entries.{entries_in}
use Rattle.heap_invariant.specs.cycle_tally.TallyInvariant.{most_work, SpendingKept, live_before, TallyKept}
use Rattle.heap_invariant.proofs.cycle_tally.Sums.{no_claims}
use Rattle.heap_invariant.proofs.cycle_tally.OneThreadEvents.{goes, stays}
use Rattle.heap_invariant.proofs.cycle_tally.CycleUnits.{one_less, entries_started, in_threads_more, scanned_one, few_units, all_given_now, given_then}

-- plain arithmetic
cheap_on : (new old now before : ℕ) → new ≡ old + 0 → now ≡ before → old ≤ before → new ≤ now
cheap_on new old now before a b c = omega arith

module _ (c : Config) (rate : ℕ) (black : ℕ → ℕ) (some : 0 < rate) (s : Tally)
    (k : TallyKept c rate black s) where
  -- an event that moves one thread, and no count
  pub moved : (t : ℕ) → t < c.threads → (w : Spending) → SpendingKept c rate s.cycle w
      → ((x : ℕ) → claims x w ≡ claims x (s.threads t))
      → units_in s.cycle w.balance ≡ units_in s.cycle (s.threads t).balance
      → given_in s.cycle w.balance ≡ given_in s.cycle (s.threads t).balance
      → w.reserved ≡ (s.threads t).reserved → made_of w ≡ made_of (s.threads t)
      → TallyKept c rate black (with_thread s t w)
  moved t tl w kw same u g r p = goes c rate black some s k t w s tl kw (record {
    cursor = k.cursor;
    scans = k.scans;
    passes = λ x pos. omega (arith, same x);
    made = omega (arith, u);
    given = g;
    free = omega (arith, r);
    paid = omega (arith, p);
  })

  pub enters : (t : ℕ) → t < c.threads → TallyKept c rate black (apply c rate black s (Enter t))
  enters t tl =
      let w0 : Spending = s.threads t in
      let o = k.each t tl in
      let p : (entered s.cycle w0.balance).paid ≡ w0.balance.paid =
      paid_entered s.cycle w0.balance in
      let z : (entered s.cycle w0.balance).cycle ≡ s.cycle =
      cycle_entered s.cycle w0.balance o.entered in
      moved t tl (record w0 { inside = true; balance = entered s.cycle w0.balance })
      (record {
        sound = entered_sound rate c.object s.cycle w0.balance o.sound;
        entered = omega arith;
        present = λ _. z;
        asked = o.asked;
        requested = o.requested;
        within = omega (arith, o.within);
        owed = omega (arith, o.owed);
        claimed = λ h. (let q = o.claimed h in (q.0, refl, omega (arith, q.2)));
        reserved = λ h. (let q = o.reserved h in (refl, q.1, p ∙ q.2));
      })
      (λ x. refl) (units_entered s.cycle w0.balance o.entered)
      (given_entered s.cycle w0.balance o.entered) refl (ap (λ x. x + w0.idled) p)

  pub leaves : (t : ℕ) → Guard c rate black s (Leave t)
      → TallyKept c rate black (apply c rate black s (Leave t))
  leaves t g =
      let o = k.each t g.0 in
      moved t g.0 (record (s.threads t) { inside = false })
      (record {
        sound = o.sound;
        entered = o.entered;
        asked = o.asked;
        requested = o.requested;
        within = o.within;
        owed = o.owed;
        present = λ h. absurd (let q : false ≡ true = h in cc);
        claimed = λ h. absurd (omega (arith, g.1));
        reserved = λ h. absurd (h g.2);
      })
      (λ x. refl) refl refl refl refl

  pub asks : (t y u : ℕ) → Guard c rate black s (Next t y u)
      → TallyKept c rate black (apply c rate black s (Next t y u))
  asks t y u g =
      let o = k.each t g.0 in
      moved t g.0 (record (s.threads t) { asked = y; requested = u })
      (record {
        sound = o.sound;
        entered = o.entered;
        present = o.present;
        asked = g.4;
        requested = record { apart = g.5; none = λ _. omega (arith, g.3); few = g.6 };
        within = omega (arith, g.3);
        owed = omega (arith, g.3);
        claimed = λ h. absurd (omega (arith, g.1));
        reserved = λ h. absurd (h g.2);
      })
      (λ x. refl) refl refl refl refl

  pub clears : (t : ℕ) → Guard c rate black s (Clear t)
      → TallyKept c rate black (apply c rate black s (Clear t))
  clears t g =
      let o = k.each t g.0 in
      let w : Spending = record (s.threads t) { low = 0; high = 0 } in
      moved t g.0 w
      (record {
        sound = o.sound;
        entered = o.entered;
        present = o.present;
        asked = o.asked;
        requested = o.requested;
        within = o.within;
        owed = o.owed;
        reserved = o.reserved;
        claimed = λ h. absurd (omega (arith, g.1));
      })
      (λ x. no_claims x w (omega arith) ∙ sym (no_claims x (s.threads t) g.1)) refl refl refl refl

  pub cursor_set : Guard c rate black s SetCursor
      → TallyKept c rate black (apply c rate black s SetCursor)
  cursor_set g = stays c rate black some s k (apply c rate black s SetCursor) (record {
    cursor = (omega arith, omega arith);
    scans = k.scans;
    passes = λ x pos. ap (λ b. bit (b && ltb x s.cursor)) g
        ∙ sym (ap (λ b. bit (b && ltb x 1)) g);
    free = omega arith;
  })

  pub flips : Guard c rate black s Flip → TallyKept c rate black (apply c rate black s Flip)
  flips g = stays c rate black some s k (apply c rate black s Flip) (record {
    cursor = k.cursor;
    scans = λ x. scanned_one c rate black some s k x;
    passes = λ x pos. ap (λ b. bit (b && ltb x s.cursor)) g.0
        ∙ sym (ap bit (le-ltb x s.cursor (omega (arith, g.1))));
    free = omega arith;
  })

  pub outside_claims : (x t : ℕ) → t < c.threads → (s.threads t).inside ≡ false
      → claims x (s.threads t) ≡ 0
  outside_claims x t tl out = elim (cases_lt (s.threads t).low (s.threads t).high) [
    | inl l ↦ absurd (both_ways _ out ((k.each t tl).claimed l).1)
    | inr g ↦ no_claims x (s.threads t) g
  ]

  -- at the end of a cycle each block was passed
  pub passed_all : s.sweep ≡ true → c.blocks < s.cursor
      → ((t : ℕ) → t < c.threads → (s.threads t).inside ≡ false) → (x : ℕ) → 0 < x → x ≤ c.blocks
      → s.passed x ≡ 1
  passed_all sw above out x pos low =
      let none : total c.threads (λ t. claims x (s.threads t)) ≡ 0 =
      total_none c.threads (λ t. claims x (s.threads t))
      (λ t tl. outside_claims x t tl (out t tl)) in
      let one : bit (s.sweep && ltb x s.cursor) ≡ 1 = ap (λ b. bit (b && ltb x s.cursor)) sw
      ∙ ap bit (lt-ltb x s.cursor (omega arith)) in
      omega (arith, k.passes x pos)

  pub begins : Guard c rate black s Start → TallyKept c rate black (apply c rate black s Start)
  begins g =
      let next : s.cycle + 1 - 1 ≡ s.cycle = omega arith in
      let longest : max 1 (s.cycle + 1 - 1) ≡ s.cycle = omega (arith, k.some) in
      let swept : total c.blocks (λ x. s.passed (suc x)) ≡ c.blocks =
      total_least c.blocks (λ x. s.passed (suc x))
      (λ x l. passed_all g.0 g.1 g.2 (suc x) (omega arith) (omega arith)) in
      let same : live_blocks c.width (graph_at c (s.order ++ Started ∷ []) s.cycle)
      ≡ live_blocks c.width (graph_at c s.order s.cycle) =
      ap (live_blocks c.width) (graph_at_more c s.order (Started ∷ []) s.cycle k.some
      (omega (arith, k.starts))) in
      let ended : given c.width (s.order ++ Started ∷ []) s.cycle ≡ given c.width s.order s.cycle =
      subst (λ z. given c.width (s.order ++ Started ∷ []) z ≡ given c.width s.order z) k.starts
      (given_ended c.width s.order (omega (arith, k.starts, k.some))) in
      let fresh : given c.width (s.order ++ Started ∷ []) (s.cycle + 1) ≡ 0 =
      subst (λ z. given c.width (s.order ++ Started ∷ []) (z + 1) ≡ 0) k.starts
      (given_none c.width s.order) in
      let none : given_now c.threads (apply c rate black s Start) ≡ 0 =
      total_none c.threads (λ t. given_in (s.cycle + 1) (s.threads t).balance)
      (λ t tl. given_later s.cycle (s.threads t).balance (k.each t tl).entered) in
      let nought : total c.blocks (λ x. 0) ≡ 0 = total_nought c.blocks in
      record {
        starts = starts_append s.order (Started ∷ []) ∙ ap (λ z. z + 1) k.starts;
        some = omega arith;
        each = λ t tl. (let o = k.each t tl in record {
          sound = o.sound;
          asked = o.asked;
          requested = o.requested;
          within = o.within;
          owed = o.owed;
          claimed = o.claimed;
          reserved = o.reserved;
          entered = omega (arith, o.entered);
          present = λ h. absurd (both_ways _ (g.2 t tl) h);
        });
        cursor = k.cursor;
        scans = λ x. omega arith;
        passes = λ x pos. (let z : total c.threads (λ t. claims x (s.threads t)) ≡ 0 =
            total_none c.threads (λ t. claims x (s.threads t))
            (λ t tl. outside_claims x t tl (g.2 t tl)) in omega arith);
        counted = (let z : total c.threads (λ t. units_in (s.cycle + 1) (s.threads t).balance) ≡ 0 =
            total_none c.threads (λ t. units_in (s.cycle + 1) (s.threads t).balance)
            (λ t tl. units_later s.cycle (s.threads t).balance (k.each t tl).entered) in
            omega arith);
        handed = none ∙ sym fresh;
        ended = λ z l. elim (cases_eq z s.cycle) [
          | inl e ↦ (let now : given c.width (s.order ++ Started ∷ []) z
              ≡ given c.width s.order s.cycle = ap (given c.width (s.order ++ Started ∷ [])) e
              ∙ ended in omega (arith, k.handed, all_given_now c rate black some s k))
          | inr ne ↦ (let then : given c.width (s.order ++ Started ∷ []) z
              ≡ given c.width s.order z = given_then c rate black some s k Started z
              (omega arith) in omega (arith, k.ended z (omega arith)))
        ];
        room =
            let b : live_before c (apply c rate black s Start)
            ≡ live_blocks c.width (graph_at c s.order s.cycle) =
            ap (λ z. live_blocks c.width (graph_at c (s.order ++ Started ∷ []) z)) longest
            ∙ same in
            let last : given c.width (s.order ++ Started ∷ []) (s.cycle + 1 - 1)
            ≡ given c.width s.order s.cycle = ap (given c.width (s.order ++ Started ∷ [])) next
            ∙ ended in
            omega (arith, g.3);
        few =
            let p : (s.cycle + 1 - 1) * c.blocks ≡ (s.cycle - 1) * c.blocks + c.blocks =
            ap (λ z. z * c.blocks) next ∙ one_less s.cycle c.blocks k.some in
            omega (arith, k.few);
        many =
            let p : 2 * c.blocks * (s.cycle + 1 - 1) ≡ 2 * c.blocks * s.cycle =
            ap (λ z. 2 * c.blocks * z) next in
            let q : s.cycle * (2 * c.blocks) ≡ (s.cycle - 1) * (2 * c.blocks) + 2 * c.blocks =
            one_less s.cycle (2 * c.blocks) k.some in
            omega (arith, k.many, few_units c rate black some s k);
        works = (let w : work_in (s.order ++ Started ∷ []) ≡ work_in s.order + 0 =
            work_append s.order (Started ∷ []) in omega (arith, k.works));
        cheap = (let w : work_in (s.order ++ Started ∷ []) ≡ work_in s.order + 0 =
            work_append s.order (Started ∷ []) in
            let q : entries_in (s.order ++ Started ∷ []) * most_work c rate
            ≡ entries_in s.order * most_work c rate =
            ap (λ z. z * most_work c rate) (entries_started s.order) in
            cheap_on (work_in (s.order ++ Started ∷ [])) (work_in s.order) _ _ w q k.cheap);
        entries = in_threads_more c.threads s.order Started k.entries tt;
        right = right_work_more c.width rate s.order Started k.right tt;
        licensed = licensed_more c s.order Started k.licensed tt;
      }
