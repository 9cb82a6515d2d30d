-- Events that decide allocations and other commands.
use Rattle.std.proofs.Common.{◌≡◌, ℕ, ◌+◌, ◌-◌, ◌*◌, ◌/◌, ◌≤◌, ◌<◌, refl, arith, ap, sym, ◌∙◌, subst, inl, inr}
use Rattle.std.proofs.lemmas.Bool.{cases_eq}
use Rattle.std.proofs.lemmas.Nat.{le-div}
use Rattle.block_store.specs.declared.Config.{Config}
use Rattle.rate_plan.specs.Rates.{KeepsUp, ceiling}
use Rattle.never_heap.specs.declared.Entry.{Entry}
use Rattle.never_heap.specs.GivenBlocks.{given}
use Rattle.never_heap.specs.Licensed.{IsLicensedReply}
use Rattle.never_heap.specs.Taken.{taken_by}
use Rattle.never_heap.specs.Steps.{blocks_of}
use Rattle.never_heap.proofs.Lemmas.{needs_no_licence, taken_none}
use Rattle.block_store.specs.Counts.{changed, total}
use Rattle.work_account.specs.Accounts.{published, refused, given_in}
use Rattle.block_store.proofs.Lemmas.{changed_both, total_below, total_changed}
use Rattle.work_account.proofs.Balances.{published_sound, refused_sound, given_more_in}
use Rattle.heap_invariant.specs.cycle_tally.Tallies.{Spending, Tally, given_now, reserved_now}
use Rattle.heap_invariant.specs.cycle_tally.Events.{Credit, Reserve, Publish, Refuse, Answer, apply, Guard}
use Rattle.heap_invariant.specs.cycle_tally.TallyInvariant.{most_given, live_before, TallyKept}
use Rattle.heap_invariant.proofs.cycle_tally.OneThreadEvents.{goes, stays, decided}
use Rattle.heap_invariant.proofs.cycle_tally.CycleUnits.{floor_ceiling, taken_full, all_given_now}

module _ (c : Config) (rate : ℕ) (black : ℕ → ℕ) (some : 0 < rate) (s : Tally)
    (k : TallyKept c rate black s) where
  pub credits : (y : ℕ) → TallyKept c rate black (apply c rate black s (Credit y))
  credits y = stays c rate black some s k (apply c rate black s (Credit y)) (record {
    cursor = k.cursor;
    scans = k.scans;
    passes = λ x pos. refl;
    free = omega arith;
  })

  pub reserves : (t : ℕ) → Guard c rate black s (Reserve t)
      → TallyKept c rate black (apply c rate black s (Reserve t))
  reserves t g =
      let w0 : Spending = s.threads t in
      let w : Spending = record w0 { reserved = w0.asked } in
      let o = k.each t g.0 in
      goes c rate black some s k t w (apply c rate black s (Reserve t)) g.0
      (record {
        sound = o.sound;
        entered = o.entered;
        present = o.present;
        asked = o.asked;
        requested = o.requested;
        within = o.within;
        owed = o.owed;
        claimed = o.claimed;
        reserved = λ h. (g.1, refl, g.3.paid);
      })
      (record {
        cursor = k.cursor;
        scans = k.scans;
        passes = λ x pos. refl;
        made = refl;
        given = refl;
        free = omega (arith, g.2, g.4);
        paid = refl;
      })

  pub gives : (t : ℕ) (e : Entry) → Guard c rate black s (Publish t e)
      → TallyKept c rate black (apply c rate black s (Publish t e))
  gives t e g =
      let w0 : Spending = s.threads t in
      let w : Spending = record w0 { reserved = 0; balance = published w0.asked w0.balance } in
      let o = k.each t g.0 in
      let more : given_in s.cycle (published w0.asked w0.balance)
      ≡ given_in s.cycle w0.balance + w0.asked =
      given_more_in s.cycle w0.asked w0.balance (o.present g.1) in
      let none_idled : w0.idled ≡ 0 = o.requested.none g.5.untold in
      decided c rate black some s k t w e g.0 g.3
      (record {
        sound = published_sound rate c.object w0.asked w0.balance g.5.paid o.sound;
        entered = o.entered;
        present = o.present;
        asked = o.asked;
        requested = o.requested;
        within = omega arith;
        owed = omega (arith, none_idled);
        claimed = λ h. absurd (omega (arith, g.2));
        reserved = λ h. absurd (h refl);
      })
      (record {
        claimed = λ x. refl;
        made = refl;
        given = more ∙ ap (λ z. given_in s.cycle w0.balance + z) (sym g.6);
        reserved = omega (arith, g.6, g.4);
        unpaid = omega (arith, none_idled);
        whole = omega (arith, g.5.paid, g.5.untold, none_idled);
        licensed = needs_no_licence c s.order e.reply g.7;
      })

  pub answers : (t : ℕ) (e : Entry) → Guard c rate black s (Answer t e)
      → TallyKept c rate black (apply c rate black s (Answer t e))
  answers t e g =
      let o = k.each t g.0 in
      let w0 : Spending = s.threads t in
      let w : Spending = record w0 { idled = 0 } in
      let cost : rate * (s.threads t).asked ≡ rate * 0 = ap (λ z. rate * z) g.2 in
      let paid : (s.threads t).balance.paid ≡ 0 = omega (arith, o.within) in
      let taken : taken_by c.width e ≡ 0 = taken_none e.reply (blocks_of c.width e.command)
      (g.1.blocks ∙ g.2) in
      decided c rate black some s k t w e g.0 g.1 (record {
        sound = o.sound;
        entered = o.entered;
        present = o.present;
        asked = o.asked;
        requested = record { apart = o.requested.apart; none = λ _. refl; few = o.requested.few };
        within = o.within;
        owed = omega (arith, o.owed);
        claimed = λ h. (let q = o.claimed h in (q.0, q.1, omega (arith, q.2)));
        reserved = o.reserved;
      }) (record {
        claimed = λ x. refl;
        made = refl;
        given = omega arith;
        reserved = omega arith;
        unpaid = omega arith;
        whole = omega (arith, g.4);
        licensed = needs_no_licence c s.order e.reply g.3;
      })

  -- the blocks reserved, and those of a thread that has paid and not reserved, are paid
  pub reserved_paid : (u : ℕ) → u < c.threads
      → (s.threads u).reserved ≤ (s.threads u).balance.paid / rate
  reserved_paid u ul = elim (cases_eq (s.threads u).reserved 0) [
    | inl e ↦ omega arith
    | inr ne ↦
        let o = (k.each u ul).reserved ne in
        let cost : rate * (s.threads u).reserved ≡ rate * (s.threads u).asked =
        ap (λ z. rate * z) o.1 in
        le-div (s.threads u).reserved (s.threads u).balance.paid rate some (omega (arith, o.2))
  ]

  pub all_reserved : (t : ℕ) → t < c.threads → (s.threads t).reserved ≡ 0
      → (s.threads t).balance.paid ≡ rate * (s.threads t).asked
      → given_now c.threads s + reserved_now c.threads s + (s.threads t).asked
      ≤ most_given c rate
  all_reserved t tl none paid =
      let f : ℕ → ℕ = λ u. (s.threads u).reserved in
      let g : ℕ → ℕ = λ u. (s.threads u).balance.paid / rate in
      let q : total c.threads (λ u. changed f t (s.threads t).asked u) + f t
      ≡ total c.threads f + (s.threads t).asked =
      total_changed (λ (z : ℕ). z) c.threads f t (s.threads t).asked tl in
      let own : (s.threads t).asked ≤ (s.threads t).balance.paid / rate =
      le-div (s.threads t).asked (s.threads t).balance.paid rate some (omega arith) in
      let all : total c.threads (λ u. changed f t (s.threads t).asked u) ≤ total c.threads g =
      total_below c.threads (λ u. changed f t (s.threads t).asked u) g
      (λ u ul. changed_both (λ v (z : ℕ). z ≤ g v) f t (s.threads t).asked u
      (λ e. subst (λ v. (s.threads t).asked ≤ g v) e own) (λ _. reserved_paid u ul)) in
      omega (arith, all_given_now c rate black some s k)

  -- more than L blocks were live, or as many are free as a thread asks for
  pub spare : (t : ℕ) → KeepsUp c rate → t < c.threads → (s.threads t).reserved ≡ 0
      → (s.threads t).balance.paid ≡ rate * (s.threads t).asked
      → c.live + (s.threads t).asked ≤ live_before c s + s.free
  spare t plan tl none paid =
      let now : given_now c.threads s + reserved_now c.threads s + (s.threads t).asked
      ≤ most_given c rate = all_reserved t tl none paid in
      let before : given c.width s.order (s.cycle - 1) ≤ most_given c rate =
      k.ended (s.cycle - 1) (omega (arith, k.some)) in
      let ceil : (2 * c.blocks) / rate ≤ ceiling (2 * c.blocks) rate =
      floor_ceiling (2 * c.blocks) rate some in
      omega (arith, k.room, plan)

  pub refuses : (t : ℕ) (e : Entry) → KeepsUp c rate → Guard c rate black s (Refuse t e)
      → TallyKept c rate black (apply c rate black s (Refuse t e))
  refuses t e plan g =
      let w0 : Spending = s.threads t in
      let w : Spending = record w0 { balance = refused w0.balance } in
      let o = k.each t g.0 in
      let none_idled : w0.idled ≡ 0 = o.requested.none g.5.untold in
      let taken : taken_by c.width e ≡ 0 = taken_full e.reply _ (blocks_of c.width e.command) g.7 in
      decided c rate black some s k t w e g.0 g.3
      (record {
        sound = refused_sound rate c.object w0.balance o.sound;
        entered = o.entered;
        present = o.present;
        asked = o.asked;
        requested = o.requested;
        within = omega arith;
        owed = omega (arith, none_idled);
        claimed = λ h. absurd (omega (arith, g.2));
        reserved = λ h. absurd (h g.4);
      })
      (record {
        claimed = λ x. refl;
        made = refl;
        given = omega arith;
        reserved = omega (arith, g.4);
        unpaid = omega (arith, none_idled);
        whole = omega (arith, g.5.paid, g.5.untold, none_idled);
        licensed = subst (λ r. IsLicensedReply c s.order r) (sym g.7)
            (omega (arith, k.starts), omega (arith, spare t plan g.0 g.4 g.5.paid, g.6));
      })
